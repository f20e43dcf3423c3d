-- The table of an accepted reference text as the rows of a ball, for any row limit and table of types.
--     accepted-table     it is within the limits of a drawing, whatever follows it
--     own-table          and where nothing does
--     accepted-row       each coordinate is what the value of its row and channel reads as, whatever follows the table
use Rattle.std.specs.Prelude.{ℕ, ◌+◌, ◌*◌, ◌<◌, ◌≡◌, true, List, [], ◌++◌, ℤ, pos, get_or}
use Rattle.std.proofs.Common.{sym, ap, ◌∙◌, append-nil, arith}
use borrow.Author.Tests.{le-leb}
use Rattle.std.proofs.Math.ListN.{length, length-append, get_or-append}
use Rattle.limits.specs.Limits.{channel_limit, coordinate_limit}
use Rattle.geometry.specs.Table.{coordinate, rows_within}
use Rattle.geometry.specs.TableLaws.{places_within_by, row-end}
use Rattle.channel.specs.Channel.{Types}
use Rattle.channel.specs.ChannelLaws.{SoundTypes}
use Rattle.value.specs.Value.{number, reads}
use Rattle.reference_rows.specs.ReferenceText.{ReferenceText, channel_count, row_count, row_at, table_of}
use Rattle.reference_rows.specs.Rows.{sound}
use Rattle.reference.specs.Reference.{content}
use Rattle.reference.specs.ReferenceLaws.{accepted-rows}
use Rattle.reference.specs.TableLaws.{table_length, table_small, table_at}

module _ (limit : ℕ) (types : Types) (text : List ℕ) (found : ReferenceText) (e : content limit types text ≡ sound found) where
  pub accepted-table : SoundTypes types → (more : List ℤ) → rows_within limit (table_of found ++ more) (row_count found) (channel_count found) ≡ true
  unfolding rows_within
  accepted-table types_sound more =
      let counts = accepted-rows limit types text found e in
      let many = table_length limit types text found e in
      let places = row_count found * channel_count found in
      rw (
        le-leb 1 (channel_count found) counts.2,
        le-leb (channel_count found) channel_limit counts.3,
        le-leb 1 (row_count found) counts.0,
        le-leb (row_count found) limit counts.1,
        le-leb places (length (table_of found ++ more)) (omega (arith, length-append (table_of found) more, many)),
      )
      (places_within_by coordinate_limit (table_of found ++ more) places
      (λ j l.
      let inside : j < length (table_of found) = omega (arith, many) in
      rw (get_or-append (table_of found) more (pos 0) j inside) (table_small limit types text found e types_sound j inside)))

  pub own-table : SoundTypes types → rows_within limit (table_of found) (row_count found) (channel_count found) ≡ true
  own-table types_sound =
      ap (λ (table : List ℤ). rows_within limit table (row_count found) (channel_count found)) (sym (append-nil (table_of found)))
      ∙ accepted-table types_sound []

  pub accepted-row : (more : List ℤ) (i k : ℕ) → i < row_count found → k < channel_count found
      → coordinate (table_of found ++ more) (channel_count found) i k ≡ reads (get_or (row_at found i).values k (number (pos 0)))
  unfolding coordinate
  accepted-row more i k l m =
      let n = channel_count found in
      let inside : i * n + k < length (table_of found) =
      omega (arith, table_length limit types text found e, row-end i (row_count found) n l) in
      get_or-append (table_of found) more (pos 0) (i * n + k) inside ∙ table_at limit types text found e i k l m
