-- What is lent within its limits, as facts, for any row limit and table of types.
--     Lending         rows, codes and labels that are lent, each within its limits
--     lending         what 8 does not meet
--     row_places      the places of a row are within the table
--     row_within      a row that meets no refusal is within the limits on a row
use Rattle.std.specs.Prelude.{ℕ, ◌+◌, ◌*◌, ◌≤◌, ◌<◌, ◌≡◌, true, length, take, drop}
use Rattle.std.proofs.Common.{sym, ◌∙◌, arith, length-drop, length-take-le}
use Rattle.std.proofs.lemmas.List.{length-map}
use Rattle.geometry.specs.Clauses.{TableWithin}
use Rattle.geometry.specs.TableLaws.{row-end, within_limits}
use Rattle.channel.specs.Channel.{Types, codes_known}
use Rattle.value.specs.Value.{number}
use Rattle.value.specs.ValuesLaws.{in_range_lem}
use Rattle.reference.specs.Printing.{RowWithin}
use Rattle.typed_rows.specs.GivenLaws.{given-within}
use Rattle.reference_write.specs.Labels.{ends_reach}
use Rattle.reference_write.specs.Writing.{Lent, labels_lent, lent_within}
use Rattle.reference_write.specs.LabelsLaws.{labels-count}
use Rattle.reference_write.specs.FaultLaws.{fault_none, lent_row, lent_fault, lent_within_lem}

pub record Lending (limit : ℕ) (types : Types) (lent : Lent) : Type 0 where
  pub within : lent_within limit types lent ≡ true
  pub table : TableWithin limit lent.rows lent.m lent.n
  pub typed : lent.n ≤ length lent.codes
  pub coded : length (take lent.n lent.codes) ≡ lent.n
  pub known : codes_known types (take lent.n lent.codes) ≡ true
  pub counted : length lent.ends ≡ lent.m
  pub labelled : length (labels_lent lent) ≡ lent.m
  pub reaches : ends_reach 0 lent.ends (length lent.labels) ≡ true

pub lending : (limit : ℕ) (types : Types) (lent : Lent) → lent_within limit types lent ≡ true → Lending limit types lent
lending limit types lent h =
    let parts = lent_within_lem limit types lent h in
    let given = given-within limit types lent.rows lent.m lent.n lent.codes parts.0 in
    record {
      within = h;
      table = within_limits limit lent.rows lent.m lent.n given.0;
      typed = given.1;
      coded = length-take-le lent.n lent.codes given.1;
      known = given.2;
      counted = parts.1;
      labelled = labels-count lent.labels 0 lent.ends ∙ parts.1;
      reaches = parts.2;
    }

module _ {limit : ℕ} {types : Types} {lent : Lent} (l : Lending limit types lent) (i : ℕ) (below : i < lent.m) where
  pub row_places : i * lent.n + lent.n ≤ length lent.rows
  row_places = omega (arith, row-end i lent.m lent.n below, l.table.places)

  pub row_within : lent_fault types lent i ≡ 0 → RowWithin types (take lent.n lent.codes) (lent_row lent i)
  row_within none =
      let codes = take lent.n lent.codes in
      let passed = fault_none types codes (take i (labels_lent lent)) (lent_row lent i) none in
      let numbers = drop (i * lent.n) lent.rows in
      let complete = length-map (take lent.n numbers) number
      ∙ length-take-le lent.n numbers (omega (arith, length-drop (i * lent.n) lent.rows, row_places))
      ∙ sym l.coded in
      record { labelled = passed.0; complete = complete; each_in_range = in_range_lem types codes (lent_row lent i).values complete passed.1 }
