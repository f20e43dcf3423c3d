-- What a line with its byte 10 is, from what the code reads.
--     line_content r c                                  what the text is, by what the line is; c where it is within
--     content_of reading                                a reading of the values of one in form
--     content-line                                     what a line with its byte 10 is, by what the line is told to be
--     PointRead, point-read                            the reading that a line within is, with its values in the lent places, as a row
--     line_last, line_none                             a text whose last byte is 10, and one whose last byte is another
use Prim.Native.Nat.{ℕ, suc, ◌+◌, ◌*◌, ◌≤◌, ◌<◌}
use mathlib.Core.Path.{◌≡◌, refl, sym, ap, ap₂, ◌∙◌}
use mathlib.Core.Bool.{Bool, true, false, cond}
use mathlib.Core.List.{List, [], ◌∷◌, ◌++◌, map}
use mathlib.Core.Option.{Option, none, some}
use native.Mathlib.Omega.{arith}
use lib.IntN.{ℤ, pos, nat_abs}
use lib.ListN.{length, get_or, take, drop, length-append, length-map, length-drop, get_or-append, get_or-map}
use lib.Seq.{take_all, take-suc, take-append_seam, get_or_at}
use Rattle.integers.specs.Tests.{clash, impossible}
use Rattle.refusal.specs.Number.{line_form, value_range, tag_differs}
use Rattle.geometry.specs.Table.{coordinate}
use Rattle.limits.specs.Limits.{channel_limit}
use Rattle.geometry.specs.Figures.{scaled_squared_distance}
use Rattle.geometry.proofs.FigureLaws.{distance_cong}
use Rattle.geometry.specs.Clauses.{RowAt}
use Rattle.text.specs.Parts.{line_end, text_within, free, cut}
use Rattle.channel.specs.Channel.{Types}
use Rattle.channel.specs.ChannelLaws.{SoundTypes}
use Rattle.value.specs.Value.{Written, number, reads}
use Rattle.value.specs.ValueLaws.{reads_most}
use Rattle.value.specs.Values.{values_in_range}
use Rattle.value.specs.ValuesLaws.{in_range_lem}
use Rattle.envelope.specs.Figures.{channel_codes, figures_known}
use Rattle.envelope.specs.declared.Figures.{Figures}
use Rattle.reading_line.specs.Reading.{Reading, one_line, reading_line, reading_of, tags_agree}
use Rattle.reading_line.specs.ReadingLaws.{line-text, text-line}
use Rattle.reading.specs.Content.{Content, faulty, sound, reading_content, point_of}
use Rattle.reading.specs.ContentLaws.{faulty_form, faulty_tag, faulty_range, sound_content}
use Rattle.reading_line.specs.Clauses.{Line, Malformed, TagDiffers, OutOfRange, Within, line_read, line_alone, LineRead}

-- ---- by what the line is

abbrev pub line_content : Line → Content → Content
line_content Malformed c = faulty line_form 1
line_content TagDiffers c = faulty tag_differs 1
line_content OutOfRange c = faulty value_range 1
line_content Within c = c

abbrev pub content_of : Option Reading → Content
content_of none = faulty line_form 1
content_of (some reading) = sound reading.values

by_line : (D : ℕ) (types : Types) (f : Figures) (text : List ℕ) → figures_known D types f ≡ true → text_within text ≡ true
    → (o : Option Reading) → reading_of f.n text ≡ o
    → line_content (line_read types (channel_codes f) o) (content_of o) ≡ reading_content D types f text
by_line D types f text within bytes none is = sym (faulty_form D types f text within bytes is)
by_line D types f text within bytes (some reading) is =
    go (tags_agree types (channel_codes f) reading.tags) (values_in_range types (channel_codes f) reading.values) refl refl
  where
    go : (agree fit : Bool) → tags_agree types (channel_codes f) reading.tags ≡ agree → values_in_range types (channel_codes f) reading.values ≡ fit
        → line_content (cond agree (cond fit Within OutOfRange) TagDiffers) (sound reading.values) ≡ reading_content D types f text
    go true true a v = sym (sound_content D types f text within bytes is a v)
    go true false a v = sym (faulty_range D types f text within bytes is a v)
    go false fit a v = sym (faulty_tag D types f text within bytes is a)

-- a line and the byte 10 that ends it
line_ending : (line : List ℕ) → one_line (cut line_end (line ++ (line_end ∷ []))) ≡ line_alone line
line_ending line = go (free line_end line) refl
  where
    text : List ℕ
    text = line ++ (line_end ∷ [])

    other : free line_end line ≡ false → (o : Option (List ℕ)) → one_line (cut line_end text) ≡ o → o ≡ none
    other h none e = refl
    other h (some first) e =
        let whole = line-text text first e in
        let as_long : length first ≡ length line =
        omega (arith, sym (length-append first (line_end ∷ [])) ∙ ap length whole.0 ∙ length-append line (line_end ∷ [])) in
        let same_line : first ≡ line =
        sym (take-append_seam first (line_end ∷ [])) ∙ ap₂ (λ k (l : List ℕ). take k l) as_long whole.0 ∙ take-append_seam line (line_end ∷ []) in
        clash whole.1 (ap (free line_end) same_line ∙ h)

    go : (t : Bool) → free line_end line ≡ t → one_line (cut line_end text) ≡ cond t (some line) none
    go true h = text-line line h
    go false h = other h (one_line (cut line_end text)) refl

pub content-line : (D : ℕ) (types : Types) (f : Figures) {line : List ℕ} {lent₀ lent : List ℤ} {r : Line}
    → figures_known D types f ≡ true → text_within (line ++ (line_end ∷ [])) ≡ true
    → LineRead types (channel_codes f) line lent₀ lent r → length (channel_codes f) ≡ f.n → (told : Line) → r ≡ told
    → reading_content D types f (line ++ (line_end ∷ [])) ≡ line_content told (content_of (reading_line f.n (line_alone line)))
unfolding reading_of
content-line D types f {line} within bytes read count told is =
    let reading = reading_line f.n (line_alone line) in
    sym (ap (λ r. line_content r (content_of reading))
    (sym is ∙ read.is ∙ ap (λ n. line_read types (channel_codes f) (reading_line n (line_alone line))) count)
    ∙ by_line D types f (line ++ (line_end ∷ [])) within bytes reading (ap (reading_line f.n) (line_ending line)))

-- ---- a line within

-- the reading that the text is, and its values in the first places, as a row
pub record PointRead (text : List ℕ) (lent₀ lent : List ℤ) (n : ℕ) : Type 0 where
  pub reading : Reading
  pub is : reading_line n (line_alone text) ≡ some reading
  pub row : RowAt lent n 0
  pub written : lent ≡ map reads reading.values ++ drop n lent₀
  pub distance : (D : ℕ) (X : ℕ → ℤ) → scaled_squared_distance D n X (coordinate lent n 0) ≡ scaled_squared_distance D n X (point_of reading.values)

-- a line within has a reading, whose values are within their ranges
line-within : (types : Types) (codes : List ℕ) (o : Option Reading) → Within ≡ line_read types codes o
    → (reading : Reading) × (o ≡ some reading) × (values_in_range types codes reading.values ≡ true)
line-within types codes none e = impossible (cc)
line-within types codes (some reading) e =
    (reading, refl, go (tags_agree types codes reading.tags) (values_in_range types codes reading.values) e)
  where
    go : (agree within : Bool) → Within ≡ cond agree (cond within Within OutOfRange) TagDiffers → within ≡ true
    go agree true h = refl
    go true false h = impossible (cc)
    go false false h = impossible (cc)

module _ {types : Types} {codes text : List ℕ} {lent₀ lent : List ℤ} (read : LineRead types codes text lent₀ lent Within)
    (sound : SoundTypes types) (n : ℕ) (count : length codes ≡ n) (few : n ≤ length lent₀) (most : n ≤ channel_limit) where
  pub point-read : PointRead text lent₀ lent n
  unfolding coordinate scaled_squared_distance
  point-read =
      record {
        reading = reading;
        is = ap (λ k. reading_line k (line_alone text)) (sym count) ∙ within.1;
        row =
            record {
              channels = most;
              places = omega (arith, read.same_length);
              bound = λ k l.
                  omega (
                    arith,
                    ap nat_abs (point_at k l ∙ get_or-map reads values k (number (pos 0))),
                    reads_most types sound (get_or codes k 0) (get_or values k (number (pos 0)))
                        (in_range_lem types codes values values_count within.2 k (omega arith)),
                  );
            };
        written = written ∙ ap (λ k. map reads values ++ drop k lent₀) count;
        distance = λ D X. distance_cong D n {X = X} {Y = X} (λ k l. refl) point_at;
      }
    where
      within : (reading : Reading) × (reading_line (length codes) (line_alone text) ≡ some reading)
          × (values_in_range types codes reading.values ≡ true)
      within = line-within types codes (reading_line (length codes) (line_alone text)) read.is

      reading : Reading
      reading = within.0

      values : List Written
      values = reading.values

      rest : List ℤ
      rest = drop (length codes) lent₀

      written : lent ≡ map reads values ++ rest
      written = read.written reading within.1 refl

      values_count : length values ≡ length codes
      values_count =
          omega (
            arith,
            ap length written ∙ length-append (map reads values) rest,
            length-map values reads,
            length-drop (length codes) lent₀,
            read.same_length,
          )

      point_at : (k : ℕ) → k < n → get_or lent (0 * n + k) (pos 0) ≡ point_of values k
      point_at k l =
          let first-row : 0 * n + k ≡ k = omega arith in
          ap₂ (λ l j. get_or l j (pos 0)) written first-row
          ∙ get_or-append (map reads values) rest (pos 0) k (omega (arith, values_count, length-map values reads))

-- ---- the text

module _ (text : List ℕ) (end : ℕ) (last : length text ≡ end + 1) where
  pub line_last : get_or text end 0 ≡ line_end → take end text ++ (line_end ∷ []) ≡ text
  line_last h =
      ap (λ b. take end text ++ (b ∷ [])) (sym h) ∙ sym (take-suc text end 0 (omega arith)) ∙ take_all (suc end) text (omega arith)

  pub line_none : (n : ℕ) → (get_or text end 0 ≡ line_end → ⊥) → reading_of n text ≡ none
  unfolding reading_of
  line_none n h = go (one_line (cut line_end text)) refl
    where
      go : (o : Option (List ℕ)) → one_line (cut line_end text) ≡ o → reading_line n (one_line (cut line_end text)) ≡ none
      go none e = ap (reading_line n) e
      go (some line) e =
          let whole = (line-text text line e).0 in
          let as_long : length line ≡ end = omega (arith, sym (length-append line (line_end ∷ [])) ∙ ap length whole) in
          absurd (h (ap (λ l. get_or l end 0) (sym whole) ∙ get_or_at line line_end [] 0 end as_long))
