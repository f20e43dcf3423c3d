-- s of a text as a reading, or its refusal: what the calls on a reading answer by.
--     Distance, distance_outcome a           what it is answered by, in numbers
--     refused_distance number line           the refusal with this number at this line
--     distance_as D f content                s of what a text is, or its refusal
--     DistanceRead                          s of a text as a reading, or its refusal, the values of a reading in the lent places besides
--     distance_faulty, distance_sound       so it is of a refused text, and of a reading
--     distance_is, distance-refused         what a text is, by its s or its refusal
use Rattle.std.specs.Prelude.{ℕ, ◌≡◌, refl, List, ◌++◌, map, ℤ, length, drop, Result, Ok, Err}
use Rattle.std.proofs.Common.{sym, ap, ◌∙◌}
use Rattle.integers.specs.Tests.{impossible}
use Rattle.channel.specs.Channel.{Types}
use Rattle.value.specs.Value.{Written, reads}
use Rattle.envelope.specs.declared.Figures.{Figures}
use Rattle.reading.specs.Content.{Content, faulty, sound, reading_content, distance_of}
use Rattle.reading.specs.ContentLaws.{never_sound, same_values}
use Rattle.refusal.specs.Outcome.{RefusalNumbers, refusal_numbers}
use Rattle.refusal.specs.declared.Refusal.{Refusal}

-- s of a text as a reading, or its refusal, in numbers
pub data Distance : Type 0 where
  Is : ℕ → Distance
  Refused : RefusalNumbers → Distance

abbrev pub distance_outcome : Result ℕ Refusal → Distance
distance_outcome (Ok s) = Is s
distance_outcome (Err r) = Refused (refusal_numbers r)

abbrev pub refused_distance : ℕ → ℕ → Distance
refused_distance number line = Refused (record { number = number; line = line })

abbrev pub distance_as : ℕ → Figures → Content → Distance
distance_as D f (faulty number line) = refused_distance number line
distance_as D f (sound values) = Is (distance_of D f values)

-- the values of a reading stand in the first n of the lent places, and the others are as they were
pub record DistanceRead (D : ℕ) (types : Types) (f : Figures) (text : List ℕ) (lent₀ lent : List ℤ) (r : Distance) : Type 0 where
  pub is : r ≡ distance_as D f (reading_content D types f text)
  pub same_length : length lent ≡ length lent₀
  pub written : (values : List Written) → reading_content D types f text ≡ sound values
      → lent ≡ map reads values ++ drop f.n lent₀

module _ {D : ℕ} {types : Types} {f : Figures} {text : List ℕ} {lent₀ lent : List ℤ} {r : Distance} (same_length : length lent ≡ length lent₀) where
  pub distance_faulty : {number line : ℕ} → reading_content D types f text ≡ faulty number line → r ≡ refused_distance number line
      → DistanceRead D types f text lent₀ lent r
  distance_faulty is e =
      record { is = e ∙ ap (distance_as D f) (sym is); same_length = same_length; written = λ values h. never_sound (sym is ∙ h) }

  pub distance_sound : {values : List Written} → reading_content D types f text ≡ sound values → r ≡ Is (distance_of D f values)
      → lent ≡ map reads values ++ drop f.n lent₀ → DistanceRead D types f text lent₀ lent r
  distance_sound is e written =
      record {
        is = e ∙ ap (distance_as D f) (sym is);
        same_length = same_length;
        written = λ others h. written ∙ ap (λ vs. map reads vs ++ drop f.n lent₀) (same_values (sym is ∙ h));
      }

-- what the text is, by its s or its refusal
module _ (D : ℕ) (f : Figures) where
  pub distance_is : (c : Content) {s : ℕ} → distance_as D f c ≡ Is s → (values : List Written) × (c ≡ sound values) × (s ≡ distance_of D f values)
  distance_is (faulty k l) e = impossible (cc)
  distance_is (sound values) e = (values, refl, cc)

  pub distance-refused : (c : Content) {r : RefusalNumbers} → distance_as D f c ≡ Refused r → c ≡ faulty r.number r.line
  distance-refused (faulty k l) e = cc
  distance-refused (sound values) e = impossible (cc)
