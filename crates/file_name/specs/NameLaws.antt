-- Laws of escaped names.
--     byte_shown, byte_hidden     a byte that stands for itself, and one that does not
--     escaped_none, escaped-more   no byte, and one more
--     start_taken                 the bytes that are told, by how many they are
--     name_whole, name_cut        a name that is told whole, and one that has more bytes
use Rattle.std.specs.Prelude.{ℕ, ◌/◌, ◌%◌, ◌≤◌, ◌<◌, ◌≡◌, refl, Bool, true, false, cond, List, [], ◌∷◌, ◌++◌, length, take}
use Rattle.std.proofs.Common.{sym, ap, ap₂, ◌∙◌, append-nil, append_assoc, le-leb, arith, length-take, take-take}
use Rattle.std.proofs.lemmas.Bool.{lt-leb}
use Rattle.std.proofs.Math.Seq.{take-length}
use Rattle.io.specs.Digits.{hex_digit_ascii}
use Rattle.text.specs.Ascii.{ascii}
use Rattle.file_name.specs.Name.{name_limit, is_shown, escaped_byte, escaped, quoted_start, escaped_name}

module _ (b : ℕ) where
  by_test : (t : Bool) → is_shown b ≡ t → cond t (b ∷ []) (ascii "\\x" ++ (hex_digit_ascii (b / 16) ∷ hex_digit_ascii (b % 16) ∷ [])) ≡ escaped_byte b
  by_test t e = sym (ap (λ (s : Bool). cond s (b ∷ []) (ascii "\\x" ++ (hex_digit_ascii (b / 16) ∷ hex_digit_ascii (b % 16) ∷ []))) e)

  pub byte_shown : is_shown b ≡ true → b ∷ [] ≡ escaped_byte b
  byte_shown e = by_test true e

  pub byte_hidden : {high low : ℕ} → high ≡ hex_digit_ascii (b / 16) → low ≡ hex_digit_ascii (b % 16) → is_shown b ≡ false
      → ascii "\\x" ++ (high ∷ low ∷ []) ≡ escaped_byte b
  byte_hidden h l e = ap₂ (λ (x y : ℕ). ascii "\\x" ++ (x ∷ y ∷ [])) h l ∙ by_test false e

pub escaped-more : (l : List ℕ) (b : ℕ) → escaped (l ++ (b ∷ [])) ≡ escaped l ++ escaped_byte b
unfolding escaped
escaped-more [] b = append-nil (escaped_byte b)
escaped-more (a ∷ l) b =
    ap (λ (m : List ℕ). escaped_byte a ++ m) (escaped-more l b) ∙ sym (append_assoc (escaped_byte a) (escaped l) (escaped_byte b))

pub escaped_none : escaped [] ≡ []
unfolding escaped
escaped_none = refl

module _ (name : List ℕ) where
  pub start_taken : (i : ℕ) → i ≡ length (take name_limit name) → take i name ≡ take name_limit name
  start_taken i e =
      let within : i ≤ name_limit = omega (arith, length-take name_limit name) in
      sym (take-take i name_limit name within) ∙ ap (λ (j : ℕ). take j (take name_limit name)) e ∙ take-length (take name_limit name)

  pub name_whole : length name ≤ name_limit → quoted_start name ≡ escaped_name name
  name_whole h =
      sym (ap (λ (s : Bool). quoted_start name ++ cond s [] (ascii "...")) (le-leb (length name) name_limit h) ∙ append-nil (quoted_start name))

  pub name_cut : name_limit < length name → quoted_start name ++ ascii "..." ≡ escaped_name name
  name_cut h = sym (ap (λ (s : Bool). quoted_start name ++ cond s [] (ascii "...")) (lt-leb (length name) name_limit h))
