-- A field that is read where it stands in a line, from its first byte on.
--     starts_with b l        the first byte of l is b
--     leading test l        the bytes that l starts with, up to the first that does not pass the test
use Rattle.std.specs.Prelude.{ℕ, Bool, false, cond, List, [], ◌∷◌, eqb}

abbrev pub starts_with : ℕ → List ℕ → Bool
starts_with b [] = false
starts_with b (x ∷ l) = eqb x b

unfoldable pub leading : (ℕ → Bool) → List ℕ → List ℕ
leading test [] = []
leading test (b ∷ l) = cond (test b) (b ∷ leading test l) []
