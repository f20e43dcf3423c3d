-- Unsigned numbers in an array of signed ones, as they are handed on to be printed.
--     Below limit ns                 each of the numbers is below the limit
--     below_none, below_more         none is not, nor is one more that is below
--     below_signed                   so is each as a signed number
--     held-signed, held_below        below 2 ^ 63 the array holds the numbers, and each is below that
use Rattle.std.specs.Prelude.{ℕ, zero, suc, ◌^◌, ◌<◌, ◌≡◌, refl, List, [], ◌∷◌, map, ℤ, pos, nat_abs, length, get_or}
use Rattle.std.proofs.Common.{sym, ap₂, subst, le_of_suc-le-suc, not-suc-le-zero, arith, to_z}
use Rattle.std.specs.Int.{w64}
use Rattle.integers.specs.Absolute.{back64}

-- the default of get_or is never met
abbrev pub Below : ℕ → List ℕ → Type 0
Below limit ns = (k : ℕ) → k < length ns → get_or ns k 0 < limit

-- the same of signed numbers
abbrev Within : ℕ → List ℤ → Type 0
Within limit zs = (k : ℕ) → k < length zs → nat_abs (get_or zs k (pos 0)) < limit

module _ (limit : ℕ) where
  pub below_none : Below limit []
  below_none k h = absurd (not-suc-le-zero h)

  pub below_more : (n : ℕ) (ns : List ℕ) → n < limit → Below limit ns → Below limit (n ∷ ns)
  below_more n ns h below zero l = h
  below_more n ns h below (suc k) l = below k (le_of_suc-le-suc l)

  pub below_signed : (ns : List ℕ) → Below limit ns → Within limit (map pos ns)
  below_signed [] below k h = absurd (not-suc-le-zero h)
  below_signed (n ∷ ns) below zero h = below 0 (omega arith)
  below_signed (n ∷ ns) below (suc k) h = below_signed ns (λ j l. below (suc j) (omega arith)) k (le_of_suc-le-suc h)

pub held-signed : (ns : List ℕ) → Below (2 ^ 63) ns → map (to_z w64) ns ≡ map pos ns
held-signed [] below = refl
held-signed (n ∷ ns) below = ap₂ ◌∷◌ (back64 (pos n) (below 0 (omega arith))) (held-signed ns (λ j l. below (suc j) (omega arith)))

pub held_below : (ns : List ℕ) → Below (2 ^ 63) ns → Within (2 ^ 63) (map (to_z w64) ns)
held_below ns below = subst (Within (2 ^ 63)) (sym (held-signed ns below)) (below_signed (2 ^ 63) ns below)
