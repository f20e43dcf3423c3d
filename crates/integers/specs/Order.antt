-- The order of ℤ, under a sign that can stand beside `+ℤ`: `a ⊑ b` is the kit's `a ≤ℤ b`, at the fixity of `≡`.
-- A strict order a < b is said `a +ℤ pos 1 ⊑ b`.
-- Linear claims:
--     deduce n f a₁ … aₙ (omega arith) h₁ …    the last claim of f from the others, by `omega`; f is a λ over n expressions (as of `ring`), its
--                       body `claim ⇒ claim ⇒ ⊢ claim`, a claim `left ≼ right` or `left ≍ right` (at most, equal); h₁ … prove the claims before `⊢`
--     linear n f        one claim, as the ↔ of the claim of ℤ and one of ℕ that `omega` reads beside other facts
--     up, down, split   the two naturals with z ≡ up z - down z, in which those claims are said
--     ⊑-ℕ, <ℤ-ℕ, ≡-ℕ    that ↔ for two integers
-- A product in a linear claim is an argument of its own: `deduce 2 (λ p y. ..) (a *ℤ b) c`.
-- Claims of any degree:
--     certify           a ⊑ b from b - a ≡ p, by `ring`, and 0 ⊑ p, by the nn- laws
--     nn_add, nn_mul    a sum and a product of numbers that are 0 or more
--     nn_sq             a square
--     nn_pos            such a number is a natural
--     sub_nn            a ⊑ b exactly when 0 ⊑ b - a
--     ⊑-mul, ⊑-cancel   a factor of 0 or more put in, a positive one taken away
-- Laws of the order:
--     ⊑_refl, ⊑-eq, ⊑_trans, ⊑-antisym
--     ⊑-total           a ⊑ b, or b < a
--     ⊑-add             side by side
--     le_by, le_witness a ⊑ b is b ≡ a + k for a natural k
--     pos_le, pos_le_inv    the order of ℕ
-- The tests of the code:
--     le_z_true, le_z_false, lt_z_true, lt_z_false    what a test that came out so says
--     le_le_z, lt_le_z, lt_lt_z, le_lt_z              how a test comes out
--     <ℤ-⊑              the kit's strict order
-- A worked call stands at the end.
use Rattle.std.specs.Prelude.{◌≡◌, refl, ◌↔◌, ◌⊎◌, ℕ, suc, ◌+◌, ◌*◌, ◌-◌, ◌≤◌, ◌<◌, Bool, true, false, not, T, ℤ, pos, negsuc, neg_ℤ, ◌+ℤ◌, ◌-ℤ◌, ◌*ℤ◌, ◌≤ℤ◌, ◌<ℤ◌}
use Rattle.std.proofs.Common.{sym, ◌∙◌, ap, ap₂, subst, inl, inr, zero-le, mul-add, arith, leb→le, le→leb, ltb→lt, lt→ltb}
use Rattle.std.proofs.Math.Nat.{le_of_mul-le-mul_left}
use Rattle.std.proofs.Math.Decide.{dec_le}
use Rattle.std.proofs.Math.IntN.{+ℤ_idl, +ℤ_idr}
use Rattle.std.specs.Int.Signed.{≤ℤ_refl, le_z, lt_z, lt_z_no}
use Rattle.integers.specs.Ring.{pos_inj}
use Rattle.integers.specs.Solver.{Expr, var, #◌, ◌⊕◌, ◌⊖◌, ◌⊗◌, ⊝◌, ◌≈◌, Over, Each, each, at_vars, blank, value, ring}

infix 4 ◌⊑◌ ◌≼◌ ◌≍◌
infix 3 ⊢◌
infixr 2 ◌⇒◌
abbrev pub ◌⊑◌ : ℤ → ℤ → Type 0
a ⊑ b = a ≤ℤ b

-- ---- two naturals for an integer

abbrev pub up : ℤ → ℕ
up (pos n) = n
up (negsuc n) = 0

abbrev pub down : ℤ → ℕ
down (pos n) = 0
down (negsuc n) = suc n

pub split : (z : ℤ) → z ≡ pos (up z) -ℤ pos (down z)
split (pos n) = sym (+ℤ_idr (pos n))
split (negsuc n) = sym (+ℤ_idl (negsuc n))

pub ⊑-ℕ : (a b : ℤ) → (a ⊑ b) ↔ (up a + down b ≤ up b + down a)
⊑-ℕ (pos m) (pos n) = (λ h. let k : m ≤ n = leb→le m n h.le in omega arith, λ h. let k : m ≤ n = omega arith in record { le = le→leb m n k })
⊑-ℕ (pos m) (negsuc n) = (λ h. absurd h.le, λ h. let k : m + suc n ≤ 0 + 0 = h in absurd (omega arith))
⊑-ℕ (negsuc m) (pos n) = (λ h. omega arith, λ h. record { le = tt })
⊑-ℕ (negsuc m) (negsuc n) = (λ h. let k : n ≤ m = leb→le n m h.le in omega arith, λ h. let k : n ≤ m = omega arith in record { le = le→leb n m k })

pub <ℤ-ℕ : (a b : ℤ) → (a <ℤ b) ↔ (up a + down b < up b + down a)
<ℤ-ℕ (pos m) (pos n) = (λ h. let k : m < n = ltb→lt m n h.lt in omega arith, λ h. let k : m < n = omega arith in record { lt = lt→ltb m n k })
<ℤ-ℕ (pos m) (negsuc n) = (λ h. absurd h.lt, λ h. let k : m + suc n < 0 + 0 = h in absurd (omega arith))
<ℤ-ℕ (negsuc m) (pos n) = (λ h. omega arith, λ h. record { lt = tt })
<ℤ-ℕ (negsuc m) (negsuc n) = (λ h. let k : n < m = ltb→lt n m h.lt in omega arith, λ h. let k : n < m = omega arith in record { lt = lt→ltb n m k })

≡-of-ℕ : (a b : ℤ) → up a + down b ≡ up b + down a → a ≡ b
≡-of-ℕ (pos m) (pos n) e = let k : m ≡ n = omega arith in ap pos k
≡-of-ℕ (pos m) (negsuc n) e = absurd (omega arith)
≡-of-ℕ (negsuc m) (pos n) e = absurd (omega arith)
≡-of-ℕ (negsuc m) (negsuc n) e = let k : m ≡ n = omega arith in ap negsuc k

pub ≡-ℕ : (a b : ℤ) → (a ≡ b) ↔ (up a + down b ≡ up b + down a)
≡-ℕ a b = (λ e. ap₂ (λ x y. up x + down y) e (sym e), ≡-of-ℕ a b)

-- ---- linear claims

pub data Claim : Type 0 where
  ◌≼◌ : Expr → Expr → Claim
  ◌≍◌ : Expr → Expr → Claim

pub data Rule : Type 0 where
  ⊢◌ : Claim → Rule
  ◌⇒◌ : Claim → Rule → Rule

abbrev mutual
  pub ups : Expr → (ℕ → ℤ) → ℕ
  ups (var i) ρ = up (ρ i)
  ups (# c) ρ = up c
  ups (a ⊕ b) ρ = ups a ρ + ups b ρ
  ups (a ⊖ b) ρ = ups a ρ + downs b ρ
  ups (a ⊗ b) ρ = ups a ρ * ups b ρ + downs a ρ * downs b ρ
  ups (⊝ a) ρ = downs a ρ

  pub downs : Expr → (ℕ → ℤ) → ℕ
  downs (var i) ρ = down (ρ i)
  downs (# c) ρ = down c
  downs (a ⊕ b) ρ = downs a ρ + downs b ρ
  downs (a ⊖ b) ρ = downs a ρ + ups b ρ
  downs (a ⊗ b) ρ = ups a ρ * downs b ρ + downs a ρ * ups b ρ
  downs (⊝ a) ρ = ups a ρ

at_parts : {M : ℤ → ℤ → ℤ → ℤ → Type 0} (a b : Expr) (ρ : ℕ → ℤ) → ((p n q m : ℤ) → M p n q m) → M (pos (ups a ρ)) (pos (downs a ρ)) (pos (ups b ρ)) (pos (downs b ρ))
at_parts a b ρ h = h (pos (ups a ρ)) (pos (downs a ρ)) (pos (ups b ρ)) (pos (downs b ρ))

value_split : (e : Expr) (ρ : ℕ → ℤ) → value e ρ ≡ pos (ups e ρ) -ℤ pos (downs e ρ)
value_split (var i) ρ = split (ρ i)
value_split (# c) ρ = split c
value_split (a ⊕ b) ρ = ap₂ ◌+ℤ◌ (value_split a ρ) (value_split b ρ) ∙ at_parts a b ρ (ring 4 (λ p n q m. (p ⊖ n) ⊕ (q ⊖ m) ≈ (p ⊕ q) ⊖ (n ⊕ m)) tt)
value_split (a ⊖ b) ρ = ap₂ ◌-ℤ◌ (value_split a ρ) (value_split b ρ) ∙ at_parts a b ρ (ring 4 (λ p n q m. (p ⊖ n) ⊖ (q ⊖ m) ≈ (p ⊕ m) ⊖ (n ⊕ q)) tt)
value_split (a ⊗ b) ρ = ap₂ ◌*ℤ◌ (value_split a ρ) (value_split b ρ) ∙ at_parts a b ρ (ring 4 (λ p n q m. (p ⊖ n) ⊗ (q ⊖ m) ≈ (p ⊗ q ⊕ n ⊗ m) ⊖ (p ⊗ m ⊕ n ⊗ q)) tt)
value_split (⊝ a) ρ = ap neg_ℤ (value_split a ρ) ∙ ring 2 (λ p n. ⊝ (p ⊖ n) ≈ n ⊖ p) tt (pos (ups a ρ)) (pos (downs a ρ))

-- what two ways to split an integer have in common
cross : (u d p n : ℤ) → u -ℤ d ≡ p -ℤ n → u +ℤ n ≡ p +ℤ d
cross u d p n e =
    ring 3 (λ u d n. u ⊕ n ≈ (u ⊖ d) ⊕ (n ⊕ d)) tt u d n ∙ ap (λ x. x +ℤ (n +ℤ d)) e ∙ ring 3 (λ d p n. (p ⊖ n) ⊕ (n ⊕ d) ≈ p ⊕ d) tt d p n

balance : (e : Expr) (ρ : ℕ → ℤ) → up (value e ρ) + downs e ρ ≡ ups e ρ + down (value e ρ)
balance e ρ = pos_inj (cross (pos (up (value e ρ))) (pos (down (value e ρ))) (pos (ups e ρ)) (pos (downs e ρ)) (sym (split (value e ρ)) ∙ value_split e ρ))

abbrev pub Inℤ : Claim → (ℕ → ℤ) → Type 0
Inℤ (l ≼ r) ρ = value l ρ ⊑ value r ρ
Inℤ (l ≍ r) ρ = value l ρ ≡ value r ρ

abbrev pub Inℕ : Claim → (ℕ → ℤ) → Type 0
Inℕ (l ≼ r) ρ = ups l ρ + downs r ρ ≤ ups r ρ + downs l ρ
Inℕ (l ≍ r) ρ = ups l ρ + downs r ρ ≡ ups r ρ + downs l ρ

abbrev pub Reads : Claim → (ℕ → ℤ) → Type 0
Reads c ρ = Inℤ c ρ ↔ Inℕ c ρ

reads : (c : Claim) (ρ : ℕ → ℤ) → Reads c ρ
reads (l ≼ r) ρ =
    (λ h. omega (arith, (⊑-ℕ (value l ρ) (value r ρ)).0 h, balance l ρ, balance r ρ), λ h. (⊑-ℕ (value l ρ) (value r ρ)).1 (omega (arith, balance l ρ, balance r ρ)))
reads (l ≍ r) ρ =
    (λ h. omega (arith, (≡-ℕ (value l ρ) (value r ρ)).0 h, balance l ρ, balance r ρ), λ h. (≡-ℕ (value l ρ) (value r ρ)).1 (omega (arith, balance l ρ, balance r ρ)))

pub linear : (n : ℕ) (f : Over Claim n) → Each Reads n f blank
linear n f = each Reads n f (reads (at_vars n f)) blank

abbrev pub Ruleℤ : Rule → (ℕ → ℤ) → Type 0
Ruleℤ (⊢ c) ρ = Inℤ c ρ
Ruleℤ (c ⇒ r) ρ = Inℤ c ρ → Ruleℤ r ρ

abbrev pub Ruleℕ : Rule → (ℕ → ℤ) → Type 0
Ruleℕ (⊢ c) ρ = Inℕ c ρ
Ruleℕ (c ⇒ r) ρ = Inℕ c ρ → Ruleℕ r ρ

abbrev pub Follows : Rule → (ℕ → ℤ) → Type 0
Follows r ρ = Ruleℕ r ρ → Ruleℤ r ρ

follows : (r : Rule) (ρ : ℕ → ℤ) → Follows r ρ
follows (⊢ c) ρ h = (reads c ρ).1 h
follows (c ⇒ r) ρ h = λ k. follows r ρ (h ((reads c ρ).0 k))

pub deduce : (n : ℕ) (f : Over Rule n) → Each Follows n f blank
deduce n f = each Follows n f (follows (at_vars n f)) blank

-- ---- the laws

pub pos_le : {m n : ℕ} → m ≤ n → pos m ⊑ pos n
pos_le {m} {n} h = record { le = le→leb m n h }

pub pos_le_inv : {m n : ℕ} → pos m ⊑ pos n → m ≤ n
pos_le_inv {m} {n} h = leb→le m n h.le

pub ⊑_refl : (a : ℤ) → a ⊑ a
⊑_refl a = ≤ℤ_refl a

pub ⊑-eq : {a b : ℤ} → a ≡ b → a ⊑ b
⊑-eq {a} {b} e = subst (λ x. a ⊑ x) e (⊑_refl a)

pub ⊑_trans : {a b c : ℤ} → a ⊑ b → b ⊑ c → a ⊑ c
⊑_trans {a} {b} {c} h k = deduce 3 (λ a b c. a ≼ b ⇒ b ≼ c ⇒ ⊢ a ≼ c) a b c (omega arith) h k

pub ⊑-antisym : {a b : ℤ} → a ⊑ b → b ⊑ a → a ≡ b
⊑-antisym {a} {b} h k = deduce 2 (λ a b. a ≼ b ⇒ b ≼ a ⇒ ⊢ a ≍ b) a b (omega arith) h k

pub ⊑-add : {a b c d : ℤ} → a ⊑ b → c ⊑ d → a +ℤ c ⊑ b +ℤ d
⊑-add {a} {b} {c} {d} h k = deduce 4 (λ a b c d. a ≼ b ⇒ c ≼ d ⇒ ⊢ a ⊕ c ≼ b ⊕ d) a b c d (omega arith) h k

-- for every two integers, the one is at most the other or the other is less
pub ⊑-total : (a b : ℤ) → (a ⊑ b) ⊎ (b +ℤ pos 1 ⊑ a)
⊑-total a b = go (dec_le (up a + down b) (up b + down a))
  where
    go : Dec (up a + down b ≤ up b + down a) → (a ⊑ b) ⊎ (b +ℤ pos 1 ⊑ a)
    go (yes h) = inl ((⊑-ℕ a b).1 h)
    go (no h) = inr ((linear 2 (λ a b. b ⊕ # (pos 1) ≼ a) a b).1 (omega arith))

pub le_by : (a : ℤ) (k : ℕ) {b : ℤ} → b ≡ a +ℤ pos k → a ⊑ b
le_by a k {b} e = deduce 3 (λ a b k. b ≍ a ⊕ k ⇒ ⊢ a ≼ b) a b (pos k) (omega arith) e

pub le_witness : {a b : ℤ} → a ⊑ b → (k : ℕ) × (b ≡ a +ℤ pos k)
le_witness {a} {b} h = (gap, (linear 3 (λ a b k. b ≍ a ⊕ k) a b (pos gap)).1 (omega (arith, (⊑-ℕ a b).0 h)))
  where
    gap : ℕ
    gap = up b + down a - (up a + down b)

pub sub_nn : (a b : ℤ) → (a ⊑ b) ↔ (pos 0 ⊑ b -ℤ a)
sub_nn a b = (deduce 2 (λ a b. a ≼ b ⇒ ⊢ # (pos 0) ≼ b ⊖ a) a b (omega arith), deduce 2 (λ a b. # (pos 0) ≼ b ⊖ a ⇒ ⊢ a ≼ b) a b (omega arith))

pub certify : (a b : ℤ) {p : ℤ} → b -ℤ a ≡ p → pos 0 ⊑ p → a ⊑ b
certify a b e h = (sub_nn a b).1 (subst (λ x. pos 0 ⊑ x) (sym e) h)

-- ---- products

pub nn_pos : (z : ℤ) → pos 0 ⊑ z → (n : ℕ) × (z ≡ pos n)
nn_pos (pos n) h = (n, refl)
nn_pos (negsuc n) h = absurd h.le

pub nn_add : {a b : ℤ} → pos 0 ⊑ a → pos 0 ⊑ b → pos 0 ⊑ a +ℤ b
nn_add h k = ⊑-add h k

pub nn_mul : {a b : ℤ} → pos 0 ⊑ a → pos 0 ⊑ b → pos 0 ⊑ a *ℤ b
nn_mul {a = pos m} {b = pos n} h k = pos_le zero-le
nn_mul {a = pos m} {b = negsuc n} h k = absurd k.le
nn_mul {a = negsuc m} {b} h k = absurd h.le

pub nn_sq : (z : ℤ) → pos 0 ⊑ z *ℤ z
nn_sq (pos n) = pos_le zero-le
nn_sq (negsuc n) = pos_le zero-le

pub ⊑-mul : {c a b : ℤ} → pos 0 ⊑ c → a ⊑ b → c *ℤ a ⊑ c *ℤ b
⊑-mul {c} {a} {b} h k = certify (c *ℤ a) (c *ℤ b) (ring 3 (λ c a b. c ⊗ b ⊖ c ⊗ a ≈ c ⊗ (b ⊖ a)) tt c a b) (nn_mul h ((sub_nn a b).0 k))

pub ⊑-cancel : (c a b : ℤ) → pos 1 ⊑ c → c *ℤ a ⊑ c *ℤ b → a ⊑ b
⊑-cancel (pos k) a b h l =
    (⊑-ℕ a b).1 (le_of_mul-le-mul_left (simp mul-add (omega (arith, (linear 3 (λ c a b. c ⊗ a ≼ c ⊗ b) (pos k) a b).0 l))) (pos_le_inv h))
⊑-cancel (negsuc k) a b h l = absurd h.le

-- ---- the tests of the code

true_T : {b : Bool} → b ≡ true → T b
true_T e = subst T (sym e) tt

T_true : (b : Bool) → T b → b ≡ true
T_true true t = refl
T_true false t = absurd t

T_false : (b : Bool) → (T b → ⊥) → b ≡ false
T_false true h = absurd (h tt)
T_false false h = refl

module _ (a b : ℤ) where
  pub <ℤ-⊑ : (a <ℤ b) ↔ (a +ℤ pos 1 ⊑ b)
  <ℤ-⊑ = (λ h. (linear 2 (λ a b. a ⊕ # (pos 1) ≼ b) a b).1 (omega (arith, (<ℤ-ℕ a b).0 h)), λ h. (<ℤ-ℕ a b).1 (omega (arith, (linear 2 (λ a b. a ⊕ # (pos 1) ≼ b) a b).0 h)))

  pub le_z_true : le_z a b ≡ true → a ⊑ b
  le_z_true e = record { le = true_T e }

  pub lt_z_true : lt_z a b ≡ true → a +ℤ pos 1 ⊑ b
  lt_z_true e = <ℤ-⊑.0 (record { lt = true_T e })

  pub le_z_false : le_z a b ≡ false → b +ℤ pos 1 ⊑ a
  le_z_false e = go (⊑-total a b)
    where
      go : (a ⊑ b) ⊎ (b +ℤ pos 1 ⊑ a) → b +ℤ pos 1 ⊑ a
      go (inl h) = absurd (subst T e h.le)
      go (inr h) = h

  pub lt_z_false : lt_z a b ≡ false → b ⊑ a
  lt_z_false e = lt_z_no (true_T (ap not e))

  pub le_le_z : a ⊑ b → le_z a b ≡ true
  le_le_z h = T_true (le_z a b) h.le

  pub lt_lt_z : a +ℤ pos 1 ⊑ b → lt_z a b ≡ true
  lt_lt_z h = T_true (lt_z a b) (<ℤ-⊑.1 h).lt

  pub lt_le_z : b +ℤ pos 1 ⊑ a → le_z a b ≡ false
  lt_le_z h = T_false (le_z a b) (λ t. omega (arith, (⊑-ℕ a b).0 (record { le = t }), (linear 2 (λ a b. b ⊕ # (pos 1) ≼ a) a b).0 h))

  pub le_lt_z : b ⊑ a → lt_z a b ≡ false
  le_lt_z h = T_false (lt_z a b) (λ t. omega (arith, (<ℤ-ℕ a b).0 (record { lt = t }), (⊑-ℕ b a).0 h))

-- worked calls: a linear goal, and one of degree 2
linear_goal : (a b c : ℤ) → a ⊑ b → b +ℤ pos 1 ⊑ c → a +ℤ a ⊑ c +ℤ c -ℤ pos 2
linear_goal a b c h k = deduce 3 (λ a b c. a ≼ b ⇒ b ⊕ # (pos 1) ≼ c ⇒ ⊢ a ⊕ a ≼ c ⊕ c ⊖ # (pos 2)) a b c (omega arith) h k

two_products : (a b : ℤ) → pos 2 *ℤ a *ℤ b ⊑ a *ℤ a +ℤ b *ℤ b
two_products a b = certify (pos 2 *ℤ a *ℤ b) (a *ℤ a +ℤ b *ℤ b)
    (ring 2 (λ a b. a ⊗ a ⊕ b ⊗ b ⊖ # (pos 2) ⊗ a ⊗ b ≈ (a ⊖ b) ⊗ (a ⊖ b)) tt a b) (nn_sq (a -ℤ b))
