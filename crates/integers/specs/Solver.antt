-- A ring solver over ℤ by computation.
--     ring n f tt a₁ … aₙ    proves the equation f of n expressions, at the integers a₁ … aₙ
-- f is a λ over n expressions; its body is `left ≈ right`, made of the variables and of
--     x ⊕ y    x ⊖ y    x ⊗ y    ⊝ x    # c        sum, difference, product, negation, an integer constant
-- `tt` is the proof that the test passed. Where the equation is no identity of rings, the test computes to false and `tt` is refused.
-- Under a sum or another λ, state the identity as a law of its own: there what `ring` says is not computed.
-- An identity of ℕ: `pos_inj (ring 2 (λ x y. ..) tt (pos m) (pos n))`.
-- The rest is for other readers of the same expressions:
--     Expr, Equation          the expressions, and two of them
--     Over C n                functions of n expressions into C
--     Each M n f ρ            M at f of the variables, for any n integers
--     each                    it holds where M holds at f of the variables, under every assignment
--     value e ρ               an expression's integer, under the assignment ρ
-- A worked call stands at the end.
use Rattle.std.specs.Prelude.{◌≡◌, refl, Bool, true, false, ◌&&◌, ℕ, zero, suc, ◌+◌, ◌*◌, T, ℤ, pos, negsuc, neg_ℤ, ◌+ℤ◌, ◌-ℤ◌, ◌*ℤ◌}
use Rattle.std.proofs.Common.{sym, ◌∙◌, ap, ap₂}
use Rattle.std.proofs.Math.IntN.{+ℤ_assoc, +ℤ_comm, +ℤ_idl, +ℤ_idr, suc_ℤ-*ℤ, zero-*ℤ, *ℤ_comm}
use Rattle.integers.specs.Ring.{pos_inj, +ℤ-interchange, -ℤ-zero, negℤ-*ℤ, *ℤ-distrib-left, *ℤ-distrib-right, *ℤ-assoc}

-- ---- expressions and what they mean

infixl 6 ◌⊕◌ ◌⊖◌
infixl 7 ◌⊗◌
infix 8 ⊝◌ #◌
infix 4 ◌≈◌
pub data Expr : Type 0 where
  var : ℕ → Expr
  #◌ : ℤ → Expr
  ◌⊕◌ : Expr → Expr → Expr
  ◌⊖◌ : Expr → Expr → Expr
  ◌⊗◌ : Expr → Expr → Expr
  ⊝◌ : Expr → Expr

pub data Equation : Type 0 where
  ◌≈◌ : Expr → Expr → Equation

abbrev pub value : Expr → (ℕ → ℤ) → ℤ
value (var i) ρ = ρ i
value (# c) ρ = c
value (a ⊕ b) ρ = value a ρ +ℤ value b ρ
value (a ⊖ b) ρ = value a ρ -ℤ value b ρ
value (a ⊗ b) ρ = value a ρ *ℤ value b ρ
value (⊝ a) ρ = neg_ℤ (value a ρ)

abbrev pub Holds : Equation → (ℕ → ℤ) → Type 0
Holds (l ≈ r) ρ = value l ρ ≡ value r ρ

-- ---- functions of n expressions: the last variable has the number 0

abbrev pub Over : Type 0 → ℕ → Type 0
Over C zero = C
Over C (suc n) = Expr → Over C n

abbrev pub at_vars : {C : Type 0} (n : ℕ) → Over C n → C
at_vars zero f = f
at_vars (suc n) f = at_vars n (f (var n))

abbrev pub push : ℤ → (ℕ → ℤ) → ℕ → ℤ
push a ρ zero = a
push a ρ (suc i) = ρ i

abbrev pub blank : ℕ → ℤ
blank i = pos 0

abbrev pub Each : {C : Type 0} → (C → (ℕ → ℤ) → Type 0) → (n : ℕ) → Over C n → (ℕ → ℤ) → Type 0
Each M zero f ρ = M f ρ
Each M (suc n) f ρ = (a : ℤ) → Each M n (f (var n)) (push a ρ)

pub each : {C : Type 0} (M : C → (ℕ → ℤ) → Type 0) (n : ℕ) (f : Over C n) → ((ρ : ℕ → ℤ) → M (at_vars n f) ρ) → (ρ : ℕ → ℤ) → Each M n f ρ
each M zero f h ρ = h ρ
each M (suc n) f h ρ = λ a. each M n (f (var n)) h (push a ρ)

-- ---- polynomials: `K c` is a constant, `X p q` is p · x₀ + q, with q over the variables from x₁ on

pub data Poly : Type 0 where
  K : ℤ → Poly
  X : Poly → Poly → Poly

abbrev rest : (ℕ → ℤ) → ℕ → ℤ
rest ρ i = ρ (suc i)

abbrev eval : Poly → (ℕ → ℤ) → ℤ
eval (K c) ρ = c
eval (X p q) ρ = eval p ρ *ℤ ρ 0 +ℤ eval q (rest ρ)

abbrev variable : ℕ → Poly
variable zero = X (K (pos 1)) (K (pos 0))
variable (suc i) = X (K (pos 0)) (variable i)

abbrev plus_k : ℤ → Poly → Poly
plus_k c (K a) = K (c +ℤ a)
plus_k c (X p q) = X p (plus_k c q)

abbrev plus : Poly → Poly → Poly
plus (K a) r = plus_k a r
plus (X p q) (K b) = X p (plus_k b q)
plus (X p q) (X r s) = X (plus p r) (plus q s)

abbrev scale : ℤ → Poly → Poly
scale c (K a) = K (c *ℤ a)
scale c (X p q) = X (scale c p) (scale c q)

abbrev times_k : ℤ → Poly → Poly
times_k (pos zero) r = K (pos 0)
times_k (pos (suc n)) r = scale (pos (suc n)) r
times_k (negsuc n) r = scale (negsuc n) r

-- q · r, for the product by q as a function, where q has no x₀
abbrev lower : (Poly → Poly) → Poly → Poly
lower f (K c) = X (K (pos 0)) (f (K c))
lower f (X r s) = X (lower f r) (f s)

abbrev times : Poly → Poly → Poly
times (K a) r = times_k a r
times (X p q) r = plus (X (times p r) (K (pos 0))) (lower (λ s. times q s) r)

abbrev normal : Expr → Poly
normal (var i) = variable i
normal (# c) = K c
normal (a ⊕ b) = plus (normal a) (normal b)
normal (a ⊖ b) = plus (normal a) (scale (negsuc 0) (normal b))
normal (a ⊗ b) = times (normal a) (normal b)
normal (⊝ a) = scale (negsuc 0) (normal a)

abbrev null : ℤ → Bool
null (pos zero) = true
null (pos (suc n)) = false
null (negsuc n) = false

abbrev vanishes : Poly → Bool
vanishes (K c) = null c
vanishes (X p q) = vanishes p && vanishes q

-- whether left minus right has no coefficient but 0
abbrev pub passes : Equation → Bool
passes (l ≈ r) = vanishes (normal (l ⊖ r))

-- ---- each step keeps the value

one-*ℤ : (a : ℤ) → pos 1 *ℤ a ≡ a
one-*ℤ a = suc_ℤ-*ℤ (pos 0) a ∙ ap (λ x. x +ℤ a) (zero-*ℤ a) ∙ +ℤ_idl a

zero-*ℤ-+ℤ : (a b : ℤ) → pos 0 *ℤ a +ℤ b ≡ b
zero-*ℤ-+ℤ a b = ap (λ x. x +ℤ b) (zero-*ℤ a) ∙ +ℤ_idl b

horner : (v r x s : ℤ) → v *ℤ r *ℤ x +ℤ v *ℤ s ≡ v *ℤ (r *ℤ x +ℤ s)
horner v r x s = ap (λ y. y +ℤ v *ℤ s) (*ℤ-assoc v r x) ∙ sym (*ℤ-distrib-left v (r *ℤ x) s)

eval-variable : (i : ℕ) (ρ : ℕ → ℤ) → eval (variable i) ρ ≡ ρ i
eval-variable zero ρ = +ℤ_idr (pos 1 *ℤ ρ 0) ∙ one-*ℤ (ρ 0)
eval-variable (suc i) ρ = zero-*ℤ-+ℤ (ρ 0) (eval (variable i) (rest ρ)) ∙ eval-variable i (rest ρ)

eval_plus_k : (c : ℤ) (p : Poly) (ρ : ℕ → ℤ) → eval (plus_k c p) ρ ≡ eval p ρ +ℤ c
eval_plus_k c (K a) ρ = +ℤ_comm c a
eval_plus_k c (X p q) ρ = ap (λ y. eval p ρ *ℤ ρ 0 +ℤ y) (eval_plus_k c q (rest ρ)) ∙ sym (+ℤ_assoc (eval p ρ *ℤ ρ 0) (eval q (rest ρ)) c)

eval-plus : (p r : Poly) (ρ : ℕ → ℤ) → eval (plus p r) ρ ≡ eval p ρ +ℤ eval r ρ
eval-plus (K a) r ρ = eval_plus_k a r ρ ∙ +ℤ_comm (eval r ρ) a
eval-plus (X p q) (K b) ρ = eval_plus_k b (X p q) ρ
eval-plus (X p q) (X r s) ρ =
    ap₂ (λ y z. y *ℤ ρ 0 +ℤ z) (eval-plus p r ρ) (eval-plus q s (rest ρ)) ∙
    ap (λ y. y +ℤ (eval q (rest ρ) +ℤ eval s (rest ρ))) (*ℤ-distrib-right (eval p ρ) (eval r ρ) (ρ 0)) ∙
    +ℤ-interchange (eval p ρ *ℤ ρ 0) (eval r ρ *ℤ ρ 0) (eval q (rest ρ)) (eval s (rest ρ))

eval-scale : (c : ℤ) (p : Poly) (ρ : ℕ → ℤ) → eval (scale c p) ρ ≡ c *ℤ eval p ρ
eval-scale c (K a) ρ = refl
eval-scale c (X p q) ρ = ap₂ (λ y z. y *ℤ ρ 0 +ℤ z) (eval-scale c p ρ) (eval-scale c q (rest ρ)) ∙ horner c (eval p ρ) (ρ 0) (eval q (rest ρ))

eval_times_k : (c : ℤ) (p : Poly) (ρ : ℕ → ℤ) → eval (times_k c p) ρ ≡ c *ℤ eval p ρ
eval_times_k (pos zero) p ρ = sym (zero-*ℤ (eval p ρ))
eval_times_k (pos (suc n)) p ρ = eval-scale (pos (suc n)) p ρ
eval_times_k (negsuc n) p ρ = eval-scale (negsuc n) p ρ

eval-lower : (f : Poly → Poly) (v : ℤ) (ρ : ℕ → ℤ) → ((s : Poly) → eval (f s) (rest ρ) ≡ v *ℤ eval s (rest ρ)) → (r : Poly) → eval (lower f r) ρ ≡ v *ℤ eval r ρ
eval-lower f v ρ h (K c) = zero-*ℤ-+ℤ (ρ 0) (eval (f (K c)) (rest ρ)) ∙ h (K c)
eval-lower f v ρ h (X r s) = ap₂ (λ y z. y *ℤ ρ 0 +ℤ z) (eval-lower f v ρ h r) (h s) ∙ horner v (eval r ρ) (ρ 0) (eval s (rest ρ))

eval-times : (p r : Poly) (ρ : ℕ → ℤ) → eval (times p r) ρ ≡ eval p ρ *ℤ eval r ρ
eval-times (K a) r ρ = eval_times_k a r ρ
eval-times (X p q) r ρ =
    eval-plus (X (times p r) (K (pos 0))) (lower (λ s. times q s) r) ρ ∙
    ap₂ (λ y z. y +ℤ z) (+ℤ_idr (eval (times p r) ρ *ℤ ρ 0) ∙ ap (λ y. y *ℤ ρ 0) (eval-times p r ρ) ∙ turn (eval p ρ) (eval r ρ) (ρ 0))
    (eval-lower (λ s. times q s) (eval q (rest ρ)) ρ (λ s. eval-times q s (rest ρ)) r) ∙
    sym (*ℤ-distrib-right (eval p ρ *ℤ ρ 0) (eval q (rest ρ)) (eval r ρ))
  where
    turn : (a b x : ℤ) → a *ℤ b *ℤ x ≡ a *ℤ x *ℤ b
    turn a b x = *ℤ-assoc a b x ∙ ap (λ y. a *ℤ y) (*ℤ_comm b x) ∙ sym (*ℤ-assoc a x b)

eval_negate : (p : Poly) (ρ : ℕ → ℤ) → eval (scale (negsuc 0) p) ρ ≡ neg_ℤ (eval p ρ)
eval_negate p ρ = eval-scale (negsuc 0) p ρ ∙ negℤ-*ℤ (pos 1) (eval p ρ) ∙ ap neg_ℤ (one-*ℤ (eval p ρ))

eval-normal : (e : Expr) (ρ : ℕ → ℤ) → eval (normal e) ρ ≡ value e ρ
eval-normal (var i) ρ = eval-variable i ρ
eval-normal (# c) ρ = refl
eval-normal (a ⊕ b) ρ = eval-plus (normal a) (normal b) ρ ∙ ap₂ ◌+ℤ◌ (eval-normal a ρ) (eval-normal b ρ)
eval-normal (a ⊖ b) ρ =
    eval-plus (normal a) (scale (negsuc 0) (normal b)) ρ ∙ ap₂ ◌+ℤ◌ (eval-normal a ρ) (eval_negate (normal b) ρ ∙ ap neg_ℤ (eval-normal b ρ))
eval-normal (a ⊗ b) ρ = eval-times (normal a) (normal b) ρ ∙ ap₂ ◌*ℤ◌ (eval-normal a ρ) (eval-normal b ρ)
eval-normal (⊝ a) ρ = eval_negate (normal a) ρ ∙ ap neg_ℤ (eval-normal a ρ)

null_zero : (c : ℤ) → T (null c) → c ≡ pos 0
null_zero (pos zero) t = refl
null_zero (pos (suc n)) t = absurd t
null_zero (negsuc n) t = absurd t

both : (a b : Bool) → T (a && b) → T a × T b
both true true t = (tt, tt)
both true false t = absurd t
both false b t = absurd t

vanishes_zero : (p : Poly) (ρ : ℕ → ℤ) → T (vanishes p) → eval p ρ ≡ pos 0
vanishes_zero (K c) ρ t = null_zero c t
vanishes_zero (X p q) ρ t =
    ap₂ (λ y z. y *ℤ ρ 0 +ℤ z) (vanishes_zero p ρ (both (vanishes p) (vanishes q) t).0) (vanishes_zero q (rest ρ) (both (vanishes p) (vanishes q) t).1) ∙
    zero-*ℤ-+ℤ (ρ 0) (pos 0)

sound : (e : Equation) → T (passes e) → (ρ : ℕ → ℤ) → Holds e ρ
sound (l ≈ r) t ρ = -ℤ-zero (value l ρ) (value r ρ) (sym (eval-normal (l ⊖ r) ρ) ∙ vanishes_zero (normal (l ⊖ r)) ρ t)

pub ring : (n : ℕ) (f : Over Equation n) → T (passes (at_vars n f)) → Each Holds n f blank
ring n f t = each Holds n f (sound (at_vars n f) t) blank

-- worked calls
square_of_sum : (a b : ℤ) → (a +ℤ b) *ℤ (a +ℤ b) ≡ a *ℤ a +ℤ pos 2 *ℤ a *ℤ b +ℤ b *ℤ b
square_of_sum a b = ring 2 (λ x y. (x ⊕ y) ⊗ (x ⊕ y) ≈ x ⊗ x ⊕ # (pos 2) ⊗ x ⊗ y ⊕ y ⊗ y) tt a b

square_of_sum_nat : (a b : ℕ) → (a + b) * (a + b) ≡ a * a + 2 * a * b + b * b
square_of_sum_nat a b = pos_inj (square_of_sum (pos a) (pos b))
