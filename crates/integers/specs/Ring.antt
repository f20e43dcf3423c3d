-- The ring laws of ℤ that `lib.IntN` lacks, and the embedding `pos` of ℕ.
--     ℤ-induction       from 0 up by `suc_ℤ` and down by `pred_ℤ`
--     +ℤ-swap           a + b + c ≡ a + c + b
--     +ℤ-interchange    (a + b) + (c + d) ≡ (a + c) + (b + d)
--     -ℤ-self           a - a ≡ 0 (in a `use` list not the first name: `{-` opens a comment)
--     -ℤ-zero           a - b ≡ 0 gives a ≡ b
--     negℤ_unique       a + b ≡ 0 gives b ≡ - a
--     *ℤ-distrib-right, *ℤ-distrib-left    the product of a sum
--     *ℤ-sub-right      the product of a difference
--     negℤ-*ℤ, *ℤ-negℤ  a negation moves out of the product
--     *ℤ-assoc          a * b * c ≡ a * (b * c)
--     pos_inj           `pos` keeps numbers apart
--     pos_add, pos_mul  sum and product of ℕ are those of ℤ, by computation
--     pos_sub           and so is the difference, where it is not cut off
-- An identity of ℕ with no difference is `pos_inj` of the identity of ℤ (`ring` of Solver).
-- A worked call stands at the end.
use Rattle.std.specs.Prelude.{◌≡◌, refl, ℕ, zero, suc, ◌+◌, ◌*◌, ◌-◌, ◌≤◌, ℤ, pos, negsuc, neg_ℤ, nat_abs, ◌+ℤ◌, ◌-ℤ◌, ◌*ℤ◌}
use Rattle.std.proofs.Common.{sym, ◌∙◌, ap, ap₂, arith}
use Rattle.std.proofs.Math.IntN.{suc_ℤ, pred_ℤ, +ℤ_assoc, +ℤ_comm, +ℤ_idl, +ℤ_invr, +ℤ-neg_ℤ_cancel, -ℤ-+ℤ_cancel, suc_ℤ-+ℤ, pred_ℤ-+ℤ, suc_ℤ-*ℤ, pred_ℤ-*ℤ, zero-*ℤ, *ℤ_comm}

pub ℤ-induction : (P : ℤ → Type 0) → P (pos zero) → ((z : ℤ) → P z → P (suc_ℤ z)) → ((z : ℤ) → P z → P (pred_ℤ z)) → (z : ℤ) → P z
ℤ-induction P o s p (pos zero) = o
ℤ-induction P o s p (pos (suc n)) = s (pos n) (ℤ-induction P o s p (pos n))
ℤ-induction P o s p (negsuc zero) = p (pos zero) o
ℤ-induction P o s p (negsuc (suc n)) = p (negsuc n) (ℤ-induction P o s p (negsuc n))

module _ (a b c : ℤ) where
  pub +ℤ-swap : a +ℤ b +ℤ c ≡ a +ℤ c +ℤ b
  +ℤ-swap = +ℤ_assoc a b c ∙ ap (λ x. a +ℤ x) (+ℤ_comm b c) ∙ sym (+ℤ_assoc a c b)

  pub +ℤ-interchange : (d : ℤ) → (a +ℤ b) +ℤ (c +ℤ d) ≡ (a +ℤ c) +ℤ (b +ℤ d)
  +ℤ-interchange d = sym (+ℤ_assoc (a +ℤ b) c d) ∙ ap (λ x. x +ℤ d) +ℤ-swap ∙ +ℤ_assoc (a +ℤ c) b d

pub -ℤ-self : (a : ℤ) → a -ℤ a ≡ pos zero
-ℤ-self a = +ℤ_invr a

pub -ℤ-zero : (a b : ℤ) → a -ℤ b ≡ pos zero → a ≡ b
-ℤ-zero a b e = sym (-ℤ-+ℤ_cancel a b) ∙ ap (λ x. x +ℤ b) e ∙ +ℤ_idl b

pub negℤ_unique : (a b : ℤ) → a +ℤ b ≡ pos zero → b ≡ neg_ℤ a
negℤ_unique a b e = sym (+ℤ-neg_ℤ_cancel b a) ∙ ap (λ x. x -ℤ a) (+ℤ_comm b a ∙ e) ∙ +ℤ_idl (neg_ℤ a)

pub *ℤ-distrib-right : (a b c : ℤ) → (a +ℤ b) *ℤ c ≡ a *ℤ c +ℤ b *ℤ c
*ℤ-distrib-right a b c = ℤ-induction (λ a. (a +ℤ b) *ℤ c ≡ a *ℤ c +ℤ b *ℤ c)
    (ap (λ x. x *ℤ c) (+ℤ_idl b) ∙ sym (ap (λ x. x +ℤ b *ℤ c) (zero-*ℤ c) ∙ +ℤ_idl (b *ℤ c)))
    (λ a e. ap (λ x. x *ℤ c) (suc_ℤ-+ℤ a b) ∙ suc_ℤ-*ℤ (a +ℤ b) c ∙ step a c e (sym (suc_ℤ-*ℤ a c)))
    (λ a e. ap (λ x. x *ℤ c) (pred_ℤ-+ℤ a b) ∙ pred_ℤ-*ℤ (a +ℤ b) c ∙ step a (neg_ℤ c) e (sym (pred_ℤ-*ℤ a c))) a
  where
    step : (a d : ℤ) {s : ℤ} → (a +ℤ b) *ℤ c ≡ a *ℤ c +ℤ b *ℤ c → a *ℤ c +ℤ d ≡ s → (a +ℤ b) *ℤ c +ℤ d ≡ s +ℤ b *ℤ c
    step a d e k = ap (λ x. x +ℤ d) e ∙ +ℤ-swap (a *ℤ c) (b *ℤ c) d ∙ ap (λ x. x +ℤ b *ℤ c) k

pub *ℤ-distrib-left : (a b c : ℤ) → a *ℤ (b +ℤ c) ≡ a *ℤ b +ℤ a *ℤ c
*ℤ-distrib-left a b c = *ℤ_comm a (b +ℤ c) ∙ *ℤ-distrib-right b c a ∙ ap₂ ◌+ℤ◌ (*ℤ_comm b a) (*ℤ_comm c a)

pub negℤ-*ℤ : (a b : ℤ) → neg_ℤ a *ℤ b ≡ neg_ℤ (a *ℤ b)
negℤ-*ℤ a b = negℤ_unique (a *ℤ b) (neg_ℤ a *ℤ b) (sym (*ℤ-distrib-right a (neg_ℤ a) b) ∙ ap (λ x. x *ℤ b) (-ℤ-self a) ∙ zero-*ℤ b)

pub *ℤ-negℤ : (a b : ℤ) → a *ℤ neg_ℤ b ≡ neg_ℤ (a *ℤ b)
*ℤ-negℤ a b = *ℤ_comm a (neg_ℤ b) ∙ negℤ-*ℤ b a ∙ ap neg_ℤ (*ℤ_comm b a)

pub *ℤ-sub-right : (a b c : ℤ) → (a -ℤ b) *ℤ c ≡ a *ℤ c -ℤ b *ℤ c
*ℤ-sub-right a b c = *ℤ-distrib-right a (neg_ℤ b) c ∙ ap (λ x. a *ℤ c +ℤ x) (negℤ-*ℤ b c)

pub *ℤ-assoc : (a b c : ℤ) → (a *ℤ b) *ℤ c ≡ a *ℤ (b *ℤ c)
*ℤ-assoc a b c = ℤ-induction (λ a. (a *ℤ b) *ℤ c ≡ a *ℤ (b *ℤ c))
    (ap (λ x. x *ℤ c) (zero-*ℤ b) ∙ zero-*ℤ c ∙ sym (zero-*ℤ (b *ℤ c)))
    (λ a e. ap (λ x. x *ℤ c) (suc_ℤ-*ℤ a b) ∙ *ℤ-distrib-right (a *ℤ b) b c ∙ ap (λ x. x +ℤ b *ℤ c) e ∙ sym (suc_ℤ-*ℤ a (b *ℤ c)))
    (λ a e. ap (λ x. x *ℤ c) (pred_ℤ-*ℤ a b) ∙ *ℤ-sub-right (a *ℤ b) b c ∙ ap (λ x. x -ℤ b *ℤ c) e ∙ sym (pred_ℤ-*ℤ a (b *ℤ c))) a

pub pos_inj : {m n : ℕ} → pos m ≡ pos n → m ≡ n
pos_inj e = ap nat_abs e

pub pos_add : (m n : ℕ) → pos (m + n) ≡ pos m +ℤ pos n
pos_add m n = refl

pub pos_mul : (m n : ℕ) → pos (m * n) ≡ pos m *ℤ pos n
pos_mul m n = refl

pub pos_sub : (m n : ℕ) → n ≤ m → pos (m - n) ≡ pos m -ℤ pos n
pos_sub m n h =
    let e : m - n + n ≡ m = omega arith in
    sym (+ℤ-neg_ℤ_cancel (pos (m - n)) (pos n)) ∙ ap (λ x. pos x -ℤ pos n) e

-- a worked call: an identity of ℕ, by the one of ℤ
mul_add_nat : (a b c : ℕ) → a * (b + c) ≡ a * b + a * c
mul_add_nat a b c = pos_inj (*ℤ-distrib-left (pos a) (pos b) (pos c))
