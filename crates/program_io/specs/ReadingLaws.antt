-- Laws of what a read answered.
--     after_failed, after-ended, after_more     what follows, by the test of the number
--     moved_abs                                 how far from 0 the answer is of a read that was handed so many bytes, at least one
--     read_failed, read_whole_lem                   what is answered where a read failed, and where all was read
--     done_read                                 what is answered after the last read
--     more_within                               what a read adds is within what it was handed
use Rattle.std.specs.Prelude.{ℕ, zero, suc, ◌+◌, ◌≤◌, ◌<◌, ◌≡◌, refl, true, false, List, ℤ, pos, negsuc, nat_abs, length}
use Rattle.std.proofs.Common.{sym, ap, subst, arith, length-take-le, ltb-true}
use Rattle.std.specs.Int.Signed.{lt_z}
use Rattle.integers.specs.Tests.{impossible, clash}
use Rattle.program_io.specs.Reading.{TextRead, Done, More, not_read, read_whole, after_read}
use Rattle.program_io.specs.Clauses.{Moved, Read}

pub after_failed : (z : ℤ) (at : ℕ) → lt_z z (pos 0) ≡ true → Done not_read ≡ after_read z at
after_failed (pos n) at e = absurd (omega (arith, ltb-true n 0 e))
after_failed (negsuc k) at e = refl

pub after-ended : (z : ℤ) (at : ℕ) → z ≡ pos 0 → Done (read_whole at) ≡ after_read z at
after-ended z at e = ap (λ (x : ℤ). after_read x at) (sym e)

pub after_more : (z : ℤ) (at : ℕ) → lt_z z (pos 0) ≡ false → (z ≡ pos 0 → ⊥) → More (at + nat_abs z) ≡ after_read z at
after_more (pos zero) at e other = absurd (other refl)
after_more (pos (suc k)) at e other = refl
after_more (negsuc k) at e other = impossible (cc)

pub moved_abs : (n : ℕ) (z : ℤ) → 1 ≤ n → Moved n z → nat_abs z ≤ n
moved_abs n (pos k) some moved = moved
moved_abs n (negsuc k) some moved = omega arith

pub read_failed : {r : TextRead} {text : List ℕ} → r ≡ not_read → Read r text
read_failed {text = text} e = subst (λ (a : TextRead). Read a text) (sym e) (record { part = (omega arith, refl); none = λ h. refl })

pub read_whole_lem : {r : TextRead} {text : List ℕ} {n : ℕ} → n ≤ length text → r ≡ read_whole n → Read r text
read_whole_lem {text = text} {n} h e =
    subst (λ (a : TextRead). Read a text) (sym e) (record { part = (h, sym (length-take-le n text h)); none = λ f. clash refl f })

pub done_read : (z : ℤ) (at : ℕ) (r : TextRead) (text : List ℕ) → at ≤ length text → after_read z at ≡ Done r → Read r text
done_read (negsuc k) at r text h e = read_failed (cc)
done_read (pos zero) at r text h e = read_whole_lem h (cc)
done_read (pos (suc k)) at r text h e = impossible (cc)

pub more_within : (n : ℕ) (z : ℤ) (at next : ℕ) → Moved n z → after_read z at ≡ More next → (at < next) × (next ≤ at + n)
more_within n (negsuc k) at next moved e = impossible (cc)
more_within n (pos zero) at next moved e = impossible (cc)
more_within n (pos (suc k)) at next moved e = let same : at + suc k ≡ next = cc in (omega arith, omega arith)
