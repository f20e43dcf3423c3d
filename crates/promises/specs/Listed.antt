-- Demand 1, what it is that an answer is accepted or a listed refusal; said of each call in ListedAnswers and ListedExports.
--     without_line number, with_line number     the numbers of document 01's table, and 14, for which no line is at fault, and those for which one is
--     is_refusal_at number line                 one of these fourteen, with line 0 where no line is at fault, else with a line from 1
--     Listed outcome                          accepted, or refused so
--     Answered outcome refusal answer         an answer with this outcome is accepted, or the refusal that its number and line make
--     listed_zero, apart                      a listed refusal has not the number 0, and is no acceptance
--     accepted-answer, refused-answer         the answers of both kinds
--     row_listed                              the numbers of a row's line are listed
--     room_listed                             so is 13 for too little room, tested last
--     KeptWhereRefused outcome                a call with this outcome, where refused, leaves every lent place as at entry
--     refused_keeps                           a listed outcome does
use Rattle.std.specs.Prelude.{◌<◌, ◌≤◌, suc, zero, ℕ, ◌≡◌, refl, Bool, ◌&&◌, ◌||◌, false, true, List, eqb, leb}
use Rattle.std.proofs.Common.{◌∙◌, ap, subst, sym, arith, le-leb}
use Rattle.integers.specs.Tests.{clash, impossible}
use Rattle.refusal.specs.Number.{alert_settings, budget_too_large, buffer_short, disagreement, heading, label_repeated, line_form, outside_limits, record_form, row_count_number, table_short, tag_differs, text_length, value_range}
use Rattle.refusal.specs.Outcome.{number_of, Outcome, Accepted, Refused, RefusalNumbers}
use Rattle.lent.specs.Clauses.{with_room}
use Rattle.lent.specs.Filled.{filled, filled-refused}

-- 1, 7, 8, 9, 12, 13, 14
abbrev pub without_line : ℕ → Bool
without_line number =
    eqb number text_length || (eqb number table_short || (eqb number outside_limits || (eqb number budget_too_large
    || (eqb number disagreement || (eqb number buffer_short || eqb number alert_settings)))))

-- 2, 3, 4, 5, 6, 10, 11
abbrev pub with_line : ℕ → Bool
with_line number =
    eqb number heading || (eqb number line_form || (eqb number value_range || (eqb number label_repeated || (eqb number row_count_number
    || (eqb number tag_differs || eqb number record_form)))))

abbrev pub is_refusal_at : ℕ → ℕ → Bool
is_refusal_at number line = (without_line number && eqb line 0) || (with_line number && leb 1 line)

abbrev pub Listed : Outcome → Type 0
Listed Accepted = Unit {0}
Listed (Refused r) = is_refusal_at r.number r.line ≡ true

pub record Answered {A : Type 0} (outcome : A → Outcome) (refusal : RefusalNumbers → A) (answer : A) : Type 0 where
  pub listed : Listed (outcome answer)
  -- the number is 0 exactly where accepted
  pub accepted_zero : outcome answer ≡ Accepted → number_of (outcome answer) ≡ 0
  pub zero_accepted : number_of (outcome answer) ≡ 0 → outcome answer ≡ Accepted
  -- a refusal's number and line make the whole answer
  pub whole : (r : RefusalNumbers) → outcome answer ≡ Refused r → answer ≡ refusal r

-- 0 is none of the fourteen
pub listed_zero : (o : Outcome) → Listed o → number_of o ≡ 0 → o ≡ Accepted
listed_zero Accepted listed z = refl
listed_zero (Refused r) listed z = clash listed (ap (λ (number : ℕ). is_refusal_at number r.line) z)

pub apart : {P : Type 0} {r : RefusalNumbers} → Accepted ≡ Refused r → P
apart e = let z : ◌≡◌ {A = ℕ} 0 1 = cc in impossible z

module _ {A : Type 0} (outcome : A → Outcome) (refusal : RefusalNumbers → A) where
  pub accepted-answer : (answer : A) → outcome answer ≡ Accepted → Answered outcome refusal answer
  accepted-answer answer is =
      record {
        listed = subst Listed (sym is) tt;
        accepted_zero = ap number_of;
        zero_accepted = λ z. is;
        whole = λ r other. apart (sym is ∙ other);
      }

  pub refused-answer : (r : RefusalNumbers) → outcome (refusal r) ≡ Refused r → is_refusal_at r.number r.line ≡ true → Answered outcome refusal (refusal r)
  refused-answer r is listed =
      let of-outcome = subst Listed (sym is) listed in
      record {
        listed = of-outcome;
        accepted_zero = ap number_of;
        zero_accepted = listed_zero (outcome (refusal r)) of-outcome;
        whole = λ other same. ap refusal (alike (sym is ∙ same));
      }
    where
      alike : {r other : RefusalNumbers} → Refused r ≡ Refused other → r ≡ other
      alike e = cc

-- the numbers of a row's line, which is past the heading's
pub row_listed : (number line : ℕ) → line_form ≤ number → number ≤ row_count_number → 1 < line → is_refusal_at number line ≡ true
row_listed zero line low high past = absurd (omega arith)
row_listed (suc zero) line low high past = absurd (omega arith)
row_listed (suc (suc zero)) line low high past = absurd (omega arith)
row_listed (suc (suc (suc zero))) line low high past = le-leb 1 line (omega arith)
row_listed (suc (suc (suc (suc zero)))) line low high past = le-leb 1 line (omega arith)
row_listed (suc (suc (suc (suc (suc zero))))) line low high past = le-leb 1 line (omega arith)
row_listed (suc (suc (suc (suc (suc (suc zero)))))) line low high past = le-leb 1 line (omega arith)
row_listed (suc (suc (suc (suc (suc (suc (suc n))))))) line low high past = absurd (omega arith)

pub room_listed : (room : Bool) (o : Outcome) → Listed o → Listed (with_room room o)
room_listed true Accepted listed = tt
room_listed false Accepted listed = refl
room_listed room (Refused r) listed = listed

abbrev pub KeptWhereRefused : Outcome → Type 1
KeptWhereRefused o = (A : Type 0) (r : RefusalNumbers) → o ≡ Refused r → (count : ℕ) (source lent : List A) → filled (number_of o) count source lent ≡ lent

pub refused_keeps : (o : Outcome) → Listed o → KeptWhereRefused o
refused_keeps o listed A r is count source lent =
    sym (filled-refused (number_of o) count source lent (λ z. apart (sym (listed_zero o listed z) ∙ is)))
