-- Demand 1, that each verdict and each mark is accepted or a listed refusal in which every other figure is 0, for the total and the types of
-- the calls; with the other answers in ListedAnswers.
--     VerdictAnswered, reading_answered     of a verdict; of each verdict on a reading
--     ListedVerdict, verdict_answered       one that is no refusal, or a listed one, is such a verdict
--     MarkAnswered, chart_answered          of a mark; of each mark on a chart
--     ListedMark, mark_answered             one that is no refusal, or a listed one, is such a mark
use Rattle.std.specs.Prelude.{suc, zero, ℕ, ◌≡◌, refl, ◌&&◌, true, List, ◌⊎◌, Float, pos}
use Rattle.std.proofs.Common.{ap, inl, inr}
use Rattle.integers.specs.Tests.{clash, impossible}
use Rattle.refusal.specs.Number.{line_form, outside_limits, tag_differs, text_length, value_range}
use Rattle.refusal.specs.OutcomeLaws.{each_answer}
use Rattle.limits.specs.Limits.{total}
use Rattle.channel.specs.Channel.{channel_types}
use Rattle.envelope.specs.Figures.{figures_known}
use Rattle.envelope.specs.declared.Figures.{Figures}
use Rattle.reading.specs.Content.{distance_of}
use Rattle.reading.specs.Verdict.{judged, refused_verdict, verdict_excess, verdict_line, verdict_number, VerdictOutcome, Alarm, Quiet, Refused as RefusedReading}
use Rattle.reading.specs.VerdictLaws.{each_verdict, quiet_or_alarm}
use Rattle.chart.specs.Fraction.{fraction_of, positive_zero}
use Rattle.chart.specs.Mark.{channel_within, chart_mark, mark_line, mark_number, mark_of, mark_point, mark_radius, projected_centre, refused_mark, MarkOutcome, Disc, Dot, Refused as RefusedMark}
use Rattle.chart.specs.Root.{ceiling_root}
use Rattle.chart.specs.declared.Point.{Point}
use Rattle.promises.specs.Listed.{is_refusal_at, with_line}
use Rattle.refusal.specs.Outcome.{RefusalNumbers}

-- ---- verdicts

pub record VerdictAnswered (v : VerdictOutcome) : Type 0 where
  -- the number is 0 exactly where the verdict is Quiet or Alarm
  pub zero : verdict_number v ≡ 0 → (v ≡ Quiet) ⊎ ((excess : ℕ) × (v ≡ Alarm excess))
  pub quiet : v ≡ Quiet → verdict_number v ≡ 0
  pub alarm : (excess : ℕ) → v ≡ Alarm excess → verdict_number v ≡ 0
  -- else it is one of the fourteen with its line, the line at fault is 1, and the excess is 0
  pub refused : (r : RefusalNumbers) → v ≡ RefusedReading r
      → (is_refusal_at (verdict_number v) (verdict_line v) ≡ true) × (with_line (verdict_number v) ≡ true → verdict_line v ≡ 1) × (verdict_excess v ≡ 0)

-- a verdict that is no refusal, or a listed one
abbrev pub ListedVerdict : VerdictOutcome → Type 0
ListedVerdict Quiet = Unit {0}
ListedVerdict (Alarm excess) = Unit {0}
ListedVerdict (RefusedReading r) = (is_refusal_at r.number r.line ≡ true) × (with_line r.number ≡ true → r.line ≡ 1)

pub verdict_answered : (v : VerdictOutcome) → ListedVerdict v → VerdictAnswered v
verdict_answered Quiet listed =
    record { zero = λ _. inl refl; quiet = λ _. refl; alarm = λ _ _. refl; refused = λ r e. impossible (cc) }
verdict_answered (Alarm excess) listed =
    record { zero = λ _. inr (excess, refl); quiet = λ _. refl; alarm = λ _ _. refl; refused = λ r e. impossible (cc) }
verdict_answered (RefusedReading r) listed =
    record {
      zero = λ z. clash listed.0 (ap (λ (number : ℕ). is_refusal_at number r.line) z);
      quiet = λ e. impossible (cc);
      alarm = λ _ e. impossible (cc);
      refused = λ _ _. (listed.0, listed.1, refl);
    }

pub reading_answered : (f : Figures) (text : List ℕ) → VerdictAnswered (judged total channel_types f text)
reading_answered f text =
    each_verdict total channel_types f text VerdictAnswered
    (λ _. verdict_answered (refused_verdict outside_limits 0) (refl, λ h. clash h refl))
    (λ _. verdict_answered (refused_verdict text_length 0) (refl, λ h. clash h refl))
    (λ _. verdict_answered (refused_verdict line_form 1) (refl, λ _. refl))
    (λ _ _. verdict_answered (refused_verdict tag_differs 1) (refl, λ _. refl))
    (λ _ _ _. verdict_answered (refused_verdict value_range 1) (refl, λ _. refl))
    (λ reading _ _ _ _ _.
    quiet_or_alarm (distance_of total f reading.values) f.ball.scaled_squared_radius VerdictAnswered
    (verdict_answered Quiet tt) (λ excess. verdict_answered (Alarm excess) tt))

-- ---- marks

pub record MarkAnswered (mark : MarkOutcome) : Type 0 where
  -- the number is 0 exactly where the mark is a dot or a disc
  pub zero : mark_number mark ≡ 0 → ((p : Point) × (mark ≡ Dot p)) ⊎ ((p : Point) × (x : Float) × (mark ≡ Disc p x))
  pub dot : (p : Point) → mark ≡ Dot p → mark_number mark ≡ 0
  pub disc : (p : Point) (x : Float) → mark ≡ Disc p x → mark_number mark ≡ 0
  -- else it is one of the fourteen with its line, and the coordinates and the radius are 0
  pub refused : (r : RefusalNumbers) → mark ≡ RefusedMark r
      → (is_refusal_at (mark_number mark) (mark_line mark) ≡ true) × (mark_point mark ≡ record { horizontal = positive_zero; vertical = positive_zero })
      × (mark_radius mark ≡ positive_zero)

-- a mark that is no refusal, or a listed one
abbrev pub ListedMark : MarkOutcome → Type 0
ListedMark (Dot p) = Unit {0}
ListedMark (Disc p x) = Unit {0}
ListedMark (RefusedMark r) = is_refusal_at r.number r.line ≡ true

pub mark_answered : (mark : MarkOutcome) → ListedMark mark → MarkAnswered mark
mark_answered (Dot p) listed =
    record { zero = λ _. inl (p, refl); dot = λ _ _. refl; disc = λ _ _ _. refl; refused = λ r e. impossible (cc) }
mark_answered (Disc p x) listed =
    record { zero = λ _. inr (p, x, refl); dot = λ _ _. refl; disc = λ _ _ _. refl; refused = λ r e. impossible (cc) }
mark_answered (RefusedMark r) listed =
    record {
      zero = λ z. clash listed (ap (λ (number : ℕ). is_refusal_at number r.line) z);
      dot = λ _ e. impossible (cc);
      disc = λ _ _ e. impossible (cc);
      refused = λ _ _. (listed, refl, refl);
    }

pub chart_answered : (f : Figures) (h v : ℕ) → MarkAnswered (chart_mark total channel_types f h v)
unfolding chart_mark
chart_answered f h v =
    each_answer MarkAnswered (figures_known total channel_types f && (channel_within f.n h && channel_within f.n v))
    (λ _. mark_answered (refused_mark outside_limits) refl) (λ _. shown f.ball.scaled_squared_radius)
  where
    shown : (M : ℕ) → MarkAnswered (mark_of total (projected_centre total f h v) M)
    shown zero = mark_answered (Dot (projected_centre total f h v)) tt
    shown (suc k) = mark_answered (Disc (projected_centre total f h v) (fraction_of total (pos (ceiling_root (suc k))))) tt
