-- Demand 1, which refusal a call for C and Rust returns where several apply, for the total, the row limit and the types of the calls; part of
-- promise 1.4 in Refusals.
--     RoomLast outcome room answer_with answer     13 for too little lent room comes after every refusal of the call
--     GivenRefused                                8 for what is given in numbers and lent slices comes first
--     ReferenceRoom                               reference text: 13 for the lent codes comes last, after 7
--     ExportsRefused, exports_refused             the calls
use Rattle.std.specs.Prelude.{◌<◌, ◌≤◌, ℕ, ◌≡◌, refl, Bool, ◌&&◌, false, true, List, leb, ℤ, length}
use Rattle.std.proofs.Common.{zero-le, ◌∙◌, ap, le-leb}
use Rattle.std.proofs.lemmas.Bool.{lt-leb}
use Rattle.refusal.specs.Number.{buffer_short, outside_limits}
use Rattle.refusal.specs.Outcome.{line_of, number_of, refused, require, Outcome, Accepted, Refused, RefusalNumbers}
use Rattle.limits.specs.Limits.{channel_limit, row_limit, total}
use Rattle.lent.specs.Clauses.{not_written, with_room}
use Rattle.checking.specs.Check.{checking}
use Rattle.drawing.specs.Draw.{drawing}
use Rattle.channel.specs.Channel.{channel_types}
use Rattle.reference.specs.Clauses.{reference_read, refused_reference, ReferenceOutcome}
use Rattle.reading.specs.Verdict.{judged, refused_verdict}
use Rattle.record_read.specs.Clauses.{record_read}
use Rattle.record_write.specs.Clauses.{record_written}
use Rattle.chart.specs.Mark.{chart_mark, refused_mark}
use Rattle.panel_steps.specs.Panel.{panel_shown, refused_panel}
use Rattle.export_answers.specs.Clauses.{envelope_in_numbers, written_in_numbers}
use Rattle.export_figures.specs.Clauses.{figures_given}
use Rattle.export_figures.specs.declared.FiguresGiven.{FiguresGiven}
use Rattle.export_ball.specs.Clauses.{check_answer, check_in_numbers, draw_answer}
use Rattle.export_reference.specs.Clauses.{reference_answer, reference_in_numbers}
use Rattle.export_reading.specs.Clauses.{judge_answer, verdict_in_numbers}
use Rattle.export_record.specs.ContractLaws.{write_chosen}
use Rattle.export_record.specs.Clauses.{envelope_given, envelope_whole, read_answer, write_answer}
use Rattle.export_chart.specs.Clauses.{chart_answer, mark_in_numbers, panel_answer, panel_given}
use Rattle.promises.specs.ListedAnswers.{answers_listed}

-- ---- 8 first

pub record GivenRefused (given : FiguresGiven) (codes : List ℕ) (X : List ℤ) : Type 0 where
  -- reading judged, chart and panel: an ending outside 0 and 1, before any test of the call
  pub judge_8 : (text : List ℕ) → 1 < given.settled → judge_answer total channel_types given codes X text ≡ verdict_in_numbers (refused_verdict outside_limits 0)
  pub judge_else : (text : List ℕ) → given.settled ≤ 1
      → judge_answer total channel_types given codes X text ≡ verdict_in_numbers (judged total channel_types (figures_given given codes X) text)
  pub chart_8 : (h v : ℕ) → 1 < given.settled → chart_answer total channel_types given codes X h v ≡ mark_in_numbers (refused_mark outside_limits)
  pub chart_else : (h v : ℕ) → given.settled ≤ 1
      → chart_answer total channel_types given codes X h v ≡ mark_in_numbers (chart_mark total channel_types (figures_given given codes X) h v)
  pub panel_8 : 1 < given.settled → panel_given total channel_types given codes X ≡ refused_panel outside_limits
  pub panel_else : given.settled ≤ 1 → panel_given total channel_types given codes X ≡ panel_shown total channel_types (figures_given given codes X)
  -- record written: what is no whole envelope, before any test of the call
  pub whole_is : (ws : List ℕ) (m : ℕ)
      → envelope_whole row_limit given codes X ws m
      ≡ ((leb given.settled 1 && (leb given.n channel_limit && (leb given.n (length codes) && leb given.n (length X))))
      && (leb m (length ws) && leb (length ws) row_limit))
  pub write_8 : (ws : List ℕ) (rows : List ℤ) (m places : ℕ) → envelope_whole row_limit given codes X ws m ≡ false
      → write_answer total row_limit channel_types given codes X ws rows m places ≡ written_in_numbers (not_written (refused outside_limits))
  pub write_else : (ws : List ℕ) (rows : List ℤ) (m places : ℕ) → envelope_whole row_limit given codes X ws m ≡ true
      → write_answer total row_limit channel_types given codes X ws rows m places
      ≡ written_in_numbers (record_written total row_limit channel_types rows m (envelope_given row_limit given codes X ws) places)

given-refused : (given : FiguresGiven) (codes : List ℕ) (X : List ℤ) → GivenRefused given codes X
unfolding judge_answer chart_answer panel_given
given-refused given codes X =
    let f = figures_given given codes X in
    let outside : 1 < given.settled → leb given.settled 1 ≡ false = lt-leb given.settled 1 in
    let known : given.settled ≤ 1 → leb given.settled 1 ≡ true = le-leb given.settled 1 in
    record {
      judge_8 = λ text h. ap (λ (b : Bool). verdict_in_numbers (require b (refused_verdict outside_limits 0) (λ _. judged total channel_types f text))) (outside h);
      judge_else = λ text h. ap (λ (b : Bool). verdict_in_numbers (require b (refused_verdict outside_limits 0) (λ _. judged total channel_types f text))) (known h);
      chart_8 = λ x y h. ap (λ (b : Bool). mark_in_numbers (require b (refused_mark outside_limits) (λ _. chart_mark total channel_types f x y))) (outside h);
      chart_else = λ x y h. ap (λ (b : Bool). mark_in_numbers (require b (refused_mark outside_limits) (λ _. chart_mark total channel_types f x y))) (known h);
      panel_8 = λ h. ap (λ (b : Bool). require b (refused_panel outside_limits) (λ _. panel_shown total channel_types f)) (outside h);
      panel_else = λ h. ap (λ (b : Bool). require b (refused_panel outside_limits) (λ _. panel_shown total channel_types f)) (known h);
      whole_is = λ ws m. refl;
      write_8 = λ ws rows m places. write_chosen row_limit given codes X ws m total channel_types rows places;
      write_else = λ ws rows m places. write_chosen row_limit given codes X ws m total channel_types rows places;
    }

-- ---- 13 last

-- the outcome is that of the call, and `answer_with` what is answered with another
pub record RoomLast {A : Type 0} (outcome : Outcome) (room : Bool) (answer_with : Outcome → A) (answer : A) : Type 0 where
  pub refused_first : (r : RefusalNumbers) → outcome ≡ Refused r → answer ≡ answer_with (Refused r)
  pub short_13 : outcome ≡ Accepted → room ≡ false → answer ≡ answer_with (refused buffer_short)
  pub else_accepted : outcome ≡ Accepted → room ≡ true → answer ≡ answer_with Accepted

room_last : {A : Type 0} (outcome : Outcome) (room : Bool) (answer_with : Outcome → A) → RoomLast outcome room answer_with (answer_with (with_room room outcome))
room_last outcome room answer_with =
    record {
      refused_first = λ r is. ap (λ (o : Outcome). answer_with (with_room room o)) is;
      short_13 = λ is short. ap (λ (o : Outcome). answer_with (with_room room o)) is ∙ ap (λ (b : Bool). answer_with (with_room b Accepted)) short;
      else_accepted = λ is fits. ap (λ (o : Outcome). answer_with (with_room room o)) is ∙ ap (λ (b : Bool). answer_with (with_room b Accepted)) fits;
    }

pub record ReferenceRoom (text : List ℕ) (table_places code-places : ℕ) : Type 0 where
  pub refused_first : (r : RefusalNumbers) → (reference_read row_limit channel_types text table_places).outcome ≡ Refused r
      → reference_answer (reference_read row_limit channel_types text table_places) code-places ≡ reference_in_numbers (refused_reference (Refused r))
  pub short_13 : code-places < (reference_read row_limit channel_types text table_places).n
      → reference_answer (reference_read row_limit channel_types text table_places) code-places ≡ reference_in_numbers (refused_reference (refused buffer_short))
  pub else_read : (reference_read row_limit channel_types text table_places).n ≤ code-places
      → reference_answer (reference_read row_limit channel_types text table_places) code-places
      ≡ reference_in_numbers (reference_read row_limit channel_types text table_places)

reference_room : (text : List ℕ) (table_places code-places : ℕ) → ReferenceRoom text table_places code-places
reference_room text table_places code-places =
    let read = reference_read row_limit channel_types text table_places in
    let chosen : (b : Bool) → leb read.n code-places ≡ b
    → reference_answer read code-places ≡ reference_in_numbers (require b (refused_reference (refused buffer_short)) (λ _. read)) =
    λ b. ap (λ (b : Bool). reference_in_numbers (require b (refused_reference (refused buffer_short)) (λ _. read))) in
    record {
      refused_first = λ r is.
          ap (λ (a : ReferenceOutcome). reference_answer a code-places) ((answers_listed.of_reference text table_places).whole r is)
          ∙ ap (λ (b : Bool). reference_in_numbers (require b (refused_reference (refused buffer_short)) (λ _. refused_reference (Refused r)))) (le-leb 0 code-places zero-le);
      short_13 = λ h. chosen false (lt-leb read.n code-places h);
      else_read = λ h. chosen true (le-leb read.n code-places h);
    }

-- ---- the calls

pub record ExportsRefused : Type 0 where
  pub of_given : (given : FiguresGiven) (codes : List ℕ) (X : List ℤ) → GivenRefused given codes X
  -- drawing: 8, 9, 13
  pub of_drawing : (rows : List ℤ) (m n budget centre-places weight-places : ℕ) → let d = drawing total row_limit rows m n budget in
      RoomLast d.outcome (leb n centre-places && leb m weight-places) (λ o. envelope_in_numbers o d.ball d.moves)
      (draw_answer d m n centre-places weight-places)
  -- check: 8, 12, 13
  pub of_check : (rows : List ℤ) (m n : ℕ) (ws : List ℕ) (centre-places : ℕ) → let c = checking total row_limit rows m n ws in
      RoomLast c.outcome (leb n centre-places) (λ o. check_in_numbers o c) (check_answer c n centre-places)
  pub of_reference : (text : List ℕ) (table_places code-places : ℕ) → ReferenceRoom text table_places code-places
  -- record read: 8, 1, 11, 12, 13
  pub of_record : (rows : List ℤ) (m n : ℕ) (codes text : List ℕ) (centre-places weight-places : ℕ)
      → let r = record_read total row_limit channel_types rows m n codes text in
      RoomLast r.outcome (leb n centre-places && leb m weight-places)
      (λ o. envelope_in_numbers o r.envelope.figures.ball r.envelope.figures.moves) (read_answer r m n centre-places weight-places)
  -- panel: 8, 13
  pub of_panel : (given : FiguresGiven) (codes : List ℕ) (X : List ℤ) (n places : ℕ) → let p = panel_given total channel_types given codes X in
      RoomLast p.outcome (leb n places) (λ o. record { number = number_of o; line = line_of o }) (panel_answer p n places)

pub exports_refused : ExportsRefused
exports_refused =
    record {
      of_given = given-refused;
      of_drawing = λ rows m n budget centre-places weight-places. let d = drawing total row_limit rows m n budget in
          room_last d.outcome (leb n centre-places && leb m weight-places) (λ o. envelope_in_numbers o d.ball d.moves);
      of_check = λ rows m n ws centre-places. let c = checking total row_limit rows m n ws in
          room_last c.outcome (leb n centre-places) (λ o. check_in_numbers o c);
      of_reference = reference_room;
      of_record = λ rows m n codes text centre-places weight-places. let r = record_read total row_limit channel_types rows m n codes text in
          room_last r.outcome (leb n centre-places && leb m weight-places)
          (λ o. envelope_in_numbers o r.envelope.figures.ball r.envelope.figures.moves);
      of_panel = λ given codes X n places.
          room_last (panel_given total channel_types given codes X).outcome (leb n places) (λ o. record { number = number_of o; line = line_of o });
    }
