-- Demand 1, that each call for C and Rust that is accepted fills each lent slice by a count within it and within its source, for the total,
-- the row limit and the types of the calls; part of promise 1.2 in Results.
--     ExportCounts, export_counts     each call that fills a lent slice; the programs' counts are those of Lent
use Rattle.std.specs.Prelude.{◌*◌, ◌≤◌, ℕ, ◌≡◌, refl, Bool, ◌&&◌, true, List, leb, negsuc, pos, ℤ, length}
use Rattle.std.proofs.Common.{zero-le, ◌∙◌, ap, arith, leb-true}
use Rattle.std.proofs.Math.Option.{some}
use Rattle.std.proofs.lemmas.List.{length-replicate}
use Rattle.integers.specs.Tests.{both, unlike}
use Rattle.lists.specs.Padded.{padded-length}
use Rattle.refusal.specs.OutcomeLaws.{each_answer}
use Rattle.limits.specs.Limits.{channel_limit, row_limit, total}
use Rattle.lent.specs.ContractLaws.{room_accepted}
use Rattle.geometry.specs.Places.{centre_of}
use Rattle.geometry.specs.PlacesLaws.{length_centre_list}
use Rattle.geometry.specs.TableLaws.{within-table}
use Rattle.ball.specs.Ball.{ball_of, filled_ball}
use Rattle.ball.specs.declared.Ball.{Ball}
use Rattle.checking.specs.Check.{checking, Checked}
use Rattle.checking.specs.CheckLaws.{checking-checked}
use Rattle.checking.specs.Demand.{checking-accepted, checking_zero}
use Rattle.drawing.specs.Demand.{drawing-accepted, drawing_is, drawing_zero}
use Rattle.drawing.specs.Draw.{drawing, DrawingOutcome}
use Rattle.drawing.specs.DrawnWeights.{drawing-length}
use Rattle.channel.specs.Channel.{channel_types}
use Rattle.reference_rows.specs.ReferenceText.{channel_count, codes_of, row_count}
use Rattle.reference_rows.specs.Rows.{Content, faulty, sound}
use Rattle.reference.specs.Clauses.{answer_of, reference_read, values_in, with_table, ReferenceOutcome}
use Rattle.reference.specs.ReferenceLaws.{accepted-rows}
use Rattle.envelope.specs.Figures.{figures_known}
use Rattle.envelope.specs.declared.Envelope.{Envelope}
use Rattle.record_form.specs.WeightsLaws.{weights-length}
use Rattle.record_print.specs.Printed.{record_text}
use Rattle.record_read.specs.Clauses.{record_read, stated_ball}
use Rattle.record_read.specs.ReadLaws.{accepted-read, read_zero}
use Rattle.typed_rows.specs.GivenLaws.{given-within}
use Rattle.panel_steps.specs.Panel.{panel_shown, PanelShown}
use Rattle.export_figures.specs.Clauses.{ending_known, figures_given}
use Rattle.export_figures.specs.declared.FiguresGiven.{FiguresGiven}
use Rattle.export_ball.specs.Clauses.{check_answer, draw_answer}
use Rattle.export_reference.specs.Clauses.{reference_answer}
use Rattle.export_record.specs.Clauses.{envelope_given, envelope_whole, read_answer, write_answer}
use Rattle.export_chart.specs.Clauses.{panel_answer, panel_given}
use Rattle.export_chart.proofs.PanelLaws.{panel_accepted}
use Rattle.promises.specs.House.{text_content}
use Rattle.promises.specs.Lent.{CountWithin, counts_within}
use Rattle.refusal.specs.Outcome.{Accepted}
use Rattle.lent.specs.Clauses.{TextWritten}

pub record ExportCounts : Type 0 where
  -- X, and the weights
  pub of_drawing : (rows : List ℤ) (m n budget centre-places weight-places : ℕ) → let d = drawing total row_limit rows m n budget in
      (draw_answer d m n centre-places weight-places).number ≡ 0
      → CountWithin n d.ball.scaled_centre centre-places × CountWithin m d.weights weight-places
  pub of_check : (rows : List ℤ) (m n : ℕ) (ws : List ℕ) (centre-places : ℕ) → let c = checking total row_limit rows m n ws in
      (check_answer c n centre-places).number ≡ 0 → CountWithin n c.ball.scaled_centre centre-places
  -- the table, and the codes
  pub of_reference : (text : List ℕ) (table_places code-places : ℕ) → let a = reference_read row_limit channel_types text table_places in
      let r = reference_answer a code-places in
      CountWithin (r.m * r.n) (values_in (text_content text)) table_places × CountWithin r.n a.codes code-places
  -- X, and the weights
  pub of_record : (rows : List ℤ) (m n : ℕ) (codes text : List ℕ) (centre-places weight-places : ℕ)
      → let r = record_read total row_limit channel_types rows m n codes text in
      (read_answer r m n centre-places weight-places).number ≡ 0
      → CountWithin n r.envelope.figures.ball.scaled_centre centre-places × CountWithin m r.envelope.weights weight-places
  pub of_writing : (given : FiguresGiven) (codes : List ℕ) (X : List ℤ) (ws : List ℕ) (rows : List ℤ) (m places : ℕ)
      → CountWithin (write_answer total row_limit channel_types given codes X ws rows m places).length
      (record_text channel_types (envelope_given row_limit given codes X ws)) places
  -- the steps
  pub of_panel : (given : FiguresGiven) (codes : List ℕ) (X : List ℤ) (places : ℕ) → let p = panel_given total channel_types given codes X in
      (panel_answer p given.n places).number ≡ 0 → CountWithin given.n p.steps places

-- two lent slices, of n and of m places
both_fit : (n m centre-places weight-places : ℕ) → (leb n centre-places && leb m weight-places) ≡ true → (n ≤ centre-places) × (m ≤ weight-places)
both_fit n m centre-places weight-places room =
    let rooms = both (leb n centre-places) (leb m weight-places) room in
    (leb-true n centre-places rooms.0, leb-true m weight-places rooms.1)

-- ---- a drawing, a check

drawing_sources : (rows : List ℤ) (m n budget : ℕ) → let d = drawing total row_limit rows m n budget in
    d.outcome ≡ Accepted → (n ≤ length d.ball.scaled_centre) × (m ≤ length d.weights)
unfolding ball_of
drawing_sources rows m n budget is =
    let d = drawing total row_limit rows m n budget in
    let table = within-table rows m n (drawing-accepted total row_limit rows m n budget is).0 in
    let eight : length d.ball.scaled_centre ≡ channel_limit =
    ap (λ (x : DrawingOutcome). length x.ball.scaled_centre) (drawing_is total row_limit rows m n budget is) ∙ length_centre_list n _ in
    (omega (arith, eight, table.channels), omega (arith, drawing-length total row_limit rows m n budget, table.rows_most))

check_sources : (rows : List ℤ) (m n : ℕ) (ws : List ℕ) → let c = checking total row_limit rows m n ws in
    c.outcome ≡ Accepted → n ≤ length c.ball.scaled_centre
unfolding ball_of
check_sources rows m n ws is =
    let c = checking total row_limit rows m n ws in
    let accepted = checking-accepted total row_limit rows m n ws is in
    let eight : length c.ball.scaled_centre ≡ channel_limit =
    ap (λ (x : Checked). length x.ball.scaled_centre)
    (checking-checked total row_limit rows m n ws accepted.0 accepted.1 accepted.2) ∙ length_centre_list n _ in
    omega (arith, eight, (within-table rows m n accepted.0).channels)

-- ---- a reference text

reference_codes : (text : List ℕ) (places : ℕ) → let a = reference_read row_limit channel_types text places in a.n ≤ length a.codes
unfolding reference_read
reference_codes text places = go (text_content text) refl
  where
    go : (c : Content) → text_content text ≡ c → let a = with_table places (answer_of c) in a.n ≤ length a.codes
    go (faulty number line) is = each_answer (λ (a : ReferenceOutcome). a.n ≤ length a.codes) (leb 0 places) (λ _. zero-le) (λ _. zero-le)
    go (sound found) is =
        each_answer (λ (a : ReferenceOutcome). a.n ≤ length a.codes) (leb (row_count found * channel_count found) places) (λ _. zero-le)
        (λ _. omega (arith, padded-length channel_limit (codes_of found), (accepted-rows row_limit channel_types text found is).3))

-- ---- a record

stated_places : (X : List ℤ) (M L : ℤ) (s : Bool) (b : Ball) → stated_ball X M L s ≡ some b → length X ≡ length b.scaled_centre
stated_places X (pos M) (pos L) s b is = let same : filled_ball X M L s ≡ b = cc in ap (λ (x : Ball). length x.scaled_centre) same
stated_places X (pos M) (negsuc k) s b is = unlike is
stated_places X (negsuc k) L s b is = unlike is

record_sources : (rows : List ℤ) (m n : ℕ) (codes text : List ℕ) → let r = record_read total row_limit channel_types rows m n codes text in
    r.outcome ≡ Accepted → (n ≤ length r.envelope.figures.ball.scaled_centre) × (m ≤ length r.envelope.weights)
record_sources rows m n codes text is =
    let a = accepted-read total row_limit channel_types rows m n codes text is in
    let table = within-table rows m n (given-within row_limit channel_types rows m n codes a.given).0 in
    let x = a.stated in
    let eight = stated_places _ x.result.scaled_squared_radius x.result.scaled_lower_bound x.result.settled a.ball a.states in (
      omega (
        arith,
        ap (λ (e : Envelope). length e.figures.ball.scaled_centre) a.envelope_is,
        eight,
        length_centre_list (length x.codes) (centre_of x.scaled_centre),
        table.channels,
      ),
      omega (arith, ap (λ (e : Envelope). length e.weights) a.envelope_is, weights-length row_limit x.weights, table.rows_most),
    )

writing-given : (given : FiguresGiven) (codes : List ℕ) (X : List ℤ) (ws : List ℕ) (rows : List ℤ) (m places : ℕ)
    → CountWithin (write_answer total row_limit channel_types given codes X ws rows m places).length
    (record_text channel_types (envelope_given row_limit given codes X ws)) places
unfolding write_answer
writing-given given codes X ws rows m places =
    let e = envelope_given row_limit given codes X ws in
    each_answer (λ (w : TextWritten). CountWithin w.length (record_text channel_types e) places) (envelope_whole row_limit given codes X ws m)
    (λ _. (zero-le, zero-le)) (λ _. counts_within.of_writing rows m e places)

-- ---- a panel

panel_steps : (given : FiguresGiven) (codes : List ℕ) (X : List ℤ) → length (panel_given total channel_types given codes X).steps ≡ channel_limit
unfolding panel_given panel_shown
panel_steps given codes X =
    let f = figures_given given codes X in
    each_answer (λ (p : PanelShown). length p.steps ≡ channel_limit) (ending_known given) (λ _. length-replicate channel_limit (pos 0)) (λ _.
    each_answer (λ (p : PanelShown). length p.steps ≡ channel_limit) (figures_known total channel_types f) (λ _. length-replicate channel_limit (pos 0)) (λ _.
    length_centre_list f.n _))

pub export_counts : ExportCounts
export_counts =
    record {
      of_drawing = λ rows m n budget centre-places weight-places z.
          let (room, (centre, weights)) =
          room_accepted (leb n centre-places && leb m weight-places) (drawing total row_limit rows m n budget).outcome
          (λ zero. let is = drawing_zero total row_limit rows m n budget zero in (is, drawing_sources rows m n budget is)) z in
          let fit = both_fit n m centre-places weight-places room in
          ((centre, fit.0), (weights, fit.1));
      of_check = λ rows m n ws centre-places z.
          let (room, centre) =
          room_accepted (leb n centre-places) (checking total row_limit rows m n ws).outcome
          (λ zero. let is = checking_zero total row_limit rows m n ws zero in (is, check_sources rows m n ws is)) z in
          (centre, leb-true n centre-places room);
      of_reference = λ text table_places code-places.
          let a = reference_read row_limit channel_types text table_places in
          each_answer (λ (r : ReferenceOutcome). CountWithin (r.m * r.n) (values_in (text_content text)) table_places × CountWithin r.n a.codes code-places)
          (leb a.n code-places) (λ _. ((zero-le, zero-le), (zero-le, zero-le)))
          (λ room. (counts_within.of_reference text table_places, (reference_codes text table_places, leb-true a.n code-places room)));
      of_record = λ rows m n codes text centre-places weight-places z.
          let (room, (centre, weights)) =
          room_accepted (leb n centre-places && leb m weight-places) (record_read total row_limit channel_types rows m n codes text).outcome
          (λ zero. let is = read_zero total row_limit channel_types rows m n codes text zero in (is, record_sources rows m n codes text is)) z in
          let fit = both_fit n m centre-places weight-places room in
          ((centre, fit.0), (weights, fit.1));
      of_writing = writing-given;
      of_panel = λ given codes X places z.
          let (room, channels) =
          room_accepted (leb given.n places) (panel_given total channel_types given codes X).outcome (panel_accepted total channel_types given codes X) z in
          (omega (arith, panel_steps given codes X, channels), leb-true given.n places room);
    }
