-- Demand 2, limits: 8 never meets an envelope of ours.
--     NeverMetBy8      figures within their limits, which no verdict, chart or panel refuses by 8
--     WeightsLimited   the limits on X, s, M and L of weights
--     promise_2_14     the limits on figures, kept by every drawing, check and accepted record (`LimitsKept`)
-- For the total, the row limit and the types of the calls; the figures of any weights for any total.
use Rattle.std.specs.Prelude.{◌*◌, ◌<◌, ◌≤◌, ℕ, ◌≡◌, refl, true, List, ◌++◌, nat_abs, ℤ, length, take}
use Rattle.std.proofs.Common.{le_refl, le_trans, mul_assoc, mul-le-mul_right, arith}
use Rattle.integers.specs.Sum.{sumℕ}
use Rattle.refusal.specs.Number.{outside_limits}
use Rattle.limits.specs.Limits.{budget_limit, centre_limit, channel_limit, coordinate_limit, distance_limit, row_limit, total}
use Rattle.geometry.proofs.Demand.{ball_most, floor_most}
use Rattle.geometry.proofs.FigureLaws.{centre_most_lem}
use Rattle.geometry.proofs.LimitLaws.{distance-within}
use Rattle.geometry.specs.Figures.{scaled_centre, scaled_lower_bound, scaled_squared_distance, scaled_squared_radius}
use Rattle.geometry.specs.Places.{centre_of}
use Rattle.checking.specs.Check.{checking}
use Rattle.checking.specs.Demand.{checking_tight}
use Rattle.drawing.specs.Demand.{draw_promise}
use Rattle.drawing.specs.Draw.{drawing}
use Rattle.channel.specs.Channel.{channel_types, codes_known}
use Rattle.channel.specs.ChannelLaws.{house_sound}
use Rattle.reference_rows.specs.ReferenceText.{ReferenceText, channel_count, codes_of, row_count, table_of}
use Rattle.reference_rows.specs.Rows.{sound}
use Rattle.envelope.specs.FigureLaws.{checked-within, drawn-within, known_coded, known-within}
use Rattle.envelope.specs.Figures.{channel_codes, figures_known, figures_of, drawn_figures}
use Rattle.envelope.specs.declared.Figures.{Figures}
use Rattle.reading.specs.QuietLaws.{checked_not_8, drawn_not_8, figures_not_8}
use Rattle.reading.specs.Verdict.{judged, verdict_excess, verdict_number}
use Rattle.record_read.specs.Clauses.{record_read}
use Rattle.record_read.specs.ReadLaws.{accepted-read}
use Rattle.record.specs.TripLaws.{accepted-within}
use Rattle.chart.specs.Mark.{chart_mark, mark_number}
use Rattle.chart.specs.OwnLaws.{checked_charted, drawn_charted, figures_charted}
use Rattle.panel_steps.specs.OwnLaws.{checked_shown, drawn_shown, figures_shown}
use Rattle.panel_steps.specs.Panel.{panel_shown}
use Rattle.program_verdicts.specs.SizeLaws.{excess_most}
use Rattle.program_laws.specs.QuietLaws.{reference_checked_not_8, reference_drawn_not_8}
use Rattle.promises.specs.House.{text_content}
use Rattle.refusal.specs.Outcome.{Accepted}

-- figures that no call refuses by 8: within their limits, with known codes
pub record NeverMetBy8 (f : Figures) : Type 0 where
  pub within : figures_known total channel_types f ≡ true
  -- which says that n is from 1 to 8, with as many known codes, and X, M, L and the moves are within their limits
  pub channels : (1 ≤ f.n) × (f.n ≤ channel_limit) × (codes_known channel_types (channel_codes f) ≡ true)
  pub centre_limit : (k : ℕ) → k < f.n → nat_abs (centre_of f.ball.scaled_centre k) ≤ centre_limit total
  pub radius_limit : f.ball.scaled_squared_radius ≤ distance_limit total
  pub floor_limit : f.ball.scaled_lower_bound ≤ distance_limit total
  pub moves_limit : f.moves ≤ budget_limit
  -- so that no verdict, chart or panel answers 8
  pub judged_not_8 : (text : List ℕ) → verdict_number (judged total channel_types f text) ≡ outside_limits → ⊥
  pub charted : (h v : ℕ) → 1 ≤ h → h ≤ f.n → 1 ≤ v → v ≤ f.n → mark_number (chart_mark total channel_types f h v) ≡ 0
  pub shown : (panel_shown total channel_types f).outcome ≡ Accepted

-- from the three that are proved of each kind of figures
never_8 : (f : Figures) → figures_known total channel_types f ≡ true
    → ((text : List ℕ) → verdict_number (judged total channel_types f text) ≡ outside_limits → ⊥)
    → ((h v : ℕ) → 1 ≤ h → h ≤ f.n → 1 ≤ v → v ≤ f.n → mark_number (chart_mark total channel_types f h v) ≡ 0)
    → (panel_shown total channel_types f).outcome ≡ Accepted → NeverMetBy8 f
never_8 f within judged_not_8 charted shown =
    let limits = known-within total channel_types f within in
    record {
      within = within;
      channels = (limits.some_channel, limits.channels, (known_coded total channel_types f within).each_known);
      centre_limit = limits.centre_limit;
      radius_limit = limits.radius_limit;
      floor_limit = limits.floor_limit;
      moves_limit = limits.moves_limit;
      judged_not_8 = judged_not_8;
      charted = charted;
      shown = shown;
    }

-- the figures of weights of sum D over rows within the limit on coordinates
pub record WeightsLimited (D m n : ℕ) (a : ℕ → ℕ → ℤ) (w : ℕ → ℕ) : Type 0 where
  pub centre : (k : ℕ) → k < n → nat_abs (scaled_centre a w m k) ≤ centre_limit D
  pub distance : (i : ℕ) → i < m → scaled_squared_distance D n (scaled_centre a w m) (a i) ≤ distance_limit D
  pub radius : scaled_squared_radius D m n a (scaled_centre a w m) ≤ distance_limit D
  pub floor : scaled_lower_bound D m n a w ≤ distance_limit D

pub record LimitsKept : Type 0 where
  -- the limits on X, on s, M and L, and on moves
  pub limits_are : (centre_limit total ≡ 262144000) × (distance_limit total ≡ 2199023255552000000) × (budget_limit ≡ 1000000)
  pub weights : (D m n : ℕ) (a : ℕ → ℕ → ℤ) (w : ℕ → ℕ) → 0 < D → 0 < m → sumℕ m w ≡ D → n ≤ channel_limit
      → ((i k : ℕ) → i < m → k < n → nat_abs (a i k) ≤ coordinate_limit) → WeightsLimited D m n a w
  -- what the figures of a drawing and of a check keep, the moves included
  pub drawing_kept : (rows : List ℤ) (m n budget : ℕ) → (drawing total row_limit rows m n budget).outcome ≡ Accepted
      → ((k : ℕ) → nat_abs (centre_of (drawing total row_limit rows m n budget).ball.scaled_centre k) ≤ centre_limit total)
      × ((drawing total row_limit rows m n budget).ball.scaled_squared_radius ≤ distance_limit total)
      × ((drawing total row_limit rows m n budget).ball.scaled_lower_bound ≤ distance_limit total)
      × ((drawing total row_limit rows m n budget).moves ≤ budget_limit)
  pub check_kept : (rows : List ℤ) (m n : ℕ) (ws : List ℕ) → (checking total row_limit rows m n ws).outcome ≡ Accepted
      → ((k : ℕ) → nat_abs (centre_of (checking total row_limit rows m n ws).ball.scaled_centre k) ≤ centre_limit total)
      × ((checking total row_limit rows m n ws).ball.scaled_squared_radius ≤ distance_limit total)
      × ((checking total row_limit rows m n ws).ball.scaled_lower_bound ≤ distance_limit total)
  -- so that 8 meets none of them, nor the figures of an accepted record
  pub drawings : (n : ℕ) (codes : List ℕ) → n ≤ length codes → codes_known channel_types (take n codes) ≡ true → (rows : List ℤ) (m budget : ℕ)
      → (drawing total row_limit rows m n budget).outcome ≡ Accepted → NeverMetBy8 (drawn_figures n codes (drawing total row_limit rows m n budget))
  pub checks : (n : ℕ) (codes : List ℕ) → n ≤ length codes → codes_known channel_types (take n codes) ≡ true → (rows : List ℤ) (m : ℕ)
      → (ws : List ℕ) (moves : ℕ) → (checking total row_limit rows m n ws).outcome ≡ Accepted → moves ≤ budget_limit
      → NeverMetBy8 (figures_of n codes (checking total row_limit rows m n ws).ball moves)
  pub records : (rows : List ℤ) (m n : ℕ) (codes text : List ℕ) → (record_read total row_limit channel_types rows m n codes text).outcome ≡ Accepted
      → NeverMetBy8 (record_read total row_limit channel_types rows m n codes text).envelope.figures
  -- nor a verdict on what is drawn from an accepted reference text or checked against it, whatever follows its codes and its table
  pub reference_drawn : (text : List ℕ) (found : ReferenceText) → text_content text ≡ sound found
      → (more : List ℤ) (held : List ℕ) → take (channel_count found) held ≡ codes_of found → (budget : ℕ) → budget ≤ budget_limit → (reading : List ℕ)
      → verdict_number (judged total channel_types
      (drawn_figures (channel_count found) held (drawing total row_limit (table_of found ++ more) (row_count found) (channel_count found) budget)) reading)
      ≡ outside_limits → ⊥
  pub reference_checked : (text : List ℕ) (found : ReferenceText) → text_content text ≡ sound found
      → (more : List ℤ) (held : List ℕ) → take (channel_count found) held ≡ codes_of found → (ws : List ℕ) (moves : ℕ)
      → (checking total row_limit (table_of found ++ more) (row_count found) (channel_count found) ws).outcome ≡ Accepted → moves ≤ budget_limit
      → (reading : List ℕ)
      → verdict_number (judged total channel_types
      (figures_of (channel_count found) held (checking total row_limit (table_of found ++ more) (row_count found) (channel_count found) ws).ball moves) reading)
      ≡ outside_limits → ⊥
  -- the excess of an Alarm is within the limit on s
  pub excess : (f : Figures) (text : List ℕ) → verdict_excess (judged total channel_types f text) ≤ distance_limit total

pub promise_2_14 : LimitsKept
promise_2_14 =
    record {
      limits_are = (refl, refl, refl);
      weights = λ D m n a w positive some sum channels within.
          let X-most : (k : ℕ) → k < n → nat_abs (scaled_centre a w m k) ≤ centre_limit D = λ k l. centre_most_lem D m coordinate_limit k a w sum (λ i h. within i k h l) in
          let side = 2 * centre_limit D in
          let most : n * (side * side) ≤ distance_limit D = omega (arith, mul-le-mul_right (side * side) channels, mul_assoc channel_limit side side) in
          record {
            centre = X-most;
            distance = λ i l. distance-within D D n (scaled_centre a w m) (a i) (le_refl D) channels (λ k h. within i k l h) X-most;
            radius = le_trans (ball_most D m n a w positive some sum coordinate_limit within) most;
            floor = le_trans (floor_most D m n a w positive some sum coordinate_limit within) most;
          };
      drawing_kept = λ rows m n budget is.
          let promise = draw_promise rows m n budget (drawing total row_limit rows m n budget) refl in
          let tight = promise.tight is in
          (tight.centre_limit, tight.radius_limit, le_trans tight.floor tight.radius_limit, promise.moves_limit is);
      check_kept = λ rows m n ws is.
          let tight = checking_tight total row_limit rows m n ws is (omega arith) in
          (tight.centre_limit, tight.radius_limit, le_trans tight.floor tight.radius_limit);
      drawings = λ n codes typed known rows m budget is.
          never_8 (drawn_figures n codes (drawing total row_limit rows m n budget))
          (drawn-within total channel_types n codes typed known (omega arith) row_limit rows m budget is) (drawn_not_8 total channel_types n codes typed known (omega arith) row_limit rows m budget is)
          (drawn_charted total channel_types n codes typed known (omega arith) row_limit rows m budget is) (drawn_shown total channel_types n codes typed known (omega arith) row_limit rows m budget is);
      checks = λ n codes typed known rows m ws moves is most.
          never_8 (figures_of n codes (checking total row_limit rows m n ws).ball moves)
          (checked-within total channel_types n codes typed known (omega arith) row_limit rows m ws moves is most) (checked_not_8 total channel_types n codes typed known (omega arith) row_limit rows m ws moves is most)
          (checked_charted total channel_types n codes typed known (omega arith) row_limit rows m ws moves is most) (checked_shown total channel_types n codes typed known (omega arith) row_limit rows m ws moves is most);
      records = λ rows m n codes text is.
          let e = (record_read total row_limit channel_types rows m n codes text).envelope in
          let within = accepted-within total row_limit channel_types house_sound rows m n codes text e (accepted-read total row_limit channel_types rows m n codes text is) (omega arith) in
          never_8 e.figures within (figures_not_8 total channel_types e.figures within) (figures_charted total channel_types e.figures within)
          (figures_shown total channel_types e.figures within);
      reference_drawn = λ text found is more held taken. reference_drawn_not_8 total (omega arith) row_limit channel_types house_sound text found is more held taken;
      reference_checked = λ text found is more held taken. reference_checked_not_8 total (omega arith) row_limit channel_types house_sound text found is more held taken;
      excess = excess_most total channel_types house_sound;
    }
