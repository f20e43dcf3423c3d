-- The records of our own envelopes, for any total D up to 65,536, row limit and sound table of types.
--     drawn-writing, drawn_written       every drawn envelope is written, to a buffer that holds its text
--     drawn_read                         and its record, read against the same rows and codes, gives the drawn envelope itself
--     checked-writing                    so is every envelope of weights that the check accepts, with any moves within their limit
use Rattle.std.specs.Prelude.{ℕ, ◌≤◌, ◌<◌, ◌≡◌, true, List, ℤ, length, take, drop}
use Rattle.std.proofs.Common.{◌∙◌, ap, arith}
use Rattle.lists.specs.Padded.{padded, padded_first, padded-length}
use Rattle.limits.specs.Limits.{total, channel_limit, budget_limit, text_limit}
use Rattle.geometry.specs.TableLaws.{within_limits}
use Rattle.drawing.specs.Draw.{drawing}
use Rattle.checking.specs.Check.{checking}
use Rattle.drawing.specs.Demand.{drawing-accepted}
use Rattle.checking.specs.Demand.{checking-accepted}
use Rattle.drawing.specs.DrawnWeights.{drawing-length}
use Rattle.number.specs.Clauses.{magnitude_limit}
use Rattle.channel.specs.Channel.{Types, codes_known}
use Rattle.channel.specs.ChannelLaws.{SoundTypes}
use Rattle.envelope.specs.Figures.{figures_of, drawn_envelope}
use Rattle.envelope.specs.FigureLaws.{drawn-within, checked-within}
use Rattle.agreement.specs.Agreement.{all_zero}
use Rattle.agreement.specs.AgreementLaws.{agrees_agreed, agreed_weight, drawn-agrees, drawn_cleared, checked-agrees}
use Rattle.envelope.specs.declared.Envelope.{Envelope}
use Rattle.record_print.specs.Printed.{record_text}
use Rattle.record_read.specs.Clauses.{record_read}
use Rattle.record_write.specs.Clauses.{record_written}
use Rattle.lent.specs.Clauses.{written}
use Rattle.record_read.specs.ReadLaws.{accepting}
use Rattle.record_write.specs.WriteLaws.{Writing, writing-written}
use Rattle.record.specs.TripLaws.{Holds, written_envelope}
use Rattle.refusal.specs.Outcome.{Accepted}

module _ (D limit : ℕ) (types : Types) (positive : 0 < D) (rows : List ℤ) (m n : ℕ)
    (codes : List ℕ) (coded : length codes ≡ n) (codes_known_lem : codes_known types codes ≡ true) where
  -- the codes in their eight places
  module _ (most : n ≤ channel_limit) where
    codes_typed : n ≤ length (padded channel_limit codes)
    codes_typed = omega (arith, padded-length channel_limit codes)

    codes_kept : codes_known types (take n (padded channel_limit codes)) ≡ true
    codes_kept = ap (codes_known types) (padded_first channel_limit n codes coded most) ∙ codes_known_lem

  module _ (budget : ℕ) (accepted : (drawing D limit rows m n budget).outcome ≡ Accepted) where
    abbrev own : Envelope
    own = drawn_envelope n (padded channel_limit codes) (drawing D limit rows m n budget)

    most : n ≤ channel_limit
    most = (within_limits limit rows m n (drawing-accepted D limit rows m n budget accepted).0).channels

    pub drawn-writing : Writing D limit types rows m own
    drawn-writing =
        record {
          figures_kept_lem = drawn-within D types n (padded channel_limit codes) (codes_typed most) (codes_kept most) positive limit rows m budget accepted;
          rows_kept = (drawing-accepted D limit rows m n budget accepted).0;
          agreeing = drawn-agrees D limit rows m n positive budget accepted;
        }

    pub drawn_written : (places : ℕ) → length (record_text types own) ≤ places
        → record_written D limit types rows m own places ≡ written (length (record_text types own))
    drawn_written places room = writing-written D limit types rows m own places drawn-writing room

    pub drawn_read : SoundTypes types → D ≤ total → limit < magnitude_limit → length (record_text types own) ≤ text_limit
        → record_read D limit types rows m n (padded channel_limit codes) (record_text types own) ≡ accepting own
    drawn_read types_sound D-most small room =
        let r = drawing D limit rows m n budget in
        let agreed = agrees_agreed D limit rows m n r.ball r.weights drawn-writing.agreeing in
        let holds : Holds limit own = record {
          places = drawing-length D limit rows m n budget;
          short = λ i h. omega (arith, agreed_weight D limit rows m n r.ball r.weights agreed i, D-most);
        } in
        written_envelope D limit types types_sound positive D-most small rows m own holds drawn-writing room
        ∙ ap accepting (drawn_cleared D limit rows m n positive budget accepted codes coded)

  pub checked-writing : (ws : List ℕ) → (checking D limit rows m n ws).outcome ≡ Accepted → (moves : ℕ) → moves ≤ budget_limit
      → (all : List ℕ) → take m all ≡ ws → all_zero (drop m all) ≡ true
      → Writing D limit types rows m (record { figures = figures_of n (padded channel_limit codes) (checking D limit rows m n ws).ball moves; weights = all })
  checked-writing ws accepted moves moves_most all first rest =
      let within = (checking-accepted D limit rows m n ws accepted).0 in
      let most = (within_limits limit rows m n within).channels in
      record {
        figures_kept_lem =
            checked-within D types n (padded channel_limit codes) (codes_typed most) (codes_kept most) positive limit rows m ws moves accepted moves_most;
        rows_kept = within;
        agreeing = checked-agrees D limit rows m n ws accepted all first rest;
      }
