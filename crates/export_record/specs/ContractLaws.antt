-- Laws of the exported calls on records.
--     whole_places     what is given whole has the places of an envelope
--     write_chosen     the answer of writing, by whether what is given is whole
use Rattle.std.specs.Prelude.{ℕ, ◌≤◌, ◌≡◌, Bool, true, ◌&&◌, List, leb, ℤ, length}
use Rattle.std.proofs.Math.Path.{ap}
use Rattle.std.proofs.Common.{leb-true}
use Rattle.integers.specs.Tests.{both}
use Rattle.refusal.specs.Number.{outside_limits}
use Rattle.refusal.specs.Outcome.{refused, require}
use Rattle.limits.specs.Limits.{channel_limit}
use Rattle.lent.specs.Clauses.{not_written}
use Rattle.channel.specs.Channel.{Types}
use Rattle.record_write.specs.Clauses.{record_written}
use Rattle.export_answers.specs.Clauses.{written_in_numbers}
use Rattle.export_figures.specs.Clauses.{ending_known}
use Rattle.export_figures.specs.declared.FiguresGiven.{FiguresGiven}
use Rattle.export_record.specs.Clauses.{envelope_whole, FiguresPlaces, envelope_given, write_answer}

module _ (limit : ℕ) (given : FiguresGiven) (codes : List ℕ) (scaled_centre : List ℤ) (ws : List ℕ) (m : ℕ) where
  pub whole_places : envelope_whole limit given codes scaled_centre ws m ≡ true → FiguresPlaces given.n codes scaled_centre × (length ws ≤ limit)
  whole_places h =
      let counted = leb given.n channel_limit in
      let coded = leb given.n (length codes) in
      let placed = leb given.n (length scaled_centre) in
      let parts = both (ending_known given && (counted && (coded && placed))) (leb m (length ws) && leb (length ws) limit) h in
      let numbers = both counted (coded && placed) (both (ending_known given) (counted && (coded && placed)) parts.0).1 in
      let lent = both coded placed numbers.1 in (
        record {
          channels = leb-true given.n channel_limit numbers.0;
          typed = leb-true given.n (length codes) lent.0;
          places = leb-true given.n (length scaled_centre) lent.1;
        },
        leb-true (length ws) limit (both (leb m (length ws)) (leb (length ws) limit) parts.1).1,
      )

  module _ (D : ℕ) (types : Types) (rows : List ℤ) (places : ℕ) where
    pub write_chosen : {b : Bool} → envelope_whole limit given codes scaled_centre ws m ≡ b
        → write_answer D limit types given codes scaled_centre ws rows m places
        ≡ written_in_numbers
        (require b (not_written (refused outside_limits)) (λ _.
        record_written D limit types rows m (envelope_given limit given codes scaled_centre ws) places))
    unfolding write_answer
    write_chosen e =
        ap (λ (b : Bool). written_in_numbers
        (require b (not_written (refused outside_limits)) (λ _.
        record_written D limit types rows m (envelope_given limit given codes scaled_centre ws) places)))
        e
