use mathlib.Core.Path.{◌≡◌, refl, ap}
use mathlib.Core.List.{[], ◌∷◌}
use native.Mathlib.Omega.{arith}
use borrow.Author.Rules.{rules}
use lib.IntN.{ℤ, pos}
use lib.ListN.{get_or}
use mir.Syntax.{w32}
use Rattle.std.proofs.lemmas.Int.{to_z-of_z}
use Rattle.integers.specs.Reading.{back}
use Rattle.printing.specs.Clauses.{print_numbers}
use Rattle.printing.specs.ContractLaws.{put_as}
use Rattle.channel.specs.Channel.{channel_types, tag_of}
use Rattle.program_panel.proofs.PanelSteps.{steps_start, steps_next}
use Rattle.program_panel.proofs.put_steps.Goals as goal

pub loop-i-init : goal.loop-i-init
loop-i-init c = steps_start _ _ _ _

pub loop-i-preserved : goal.loop-i-preserved
loop-i-preserved c =
    let put = c.put_step-printed.ensures in
    let step : back w32 (get_or c.args.steps.now c.loop-i.i (pos 0)) ≡ get_or c.args.steps.now c.loop-i.i (pos 0) = search (rules, to_z-of_z) in
    steps_next _ _ _ c.requires.1.0 c.requires.1.1.0 (omega arith) c.loop-i.invariant put.room
    (put_as put.line (ap (λ (z : ℤ). print_numbers (tag_of channel_types (get_or c.args.codes.now c.loop-i.i 0)) (z ∷ [])) step) refl)
