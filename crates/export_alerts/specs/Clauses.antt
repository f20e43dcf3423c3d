-- What the exported trial of alert settings answers.
--     trial_given D types given codes X settings readings     the trial against the figures that are given
use Rattle.std.specs.Prelude.{ℕ, List, ℤ}
use Rattle.refusal.specs.Number.{outside_limits}
use Rattle.channel.specs.Channel.{Types}
use Rattle.alert_trial.specs.Trial.{Trial, faulty, trial_of}
use Rattle.export_figures.specs.Clauses.{answer_given}
use Rattle.export_figures.specs.declared.FiguresGiven.{FiguresGiven}

unfoldable pub trial_given : ℕ → Types → FiguresGiven → List ℕ → List ℤ → List ℕ → List ℕ → Trial
trial_given D types given codes scaled_centre settings readings =
    answer_given (λ f. trial_of D types f settings readings) (faulty outside_limits) given codes scaled_centre
