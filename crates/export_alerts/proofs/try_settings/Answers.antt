-- The answer in numbers is that of the trial against the figures that are given, and so is what is left in the output.
use Rattle.export_answers.specs.ContractLaws.{numbered}
use Rattle.export_alerts.proofs.try_settings.Goals as goal

pub returns : goal.returns
returns c =
    let handed = numbered _ _ _ c.into.ensures c.trial_given.ensures.answer c.trial_given.ensures.output_filled in
    record { answer = handed.0; output_filled = handed.1 }
