-- The figures are those that are given, and the copy fills an array of 0 with the weights, as the definition does.
use mathlib.Core.Path.{ap₂}
use Rattle.envelope.specs.Figures.{envelope_of}
use Rattle.export_record.proofs.envelope_given.Goals as goal

pub returns : goal.returns
returns c = ap₂ envelope_of c.figures_kept-figures.ensures c.fill.ensures
