-- A line of a word and numbers, the first n places of X.
use Rattle.record_print.proofs.PrintSteps.{centre_put}
use Rattle.record_print.proofs.put_centre.Goals as goal

pub returns : goal.returns
returns c = centre_put _ c.put_line.ensures
