-- `drawing::drawn_within` meets its contract: the run gives the weights and moves of the definition, and the ball is that of the weights.
use Rattle.drawing.proofs.Laws.{drew}
use Rattle.drawing.proofs.drawn_within.Goals as goal

pub returns : goal.returns
returns c = drew c.run-ended.ensures c.ball_of_scores.ensures
