-- What a weight counts for in the digest.
use Rattle.drawing_cases.proofs.weights_digest.Given as goal

abbrev pub ghost-digest : goal.ghost-digest
ghost-digest a = λ weight. weight
