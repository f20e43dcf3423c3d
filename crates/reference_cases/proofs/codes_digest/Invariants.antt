-- What a code counts for in the digest.
use Rattle.reference_cases.proofs.codes_digest.Given as goal

abbrev pub ghost-digest : goal.ghost-digest
ghost-digest a = λ code. code
