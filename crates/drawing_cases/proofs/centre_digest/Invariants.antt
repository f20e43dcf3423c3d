-- What a place of X counts for in the digest.
use Rattle.std.proofs.Common.{pos}
use Rattle.case_io.specs.Numbers.{raised_by}
use Rattle.drawing_cases.proofs.centre_digest.Given as goal

abbrev pub ghost-digest : goal.ghost-digest
ghost-digest a = raised_by (pos 262144000)
