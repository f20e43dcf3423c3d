-- What a place of the table counts for in the digest.
use Rattle.std.proofs.Common.{pos}
use Rattle.limits.specs.Limits.{coordinate_limit}
use Rattle.case_io.specs.Numbers.{raised_by}
use Rattle.reference_cases.proofs.table_digest.Given as goal

abbrev pub ghost-digest : goal.ghost-digest
ghost-digest a = raised_by (pos coordinate_limit)
