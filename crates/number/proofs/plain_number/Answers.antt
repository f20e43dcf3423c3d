-- `number::plain_number` meets its contract: the field is the first one of itself, unless a comma stands in it, and then it is no number.
use mathlib.Core.Path.{sym}
use Rattle.number.specs.ContractLaws.{field_whole, field_parted}
use Rattle.number.proofs.plain_number.Goals as goal

pub returns-then-read-field : goal.returns-then-read-field
returns-then-read-field c = sym (field_parted _ c.plain_number_at-read.ensures c.if-read-field.true)

pub returns : goal.returns
returns c = field_whole _ c.plain_number_at-read.ensures c.if-read-field.false
