-- `number::plain_number_at` meets its contract: what stands after a hyphen, or from the start on where there is none, is read without
-- a sign (`read_past`).
use native.Mathlib.Omega.{arith}
use Rattle.text.specs.FieldsLaws.{read_past}
use Rattle.number.specs.Number.{hyphen}
use Rattle.number.specs.Clauses.{plain_field, with_sign}
use Rattle.number.specs.ContractLaws.{plain_led, plain_other}
use Rattle.number.proofs.plain_number_at.Goals as goal

pub returns : goal.returns
returns c =
    read_past _ plain_field with_sign hyphen (λ z. omega arith) plain_led plain_other _ _ c.past_byte-sign.ensures
    c.unsigned_at-unsigned.ensures c.with_sign.ensures
