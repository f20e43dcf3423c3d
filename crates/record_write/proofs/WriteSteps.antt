-- What stands in the buffer after a text is written.
--     printed-length, -text, -fits          a record's text stands in the first places of what was printed into
use Prim.Native.Nat.{ℕ, ◌≤◌}
use mathlib.Core.Path.{◌≡◌, ap}
use mathlib.Core.List.{List}
use native.Mathlib.Omega.{arith}
use lib.ListN.{length, take, length-take}
use Rattle.printing.specs.Clauses.{Put}
use Rattle.channel.specs.Channel.{Types}
use Rattle.envelope.specs.declared.Envelope.{Envelope}
use Rattle.record_form.specs.Record.{print_record}
use Rattle.record_print.specs.Printed.{record_of, record_text}

-- ---- what is written

module _ (types : Types) (e : Envelope) (out₀ out : List ℕ) (r : ℕ)
    (printed : Put (print_record types (record_of e.figures e.weights)) out₀ 0 out r) where
  pub printed-length : length (record_text types e) ≡ r
  unfolding record_text
  printed-length = omega (arith, printed.next)

  pub printed-text : take r out ≡ record_text types e
  unfolding record_text
  printed-text = printed.is

  pub printed_fits : r ≤ length out
  printed_fits = omega (arith, length-take r out, ap length printed-text, printed-length)
