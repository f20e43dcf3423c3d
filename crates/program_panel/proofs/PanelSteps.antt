-- The panel as it is printed, channel by channel.
--     tag_end                        where a tag that is printed ends
--     StepPut, step_put              a tag, a comma and a step, with room for byte 10
--     Steps codes steps out₀ ..      the first channels are printed
--     steps_start, -next, -done      before the first, after one more, and after the last
--     known_read                     the figures of an accepted record are within their limits
--     Shown f steps, shown           the panel of such figures: they have n codes, and its lines are what is owed
use Prim.Native.Nat.{ℕ, ◌+◌, ◌*◌, ◌^◌, ◌≤◌, ◌<◌}
use mathlib.Core.Path.{◌≡◌, refl, sym, ap, ap₂, ◌∙◌}
use mathlib.Core.List.{List, [], ◌∷◌, ◌++◌}
use mathlib.Core.Bool.{true}
use native.Mathlib.Omega.{arith}
use lib.IntN.{ℤ, pos, nat_abs}
use lib.ListN.{length, get_or, set, take, length-set}
use lib.Seq.{length-take-le}
use Rattle.limits.specs.Limits.{total, row_limit, channel_limit, tag_limit, distance_digits}
use Rattle.text.specs.Parts.{comma, line_end}
use Rattle.number.specs.Number.{print}
use Rattle.number.specs.NumberLaws.{print_short}
use Rattle.printing.specs.Clauses.{numbers_after, print_numbers, Put, field_room}
use Rattle.printing.specs.ContractLaws.{put_none, put_byte, put_then, put_as, put_ended, take_next, numbers_none, numbers_more}
use Rattle.channel.specs.Channel.{channel_types, tag_of}
use Rattle.channel.specs.ChannelLaws.{house_sound}
use Rattle.channel.specs.ContractLaws.{house_short, type_short}
use Rattle.envelope.specs.Figures.{figures_known}
use Rattle.envelope.specs.FigureLaws.{known-within, known_coded}
use Rattle.envelope.specs.declared.Figures.{Figures}
use Rattle.panel_steps.specs.Panel.{panel_shown, PanelShown}
use Rattle.panel_steps.specs.OwnLaws.{figures_shown}
use Rattle.program_lines.specs.Lines.{print_steps}
use Rattle.program_panel.specs.Output.{shown_output}
use Rattle.program_record.specs.Against.{unless_refused, record_against}
use Rattle.program_panel.specs.Clauses.{step_room}
use Rattle.program_panel.specs.OutputLaws.{steps_none, steps_more, steps_first}
use Rattle.program_record.specs.AgainstLaws.{against-within}
use Rattle.refusal.specs.Outcome.{Outcome, Accepted}
use Rattle.record_read.specs.Clauses.{EnvelopeRead}

-- where the tag ends: a comma, a number and byte 10 have room after it
pub tag_end : (code : ℕ) {out out' : List ℕ} {at end : ℕ} → at + step_room ≤ length out → Put (tag_of channel_types code) out at out' end
    → (end ≤ at + tag_limit) × (end + field_room + 1 ≤ length out')
tag_end code room f =
    let short = type_short channel_types house_short code in
    (omega (arith, f.next, short), omega (arith, f.next, short, f.same_length))

pub record StepPut (code : ℕ) (step : ℤ) (out : List ℕ) (at : ℕ) (out' : List ℕ) (r : ℕ) : Type 0 where
  pub within : r < length out'
  pub end : r + 1 ≤ at + step_room
  pub line : Put (print_numbers (tag_of channel_types code) (step ∷ [])) out at (set out' r line_end) (r + 1)

pub step_put : (code : ℕ) (step : ℤ) {out a b : List ℕ} {at end r : ℕ} → at + step_room ≤ length out → nat_abs step < 10 ^ distance_digits
    → Put (tag_of channel_types code) out at a end → Put (print step) (set a end comma) (end + 1) b r → StepPut code step out at b r
step_put code step {a = a} {b} {at} {end} {r} room small f g =
    let tag = tag_of channel_types code in
    let ends = tag_end code room f in
    let short = print_short distance_digits step (omega arith) small in
    let within : r < length b = omega (arith, g.next, g.same_length, length-set a end comma, ends.1) in
    let printed = put_then f (put_then (put_byte a end comma (omega (arith, ends.1))) g) in
    let is : tag ++ (comma ∷ print step) ≡ numbers_after tag (step ∷ []) =
    ap (λ (l : List ℕ). l ++ (comma ∷ print step)) (sym (numbers_none tag)) ∙ sym (numbers_more tag [] step) in
    record { within = within; end = omega (arith, g.next, ends.0); line = put_ended (put_as printed is refl) within }

pub record Steps (codes : List ℕ) (steps : List ℤ) (n : ℕ) (out₀ out : List ℕ) (from i : ℕ) : Type 0 where
  pub within : i ≤ n
  pub most : from ≤ i * step_room
  pub put : Put (print_steps channel_types (take i codes) (take i steps)) out₀ 0 out from

module _ (codes : List ℕ) (steps : List ℤ) (n : ℕ) where
  pub steps_start : (out : List ℕ) → Steps codes steps n out out 0 0
  steps_start out = record { within = omega arith; most = omega arith; put = put_as (put_none out 0) (sym (steps_none channel_types [])) refl }

  pub steps_next : {out₀ out out' : List ℕ} {from i r : ℕ} → n ≤ length codes → n ≤ length steps → i < n → Steps codes steps n out₀ out from i
      → r ≤ from + step_room → Put (print_numbers (tag_of channel_types (get_or codes i 0)) (get_or steps i (pos 0) ∷ [])) out from out' r
      → Steps codes steps n out₀ out' r (i + 1)
  steps_next {i = i} typed placed below s room f =
      record {
        within = omega arith;
        most = omega (arith, s.most);
        put =
            put_as (put_then s.put f)
            (steps_more channel_types (take i codes) (take i steps) (get_or codes i 0) (get_or steps i (pos 0))
            (length-take-le i codes (omega arith) ∙ sym (length-take-le i steps (omega arith)))
            ∙ ap₂ (print_steps channel_types) (take_next codes i 0 (omega arith)) (take_next steps i (pos 0) (omega arith))) refl;
      }

  pub steps_done : {out₀ out : List ℕ} {from i : ℕ} → n ≤ i → Steps codes steps n out₀ out from i
      → Put (print_steps channel_types (take n codes) (take n steps)) out₀ 0 out from
  steps_done {i = i} h s =
      let all : i ≡ n = omega (arith, s.within) in
      put_as s.put (ap (λ (k : ℕ). print_steps channel_types (take k codes) (take k steps)) all) refl

pub record Shown (f : Figures) (steps : List ℤ) : Type 0 where
  pub channels : f.n ≤ channel_limit
  pub typed : f.n ≤ length f.codes
  pub is : print_steps channel_types (take f.n f.codes) (take f.n steps) ≡ shown_output total channel_types f

-- the figures of an accepted record are within their limits
pub known_read : (read : EnvelopeRead) (reference text : List ℕ) → read ≡ record_against total row_limit channel_types reference text → read.outcome ≡ Accepted
    → figures_known total channel_types read.envelope.figures ≡ true
known_read read reference text is accepted =
    let same : (record_against total row_limit channel_types reference text).outcome ≡ Accepted = ap (λ (r : EnvelopeRead). r.outcome) (sym is) ∙ accepted in
    ap (λ (r : EnvelopeRead). figures_known total channel_types r.envelope.figures) is
    ∙ against-within total row_limit channel_types house_sound (omega arith) reference text same

pub shown : (f : Figures) → figures_known total channel_types f ≡ true → (panel : PanelShown) → panel ≡ panel_shown total channel_types f → Shown f panel.steps
shown f within panel panel-is =
    let typed = (known_coded total channel_types f within).typed in
    let codes = take f.n f.codes in
    let count : length codes ≡ f.n = length-take-le f.n f.codes typed in
    record {
      channels = (known-within total channel_types f within).channels;
      typed = typed;
      is =
          ap (λ (k : ℕ). print_steps channel_types codes (take k panel.steps)) (sym count)
          ∙ steps_first channel_types codes panel.steps
          ∙ ap (λ (p : PanelShown). print_steps channel_types codes p.steps) panel-is
          ∙ ap (λ (o : Outcome). unless_refused o (λ _. print_steps channel_types codes (panel_shown total channel_types f).steps))
          (sym (figures_shown total channel_types f within));
    }
