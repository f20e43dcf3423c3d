-- What the other programs make of what plain prints of a reference text, for any total D, row limit up to 1,024 and sound table of types.
--     plain-drawn, plain_verified,      draw, verify, panel and judge print the same of both
--     plain_shown, plain-judged
use Rattle.std.specs.Prelude.{ℕ, ◌≤◌, ◌≡◌, List, ℤ, length}
use Rattle.std.proofs.Common.{sym, ap₂, ◌∙◌}
use Rattle.std.proofs.Math.Path.{ap}
use Rattle.std.proofs.lemmas.List.{length-map}
use Rattle.drawing.specs.Draw.{drawing}
use Rattle.channel.specs.Channel.{Types}
use Rattle.channel.specs.ChannelLaws.{SoundTypes}
use Rattle.channel.specs.ContractLaws.{ShortTags}
use Rattle.reference_row.specs.Row.{Row}
use Rattle.reference_rows.specs.ReferenceText.{ReferenceText, codes_of, rows_of, row_count, labels_of, table_of}
use Rattle.reference_rows.specs.Rows.{sound}
use Rattle.reference.specs.Reference.{content}
use Rattle.record_read.specs.Clauses.{record_read, EnvelopeRead}
use Rattle.program_lines.specs.Lines.{print_accepted}
use Rattle.program_record.specs.Against.{record_against, of_figures}
use Rattle.program_record.specs.AgainstLaws.{against_sound}
use Rattle.program_draw.specs.Output.{draw_budget, drawn_output, draw_output}
use Rattle.program_draw.specs.OutputLaws.{draw_sound}
use Rattle.program_verify.specs.Output.{verify_output}
use Rattle.program_panel.specs.Output.{shown_output, panel_output}
use Rattle.program_verdicts.specs.Output.{readings_output}
use Rattle.program_judge.specs.Output.{judge_output}
use Rattle.program_plain.specs.Output.{plain_output}
use Rattle.program_plain.specs.OutputLaws.{plain-read}

module _ (D limit : ℕ) (types : Types) (types_sound : SoundTypes types) (short : ShortTags types) (most : limit ≤ 1024)
    (reference : List ℕ) (found : ReferenceText) (is : content limit types reference ≡ sound found) where
  -- what plain prints
  abbrev output : List ℕ
  output = plain_output limit types reference

  read : (plain : ReferenceText) × (content limit types output ≡ sound plain)
      × (codes_of plain ≡ codes_of found) × (table_of plain ≡ table_of found) × (labels_of plain ≡ labels_of found)
  read = plain-read limit types reference found is types_sound short most

  -- what looks at codes, table and row count alone
  alike : {A : Type 0} (f : List ℕ → List ℤ → ℕ → A)
      → f (codes_of read.0) (table_of read.0) (row_count read.0) ≡ f (codes_of found) (table_of found) (row_count found)
  alike f =
      let plain = read.0 in
      let rows : row_count plain ≡ row_count found =
      sym (length-map (rows_of plain) (λ (row : Row). row.label)) ∙ ap length read.4 ∙ length-map (rows_of found) (λ (row : Row). row.label) in
      ap₂ (λ (codes : List ℕ) (table : List ℤ). f codes table (row_count plain)) read.2 read.3 ∙ ap (f (codes_of found) (table_of found)) rows

  pub plain-drawn : draw_output D limit types output ≡ draw_output D limit types reference
  plain-drawn =
      draw_sound D limit types output read.0 read.1
      ∙ alike (λ codes table m. drawn_output types codes (drawing D limit table m (length codes) draw_budget))
      ∙ sym (draw_sound D limit types reference found is)

  -- a record is the same against both
  plain-against : (text : List ℕ) → record_against D limit types output text ≡ record_against D limit types reference text
  plain-against text =
      against_sound D limit types output read.0 read.1 text
      ∙ alike (λ codes table m. record_read D limit types table m (length codes) codes text)
      ∙ sym (against_sound D limit types reference found is text)

  module _ (text : List ℕ) where
    pub plain_verified : verify_output D limit types output text ≡ verify_output D limit types reference text
    unfolding verify_output
    plain_verified = ap (λ (r : EnvelopeRead). of_figures r (λ f. print_accepted)) (plain-against text)

    pub plain_shown : panel_output D limit types output text ≡ panel_output D limit types reference text
    unfolding panel_output
    plain_shown = ap (λ (r : EnvelopeRead). of_figures r (shown_output D types)) (plain-against text)

    pub plain-judged : (readings : List ℕ) → judge_output D limit types output text readings ≡ judge_output D limit types reference text readings
    unfolding judge_output
    plain-judged readings = ap (λ (r : EnvelopeRead). of_figures r (λ f. readings_output D types f readings)) (plain-against text)
