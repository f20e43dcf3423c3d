-- What plain prints, by what the reference text is. For any row limit and table of types:
--     plain_faulty, plain_sound     of a refused text, and of an accepted one by the text of what it lends
-- For a sound table of types, of an accepted reference text:
--     plain-accepted                what it lends has a text within the limits
--     plain-own                     a text in which no `<` stands is printed as it is
--     plain_values                  no `<` stands in what is printed
-- and, where no printed text is too long:
--     plain-read                    what is printed is accepted as a text of the same codes, table and labels
--     plain_again                   what is printed is itself printed as it is
use Rattle.std.specs.Prelude.{ℕ, ◌≤◌, ◌≡◌, true, List}
use Rattle.std.proofs.Common.{sym, ◌∙◌}
use Rattle.std.proofs.Math.Path.{ap}
use Rattle.text.specs.Parts.{free}
use Rattle.channel.specs.Channel.{Types}
use Rattle.channel.specs.ChannelLaws.{SoundTypes}
use Rattle.channel.specs.ContractLaws.{ShortTags}
use Rattle.value.specs.Value.{less_than}
use Rattle.reference_rows.specs.ReferenceText.{ReferenceText, codes_of, labels_of, table_of}
use Rattle.reference_rows.specs.Rows.{faulty, sound}
use Rattle.reference.specs.Reference.{content}
use Rattle.reference.specs.Printing.{print_text, Within}
use Rattle.reference.specs.ReferenceLaws.{accepted-printed}
use Rattle.reference.specs.PrintedLaws.{text_short}
use Rattle.reference_write.specs.Writing.{lent_text}
use Rattle.reference_write.specs.Held.{Holds, lent_of}
use Rattle.reference_write.specs.LabelsLaws.{lent_labels}
use Rattle.reference_write.specs.PlainLaws.{plain-free}
use Rattle.reference_write.specs.HeldLaws.{text-labels, text-within, text-plain, text-read, own_holds, read-text, own-text}
use Rattle.program_lines.specs.Lines.{print_refusal}
use Rattle.program_plain.specs.Output.{lent_output, content_output, plain_output}

module _ (limit : ℕ) (types : Types) (reference : List ℕ) where
  pub plain_faulty : (number line : ℕ) → content limit types reference ≡ faulty number line
      → plain_output limit types reference ≡ print_refusal number line
  unfolding plain_output
  plain_faulty number line is = ap (content_output limit types) is

  module _ (found : ReferenceText) (is : content limit types reference ≡ sound found) where
    pub plain_sound : (plain : ReferenceText) → lent_text limit types (lent_of found) ≡ sound plain
        → plain_output limit types reference ≡ print_text types plain
    unfolding plain_output
    plain_sound plain text = ap (content_output limit types) is ∙ ap (lent_output types) text

    module _ (types_sound : SoundTypes types) where
      own : Holds found (lent_of found)
      own = own_holds limit types reference found is

      -- the text of what is lent, which holds it
      lent_text_lem : (plain : ReferenceText) × (lent_text limit types (lent_of found) ≡ sound plain) × Holds plain (lent_of found)
      lent_text_lem = let text = read-text limit types reference found is types_sound (lent_of found) own in (text.0, text.1, text.2)

      plain_is : plain_output limit types reference ≡ print_text types lent_text_lem.0
      plain_is = plain_sound lent_text_lem.0 lent_text_lem.1

      printed-within : Within limit types lent_text_lem.0
      printed-within = text-within limit types (lent_of found) lent_text_lem.0 lent_text_lem.1

      pub plain-accepted : (plain : ReferenceText) × (lent_text limit types (lent_of found) ≡ sound plain) × Within limit types plain
      plain-accepted = (lent_text_lem.0, lent_text_lem.1, printed-within)

      pub plain-own : free less_than reference ≡ true → plain_output limit types reference ≡ reference
      plain-own none =
          plain_sound found (own-text limit types reference found is types_sound none)
          ∙ sym (accepted-printed limit types reference found is types_sound).0

      pub plain_values : free less_than (plain_output limit types reference) ≡ true
      plain_values =
          ap (free less_than) plain_is
          ∙ plain-free types types_sound limit lent_text_lem.0 printed-within (text-plain limit types (lent_of found) lent_text_lem.0 lent_text_lem.1)

      module _ (short : ShortTags types) (most : limit ≤ 1024) where
        printed_read : content limit types (plain_output limit types reference) ≡ sound lent_text_lem.0
        printed_read =
            ap (content limit types) plain_is
            ∙ text-read limit types (lent_of found) lent_text_lem.0 lent_text_lem.1 types_sound (text_short types types_sound short limit printed-within most)

        pub plain-read : (plain : ReferenceText) × (content limit types (plain_output limit types reference) ≡ sound plain)
            × (codes_of plain ≡ codes_of found) × (table_of plain ≡ table_of found) × (labels_of plain ≡ labels_of found)
        plain-read =
            let plain = lent_text_lem.0 in
            let holds = lent_text_lem.2 in (
              plain,
              printed_read,
              holds.codes ∙ sym own.codes,
              holds.table ∙ sym own.table,
              text-labels limit types (lent_of found) plain lent_text_lem.1 ∙ lent_labels (labels_of found),
            )

module _ (limit : ℕ) (types : Types) (reference : List ℕ) (found : ReferenceText) (is : content limit types reference ≡ sound found)
    (types_sound : SoundTypes types) (short : ShortTags types) (most : limit ≤ 1024) where
  pub plain_again : plain_output limit types (plain_output limit types reference) ≡ plain_output limit types reference
  plain_again =
      let read = plain-read limit types reference found is types_sound short most in
      plain-own limit types (plain_output limit types reference) read.0 read.1 types_sound (plain_values limit types reference found is types_sound)
