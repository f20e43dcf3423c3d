-- Demand 1, what the programs add to their calls: that each text is read far enough, what a read answered, and what is told where a
-- file or an argument fails.
--     ProgramTexts, program_texts     these, for the total, the row limit and the types of the calls
use Rattle.std.specs.Prelude.{◌%◌, ◌+◌, ◌/◌, suc, ℕ, ◌≡◌, refl, ◌&&◌, cond, false, not, true, List, [], ◌++◌, ◌∷◌, eqb, leb, negsuc, pos, length, take}
use Rattle.io.specs.Digits.{hex_digit_ascii}
use Rattle.limits.specs.Limits.{row_limit, total}
use Rattle.number.specs.Number.{print}
use Rattle.channel.specs.Channel.{channel_types}
use Rattle.program_draw.specs.Output.{draw_output}
use Rattle.program_verify.specs.Output.{verify_output}
use Rattle.program_panel.specs.Output.{panel_output}
use Rattle.program_plain.specs.Output.{plain_output}
use Rattle.program_judge.specs.Output.{judge_output}
use Rattle.program_alerts.specs.Output.{alerts_output}
use Rattle.program_laws.specs.LongTexts.{bytes_read}
use Rattle.program_laws.proofs.LongLaws.{alerts_long, draw_long, judge_long, panel_long, plain_long, verify_long}
use Rattle.text.specs.Ascii.{ascii, byte}
use Rattle.file_name.specs.Name.{escaped, escaped_byte, escaped_name, escaped_start}
use Rattle.message.specs.Message.{excess_message, file_message, missing_message, named_argument, stream_message}
use Rattle.program_io.specs.Reading.{after_read, text_read, Done, More}

pub record ProgramTexts : Type 0 where
  -- the first 65,537 bytes of each text give the output of the whole
  pub first_bytes : (text : List ℕ) → bytes_read text ≡ take 65537 text
  pub draw_long : (reference : List ℕ) → draw_output total row_limit channel_types (bytes_read reference) ≡ draw_output total row_limit channel_types reference
  pub verify_long : (reference text : List ℕ)
      → verify_output total row_limit channel_types (bytes_read reference) (bytes_read text) ≡ verify_output total row_limit channel_types reference text
  pub panel_long : (reference text : List ℕ)
      → panel_output total row_limit channel_types (bytes_read reference) (bytes_read text) ≡ panel_output total row_limit channel_types reference text
  pub judge_long : (reference text readings : List ℕ)
      → judge_output total row_limit channel_types (bytes_read reference) (bytes_read text) (bytes_read readings)
      ≡ judge_output total row_limit channel_types reference text readings
  pub alerts_long : (reference text settings readings : List ℕ)
      → alerts_output total row_limit channel_types (bytes_read reference) (bytes_read text) (bytes_read settings) (bytes_read readings)
      ≡ alerts_output total row_limit channel_types reference text settings readings
  pub plain_long : (reference : List ℕ) → plain_output row_limit channel_types (bytes_read reference) ≡ plain_output row_limit channel_types reference
  -- a read that failed, answering below 0, is no end; 0 is the end; above 0 so many bytes more were read
  pub read_failed : (k at : ℕ) → after_read (negsuc k) at ≡ Done (text_read false 0)
  pub read_ended : (at : ℕ) → after_read (pos 0) at ≡ Done (text_read true at)
  pub read_more : (k at : ℕ) → after_read (pos (suc k)) at ≡ More (at + suc k)
  -- what is told: the program's name and the file, the stream or the argument
  pub file_told : (program name : List ℕ) → file_message program name ≡ (escaped_start program ++ ascii ": ") ++ escaped_name name
  pub stream_told : (program stream : List ℕ) → stream_message program stream ≡ (escaped_start program ++ ascii ": ") ++ stream
  pub named_told : (program : List ℕ) (index : ℕ) (name : List ℕ)
      → named_argument program index name ≡ ((((escaped_start program ++ ascii ": ") ++ ascii "argument ") ++ print (pos index)) ++ ascii " ") ++ escaped_name name
  pub missing_told : (program : List ℕ) (index : ℕ)
      → missing_message program index ≡ (((escaped_start program ++ ascii ": ") ++ ascii "argument ") ++ print (pos index)) ++ ascii ": missing\n"
  pub excess_told : (program : List ℕ) (index : ℕ) (name : List ℕ) → excess_message program index name ≡ named_argument program index name ++ ascii ": one too many\n"
  -- a name in single quotes, of at most 60 bytes; bytes that cannot be shown, and the backslash, by a backslash, `x` and two hex digits
  pub name_told : (name : List ℕ)
      → escaped_name name ≡ ((ascii "'" ++ escaped (take 60 name)) ++ ascii "'") ++ cond (leb (length name) 60) [] (ascii "...")
  pub byte_told : (b : ℕ) → escaped_byte b ≡ cond (leb (byte "!") b && leb b (byte "~") && not (eqb b (byte "\\"))) (b ∷ []) (ascii "\\x" ++ (hex_digit_ascii (b / 16) ∷ hex_digit_ascii (b % 16) ∷ []))

pub program_texts : ProgramTexts
unfolding bytes_read
program_texts =
    record {
      first_bytes = λ text. refl;
      draw_long = draw_long total row_limit channel_types;
      verify_long = verify_long total row_limit channel_types;
      panel_long = panel_long total row_limit channel_types;
      judge_long = judge_long total row_limit channel_types;
      alerts_long = alerts_long total row_limit channel_types;
      plain_long = plain_long row_limit channel_types;
      read_failed = λ k at. refl;
      read_ended = λ at. refl;
      read_more = λ k at. refl;
      file_told = λ program name. refl;
      stream_told = λ program stream. refl;
      named_told = λ program index name. refl;
      missing_told = λ program index. refl;
      excess_told = λ program index name. refl;
      name_told = λ name. refl;
      byte_told = λ b. refl;
    }
