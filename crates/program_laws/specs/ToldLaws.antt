-- The first line of an output tells whether a program refuses its texts, as `./envelope` tests it. For any total D, row limit and table
-- of types:
--     of_reading number line       the refusals that a single reading meets: 3, 10 and 4, at line 1
--     content_told                a refusal of a reference text is none of them
--     refusal_of_texts            nor is one of a reference text and a record
--     refusal_of_reading          every refusal of a reading of 1 to 65,536 bytes, against figures within their limits, is one of them
--     readings_within             readings that together have 1 to 65,536 bytes are such readings
--     refusal_line number line     the line of a refusal, without its byte 10
--     first_line output            the first line of an output, without its byte 10
--     refusal_injective           a printed refusal states one number and one line
--     refuses_texts output         the test: the first line is a `NO`, and none that a single reading meets
--     is_faulty, is_refused         a reference text is refused; a reference text or a record is
-- For a sound table of types and a total above 0, the output passes the test exactly where
--     draw_told, plain_told       draw or plain refuses the reference text
--     verify_told, panel_told     verify refuses one of its texts, or panel, where no tag starts as a refusal does
--     judge_told                  judge refuses the reference text, the record or the readings together
--     alerts_told                 alerts refuses the reference text, the record, the settings text (`is_missing`) or the readings
use Rattle.std.specs.Prelude.{ℕ, ◌≤◌, ◌<◌, ◌≡◌, Bool, true, cond, ◌&&◌, ◌||◌, eqb, ℤ, pos, get_or, take}
use Rattle.std.proofs.Math.Path.{refl, ap}
use Rattle.std.proofs.Common.{sym, ap₂, subst, ◌∙◌, arith, eqb-true, eq-eqb, ne_eqb, length-append}
use Rattle.std.proofs.Math.Bool.{false, not, and-false, or-false}
use mathlib.Core.List.{List, [], ◌∷◌, ◌++◌, append-nil, append_assoc}
use Rattle.std.proofs.Math.Option.{Option, none, some}
use Rattle.std.proofs.Math.ListN.{length}
use Rattle.integers.specs.Tests.{both, clash, test-same, range_in}
use Rattle.lists.specs.Each.{Each, each_cons}
use Rattle.refusal.specs.Number.{text_length, line_form, value_range, tag_differs, alert_settings}
use Rattle.refusal.specs.Outcome.{number_of, line_of, RefusalNumbers, Outcome, Accepted, Refused}
use Rattle.limits.specs.Limits.{text_limit}
use Rattle.text.specs.Ascii.{byte}
use Rattle.text.specs.Lines.{print_lines}
use Rattle.number.specs.Number.{hyphen, is_digit, plain, print}
use Rattle.number.specs.NumberLaws.{plain-print, print-free, print_led}
use Rattle.text.specs.Parts.{comma, line_end, text_within, same, extend, cut, join, free, all_free}
use Rattle.text.specs.PartsLaws.{text-within, same_refl, same_eq, join-cut, cut-join, join-length, join_free}
use Rattle.printing.specs.Clauses.{numbers_after}
use Rattle.channel.specs.Channel.{Types, tag_of}
use Rattle.channel.specs.ChannelLaws.{SoundTypes}
use Rattle.channel.specs.ContractLaws.{TagsApart}
use Rattle.heading.specs.Heading.{print_heading}
use Rattle.reference_rows.specs.ReferenceText.{ReferenceText, codes_of, channel_count, row_count, table_of}
use Rattle.reference_rows.specs.Rows.{Content, faulty, sound}
use Rattle.reference.specs.Reference.{content}
use Rattle.reference.specs.Printing.{print_text}
use Rattle.reference.specs.RefusalLaws.{each_refusal}
use Rattle.envelope.specs.Figures.{channel_codes, figures_known}
use Rattle.envelope.specs.declared.Figures.{Figures}
use Rattle.envelope.specs.declared.Envelope.{Envelope}
use Rattle.reading.specs.Content.{distance_of}
use Rattle.reading.specs.Verdict.{judged, VerdictOutcome, Quiet, Alarm, Refused as RefusedReading}
use Rattle.reading.specs.VerdictLaws.{quiet_or_alarm, each_verdict}
use Rattle.alert.specs.Alert.{Setting}
use Rattle.alert_settings.specs.Settings.{settings_within, settings_of}
use Rattle.alert_trial.specs.Trial.{verdicts_on, four_numbers, trial_lines, Trial, trial_of}
use Rattle.alert_trial.specs.TrialLaws.{trial-length, trial_sound}
use Rattle.settings_text.specs.SettingsText.{text_of_settings}
use Rattle.settings_text.specs.SettingsTextLaws.{text-printed}
use Rattle.record_form.specs.Record.{print_record}
use Rattle.record_print.specs.Printed.{record_text}
use Rattle.record_read.specs.ReadLaws.{each_read}
use Rattle.panel_steps.specs.Panel.{panel_shown}
use Rattle.text.specs.EndedLines.{with_ends, lines_with_ends}
use Rattle.program_lines.specs.Lines.{refusal_word, print_refusal, print_accepted, print_verdict, print_verdicts, print_steps}
use Rattle.program_draw.specs.Output.{draw_output}
use Rattle.program_plain.specs.Output.{plain_output}
use Rattle.program_judge.specs.Output.{judge_output}
use Rattle.program_verdicts.specs.Output.{readings_output}
use Rattle.program_alerts.specs.Output.{trial_output, settings_output, alerts_output}
use Rattle.program_panel.specs.Output.{shown_output, panel_output}
use Rattle.program_record.specs.Against.{unless_refused, content_against, record_against, of_figures}
use Rattle.program_verify.specs.Output.{verify_output}
use Rattle.program_draw.specs.OutputLaws.{draw_faulty, draw_record}
use Rattle.program_plain.specs.OutputLaws.{plain_faulty, plain_sound, plain-accepted}
use Rattle.program_verdicts.specs.OutputLaws.{readings_refused, readings_judged}
use Rattle.program_panel.specs.OutputLaws.{panel_accepted}
use Rattle.program_record.specs.AgainstLaws.{against-within}
use Rattle.program_laws.specs.TripLaws.{cut_line}
use Rattle.record_read.specs.Clauses.{EnvelopeRead}

abbrev pub of_reading : ℕ → ℕ → Bool
of_reading number line =
    (eqb number line_form && eqb line 1) || ((eqb number tag_differs && eqb line 1) || (eqb number value_range && eqb line 1))

-- ---- the reference text

-- a fault of a row is past line 1
row_told : (number line : ℕ) → 1 < line → of_reading number line ≡ false
row_told number line past =
    rw (
      ne_eqb line 1 (λ e. omega arith),
      and-false (eqb number line_form),
      and-false (eqb number tag_differs),
      and-false (eqb number value_range),
    )

pub content_told : (limit : ℕ) (types : Types) (text : List ℕ) (number line : ℕ) → content limit types text ≡ faulty number line
    → of_reading number line ≡ false
content_told limit types = each_refusal limit types (λ number line. of_reading number line ≡ false) refl refl (λ number line _ _. row_told number line)

-- ---- reference text and record

-- the outcome is not such a refusal
abbrev OfTexts : EnvelopeRead → Type 0
OfTexts read = of_reading (number_of read.outcome) (line_of read.outcome) ≡ false

module _ (D limit : ℕ) (types : Types) (reference text : List ℕ) where
  texts_told : OfTexts (record_against D limit types reference text)
  unfolding record_against
  texts_told = go (content limit types reference) refl
    where
      go : (c : Content) → content limit types reference ≡ c → OfTexts (content_against D limit types text c)
      go (faulty number line) is = content_told limit types reference number line is
      go (sound found) is =
          each_read D limit types (table_of found) (row_count found) (channel_count found) (codes_of found) text OfTexts refl refl (λ line e. refl) refl
          (λ e a. refl)

  pub refusal_of_texts : (r : RefusalNumbers) → (record_against D limit types reference text).outcome ≡ Refused r → of_reading r.number r.line ≡ false
  refusal_of_texts r is = ap (λ o. of_reading (number_of o) (line_of o)) (sym is) ∙ texts_told

-- ---- readings

-- a verdict that is no refusal, or such a refusal
abbrev OfReading : VerdictOutcome → Type 0
OfReading Quiet = Unit {0}
OfReading (Alarm excess) = Unit {0}
OfReading (RefusedReading r) = of_reading r.number r.line ≡ true

module _ (D : ℕ) (types : Types) (f : Figures) (within : figures_known D types f ≡ true) where
  module _ (text : List ℕ) (some_text : text_within text ≡ true) where
    judged_told : OfReading (judged D types f text)
    judged_told =
        each_verdict D types f text OfReading (clash within) (clash some_text) (λ _. refl) (λ _ _. refl) (λ _ _ _. refl)
        (λ reading _ _ _ _ _.
        quiet_or_alarm (distance_of D f reading.values) f.ball.scaled_squared_radius OfReading tt (λ _. tt))

    pub refusal_of_reading : (r : RefusalNumbers) → judged D types f text ≡ RefusedReading r → of_reading r.number r.line ≡ true
    refusal_of_reading r is = subst OfReading is judged_told

-- ---- each reading of readings

some_byte : (part : List ℕ) → same part [] ≡ false → 1 ≤ length part
unfolding same
some_byte [] h = clash refl h
some_byte (b ∷ part) h = omega arith

-- a line of at most so many bytes, and at least one
abbrev Short : ℕ → List ℕ → Type 0
Short most line = (1 ≤ length line) × (length line ≤ most)

lines_short : (parts : List (List ℕ)) (most : ℕ) → length (join line_end parts) ≤ most → Each (Short most) [] (with_ends parts)
unfolding with_ends join
lines_short [] most h = λ k l. absurd (omega arith)
lines_short (part ∷ []) most h = go (same part []) refl
  where
    go : (t : Bool) → same part [] ≡ t → Each (Short most) [] (cond t [] (part ∷ []))
    go true e = λ k l. absurd (omega arith)
    go false e = each_cons (Short most) [] part [] (some_byte part e, h) (λ k l. absurd (omega arith))
lines_short (part ∷ next ∷ parts) most h =
    let long = join-length line_end part next parts in
    let whole = length-append part (line_end ∷ []) in
    each_cons (Short most) [] (part ++ (line_end ∷ [])) (with_ends (next ∷ parts)) (omega arith, omega arith) (lines_short (next ∷ parts) most (omega arith))

lines_some : (parts : List (List ℕ)) → 1 ≤ length (join line_end parts) → 1 ≤ length (with_ends parts)
unfolding with_ends join
lines_some [] h = h
lines_some (part ∷ []) h = go (same part []) refl
  where
    go : (t : Bool) → same part [] ≡ t → 1 ≤ length (cond t [] (part ∷ []))
    go true e = absurd (omega (arith, ap length (same_eq part [] e)))
    go false e = omega arith
lines_some (part ∷ next ∷ parts) h = omega arith

module _ (readings : List ℕ) (within : text_within readings ≡ true) where
  pub readings_within : Each (λ reading. text_within reading ≡ true) [] (lines_with_ends readings)
  unfolding lines_with_ends
  readings_within k h =
      let whole = ap length (join-cut line_end readings) in
      let short = lines_short (cut line_end readings) text_limit (omega (arith, whole, (text-within readings within).1)) k h in
      range_in 1 text_limit (length (get_or (with_ends (cut line_end readings)) k [])) short.0 short.1

  readings_some : 1 ≤ length (lines_with_ends readings)
  unfolding lines_with_ends
  readings_some = lines_some (cut line_end readings) (omega (arith, ap length (join-cut line_end readings), (text-within readings within).0))

-- ---- the first line

abbrev pub refusal_line : ℕ → ℕ → List ℕ
refusal_line number line = numbers_after refusal_word (pos number ∷ pos line ∷ [])

abbrev pub first_line : List ℕ → List ℕ
first_line output = get_or (cut line_end output) 0 []

first_line_lem : (line more : List ℕ) → free line_end line ≡ true → first_line (line ++ (line_end ∷ more)) ≡ line
first_line_lem line more h = ap (λ (parts : List (List ℕ)). get_or parts 0 []) (cut_line line more h)

module _ (number line : ℕ) where
  fields_free : (c : ℕ) → is_digit c ≡ false → eqb c hyphen ≡ false → free c refusal_word ≡ true
      → all_free c (refusal_word ∷ print (pos number) ∷ print (pos line) ∷ []) ≡ true
  unfolding all_free
  fields_free c digit sign word = rw (word, print-free c digit sign (pos number), print-free c digit sign (pos line))

  refusal_first : (more : List ℕ) → first_line (print_refusal number line ++ more) ≡ refusal_line number line
  unfolding numbers_after free
  refusal_first more =
      let fields = refusal_word ∷ print (pos number) ∷ print (pos line) ∷ [] in
      ap first_line (append_assoc (refusal_line number line) (line_end ∷ []) more)
      ∙ first_line_lem (refusal_line number line) more (join_free comma line_end fields (λ e. omega arith) (fields_free line_end refl refl refl))

  refusal_fields : cut comma (refusal_line number line) ≡ refusal_word ∷ print (pos number) ∷ print (pos line) ∷ []
  unfolding numbers_after free
  refusal_fields = cut-join comma refusal_word (print (pos number) ∷ print (pos line) ∷ []) (fields_free comma refl refl refl)

print_injective : (a b : ℕ) → print (pos a) ≡ print (pos b) → a ≡ b
print_injective a b e = inside (sym (plain-print (pos a)) ∙ ap plain e ∙ plain-print (pos b))
  where
    inside : some (pos a) ≡ some (pos b) → a ≡ b
    inside h = cc

module _ (number line other-number other-line : ℕ) where
  line_injective : refusal_line number line ≡ refusal_line other-number other-line → (number ≡ other-number) × (line ≡ other-line)
  line_injective e =
      let fields = sym (refusal_fields number line) ∙ ap (cut comma) e ∙ refusal_fields other-number other-line in (
        print_injective number other-number (ap (λ (l : List (List ℕ)). get_or l 1 []) fields),
        print_injective line other-line (ap (λ (l : List (List ℕ)). get_or l 2 []) fields),
      )

  pub refusal_injective : print_refusal number line ≡ print_refusal other-number other-line → (number ≡ other-number) × (line ≡ other-line)
  refusal_injective e =
      line_injective
      (sym (refusal_first number line []) ∙ ap (λ (l : List ℕ). first_line (l ++ [])) e ∙ refusal_first other-number other-line [])

  line_same : same (refusal_line number line) (refusal_line other-number other-line) ≡ (eqb number other-number && eqb line other-line)
  line_same =
      test-same (same (refusal_line number line) (refusal_line other-number other-line)) (eqb number other-number && eqb line other-line)
      (λ h.
      let are = line_injective (same_eq (refusal_line number line) (refusal_line other-number other-line) h) in
      ap₂ ◌&&◌ (eq-eqb number other-number are.0) (eq-eqb line other-line are.1))
      (λ h.
      let tests = both (eqb number other-number) (eqb line other-line) h in
      ap₂ (λ k l. same (refusal_line number line) (refusal_line k l)) (sym (eqb-true number other-number tests.0)) (sym (eqb-true line other-line tests.1))
      ∙ same_refl (refusal_line number line))

-- `NO` and a comma, and none of the three lines
abbrev line_refuses : List ℕ → Bool
line_refuses line =
    same (take 3 line) (refusal_word ++ (comma ∷ []))
    && not (same line (refusal_line line_form 1) || (same line (refusal_line tag_differs 1) || same line (refusal_line value_range 1)))

unfoldable pub refuses_texts : List ℕ → Bool
refuses_texts output = line_refuses (first_line output)

refusal_starts : (number line : ℕ) → same (take 3 (refusal_line number line)) (refusal_word ++ (comma ∷ [])) ≡ true
unfolding numbers_after join same
refusal_starts number line = refl

refusal_told : (number line : ℕ) (more : List ℕ) → refuses_texts (print_refusal number line ++ more) ≡ not (of_reading number line)
unfolding refuses_texts
refusal_told number line more =
    ap line_refuses (refusal_first number line more)
    ∙ ap₂ (λ t u. t && not u) (refusal_starts number line)
    (ap₂ ◌||◌ (line_same number line line_form 1) (ap₂ ◌||◌ (line_same number line tag_differs 1) (line_same number line value_range 1)))

-- a refusal and nothing else
only_told : (number line : ℕ) → refuses_texts (print_refusal number line) ≡ not (of_reading number line)
only_told number line = ap refuses_texts (sym (append-nil (print_refusal number line))) ∙ refusal_told number line []

-- the first byte of a refusal
abbrev refusal_byte : ℕ
refusal_byte = byte "N"

nothing_told : refuses_texts [] ≡ false
unfolding refuses_texts cut same
nothing_told = refl

-- an output with another first byte
other_told : (b : ℕ) (l : List ℕ) → eqb b refusal_byte ≡ false → refuses_texts (b ∷ l) ≡ false
unfolding refuses_texts cut extend same
other_told b l h = go (eqb b line_end) (cut line_end l)
  where
    go : (t : Bool) (parts : List (List ℕ)) → line_refuses (get_or (cond t ([] ∷ parts) (extend b parts)) 0 []) ≡ false
    go true parts = refl
    go false [] = rw h
    go false (part ∷ parts) = rw h

-- ---- draw and plain

abbrev pub is_faulty : Content → Bool
is_faulty (faulty number line) = true
is_faulty (sound found) = false

module _ (types : Types) where
  record_told : (e : Envelope) → refuses_texts (record_text types e) ≡ false
  unfolding record_text print_record print_lines print_heading join
  record_told e = other_told (byte "E") _ refl

  -- what is printed of a reference text, by what is printed of an accepted one
  reference_told : (limit : ℕ) (reference output : List ℕ)
      → ((number line : ℕ) → content limit types reference ≡ faulty number line → output ≡ print_refusal number line)
      → ((found : ReferenceText) → content limit types reference ≡ sound found → refuses_texts output ≡ false)
      → refuses_texts output ≡ is_faulty (content limit types reference)
  reference_told limit reference output refused accepted = go (content limit types reference) refl
    where
      go : (c : Content) → content limit types reference ≡ c → refuses_texts output ≡ is_faulty c
      go (faulty number line) is =
          ap refuses_texts (refused number line is) ∙ only_told number line ∙ ap not (content_told limit types reference number line is)
      go (sound found) is = accepted found is

  pub draw_told : SoundTypes types → (D limit : ℕ) (reference : List ℕ)
      → refuses_texts (draw_output D limit types reference) ≡ is_faulty (content limit types reference)
  draw_told types_sound D limit reference =
      reference_told limit reference (draw_output D limit types reference) (draw_faulty D limit types reference)
      (λ found is. ap refuses_texts (draw_record D limit types reference found is types_sound) ∙ record_told _)

  text_told : (found : ReferenceText) → refuses_texts (print_text types found) ≡ false
  unfolding print_text print_lines print_heading join
  text_told found = other_told (byte "R") _ refl

  pub plain_told : SoundTypes types → (limit : ℕ) (reference : List ℕ)
      → refuses_texts (plain_output limit types reference) ≡ is_faulty (content limit types reference)
  plain_told types_sound limit reference =
      reference_told limit reference (plain_output limit types reference) (plain_faulty limit types reference)
      (λ found is.
      let plain = plain-accepted limit types reference found is types_sound in
      ap refuses_texts (plain_sound limit types reference found is plain.0 plain.1) ∙ text_told plain.0)

-- ---- verify, panel and judge

abbrev pub is_refused : Outcome → Bool
is_refused Accepted = false
is_refused (Refused r) = true

-- what is printed of a record, by what is printed of its figures
figures_told : (read : EnvelopeRead) (output : Figures → List ℕ) (t : Bool) → OfTexts read
    → (read.outcome ≡ Accepted → refuses_texts (output read.envelope.figures) ≡ t) → refuses_texts (of_figures read output) ≡ (is_refused read.outcome || t)
figures_told read output t texts further = go read.outcome refl
  where
    go : (o : Outcome) → read.outcome ≡ o → refuses_texts (unless_refused o (λ _. output read.envelope.figures)) ≡ (is_refused o || t)
    go Accepted is = further is
    go (Refused r) is =
        only_told r.number r.line ∙ ap not (ap (λ (o : Outcome). of_reading (number_of o) (line_of o)) (sym is) ∙ texts)

-- the first line of a panel starts with a tag
tag_told : (tag number end more : List ℕ) → eqb (get_or tag 0 0) refusal_byte ≡ false → refuses_texts (((tag ++ (comma ∷ number)) ++ end) ++ more) ≡ false
tag_told [] number end more h = other_told comma _ refl
tag_told (b ∷ tag) number end more h = other_told b _ h

steps_told : (types : Types) → TagsApart refusal_byte types → (codes : List ℕ) (steps : List ℤ) → refuses_texts (print_steps types codes steps) ≡ false
unfolding print_steps numbers_after join
steps_told types apart [] steps = nothing_told
steps_told types apart (code ∷ codes) [] = nothing_told
steps_told types apart (code ∷ codes) (step ∷ steps) =
    tag_told (tag_of types code) (print step) (line_end ∷ []) (print_steps types codes steps) (apart.apart code)

accepted_told : refuses_texts print_accepted ≡ false
unfolding numbers_after join
accepted_told = other_told (byte "O") _ refl

-- the line of a verdict, and whatever follows it
line_told : (v : VerdictOutcome) → OfReading v → (more : List ℕ) → refuses_texts (print_verdict v ++ more) ≡ false
unfolding numbers_after join
line_told Quiet h more = other_told (byte "Q") _ refl
line_told (Alarm excess) h more = other_told (byte "A") _ refl
line_told (RefusedReading r) h more = refusal_told r.number r.line more ∙ ap not h

module _ (D : ℕ) (types : Types) (f : Figures) (within : figures_known D types f ≡ true) where
  lines_told : (readings : List (List ℕ)) → 1 ≤ length readings → Each (λ reading. text_within reading ≡ true) [] readings
      → refuses_texts (print_verdicts D types f readings) ≡ false
  unfolding print_verdicts
  lines_told [] h each = absurd (omega arith)
  lines_told (reading ∷ readings) h each =
      line_told (judged D types f reading) (judged_told D types f within reading (each 0 (omega arith))) (print_verdicts D types f readings)

  readings_told : (readings : List ℕ) → refuses_texts (readings_output D types f readings) ≡ not (text_within readings)
  readings_told readings = go (text_within readings) refl
    where
      go : (t : Bool) → text_within readings ≡ t → refuses_texts (readings_output D types f readings) ≡ not t
      go true e =
          ap refuses_texts (readings_judged D types f readings e)
          ∙ lines_told (lines_with_ends readings) (readings_some readings e) (readings_within readings e)
      go false e = ap refuses_texts (readings_refused D types f readings e) ∙ only_told text_length 0

-- ---- alerts

abbrev pub is_missing : Option (List ℕ) → Bool
is_missing none = true
is_missing (some numbers) = false

-- a line of numbers starts with a digit
number_told : (a : ℕ) (more : List ℕ) → refuses_texts (print (pos a) ++ more) ≡ false
unfolding print
number_told a more =
    let led = print_led a in
    ap (λ (l : List ℕ). refuses_texts (l ++ more)) led.is ∙ other_told led.first _ (ne_eqb led.first refusal_byte (λ e. omega (arith, led.high)))

four_told : (a b c d : ℕ) (more : List ℕ) → refuses_texts (four_numbers a b c d ++ more) ≡ false
unfolding numbers_after join
four_told a b c d more = ap refuses_texts (append_assoc (print (pos a)) _ more) ∙ number_told a _

trial_told : (settings : List Setting) (vs : List VerdictOutcome) → refuses_texts (print_lines (trial_lines settings vs)) ≡ false
unfolding print_lines
trial_told [] vs = four_told _ _ _ _ _
trial_told (s ∷ settings) vs = four_told _ _ _ _ _

module _ (D : ℕ) (types : Types) (f : Figures) (within : figures_known D types f ≡ true) where
  settings_told : (settings readings : List ℕ)
      → refuses_texts (settings_output D types f (text_of_settings settings) readings) ≡ (is_missing (text_of_settings settings) || not (text_within readings))
  settings_told settings readings = go (text_of_settings settings) refl
    where
      tried : (numbers : List ℕ) → settings_within numbers ≡ true → (t : Bool) → text_within readings ≡ t
          → refuses_texts (trial_output (trial_of D types f numbers readings)) ≡ not t
      tried numbers known true e =
          ap (λ (t : Trial). refuses_texts (trial_output t)) (trial_sound D types f numbers readings within known e) ∙ trial_told (settings_of numbers) (verdicts_on D types f readings)
      tried numbers known false e =
          ap (λ (t : Trial). refuses_texts (trial_output t)) (trial-length D types f numbers readings within known e) ∙ only_told text_length 0

      go : (o : Option (List ℕ)) → text_of_settings settings ≡ o → refuses_texts (settings_output D types f o readings) ≡ (is_missing o || not (text_within readings))
      go none e = only_told alert_settings 0
      go (some numbers) e = tried numbers (text-printed settings numbers e).1 (text_within readings) refl

module _ (D limit : ℕ) (types : Types) (reference text : List ℕ) where
  -- the record, read against the reference text
  abbrev read : EnvelopeRead
  read = record_against D limit types reference text

  pub verify_told : refuses_texts (verify_output D limit types reference text) ≡ is_refused read.outcome
  unfolding verify_output
  verify_told =
      figures_told read (λ f. print_accepted) false (texts_told D limit types reference text) (λ is. accepted_told) ∙ or-false (is_refused read.outcome)

  module _ (types_sound : SoundTypes types) (positive : 0 < D) where
    pub panel_told : TagsApart refusal_byte types → refuses_texts (panel_output D limit types reference text) ≡ is_refused read.outcome
    unfolding panel_output
    panel_told apart =
        let f = read.envelope.figures in
        figures_told read (shown_output D types) false (texts_told D limit types reference text)
        (λ is.
        ap (λ (o : Outcome). refuses_texts (unless_refused o (λ _. print_steps types (channel_codes f) (panel_shown D types f).steps)))
        (panel_accepted D limit types types_sound positive reference text is)
        ∙ steps_told types apart (channel_codes f) (panel_shown D types f).steps)
        ∙ or-false (is_refused read.outcome)

    pub judge_told : (readings : List ℕ)
        → refuses_texts (judge_output D limit types reference text readings) ≡ (is_refused read.outcome || not (text_within readings))
    unfolding judge_output
    judge_told readings =
        figures_told read (λ f. readings_output D types f readings) (not (text_within readings)) (texts_told D limit types reference text)
        (λ is. readings_told D types read.envelope.figures (against-within D limit types types_sound positive reference text is) readings)

    pub alerts_told : (settings readings : List ℕ)
        → refuses_texts (alerts_output D limit types reference text settings readings)
        ≡ (is_refused read.outcome || (is_missing (text_of_settings settings) || not (text_within readings)))
    unfolding alerts_output
    alerts_told settings readings =
        figures_told read (λ f. settings_output D types f (text_of_settings settings) readings) (is_missing (text_of_settings settings) || not (text_within readings))
        (texts_told D limit types reference text)
        (λ is. settings_told D types read.envelope.figures (against-within D limit types types_sound positive reference text is) settings readings)
