-- A settings text, both ways: a text is read as its settings exactly when it is the printing of 1 to 20 settings within their limits.
--     run-printed, printed-run           k or c
--     setting-printed, printed-setting   a line
--     text-printed, printed-text         a text
--     printed_most                       a settings text has at most 120 bytes
--     refuses_long                       a longer text is refused, so that no test of its length is needed
use Rattle.std.specs.Prelude.{ℕ, zero, suc, ◌+◌, ◌*◌, ◌%◌, ◌≤◌, ◌<◌, ◌≡◌, Bool, true, cond, ◌&&◌, List, [], ◌∷◌, map, leb, ℤ, pos, negsuc, length}
use Rattle.std.proofs.Math.Path.{refl, ap, ap₂}
use Rattle.std.proofs.Common.{sym, ◌∙◌}
use Rattle.std.proofs.Math.Option.{Option, none, some}
use native.Mathlib.Omega.{arith}
use borrow.Author.Tests.{leb-true, le-leb, eq-eqb}
use Rattle.std.proofs.Math.ListN.{length-append}
use Rattle.integers.specs.Tests.{both, unlike, cond_some}
use Rattle.limits.specs.Limits.{setting_limit, run_limit, run_digits}
use Rattle.text.specs.Parts.{comma, line_end, same, cut, join, free, all_free}
use Rattle.text.specs.PartsLaws.{same_eq, join-cut, cut-join, join_free}
use Rattle.text.specs.Lines.{print_lines, ended}
use Rattle.text.specs.LinesLaws.{ended-printed, printed_ended, printed_some}
use Rattle.number.specs.Number.{plain, print, print_magnitude}
use Rattle.number.specs.NumberLaws.{plain-print, print-plain, print-free, magnitude_short}
use Rattle.alert.specs.Alert.{Setting}
use Rattle.alert_settings.specs.Settings.{run_within, runs_within, settings_within, settings_of}
use Rattle.alert_settings.specs.SettingsLaws.{settings_within_lem}
use Rattle.settings_text.specs.SettingsText.{
  run_stated,
  run_field,
  setting_of,
  setting_fields,
  setting_stated,
  and_setting,
  settings_lines,
  text_of_settings,
  print_setting,
  print_settings,
  settings_most,
}

-- ---- k or c

pub run-printed : (field : List ℕ) (number : ℕ) → run_field field ≡ some number → (print (pos number) ≡ field) × (run_within number ≡ true)
unfolding run_field
run-printed field number e = go (plain field) refl e
  where
    go : (o : Option ℤ) → plain field ≡ o → run_stated o ≡ some number → (print (pos number) ≡ field) × (run_within number ≡ true)
    go none h read = unlike read
    go (some (pos n)) h read =
        let test = cond_some (run_within n) read in
        let is : n ≡ number = cc test.1 in
        rw (← is) (print-plain field (pos n) h, test.0)
    go (some (negsuc k)) h read = unlike read

pub printed-run : (number : ℕ) → run_within number ≡ true → run_field (print (pos number)) ≡ some number
unfolding run_field
printed-run number within = ap run_stated (plain-print (pos number)) ∙ ap (λ (t : Bool). cond t (some number) none) within

-- ---- a line

pub record SettingWithin (s : Setting) : Type 0 where
  pub k_within : run_within s.k ≡ true
  pub c_within : run_within s.c ≡ true

fields_setting : (fields : List (List ℕ)) (s : Setting) → setting_fields fields ≡ some s
    → (print (pos s.k) ∷ print (pos s.c) ∷ [] ≡ fields) × SettingWithin s
fields_setting [] s e = unlike e
fields_setting (k ∷ []) s e = unlike e
fields_setting (k ∷ c ∷ []) s e = go (run_field k) (run_field c) refl refl e
  where
    go : (o p : Option ℕ) → run_field k ≡ o → run_field c ≡ p → setting_of o p ≡ some s
        → (print (pos s.k) ∷ print (pos s.c) ∷ [] ≡ k ∷ c ∷ []) × SettingWithin s
    go none p h i read = unlike read
    go (some x) none h i read = unlike read
    go (some x) (some y) h i read =
        let made : record { k = x; c = y } ≡ s = cc in
        let first = run-printed k x h in
        let second = run-printed c y i in
        rw (← made) (ap₂ (λ a b. a ∷ b ∷ []) first.0 second.0, record { k_within = first.1; c_within = second.1 })
fields_setting (k ∷ c ∷ next ∷ fields) s e = unlike e

pub setting-printed : (line : List ℕ) (s : Setting) → setting_stated line ≡ some s → (print_setting s ≡ line) × SettingWithin s
unfolding setting_stated print_setting
setting-printed line s e =
    let read = fields_setting (cut comma line) s e in
    (ap (join comma) read.0 ∙ join-cut comma line, read.1)

module _ (s : Setting) where
  two_free : (c : ℕ) → free c (print (pos s.k)) ≡ true → free c (print (pos s.c)) ≡ true
      → all_free c (print (pos s.k) ∷ print (pos s.c) ∷ []) ≡ true
  unfolding all_free
  two_free c h i = rw (h, i)

  pub printed-setting : SettingWithin s → setting_stated (print_setting s) ≡ some s
  unfolding setting_stated print_setting
  printed-setting within =
      ap setting_fields
      (cut-join comma (print (pos s.k)) (print (pos s.c) ∷ [])
      (two_free comma (print-free comma refl refl (pos s.k)) (print-free comma refl refl (pos s.c))))
      ∙ ap₂ setting_of (printed-run s.k within.k_within) (printed-run s.c within.c_within)

  setting-free : free line_end (print_setting s) ≡ true
  unfolding print_setting
  setting-free =
      join_free comma line_end (print (pos s.k) ∷ print (pos s.c) ∷ []) (λ e. omega arith)
      (two_free line_end (print-free line_end refl refl (pos s.k)) (print-free line_end refl refl (pos s.c)))

  setting_short : SettingWithin s → length (print_setting s) < 2 * (run_digits + 1)
  unfolding print_setting join print
  setting_short within =
      let k-most = leb-true s.k run_limit (both (leb 1 s.k) (leb s.k run_limit) within.k_within).1 in
      let c-most = leb-true s.c run_limit (both (leb 1 s.c) (leb s.c run_limit) within.c_within).1 in
      omega (
        arith,
        length-append (print_magnitude s.k) (comma ∷ print_magnitude s.c),
        magnitude_short run_digits s.k (omega arith) (omega arith),
        magnitude_short run_digits s.c (omega arith) (omega arith),
      )

-- ---- lines

-- a line before others, and the empty part
ended_first : (most : ℕ) (line : List ℕ) (lines : List (List ℕ))
    → settings_lines (suc most) (ended (line ∷ lines)) ≡ and_setting (setting_stated line) (settings_lines most (ended lines))
unfolding settings_lines
ended_first most line [] = refl
ended_first most line (next ∷ lines) = refl

-- what so many lines are read as
record LinesWithin (most : ℕ) (numbers : List ℕ) : Type 0 where
  even : length numbers % 2 ≡ 0
  most_numbers : length numbers ≤ 2 * most
  runs : runs_within numbers ≡ true

within_more : (most : ℕ) (s : Setting) (numbers : List ℕ) → SettingWithin s → LinesWithin most numbers → LinesWithin (suc most) (s.k ∷ s.c ∷ numbers)
unfolding runs_within
within_more most s numbers own others =
    record {
      even = omega (arith, others.even);
      most_numbers = omega (arith, others.most_numbers);
      runs = ap₂ ◌&&◌ own.k_within (ap₂ ◌&&◌ own.c_within others.runs);
    }

lines-printed : (most : ℕ) (parts : List (List ℕ)) (numbers : List ℕ) → settings_lines most parts ≡ some numbers
    → (ended (map print_setting (settings_of numbers)) ≡ parts) × LinesWithin most numbers
unfolding settings_lines settings_of runs_within
lines-printed most [] numbers e = unlike e
lines-printed most (part ∷ []) numbers e =
    let test = cond_some (same part []) e in
    let is : [] ≡ numbers = cc test.1 in
    rw (← is) (
      ap (λ (l : List ℕ). l ∷ []) (sym (same_eq part [] test.0)),
      record { even = refl; most_numbers = omega arith; runs = refl },
    )
lines-printed zero (part ∷ next ∷ parts) numbers e = unlike e
lines-printed (suc most) (part ∷ next ∷ parts) numbers e = go (setting_stated part) (settings_lines most (next ∷ parts)) refl refl e (lines-printed most (next ∷ parts))
  where
    go : (o : Option Setting) (p : Option (List ℕ)) → setting_stated part ≡ o → settings_lines most (next ∷ parts) ≡ p → and_setting o p ≡ some numbers
        → ((l : List ℕ) → settings_lines most (next ∷ parts) ≡ some l → (ended (map print_setting (settings_of l)) ≡ next ∷ parts) × LinesWithin most l)
        → (ended (map print_setting (settings_of numbers)) ≡ part ∷ next ∷ parts) × LinesWithin (suc most) numbers
    go none p h i read further = unlike read
    go (some s) none h i read further = unlike read
    go (some s) (some l) h i read further =
        let is : s.k ∷ s.c ∷ l ≡ numbers = cc in
        let own = setting-printed part s h in
        let others = further l i in
        rw (← is) (ap₂ ◌∷◌ own.0 others.0, within_more most s l own.1 others.1)

printed_lines : (most : ℕ) (numbers : List ℕ) → LinesWithin most numbers
    → settings_lines most (ended (map print_setting (settings_of numbers))) ≡ some numbers
unfolding settings_lines settings_of runs_within same
printed_lines most [] within = refl
printed_lines most (k ∷ []) within = absurd (omega (arith, within.even))
printed_lines zero (k ∷ c ∷ numbers) within = absurd (omega (arith, within.most_numbers))
printed_lines (suc most) (k ∷ c ∷ numbers) within =
    let s : Setting = record { k = k; c = c } in
    let first = both (run_within k) (run_within c && runs_within numbers) within.runs in
    let second = both (run_within c) (runs_within numbers) first.1 in
    let others : LinesWithin most numbers =
    record { even = omega (arith, within.even); most_numbers = omega (arith, within.most_numbers); runs = second.1 } in
    ended_first most (print_setting s) (map print_setting (settings_of numbers))
    ∙ ap₂ and_setting (printed-setting s (record { k_within = first.0; c_within = second.0 })) (printed_lines most numbers others)

lines-free : (settings : List Setting) → all_free line_end (map print_setting settings) ≡ true
unfolding all_free
lines-free [] = refl
lines-free (s ∷ settings) = rw (setting-free s) (lines-free settings)

-- ---- a text

nothing_printed : (numbers : List ℕ) → length numbers ≡ 0 → print_settings (settings_of numbers) ≡ []
unfolding settings_of print_settings print_lines
nothing_printed [] h = refl
nothing_printed (k ∷ numbers) h = absurd (omega arith)

some_printed : (numbers : List ℕ) → length numbers % 2 ≡ 0 → 1 ≤ length numbers → 1 ≤ length (print_settings (settings_of numbers))
unfolding settings_of print_settings
some_printed [] even h = absurd (omega arith)
some_printed (k ∷ []) even h = absurd (omega arith)
some_printed (k ∷ c ∷ numbers) even h = printed_some (print_setting (record { k = k; c = c })) (map print_setting (settings_of numbers))

-- the text of lines that are read so
parts_printed : (text numbers : List ℕ) → ended (map print_setting (settings_of numbers)) ≡ cut line_end text → print_settings (settings_of numbers) ≡ text
unfolding print_settings
parts_printed text numbers h = sym (ended-printed (map print_setting (settings_of numbers))) ∙ ap (join line_end) h ∙ join-cut line_end text

some_number : (text numbers : List ℕ) → print_settings (settings_of numbers) ≡ text → 1 ≤ length text → 1 ≤ length numbers
some_number text [] is some_byte = absurd (omega (arith, ap length (sym (nothing_printed [] refl) ∙ is)))
some_number text (k ∷ numbers) is some_byte = omega arith

-- an accepted text is the printing of what it is read as
pub text-printed : (text numbers : List ℕ) → text_of_settings text ≡ some numbers
    → (print_settings (settings_of numbers) ≡ text) × (settings_within numbers ≡ true)
unfolding text_of_settings
text-printed text numbers e =
    let test = cond_some (leb 1 (length text)) e in
    let read = lines-printed setting_limit (cut line_end text) numbers test.1 in
    let is = parts_printed text numbers read.0 in
    let some_byte = leb-true 1 (length text) test.0 in (
      is,
      ap₂ ◌&&◌ (eq-eqb (length numbers % 2) 0 read.1.even)
          (ap₂ ◌&&◌ (le-leb 1 (length numbers) (some_number text numbers is some_byte))
          (ap₂ ◌&&◌ (le-leb (length numbers) (2 * setting_limit) read.1.most_numbers) read.1.runs)),
    )

-- the printing of settings within their limits is read as them
pub printed-text : (numbers : List ℕ) → settings_within numbers ≡ true → text_of_settings (print_settings (settings_of numbers)) ≡ some numbers
unfolding text_of_settings print_settings
printed-text numbers h =
    let within = settings_within_lem numbers h in
    let lines = map print_setting (settings_of numbers) in
    ap₂ (λ (t : Bool) (parts : List (List ℕ)). cond t (settings_lines setting_limit parts) none)
    (le-leb 1 (length (print_lines lines)) (some_printed numbers within.even within.some))
    (printed_ended lines (lines-free (settings_of numbers)))
    ∙ printed_lines setting_limit numbers (record { even = within.even; most_numbers = within.most; runs = within.runs })

-- ---- how long a text is

numbers_short : (numbers : List ℕ) → runs_within numbers ≡ true → length (print_settings (settings_of numbers)) ≤ (run_digits + 1) * length numbers
unfolding runs_within settings_of print_settings print_lines
numbers_short [] h = omega arith
numbers_short (k ∷ []) h = omega arith
numbers_short (k ∷ c ∷ numbers) h =
    let s : Setting = record { k = k; c = c } in
    let first = both (run_within k) (run_within c && runs_within numbers) h in
    let second = both (run_within c) (runs_within numbers) first.1 in
    omega (
      arith,
      length-append (print_setting s) (line_end ∷ print_lines (map print_setting (settings_of numbers))),
      setting_short s (record { k_within = first.0; c_within = second.0 }),
      numbers_short numbers second.1,
    )

pub printed_most : (text numbers : List ℕ) → text_of_settings text ≡ some numbers → length text ≤ settings_most
printed_most text numbers e =
    let read = text-printed text numbers e in
    let within = settings_within_lem numbers read.1 in
    omega (arith, ap length read.0, numbers_short numbers within.runs, within.most)

pub refuses_long : (text : List ℕ) → settings_most < length text → text_of_settings text ≡ none
refuses_long text h = go (text_of_settings text) refl
  where
    go : (o : Option (List ℕ)) → text_of_settings text ≡ o → o ≡ none
    go none e = refl
    go (some numbers) e = absurd (omega (arith, printed_most text numbers e))
