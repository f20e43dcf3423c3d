-- A settings text as it is read.
--     run-read                               k or c as it is read
--     run_none, run_some                     what is read of it tells what it is
--     setting_one, setting-more              a line of one field, and one of more than two
--     setting_two                            a line of two fields
--     first_none, second_none, both_there    by what is read of them
--     setting_none, setting_some             what is read of a line tells what it is
--     SettingsSoFar                          the lines as they are read: what the text is read as is what stands in the places so far and what
--                                            the lines from here on are read as
--     settings_empty                         an empty text is none
--     settings_none, settings_next           at the start, and after one line more
--     settings_many, -open, -other           what stops the walk: a line too many, one without its byte 10, one that is no setting
--     settings_done                          what it ends with
use Prim.Native.Nat.{ℕ, suc, ◌+◌, ◌-◌, ◌*◌, ◌≤◌, ◌<◌}
use mathlib.Core.Path.{◌≡◌, refl, sym, ap, ap₂, ◌∙◌}
use mathlib.Core.Bool.{Bool, true, false, cond}
use mathlib.Core.List.{List, [], ◌∷◌, ◌++◌, append-nil, append_assoc}
use mathlib.Core.Option.{Option, none, some, map}
use Rattle.std.specs.Prelude.{None, Some}
use native.Mathlib.Omega.{arith}
use borrow.Author.Tests.{le-leb, eqb-true, eqb-false}
use lib.Dec.{eqb}
use lib.IntN.{ℤ, pos, negsuc}
use lib.ListN.{length, set, take, length-set}
use lib.Seq.{take-suc-set, length-take-le}
use Rattle.lists.specs.Gathered.{gathered_none}
use Rattle.limits.specs.Limits.{setting_limit, run_limit}
use Rattle.text.specs.Parts.{comma, line_end, same, cut, part_end, parts_from}
use Rattle.text.specs.Clauses.{PartEnd}
use Rattle.text.specs.PartsLaws.{part_at, parts_none, parts_whole, part_end_lem, first_part_from, last_empty, last_part_lem, last_some, followed}
use Rattle.number.specs.Number.{plain}
use Rattle.number.specs.Clauses.{count_read as number_read, count_field}
use Rattle.alert.specs.Alert.{Setting}
use Rattle.alert_settings.specs.Settings.{run_within}
use Rattle.settings_text.specs.SettingsText.{run_stated, run_field, setting_of, setting_fields, setting_stated, and_setting, settings_lines, text_of_settings}
use Rattle.settings_text.specs.Clauses.{run_read, setting_read, count_read, SettingsRead}
use Rattle.settings_text.specs.declared.SettingLine.{SettingLine}

-- ---- k or c

pub run-read : (field : List ℕ) → count_field run_limit field ≡ run_read (run_field field)
unfolding run_field
run-read field = go (plain field)
  where
    within : (n : ℕ) (t : Bool) → cond t (Some n) None ≡ run_read (cond t (some n) none)
    within n true = refl
    within n false = refl

    go : (o : Option ℤ) → number_read run_limit o ≡ run_read (run_stated o)
    go none = refl
    go (some (pos n)) = within n (run_within n)
    go (some (negsuc k)) = refl

run_none : (o : Option ℕ) → None ≡ run_read o → o ≡ none
run_none none h = refl
run_none (some n) h = cc

run_some : (o : Option ℕ) (k : ℕ) → Some k ≡ run_read o → o ≡ some k
run_some none k h = cc
run_some (some n) k h = let e : k ≡ n = cc in ap some (sym e)

-- ---- a line

module _ (line : List ℕ) (e : ℕ) (p : PartEnd comma line 0 e) where
  pub setting_one : e ≡ length line → setting_stated line ≡ none
  unfolding setting_stated
  setting_one h = ap setting_fields (first_part_from comma line e p ∙ ap (λ (l : List (List ℕ)). take e line ∷ l) (parts_none comma line (e + 1) (omega arith)))

  module _ (last : ℕ) (below : e + 1 ≤ length line) (q : PartEnd comma line (e + 1) last) where
    pub setting-more : (last ≡ length line → ⊥) → setting_stated line ≡ none
    unfolding setting_stated
    setting-more h =
        ap setting_fields (first_part_from comma line e p ∙ ap (λ (l : List (List ℕ)). take e line ∷ l) (followed comma line (e + 1) last below q h).is)

    pub setting_two : last ≡ length line → setting_stated line ≡ setting_of (run_field (take e line)) (run_field (part_at line (e + 1) last))
    unfolding setting_stated
    setting_two h =
        ap setting_fields (first_part_from comma line e p ∙ ap (λ (l : List (List ℕ)). take e line ∷ l) (last_part_lem comma line (e + 1) last below q h))

module _ (first second : List ℕ) where
  pub first_none : None ≡ count_field run_limit first → setting_of (run_field first) (run_field second) ≡ none
  first_none h = ap (λ (o : Option ℕ). setting_of o (run_field second)) (run_none (run_field first) (h ∙ run-read first))

  pub second_none : None ≡ count_field run_limit second → setting_of (run_field first) (run_field second) ≡ none
  second_none h = ap (setting_of (run_field first)) (run_none (run_field second) (h ∙ run-read second)) ∙ go (run_field first)
    where
      go : (o : Option ℕ) → setting_of o none ≡ none
      go none = refl
      go (some number) = refl

  pub both_there : {k c : ℕ} → Some k ≡ count_field run_limit first → Some c ≡ count_field run_limit second
      → setting_of (run_field first) (run_field second) ≡ some (record { k = k; c = c })
  both_there {k} {c} h i =
      ap₂ setting_of (run_some (run_field first) k (h ∙ run-read first)) (run_some (run_field second) c (i ∙ run-read second))

module _ (line : List ℕ) where
  setting_none : None ≡ setting_read (setting_stated line) → setting_stated line ≡ none
  setting_none h = go (setting_stated line) h
    where
      go : (o : Option Setting) → None ≡ setting_read o → o ≡ none
      go none e = refl
      go (some s) e = cc

  setting_some : (s : SettingLine) → Some s ≡ setting_read (setting_stated line) → setting_stated line ≡ some (record { k = s.k; c = s.c })
  setting_some s h = go (setting_stated line) h
    where
      go : (o : Option Setting) → Some s ≡ setting_read o → o ≡ some (record { k = s.k; c = s.c })
      go none e = cc
      go (some t) e =
          let is : s ≡ record { k = t.k; c = t.c } = cc in
          ap (λ (r : SettingLine). some (record { k = r.k; c = r.c })) (sym is)

-- ---- line by line

-- what a text of at least one byte is read as
text-read : (text : List ℕ) → 1 ≤ length text → text_of_settings text ≡ settings_lines setting_limit (cut line_end text)
unfolding text_of_settings
text-read text h = ap (λ (t : Bool). cond t (settings_lines setting_limit (cut line_end text)) none) (le-leb 1 (length text) h)

pub settings_empty : (text lent : List ℕ) → length text ≡ 0 → SettingsRead text lent lent None
unfolding text_of_settings
settings_empty [] lent h = record { is = refl; most = omega arith; held = refl; same_length = refl }
settings_empty (b ∷ text) lent h = absurd (omega arith)

pub record SettingsSoFar (text lent₀ lent : List ℕ) (lines at : ℕ) : Type 0 where
  pub some_byte : 1 ≤ length text
  pub room : 2 * setting_limit ≤ length lent₀
  pub same_length : length lent ≡ length lent₀
  pub most : lines ≤ setting_limit
  pub within : at ≤ length text
  pub is : settings_lines setting_limit (cut line_end text)
      ≡ map (λ (l : List ℕ). take (2 * lines) lent ++ l) (settings_lines (setting_limit - lines) (parts_from line_end text at))

pub settings_none : (text lent : List ℕ) → 1 ≤ length text → 2 * setting_limit ≤ length lent → SettingsSoFar text lent lent 0 0
settings_none text lent some_byte room =
    record {
      some_byte = some_byte;
      room = room;
      same_length = refl;
      most = omega arith;
      within = omega arith;
      is = gathered_none _ ∙ ap (λ (parts : List (List ℕ)). map (λ (l : List ℕ). [] ++ l) (settings_lines setting_limit parts)) (sym (parts_whole line_end text));
    }

gathered_two : (xs : List ℕ) (x y : ℕ) (o : Option (List ℕ))
    → map (λ (l : List ℕ). xs ++ l) (map (λ (l : List ℕ). x ∷ y ∷ l) o) ≡ map (λ (l : List ℕ). (xs ++ (x ∷ y ∷ [])) ++ l) o
gathered_two xs x y none = refl
gathered_two xs x y (some l) = ap some (sym (append_assoc xs (x ∷ y ∷ []) l))

-- the places after two more are written
two_set : (lent : List ℕ) (i x y : ℕ) → i + 1 < length lent → take (i + 2) (set (set lent i x) (i + 1) y) ≡ take i lent ++ (x ∷ y ∷ [])
two_set lent i x y h =
    let second : i + 2 ≡ suc (i + 1) = omega arith in
    let first : i + 1 ≡ suc i = omega arith in
    ap (λ (k : ℕ). take k (set (set lent i x) (i + 1) y)) second
    ∙ take-suc-set (set lent i x) (i + 1) y (omega (arith, length-set lent i x))
    ∙ ap (λ (k : ℕ). take k (set lent i x) ++ (y ∷ [])) first
    ∙ ap (λ (l : List ℕ). l ++ (y ∷ [])) (take-suc-set lent i x (omega arith))
    ∙ append_assoc (take i lent) (x ∷ []) (y ∷ [])

module _ {text lent₀ lent : List ℕ} {lines at : ℕ} (f : SettingsSoFar text lent₀ lent lines at) where
  -- nothing is read where nothing is from here on
  stopped : settings_lines (setting_limit - lines) (parts_from line_end text at) ≡ none → SettingsRead text lent₀ lent None
  stopped h =
      let nothing : text_of_settings text ≡ none =
      text-read text f.some_byte ∙ f.is ∙ ap (map (λ (l : List ℕ). take (2 * lines) lent ++ l)) h in
      record { is = sym (ap count_read nothing); most = omega arith; held = sym nothing; same_length = f.same_length }

  module _ (below : at < length text) where
    -- the last piece, which has a byte
    last_none : (most e : ℕ) → PartEnd line_end text at e → e ≡ length text → settings_lines most (parts_from line_end text at) ≡ none
    unfolding settings_lines same
    last_none most e p h = ap (settings_lines most) (last_some line_end text at e below p h)

    full_none : (e : ℕ) → PartEnd line_end text at e → (t : Bool) → eqb e (length text) ≡ t → settings_lines 0 (parts_from line_end text at) ≡ none
    unfolding settings_lines
    full_none e p true h = last_none 0 e p (eqb-true e (length text) h)
    full_none e p false h = ap (settings_lines 0) (followed line_end text at e f.within p (eqb-false e (length text) h)).is

    pub settings_many : setting_limit ≤ lines → SettingsRead text lent₀ lent None
    settings_many h =
        let full : setting_limit - lines ≡ 0 = omega arith in
        let e = part_end line_end text at in
        stopped (ap (λ (most : ℕ). settings_lines most (parts_from line_end text at)) full
        ∙ full_none e (part_end_lem line_end text at f.within) (eqb e (length text)) refl)

    module _ {e : ℕ} (p : PartEnd line_end text at e) where
      pub settings_open : e ≡ length text → SettingsRead text lent₀ lent None
      settings_open h = stopped (last_none (setting_limit - lines) e p h)

      module _ (few : lines < setting_limit) (more : e < length text) where
        line_first : settings_lines (setting_limit - lines) (parts_from line_end text at)
            ≡ and_setting (setting_stated (part_at text at e)) (settings_lines (setting_limit - (lines + 1)) (parts_from line_end text (e + 1)))
        unfolding settings_lines
        line_first =
            let some_left : setting_limit - lines ≡ suc (setting_limit - (lines + 1)) = omega arith in
            let parts = followed line_end text at e f.within p (λ h. omega arith) in
            ap₂ settings_lines some_left parts.is
            ∙ ap (λ (l : List (List ℕ)). and_setting (setting_stated (part_at text at e)) (settings_lines (setting_limit - (lines + 1)) l)) (sym parts.after)

        pub settings_other : None ≡ setting_read (setting_stated (part_at text at e)) → SettingsRead text lent₀ lent None
        settings_other h =
            stopped (line_first ∙ ap (λ (o : Option Setting). and_setting o (settings_lines (setting_limit - (lines + 1)) (parts_from line_end text (e + 1))))
            (setting_none (part_at text at e) h))

        module _ (read : SettingLine) (is : Some read ≡ setting_read (setting_stated (part_at text at e))) where
          pub settings_next : SettingsSoFar text lent₀ (set (set lent (2 * lines) read.k) (2 * lines + 1) read.c) (lines + 1) (e + 1)
          settings_next =
              let rest = settings_lines (setting_limit - (lines + 1)) (parts_from line_end text (e + 1)) in
              let lent' = set (set lent (2 * lines) read.k) (2 * lines + 1) read.c in
              let places : 2 * (lines + 1) ≡ 2 * lines + 2 = omega arith in
              record {
                some_byte = f.some_byte;
                room = f.room;
                same_length =
                    length-set (set lent (2 * lines) read.k) (2 * lines + 1) read.c ∙ length-set lent (2 * lines) read.k ∙ f.same_length;
                most = omega arith;
                within = omega arith;
                is =
                    f.is
                    ∙ ap (map (λ (l : List ℕ). take (2 * lines) lent ++ l))
                    (line_first ∙ ap (λ (o : Option Setting). and_setting o rest) (setting_some (part_at text at e) read is))
                    ∙ gathered_two (take (2 * lines) lent) read.k read.c rest
                    ∙ ap (λ (xs : List ℕ). map (λ (l : List ℕ). xs ++ l) rest)
                    (sym (ap (λ (k : ℕ). take k lent') places ∙ two_set lent (2 * lines) read.k read.c (omega (arith, f.room, f.same_length))));
              }

  pub settings_done : length text ≤ at → SettingsRead text lent₀ lent (Some (2 * lines))
  unfolding settings_lines same
  settings_done h =
      let end : at ≡ length text = omega (arith, f.within) in
      let held : text_of_settings text ≡ some (take (2 * lines) lent) =
      text-read text f.some_byte
      ∙ f.is
      ∙ ap (λ (parts : List (List ℕ)). map (λ (l : List ℕ). take (2 * lines) lent ++ l) (settings_lines (setting_limit - lines) parts)) (last_empty line_end text at end)
      ∙ ap some (append-nil (take (2 * lines) lent)) in
      record {
        is = sym (ap count_read held ∙ ap Some (length-take-le (2 * lines) lent (omega (arith, f.most, f.room, f.same_length))));
        most = omega (arith, f.most);
        held = sym held;
        same_length = f.same_length;
      }
