-- Document 02, job 2: a settings text has 1 to 20 lines `k,c`, each ended by byte 10; k and c are plain numbers from 1 to 99. Every other
-- text is refused.
--     run_stated z                 the number, if it is from 1 to 99
--     run_field field              k or c, if the field is one
--     setting_of k c               the setting, if both numbers are there
--     setting_fields fields        the setting, if the fields are its k and c
--     setting_stated line          the setting, if the line is one
--     and_setting s numbers        k and c before the other numbers, if all are there
--     settings_lines most parts    the numbers of at most so many lines, if the parts are lines with an empty part after the last
--     text_of_settings text           the numbers k, c, k, c of a settings text, if the text is one
--     print_setting s              the line of a setting
--     print_settings settings      the text of settings
--     settings_most                the most bytes of a settings text
use Rattle.std.specs.Prelude.{ℕ, zero, suc, ◌+◌, ◌*◌, cond, List, [], ◌∷◌, map, leb, ℤ, pos, negsuc, length}
use Rattle.std.proofs.Math.Option
use Rattle.std.proofs.Math.Option.{Option, none, some}
use Rattle.limits.specs.Limits.{setting_limit, run_digits}
use Rattle.text.specs.Parts.{comma, line_end, same, cut, join}
use Rattle.text.specs.Lines.{print_lines}
use Rattle.number.specs.Number.{plain, print}
use Rattle.alert.specs.Alert.{Setting}
use Rattle.alert_settings.specs.Settings.{run_within}

abbrev pub run_stated : Option ℤ → Option ℕ
run_stated none = none
run_stated (some (pos number)) = cond (run_within number) (some number) none
run_stated (some (negsuc k)) = none

unfoldable pub run_field : List ℕ → Option ℕ
run_field field = run_stated (plain field)

abbrev pub setting_of : Option ℕ → Option ℕ → Option Setting
setting_of none c = none
setting_of (some k) none = none
setting_of (some k) (some c) = some (record { k = k; c = c })

abbrev pub setting_fields : List (List ℕ) → Option Setting
setting_fields [] = none
setting_fields (k ∷ []) = none
setting_fields (k ∷ c ∷ []) = setting_of (run_field k) (run_field c)
setting_fields (k ∷ c ∷ next ∷ fields) = none

unfoldable pub setting_stated : List ℕ → Option Setting
setting_stated line = setting_fields (cut comma line)

abbrev pub and_setting : Option Setting → Option (List ℕ) → Option (List ℕ)
and_setting none numbers = none
and_setting (some s) numbers = Option.map (λ (l : List ℕ). s.k ∷ s.c ∷ l) numbers

-- a line that has its byte 10 is followed by another part
unfoldable pub settings_lines : ℕ → List (List ℕ) → Option (List ℕ)
settings_lines most [] = none
settings_lines most (part ∷ []) = cond (same part []) (some []) none
settings_lines zero (part ∷ next ∷ parts) = none
settings_lines (suc most) (part ∷ next ∷ parts) = and_setting (setting_stated part) (settings_lines most (next ∷ parts))

-- not an empty one
unfoldable pub text_of_settings : List ℕ → Option (List ℕ)
text_of_settings text = cond (leb 1 (length text)) (settings_lines setting_limit (cut line_end text)) none

unfoldable pub print_setting : Setting → List ℕ
print_setting s = join comma (print (pos s.k) ∷ print (pos s.c) ∷ [])

unfoldable pub print_settings : List Setting → List ℕ
print_settings settings = print_lines (map print_setting settings)

-- two numbers in each line, a comma or byte 10 after each
abbrev pub settings_most : ℕ
settings_most = setting_limit * (2 * (run_digits + 1))
