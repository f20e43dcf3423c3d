-- What the functions that read a settings text answer.
--     run_read o                          k or c as it is read
--     setting_read o                      a line as it is read
--     count_read o                        how many numbers of a text are read
--     places r                            the lent places that an answer speaks of
--     numbers_in lent r                   the numbers in them
--     SettingsRead text lent₀ lent r     the numbers stand in the first r of the lent places
use Rattle.std.specs.Prelude.{ℕ, ◌*◌, ◌≤◌, ◌≡◌, List, length, take}
use Rattle.std.specs.Prelude.{Option as Answer, None, Some}
use Rattle.std.proofs.Math.Option.{Option, none, some}
use Rattle.limits.specs.Limits.{setting_limit}
use Rattle.alert.specs.Alert.{Setting}
use Rattle.settings_text.specs.SettingsText.{text_of_settings}
use Rattle.settings_text.specs.declared.SettingLine.{SettingLine}

abbrev pub run_read : Option ℕ → Answer ℕ
run_read none = None
run_read (some number) = Some number

abbrev pub setting_read : Option Setting → Answer SettingLine
setting_read none = None
setting_read (some s) = Some (record { k = s.k; c = s.c })

abbrev pub count_read : Option (List ℕ) → Answer ℕ
count_read none = None
count_read (some numbers) = Some (length numbers)

abbrev pub places : Answer ℕ → ℕ
places None = 0
places (Some count) = count

abbrev pub numbers_in : List ℕ → Answer ℕ → Option (List ℕ)
numbers_in lent None = none
numbers_in lent (Some count) = some (take count lent)

pub record SettingsRead (text lent₀ lent : List ℕ) (r : Answer ℕ) : Type 0 where
  pub is : r ≡ count_read (text_of_settings text)
  pub most : places r ≤ 2 * setting_limit
  pub held : numbers_in lent r ≡ text_of_settings text
  pub same_length : length lent ≡ length lent₀
