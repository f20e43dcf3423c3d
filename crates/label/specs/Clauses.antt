-- What the functions that read a label at the start of a line answer.
--     FirstFieldRead read line r end    r is what is read of the first field of a line, which ends at index end
--     label_found l, row_label_found l    the number of a label, and of a row's label, where the field is one
use Rattle.std.specs.Prelude.{ℕ, ◌≡◌, List, take}
use Rattle.std.specs.Prelude.{Option as Answer}
use Rattle.text.specs.Parts.{comma}
use Rattle.text.specs.Clauses.{PartEnd}
use Rattle.number.specs.Clauses.{above_zero}
use Rattle.label.specs.Key.{label_key}
use Rattle.label.specs.RowLabel.{row_label_key}

pub record FirstFieldRead {A : Type 0} (read : List ℕ → A) (line : List ℕ) (r : A) (end : ℕ) : Type 0 where
  pub part : PartEnd comma line 0 end
  pub is : r ≡ read (take end line)

abbrev pub label_found : List ℕ → Answer ℕ
label_found l = above_zero (label_key l)

abbrev pub row_label_found : List ℕ → Answer ℕ
row_label_found l = above_zero (row_label_key l)
