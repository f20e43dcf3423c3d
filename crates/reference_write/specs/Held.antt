-- What a reference text holds of what is lent, and what an accepted text lends.
--     Holds found lent     the text has the rows, the codes and the labels that are lent
--     lent_of found         what a text lends
--     TextOf lent found    the text has the rows that are lent, in plain values
--     plain_of row          the row with each value as the plain number that it reads as
--     Plain found          each value of the text is plain
use Rattle.std.specs.Prelude.{◌*◌, ◌≡◌, map, take}
use Rattle.value.specs.Value.{reads}
use Rattle.reference_row.specs.Row.{Row}
use Rattle.reference_rows.specs.ReferenceText.{ReferenceText, codes_of, channel_count, rows_of, labels_of, row_count, table_of}
use Rattle.reference_write.specs.Labels.{labels_joined, ends_from}
use Rattle.reference_write.specs.Writing.{Lent, labels_lent, plain_row, plain_rows}

pub record Holds (found : ReferenceText) (lent : Lent) : Type 0 where
  pub row_count : row_count found ≡ lent.m
  pub channels : channel_count found ≡ lent.n
  pub codes : codes_of found ≡ take lent.n lent.codes
  pub table : table_of found ≡ take (lent.m * lent.n) lent.rows
  pub labels : labels_joined (labels_of found) ≡ lent.labels
  pub ends : ends_from 0 (labels_of found) ≡ lent.ends

abbrev pub lent_of : ReferenceText → Lent
lent_of found =
    record {
      rows = table_of found;
      m = row_count found;
      n = channel_count found;
      codes = codes_of found;
      labels = labels_joined (labels_of found);
      ends = ends_from 0 (labels_of found);
    }

pub record TextOf (lent : Lent) (found : ReferenceText) : Type 0 where
  pub codes : codes_of found ≡ take lent.n lent.codes
  pub all_rows : rows_of found ≡ plain_rows lent.n (labels_lent lent) lent.rows

abbrev pub plain_of : Row → Row
plain_of row = plain_row row.label (map reads row.values)

abbrev pub Plain : ReferenceText → Type 0
Plain found = map plain_of (rows_of found) ≡ rows_of found
