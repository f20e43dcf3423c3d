-- Document 01, "Turned-back input": the thirteen numbers by name, in the table's order; then those that document 02 adds.
use Rattle.std.specs.Prelude.{ℕ}

-- text empty or above 65,536 bytes
abbrev pub text_length : ℕ
text_length = 1

-- bad heading or unknown tag
abbrev pub heading : ℕ
heading = 2

-- line not in form, no final byte 10
abbrev pub line_form : ℕ
line_form = 3

-- value outside its type's range
abbrev pub value_range : ℕ
value_range = 4

-- label used on an earlier row
abbrev pub label_repeated : ℕ
label_repeated = 5

-- no row, or one past the row limit
abbrev pub row_count_number : ℕ
row_count_number = 6

-- lent table below m times n
abbrev pub table_short : ℕ
table_short = 7

-- n, m, coordinate, type code, envelope figure or chart channel outside limits; rows lent in below m times n places;
-- weight list not of m places; labels not one for each row
abbrev pub outside_limits : ℕ
outside_limits = 8

-- budget above 1,000,000
abbrev pub budget_too_large : ℕ
budget_too_large = 9

-- reading's tag not the envelope's
abbrev pub tag_differs : ℕ
tag_differs = 10

-- record not in form
abbrev pub record_form : ℕ
record_form = 11

-- weights or record disagree with rows
abbrev pub disagreement : ℕ
disagreement = 12

-- output buffer too short
abbrev pub buffer_short : ℕ
buffer_short = 13

-- k or c outside 1 to 99, or 0 or over 20 settings, or a k without its c
abbrev pub alert_settings : ℕ
alert_settings = 14
