-- The limits of documents 01 and 02, each named once; only contracts fix the total, the row limit and the table of types.
--     total, row_limit, channel_limit, coordinate_limit, budget_limit     D, and the most rows, channels, distance of a coordinate from 0, moves
--     place_limit                                                      the most places of a table
--     centre_limit D, distance_limit D                                  the limits on X, and on s, M and L, for a total D
--     length_limit, separation_limit                                    the limits on a row's squared length and on d²
--     difference_limit D                                               the limit on g
--     text_limit, label_limit, tag_limit                                 the most bytes of a text, of a label and of a tag
--     setting_limit, run_limit                                          the most settings of an alert that are tried at once, and the largest k and c
--     record_digits                                                    the most digits of a number in a record
--     channel_digits .. text_digits                                     how many digits the largest number of a kind has
use Rattle.std.specs.Prelude.{ℕ, ◌*◌}

-- D
abbrev pub total : ℕ
total = 65536

abbrev pub row_limit : ℕ
row_limit = 256

abbrev pub channel_limit : ℕ
channel_limit = 8

abbrev pub place_limit : ℕ
place_limit = row_limit * channel_limit

-- both ends of a type's range are within it too
abbrev pub coordinate_limit : ℕ
coordinate_limit = 4000

abbrev pub budget_limit : ℕ
budget_limit = 1000000

-- the limit on X: 262,144,000 where D is 65,536
abbrev pub centre_limit : ℕ → ℕ
centre_limit D = coordinate_limit * D

-- the limit on s, M and L: 2,199,023,255,552,000,000 where D is 65,536
abbrev pub distance_limit : ℕ → ℕ
distance_limit D = channel_limit * (2 * centre_limit D) * (2 * centre_limit D)

-- the limits on a row's squared length, and on d²
abbrev pub length_limit : ℕ
length_limit = channel_limit * coordinate_limit * coordinate_limit

abbrev pub separation_limit : ℕ
separation_limit = channel_limit * (2 * coordinate_limit) * (2 * coordinate_limit)

-- the limit on g, which is the limit on s divided by D
abbrev pub difference_limit : ℕ → ℕ
difference_limit D = separation_limit * D

abbrev pub text_limit : ℕ
text_limit = 65536

abbrev pub label_limit : ℕ
label_limit = 12

abbrev pub tag_limit : ℕ
tag_limit = 3

-- the most settings of an alert that are tried at once
abbrev pub setting_limit : ℕ
setting_limit = 20

-- the largest k and c
abbrev pub run_limit : ℕ
run_limit = 99

-- of a number in a record, whatever it stands for
abbrev pub record_digits : ℕ
record_digits = 19

-- of n, a row, a coordinate, a weight, a place of X, s, the moves made, k and c, and the bytes of a text
abbrev pub channel_digits : ℕ
channel_digits = 1

abbrev pub row_digits : ℕ
row_digits = 3

abbrev pub coordinate_digits : ℕ
coordinate_digits = 4

abbrev pub weight_digits : ℕ
weight_digits = 5

abbrev pub centre_digits : ℕ
centre_digits = 9

abbrev pub distance_digits : ℕ
distance_digits = 19

abbrev pub moves_digits : ℕ
moves_digits = 7

abbrev pub run_digits : ℕ
run_digits = 2

abbrev pub text_digits : ℕ
text_digits = 5
