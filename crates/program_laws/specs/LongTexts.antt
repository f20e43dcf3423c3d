-- How much a program reads of a text.
--     read_limit                   the most bytes that it reads, one more than a text may have
--     bytes_read text              what it reads
use Rattle.std.specs.Prelude.{ℕ, ◌+◌, List, take}
use Rattle.limits.specs.Limits.{text_limit}

abbrev pub read_limit : ℕ
read_limit = text_limit + 1

unfoldable pub bytes_read : List ℕ → List ℕ
bytes_read text = take read_limit text
