-- What is printed into a lent slice from an index on, and how much room it takes.
--     number_digits                  the most digits of a number that is printed: those of the largest s
--     number_room                    the room of a number: a hyphen and its digits
--     field_room                     the room of a number after a comma
--     numbers_after word numbers     a word and numbers, each after a comma
--     print_numbers word numbers     a line of these, with its byte 10
--     Put w out₀ at out r           the bytes w stand from index at on, up to index r, and no other place is changed
use Rattle.std.specs.Prelude.{ℕ, ◌+◌, ◌≡◌, List, [], ◌∷◌, ◌++◌, map, ℤ, length, take, drop}
use Rattle.limits.specs.Limits.{distance_digits}
use Rattle.text.specs.Parts.{comma, line_end, join}
use Rattle.number.specs.Number.{print}

abbrev pub number_digits : ℕ
number_digits = distance_digits

abbrev pub number_room : ℕ
number_room = 1 + number_digits

abbrev pub field_room : ℕ
field_room = 1 + number_room

unfoldable pub numbers_after : List ℕ → List ℤ → List ℕ
numbers_after word numbers = join comma (word ∷ map print numbers)

abbrev pub print_numbers : List ℕ → List ℤ → List ℕ
print_numbers word numbers = numbers_after word numbers ++ (line_end ∷ [])

-- what stood before index at and from index r on is kept
pub record Put (w out₀ : List ℕ) (at : ℕ) (out : List ℕ) (r : ℕ) : Type 0 where
  pub next : r ≡ at + length w
  pub is : take r out ≡ take at out₀ ++ w
  pub rest : drop r out ≡ drop r out₀
  pub same_length : length out ≡ length out₀
