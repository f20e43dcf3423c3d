-- Laws of what is printed into a lent slice.
--     put_none, put_byte                      nothing printed, and one byte
--     put_then                                two words printed one after the other
--     put_as                                  the same print, said of an equal word and an equal index
--     take_next                               the first elements of a list and the one after them
--     last_digits k n                          the last k digits of n, with zeros before where n has fewer
--     Printing, printing_none, -next, -done   a number as its digits are printed, from the last to the first
--     width_first, width_next                 how many digits a number has: one, and those of its tenth
--     numbers_none, numbers_more              a line of a word alone, and of one number more
--     numbers_after_lem                           a line is its word and what follows it
--     numbers-free                            a byte that stands in no number and is no comma does not stand in a line of numbers
--     numbers_short                           how long a line of numbers below 10 ^ k is
--     numbers_room_lem                            how long one of numbers of 64 bits is
--     put_ended                               what is printed, and byte 10 after it
use Prim.Native.Nat.{ℕ, zero, suc, ◌+◌, ◌-◌, ◌*◌, ◌/◌, ◌%◌, ◌^◌, ◌≤◌, ◌<◌}
use Rattle.std.specs.Prelude.{◌≡◌, true, false, eqb, ℤ, pos, nat_abs, length, get_or, set}
use Rattle.std.proofs.Math.Path.{refl, sym, ap, ap₂}
use Rattle.std.proofs.Common.{◌∙◌, add-one, length-append, length-take-le, get_or-take, take-suc, take-suc-set, drop_at, drop-drop}
use Rattle.std.proofs.Math.Bool.{◌&&◌}
use mathlib.Core.List.{List, [], ◌∷◌, ◌++◌, map, map-append, append-nil, append_assoc}
use native.Mathlib.Omega.{arith}
use Rattle.std.proofs.Math.ListN.{take, drop, length-set}
use Rattle.std.proofs.Math.Seq.{append_snoc, take-set-le, take-add, drop-set-lt}
use Rattle.std.proofs.lemmas.List.{set_split}
use Rattle.text.specs.Parts.{comma, line_end, join, free, all_free}
use Rattle.text.specs.PartsLaws.{join_short, join_more, join_free}
use Rattle.number.specs.Number.{hyphen, digit_zero, is_digit, decimal, print_magnitude, print}
use Rattle.number.specs.NumberLaws.{decimal-more, print-free, print_short}
use Rattle.printing.specs.Clauses.{number_digits, field_room, numbers_after, Put}

pub put_none : (out : List ℕ) (at : ℕ) → Put [] out at out at
put_none out at = record { next = omega arith; is = sym (append-nil (take at out)); rest = refl; same_length = refl }

pub put_byte : (out : List ℕ) (at b : ℕ) → at < length out → Put (b ∷ []) out at (set out at b) (at + 1)
put_byte out at b h =
    record {
      next = refl;
      is = ap (λ (i : ℕ). take i (set out at b)) (add-one at) ∙ take-suc-set out at b h;
      rest = drop-set-lt (at + 1) out at b (omega arith);
      same_length = length-set out at b;
    }

-- what follows an index, from a later one on
rest_later : (a b : List ℕ) (r k s : ℕ) → s ≡ r + k → drop r b ≡ drop r a → drop s b ≡ drop s a
rest_later a b r k s e h =
    ap (λ (i : ℕ). drop i b) e ∙ sym (drop-drop k r b) ∙ ap (drop k) h ∙ drop-drop k r a ∙ ap (λ (i : ℕ). drop i a) (sym e)

pub put_then : {w v a b c : List ℕ} {at r s : ℕ} → Put w a at b r → Put v b r c s → Put (w ++ v) a at c s
put_then {w} {v} {a} {b} {at = at} {r} {s} first second =
    record {
      next = omega (arith, length-append w v);
      is = second.is ∙ ap (λ (l : List ℕ). l ++ v) first.is ∙ append_assoc (take at a) w v;
      rest = second.rest ∙ rest_later a b r (length v) s second.next first.rest;
      same_length = second.same_length ∙ first.same_length;
    }

pub put_as : {w v a b : List ℕ} {at r s : ℕ} → Put w a at b r → w ≡ v → r ≡ s → Put v a at b s
put_as {a = a} {b} {at} f word index =
    record {
      next = sym index ∙ f.next ∙ ap (λ (l : List ℕ). at + length l) word;
      is = ap (λ (k : ℕ). take k b) (sym index) ∙ f.is ∙ ap (λ (l : List ℕ). take at a ++ l) word;
      rest = ap (λ (k : ℕ). drop k b) (sym index) ∙ f.rest ∙ ap (λ (k : ℕ). drop k a) index;
      same_length = f.same_length;
    }

pub take_next : {A : Type 0} (l : List A) (i : ℕ) (z : A) → i < length l → take i l ++ (get_or l i z ∷ []) ≡ take (i + 1) l
take_next l i z h = sym (take-suc l i z h) ∙ ap (λ (j : ℕ). take j l) (sym (add-one i))

-- ---- digits

pub last_digits : ℕ → ℕ → List ℕ
last_digits zero n = []
last_digits (suc k) n = last_digits k (n / 10) ++ ((digit_zero + n % 10) ∷ [])

decimal_last : (f n : ℕ) → last_digits (length (decimal f n)) n ≡ decimal f n
unfolding decimal last_digits
decimal_last zero n = refl
decimal_last (suc f) zero = refl
decimal_last (suc f) (suc i) =
    let last = (digit_zero + suc i % 10) ∷ [] in
    ap (λ (k : ℕ). last_digits k (suc i)) (length-append (decimal f (suc i / 10)) last ∙ add-one (length (decimal f (suc i / 10))))
    ∙ ap (λ (l : List ℕ). l ++ last) (decimal_last f (suc i / 10))

print_last : (n : ℕ) → last_digits (length (print_magnitude n)) n ≡ print_magnitude n
unfolding print_magnitude last_digits
print_last zero = refl
print_last (suc i) = decimal_last (suc i) (suc i)

-- the word is the digits of `rest` up to index place, which are not printed yet, and what stands from there up to its end
pub record Printing (word out₀ : List ℕ) (at end : ℕ) (out : List ℕ) (rest place : ℕ) : Type 0 where
  pub end_is : end ≡ at + length word
  pub within : end ≤ length out₀
  pub low : at ≤ place
  pub high : place ≤ end
  pub so_far : last_digits (place - at) rest ++ take (end - place) (drop place out) ≡ word
  pub kept : take at out ≡ take at out₀
  pub past : drop end out ≡ drop end out₀
  pub same_length : length out ≡ length out₀

pub printing_none : (n : ℕ) (out : List ℕ) (at end : ℕ) → end ≡ at + length (print_magnitude n) → end ≤ length out
    → Printing (print_magnitude n) out at end out n end
printing_none n out at end e h =
    let width : end - at ≡ length (print_magnitude n) = omega arith in
    let none : end - end ≡ 0 = omega arith in
    record {
      end_is = e;
      within = h;
      low = omega arith;
      high = omega arith;
      so_far =
          ap₂ (λ (k m : ℕ). last_digits k n ++ take m (drop end out)) width none ∙ append-nil (last_digits (length (print_magnitude n)) n) ∙ print_last n;
      kept = refl;
      past = refl;
      same_length = refl;
    }

drop-set : (l : List ℕ) (i b : ℕ) → i < length l → drop i (set l i b) ≡ b ∷ drop (suc i) l
drop-set l i b h = ap (drop i) (set_split l i b h) ∙ drop_at (take i l) (b ∷ drop (suc i) l) i (length-take-le i l (omega arith))

module _ {word out₀ : List ℕ} {at end : ℕ} where
  pub printing_next : {out : List ℕ} {rest place : ℕ} → at < place → Printing word out₀ at end out rest place
      → Printing word out₀ at end (set out (place - 1) (digit_zero + rest % 10)) (rest / 10) (place - 1)
  unfolding last_digits
  printing_next {out} {rest} {place} h f =
      let b = digit_zero + rest % 10 in
      let p = place - 1 in
      let here : suc p ≡ place = omega arith in
      let before : suc (p - at) ≡ place - at = omega arith in
      let after : end - p ≡ suc (end - place) = omega arith in
      record {
        end_is = f.end_is;
        within = f.within;
        low = omega arith;
        high = omega arith;
        so_far =
            ap₂ (λ (k : ℕ) (l : List ℕ). last_digits (p - at) (rest / 10) ++ take k l) after (drop-set out p b (omega arith) ∙ ap (λ (i : ℕ). b ∷ drop i out) here)
            ∙ sym (append_snoc (last_digits (p - at) (rest / 10)) b (take (end - place) (drop place out)))
            ∙ ap (λ (k : ℕ). last_digits k rest ++ take (end - place) (drop place out)) before
            ∙ f.so_far;
        kept = take-set-le at out p b (omega arith) ∙ f.kept;
        past = drop-set-lt end out p b (omega arith) ∙ f.past;
        same_length = length-set out p b ∙ f.same_length;
      }

  pub printing_done : {out : List ℕ} {rest place : ℕ} → place ≤ at → Printing word out₀ at end out rest place → Put word out₀ at out end
  unfolding last_digits
  printing_done {out} {rest} {place} h f =
      let none : 0 ≡ place - at = omega arith in
      let there : place ≡ at = omega arith in
      let whole : end ≡ place + (end - place) = omega arith in
      let digits = take (end - place) (drop place out) in
      record {
        next = f.end_is;
        is =
            ap (λ (k : ℕ). take k out) whole ∙ take-add place (end - place) out
            ∙ ap₂ ◌++◌ (ap (λ (k : ℕ). take k out) there ∙ f.kept) (ap (λ (k : ℕ). last_digits k rest ++ digits) none ∙ f.so_far);
        rest = f.past;
        same_length = f.same_length;
      }

-- ---- how many digits a number has

pub width_next : (n : ℕ) → 0 < n → length (decimal n n) ≡ 1 + length (decimal (n / 10) (n / 10))
width_next n h =
    let whole : n / 10 * 10 + n % 10 ≡ n = omega arith in
    ap (λ (k : ℕ). length (decimal k k)) (sym whole)
    ∙ ap length (decimal-more (n / 10) (n % 10) (omega arith) (omega arith))
    ∙ length-append (decimal (n / 10) (n / 10)) ((digit_zero + n % 10) ∷ [])
    ∙ omega arith

pub width_first : (n : ℕ) → length (print_magnitude n) ≡ 1 + length (decimal (n / 10) (n / 10))
unfolding print_magnitude decimal
width_first zero = refl
width_first (suc i) = width_next (suc i) (omega arith)

-- ---- a line of numbers

pub numbers_none : (word : List ℕ) → numbers_after word [] ≡ word
unfolding numbers_after join
numbers_none word = refl

pub numbers_after_lem : (word : List ℕ) (zs : List ℤ) → word ++ numbers_after [] zs ≡ numbers_after word zs
unfolding numbers_after join
numbers_after_lem word [] = append-nil word
numbers_after_lem word (z ∷ zs) = refl

pub numbers_more : (word : List ℕ) (zs : List ℤ) (z : ℤ) → numbers_after word (zs ++ (z ∷ [])) ≡ numbers_after word zs ++ (comma ∷ print z)
unfolding numbers_after
numbers_more word zs z =
    ap (λ (ps : List (List ℕ)). join comma (word ∷ ps)) (map-append print zs (z ∷ [])) ∙ join_more comma word (print z) (map print zs)

module _ (c : ℕ) (digit : is_digit c ≡ false) (sign : eqb c hyphen ≡ false) where
  prints_free : (zs : List ℤ) → all_free c (map print zs) ≡ true
  unfolding all_free
  prints_free [] = refl
  prints_free (z ∷ zs) = ap₂ ◌&&◌ (print-free c digit sign z) (prints_free zs)

  pub numbers-free : (comma ≡ c → ⊥) → (word : List ℕ) (zs : List ℤ) → free c word ≡ true → free c (numbers_after word zs) ≡ true
  unfolding numbers_after all_free
  numbers-free apart word zs h = join_free comma c (word ∷ map print zs) apart (ap₂ ◌&&◌ h (prints_free zs))

pub numbers_short : (k : ℕ) (word : List ℕ) (zs : List ℤ) → 1 ≤ k → ((j : ℕ) → j < length zs → nat_abs (get_or zs j (pos 0)) < 10 ^ k)
    → length (numbers_after word zs) ≤ length word + (k + 2) * length zs
unfolding numbers_after
numbers_short k word zs some-digit below =
    omega (arith, join_short print (pos 0) comma (suc k) word zs (λ j h. print_short k (get_or zs j (pos 0)) some-digit (below j h)))

pub numbers_room_lem : (word : List ℕ) (count : ℕ) (zs : List ℤ) → count ≤ length zs → ((k : ℕ) → k < count → nat_abs (get_or zs k (pos 0)) < 2 ^ 63)
    → length (numbers_after word (take count zs)) ≤ length word + count * field_room
numbers_room_lem word count zs h small =
    let places : length (take count zs) ≡ count = length-take-le count zs h in
    let below : (k : ℕ) → k < length (take count zs) → nat_abs (get_or (take count zs) k (pos 0)) < 10 ^ number_digits =
    λ k l. omega (arith, ap nat_abs (get_or-take count zs k (pos 0) (omega arith)), small k (omega arith)) in
    omega (arith, numbers_short number_digits word (take count zs) (omega arith) below)

pub put_ended : {w out out' : List ℕ} {at r : ℕ} → Put w out at out' r → r < length out' → Put (w ++ (line_end ∷ [])) out at (set out' r line_end) (r + 1)
put_ended {out' = out'} {r = r} f h = put_then f (put_byte out' r line_end h)
