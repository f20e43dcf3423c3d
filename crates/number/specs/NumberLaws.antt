-- The two laws of plain numbers, `plain-print` and `print-plain`, by which each number has exactly one written form; and what leads to
-- them.
--     range_digit, below_digit                   a byte from that of 0 to that of 9 is a digit, and none below it
--     digit_step, digit_none                     the first byte of a field of digits is a digit, or the field is no number
--     digit_read                                 the first byte of a field that is a number (`Digit`)
--     digits_past                                digits after other digits
--     digits_least                               more digits make no smaller number
--     digits_free                                only digits stand in a field of digits
--     decimal_none                               0 has none of the digits of `decimal`
--     decimal_digits                             the digits of n make n
--     decimal_first                              the first digit of a number other than 0 is not 0 (`Led`)
--     decimal-more, decimal_past                 the digits of a number with one digit more, and with more digits
--     magnitude_empty, -zero, -one, -first       a number without a sign, by its length and its first byte
--     print_digits, magnitude_print              a printed number is read as itself
--     print_magnitude_lem                            what is read as n is what n is printed as
--     print_led                                  a printed number without a sign starts with a digit
--     print_natural, print-negative              a printed number, by its magnitude and the test of its sign
--     plain-signed, plain_unsigned               a plain number, by its first byte
--     plain-print                                a printed number is read as itself
--     print-plain                                what is read as z is what z is printed as
--     print-free                                 only digits and the hyphen stand in a printed number
--     print_first                                a printed number has a first byte, a digit or the hyphen
--     magnitude_short, print_short               a number below 10 ^ k is printed in at most k bytes, and one more for its hyphen
use Prim.Native.Nat.{ℕ, zero, suc, ◌+◌, ◌-◌, ◌*◌, ◌/◌, ◌%◌, ◌^◌, ◌≤◌, ◌<◌, zero-le}
use Rattle.std.specs.Prelude.{◌≡◌, refl, Bool, true, false, ◌⊎◌, eqb, leb, ℤ, pos, negsuc, nat_abs, length, get_or, drop}
use Rattle.std.proofs.Common.{sym, ◌∙◌, ap, subst, inl, inr, pow-suc, leb-true, eqb-true, eq-eqb, ne_eqb, le-ltb, length-append}
use mathlib.Core.List.{List, [], ◌∷◌, ◌++◌, append-nil}
use Rattle.std.proofs.Math.Option.{Option, none, some, map}
use native.Mathlib.Omega.{arith}
use Rattle.std.proofs.lemmas.Bool.{eqb-false}
use Rattle.std.proofs.Math.Seq.{append_snoc}
use Rattle.std.specs.Int.Signed.{lt_z}
use Rattle.integers.specs.Absolute.{abs_nonneg}
use Rattle.integers.specs.Tests.{clash, unlike, both, range_in, range_under}
use Rattle.text.specs.Ascii.{byte}
use Rattle.text.specs.Parts.{free}
use Rattle.number.specs.Number.{hyphen, digit_zero, digit_nine, is_digit, digits_from, magnitude_of, negated, plain, decimal, print_magnitude, print}

-- ---- digits

pub range_digit : (b : ℕ) → digit_zero ≤ b → b ≤ digit_nine → is_digit b ≡ true
range_digit b h k = range_in digit_zero digit_nine b h k

pub below_digit : (b : ℕ) → b < digit_zero → is_digit b ≡ false
below_digit b h = range_under digit_zero digit_nine b h

-- the byte b is a digit, and with it after those of n the digits l make m
pub record Digit (b : ℕ) (l : List ℕ) (n m : ℕ) : Type 0 where
  pub is : is_digit b ≡ true
  pub low : digit_zero ≤ b
  pub high : b ≤ digit_nine
  pub after : digits_from l (n * 10 + (b - digit_zero)) ≡ some m

module _ (b : ℕ) (l : List ℕ) (n : ℕ) where
  pub digit_step : is_digit b ≡ true → digits_from (b ∷ l) n ≡ digits_from l (n * 10 + (b - digit_zero))
  unfolding digits_from
  digit_step h = rw h

  pub digit_none : is_digit b ≡ false → digits_from (b ∷ l) n ≡ none
  unfolding digits_from
  digit_none h = rw h

  pub digit_read : (m : ℕ) → digits_from (b ∷ l) n ≡ some m → Digit b l n m
  digit_read m h = go (is_digit b) refl
    where
      go : (t : Bool) → is_digit b ≡ t → Digit b l n m
      go true e =
          let tests : (leb digit_zero b ≡ true) × (leb b digit_nine ≡ true) = both (leb digit_zero b) (leb b digit_nine) e in
          record { is = e; low = leb-true digit_zero b tests.0; high = leb-true b digit_nine tests.1; after = sym (digit_step e) ∙ h }
      go false e = unlike (sym (digit_none e) ∙ h)

pub digits_past : (l r : List ℕ) (n m : ℕ) → digits_from l n ≡ some m → digits_from (l ++ r) n ≡ digits_from r m
unfolding digits_from
digits_past [] r n m h = let e : n ≡ m = cc in ap (digits_from r) e
digits_past (b ∷ l) r n m h =
    let read : Digit b l n m = digit_read b l n m h in
    digit_step b (l ++ r) n read.is ∙ digits_past l r (n * 10 + (b - digit_zero)) m read.after

pub digits_least : (l : List ℕ) (n m : ℕ) → digits_from l n ≡ some m → n ≤ m
unfolding digits_from
digits_least [] n m h = let e : n ≡ m = cc in omega arith
digits_least (b ∷ l) n m h = omega (arith, digits_least l (n * 10 + (b - digit_zero)) m (digit_read b l n m h).after)

pub digits_free : (c : ℕ) → is_digit c ≡ false → (l : List ℕ) (n m : ℕ) → digits_from l n ≡ some m → free c l ≡ true
unfolding free
digits_free c other [] n m h = refl
digits_free c other (b ∷ l) n m h =
    let read : Digit b l n m = digit_read b l n m h in
    let apart : eqb b c ≡ false = ne_eqb b c (λ e. clash read.is (ap is_digit e ∙ other)) in
    rw apart (digits_free c other l (n * 10 + (b - digit_zero)) m read.after)

-- ---- the digits of a number

pub decimal_none : (f n : ℕ) → n ≡ 0 → decimal f n ≡ []
unfolding decimal
decimal_none zero n e = refl
decimal_none (suc f) zero e = refl
decimal_none (suc f) (suc i) e = absurd (omega arith)

-- more fuel than the number changes nothing
decimal_fuel : (f g n : ℕ) → n ≤ f → n ≤ g → decimal f n ≡ decimal g n
unfolding decimal
decimal_fuel zero g n h k = sym (decimal_none g n (omega arith))
decimal_fuel (suc f) zero n h k = decimal_none (suc f) n (omega arith)
decimal_fuel (suc f) (suc g) zero h k = refl
decimal_fuel (suc f) (suc g) (suc i) h k =
    ap (λ (l : List ℕ). l ++ ((digit_zero + suc i % 10) ∷ [])) (decimal_fuel f g (suc i / 10) (omega arith) (omega arith))

pub decimal_digits : (f n : ℕ) → n ≤ f → digits_from (decimal f n) 0 ≡ some n
unfolding decimal digits_from
decimal_digits zero n h = let e : 0 ≡ n = omega arith in ap some e
decimal_digits (suc f) zero h = refl
decimal_digits (suc f) (suc i) h =
    let last : is_digit (digit_zero + suc i % 10) ≡ true = range_digit (digit_zero + suc i % 10) (omega arith) (omega arith) in
    let whole : suc i / 10 * 10 + (digit_zero + suc i % 10 - digit_zero) ≡ suc i = omega arith in
    digits_past (decimal f (suc i / 10)) ((digit_zero + suc i % 10) ∷ []) 0 (suc i / 10) (decimal_digits f (suc i / 10) (omega arith))
    ∙ digit_step (digit_zero + suc i % 10) [] (suc i / 10) last
    ∙ ap some whole

-- a list that starts with a digit, `lowest` or above
pub record Led (lowest : ℕ) (l : List ℕ) : Type 0 where
  pub first : ℕ
  pub rest : List ℕ
  pub is : l ≡ first ∷ rest
  pub low : lowest ≤ first
  pub high : first ≤ digit_nine

led_append : (l r : List ℕ) → Led (byte "1") l → Led (byte "1") (l ++ r)
led_append l r led =
    record { first = led.first; rest = led.rest ++ r; is = ap (λ (k : List ℕ). k ++ r) led.is; low = led.low; high = led.high }

pub decimal_first : (f n : ℕ) → n ≤ f → 0 < n → Led (byte "1") (decimal f n)
unfolding decimal
decimal_first zero n h p = absurd (omega arith)
decimal_first (suc f) zero h p = absurd (omega arith)
decimal_first (suc f) (suc i) h p = go (suc i / 10) refl (decimal_first f (suc i / 10) (omega arith))
  where
    go : (q : ℕ) → suc i / 10 ≡ q → (0 < suc i / 10 → Led (byte "1") (decimal f (suc i / 10))) → Led (byte "1") (decimal f (suc i / 10) ++ ((digit_zero + suc i % 10) ∷ []))
    go zero e led =
        record {
          first = digit_zero + suc i % 10;
          rest = [];
          is = ap (λ (l : List ℕ). l ++ ((digit_zero + suc i % 10) ∷ [])) (decimal_none f (suc i / 10) e);
          low = omega arith;
          high = omega arith;
        }
    go (suc q) e led = led_append (decimal f (suc i / 10)) ((digit_zero + suc i % 10) ∷ []) (led (omega arith))

module _ (n d : ℕ) (h : d < 10) where
  decimal_of : (t : ℕ) → n * 10 + d ≡ t → 0 < t → decimal t t ≡ decimal n n ++ ((digit_zero + d) ∷ [])
  unfolding decimal
  decimal_of zero e p = absurd (omega arith)
  decimal_of (suc i) e p =
      let quotient : suc i / 10 ≡ n = omega arith in
      let remainder : suc i % 10 ≡ d = omega arith in
      rw (quotient, remainder) (ap (λ (l : List ℕ). l ++ ((digit_zero + d) ∷ [])) (decimal_fuel i n n (omega arith) (omega arith)))

  pub decimal-more : 0 < n * 10 + d → decimal (n * 10 + d) (n * 10 + d) ≡ decimal n n ++ ((digit_zero + d) ∷ [])
  decimal-more p = decimal_of (n * 10 + d) refl p

-- one digit more, where the number with it is not 0 and the digits after it are given
decimal_step : (b : ℕ) (l : List ℕ) (n m : ℕ) → digit_zero ≤ b → b ≤ digit_nine → 0 < n * 10 + (b - digit_zero) →
    decimal m m ≡ decimal (n * 10 + (b - digit_zero)) (n * 10 + (b - digit_zero)) ++ l → decimal m m ≡ decimal n n ++ (b ∷ l)
decimal_step b l n m low high p rest =
    let same : digit_zero + (b - digit_zero) ≡ b = omega arith in
    rest
    ∙ ap (λ (k : List ℕ). k ++ l) (decimal-more n (b - digit_zero) (omega arith) p)
    ∙ append_snoc (decimal n n) (digit_zero + (b - digit_zero)) l
    ∙ ap (λ (k : ℕ). decimal n n ++ (k ∷ l)) same

pub decimal_past : (l : List ℕ) (n m : ℕ) → 0 < n → digits_from l n ≡ some m → decimal m m ≡ decimal n n ++ l
unfolding digits_from
decimal_past [] n m p h = let e : m ≡ n = cc in ap (λ (k : ℕ). decimal k k) e ∙ sym (append-nil (decimal n n))
decimal_past (b ∷ l) n m p h =
    let read : Digit b l n m = digit_read b l n m h in
    decimal_step b l n m read.low read.high (omega arith) (decimal_past l (n * 10 + (b - digit_zero)) m (omega arith) read.after)

-- ---- numbers without a sign

pub magnitude_empty : (l : List ℕ) → length l ≡ 0 → magnitude_of l ≡ none
unfolding magnitude_of
magnitude_empty [] h = refl
magnitude_empty (b ∷ l) h = absurd (omega arith)

pub magnitude_zero : (l : List ℕ) → 1 < length l → get_or l 0 0 ≡ digit_zero → magnitude_of l ≡ none
unfolding magnitude_of
magnitude_zero [] h k = refl
magnitude_zero (b ∷ []) h k = absurd (omega arith)
magnitude_zero (b ∷ c ∷ l) h k = rw (eq-eqb b digit_zero k)

pub magnitude_one : (l : List ℕ) → length l ≡ 1 → magnitude_of l ≡ digits_from l 0
unfolding magnitude_of
magnitude_one [] h = absurd (omega arith)
magnitude_one (b ∷ []) h = refl
magnitude_one (b ∷ c ∷ l) h = absurd (omega arith)

pub magnitude_first : (l : List ℕ) → 0 < length l → (get_or l 0 0 ≡ digit_zero → ⊥) → magnitude_of l ≡ digits_from l 0
unfolding magnitude_of
magnitude_first [] h k = absurd (omega arith)
magnitude_first (b ∷ []) h k = refl
magnitude_first (b ∷ c ∷ l) h k = rw (ne_eqb b digit_zero k)

pub print_digits : (n : ℕ) → digits_from (print_magnitude n) 0 ≡ some n
unfolding print_magnitude digits_from
print_digits zero = refl
print_digits (suc k) = decimal_digits (suc k) (suc k) (omega arith)

magnitude_led : (l : List ℕ) → Led (byte "1") l → magnitude_of l ≡ digits_from l 0
magnitude_led l led = rw led.is (magnitude_first (led.first ∷ led.rest) (omega arith) (λ e. omega arith))

pub magnitude_print : (n : ℕ) → magnitude_of (print_magnitude n) ≡ some n
unfolding print_magnitude magnitude_of digits_from
magnitude_print zero = refl
magnitude_print (suc k) =
    magnitude_led (decimal (suc k) (suc k)) (decimal_first (suc k) (suc k) (omega arith) (omega arith)) ∙ print_digits (suc k)

print-decimal : (n : ℕ) → 0 < n → print_magnitude n ≡ decimal n n
unfolding print_magnitude
print-decimal zero p = absurd (omega arith)
print-decimal (suc k) p = refl

-- a number by its digits, the first of which is not 0
print_nonzero : (b : ℕ) (l : List ℕ) (n : ℕ) → (b ≡ digit_zero → ⊥) → digits_from (b ∷ l) 0 ≡ some n → print_magnitude n ≡ b ∷ l
unfolding decimal
print_nonzero b l n k h =
    let read : Digit b l 0 n = digit_read b l 0 n h in
    let low : digit_zero ≤ b = read.low in
    let p : 0 < 0 * 10 + (b - digit_zero) = omega (arith, k) in
    print-decimal n (omega (arith, digits_least l (0 * 10 + (b - digit_zero)) n read.after))
    ∙ decimal_step b l 0 n low read.high p (decimal_past l (0 * 10 + (b - digit_zero)) n p read.after)

-- a number whose first digit is 0
print_zero : (l : List ℕ) (n : ℕ) → magnitude_of (digit_zero ∷ l) ≡ some n → print_magnitude n ≡ digit_zero ∷ l
unfolding magnitude_of digits_from print_magnitude
print_zero [] n h = let e : n ≡ 0 = cc in ap print_magnitude e
print_zero (c ∷ l) n h = unlike h

pub print_magnitude_lem : (l : List ℕ) (n : ℕ) → magnitude_of l ≡ some n → print_magnitude n ≡ l
unfolding magnitude_of
print_magnitude_lem [] n h = unlike h
print_magnitude_lem (b ∷ l) n h = go (eqb b digit_zero) refl
  where
    go : (t : Bool) → eqb b digit_zero ≡ t → print_magnitude n ≡ b ∷ l
    go true e = subst (λ (x : ℕ). magnitude_of (x ∷ l) ≡ some n → print_magnitude n ≡ x ∷ l) (sym (eqb-true b digit_zero e)) (print_zero l n) h
    go false e =
        let apart : b ≡ digit_zero → ⊥ = eqb-false b digit_zero e in
        print_nonzero b l n apart (sym (magnitude_first (b ∷ l) (omega arith) apart) ∙ h)

-- ---- plain numbers

pub plain-signed : (l : List ℕ) → 0 < length l → get_or l 0 0 ≡ hyphen → plain l ≡ negated (magnitude_of (drop 1 l))
unfolding plain
plain-signed [] h k = absurd (omega arith)
plain-signed (b ∷ l) h k = rw (eq-eqb b hyphen k)

pub plain_unsigned : (l : List ℕ) → 0 < length l → (get_or l 0 0 ≡ hyphen → ⊥) → plain l ≡ map pos (magnitude_of l)
unfolding plain
plain_unsigned [] h k = absurd (omega arith)
plain_unsigned (b ∷ l) h k = rw (ne_eqb b hyphen k)

led_lower : (l : List ℕ) → Led (byte "1") l → Led digit_zero l
led_lower l led = record { first = led.first; rest = led.rest; is = led.is; low = omega arith; high = led.high }

pub print_led : (n : ℕ) → Led digit_zero (print_magnitude n)
unfolding print_magnitude
print_led zero = record { first = digit_zero; rest = []; is = refl; low = omega arith; high = omega arith }
print_led (suc k) = led_lower (decimal (suc k) (suc k)) (decimal_first (suc k) (suc k) (omega arith) (omega arith))

pub print_natural : (z : ℤ) → lt_z z (pos 0) ≡ false → print z ≡ print_magnitude (nat_abs z)
unfolding print
print_natural z h = ap print (abs_nonneg z h)

pub print-negative : (z : ℤ) → lt_z z (pos 0) ≡ true → print z ≡ hyphen ∷ print_magnitude (nat_abs z)
unfolding print
print-negative (pos n) h = clash h (le-ltb n 0 zero-le)
print-negative (negsuc k) h = refl

plain_led : (l : List ℕ) → Led digit_zero l → plain l ≡ map pos (magnitude_of l)
plain_led l led = rw led.is (plain_unsigned (led.first ∷ led.rest) (omega arith) (λ e. omega arith))

pub plain-print : (z : ℤ) → plain (print z) ≡ some z
unfolding print plain
plain-print (pos n) = plain_led (print_magnitude n) (print_led n) ∙ ap (map pos) (magnitude_print n)
plain-print (negsuc k) = ap negated (magnitude_print (suc k))

-- what is read without a sign, and after a hyphen
print_unsigned : (l : List ℕ) (o : Option ℕ) (z : ℤ) → magnitude_of l ≡ o → map pos o ≡ some z → print z ≡ l
unfolding print
print_unsigned l none z h k = unlike k
print_unsigned l (some n) z h k = let e : z ≡ pos n = cc in ap print e ∙ print_magnitude_lem l n h

print-signed : (l : List ℕ) (o : Option ℕ) (z : ℤ) → magnitude_of l ≡ o → negated o ≡ some z → print z ≡ hyphen ∷ l
unfolding print
print-signed l none z h k = unlike k
print-signed l (some zero) z h k = unlike k
print-signed l (some (suc n)) z h k =
    let e : z ≡ negsuc n = cc in
    ap print e ∙ ap (λ (r : List ℕ). hyphen ∷ r) (print_magnitude_lem l (suc n) h)

pub print-plain : (l : List ℕ) (z : ℤ) → plain l ≡ some z → print z ≡ l
unfolding plain
print-plain [] z h = unlike h
print-plain (b ∷ l) z h = go (eqb b hyphen) refl
  where
    go : (t : Bool) → eqb b hyphen ≡ t → print z ≡ b ∷ l
    go true e =
        let is : b ≡ hyphen = eqb-true b hyphen e in
        print-signed l (magnitude_of l) z refl (sym (plain-signed (b ∷ l) (omega arith) is) ∙ h) ∙ ap (λ (x : ℕ). x ∷ l) (sym is)
    go false e =
        print_unsigned (b ∷ l) (magnitude_of (b ∷ l)) z refl (sym (plain_unsigned (b ∷ l) (omega arith) (eqb-false b hyphen e)) ∙ h)

pub print-free : (c : ℕ) → is_digit c ≡ false → eqb c hyphen ≡ false → (z : ℤ) → free c (print z) ≡ true
unfolding print free
print-free c other apart (pos n) = digits_free c other (print_magnitude n) 0 n (print_digits n)
print-free c other apart (negsuc k) =
    rw (ne_eqb hyphen c (λ e. eqb-false c hyphen apart (sym e))) (digits_free c other (print_magnitude (suc k)) 0 (suc k) (print_digits (suc k)))

pub print_first : (z : ℤ) → (b : ℕ) × (l : List ℕ) × (print z ≡ b ∷ l) × ((is_digit b ≡ true) ⊎ (b ≡ hyphen))
unfolding print
print_first (pos n) =
    let led : Led digit_zero (print_magnitude n) = print_led n in
    (led.first, led.rest, led.is, inl (range_digit led.first led.low led.high))
print_first (negsuc k) = (hyphen, print_magnitude (suc k), refl, inr refl)

-- ---- how long a printed number is

decimal_short : (f k n : ℕ) → n < 10 ^ k → length (decimal f n) ≤ k
unfolding decimal
decimal_short zero k n h = zero-le
decimal_short (suc f) k zero h = zero-le
decimal_short (suc f) zero (suc i) h = absurd (omega arith)
decimal_short (suc f) (suc k) (suc i) h =
    rw length-append (omega (arith, decimal_short f k (suc i / 10) (omega (arith, pow-suc 10 k))))

pub magnitude_short : (k n : ℕ) → 1 ≤ k → n < 10 ^ k → length (print_magnitude n) ≤ k
unfolding print_magnitude
magnitude_short k zero some_byte h = some_byte
magnitude_short k (suc i) some_byte h = decimal_short (suc i) k (suc i) h

pub print_short : (k : ℕ) (z : ℤ) → 1 ≤ k → nat_abs z < 10 ^ k → length (print z) ≤ suc k
unfolding print
print_short k (pos n) some_byte h = omega (arith, magnitude_short k n some_byte h)
print_short k (negsuc i) some_byte h = omega (arith, magnitude_short k (suc i) some_byte h)
