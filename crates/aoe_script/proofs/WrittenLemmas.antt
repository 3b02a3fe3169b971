-- What is written as a word is read from it.
use Rattle.std.proofs.Common.{◌≡◌, ◌+◌, ◌*◌, ◌/◌, ◌%◌, ◌^◌, ◌<◌, ◌≤◌, ◌==◌, ℕ, suc, Bool, true, false, not, ◌&&◌, List, [], ◌∷◌, length, map, Option, Some, nat_lt, nat_le, refl, arith, rules}
use Rattle.std.specs.Prelude.{All, codes, decimal}
use Rattle.std.specs.List.{AllByRecursion, flat_map, list_all}
use Rattle.std.specs.Char.{digit_char, is_ascii_digit}
use Rattle.std.proofs.lemmas.Bool.{and_from, and_parts, lt-ltb}
use Rattle.std.proofs.lemmas.Bool.Decides.{nat_tests}
use Rattle.std.proofs.lemmas.Fmt.{decimal_nonempty, digits_decimal, digits_value-decimal, length-decimal-le}
use Rattle.std.proofs.lemmas.List.Elements.{recursion_from_All}
use Rattle.std.proofs.lemmas.Str.{digit_value-digit_char}
use Rattle.std.proofs.lemmas.Str.Parse.{IsNumeralModel, numerals_by_weight}
use Rattle.aoe_base.specs.Decimal.{decimal_value, number_of}
use Rattle.aoe_base.specs.Names.{pair_text}
use Rattle.aoe_base.proofs.MacLemmas.{digit-is}
use Rattle.aoe_base.specs.Texts.{each}
use Rattle.aoe_script.specs.Classes.{at_most, byte_of, bytes_of, number, pair, pairs}
use Rattle.aoe_script.specs.Print.{bytes_text}
use Rattle.aoe_script.proofs.PlainLemmas.{all_append, all_weaker, is_part, is_plain, is_word}

-- ---- numbers

own : IsNumeralModel (λ ds. list_all is_ascii_digit ds ≡ true) decimal_value
own = numerals_by_weight _ (search rules) decimal_value (search rules)

pub digits_are : (n : ℕ) → n < 2 ^ 64 → list_all is_ascii_digit (decimal n) ≡ true
digits_are n small = digits_decimal own n small

digit_plain : (c : ℕ) → is_ascii_digit c ≡ true → is_plain c ≡ true
digit_plain c e = grind (arith, nat_tests)

pub digits_plain : (n : ℕ) → n < 2 ^ 64 → list_all is_plain (decimal n) ≡ true
digits_plain n small = all_weaker is_ascii_digit is_plain digit_plain (decimal n) (digits_are n small)

pub number_word : (n : ℕ) → n < 2 ^ 64 → is_word (decimal n) ≡ true
number_word n small =
    and_from _ _ (lt-ltb 0 _ (decimal_nonempty n small)) (all_weaker is_ascii_digit is_plain digit_plain (decimal n) (digits_are n small))

pub number_back : (n max : ℕ) → n < 2 ^ 64 → n ≤ max → number_of (decimal n) max ≡ Some n
number_back n max small most =
    let some : nat_lt 0 (length (decimal n)) ≡ true = lt-ltb 0 _ (decimal_nonempty n small) in
    let few_digits = length-decimal-le 20 n (omega arith) (omega (arith, small)) small in
    let few : nat_le (length (decimal n)) 20 ≡ true = grind (arith, nat_tests) in
    let digits = digits_are n small in
    let same = digits_value-decimal own n small in
    let fits : nat_le n max ≡ true = grind (arith, nat_tests) in
    rw (some, few, digits, same, fits) refl

pub number_is : (n : ℕ) → n < 2 ^ 64 → number (decimal n) ≡ Some n
number_is n small = number_back n 18446744073709551615 small (omega (arith, small))

-- ---- bytes

hex_part : (d : ℕ) → d < 16 → is_part (digit_char d) ≡ true
hex_part d small = grind (arith, nat_tests)

pub pair_part : (b : ℕ) → b < 2 ^ 8 → list_all is_part (pair_text b) ≡ true
pair_part b small = and_from _ _ (hex_part (b / 16) (omega (arith, small))) (and_from _ _ (hex_part (b % 16) (omega arith)) refl)

pub pair_back : (b : ℕ) → b < 2 ^ 8 → pair (digit_char (b / 16)) (digit_char (b % 16)) ≡ Some b
pair_back b small =
    let hs : b / 16 < 16 = omega (arith, small) in
    let ls : b % 16 < 16 = omega arith in
    let hd = digit-is (b / 16) hs in
    let ld = digit-is (b % 16) ls in
    let hv = digit_value-digit_char (b / 16) (omega (arith, hs)) in
    let lv = digit_value-digit_char (b % 16) (omega (arith, ls)) in
    let same : (b / 16) * 16 + b % 16 ≡ b = omega arith in
    rw (hd, ld, hv, lv, same) refl

pub byte_back : (b : ℕ) → b < 2 ^ 8 → byte_of (pair_text b) ≡ Some b
byte_back b small = pair_back b small

pairs_back : (bytes : List ℕ) → AllByRecursion (λ b. b < 2 ^ 8) bytes → pairs (flat_map pair_text bytes) ≡ Some bytes
pairs_back [] small = refl
pairs_back (b ∷ bytes) small = rw (pair_back b small.0, pairs_back bytes small.1) refl

pairs_part : (bytes : List ℕ) → AllByRecursion (λ b. b < 2 ^ 8) bytes → list_all is_part (flat_map pair_text bytes) ≡ true
pairs_part [] small = refl
pairs_part (b ∷ bytes) small = all_append is_part (pair_text b) (flat_map pair_text bytes) (pair_part b small.0) (pairs_part bytes small.1)

pub part_plain : (c : ℕ) → is_part c ≡ true → is_plain c ≡ true
part_plain c e = (and_parts (is_plain c) (not (c == 44)) e).0

-- digits are never a hyphen alone
pairs_word : (bytes : List ℕ) (b : ℕ) → AllByRecursion (λ b. b < 2 ^ 8) (b ∷ bytes) → is_word (flat_map pair_text (b ∷ bytes)) ≡ true
pairs_word bytes b small =
    and_from _ _ (lt-ltb 0 _ (omega arith)) (all_weaker is_part is_plain part_plain (flat_map pair_text (b ∷ bytes)) (pairs_part (b ∷ bytes) small))

pub byte_word : (b : ℕ) → b < 2 ^ 8 → is_word (pair_text b) ≡ true
byte_word b small = all_weaker is_part is_plain part_plain (pair_text b) (pair_part b small)

pub bytes_word : (bytes : List ℕ) → All (λ b. b < 2 ^ 8) bytes → is_word (bytes_text bytes) ≡ true
bytes_word [] small = refl
bytes_word (b ∷ bytes) small =
    let some : (suc (length bytes) == 0) ≡ false = grind (arith, nat_tests) in
    rw some (pairs_word bytes b (recursion_from_All (λ b. b < 2 ^ 8) (b ∷ bytes) small))

pub and_false : (b : Bool) → b && false ≡ false
and_false true = refl
and_false false = refl

digits_read : (high low : ℕ) (more bytes : List ℕ) → pairs (high ∷ low ∷ more) ≡ Some bytes → bytes_of (high ∷ low ∷ more) ≡ Some bytes
unfolding bytes_of
digits_read high low more bytes e = rw (and_false (high == 45)) e

no_bytes : bytes_of (codes "-") ≡ Some []
unfolding bytes_of
no_bytes = refl

pub bytes_back : (bytes : List ℕ) → All (λ b. b < 2 ^ 8) bytes → bytes_of (bytes_text bytes) ≡ Some bytes
bytes_back [] small = no_bytes
bytes_back (b ∷ bytes) small =
    let some : (suc (length bytes) == 0) ≡ false = grind (arith, nat_tests) in
    rw some (digits_read (digit_char (b / 16)) (digit_char (b % 16)) (flat_map pair_text bytes) (b ∷ bytes)
    (pairs_back (b ∷ bytes) (recursion_from_All (λ b. b < 2 ^ 8) (b ∷ bytes) small)))

-- ---- lists

-- what each part says, where each is read as it was written
pub each_back : {T : Type 0} (read : List ℕ → Option T) (write : T → List ℕ) (xs : List T) → AllByRecursion (λ x. read (write x) ≡ Some x) xs
    → each read (map write xs) ≡ Some xs
each_back read write [] e = refl
each_back read write (x ∷ xs) e = rw (e.0, each_back read write xs e.1) refl

pub most_back : {T : Type 0} (most : ℕ) (xs : List T) → length xs ≤ most → at_most most (Some xs) ≡ Some xs
most_back most xs few = let test : nat_le (length xs) most ≡ true = grind (arith, nat_tests) in rw test refl
