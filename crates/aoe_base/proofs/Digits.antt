-- A number that is read digit by digit.
use Rattle.std.proofs.Common.{◌≡◌, ◌<◌, ◌+◌, ◌*◌, ◌-◌, ◌^◌, ℕ, List, ◌∷◌, length, drop, get_or, true, refl, ◌∙◌, arith, subst, drop-cons, add-one}
use Rattle.std.proofs.Math.Nat.{pow-suc}
use Rattle.std.specs.List.{list_all}
use Rattle.std.specs.Char.{is_ascii_digit}
use Rattle.aoe_base.specs.Decimal.{decimal_value}

-- the value of the first i digits, behind which the rest stand
pub record SoFar (text : List ℕ) (value i : ℕ) : Type 0 where
  pub small : value < 10 ^ i
  pub whole : value * 10 ^ length (drop i text) + decimal_value (drop i text) ≡ decimal_value text
  pub digits : list_all is_ascii_digit (drop i text) ≡ list_all is_ascii_digit text

one_more : (v d : ℕ) (ds : List ℕ) → (v * 10 + (d - 48)) * 10 ^ length ds + decimal_value ds ≡ v * 10 ^ length (d ∷ ds) + decimal_value (d ∷ ds)
one_more v d ds = rw pow-suc (omega arith)

pub begun : (text : List ℕ) → SoFar text 0 0
begun text = record { small = omega arith; whole = omega arith; digits = refl }

pub goes_on : (text : List ℕ) (value i digit : ℕ) → i < length text → is_ascii_digit (get_or text i 0) ≡ true → digit ≡ get_or text i 0 - 48 → digit < 10
    → SoFar text value i → SoFar text (value * 10 + digit) (i + 1)
goes_on text value i digit inside is_digit digit_is below s =
    let rest : drop i text ≡ get_or text i 0 ∷ drop (i + 1) text = rw (add-one, drop-cons text i 0) refl in
    let P : List ℕ → Type 0 = λ ds. value * 10 ^ length ds + decimal_value ds ≡ decimal_value text in
    let Q : List ℕ → Type 0 = λ ds. list_all is_ascii_digit ds ≡ list_all is_ascii_digit text in
    let digits = subst Q rest s.digits in
    record {
      small = rw (add-one, pow-suc) (omega (arith, s.small));
      whole = rw digit_is (one_more value (get_or text i 0) (drop (i + 1) text) ∙ subst P rest s.whole);
      digits = rw is_digit at digits;
    }
