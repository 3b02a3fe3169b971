-- Names, devices, modes and actions: each is a word, and is read from it.
use Rattle.std.proofs.Common.{◌≡◌, ◌∙◌, ◌+◌, ◌^◌, ◌<◌, ◌≤◌, ℕ, true, ◌&&◌, ◌||◌, List, [], ◌∷◌, ◌++◌, length, get_or, Some, None, nat_lt, nat_le, refl, ap, arith}
use Rattle.std.specs.Prelude.{◌↔◌, codes, decimal, if◌then◌else◌, option_map}
use Rattle.std.specs.Char.{is_ascii_digit}
use Rattle.std.specs.List.{list_all}
use Rattle.std.proofs.lemmas.Bool.{and_from, and_parts, lt-ltb}
use Rattle.std.proofs.lemmas.Bool.Decides.{nat_tests}
use Rattle.std.proofs.lemmas.Fmt.{decimal_nonempty}
use Rattle.std.proofs.lemmas.List.{length-append}
use Rattle.arrayvec.specs.ArrayVec.{ArrayVec}
use Rattle.aoe_base.specs.declared.address.TargetId.{TargetId}
use Rattle.aoe_base.specs.Names.{device_of, device_text, IsNameOf}
use Rattle.aoe_disk.specs.declared.loss.Loss.{Loss}
use Rattle.aoe_disk.specs.declared.loss.Loss.TheVariants.{Keep as Kept, Old, Torn, Mix}
use Rattle.aoe_script.specs.declared.event.Which.{Which}
use Rattle.aoe_script.specs.declared.event.Which.TheVariants.{Store, Keep}
use Rattle.aoe_script.specs.Classes.{is_lower, is_name, mode_of, name_of, number, which_of}
use Rattle.aoe_script.specs.Print.{mode_text, which_text}
use Rattle.aoe_script.specs.Rules.{is_device}
use Rattle.aoe_script.specs.Types.{FitsLoss}
use Rattle.aoe_script.proofs.PlainLemmas.{all_append, all_weaker, is_plain, is_word}
use Rattle.aoe_script.proofs.WrittenLemmas.{digits_plain, number_back, number_is}

pub a_word : (c : ℕ) (word : List ℕ) → list_all is_plain (c ∷ word) ≡ true → is_word (c ∷ word) ≡ true
a_word c word e = and_from _ _ (lt-ltb 0 _ (omega arith)) e

-- ---- names

letter_plain : (c : ℕ) → is_lower c || is_ascii_digit c ≡ true → is_plain c ≡ true
letter_plain c e = grind (arith, nat_tests)

name_parts : (name : ArrayVec ℕ) → is_name name ≡ true
    → (nat_le (length name.items) 8 ≡ true) × (is_lower (get_or name.items 0 0) ≡ true) × (list_all (λ c. is_lower c || is_ascii_digit c) name.items ≡ true)
unfolding is_name
name_parts name e =
    let h = and_parts (nat_le (length name.items) 8 && is_lower (get_or name.items 0 0)) (list_all (λ c. is_lower c || is_ascii_digit c) name.items) e in
    let g = and_parts (nat_le (length name.items) 8) (is_lower (get_or name.items 0 0)) h.0 in
    (g.0, g.1, h.1)

pub name_word : (name : ArrayVec ℕ) → is_name name ≡ true → is_word name.items ≡ true
name_word name e = let h = name_parts name e in go name.items h.1 h.2
  where
    go : (items : List ℕ) → is_lower (get_or items 0 0) ≡ true → list_all (λ c. is_lower c || is_ascii_digit c) items ≡ true → is_word items ≡ true
    go [] e f = absurd cc
    go (c ∷ items) e f = a_word c items (all_weaker (λ c. is_lower c || is_ascii_digit c) is_plain letter_plain (c ∷ items) f)

pub name_back : (name : ArrayVec ℕ) → is_name name ≡ true → name_of name.items ≡ Some name
name_back name e = let h = (name_parts name e).0 in rw h refl

-- ---- devices

pub device_word : (dev : TargetId) → is_device dev ≡ true → is_word (device_text dev) ≡ true
device_word dev e =
    let h = and_parts (nat_le dev.major 65534) (nat_le dev.minor 254) e in
    let high : dev.major < 2 ^ 64 = grind (arith, nat_tests) in
    let low : dev.minor < 2 ^ 64 = grind (arith, nat_tests) in
    a_word 101 (decimal dev.major ++ 46 ∷ decimal dev.minor)
    (all_append is_plain (decimal dev.major) (46 ∷ decimal dev.minor) (digits_plain dev.major high) (digits_plain dev.minor low))

-- which texts are read as a device
abbrev pub DeviceLaw : Type 0
DeviceLaw = (id : TargetId) (text : List ℕ) → (device_of text ≡ Some id) ↔ IsNameOf id text

pub device_back : DeviceLaw → (dev : TargetId) → is_device dev ≡ true → device_of (device_text dev) ≡ Some dev
device_back law dev e =
    let h = and_parts (nat_le dev.major 65534) (nat_le dev.minor 254) e in
    let high : dev.major ≤ 65534 = grind (arith, nat_tests) in
    let low : dev.minor ≤ 254 = grind (arith, nat_tests) in
    (law dev (device_text dev)).1 record {
      shelf = decimal dev.major;
      slot = decimal dev.minor;
      text_is = refl;
      major = number_back dev.major 65534 (omega (arith, high)) high;
      minor = number_back dev.minor 254 (omega (arith, low)) low;
    }

-- ---- fixed words

pub which_word : (which : Which) → is_word (which_text which) ≡ true
which_word Store = refl
which_word Keep = refl

pub which_back : (which : Which) → which_of (which_text which) ≡ Some which
which_back Store = refl
which_back Keep = refl

pub mode_word : (mode : Loss) → FitsLoss mode → is_word (mode_text mode) ≡ true
mode_word Kept fits = refl
mode_word Old fits = refl
mode_word Torn fits = refl
mode_word (Mix x) fits = a_word 109 (105 ∷ 120 ∷ 58 ∷ decimal x) (digits_plain x fits)

pub mode_back : (mode : Loss) → FitsLoss mode → mode_of (mode_text mode) ≡ Some mode
mode_back Kept fits = refl
mode_back Old fits = refl
mode_back Torn fits = refl
mode_back (Mix x) fits =
    let long : nat_lt 4 (4 + length (decimal x)) ≡ true = lt-ltb 4 _ (omega (arith, decimal_nonempty x fits)) in
    let back = number_is x fits in
    let test : nat_lt 4 (length (codes "mix:" ++ decimal x)) ≡ true = ap (nat_lt 4) (length-append (codes "mix:") (decimal x)) ∙ long in
    ap (λ b. if b && true then option_map Mix (number (decimal x)) else None) test ∙ ap (option_map Mix) back
