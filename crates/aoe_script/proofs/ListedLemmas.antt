-- Addresses and directives that commas join: each list is a word, and is read from it.
use Rattle.std.proofs.Common.{◌≡◌, ◌∙◌, ◌^◌, ◌<◌, ◌≤◌, ◌==◌, ℕ, suc, Bool, true, false, not, List, [], ◌∷◌, length, map, Option, Some, nat_lt, refl, ap, arith}
use Rattle.std.specs.Prelude.{All, codes}
use Rattle.std.specs.List.{AllByRecursion, join_with_byte, list_all, slice_split}
use Rattle.std.specs.Str.{bytes_eq}
use Rattle.std.proofs.lemmas.Bool.{and_from, and_parts, lt-ltb}
use Rattle.std.proofs.lemmas.Bool.Decides.{nat_tests}
use Rattle.std.proofs.lemmas.List.{length-append}
use Rattle.std.proofs.lemmas.List.Elements.{recursion_from_All}
use Rattle.aoe_base.specs.declared.address.Mac.{Mac}
use Rattle.aoe_base.specs.Names.{mac_of, mac_text, pair_text}
use Rattle.aoe_lists.specs.declared.dir.Dir.{Dir}
use Rattle.aoe_base.specs.Texts.{each}
use Rattle.aoe_script.specs.Classes.{at_most, dir_of, dirs_of, list_of, macs_of, ports_of}
use Rattle.aoe_base.specs.Texts.{macs_text}
use Rattle.aoe_script.specs.Print.{dir_text, dirs_text, list_text}
use Rattle.aoe_script.specs.Types.{IsAddress, IsByte}
use Rattle.aoe_script.specs.Words.{Text}
use Rattle.aoe_script.proofs.PlainLemmas.{all_also, all_joined, all_tested, all_weaker, is_part, is_plain, is_word, parts_back}
use Rattle.aoe_script.proofs.WrittenLemmas.{and_false, each_back, most_back, pair_part, part_plain}

-- ---- what an address is written as

mac_part : (mac : Mac) → IsAddress mac → list_all is_part (mac_text mac) ≡ true
mac_part mac is = all_joined is_part 58 pair_text mac.0 refl (all_tested IsByte _ pair_part mac.0 (recursion_from_All IsByte mac.0 is.bytes))

-- joined parts are as long as the first
joined_long : {X : Type 0} (n c : ℕ) (f : X → Text) (x : X) (xs : List X) → n < length (f x) → n < length (join_with_byte c (map f (x ∷ xs)))
joined_long n c f x [] long = long
joined_long n c f x (y ∷ ys) long = omega (arith, long, length-append (f x) (c ∷ join_with_byte c (map f (y ∷ ys))))

mac_long : (mac : Mac) → IsAddress mac → 1 < length (mac_text mac)
mac_long mac is = go mac.0 is.six
  where
    go : (bytes : List ℕ) → length bytes ≡ 6 → 1 < length (join_with_byte 58 (map pair_text bytes))
    go [] six = absurd (omega (arith, six))
    go (b ∷ bytes) six = joined_long 1 58 pair_text b bytes (omega arith)

not_hyphen : (text : Text) → 1 < length text → bytes_eq text (codes "-") ≡ false
not_hyphen [] long = absurd (omega (arith, long))
not_hyphen (a ∷ []) long = absurd (omega (arith, long))
not_hyphen (a ∷ b ∷ more) long = and_false (a == 45)

-- ---- lists of anything that is written as parts

part_lacks : (c : ℕ) → is_part c ≡ true → not (c == 44) ≡ true
part_lacks c e = (and_parts (nat_lt 32 c) (not (c == 44)) e).1

pub record IsWritten {T : Type 0} (read : Text → Option T) (write : T → Text) (x : T) : Type 0 where
  pub back : read (write x) ≡ Some x
  pub part : list_all is_part (write x) ≡ true
  pub long : 1 < length (write x)

module _ {T : Type 0} (read : Text → Option T) (write : T → Text) where
  pub list_long : (x : T) (xs : List T) → AllByRecursion (IsWritten read write) (x ∷ xs) → 1 < length (join_with_byte 44 (map write (x ∷ xs)))
  list_long x xs h = joined_long 1 44 write x xs h.0.long

  pub list_word : (xs : List T) → 0 < length xs → AllByRecursion (IsWritten read write) xs → is_word (join_with_byte 44 (map write xs)) ≡ true
  list_word [] some h = absurd (omega (arith, some))
  list_word (x ∷ xs) some h =
      and_from _ _ (lt-ltb 0 _ (omega (arith, list_long x xs h)))
      (all_joined is_plain 44 write (x ∷ xs) refl
      (all_tested (IsWritten read write) _ (λ x w. all_weaker is_part is_plain part_plain (write x) w.part) (x ∷ xs) h))

  pub list_back : (most : ℕ) (xs : List T) → 0 < length xs → length xs ≤ most → AllByRecursion (IsWritten read write) xs
      → at_most most (each read (slice_split (λ c. c == 44) (join_with_byte 44 (map write xs)))) ≡ Some xs
  list_back most [] some few h = absurd (omega (arith, some))
  list_back most (x ∷ xs) some few h =
      ap (λ parts. at_most most (each read parts))
      (parts_back 44 write x xs (all_tested (IsWritten read write) _ (λ x w. all_weaker is_part _ part_lacks (write x) w.part) (x ∷ xs) h))
      ∙ ap (at_most most) (each_back read write (x ∷ xs) (all_also (IsWritten read write) _ (λ x w. w.back) (x ∷ xs) h))
      ∙ most_back most (x ∷ xs) few

-- ---- addresses

-- an address is read from its text
abbrev pub AddressLaw : Type 0
AddressLaw = (mac : Mac) → length mac.0 ≡ 6 → All (λ b. b < 2 ^ 8) mac.0 → mac_of (mac_text mac) ≡ Some mac

module _ (law : AddressLaw) where
  written : (macs : List Mac) → All IsAddress macs → AllByRecursion (IsWritten mac_of mac_text) macs
  written macs h =
      all_also IsAddress (IsWritten mac_of mac_text) (λ mac is. record { back = law mac is.six is.bytes; part = mac_part mac is; long = mac_long mac is })
      macs (recursion_from_All IsAddress macs h)

  pub macs_word : (macs : List Mac) → 0 < length macs → All IsAddress macs → is_word (macs_text macs) ≡ true
  macs_word macs some h = list_word mac_of mac_text macs some (written macs h)

  pub macs_back : (macs : List Mac) → 0 < length macs → length macs ≤ 64 → All IsAddress macs → macs_of (macs_text macs) ≡ Some macs
  unfolding macs_of
  macs_back macs some few h = list_back mac_of mac_text 64 macs some few (written macs h)

  pub ports_back : (ports : List Mac) → 0 < length ports → length ports ≤ 4 → All IsAddress ports → ports_of (macs_text ports) ≡ Some ports
  ports_back ports some few h = ap (at_most 4) (macs_back ports some (omega (arith, few)) h) ∙ most_back 4 ports few

  pub list_word_of : (macs : List Mac) → All IsAddress macs → is_word (list_text macs) ≡ true
  list_word_of [] h = refl
  list_word_of (mac ∷ macs) h =
      let some : (suc (length macs) == 0) ≡ false = grind (arith, nat_tests) in
      rw some (macs_word (mac ∷ macs) (omega arith) h)

  pub list_back_of : (macs : List Mac) → length macs ≤ 64 → All IsAddress macs → list_of (list_text macs) ≡ Some macs
  list_back_of [] few h = refl
  list_back_of (mac ∷ macs) few h =
      let some : (suc (length macs) == 0) ≡ false = grind (arith, nat_tests) in
      let text = not_hyphen (macs_text (mac ∷ macs)) (list_long mac_of mac_text mac macs (written (mac ∷ macs) h)) in
      rw (some, text) (macs_back (mac ∷ macs) (omega arith) few h)

  -- ---- directives

  dir_written : (add : Bool) (mac : Mac) → IsAddress mac → IsWritten dir_of dir_text (record { add = add; mac = mac })
  dir_written true mac is = record { back = rw (law mac is.six is.bytes) refl; part = mac_part mac is; long = omega (arith, mac_long mac is) }
  dir_written false mac is = record { back = rw (law mac is.six is.bytes) refl; part = mac_part mac is; long = omega (arith, mac_long mac is) }

  dirs_written : (dirs : List Dir) → All (λ dir. IsAddress dir.mac) dirs → AllByRecursion (IsWritten dir_of dir_text) dirs
  dirs_written dirs h = all_also _ (IsWritten dir_of dir_text) (λ dir is. dir_written dir.add dir.mac is) dirs
      (recursion_from_All (λ dir. IsAddress dir.mac) dirs h)

  pub dirs_word : (dirs : List Dir) → 0 < length dirs → All (λ dir. IsAddress dir.mac) dirs → is_word (dirs_text dirs) ≡ true
  dirs_word dirs some h = list_word dir_of dir_text dirs some (dirs_written dirs h)

  pub dirs_back : (dirs : List Dir) → 0 < length dirs → length dirs ≤ 64 → All (λ dir. IsAddress dir.mac) dirs → dirs_of (dirs_text dirs) ≡ Some dirs
  unfolding dirs_of
  dirs_back dirs some few h = list_back dir_of dir_text 64 dirs some few (dirs_written dirs h)
