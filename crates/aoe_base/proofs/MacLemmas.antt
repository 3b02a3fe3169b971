-- The texts of Ethernet addresses.
use Rattle.std.proofs.Common.{◌≡◌, ℕ, suc, ◌+◌, ◌-◌, ◌*◌, ◌/◌, ◌%◌, ◌^◌, ◌<◌, ◌≤◌, ◌⊎◌, inl, inr, List, [], ◌∷◌, length, map, drop, get_or, Some, None, Bool, true, false, refl, sym, ap, subst, ◌∙◌, arith, drop-cons, drop_of_length-le}
use Rattle.std.specs.Prelude.{All, if◌then◌else◌, ◌||◌}
use Rattle.std.specs.Int.{is_in_range}
use Rattle.std.specs.Char.{digit_char, digit_value}
use Rattle.std.proofs.lemmas.Bool.{and_parts}
use Rattle.std.proofs.lemmas.Nat.{div-mul-add}
use Rattle.std.proofs.lemmas.Str.{digit_value-digit_char}
use Rattle.aoe_base.specs.declared.address.Mac.{Mac}
use Rattle.aoe_base.specs.Names.{is_hex_digit, is_mac_text, is_pair_at, mac_of, mac_text, pair_at, pair_places}

pub digit-is : (d : ℕ) → d < 16 → is_hex_digit (digit_char d) ≡ true
digit-is d small = grind arith

either : (x y : Bool) → x || y ≡ true → (x ≡ true) ⊎ (y ≡ true)
either true y e = inl refl
either false y e = inr e

-- a digit is 0 to 9 or a to f
digit-cases : (c : ℕ) → is_hex_digit c ≡ true → ((48 ≤ c) × (c < 58)) ⊎ ((97 ≤ c) × (c < 103))
digit-cases c is = elim (either (is_in_range 48 57 c) (is_in_range 97 102 c) is) [
  | inl low ↦ inl (decimal low)
  | inr high ↦ inr (letter high)
]
  where
    decimal : is_in_range 48 57 c ≡ true → (48 ≤ c) × (c < 58)
    decimal e = (grind arith, grind arith)

    letter : is_in_range 97 102 c ≡ true → (97 ≤ c) × (c < 103)
    letter e = (grind arith, grind arith)

decimal-value : (c : ℕ) → 48 ≤ c → c < 58 → digit_value c ≡ c - 48
decimal-value c low high = grind arith

letter-value : (c : ℕ) → 97 ≤ c → c < 103 → digit_value c ≡ c - 87
letter-value c low high = grind arith

decimal-char : (c : ℕ) → 48 ≤ c → c < 58 → digit_char (c - 48) ≡ c
decimal-char c low high = grind arith

letter-char : (c : ℕ) → 97 ≤ c → c < 103 → digit_char (c - 87) ≡ c
letter-char c low high = grind arith

digit-back : (c : ℕ) → is_hex_digit c ≡ true → (digit_value c < 16) × (digit_char (digit_value c) ≡ c)
digit-back c is = elim (digit-cases c is) [
  | inl d ↦ (rw (decimal-value c d.0 d.1) (omega (arith, d.0, d.1)), rw (decimal-value c d.0 d.1) (decimal-char c d.0 d.1))
  | inr d ↦ (rw (letter-value c d.0 d.1) (omega (arith, d.0, d.1)), rw (letter-value c d.0 d.1) (letter-char c d.0 d.1))
]

-- what stands at a place where two digits were written
pair-of : (text : List ℕ) (i high low : ℕ) → get_or text i 0 ≡ high → get_or text (i + 1) 0 ≡ low → is_hex_digit high ≡ true → is_hex_digit low ≡ true
    → (is_pair_at text i ≡ true) × (pair_at text i ≡ digit_value high * 16 + digit_value low)
unfolding is_pair_at pair_at
pair-of text i high low h l hd ld = (rw (h, l, hd, ld) refl, rw (h, l) refl)

pair-written : (text : List ℕ) (i b : ℕ) → b < 256 → get_or text i 0 ≡ digit_char (b / 16) → get_or text (i + 1) 0 ≡ digit_char (b % 16)
    → (is_pair_at text i ≡ true) × (pair_at text i ≡ b)
pair-written text i b small h l =
    let hs : b / 16 < 16 = omega arith in
    let ls : b % 16 < 16 = omega arith in
    let both = pair-of text i (digit_char (b / 16)) (digit_char (b % 16)) h l (digit-is (b / 16) hs) (digit-is (b % 16) ls) in
    let hv = digit_value-digit_char (b / 16) (omega (arith, hs)) in
    let lv = digit_value-digit_char (b % 16) (omega (arith, ls)) in
    (both.0, both.1 ∙ rw (hv, lv) (omega arith))

written-back : (a b c d e f : ℕ) → a < 256 → b < 256 → c < 256 → d < 256 → e < 256 → f < 256
    → mac_of (mac_text record { 0 = a ∷ b ∷ c ∷ d ∷ e ∷ f ∷ [] }) ≡ Some record { 0 = a ∷ b ∷ c ∷ d ∷ e ∷ f ∷ [] }
unfolding mac_of
written-back a b c d e f sa sb sc sd se sf =
    let text : List ℕ = mac_text record { 0 = a ∷ b ∷ c ∷ d ∷ e ∷ f ∷ [] } in
    let pa = pair-written text 0 a sa refl refl in
    let pb = pair-written text 3 b sb refl refl in
    let pc = pair-written text 6 c sc refl refl in
    let pd = pair-written text 9 d sd refl refl in
    let pe = pair-written text 12 e se refl refl in
    let pf = pair-written text 15 f sf refl refl in
    rw (pa.0, pb.0, pc.0, pd.0, pe.0, pf.0, pa.1, pb.1, pc.1, pd.1, pe.1, pf.1) refl

-- a list is its elements
cons-is : (l t : List ℕ) (i : ℕ) → i < length l → drop (suc i) l ≡ t → drop i l ≡ get_or l i 0 ∷ t
cons-is l t i inside rest = drop-cons l i 0 inside ∙ ap (λ (xs : List ℕ). get_or l i 0 ∷ xs) rest

pub six-is : (l : List ℕ) → length l ≡ 6 → l ≡ get_or l 0 0 ∷ get_or l 1 0 ∷ get_or l 2 0 ∷ get_or l 3 0 ∷ get_or l 4 0 ∷ get_or l 5 0 ∷ []
six-is l h =
    let t6 = drop_of_length-le l {i = 6} (omega arith) in
    let t5 = cons-is l _ 5 (omega arith) t6 in
    let t4 = cons-is l _ 4 (omega arith) t5 in
    let t3 = cons-is l _ 3 (omega arith) t4 in
    let t2 = cons-is l _ 2 (omega arith) t3 in
    let t1 = cons-is l _ 1 (omega arith) t2 in
    cons-is l _ 0 (omega arith) t1

pub reads-back : (mac : Mac) → length mac.0 ≡ 6 → All (λ b. b < 2 ^ 8) mac.0 → mac_of (mac_text mac) ≡ Some mac
reads-back mac six small =
    let P : List ℕ → Type 0 = λ bytes. mac_of (mac_text record { 0 = bytes }) ≡ Some record { 0 = bytes } in
    subst P (sym (six-is mac.0 six))
    (written-back (get_or mac.0 0 0) (get_or mac.0 1 0) (get_or mac.0 2 0) (get_or mac.0 3 0) (get_or mac.0 4 0) (get_or mac.0 5 0)
    (small 0 0 (omega arith)) (small 1 0 (omega arith)) (small 2 0 (omega arith)) (small 3 0 (omega arith)) (small 4 0 (omega arith)) (small 5 0 (omega arith)))

-- what was read at a place is written there again
digits-back : (h l : ℕ) → is_hex_digit h ≡ true → is_hex_digit l ≡ true
    → (digit_char ((digit_value h * 16 + digit_value l) / 16) ≡ h) × (digit_char ((digit_value h * 16 + digit_value l) % 16) ≡ l)
digits-back h l hd ld =
    let ls = (digit-back l ld).0 in
    let high : (digit_value h * 16 + digit_value l) / 16 ≡ digit_value h = div-mul-add (digit_value h) 16 (digit_value l) ls in
    let low : (digit_value h * 16 + digit_value l) % 16 ≡ digit_value l = omega (arith, ls) in
    (rw high (digit-back h hd).1, rw low (digit-back l ld).1)

pair-read : (text : List ℕ) (i : ℕ) → is_pair_at text i ≡ true
    → (digit_char (pair_at text i / 16) ≡ get_or text i 0) × (digit_char (pair_at text i % 16) ≡ get_or text (i + 1) 0)
unfolding is_pair_at pair_at
pair-read text i is =
    let both = and_parts (is_hex_digit (get_or text i 0)) (is_hex_digit (get_or text (i + 1) 0)) is in
    digits-back (get_or text i 0) (get_or text (i + 1) 0) both.0 both.1

seventeen-is : (l : List ℕ) → length l ≡ 17
    → l ≡ get_or l 0 0 ∷ get_or l 1 0 ∷ get_or l 2 0 ∷ get_or l 3 0 ∷ get_or l 4 0 ∷ get_or l 5 0 ∷ get_or l 6 0 ∷ get_or l 7 0 ∷ get_or l 8 0 ∷ get_or l 9 0 ∷
    get_or l 10 0 ∷ get_or l 11 0 ∷ get_or l 12 0 ∷ get_or l 13 0 ∷ get_or l 14 0 ∷ get_or l 15 0 ∷ get_or l 16 0 ∷ []
seventeen-is l h =
    let t17 = drop_of_length-le l {i = 17} (omega arith) in
    let t15 = cons-is l _ 15 (omega arith) (cons-is l _ 16 (omega arith) t17) in
    let t12 = cons-is l _ 12 (omega arith) (cons-is l _ 13 (omega arith) (cons-is l _ 14 (omega arith) t15)) in
    let t9 = cons-is l _ 9 (omega arith) (cons-is l _ 10 (omega arith) (cons-is l _ 11 (omega arith) t12)) in
    let t6 = cons-is l _ 6 (omega arith) (cons-is l _ 7 (omega arith) (cons-is l _ 8 (omega arith) t9)) in
    let t3 = cons-is l _ 3 (omega arith) (cons-is l _ 4 (omega arith) (cons-is l _ 5 (omega arith) t6)) in
    cons-is l _ 0 (omega arith) (cons-is l _ 1 (omega arith) (cons-is l _ 2 (omega arith) t3))

spelled : (text : List ℕ) → is_mac_text text ≡ true → text ≡ mac_text record { 0 = map (pair_at text) pair_places }
spelled text is =
    let long : length text ≡ 17 = grind arith in
    let c2 : get_or text 2 0 ≡ 58 = grind arith in
    let c5 : get_or text 5 0 ≡ 58 = grind arith in
    let c8 : get_or text 8 0 ≡ 58 = grind arith in
    let c11 : get_or text 11 0 ≡ 58 = grind arith in
    let c14 : get_or text 14 0 ≡ 58 = grind arith in
    let p0 : is_pair_at text 0 ≡ true = grind arith in
    let p3 : is_pair_at text 3 ≡ true = grind arith in
    let p6 : is_pair_at text 6 ≡ true = grind arith in
    let p9 : is_pair_at text 9 ≡ true = grind arith in
    let p12 : is_pair_at text 12 ≡ true = grind arith in
    let p15 : is_pair_at text 15 ≡ true = grind arith in
    let r0 = pair-read text 0 p0 in
    let r3 = pair-read text 3 p3 in
    let r6 = pair-read text 6 p6 in
    let r9 = pair-read text 9 p9 in
    let r12 = pair-read text 12 p12 in
    let r15 = pair-read text 15 p15 in
    seventeen-is text long ∙ sym (rw (r0.0, r0.1, r3.0, r3.1, r6.0, r6.1, r9.0, r9.1, r12.0, r12.1, r15.0, r15.1, c2, c5, c8, c11, c14) refl)

pub one-spelling : (mac : Mac) (text : List ℕ) → mac_of text ≡ Some mac → text ≡ mac_text mac
unfolding mac_of
one-spelling mac text is =
    let read : Mac = record { 0 = map (pair_at text) pair_places } in
    let both = taken (is_mac_text text) read mac is in
    let P : Mac → Type 0 = λ m. text ≡ mac_text m in
    subst P both.1 (spelled text both.0)
  where
    taken : (b : Bool) (m mac : Mac) → (if b then Some m else None) ≡ Some mac → (b ≡ true) × (m ≡ mac)
    taken true m mac e = (refl, cc)
    taken false m mac e = absurd cc
