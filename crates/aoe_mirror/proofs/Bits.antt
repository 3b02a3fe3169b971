-- Marks as the bits of words.
use mir.Val.{bool_byte}
use Rattle.std.proofs.Common.{◌≡◌, ◌≢◌, ℕ, zero, suc, ◌+◌, ◌-◌, ◌*◌, ◌/◌, ◌%◌, ◌^◌, ◌<◌, ◌≤◌, ◌⊎◌, Bool, true, false, not, cond, eqb, List, [], ◌∷◌, ◌++◌, length, replicate, take, drop, get_or, set, refl, sym, ◌∙◌, ap, inl, inr, arith, ext_get_or, length-set, get_or-set_same, get_or-set_other, eq-eqb, ne_eqb}
use Rattle.std.proofs.lemmas.List.{append_assoc, length-append, length-drop, length-take-le, get_or_append_left, get_or-append_right, get_or-take, get_or-drop, length-replicate, get_or-replicate, get_or_past}
use Rattle.std.proofs.lemmas.List.FromFn.{length-map-range_with_len, get_or-map-range_with_len}
use Rattle.std.proofs.lemmas.Bool.{cases_Bool, cases_eq, cases_lt}
use Rattle.std.proofs.lemmas.Nat.{one_shl, pow_pos}
use Rattle.std.proofs.lemmas.Nat.Bits.{bit_at-zero, bit_at_ones, and_pow}
use Rattle.std.specs.Prelude.{bit_and}
use Rattle.std.specs.Int.{bit_at}
use Rattle.aoe_disk.specs.State.{is_loose}
use Rattle.aoe_disk.specs.Sectors.{IsOutside}
use Rattle.aoe_mirror.specs.Marks.{AreMarks, AreSet, IsClear, IsFirstRun, IsNextRun, bit_of, bits_of, count_of, with_each}

pub length-bits_of : (words : List ℕ) (n : ℕ) → length (bits_of words n) ≡ n
unfolding bits_of
length-bits_of words n = length-map-range_with_len (bit_of words) 0 n

pub get_or-bits_of : (words : List ℕ) (n k : ℕ) → k < n → get_or (bits_of words n) k false ≡ bit_of words k
unfolding bits_of
get_or-bits_of words n k h = get_or-map-range_with_len (bit_of words) 0 n k k false h (omega arith)

-- all marks set

pub bits_of_ones : (words : List ℕ) (n len : ℕ) → words ≡ replicate n (2 ^ 64 - 1) → len ≤ 64 * n → bits_of words len ≡ replicate len true
bits_of_ones words n len e room =
    ext_get_or false _ _ (length-bits_of words len ∙ sym (length-replicate len true))
    (λ k h.
    let within : k < len = omega (arith, h, length-bits_of words len) in
    let word : get_or words (k / 64) 0 ≡ 2 ^ 64 - 1 = rw e (get_or-replicate n (k / 64) (2 ^ 64 - 1) 0 (omega arith)) in
    get_or-bits_of words len k within
    ∙ ap (λ x. eqb (bit_at x (k % 64)) 1) word
    ∙ eq-eqb _ 1 (bit_at_ones 64 (k % 64) (omega arith))
    ∙ sym (get_or-replicate len k true false within))

-- none set

pub bits_of_zeros : (words : List ℕ) (n len : ℕ) → words ≡ replicate n 0 → len ≤ 64 * n → bits_of words len ≡ replicate len false
bits_of_zeros words n len e room =
    ext_get_or false _ _ (length-bits_of words len ∙ sym (length-replicate len false))
    (λ k h.
    let within : k < len = omega (arith, h, length-bits_of words len) in
    let word : get_or words (k / 64) 0 ≡ 0 = rw e (get_or-replicate n (k / 64) 0 0 (omega arith)) in
    get_or-bits_of words len k within
    ∙ rw word (rw bit_at-zero refl)
    ∙ sym (get_or-replicate len k false false within))

pub count_all : (n : ℕ) → count_of (replicate n true) ≡ n
unfolding count_of
count_all zero = refl
count_all (suc n) = ap suc (count_all n)

pub count_le : (marks : List Bool) → count_of marks ≤ length marks
unfolding count_of
count_le [] = omega arith
count_le (true ∷ marks) = omega (arith, count_le marks)
count_le (false ∷ marks) = omega (arith, count_le marks)

pub count_set : (marks : List Bool) (s : ℕ) (value : Bool) → s < length marks
    → count_of (set marks s value) + cond (get_or marks s false) 1 0 ≡ count_of marks + cond value 1 0
unfolding count_of
count_set [] s value within = absurd (omega arith)
count_set (true ∷ marks) zero true within = omega arith
count_set (true ∷ marks) zero false within = omega arith
count_set (false ∷ marks) zero true within = omega arith
count_set (false ∷ marks) zero false within = omega arith
count_set (true ∷ marks) (suc s) value within = omega (arith, count_set marks s value (omega arith))
count_set (false ∷ marks) (suc s) value within = count_set marks s value (omega arith)

-- none is set where none is counted
pub count_none : (marks : List Bool) (s : ℕ) → count_of marks ≡ 0 → is_loose marks s ≡ false
unfolding count_of
count_none [] s none = refl
count_none (true ∷ marks) s none = absurd (omega (arith, none))
count_none (false ∷ marks) zero none = refl
count_none (false ∷ marks) (suc s) none = count_none marks s none

pub none_count : (marks : List Bool) → ((s : ℕ) → is_loose marks s ≡ false) → count_of marks ≡ 0
unfolding count_of
none_count [] clear = refl
none_count (true ∷ marks) clear = let e : true ≡ false = clear 0 in cc
none_count (false ∷ marks) clear = none_count marks (λ s. clear (suc s))

-- a mark that is set, where some are
pub some_set : (marks : List Bool) → 0 < count_of marks → (s : ℕ) × (is_loose marks s ≡ true)
unfolding count_of
some_set [] some = absurd (omega (arith, some))
some_set (true ∷ marks) some = (0, refl)
some_set (false ∷ marks) some = let rest = some_set marks some in (suc rest.0, rest.1)

pub set_some : (marks : List Bool) (s : ℕ) → is_loose marks s ≡ true → 0 < count_of marks
set_some marks s on = elim (cases_lt 0 (count_of marks)) [
  | inl some ↦ some
  | inr none ↦ absurd (let off : is_loose marks s ≡ false = count_none marks s (omega arith) in let no : true ≡ false = sym on ∙ off in cc)
]

-- the test `word & bit != 0`
pub bit_test : (word k : ℕ) → k < 64 → not (eqb (bit_and word (1 * 2 ^ k % 2 ^ 64)) 0) ≡ eqb (bit_at word k) 1
bit_test word k h =
    let e : bit_and word (1 * 2 ^ k % 2 ^ 64) ≡ bit_at word k * 2 ^ k = ap (bit_and word) (one_shl k 64 h) ∙ and_pow word k in
    let b : ℕ = bit_at word k in
    let small : b < 2 = omega arith in
    elim (cases_eq b 1) [
      | inl one ↦
          let big : 0 < bit_and word (1 * 2 ^ k % 2 ^ 64) = rw (e, one) (omega (arith, pow_pos k)) in
          ap not (ne_eqb _ 0 (omega arith)) ∙ sym (eq-eqb b 1 one)
      | inr other ↦
          let none : b ≡ 0 = omega arith in
          ap not (eq-eqb _ 0 (rw (e, none) (omega arith))) ∙ sym (ne_eqb b 1 other)
    ]

-- one word with one of its bits changed
pub bits_of-set : (words : List ℕ) (len n v : ℕ) (value : Bool) → n < len → len ≤ 64 * length words
    → eqb (bit_at v (n % 64)) 1 ≡ value → ((i : ℕ) → i < 64 → i ≢ n % 64 → bit_at v i ≡ bit_at (get_or words (n / 64) 0) i)
    → bits_of (set words (n / 64) v) len ≡ set (bits_of words len) n value
bits_of-set words len n v value within room same others =
    let word_in : n / 64 < length words = omega arith in
    ext_get_or false _ _
    (length-bits_of _ len ∙ sym (length-bits_of words len) ∙ sym (length-set (bits_of words len) n value))
    (λ k h.
    let k_in : k < len = omega (arith, h, length-bits_of (set words (n / 64) v) len) in
    get_or-bits_of _ len k k_in
    ∙ (elim (cases_eq k n) as (λ _. bit_of (set words (n / 64) v) k ≡ get_or (set (bits_of words len) n value) k false) [
      | inl is ↦
          rw is
          (ap (λ x. eqb (bit_at x (n % 64)) 1) (get_or-set_same words (n / 64) v 0 word_in)
          ∙ same
          ∙ sym (get_or-set_same (bits_of words len) n value false (omega (arith, length-bits_of words len))))
      | inr other ↦
          (elim (cases_eq (k / 64) (n / 64)) as (λ _. bit_of (set words (n / 64) v) k ≡ bit_of words k) [
            | inl row ↦
                ap (λ x. eqb (bit_at (get_or (set words (n / 64) v) x 0) (k % 64)) 1) row
                ∙ ap (λ x. eqb (bit_at x (k % 64)) 1) (get_or-set_same words (n / 64) v 0 word_in)
                ∙ ap (λ x. eqb x 1) (others (k % 64) (omega arith) (λ e. other (omega arith)))
                ∙ ap (λ x. eqb (bit_at (get_or words x 0) (k % 64)) 1) (sym row)
            | inr apart ↦ ap (λ x. eqb (bit_at x (k % 64)) 1) (get_or-set_other words (n / 64) (k / 64) v 0 apart)
          ])
          ∙ sym (get_or-bits_of words len k k_in)
          ∙ sym (get_or-set_other (bits_of words len) n k value false other)
    ]))

-- one mark changed

byte_is : (b : Bool) → bool_byte b ≡ cond b 1 0
byte_is true = refl
byte_is false = refl

byte_small : (b : Bool) → cond b 1 0 ≤ 1
byte_small true = omega arith
byte_small false = omega arith

-- none below a place is set, where none was and what is set now stands no lower
pub clear_set : (marks : List Bool) (s : ℕ) (value : Bool) (from from' : ℕ) → IsClear marks 0 from → from' ≤ from → (value ≡ true → from' ≤ s)
    → IsClear (set marks s value) 0 from'
clear_set marks s value from from' clear fewer low = λ k le lt. elim (cases_eq k s) [
  | inl is ↦ elim (cases_Bool value) [
    | inl on ↦ let h : from' ≤ s = low on in absurd (omega arith)
    | inr off ↦ elim (cases_lt s (length marks)) [
      | inl within ↦ rw (is, off) (get_or-set_same marks s false false within)
      | inr past ↦ get_or_past (set marks s value) k false (omega (arith, length-set marks s value))
    ]
  ]
  | inr other ↦ get_or-set_other marks s k value false other ∙ clear k (omega arith) (omega arith)
]

module _ (words : List ℕ) (len many from s v : ℕ) (value : Bool) (marks : AreMarks words len many from) (within : s < len)
    (same : eqb (bit_at v (s % 64)) 1 ≡ value) (others : (i : ℕ) → i < 64 → i ≢ s % 64 → bit_at v i ≡ bit_at (get_or words (s / 64) 0) i) where
  pub set_is : bits_of (set words (s / 64) v) len ≡ set (bits_of words len) s value
  set_is = bits_of-set words len s v value within (omega (arith, marks.room)) same others

  counted_for : (was : Bool) (many' : ℕ) → was ≡ get_or (bits_of words len) s false → many' + cond was 1 0 ≡ many + cond value 1 0
      → many' ≡ count_of (set (bits_of words len) s value)
  counted_for was many' is counts =
      let c = count_set (bits_of words len) s value (omega (arith, length-bits_of words len)) in
      let d = marks.count in
      let e = rw is at counts in
      omega arith

  -- what the count gains and loses
  pub set_room : (was : Bool) → was ≡ get_or (bits_of words len) s false → bool_byte was ≤ many + bool_byte value
  set_room was is =
      let c = count_set (bits_of words len) s value (omega (arith, length-bits_of words len)) in
      let d = marks.count in
      rw (is, byte_is, byte_is) (omega arith)

  pub set_fits : many + bool_byte value ≤ 2 ^ 40 + 1
  set_fits = rw byte_is (let h : cond value 1 0 ≤ 1 = byte_small value in
      omega (arith, h, marks.count, count_le (bits_of words len), length-bits_of words len, marks.bound))

  pub set_marks : (was : Bool) (many' from' : ℕ) → was ≡ get_or (bits_of words len) s false → many' ≡ many + bool_byte value - bool_byte was → from' ≤ from
      → (value ≡ true → from' ≤ s) → AreMarks (set words (s / 64) v) len many' from'
  set_marks was many' from' is counts fewer low = record {
    bound = marks.bound;
    room = omega (arith, marks.room, length-set words (s / 64) v);
    low = omega (arith, marks.low);
    count = rw set_is (counted_for was many' is
        (let room = set_room was is in rw (byte_is, byte_is) at (let e : many' + bool_byte was ≡ many + bool_byte value = omega arith in e)));
    lowest = rw set_is (clear_set (bits_of words len) s value from from' marks.lowest fewer low);
  }

-- a word of which no bit is set
pub clear_word : (words : List ℕ) (len s k : ℕ) → get_or words (s / 64) 0 ≡ 0 → s % 64 ≡ 0 → s ≤ k → k < s + 64 → is_loose (bits_of words len) k ≡ false
clear_word words len s k none whole le lt = elim (cases_lt k len) [
  | inl within ↦
      let same : k / 64 ≡ s / 64 = omega arith in
      get_or-bits_of words len k within ∙ rw (same, none) (rw bit_at-zero refl)
  | inr past ↦ get_or_past (bits_of words len) k false (omega (arith, length-bits_of words len))
]

-- the marks below a place and at it
pub clear_more : (marks : List Bool) (at n k : ℕ) → at ≤ k → IsClear marks at (k - at) → ((s : ℕ) → k ≤ s → s < k + n → is_loose marks s ≡ false)
    → IsClear marks at (k + n - at)
clear_more marks at n k le clear more = λ s low high. elim (cases_lt s k) [
  | inl below ↦ clear s low (omega arith)
  | inr past ↦ more s past (omega arith)
]

-- marks put to one value one after another

module _ (marks : List Bool) (at n : ℕ) (value : Bool) (fits : at + n ≤ length marks) where
  front_each : length (take at marks) ≡ at
  front_each = length-take-le at marks (omega arith)

  through_each : length (take at marks ++ replicate n value) ≡ at + n
  through_each = omega (arith, front_each, length-append (take at marks) (replicate n value), length-replicate n value)

  pub length-with_each : length (with_each marks at n value) ≡ length marks
  length-with_each = omega (arith, through_each, length-append (take at marks ++ replicate n value) (drop (at + n) marks), length-drop (at + n) marks)

  pub with_each_outside : (s : ℕ) → IsOutside at n s → is_loose (with_each marks at n value) s ≡ is_loose marks s
  with_each_outside s (inl below) =
      ap (λ l. get_or l s false) (append_assoc (take at marks) (replicate n value) (drop (at + n) marks))
      ∙ get_or_append_left (take at marks) (replicate n value ++ drop (at + n) marks) false s (omega (arith, front_each)) ∙ get_or-take at marks s false below
  with_each_outside s (inr above) =
      let sum : at + n + (s - (at + n)) ≡ s = omega arith in
      get_or-append_right (take at marks ++ replicate n value) (drop (at + n) marks) (at + n) s false through_each above
      ∙ get_or-drop (at + n) marks (s - (at + n)) false ∙ ap (λ (i : ℕ). get_or marks i false) sum

  pub with_each_inside : (s : ℕ) → at ≤ s → s < at + n → is_loose (with_each marks at n value) s ≡ value
  with_each_inside s low high =
      get_or_append_left (take at marks ++ replicate n value) (drop (at + n) marks) false s (omega (arith, through_each))
      ∙ get_or-append_right (take at marks) (replicate n value) at s false front_each low ∙ get_or-replicate n (s - at) value false (omega arith)

-- one more
pub each_more : (marks : List Bool) (at n : ℕ) (value : Bool) → at + n < length marks
    → set (with_each marks at n value) (at + n) value ≡ with_each marks at (n + 1) value
each_more marks at n value fits =
    let long = length-with_each marks at n value (omega arith) in
    let longer = length-with_each marks at (n + 1) value (omega arith) in
    ext_get_or false _ _ (length-set (with_each marks at n value) (at + n) value ∙ long ∙ sym longer) (λ s lt. elim (cases_eq s (at + n)) [
      | inl is ↦ rw is (get_or-set_same (with_each marks at n value) (at + n) value false (omega arith)
          ∙ sym (with_each_inside marks at (n + 1) value (omega arith) (at + n) (omega arith) (omega arith)))
      | inr other ↦ get_or-set_other (with_each marks at n value) (at + n) s value false other ∙ elim (cases_lt s at) [
        | inl below ↦ with_each_outside marks at n value (omega arith) s (inl below)
            ∙ sym (with_each_outside marks at (n + 1) value (omega arith) s (inl below))
        | inr from ↦ elim (cases_lt s (at + n)) [
          | inl inside ↦ with_each_inside marks at n value (omega arith) s from inside
              ∙ sym (with_each_inside marks at (n + 1) value (omega arith) s from (omega arith))
          | inr past ↦ with_each_outside marks at n value (omega arith) s (inr past)
              ∙ sym (with_each_outside marks at (n + 1) value (omega arith) s (inr (omega arith)))
        ]
      ]
    ])

-- none below the end of a run is set that was cleared, where none was set below its begin
pub clear_through : (marks : List Bool) (at n from to : ℕ) → at + n ≤ length marks → IsClear (with_each marks at n false) 0 from → at ≤ from
    → to ≤ from ⊎ (to ≤ at + n) → IsClear (with_each marks at n false) 0 to
clear_through marks at n from to fits clear le which = λ s low high. elim (cases_lt s from) [
  | inl below ↦ clear s low (omega arith)
  | inr past ↦ with_each_inside marks at n false fits s (omega arith) (elim which [ inl fewer ↦ absurd (omega arith) | inr within ↦ omega arith ])
]

pub clear_front : (marks : List Bool) (from at : ℕ) → IsClear marks 0 from → IsClear marks from (at - from) → IsClear marks 0 at
clear_front marks from at below between = λ s low high. elim (cases_lt s from) [
  | inl lt ↦ below s low (omega arith)
  | inr past ↦ between s past (omega arith)
]

pub marks_from : (words : List ℕ) (len many from at : ℕ) → AreMarks words len many from → at ≤ len → IsClear (bits_of words len) 0 at
    → AreMarks words len many at
marks_from words len many from at marks within clear = record { bound = marks.bound; room = marks.room; low = within; count = marks.count; lowest = clear }

pub none_through : (marks : List Bool) → IsClear marks 0 (length marks) → count_of marks ≡ 0
none_through marks clear = none_count marks (λ s. elim (cases_lt s (length marks)) [
  | inl within ↦ clear s (omega arith) (omega arith)
  | inr past ↦ get_or_past marks s false past
])

-- fewer are set once a run of them is cleared

append_none : (n : ℕ) (marks : List Bool) → count_of (replicate n false ++ marks) ≡ count_of marks
unfolding count_of
append_none zero marks = refl
append_none (suc n) marks = append_none n marks

count_drop : (n : ℕ) (marks : List Bool) → count_of (drop n marks) ≤ count_of marks
unfolding count_of
count_drop zero marks = omega arith
count_drop (suc n) [] = omega arith
count_drop (suc n) (true ∷ marks) = omega (arith, count_drop n marks)
count_drop (suc n) (false ∷ marks) = count_drop n marks

count_hole : (marks : List Bool) (at n m : ℕ) → 0 < n → at + n ≡ m → is_loose marks at ≡ true
    → count_of (take at marks ++ replicate n false ++ drop m marks) < count_of marks
unfolding count_of
count_hole [] at n m some is set = cc
count_hole (b ∷ marks) at zero m some is set = absurd (omega (arith, some))
count_hole (b ∷ marks) at (suc n) zero some is set = absurd (omega (arith, is))
count_hole (true ∷ marks) zero (suc n) (suc m) some is set = omega (arith, append_none n (drop m marks), count_drop m marks)
count_hole (false ∷ marks) zero (suc n) (suc m) some is set = cc
count_hole (true ∷ marks) (suc at) (suc n) (suc m) some is set =
    let fewer = count_hole marks at (suc n) m some (omega (arith, is)) set in omega (arith, fewer)
count_hole (false ∷ marks) (suc at) (suc n) (suc m) some is set = count_hole marks at (suc n) m some (omega (arith, is)) set

pub count_cleared : (marks : List Bool) (at n : ℕ) → 0 < n → is_loose marks at ≡ true → count_of (with_each marks at n false) < count_of marks
count_cleared marks at n some set = count_hole marks at n (at + n) some refl set

-- how many of the first k marks are set
unfoldable pub below : ℕ → List Bool → ℕ
below zero marks = 0
below (suc k) [] = 0
below (suc k) (true ∷ marks) = suc (below k marks)
below (suc k) (false ∷ marks) = below k marks

pub below_none : (marks : List Bool) → below 0 marks ≡ 0
unfolding below
below_none marks = refl

pub below_all : (marks : List Bool) (k : ℕ) → ((s : ℕ) → k ≤ s → is_loose marks s ≡ false) → count_of marks ≡ below k marks
unfolding count_of below
below_all [] zero clear = refl
below_all [] (suc k) clear = refl
below_all (true ∷ marks) zero clear = let e : true ≡ false = clear 0 (omega arith) in cc
below_all (false ∷ marks) zero clear = below_all marks zero (λ s le. clear (suc s) (omega arith))
below_all (true ∷ marks) (suc k) clear = ap suc (below_all marks k (λ s le. clear (suc s) (omega (arith, le))))
below_all (false ∷ marks) (suc k) clear = below_all marks k (λ s le. clear (suc s) (omega (arith, le)))

pub below_more : (marks : List Bool) (k j n : ℕ) → j ≤ k + n → below j marks ≤ below k marks + n
unfolding below
below_more marks k zero n le = omega arith
below_more [] k (suc j) n le = omega arith
below_more (true ∷ marks) zero (suc j) zero le = absurd (omega (arith, le))
below_more (true ∷ marks) zero (suc j) (suc n) le = let r = below_more marks zero j n (omega (arith, le)) in omega (arith, r)
below_more (false ∷ marks) zero (suc j) n le = let r = below_more marks zero j n (omega (arith, le)) in omega (arith, r)
below_more (true ∷ marks) (suc k) (suc j) n le = let r = below_more marks k j n (omega (arith, le)) in omega (arith, r)
below_more (false ∷ marks) (suc k) (suc j) n le = let r = below_more marks k j n (omega (arith, le)) in omega (arith, r)

pub below_clear : (marks : List Bool) (k j : ℕ) → k ≤ j → ((s : ℕ) → k ≤ s → s < j → is_loose marks s ≡ false) → below j marks ≤ below k marks
unfolding below
below_clear marks k zero le clear = omega arith
below_clear [] k (suc j) le clear = omega arith
below_clear (true ∷ marks) zero (suc j) le clear = let e : true ≡ false = clear 0 (omega arith) (omega arith) in cc
below_clear (false ∷ marks) zero (suc j) le clear = below_clear marks zero j (omega arith) (λ s low lt. clear (suc s) (omega arith) (omega (arith, lt)))
below_clear (true ∷ marks) (suc k) (suc j) le clear =
    let r = below_clear marks k j (omega (arith, le)) (λ s low lt. clear (suc s) (omega (arith, low)) (omega (arith, lt))) in omega (arith, r)
below_clear (false ∷ marks) (suc k) (suc j) le clear =
    below_clear marks k j (omega (arith, le)) (λ s low lt. clear (suc s) (omega (arith, low)) (omega (arith, lt)))

pub below_same : (a b : List Bool) (k : ℕ) → length b ≡ length a → ((s : ℕ) → s < k → is_loose b s ≡ is_loose a s) → below k b ≤ below k a
unfolding below
below_same a b zero size same = omega arith
below_same [] [] (suc k) size same = omega arith
below_same [] (y ∷ b) (suc k) size same = absurd (omega (arith, size))
below_same (x ∷ a) [] (suc k) size same = absurd (omega (arith, size))
below_same (true ∷ a) (true ∷ b) (suc k) size same =
    let r = below_same a b k (omega (arith, size)) (λ s lt. same (suc s) (omega (arith, lt))) in omega (arith, r)
below_same (true ∷ a) (false ∷ b) (suc k) size same = let e : false ≡ true = same 0 (omega arith) in cc
below_same (false ∷ a) (true ∷ b) (suc k) size same = let e : true ≡ false = same 0 (omega arith) in cc
below_same (false ∷ a) (false ∷ b) (suc k) size same = below_same a b k (omega (arith, size)) (λ s lt. same (suc s) (omega (arith, lt)))

-- the first run of marks from a place on

pub clear_rest : (marks : List Bool) (from : ℕ) → IsClear marks from (length marks) → (s : ℕ) → from ≤ s → is_loose marks s ≡ false
clear_rest marks from clear s le = elim (cases_lt s (length marks)) [
  | inl within ↦ clear s le (omega arith)
  | inr past ↦ get_or_past marks s false past
]

pub next_set : (marks : List Bool) (from at n : ℕ) → IsNextRun marks from at n → AreSet marks at n
next_set marks from at n (inl r) = r.run
next_set marks from at n (inr r) = r.1.run

-- the marks behind a run that was looked at: those that were cleared, and those that stay

module _ (marks : List Bool) (from at n : ℕ) (run : IsFirstRun marks from at n) where
  pub below_stays : below (at + n) marks ≤ below from marks + n
  below_stays =
      let clear = below_clear marks from at run.low run.first in
      let more = below_more marks at (at + n) n (omega arith) in
      omega (arith, clear, more)

  pub below_cleared : below (at + n) (with_each marks at n false) ≤ below from marks
  below_cleared =
      let fits : at + n ≤ length marks = run.run.within in
      let clear = below_clear (with_each marks at n false) from (at + n) (omega (arith, run.low)) (λ s low lt. elim (cases_lt s at) [
        | inl before ↦ with_each_outside marks at n false fits s (inl before) ∙ run.first s low before
        | inr inside ↦ with_each_inside marks at n false fits s inside lt
      ]) in
      let same = below_same marks (with_each marks at n false) from (length-with_each marks at n false fits)
      (λ s lt. with_each_outside marks at n false fits s (inl (omega (arith, lt, run.low)))) in
      omega (arith, clear, same)
