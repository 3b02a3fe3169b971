-- The header of a file is its fields, and they are its bytes.
use Rattle.std.proofs.Common.{◌≡◌, ℕ, ◌^◌, ◌<◌, ◌≤◌, ◌+◌, Bool, true, false, List, ◌++◌, length, length-append, get_or, take, drop, refl, sym, ap, subst, ◌∙◌, arith, ◌⊎◌, Option, Some, None, inl, inr}
use Rattle.std.specs.Prelude.{All, IfSome, ◌==◌, ◌&&◌, ◌||◌}
use Rattle.std.proofs.Math.Seq.{take-add}
use Rattle.std.proofs.lemmas.List.{take_all, length-take-le, length-drop}
use Rattle.aoe_frame.proofs.PieceLemmas.{part-small}
use Rattle.aoe_io.proofs.StreamLemmas.{same-front}
use Rattle.aoe_io.specs.Bytes.{Gave, IsEnded}
use Rattle.aoe_pcap.specs.Capture.{BeginsNoHead, FileHead, IsHead, half, half_of, head_bytes, magic, word, word_of}
use Rattle.aoe_pcap.proofs.NumberLemmas.{half-again, word-again, word-back, word-small}

magic-small : (nanoseconds : Bool) → magic nanoseconds < 2 ^ 32
magic-small true = omega arith
magic-small false = omega arith

-- the numbers of a header that say what file it is
pub record Marks (big : Bool) (f : List ℕ) (nanoseconds : Bool) : Type 0 where
  pub magic_is : word_of big (take 4 f) ≡ magic nanoseconds
  pub major_is : half_of big (take 2 (drop 4 f)) ≡ 2
  pub minor_is : half_of big (take 2 (drop 6 f)) ≡ 4
  pub link_is : word_of big (take 4 (drop 20 f)) ≡ 1

marks-of : (big nanoseconds : Bool) (zone accuracy snap_length : ℕ)
    → Marks big (head_bytes (record { big = big; nanoseconds = nanoseconds; zone = zone; accuracy = accuracy; snap_length = snap_length })) nanoseconds
unfolding head_bytes half half_of word word_of
marks-of true nanoseconds zone accuracy snap_length = record {
  magic_is = word-back true (magic nanoseconds) (magic-small nanoseconds);
  major_is = refl;
  minor_is = refl;
  link_is = refl;
}
marks-of false nanoseconds zone accuracy snap_length = record {
  magic_is = word-back false (magic nanoseconds) (magic-small nanoseconds);
  major_is = refl;
  minor_is = refl;
  link_is = refl;
}

pub marks : (h : FileHead) → Marks h.big (head_bytes h) h.nanoseconds
marks h = marks-of h.big h.nanoseconds h.zone h.accuracy h.snap_length

-- the tests of those numbers
abbrev pub known : ℕ → ℕ → ℕ → ℕ → Bool
known m major minor link = ((m == 0xa1b2c3d4) || (m == 0xa1b23c4d)) && (major == 2) && (minor == 4) && (link == 1)

record Tested (m major minor link : ℕ) : Type 0 where
  nanoseconds : Bool
  magic_is : m ≡ magic nanoseconds
  major_is : major ≡ 2
  minor_is : minor ≡ 4
  link_is : link ≡ 1

tested : (m major minor link : ℕ) → known m major minor link ≡ true → Tested m major minor link
tested m major minor link e =
    let which : (m ≡ 0xa1b2c3d4) ⊎ (m ≡ 0xa1b23c4d) = grind arith in
    let major_is : major ≡ 2 = grind arith in
    let minor_is : minor ≡ 4 = grind arith in
    let link_is : link ≡ 1 = grind arith in
    elim which [
      | inl micro ↦ record { nanoseconds = false; magic_is = micro; major_is = major_is; minor_is = minor_is; link_is = link_is }
      | inr nano ↦ record { nanoseconds = true; magic_is = nano; major_is = major_is; minor_is = minor_is; link_is = link_is }
    ]

known-magic : (nanoseconds : Bool) → known (magic nanoseconds) 2 4 1 ≡ true
known-magic true = refl
known-magic false = refl

-- a header passes the tests
pub head-known : (h : FileHead) (big : Bool) (f : List ℕ) (m major minor link : ℕ) → h.big ≡ big → f ≡ head_bytes h → m ≡ word_of big (take 4 f)
    → major ≡ half_of big (take 2 (drop 4 f)) → minor ≡ half_of big (take 2 (drop 6 f)) → link ≡ word_of big (take 4 (drop 20 f))
    → known m major minor link ≡ true
head-known h big f m major minor link order bytes m_is major_is minor_is link_is =
    let P : Bool → Type 0 = λ b. Marks b (head_bytes h) h.nanoseconds in
    let Q : List ℕ → Type 0 = λ f. Marks big f h.nanoseconds in
    let is : Marks big f h.nanoseconds = subst Q (sym bytes) (subst P order (marks h)) in
    rw (m_is ∙ is.magic_is, major_is ∙ is.major_is, minor_is ∙ is.minor_is, link_is ∙ is.link_is) (known-magic h.nanoseconds)

pieces : (f : List ℕ)
    → take 24 f ≡ take 4 f ++ take 2 (drop 4 f) ++ take 2 (drop 6 f) ++ take 4 (drop 8 f) ++ take 4 (drop 12 f) ++ take 4 (drop 16 f) ++ take 4 (drop 20 f)
pieces f =
    let six : take 6 f ≡ take 4 f ++ take 2 (drop 4 f) = take-add 4 2 f in
    let eight : take 8 f ≡ take 6 f ++ take 2 (drop 6 f) = take-add 6 2 f in
    let twelve : take 12 f ≡ take 8 f ++ take 4 (drop 8 f) = take-add 8 4 f in
    let sixteen : take 16 f ≡ take 12 f ++ take 4 (drop 12 f) = take-add 12 4 f in
    let twenty : take 20 f ≡ take 16 f ++ take 4 (drop 16 f) = take-add 16 4 f in
    let all : take 24 f ≡ take 20 f ++ take 4 (drop 20 f) = take-add 20 4 f in
    cc

-- a piece of a list that is long enough has its length
piece-long : (f : List ℕ) (k n : ℕ) → k + n ≤ length f → length (take n (drop k f)) ≡ n
piece-long f k n long = length-take-le n (drop k f) (omega (arith, length-drop k f))

-- a header of these bytes, where they pass the tests
pub record Spelled (big : Bool) (f : List ℕ) : Type 0 where
  pub head : FileHead
  pub fits : IsHead head
  pub order : head.big ≡ big
  pub bytes : f ≡ head_bytes head

pub known-head : (big : Bool) (f : List ℕ) (m major minor link : ℕ) → length f ≡ 24 → All (λ b. b < 2 ^ 8) f → known m major minor link ≡ true
    → m ≡ word_of big (take 4 f) → major ≡ half_of big (take 2 (drop 4 f)) → minor ≡ half_of big (take 2 (drop 6 f))
    → link ≡ word_of big (take 4 (drop 20 f)) → Spelled big f
unfolding head_bytes
known-head big f m major minor link long small e m_is major_is minor_is link_is =
    let t = tested m major minor link e in
    let small_at : (k n i : ℕ) → get_or (take n (drop k f)) i 0 < 256 = λ k n i. part-small f n k small i in
    let magic_bytes : word big (magic t.nanoseconds) ≡ take 4 f =
    ap (word big) (sym t.magic_is ∙ m_is) ∙ (word-again big (take 4 f) (piece-long f 0 4 (omega (arith, long))) (small_at 0 4)) in
    let major_bytes : half big 2 ≡ take 2 (drop 4 f) =
    ap (half big) (sym t.major_is ∙ major_is) ∙ (half-again big (take 2 (drop 4 f)) (piece-long f 4 2 (omega (arith, long))) (small_at 4 2)) in
    let minor_bytes : half big 4 ≡ take 2 (drop 6 f) =
    ap (half big) (sym t.minor_is ∙ minor_is) ∙ (half-again big (take 2 (drop 6 f)) (piece-long f 6 2 (omega (arith, long))) (small_at 6 2)) in
    let zone_bytes : word big (word_of big (take 4 (drop 8 f))) ≡ take 4 (drop 8 f) =
    word-again big (take 4 (drop 8 f)) (piece-long f 8 4 (omega (arith, long))) (small_at 8 4) in
    let accuracy_bytes : word big (word_of big (take 4 (drop 12 f))) ≡ take 4 (drop 12 f) =
    word-again big (take 4 (drop 12 f)) (piece-long f 12 4 (omega (arith, long))) (small_at 12 4) in
    let snap_bytes : word big (word_of big (take 4 (drop 16 f))) ≡ take 4 (drop 16 f) =
    word-again big (take 4 (drop 16 f)) (piece-long f 16 4 (omega (arith, long))) (small_at 16 4) in
    let link_bytes : word big 1 ≡ take 4 (drop 20 f) =
    ap (word big) (sym t.link_is ∙ link_is) ∙ (word-again big (take 4 (drop 20 f)) (piece-long f 20 4 (omega (arith, long))) (small_at 20 4)) in
    let all : f ≡ take 24 f = sym (take_all 24 f (omega (arith, long))) in
    record {
      head = record {
        big = big;
        nanoseconds = t.nanoseconds;
        zone = word_of big (take 4 (drop 8 f));
        accuracy = word_of big (take 4 (drop 12 f));
        snap_length = word_of big (take 4 (drop 16 f));
      };
      fits = record {
        zone = word-small big (take 4 (drop 8 f)) (small_at 8 4);
        accuracy = word-small big (take 4 (drop 12 f)) (small_at 12 4);
        snap_length = word-small big (take 4 (drop 16 f)) (small_at 16 4);
      };
      order = refl;
      bytes = all ∙ pieces f ∙ rw (magic_bytes, major_bytes, minor_bytes, zone_bytes, accuracy_bytes, snap_bytes, link_bytes) refl;
    }

head-long : (big nanoseconds : Bool) (zone accuracy snap_length : ℕ)
    → length (head_bytes (record { big = big; nanoseconds = nanoseconds; zone = zone; accuracy = accuracy; snap_length = snap_length })) ≡ 24
unfolding head_bytes word half
head-long true nanoseconds zone accuracy snap_length = refl
head-long false nanoseconds zone accuracy snap_length = refl

pub length-head : (h : FileHead) → length (head_bytes h) ≡ 24
length-head h = head-long h.big h.nanoseconds h.zone h.accuracy h.snap_length

-- a piece of all bytes is all of them
pub gave-all : (a b : Option (List ℕ)) (f : List ℕ) (n : ℕ) → length f ≤ n → Gave a b (take n f) → Gave a b f
gave-all a b f n long gave = let P : List ℕ → Type 0 = λ g. Gave a b g in subst P (take_all n f long) gave

-- an input that ends within a header begins with none, nor does one whose first 24 bytes are none

pub short-head : (a b : Option (List ℕ)) (f : List ℕ) → Gave a b f → IsEnded b → length f < 24 → IfSome a BeginsNoHead
short-head None b f gave ended short = tt
short-head (Some x) None f gave ended short = absurd (cc)
short-head (Some x) (Some y) f gave ended short = λ h rest e.
    let whole : x ≡ f ++ y = cc in
    omega (arith, short, length-head h, length-append f y, length-append (head_bytes h) rest, ap length (sym whole ∙ e), ap length ended)

pub other-head : (a b : Option (List ℕ)) (f : List ℕ) → Gave a b f → length f ≡ 24 → ((h : FileHead) → f ≡ head_bytes h → ⊥) → IfSome a BeginsNoHead
other-head None b f gave long isnt = tt
other-head (Some x) None f gave long isnt = absurd (cc)
other-head (Some x) (Some y) f gave long isnt = λ h rest e.
    let whole : x ≡ f ++ y = cc in
    isnt h (same-front f (head_bytes h) y rest (long ∙ sym (length-head h)) (sym whole ∙ e)).0

-- no two headers have the same bytes

abbrev first_byte : Bool → Bool → ℕ
first_byte true nanoseconds = 161
first_byte false true = 77
first_byte false false = 212

first-byte : (big nanoseconds : Bool) (zone accuracy snap_length : ℕ)
    → get_or (head_bytes (record { big = big; nanoseconds = nanoseconds; zone = zone; accuracy = accuracy; snap_length = snap_length })) 0 0
    ≡ first_byte big nanoseconds
unfolding head_bytes word half
first-byte true true zone accuracy snap_length = refl
first-byte true false zone accuracy snap_length = refl
first-byte false true zone accuracy snap_length = refl
first-byte false false zone accuracy snap_length = refl

same-order : (b c m n : Bool) → first_byte b m ≡ first_byte c n → b ≡ c
same-order true true m n e = refl
same-order false false m n e = refl
same-order true false m true e = absurd (omega (arith, e))
same-order true false m false e = absurd (omega (arith, e))
same-order false true true n e = absurd (omega (arith, e))
same-order false true false n e = absurd (omega (arith, e))

same-magic : (m n : Bool) → magic m ≡ magic n → m ≡ n
same-magic true true e = refl
same-magic false false e = refl
same-magic true false e = absurd (omega (arith, e))
same-magic false true e = absurd (omega (arith, e))

-- the numbers of a header that aren't looked at
record Others (big : Bool) (f : List ℕ) (zone accuracy snap_length : ℕ) : Type 0 where
  zone_is : word_of big (take 4 (drop 8 f)) ≡ zone
  accuracy_is : word_of big (take 4 (drop 12 f)) ≡ accuracy
  snap_is : word_of big (take 4 (drop 16 f)) ≡ snap_length

others : (big nanoseconds : Bool) (zone accuracy snap_length : ℕ) → zone < 2 ^ 32 → accuracy < 2 ^ 32 → snap_length < 2 ^ 32
    → Others big
    (head_bytes (record { big = big; nanoseconds = nanoseconds; zone = zone; accuracy = accuracy; snap_length = snap_length }))
    zone accuracy snap_length
unfolding head_bytes half word word_of
others true nanoseconds zone accuracy snap_length z a s = record {
  zone_is = word-back true zone z;
  accuracy_is = word-back true accuracy a;
  snap_is = word-back true snap_length s;
}
others false nanoseconds zone accuracy snap_length z a s = record {
  zone_is = word-back false zone z;
  accuracy_is = word-back false accuracy a;
  snap_is = word-back false snap_length s;
}

same-fields : (h g : FileHead) → h.big ≡ g.big → h.nanoseconds ≡ g.nanoseconds → h.zone ≡ g.zone
    → h.accuracy ≡ g.accuracy → h.snap_length ≡ g.snap_length → h ≡ g
same-fields h g b n z a s =
    let of : Bool → Bool → ℕ → ℕ → ℕ → FileHead = λ b n z a s. record { big = b; nanoseconds = n; zone = z; accuracy = a; snap_length = s } in
    let all : of h.big h.nanoseconds h.zone h.accuracy h.snap_length ≡ of g.big g.nanoseconds g.zone g.accuracy g.snap_length = rw (b, n, z, a, s) refl in
    all

pub one-head : (h g : FileHead) → IsHead h → IsHead g → head_bytes h ≡ head_bytes g → h ≡ g
one-head h g h_is g_is e =
    let firsts : first_byte h.big h.nanoseconds ≡ first_byte g.big g.nanoseconds =
    sym (first-byte h.big h.nanoseconds h.zone h.accuracy h.snap_length) ∙ ap (λ f. get_or f 0 0) e
    ∙ first-byte g.big g.nanoseconds g.zone g.accuracy g.snap_length in
    let order : h.big ≡ g.big = same-order h.big g.big h.nanoseconds g.nanoseconds firsts in
    let one = others h.big h.nanoseconds h.zone h.accuracy h.snap_length h_is.zone h_is.accuracy h_is.snap_length in
    let two = others g.big g.nanoseconds g.zone g.accuracy g.snap_length g_is.zone g_is.accuracy g_is.snap_length in
    let at : (k : ℕ) → word_of h.big (take 4 (drop k (head_bytes h))) ≡ word_of g.big (take 4 (drop k (head_bytes g))) =
    λ k. ap (λ f. word_of h.big (take 4 (drop k f))) e ∙ ap (λ b. word_of b (take 4 (drop k (head_bytes g)))) order in
    let magics : magic h.nanoseconds ≡ magic g.nanoseconds = sym (marks h).magic_is ∙ at 0 ∙ (marks g).magic_is in
    same-fields h g order (same-magic h.nanoseconds g.nanoseconds magics)
    (sym one.zone_is ∙ at 8 ∙ two.zone_is) (sym one.accuracy_is ∙ at 12 ∙ two.accuracy_is) (sym one.snap_is ∙ at 16 ∙ two.snap_is)
