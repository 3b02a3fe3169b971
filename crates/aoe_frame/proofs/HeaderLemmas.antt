-- What is written as a header is read as it, and what is read as a header was written so.
use Rattle.std.proofs.Common.{◌≡◌, ℕ, suc, ◌+◌, ◌*◌, ◌/◌, ◌%◌, ◌^◌, ◌<◌, ◌≤◌, inl, inr, List, [], ◌∷◌, ◌++◌, append-nil, length, get_or, drop, take, Some, None, is_some, true, false, Bool, refl, sym, ap, subst, ◌∙◌, arith, bit_and}
use Rattle.std.specs.Prelude.{nat_le, not, All, if◌then◌else◌, ◌&&◌, ◌==◌}
use Rattle.std.specs.Int.Bits.{and_zero_r}
use Rattle.std.proofs.lemmas.Bool.{le-leb, cases_lt}
use Rattle.std.proofs.lemmas.Bool.Decides.{nat_tests}
use Rattle.std.specs.Int.{w16, w32, to_be_bytes, from_be_bytes}
use Rattle.std.proofs.Math.Seq.{drop-cons, take-add}
use Rattle.std.proofs.lemmas.Nat.{and_assoc, and_block, div-mul-add, from_be_bytes-to_be_bytes_2, from_be_bytes-to_be_bytes_4, be_bytes_2, be_bytes_4}
use Rattle.aoe_frame.specs.declared.header.Header.{Header}
use Rattle.aoe_base.proofs.MacLemmas.{six-is}
use Rattle.aoe_frame.proofs.PieceLemmas.{two-at, four-at, each-small, part-small}
use Rattle.aoe_frame.specs.Header.{Fits, IsFlags, fields, head, header_bytes, is_response}

-- a flag comes back from the byte that it shares with the version
flags-back : (v f : ℕ) → IsFlags f → bit_and (v * 16 + f) 12 ≡ f
flags-back v f h =
    let below : f < 2 ^ 4 = elim h [ inl e ↦ omega arith | inr (inl e) ↦ omega arith | inr (inr (inl e)) ↦ omega arith | inr (inr (inr e)) ↦ omega arith ] in
    let split : bit_and (v * 16 + f) 12 ≡ bit_and v 0 * 16 + bit_and f 12 = and_block 4 v 0 f 12 below (omega arith) in
    let front : bit_and v 0 ≡ 0 = and_zero_r v in
    let back : bit_and f 12 ≡ f = elim h [ inl e ↦ rw e refl | inr (inl e) ↦ rw e refl | inr (inr (inl e)) ↦ rw e refl | inr (inr (inr e)) ↦ rw e refl ] in
    split ∙ rw (front, back) (omega arith)

-- six bytes, each by itself
abbrev six : List ℕ → List ℕ
six l = get_or l 0 0 ∷ get_or l 1 0 ∷ get_or l 2 0 ∷ get_or l 3 0 ∷ get_or l 4 0 ∷ get_or l 5 0 ∷ []

-- a header with each byte of an address by itself
byte_by_byte : Header → Header
byte_by_byte h = record h { dst = record { 0 = six h.dst.0 }; src = record { 0 = six h.src.0 } }

spelled : (h : Header) (rest : List ℕ) → Fits h → head (header_bytes (byte_by_byte h) ++ rest) ≡ Some (byte_by_byte h)
unfolding byte_by_byte
spelled h rest fits =
    let below : h.flags < 16 =
    elim fits.flags [ inl e ↦ omega arith | inr (inl e) ↦ omega arith | inr (inr (inl e)) ↦ omega arith | inr (inr (inr e)) ↦ omega arith ] in
    let bytes : List ℕ = header_bytes (byte_by_byte h) ++ rest in
    let long : nat_le 24 (length bytes) ≡ true = le-leb 24 (length bytes) (omega arith) in
    let version-back : (h.version * 16 + h.flags) / 16 ≡ h.version = div-mul-add h.version 16 h.flags below in
    let flags-same = flags-back h.version h.flags fits.flags in
    let major-back = from_be_bytes-to_be_bytes_2 h.id.major fits.major in
    let tag-back = from_be_bytes-to_be_bytes_4 h.tag fits.tag in
    rw (long, version-back, flags-same, major-back, tag-back) refl

pub head-header_bytes : (h : Header) (rest : List ℕ) → Fits h → head (header_bytes h ++ rest) ≡ Some h
unfolding byte_by_byte
head-header_bytes h rest fits =
    let same : byte_by_byte h ≡ h =
    λ i. record h { dst = record { 0 = sym (six-is h.dst.0 fits.dst) i }; src = record { 0 = sym (six-is h.src.0 fits.src) i } } in
    subst (λ (g : Header). head (header_bytes g ++ rest) ≡ Some g) same (spelled h rest fits)

pub head-spelled : (h : Header) (f : List ℕ) → f ≡ header_bytes h → Fits h → head f ≡ Some h
head-spelled h f e fits = let P : List ℕ → Type 0 = λ g. head g ≡ Some h in subst P (append-nil (header_bytes h) ∙ sym e) (head-header_bytes h [] fits)

-- four bytes come back from the number that they spell
pub bytes_of_number : (bytes : List ℕ) (n : ℕ) → length bytes ≡ 4 → All (λ b. b < 2 ^ 8) bytes → n ≡ from_be_bytes w32 bytes → bytes ≡ to_be_bytes w32 n
bytes_of_number bytes n size small n_is = sym (be_bytes_4 bytes n size (each-small bytes small) n_is)

-- five bytes from the 19th on are the command and the tag
pub command_and_tag : (f bytes : List ℕ) → 24 ≤ length f → All (λ b. b < 2 ^ 8) bytes → bytes ≡ take 5 (drop 19 f)
    → bytes ≡ get_or f 19 0 ∷ to_be_bytes w32 (from_be_bytes w32 (take 4 (drop 20 f)))
command_and_tag f bytes long small is =
    let inside : 19 < length f = omega arith in
    let split : take 5 (drop 19 f) ≡ get_or f 19 0 ∷ take 4 (drop 20 f) = rw (drop-cons f 19 0 inside) refl in
    let size : length (take 4 (drop 20 f)) ≡ 4 = ap length (four-at f 20 (omega arith)) in
    let P : List ℕ → Type 0 = λ l. All (λ b. b < 2 ^ 8) l in
    let whole : P (get_or f 19 0 ∷ take 4 (drop 20 f)) = subst P (is ∙ split) small in
    let each : P (take 4 (drop 20 f)) = λ k d below. whole (suc k) d (omega arith) in
    is ∙ split ∙ ap (λ (l : List ℕ). get_or f 19 0 ∷ l) (bytes_of_number (take 4 (drop 20 f)) (from_be_bytes w32 (take 4 (drop 20 f))) size each refl)

-- what a frame that is read as a header has
record Read (h : Header) (f : List ℕ) : Type 0 where
  long : 24 ≤ length f
  first : get_or f 12 0 ≡ 136
  second : get_or f 13 0 ≡ 162
  same : fields f ≡ h

read : (h : Header) (f : List ℕ) → head f ≡ Some h → Read h f
read h f is =
    let P : Bool → Type 0 = λ b. (if b then Some (fields f) else None) ≡ Some h → b ≡ true in
    let tests : nat_le 24 (length f) && (get_or f 12 0 == 136) && (get_or f 13 0 == 162) ≡ true =
    elim (nat_le 24 (length f) && (get_or f 12 0 == 136) && (get_or f 13 0 == 162)) as P [ true ↦ λ _. refl | false ↦ λ e. cc ] is in
    let Q : Bool → Type 0 = λ b. (if b then Some (fields f) else None) ≡ Some h in
    let some : Some (fields f) ≡ Some h = subst Q tests is in
    let the_fields : fields f ≡ h = cc in
    record { long = grind arith; first = grind arith; second = grind arith; same = the_fields }

pub head-fields : (f : List ℕ) (h : Header) → head f ≡ Some h → fields f ≡ h
head-fields f h is = (read h f is).same

pub head-long : (f : List ℕ) → is_some (head f) ≡ true → 24 ≤ length f
head-long f some = grind (arith, nat_tests)

-- the flag that tells the kind of a frame is one of those that are read
flag-read : (b : ℕ) → bit_and (bit_and b 12) 8 ≡ bit_and b 8
flag-read b = and_assoc 8 b 12

-- the kind of a frame that has a header
pub kind-read : (f : List ℕ) (h : Header) → head f ≡ Some h → is_response f ≡ not (bit_and h.flags 8 == 0)
kind-read f h is =
    let r = read h f is in
    let long : nat_le 15 (length f) ≡ true = (let l = r.long in le-leb 15 (length f) (omega arith)) in
    let flag = flag-read (get_or f 14 0) in
    rw (← r.same, long, flag) refl

four-multiples : (f : ℕ) → f < 16 → f % 4 ≡ 0 → IsFlags f
four-multiples f low clear =
    elim (cases_lt f 4) [
      | inl first ↦ inl (omega arith)
      | inr four ↦ elim (cases_lt f 8) [
        | inl second ↦ inr (inl (omega arith))
        | inr eight ↦ elim (cases_lt f 12) [ inl third ↦ inr (inr (inl (omega arith))) | inr fourth ↦ inr (inr (inr (omega arith))) ]
      ]
    ]

-- the byte of version and flags, without reserved flags
shared-byte : (b : ℕ) → b % 4 ≡ 0 → b / 16 * 16 + bit_and b 12 ≡ b
shared-byte b clear =
    let flags : IsFlags (b % 16) = four-multiples (b % 16) (omega arith) (omega arith) in
    let whole : b / 16 * 16 + b % 16 ≡ b = omega arith in
    let P : ℕ → Type 0 = λ n. bit_and n 12 ≡ b % 16 in
    let back : bit_and b 12 ≡ b % 16 = subst P whole (flags-back (b / 16) (b % 16) flags) in
    rw back whole

-- pieces of a list that are other words for others
joined : (a b t t' g g' m m' n n' u u' x : List ℕ) → x ≡ a ++ b ++ t ++ g ++ m ++ n ++ u → t ≡ t' → g ≡ g' → m ≡ m' → n ≡ n' → u ≡ u'
    → x ≡ a ++ b ++ t' ++ g' ++ m' ++ n' ++ u'
joined a b t t' g g' m m' n n' u u' x split t_is g_is m_is n_is u_is = cc

-- the pieces of the first 24 bytes
pieces : (f : List ℕ) → take 24 f ≡ take 6 f ++ take 6 (drop 6 f) ++ take 2 (drop 12 f) ++ take 2 (drop 14 f) ++ take 2 (drop 16 f) ++ take 2 (drop 18 f)
    ++ take 4 (drop 20 f)
pieces f =
    let twelve : take 12 f ≡ take 6 f ++ take 6 (drop 6 f) = take-add 6 6 f in
    let fourteen : take 14 f ≡ take 12 f ++ take 2 (drop 12 f) = take-add 12 2 f in
    let sixteen : take 16 f ≡ take 14 f ++ take 2 (drop 14 f) = take-add 14 2 f in
    let eighteen : take 18 f ≡ take 16 f ++ take 2 (drop 16 f) = take-add 16 2 f in
    let twenty : take 20 f ≡ take 18 f ++ take 2 (drop 18 f) = take-add 18 2 f in
    let all : take 24 f ≡ take 20 f ++ take 4 (drop 20 f) = take-add 20 4 f in
    cc

pub one-spelling : (h : Header) (f : List ℕ) → All (λ b. b < 2 ^ 8) f → get_or f 14 0 % 4 ≡ 0 → head f ≡ Some h → take 24 f ≡ header_bytes h
one-spelling h f small clear is =
    let r = read h f is in
    let P : Header → Type 0 = λ g. take 24 f ≡ header_bytes g in
    let long : 24 ≤ length f = r.long in
    let type_is : take 2 (drop 12 f) ≡ 136 ∷ 162 ∷ [] = two-at f 12 (omega arith) ∙ (rw (r.first, r.second) refl) in
    let flags_are : take 2 (drop 14 f) ≡ (get_or f 14 0 / 16 * 16 + bit_and (get_or f 14 0) 12) ∷ get_or f 15 0 ∷ [] =
    two-at f 14 (omega arith) ∙ (rw (shared-byte (get_or f 14 0) clear) refl) in
    let two : length (take 2 (drop 16 f)) ≡ 2 = ap length (two-at f 16 (omega arith)) in
    let four : length (take 4 (drop 20 f)) ≡ 4 = ap length (four-at f 20 (omega arith)) in
    let major_is : to_be_bytes w16 (from_be_bytes w16 (take 2 (drop 16 f))) ≡ take 2 (drop 16 f) =
    be_bytes_2 (take 2 (drop 16 f)) (from_be_bytes w16 (take 2 (drop 16 f))) two (part-small f 2 16 small) refl in
    let tag_is : to_be_bytes w32 (from_be_bytes w32 (take 4 (drop 20 f))) ≡ take 4 (drop 20 f) =
    be_bytes_4 (take 4 (drop 20 f)) (from_be_bytes w32 (take 4 (drop 20 f))) four (part-small f 4 20 small) refl in
    let minor_is : take 2 (drop 18 f) ≡ get_or f 18 0 ∷ get_or f 19 0 ∷ [] = two-at f 18 (omega arith) in
    subst P r.same (joined (take 6 f) (take 6 (drop 6 f)) (take 2 (drop 12 f)) _ (take 2 (drop 14 f)) _ (take 2 (drop 16 f)) _ (take 2 (drop 18 f)) _
    (take 4 (drop 20 f)) _ (take 24 f)
    (pieces f) type_is flags_are (sym major_is) minor_is (sym tag_is))
