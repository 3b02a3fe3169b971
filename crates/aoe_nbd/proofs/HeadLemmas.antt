-- What is written as the head of a request is read as it, and what is read as one was written so.
use Rattle.std.proofs.Common.{◌≡◌, ℕ, ◌+◌, ◌^◌, ◌<◌, ◌≤◌, List, ◌++◌, length, get_or, drop, take, Some, None, true, false, Bool, refl, sym, ap, subst, ◌∙◌, arith}
use Rattle.std.specs.Prelude.{nat_le, if◌then◌else◌, ◌&&◌, ◌==◌}
use Rattle.std.specs.Int.{w16, w32, w64, to_be_bytes, from_be_bytes}
use Rattle.std.proofs.lemmas.Bool.{le-leb}
use Rattle.std.proofs.lemmas.List.{length-take-le, length-drop, get_or-drop, get_or-take, get_or_past, length-take}
use Rattle.std.proofs.lemmas.Bool.{cases_lt}
use Rattle.std.proofs.Common.{inl, inr}
use Rattle.std.proofs.Math.Seq.{take-add}
use Rattle.std.proofs.lemmas.Nat.{be_bytes_2, be_bytes_4, be_bytes_8, from_be_bytes-to_be_bytes_2, from_be_bytes-to_be_bytes_4, from_be_bytes-to_be_bytes_8}
use Rattle.aoe_nbd.specs.declared.request.RequestHead.{RequestHead}
use Rattle.aoe_nbd.specs.Requests.{Fits, fields, head_bytes, head_of}

pub head-again : (h : RequestHead) (rest : List ℕ) → Fits h → head_of (head_bytes h ++ rest) ≡ Some h
head-again h rest fits =
    let long : nat_le 28 (length (head_bytes h ++ rest)) ≡ true = le-leb 28 (length (head_bytes h ++ rest)) (omega arith) in
    let flags = from_be_bytes-to_be_bytes_2 h.flags fits.flags in
    let kind = from_be_bytes-to_be_bytes_2 h.kind fits.kind in
    let handle = from_be_bytes-to_be_bytes_8 h.handle fits.handle in
    let offset = from_be_bytes-to_be_bytes_8 h.offset fits.offset in
    let len = from_be_bytes-to_be_bytes_4 h.len fits.len in
    rw (long, flags, kind, handle, offset, len) refl

-- the front of a list is one head
pub record SameHead (h g : RequestHead) (x y : List ℕ) : Type 0 where
  pub head : h ≡ g
  pub behind : x ≡ y

some-is : (h g : RequestHead) → Some h ≡ Some g → h ≡ g
some-is h g e = cc

pub one-head : (h g : RequestHead) (x y : List ℕ) → Fits h → Fits g → head_bytes h ++ x ≡ head_bytes g ++ y → SameHead h g x y
one-head h g x y h_fits g_fits e = record {
  head = some-is h g (sym (head-again h x h_fits) ∙ ap head_of e ∙ head-again g y g_fits);
  behind = ap (drop 28) e;
}

-- what bytes have that are read as a head
record Read (h : RequestHead) (f : List ℕ) : Type 0 where
  long : 28 ≤ length f
  magic : from_be_bytes w32 (take 4 f) ≡ 0x25609513
  same : fields f ≡ h

read : (h : RequestHead) (f : List ℕ) → head_of f ≡ Some h → Read h f
read h f is =
    let test : Bool = nat_le 28 (length f) && (from_be_bytes w32 (take 4 f) == 0x25609513) in
    let P : Bool → Type 0 = λ b. (if b then Some (fields f) else None) ≡ Some h → b ≡ true in
    let tests : nat_le 28 (length f) && (from_be_bytes w32 (take 4 f) == 0x25609513) ≡ true =
    elim (nat_le 28 (length f) && (from_be_bytes w32 (take 4 f) == 0x25609513)) as P [ true ↦ λ _. refl | false ↦ λ e. cc ] is in
    let Q : Bool → Type 0 = λ b. (if b then Some (fields f) else None) ≡ Some h in
    let some : Some (fields f) ≡ Some h = subst Q tests is in
    record { long = grind arith; magic = grind arith; same = some-is (fields f) h some }

-- a piece of bytes
pub part-small : (f : List ℕ) (n k : ℕ) → ((i : ℕ) → get_or f i 0 < 256) → (i : ℕ) → get_or (take n (drop k f)) i 0 < 256
part-small f n k small i =
    elim (cases_lt i n) [
      | inl inside ↦ rw (get_or-take n (drop k f) i 0 inside, get_or-drop) (small (k + i))
      | inr past ↦ rw (get_or_past (take n (drop k f)) i 0 (omega (arith, length-take n (drop k f)))) (omega arith)
    ]

pub piece-long : (f : List ℕ) (n k : ℕ) → k + n ≤ length f → length (take n (drop k f)) ≡ n
piece-long f n k inside = length-take-le n (drop k f) (omega (arith, length-drop k f))

pieces : (f : List ℕ) → take 28 f ≡ take 4 f ++ take 2 (drop 4 f) ++ take 2 (drop 6 f) ++ take 8 (drop 8 f) ++ take 8 (drop 16 f) ++ take 4 (drop 24 f)
pieces f =
    let six : take 6 f ≡ take 4 f ++ take 2 (drop 4 f) = take-add 4 2 f in
    let eight : take 8 f ≡ take 6 f ++ take 2 (drop 6 f) = take-add 6 2 f in
    let sixteen : take 16 f ≡ take 8 f ++ take 8 (drop 8 f) = take-add 8 8 f in
    let more : take 24 f ≡ take 16 f ++ take 8 (drop 16 f) = take-add 16 8 f in
    let all : take 28 f ≡ take 24 f ++ take 4 (drop 24 f) = take-add 24 4 f in
    cc

joined : (x a b c d e f a' b' c' d' e' f' : List ℕ) → x ≡ a ++ b ++ c ++ d ++ e ++ f → a' ≡ a → b' ≡ b → c' ≡ c → d' ≡ d → e' ≡ e → f' ≡ f
    → x ≡ a' ++ b' ++ c' ++ d' ++ e' ++ f'
joined x a b c d e f a' b' c' d' e' f' split p q r s t u = cc

pub four-below : (f : List ℕ) → ((i : ℕ) → get_or f i 0 < 256) → from_be_bytes w32 f < 2 ^ 32
four-below f small = omega (arith, small 0, small 1, small 2, small 3)

two-below : (f : List ℕ) → ((i : ℕ) → get_or f i 0 < 256) → from_be_bytes w16 f < 2 ^ 16
two-below f small = omega (arith, small 0, small 1)

eight-below : (f : List ℕ) → ((i : ℕ) → get_or f i 0 < 256) → from_be_bytes w64 f < 2 ^ 64
eight-below f small = omega (arith, small 0, small 1, small 2, small 3, small 4, small 5, small 6, small 7)

pub record Spelled (h : RequestHead) (f : List ℕ) : Type 0 where
  pub fits : Fits h
  pub bytes : take 28 f ≡ head_bytes h

pub head-spelled : (h : RequestHead) (f : List ℕ) → ((i : ℕ) → get_or f i 0 < 256) → head_of f ≡ Some h → Spelled h f
head-spelled h f small is =
    let r = read h f is in
    let long : 28 ≤ length f = r.long in
    let P : RequestHead → Type 0 = λ g. Spelled g f in
    let at : (n k : ℕ) (i : ℕ) → get_or (take n (drop k f)) i 0 < 256 = λ n k. part-small f n k small in
    let magic : to_be_bytes w32 0x25609513 ≡ take 4 f =
    be_bytes_4 (take 4 f) 0x25609513 (piece-long f 4 0 (omega arith)) (at 4 0) (sym r.magic) in
    subst P r.same (record {
      fits = record {
        flags = two-below (take 2 (drop 4 f)) (at 2 4);
        kind = two-below (take 2 (drop 6 f)) (at 2 6);
        handle = eight-below (take 8 (drop 8 f)) (at 8 8);
        offset = eight-below (take 8 (drop 16 f)) (at 8 16);
        len = four-below (take 4 (drop 24 f)) (at 4 24);
      };
      bytes = joined (take 28 f) (take 4 f) (take 2 (drop 4 f)) (take 2 (drop 6 f)) (take 8 (drop 8 f)) (take 8 (drop 16 f)) (take 4 (drop 24 f)) _ _ _ _ _ _
          (pieces f) magic
          (be_bytes_2 (take 2 (drop 4 f)) _ (piece-long f 2 4 (omega arith)) (at 2 4) refl)
          (be_bytes_2 (take 2 (drop 6 f)) _ (piece-long f 2 6 (omega arith)) (at 2 6) refl)
          (be_bytes_8 (take 8 (drop 8 f)) _ (piece-long f 8 8 (omega arith)) (at 8 8) refl)
          (be_bytes_8 (take 8 (drop 16 f)) _ (piece-long f 8 16 (omega arith)) (at 8 16) refl)
          (be_bytes_4 (take 4 (drop 24 f)) _ (piece-long f 4 24 (omega arith)) (at 4 24) refl);
    })
