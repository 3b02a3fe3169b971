-- Addresses of six bytes, and registers with one spelling.
use Rattle.std.proofs.Common.{◌≡◌, ℕ, zero, suc, ◌-◌, ◌^◌, ◌<◌, ◌≤◌, inl, inr, List, [], ◌∷◌, ◌++◌, length, get_or, drop, take, Some, None, true, false, Bool, refl, sym, ap, subst, ◌∙◌, arith, lit<}
use Rattle.std.specs.Prelude.{nat_le, All, if◌then◌else◌}
use Rattle.std.specs.Int.{w64, to_le_bytes}
use Rattle.std.proofs.Math.Seq.{drop-cons, take-add}
use Rattle.std.proofs.lemmas.Bool.{cases_lt}
use Rattle.std.proofs.lemmas.List.{get_or_append_left, get_or-append_right, take_at, length-take-le, length-drop, length-append}
use Rattle.std.proofs.lemmas.Nat.{le_bytes_8}
use Rattle.aoe_base.proofs.MacLemmas.{six-is}
use Rattle.aoe_frame.proofs.PieceLemmas.{two-at, part-small}
use Rattle.aoe_ata.specs.declared.args.AtaArgs.{AtaArgs}
use Rattle.aoe_ata.specs.Args.{address_of, registers, args_of, args_bytes}

six-below : (a b c d e f : ℕ) → a < 256 → b < 256 → c < 256 → d < 256 → e < 256 → f < 256 → address_of (a ∷ b ∷ c ∷ d ∷ e ∷ f ∷ []) < 2 ^ 48
six-below a b c d e f sa sb sc sd se sf = omega arith

-- an address is below 2^48
pub address_of-below : (l : List ℕ) (n : ℕ) → n ≡ address_of l → length l ≡ 6 → ((i : ℕ) → get_or l i 0 < 256) → n < 2 ^ 48
address_of-below l n value six small =
    let P : List ℕ → Type 0 = λ m. address_of m < 2 ^ 48 in
    rw value (subst P (sym (six-is l six))
    (six-below (get_or l 0 0) (get_or l 1 0) (get_or l 2 0) (get_or l 3 0) (get_or l 4 0) (get_or l 5 0) (small 0) (small 1) (small 2) (small 3) (small 4)
    (small 5)))

-- what registers have that bytes are read as
record Read (a : AtaArgs) (b : List ℕ) : Type 0 where
  long : 12 ≤ length b
  same : registers b ≡ a

read : (a : AtaArgs) (b : List ℕ) → args_of b ≡ Some a → Read a b
read a b is =
    let P : Bool → Type 0 = λ t. (if t then Some (registers b) else None) ≡ Some a → t ≡ true in
    let test : nat_le 12 (length b) ≡ true = elim (nat_le 12 (length b)) as P [ true ↦ λ _. refl | false ↦ λ e. cc ] is in
    let Q : Bool → Type 0 = λ t. (if t then Some (registers b) else None) ≡ Some a in
    let some : Some (registers b) ≡ Some a = subst Q test is in
    let same : registers b ≡ a = cc in
    record { long = grind arith; same = same }

four-first : (f : List ℕ) → 3 < length f → take 4 f ≡ get_or f 0 0 ∷ get_or f 1 0 ∷ get_or f 2 0 ∷ get_or f 3 0 ∷ []
four-first f inside =
    let zeroth : 0 < length f = omega arith in
    let first : 1 < length f = omega arith in
    let second : 2 < length f = omega arith in
    rw (drop-cons f 0 0 zeroth, drop-cons f 1 0 first, drop-cons f 2 0 second, drop-cons f 3 0 inside) refl

zeros-small : (i : ℕ) → get_or (0 ∷ 0 ∷ []) i 0 < 256
zeros-small zero = lit< tt
zeros-small (suc zero) = lit< tt
zeros-small (suc (suc i)) = lit< tt

-- six bytes and two zeros are bytes
small-behind : (l : List ℕ) → length l ≡ 6 → ((i : ℕ) → get_or l i 0 < 256) → (i : ℕ) → get_or (l ++ 0 ∷ 0 ∷ []) i 0 < 256
small-behind l six small i =
    elim (cases_lt i 6) [
      | inl inside ↦ rw (get_or_append_left l (0 ∷ 0 ∷ []) 0 i (omega arith)) (small i)
      | inr behind ↦ rw (get_or-append_right l (0 ∷ 0 ∷ []) 6 i 0 six behind) (zeros-small (i - 6))
    ]

-- six bytes are written as they were read
six-back : (l : List ℕ) → length l ≡ 6 → ((i : ℕ) → get_or l i 0 < 256) → take 6 (to_le_bytes w64 (address_of l)) ≡ l
six-back l six small =
    let all : to_le_bytes w64 (address_of l) ≡ l ++ 0 ∷ 0 ∷ [] =
    le_bytes_8 (l ++ 0 ∷ 0 ∷ []) (address_of l) (simp length-append (omega arith)) (small-behind l six small) refl in
    ap (λ (m : List ℕ). take 6 m) all ∙ take_at l (0 ∷ 0 ∷ []) 6 six

-- pieces of a list that are other words for others
joined : (x a a' b b' c c' : List ℕ) → x ≡ a ++ b ++ c → a ≡ a' → b ≡ b' → c ≡ c' → x ≡ a' ++ b' ++ c'
joined x a a' b b' c c' split first second third = cc

pub one-spelling : (a : AtaArgs) (b : List ℕ) → All (λ x. x < 2 ^ 8) b → get_or b 10 0 ≡ 0 → get_or b 11 0 ≡ 0 → args_of b ≡ Some a → take 12 b ≡ args_bytes a
one-spelling a b small ten eleven is =
    let r = read a b is in
    let long : 12 ≤ length b = r.long in
    let P : AtaArgs → Type 0 = λ x. take 12 b ≡ args_bytes x in
    let six-long : length (take 6 (drop 4 b)) ≡ 6 = length-take-le 6 (drop 4 b) (simp length-drop (omega arith)) in
    let split : take 12 b ≡ take 4 b ++ take 6 (drop 4 b) ++ take 2 (drop 10 b) =
    take-add 10 2 b ∙ ap (λ (m : List ℕ). m ++ take 2 (drop 10 b)) (take-add 4 6 b) in
    let front : take 4 b ≡ get_or b 0 0 ∷ get_or b 1 0 ∷ get_or b 2 0 ∷ get_or b 3 0 ∷ [] = four-first b (omega arith) in
    let reserved : take 2 (drop 10 b) ≡ 0 ∷ 0 ∷ [] = two-at b 10 (omega arith) ∙ (rw (ten, eleven) refl) in
    let address : take 6 (to_le_bytes w64 (address_of (take 6 (drop 4 b)))) ≡ take 6 (drop 4 b) =
    six-back (take 6 (drop 4 b)) six-long (part-small b 6 4 small) in
    subst P r.same (joined (take 12 b) (take 4 b) _ (take 6 (drop 4 b)) _ (take 2 (drop 10 b)) _ split front (sym address) reserved)
