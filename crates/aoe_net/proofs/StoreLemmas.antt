-- Frames that are kept in the order of their numbers.
use Rattle.std.proofs.Common.{ℕ, zero, suc, ◌≡◌, ◌+◌, ◌-◌, ◌<◌, ◌≤◌, List, [], ◌∷◌, ◌++◌, length, map, reverse, get_or, Option, Some, None, Bool, true, false, refl, sym, ap, subst, ◌∙◌, arith, inl, inr}
use Rattle.std.specs.Prelude.{sum_by, slice_get, option_map, option_and_then, nat_le, IsSomeAnd, if◌then◌else◌, ◌==◌}
use Rattle.std.proofs.lemmas.List.{reverse-reverse, length-reverse, length-map, length_push}
use Rattle.std.proofs.lemmas.Bool.{cases_eq, cases_lt, le-leb, lt-leb, ne_eqb}
use Rattle.std.proofs.lemmas.List.Sums.{sum_by-append, sum_by-cons}
use Rattle.std.proofs.lemmas.Option.{slice_get-map, slice_get_past, slice_get_read}
use Rattle.std.proofs.lemmas.Grind.{reverse_onto}
use Rattle.aoe_net.specs.declared.net.StoredFrame.{StoredFrame}
use Rattle.aoe_net.specs.Network.{Network, SentFrame, most_frame_bytes, most_frames, numbered, total_bytes, fresh_bytes, deliverable, lifetime, IsFull, IsNumberOf}
use Rattle.aoe_net.specs.Store.{frame_of, frames_of, IsStore}

-- what a list with one more element at its end has at an index
get-push : (xs : List SentFrame) (x : SentFrame) (i : ℕ) → slice_get (xs ++ x ∷ []) i ≡ (if suc i == suc (length xs) then Some x else slice_get xs i)
get-push [] x zero = refl
get-push [] x (suc i) = grind arith
get-push (y ∷ xs) x zero = grind arith
get-push (y ∷ xs) x (suc i) = let before = get-push xs x i in grind (arith, before)

-- the numbers count from 1 in the order of the sending
numbered-suc : (sent : List SentFrame) (i : ℕ) → numbered sent (suc i) ≡ slice_get (reverse sent) i
numbered-suc [] i = refl
numbered-suc (frame ∷ sent) i =
    let before = numbered-suc sent i in
    let push = get-push (reverse sent) frame i in
    let len : length (reverse sent) ≡ length sent = length-reverse sent in
    rw (reverse_onto sent frame [], push, len, before) refl

pub numbered-zero : (sent : List SentFrame) → numbered sent 0 ≡ None
numbered-zero [] = refl
numbered-zero (frame ∷ sent) = let before = numbered-zero sent in grind (arith, before)

pub numbered-frames_of : (kept : List StoredFrame) (i : ℕ) → numbered (frames_of kept) (suc i) ≡ option_map frame_of (slice_get kept i)
numbered-frames_of kept i =
    numbered-suc (frames_of kept) i
    ∙ ap (λ (xs : List SentFrame). slice_get xs i) (reverse-reverse (map frame_of kept))
    ∙ slice_get-map frame_of kept i

sum-reverse : (xs : List SentFrame) → sum_by (λ frame. length frame.bytes) (reverse xs) ≡ sum_by (λ frame. length frame.bytes) xs
sum-reverse [] = refl
sum-reverse (x ∷ xs) =
    let f : SentFrame → ℕ = λ frame. length frame.bytes in
    let before = sum-reverse xs in
    let split = sum_by-append f (reverse xs) (x ∷ []) in
    let one = sum_by-cons f x xs in
    rw (reverse_onto xs x []) (omega (arith, before, split, one))

sum-map : (kept : List StoredFrame) → sum_by (λ frame. length frame.bytes) (map frame_of kept) ≡ sum_by (λ k. length k.bytes) kept
sum-map [] = refl
sum-map (k ∷ kept) =
    let f : SentFrame → ℕ = λ frame. length frame.bytes in
    let g : StoredFrame → ℕ = λ x. length x.bytes in
    let rest = sum-map kept in
    let left = sum_by-cons f (frame_of k) (map frame_of kept) in
    let right = sum_by-cons g k kept in
    omega (arith, rest, left, right)

-- what counts and sums over the kept frames say of the network
pub record Measures (total : ℕ) (kept : List StoredFrame) : Type 0 where
  pub count : length (frames_of kept) ≡ length kept
  pub sum : sum_by (λ frame. length frame.bytes) (frames_of kept) ≡ total

pub measures : (total : ℕ) (kept : List StoredFrame) → IsStore total kept → Measures total kept
measures total kept store = record {
  count = length-reverse (map frame_of kept) ∙ length-map kept frame_of;
  sum = sum-reverse (map frame_of kept) ∙ sum-map kept ∙ store.whole;
}

-- a network that isn't full has room for the bytes
pub record HasRoom (net : Network) (more : List ℕ) : Type 0 where
  pub frames : length net.sent < most_frames
  pub bytes : total_bytes net + length more ≤ most_frame_bytes

pub room-left : (net : Network) (more : List ℕ) → (IsFull net more → ⊥) → HasRoom net more
room-left net more never =
    let few : length net.sent < most_frames = elim (cases_lt (length net.sent) most_frames) [ inl few ↦ few | inr many ↦ absurd (never (inl many)) ] in
    record {
      frames = few;
      bytes = elim (cases_lt most_frame_bytes (total_bytes net + length more)) [ inl big ↦ absurd (never (inr (few, big))) | inr small ↦ small ];
    }

pub store-push : (total : ℕ) (kept : List StoredFrame) (k : StoredFrame) → IsStore total kept
    → length kept < most_frames → total + length k.bytes ≤ most_frame_bytes → IsStore (total + length k.bytes) (kept ++ k ∷ [])
store-push total kept k store few small =
    let g : StoredFrame → ℕ = λ x. length x.bytes in
    let split = sum_by-append g kept (k ∷ []) in
    let one = sum_by-cons g k [] in
    let whole : sum_by g kept ≡ total = store.whole in
    record {
      whole = omega (arith, split, one, whole);
      few = omega (arith, length_push kept k);
      small = small;
    }

-- what a network hands over for a number that no frame has, for an expired frame and for a fresh one
pub nothing : (net : Network) (number now : ℕ) → numbered net.sent number ≡ None → None ≡ deliverable net number now
nothing net number now missing = sym (ap (option_and_then (fresh_bytes net now)) missing)

something : (net : Network) (number now : ℕ) (frame : SentFrame) → numbered net.sent number ≡ Some frame
    → fresh_bytes net now frame ≡ deliverable net number now
something net number now frame found = sym (ap (option_and_then (fresh_bytes net now)) found)

pub missing : (kept : List StoredFrame) (number index : ℕ) → 1 ≤ number → index ≡ number - 1 → length kept ≤ index → numbered (frames_of kept) number ≡ None
missing kept number index low is past =
    let next : number ≡ suc index = omega arith in
    rw next (numbered-frames_of kept index ∙ ap (option_map frame_of) (slice_get_past kept index past))

pub found : (kept : List StoredFrame) (number index : ℕ) (k : StoredFrame) → 1 ≤ number → index ≡ number - 1 → index < length kept → k ≡ get_or kept index k
    → numbered (frames_of kept) number ≡ Some (frame_of k)
found kept number index k low is inside read =
    let next : number ≡ suc index = omega arith in
    rw next (numbered-frames_of kept index ∙ ap (option_map frame_of) (slice_get_read kept (length kept) index k refl inside read))

pub expired : (net : Network) (number now : ℕ) (frame : SentFrame) → numbered net.sent number ≡ Some frame → lifetime net.life frame.bytes < now - frame.birth
    → None ≡ deliverable net number now
expired net number now frame is old =
    let late : nat_le (now - frame.birth) (lifetime net.life frame.bytes) ≡ false = lt-leb (now - frame.birth) (lifetime net.life frame.bytes) old in
    let gone : None ≡ fresh_bytes net now frame = rw late refl in
    gone ∙ something net number now frame is

pub fresh : (net : Network) (number now : ℕ) (frame : SentFrame) → numbered net.sent number ≡ Some frame → now - frame.birth ≤ lifetime net.life frame.bytes
    → Some frame.bytes ≡ deliverable net number now
fresh net number now frame is young =
    let early : nat_le (now - frame.birth) (lifetime net.life frame.bytes) ≡ true = le-leb (now - frame.birth) (lifetime net.life frame.bytes) young in
    let here : Some frame.bytes ≡ fresh_bytes net now frame = rw early refl in
    here ∙ something net number now frame is

-- whose number a number is
pub is-number : (net : Network) (bytes : List ℕ) (number : ℕ) (frame : SentFrame) → numbered net.sent number ≡ Some frame → frame.bytes ≡ bytes
    → IsNumberOf net bytes number
is-number net bytes number frame is same = let P : Option SentFrame → Type 0 = λ f. IsSomeAnd f (λ g. g.bytes ≡ bytes) in subst P (sym is) same

not-number : (net : Network) (bytes : List ℕ) (number : ℕ) (frame : SentFrame) → numbered net.sent number ≡ Some frame → (frame.bytes ≡ bytes → ⊥)
    → IsNumberOf net bytes number → ⊥
not-number net bytes number frame is other claim = let P : Option SentFrame → Type 0 = λ f. IsSomeAnd f (λ g. g.bytes ≡ bytes) in
    let same : frame.bytes ≡ bytes = subst P is claim in other same

number-within : (sent : List SentFrame) (bytes : List ℕ) (number : ℕ) → IsSomeAnd (numbered sent number) (λ f. f.bytes ≡ bytes)
    → (1 ≤ number) × (number ≤ length sent)
number-within [] bytes number claim = absurd claim
number-within (frame ∷ sent) bytes number claim =
    elim (cases_eq number (suc (length sent))) [
      | inl latest ↦ (omega arith, omega arith)
      | inr earlier ↦
          let P : Bool → Type 0 = λ b. IsSomeAnd (if b then Some frame else numbered sent number) (λ f. f.bytes ≡ bytes) in
          let other : (number == suc (length sent)) ≡ false = ne_eqb number (suc (length sent)) earlier in
          let inside = number-within sent bytes number (subst P other claim) in
          (inside.0, omega (arith, inside.1))
    ]

pub within-count : (net : Network) (bytes : List ℕ) (number : ℕ) → IsNumberOf net bytes number → (1 ≤ number) × (number ≤ length net.sent)
within-count net bytes number claim = number-within net.sent bytes number claim

-- a search from the latest frame down, one frame on
pub not-here : (net : Network) (bytes : List ℕ) (top : ℕ) (frame : SentFrame) → numbered net.sent top ≡ Some frame → (frame.bytes ≡ bytes → ⊥)
    → ((k : ℕ) → IsNumberOf net bytes k → k ≤ top) → (k : ℕ) → IsNumberOf net bytes k → k ≤ top - 1
not-here net bytes top frame is other below k claim =
    let at_most : k ≤ top = below k claim in
    elim (cases_eq k top) [
      | inl here ↦ let P : ℕ → Type 0 = λ n. IsNumberOf net bytes n in absurd (not-number net bytes top frame is other (subst P here claim))
      | inr lower ↦ omega arith
    ]
