-- What is written as an option is read as it, and what is read as one was written so.
use Rattle.std.proofs.Common.{◌≡◌, ℕ, ◌+◌, ◌^◌, ◌<◌, ◌≤◌, List, ◌++◌, append_assoc, length, get_or, drop, take, Some, None, true, false, Bool, refl, sym, ap, subst, ◌∙◌, arith, inr}
use Rattle.std.specs.Prelude.{nat_le, if◌then◌else◌, ◌&&◌, ◌==◌}
use Rattle.std.specs.Int.{w32, w64, to_be_bytes, from_be_bytes}
use Rattle.std.proofs.lemmas.Bool.{le-leb}
use Rattle.std.proofs.lemmas.List.{length-take-le, length-drop, take-append-drop}
use Rattle.std.proofs.Math.Seq.{take-add}
use Rattle.std.proofs.lemmas.Nat.{be_bytes_4, be_bytes_8, from_be_bytes-to_be_bytes_4}
use Rattle.aoe_nbd.specs.declared.option.OptionHead.{OptionHead}
use Rattle.aoe_nbd.specs.Options.{IsOption, ClientOption, ack, option_bytes, option_head_bytes, option_head_of, reply_front, reply_to}
use Rattle.aoe_nbd.specs.Handshakes.{IsPartialOption}
use Rattle.aoe_nbd.proofs.HeadLemmas.{four-below, part-small, piece-long}

pub option-again : (h : OptionHead) (rest : List ℕ) → h.code < 2 ^ 32 → h.len < 2 ^ 32 → option_head_of (option_head_bytes h ++ rest) ≡ Some h
option-again h rest code_small len_small =
    let long : nat_le 16 (length (option_head_bytes h ++ rest)) ≡ true = le-leb 16 (length (option_head_bytes h ++ rest)) (omega arith) in
    let code = from_be_bytes-to_be_bytes_4 h.code code_small in
    let len = from_be_bytes-to_be_bytes_4 h.len len_small in
    rw (long, code, len) refl

abbrev option_fields : List ℕ → OptionHead
option_fields f = record { code = from_be_bytes w32 (take 4 (drop 8 f)); len = from_be_bytes w32 (take 4 (drop 12 f)) }

-- what bytes have that are read as the head of an option
record Read (h : OptionHead) (f : List ℕ) : Type 0 where
  long : 16 ≤ length f
  magic : from_be_bytes w64 (take 8 f) ≡ 0x49484156454f5054
  same : option_fields f ≡ h

some-is : (h g : OptionHead) → Some h ≡ Some g → h ≡ g
some-is h g e = cc

read : (h : OptionHead) (f : List ℕ) → option_head_of f ≡ Some h → Read h f
read h f is =
    let P : Bool → Type 0 = λ b. (if b then Some (option_fields f) else None) ≡ Some h → b ≡ true in
    let tests : nat_le 16 (length f) && (from_be_bytes w64 (take 8 f) == 0x49484156454f5054) ≡ true =
    elim (nat_le 16 (length f) && (from_be_bytes w64 (take 8 f) == 0x49484156454f5054)) as P [ true ↦ λ _. refl | false ↦ λ e. cc ] is in
    let Q : Bool → Type 0 = λ b. (if b then Some (option_fields f) else None) ≡ Some h in
    let some : Some (option_fields f) ≡ Some h = subst Q tests is in
    record { long = grind arith; magic = grind arith; same = some-is (option_fields f) h some }

pub record SpelledOption (h : OptionHead) (f : List ℕ) : Type 0 where
  pub long : 16 ≤ length f
  pub code : h.code < 2 ^ 32
  pub bytes : take 16 f ≡ option_head_bytes h

joined : (x a b c a' b' c' : List ℕ) → x ≡ a ++ b ++ c → a' ≡ a → b' ≡ b → c' ≡ c → x ≡ a' ++ b' ++ c'
joined x a b c a' b' c' split p q r = cc

pub option-spelled : (h : OptionHead) (f : List ℕ) → ((i : ℕ) → get_or f i 0 < 256) → option_head_of f ≡ Some h → SpelledOption h f
option-spelled h f small is =
    let r = read h f is in
    let long : 16 ≤ length f = r.long in
    let P : OptionHead → Type 0 = λ g. SpelledOption g f in
    let at : (n k : ℕ) (i : ℕ) → get_or (take n (drop k f)) i 0 < 256 = λ n k. part-small f n k small in
    let magic : to_be_bytes w64 0x49484156454f5054 ≡ take 8 f =
    be_bytes_8 (take 8 f) 0x49484156454f5054 (piece-long f 8 0 (omega arith)) (at 8 0) (sym r.magic) in
    let twelve : take 12 f ≡ take 8 f ++ take 4 (drop 8 f) = take-add 8 4 f in
    let all : take 16 f ≡ take 12 f ++ take 4 (drop 12 f) = take-add 12 4 f in
    let pieces : take 16 f ≡ take 8 f ++ take 4 (drop 8 f) ++ take 4 (drop 12 f) = cc in
    subst P r.same (record {
      long = long;
      code = four-below (take 4 (drop 8 f)) (at 4 8);
      bytes = joined (take 16 f) (take 8 f) (take 4 (drop 8 f)) (take 4 (drop 12 f)) _ _ _ pieces magic
          (be_bytes_4 (take 4 (drop 8 f)) _ (piece-long f 4 8 (omega arith)) (at 4 8) refl)
          (be_bytes_4 (take 4 (drop 12 f)) _ (piece-long f 4 12 (omega arith)) (at 4 12) refl);
    })

-- the head of a whole option
pub whole-head : (o : ClientOption) (rest : List ℕ) → IsOption o → option_head_of (option_bytes o ++ rest) ≡ Some (record { code = o.code; len = length o.payload })
whole-head o rest is = option-again (record { code = o.code; len = length o.payload }) (o.payload ++ rest) is.code (let few = is.few in omega arith)

-- fewer bytes than the head says
pub less-option : (f : List ℕ) (h : OptionHead) → ((i : ℕ) → get_or f i 0 < 256) → option_head_of f ≡ Some h → h.len ≤ 8192 → length f < 16 + h.len → IsPartialOption f
less-option f h small some few short =
    let s = option-spelled h f small some in
    let split : f ≡ option_head_bytes h ++ drop 16 f = sym (take-append-drop 16 f) ∙ ap (λ (x : List ℕ). x ++ drop 16 f) s.bytes in
    inr (h, drop 16 f, s.code, few, omega (arith, length-drop 16 f, short, s.long), split)

-- an option and its data
pub record Whole (h : OptionHead) (f : List ℕ) (payload : List ℕ) : Type 0 where
  pub is : IsOption (record { code = h.code; payload = payload })
  pub bytes : take (16 + h.len) f ≡ option_bytes (record { code = h.code; payload = payload })

pub whole-option : (f : List ℕ) (h : OptionHead) → ((i : ℕ) → get_or f i 0 < 256) → option_head_of f ≡ Some h → h.len ≤ 8192 → 16 + h.len ≤ length f
    → Whole h f (take h.len (drop 16 f))
whole-option f h small some few long =
    let s = option-spelled h f small some in
    let size : length (take h.len (drop 16 f)) ≡ h.len = length-take-le h.len (drop 16 f) (omega (arith, length-drop 16 f)) in
    let front : ℕ → List ℕ = λ n. option_head_bytes (record { code = h.code; len = n }) in
    record {
      is = record { code = s.code; few = omega (arith, size, few) };
      bytes = take-add 16 h.len f ∙ ap (λ (x : List ℕ). x ++ take h.len (drop 16 f)) (s.bytes ∙ ap front (sym size));
    }

-- the answer to LIST
pub list-answer : (old name a b c d : List ℕ) (n len : ℕ) → len ≡ 4 + n → a ≡ old ++ reply_front 3 2 len → b ≡ a ++ to_be_bytes w32 n → c ≡ b ++ name → d ≡ c ++ ack 3 → n ≡ length name
    → d ≡ old ++ reply_to 3 2 (to_be_bytes w32 (length name) ++ name) ++ ack 3
list-answer old name a b c d n len len_is a_is b_is c_is d_is n_is =
    let front : ℕ → List ℕ = λ m. reply_front 3 2 m in
    let size : len ≡ length (to_be_bytes w32 (length name) ++ name) = omega (arith, len_is, n_is) in
    let regroup : (old ++ front len) ++ to_be_bytes w32 n ++ name ≡ old ++ (front len ++ (to_be_bytes w32 n ++ name)) =
    append_assoc (old ++ front len) (to_be_bytes w32 n) name ∙ append_assoc old (front len) (to_be_bytes w32 n ++ name) in
    let three : c ≡ old ++ (front len ++ (to_be_bytes w32 n ++ name)) =
    c_is ∙ ap (λ (x : List ℕ). x ++ name) (b_is ∙ ap (λ (x : List ℕ). x ++ to_be_bytes w32 n) a_is) ∙ regroup in
    let renamed : old ++ (front len ++ (to_be_bytes w32 n ++ name)) ≡ old ++ (front (length (to_be_bytes w32 (length name) ++ name)) ++ (to_be_bytes w32 (length name) ++ name)) =
    ap (λ m. old ++ (front m ++ (to_be_bytes w32 n ++ name))) size ∙ ap (λ m. old ++ (front (length (to_be_bytes w32 (length name) ++ name)) ++ (to_be_bytes w32 m ++ name))) n_is in
    d_is ∙ ap (λ (x : List ℕ). x ++ ack 3) (three ∙ renamed)
