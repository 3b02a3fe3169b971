-- A piece in the place of others.
use Rattle.std.proofs.Common.{◌≡◌, ◌≤◌, ◌+◌, ◌++◌, ℕ, List, [], length, take, drop, min, arith, sym, ap, ◌∙◌, length-append, append_assoc, inl, inr}
use Rattle.std.proofs.lemmas.List.{length-take-le, take_at, drop_at, drop-drop, drop-take, take-take, take_all, drop_all, take-append-le, drop-append-le, append-nil, length-drop}
use Rattle.std.proofs.lemmas.Bool.{cases_lt}
use Rattle.aoe_block.specs.Fields.{put}

put_front : (bytes piece : List ℕ) → put bytes 0 piece ≡ piece ++ drop (length piece) bytes
put_front bytes piece = let e : 0 + length piece ≡ length piece = omega arith in ap (λ (n : ℕ). piece ++ drop n bytes) e

-- at the front: the whole of the first n bytes, or of all where there are fewer
pub take-put_front : (n : ℕ) (bytes piece : List ℕ) → length piece ≡ min n (length bytes) → take n (put bytes 0 piece) ≡ piece
take-put_front n bytes piece len = ap (take n) (put_front bytes piece) ∙ elim (cases_lt (length bytes) n) [
  | inl short ↦
      let rest : drop (length piece) bytes ≡ [] = drop_all (length piece) bytes (omega arith) in
      ap (λ (l : List ℕ). take n (piece ++ l)) rest ∙ ap (take n) (append-nil piece) ∙ take_all n piece (omega arith)
  | inr long ↦ take_at piece (drop (length piece) bytes) n (omega arith)
]

pub drop-put_front : (n : ℕ) (bytes piece : List ℕ) → length piece ≡ min n (length bytes) → drop n (put bytes 0 piece) ≡ drop n bytes
drop-put_front n bytes piece len = ap (drop n) (put_front bytes piece) ∙ elim (cases_lt (length bytes) n) [
  | inl short ↦
      drop_all n (piece ++ drop (length piece) bytes) (omega (arith, length-append piece (drop (length piece) bytes), length-drop (length piece) bytes))
      ∙ sym (drop_all n bytes (omega arith))
  | inr long ↦
      let e : length piece ≡ n = omega arith in
      drop_at piece (drop (length piece) bytes) n e ∙ ap (λ (m : ℕ). drop m bytes) e
]

-- behind the first n bytes
pub take-put_behind : (n start : ℕ) (bytes piece : List ℕ) → n + start ≤ length bytes → take n (put bytes (n + start) piece) ≡ take n bytes
take-put_behind n start bytes piece fits =
    let rest : List ℕ = drop (n + start + length piece) bytes in
    let front : length (take (n + start) bytes) ≡ n + start = length-take-le (n + start) bytes fits in
    ap (take n) (append_assoc (take (n + start) bytes) piece rest)
    ∙ take-append-le n (take (n + start) bytes) (piece ++ rest) (omega arith)
    ∙ take-take n (n + start) bytes (omega arith)

pub drop-put_behind : (n start : ℕ) (bytes piece : List ℕ) → n + start ≤ length bytes → drop n (put bytes (n + start) piece) ≡ put (drop n bytes) start piece
drop-put_behind n start bytes piece fits =
    let rest : List ℕ = drop (n + start + length piece) bytes in
    let front : length (take (n + start) bytes) ≡ n + start = length-take-le (n + start) bytes fits in
    let sum : n + (start + length piece) ≡ n + start + length piece = omega arith in
    let behind : drop (start + length piece) (drop n bytes) ≡ rest = drop-drop (start + length piece) n bytes ∙ ap (λ (m : ℕ). drop m bytes) sum in
    ap (drop n) (append_assoc (take (n + start) bytes) piece rest)
    ∙ drop-append-le n (take (n + start) bytes) (piece ++ rest) (omega arith)
    ∙ ap (λ (l : List ℕ). l ++ (piece ++ rest)) (drop-take n start bytes)
    ∙ sym (append_assoc (take start (drop n bytes)) piece rest)
    ∙ ap (λ (l : List ℕ). take start (drop n bytes) ++ piece ++ l) (sym behind)

pub length-put : (bytes piece : List ℕ) (start : ℕ) → start + length piece ≤ length bytes → length (put bytes start piece) ≡ length bytes
length-put bytes piece start fits =
    let front : length (take start bytes) ≡ start = length-take-le start bytes (omega arith) in
    omega (
      arith,
      front,
      length-append (take start bytes ++ piece) (drop (start + length piece) bytes),
      length-append (take start bytes) piece,
      length-drop
          (start + length piece) bytes,
    )
