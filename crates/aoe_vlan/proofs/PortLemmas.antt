-- The ports of a VLAN.
use Rattle.std.proofs.Common.{◌≡◌, ◌≤◌, ◌+◌, nat_eq, subst, inl, inr, cond, ℕ, Bool, true, false, List, [], ◌∷◌, ◌++◌, filter, sym, ap, ◌∙◌, add-one, append-nil, arith}
use Rattle.std.specs.Prelude.{All}
use Rattle.std.specs.List.{list_all, list_any, range_with_len}
use Rattle.std.proofs.lemmas.Bool.{and_parts, eqb-true, leb-true, or_cases}
use Rattle.std.proofs.lemmas.List.Elements.{All-cons, All-nil, filter-append}
use Rattle.aoe_base.proofs.CommonLemmas.{range-more}
use Rattle.aoe_vlan.specs.Tag.{IsNumbered, is_numbered, is_vid}
use Rattle.aoe_vlan.specs.declared.port.PortKind.TheVariants.{Access, Trunk}
use Rattle.aoe_vlan.specs.Switched.{is_other}
use Rattle.aoe_vlan.specs.declared.port.PortKind.{PortKind}

-- those below a number
abbrev pub others-below : List PortKind → ℕ → ℕ → ℕ → List ℕ
others-below ports vid port n = filter (is_other ports vid port) (range_with_len 0 n)

pub others-more : (ports : List PortKind) (vid port n : ℕ)
    → others-below ports vid port (n + 1) ≡ others-below ports vid port n ++ cond (is_other ports vid port n) (n ∷ []) []
others-more ports vid port n =
    let test : ℕ → Bool = is_other ports vid port in
    ap (λ (m : ℕ). filter test (range_with_len 0 m)) (add-one n) ∙ ap (filter test) (range-more 0 n)
    ∙ filter-append test (range_with_len 0 n) ((0 + n) ∷ [])
    ∙ ap (λ (m : ℕ). filter test (range_with_len 0 n) ++ cond (test m) (m ∷ []) []) (omega arith)

pub others-with : (ports : List PortKind) (vid port n : ℕ) (list : List ℕ) → is_other ports vid port n ≡ true → list ≡ others-below ports vid port n
    → list ++ n ∷ [] ≡ others-below ports vid port (n + 1)
others-with ports vid port n list is all = ap (λ (l : List ℕ). l ++ n ∷ []) all ∙ ap (λ t. others-below ports vid port n ++ cond t (n ∷ []) []) (sym is)
    ∙ sym (others-more ports vid port n)

pub others-without : (ports : List PortKind) (vid port n : ℕ) (list : List ℕ) → is_other ports vid port n ≡ false → list ≡ others-below ports vid port n
    → list ≡ others-below ports vid port (n + 1)
others-without ports vid port n list other all =
    all ∙ sym (append-nil (others-below ports vid port n)) ∙ ap (λ t. others-below ports vid port n ++ cond t (n ∷ []) []) (sym other)
    ∙ sym (others-more ports vid port n)

-- the numbers of ports

vid-bounds : (vid : ℕ) → is_vid vid ≡ true → (1 ≤ vid) × (vid ≤ 4094)
vid-bounds vid e = let p = and_parts _ _ e in (leb-true 1 vid p.0, leb-true vid 4094 p.1)

each-vid : (numbers : List ℕ) (vid : ℕ) → list_all is_vid numbers ≡ true → list_any (λ n. nat_eq n vid) numbers ≡ true → (1 ≤ vid) × (vid ≤ 4094)
each-vid [] vid all any = cc
each-vid (n ∷ numbers) vid all any =
    let p = and_parts (is_vid n) _ all in
    elim (or_cases (nat_eq n vid) _ any) [
      | inl same ↦ subst (λ (m : ℕ). (1 ≤ m) × (m ≤ 4094)) (eqb-true n vid same) (vid-bounds n p.0)
      | inr later ↦ each-vid numbers vid p.1 later
    ]

one-numbered : (kind : PortKind) → is_numbered kind ≡ true → IsNumbered kind
one-numbered (Access n) e vid is = subst (λ (m : ℕ). (1 ≤ m) × (m ≤ 4094)) (eqb-true n vid is) (vid-bounds n e)
one-numbered (Trunk numbers) e vid is = each-vid numbers.items vid e is

pub all-numbered : (ports : List PortKind) → list_all is_numbered ports ≡ true → All IsNumbered ports
all-numbered [] e = All-nil IsNumbered
all-numbered (kind ∷ ports) e =
    let p = and_parts (is_numbered kind) _ e in
    All-cons IsNumbered kind ports (one-numbered kind p.0) (all-numbered ports p.1)
