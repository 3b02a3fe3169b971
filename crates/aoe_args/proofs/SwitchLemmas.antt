-- The VLANs of a switch's ports, one after the other.
use Rattle.std.proofs.Common.{◌≡◌, ◌≤◌, ◌+◌, ◌-◌, ◌∙◌, ℕ, suc, Bool, true, false, cond, List, [], ◌∷◌, ◌++◌, length, filter, refl, ap, arith}
use Rattle.std.specs.List.{list_all, list_any, range_with_len}
use Rattle.std.proofs.lemmas.List.{length-append}
use Rattle.std.proofs.lemmas.List.Elements.{filter-append}
use Rattle.std.proofs.lemmas.List.Folds.{list_all-append}
use Rattle.aoe_base.proofs.CommonLemmas.{range-more}
use Rattle.aoe_vlan.specs.Tag.{carries}
use Rattle.aoe_vlan.specs.declared.port.PortKind.{PortKind}
use Rattle.aoe_args.specs.Switching.{vlans_of}

-- one more that passes
pub all_with : {X : Type 0} (p : X → Bool) (xs : List X) (x : X) → list_all p xs ≡ true → p x ≡ true → list_all p (xs ++ x ∷ []) ≡ true
all_with p xs x all e = list_all-append p xs (x ∷ []) ∙ rw (all, e) refl

-- those below a number that a port is of
unfoldable pub carried_below : List PortKind → ℕ → List ℕ
carried_below kinds n = filter (λ vid. list_any (carries vid) kinds) (range_with_len 1 (n - 1))

-- one more number
below-more : (kinds : List PortKind) (n : ℕ) → 1 ≤ n
    → length (carried_below kinds (n + 1)) ≡ length (carried_below kinds n) + cond (list_any (carries n) kinds) 1 0
unfolding carried_below
below-more kinds n from =
    let test : ℕ → Bool = λ vid. list_any (carries vid) kinds in
    let more : range_with_len 1 ((n + 1) - 1) ≡ range_with_len 1 (n - 1) ++ n ∷ [] =
    ap (range_with_len 1) (let e : (n + 1) - 1 ≡ suc (n - 1) = omega (arith, from) in e) ∙ range-more 1 (n - 1)
    ∙ ap (λ (m : ℕ). range_with_len 1 (n - 1) ++ m ∷ []) (omega (arith, from)) in
    ap (λ l. length (filter test l)) more ∙ ap length (filter-append test (range_with_len 1 (n - 1)) (n ∷ []))
    ∙ length-append (filter test (range_with_len 1 (n - 1))) (filter test (n ∷ []))
    ∙ ap (λ (k : ℕ). length (filter test (range_with_len 1 (n - 1))) + k) (one (test n) n)
  where
    one : (b : Bool) (n : ℕ) → length (cond b (n ∷ []) []) ≡ cond b 1 0
    one true n = refl
    one false n = refl

pub counted-with : (kinds : List PortKind) (n count : ℕ) → 1 ≤ n → list_any (carries n) kinds ≡ true → count ≡ length (carried_below kinds n)
    → count + 1 ≡ length (carried_below kinds (n + 1))
counted-with kinds n count from is so_far =
    let more : length (carried_below kinds (n + 1)) ≡ length (carried_below kinds n) + 1 =
    below-more kinds n from ∙ ap (λ b. length (carried_below kinds n) + cond b 1 0) is in
    omega (arith, more, so_far)

pub counted-without : (kinds : List PortKind) (n count : ℕ) → 1 ≤ n → list_any (carries n) kinds ≡ false → count ≡ length (carried_below kinds n)
    → count ≡ length (carried_below kinds (n + 1))
counted-without kinds n count from is so_far =
    let more : length (carried_below kinds (n + 1)) ≡ length (carried_below kinds n) + 0 =
    below-more kinds n from ∙ ap (λ b. length (carried_below kinds n) + cond b 1 0) is in
    omega (arith, more, so_far)

-- none below the first, and all below the number behind the last
pub none-counted : (kinds : List PortKind) → 0 ≡ length (carried_below kinds 1)
unfolding carried_below
none-counted kinds = refl

pub all-counted : (kinds : List PortKind) (n : ℕ) → n ≡ 4095 → carried_below kinds n ≡ vlans_of kinds
unfolding carried_below vlans_of
all-counted kinds n e = ap (λ (m : ℕ). filter (λ vid. list_any (carries vid) kinds) (range_with_len 1 (m - 1))) e
