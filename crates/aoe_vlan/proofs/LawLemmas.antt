-- VLANs are independent.
use Rattle.std.proofs.Common.{◌≡◌, ◌≢◌, not, cond, nat_eq, ℕ, suc, Bool, true, false, List, [], ◌∷◌, ◌++◌, length, filter, slice_get, Option, Some, None, option_and_then, refl, sym, ap, subst, ◌∙◌, append-nil, arith, eq-eqb, inl, inr, true≢false}
use Rattle.std.specs.Prelude.{All}
use Rattle.std.specs.List.{range_with_len}
use Rattle.std.proofs.lemmas.Bool.{and_parts, cases_Bool, eqb-true, not-true, or_cases, or_from}
use Rattle.std.proofs.lemmas.List.Elements.{All-cons, All-nil, filter-append}
use Rattle.std.proofs.lemmas.List.Folds.{list_any-append}
use Rattle.aoe_base.specs.Addresses.{holds, is_individual, same_address, source_of}
use Rattle.aoe_base.specs.declared.address.Mac.{Mac}
use Rattle.aoe_lists.specs.Addresses.{first_places}
use Rattle.aoe_lists.proofs.AddressLemmas.{holds-first_places}
use Rattle.aoe_vlan.specs.Tag.{destination_of, vlan_of}
use Rattle.aoe_vlan.specs.Switched.{IsAccess, Passing, at_port, carries_at, given, given_in, goes_to, going, going_in, inputs_of, is_other, is_vlan, latest, learnt, place, sources, switched, switched_from, toward, vlan_at}
use Rattle.aoe_vlan.specs.declared.port.PortKind.{PortKind}
use Rattle.aoe_vlan.proofs.LearningLemmas.{holds-take}
use Rattle.aoe_vlan.proofs.TakeLemmas.{vlan-carries}

-- lists of which only what passes is kept

filter-twice : {X : Type 0} (t : X → Bool) (xs : List X) → filter t (filter t xs) ≡ filter t xs
filter-twice t [] = refl
filter-twice {X} t (x ∷ xs) = elim (cases_Bool (t x)) [
  | inl is ↦ rw (is, is) (ap (λ (l : List X). x ∷ l) (filter-twice t xs))
  | inr n ↦ rw n (filter-twice t xs)
]

All-kept : {X : Type 0} (t : X → Bool) (P : X → Type 0) (xs : List X) → ((x : X) → t x ≡ true → P x) → All P (filter t xs)
All-kept t P [] each = All-nil P
All-kept t P (x ∷ xs) each = elim (cases_Bool (t x)) [
  | inl is ↦ rw is (All-cons P x (filter t xs) (each x is) (All-kept t P xs each))
  | inr n ↦ rw n (All-kept t P xs each)
]

-- a VLAN alone

its-vlan : (vid : ℕ) (o : Option ℕ) → is_vlan vid o ≡ true → o ≡ Some vid
its-vlan vid None e = absurd (true≢false (sym e))
its-vlan vid (Some n) e = ap (λ (m : ℕ). Some m) (eqb-true n vid e)

module _ (ports : List PortKind) (vid : ℕ) where
  inputs-alone : (inputs : List Passing) (i : Passing) → inputs_of ports vid (i ∷ inputs_of ports vid inputs) ≡ inputs_of ports vid (i ∷ inputs)
  inputs-alone inputs i = ap (λ (l : List Passing). cond (is_vlan vid (vlan_at ports i)) (i ∷ l) l) (filter-twice (λ j. is_vlan vid (vlan_at ports j)) inputs)

  given-alone : (inputs : List Passing) (i : Passing) → vlan_at ports i ≡ Some vid → given ports inputs i ≡ given ports (inputs_of ports vid inputs) i
  given-alone inputs i e =
      let to : going ports inputs i ≡ going ports (inputs_of ports vid inputs) i =
      ap (λ o. going_in ports inputs i o) e ∙ ap (λ own. goes_to ports vid own i) (sym (inputs-alone inputs i))
      ∙ ap (λ o. going_in ports (inputs_of ports vid inputs) i o) (sym e) in
      ap (λ to. given_in ports i to (vlan_at ports i)) to

  pub independent : (inputs : List Passing) → switched_from ports vid inputs ≡ switched ports (inputs_of ports vid inputs)
  independent [] = refl
  independent (i ∷ inputs) = elim (cases_Bool (is_vlan vid (vlan_at ports i))) [
    | inl is ↦ rw is (λ j. independent inputs j ++ given-alone inputs i (its-vlan vid (vlan_at ports i) is) j)
    | inr n ↦ rw n (append-nil (switched_from ports vid inputs) ∙ independent inputs)
  ]

-- the ports of a VLAN

module _ (ports : List PortKind) (vid : ℕ) where
  carried : (i : Passing) → vlan_at ports i ≡ Some vid → carries_at vid (slice_get ports i.port) ≡ true
  carried i e = by (slice_get ports i.port) e
    where
      by : (o : Option PortKind) → option_and_then (λ kind. vlan_of kind i.frame) o ≡ Some vid → carries_at vid o ≡ true
      by None e = cc
      by (Some kind) e = vlan-carries kind i.frame vid e

  latest-carried : (a : Mac) (own : List Passing) → All (λ i. vlan_at ports i ≡ Some vid) own → holds (sources own) a ≡ true
      → carries_at vid (slice_get ports (latest a own)) ≡ true
  latest-carried a [] all there = absurd (true≢false (sym there))
  latest-carried a (i ∷ own) all there = elim (cases_Bool (same_address (source_of i.frame) a)) [
    | inl same ↦ rw same (carried i (all 0 i (omega arith)))
    | inr other ↦
        let before : holds (sources own) a ≡ true =
        elim (or_cases _ _ (sym (list_any-append (λ b. same_address b a) (sources own) (source_of i.frame ∷ [])) ∙ there)) [
          | inl is ↦ is
          | inr n ↦ absurd (true≢false (sym n ∙ or_from _ _ other refl))
        ] in
        rw other (latest-carried a own (λ k d below. all (suc k) d (omega (arith, below))) before)
  ]

  place-carried : (a : Mac) (inputs : List Passing) (q : ℕ) → place (inputs_of ports vid inputs) a ≡ Some q → carries_at vid (slice_get ports q) ≡ true
  place-carried a inputs q e =
      let own : List Passing = inputs_of ports vid inputs in
      elim (cases_Bool (holds (learnt own) a)) [
        | inl is ↦
            let all = All-kept (λ i. is_vlan vid (vlan_at ports i)) (λ i. vlan_at ports i ≡ Some vid) inputs (λ i t. its-vlan vid (vlan_at ports i) t) in
            let there : holds (sources own) a ≡ true = elim (cases_Bool (holds (sources own) a)) [
              | inl t ↦ t
              | inr f ↦ absurd (true≢false (sym is ∙ holds-take 256 (first_places (sources own)) a (holds-first_places (sources own) a ∙ f)))
            ] in
            let some : Some (latest a own) ≡ Some q = rw is at e in
            let same : latest a own ≡ q = cc in
            subst (λ (n : ℕ). carries_at vid (slice_get ports n) ≡ true) same (latest-carried a own all there)
        | inr n ↦ let none : None ≡ Some q = rw n at e in cc
      ]

  -- a port to which a frame goes
  abbrev Goes : ℕ → ℕ → Type 0
  Goes from q = (carries_at vid (slice_get ports q) ≡ true) × (q ≢ from)

  toward-goes : (from : ℕ) (o : Option ℕ) → ((q : ℕ) → o ≡ Some q → carries_at vid (slice_get ports q) ≡ true) → All (Goes from) (toward ports vid from o)
  toward-goes from None is = All-kept (is_other ports vid from) (Goes from) (range_with_len 0 (length ports)) other
    where
      other : (q : ℕ) → is_other ports vid from q ≡ true → Goes from q
      other q e =
          let p = and_parts (not (nat_eq q from)) _ e in
          (p.1, λ same. true≢false (sym (eq-eqb q from same) ∙ not-true (nat_eq q from) p.0))
  toward-goes from (Some q) is = elim (cases_Bool (nat_eq q from)) [
    | inl same ↦ rw same (All-nil (Goes from))
    | inr other ↦ rw other (All-cons (Goes from) q [] (is q refl, λ same. true≢false (sym (eq-eqb q from same) ∙ other)) (All-nil (Goes from)))
  ]

  going-goes : (inputs : List Passing) (i : Passing) → vlan_at ports i ≡ Some vid → All (Goes i.port) (going ports inputs i)
  going-goes inputs i e =
      let a : Mac = destination_of i.frame in
      let o : Option ℕ = cond (is_individual a) (place (inputs_of ports vid (i ∷ inputs)) a) None in
      subst (λ (l : List ℕ). All (Goes i.port) l) (ap (λ v. going_in ports inputs i v) (sym e)) (toward-goes i.port o (at (is_individual a)))
    where
      at : (t : Bool) (q : ℕ) → cond t (place (inputs_of ports vid (i ∷ inputs)) (destination_of i.frame)) None ≡ Some q
          → carries_at vid (slice_get ports q) ≡ true
      at true q is = place-carried (destination_of i.frame) (i ∷ inputs) q is
      at false q is = cc

  pub going-carried : (inputs : List Passing) (i : Passing) → vlan_at ports i ≡ Some vid
      → All (λ q. carries_at vid (slice_get ports q) ≡ true) (going ports inputs i)
  going-carried inputs i e k d below = (going-goes inputs i e k d below).0

  outputs-go : (i : Passing) (to : List ℕ) → All (Goes i.port) to → All (λ o. Goes i.port o.port) (given_in ports i to (Some vid))
  outputs-go i [] all = All-nil (λ (o : Passing). Goes i.port o.port)
  outputs-go i (q ∷ to) all =
      All-cons (λ (o : Passing). Goes i.port o.port) _ _ (all 0 q (omega arith)) (outputs-go i to (λ k d below. all (suc k) d (omega (arith, below))))

  pub stays-in : (inputs : List Passing) (i : Passing) → vlan_at ports i ≡ Some vid → All (λ o. Goes i.port o.port) (given ports inputs i)
  stays-in inputs i e =
      subst (λ (l : List Passing). All (λ (o : Passing). Goes i.port o.port) l) (ap (λ v. given_in ports i (going ports inputs i) v) (sym e))
      (outputs-go i (going ports inputs i) (going-goes inputs i e))

-- a port of one VLAN

none-at : (port : ℕ) (outputs : List Passing) → All (λ o. o.port ≢ port) outputs → at_port port outputs ≡ []
none-at port [] all = refl
none-at port (o ∷ outputs) all = elim (cases_Bool (nat_eq o.port port)) [
  | inl same ↦ absurd (all 0 o (omega arith) (eqb-true o.port port same))
  | inr other ↦ rw other (none-at port outputs (λ k d below. all (suc k) d (omega (arith, below))))
]

module _ (ports : List PortKind) (port vid : ℕ) (is : IsAccess ports port vid) where
  other-vlan : (inputs : List Passing) (i : Passing) → is_vlan vid (vlan_at ports i) ≡ false → at_port port (given ports inputs i) ≡ []
  other-vlan inputs i apart = by (vlan_at ports i) refl apart
    where
      by : (o : Option ℕ) → vlan_at ports i ≡ o → is_vlan vid o ≡ false → at_port port (given ports inputs i) ≡ []
      by None e n = ap (λ v. at_port port (given_in ports i (going ports inputs i) v)) e
      by (Some w) e n =
          let stays = stays-in ports w inputs i e in
          none-at port (given ports inputs i) (λ k d below same.
          let carried : carries_at w (slice_get ports port) ≡ true = subst (λ (q : ℕ). carries_at w (slice_get ports q) ≡ true) same (stays k d below).0 in
          let here : nat_eq vid w ≡ true = ap (λ o. carries_at w o) (sym is) ∙ carried in
          true≢false (sym (eq-eqb w vid (sym (eqb-true vid w here))) ∙ n))

  at-port-from : (inputs : List Passing) → at_port port (switched ports inputs) ≡ at_port port (switched_from ports vid inputs)
  at-port-from [] = refl
  at-port-from (i ∷ inputs) =
      let test : Passing → Bool = λ o. nat_eq o.port port in
      filter-append test (switched ports inputs) (given ports inputs i)
      ∙ (elim (cases_Bool (is_vlan vid (vlan_at ports i))) [
        | inl is-own ↦ rw is-own (ap (λ l. l ++ at_port port (given ports inputs i)) (at-port-from inputs)
            ∙ sym (filter-append test (switched_from ports vid inputs) (given ports inputs i)))
        | inr n ↦ rw n ((λ j. at-port-from inputs j ++ other-vlan inputs i n j) ∙ sym (filter-append test (switched_from ports vid inputs) []))
      ])

  pub port-alone : (inputs : List Passing) → at_port port (switched ports inputs) ≡ at_port port (switched ports (inputs_of ports vid inputs))
  port-alone inputs = at-port-from inputs ∙ ap (at_port port) (independent ports vid inputs)
