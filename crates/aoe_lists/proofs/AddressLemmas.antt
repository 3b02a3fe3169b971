-- Lists of addresses, of which none stands twice.
use Rattle.std.proofs.Common.{◌≡◌, ◌||◌, not, cond, Bool, true, false, List, [], ◌∷◌, ◌++◌, append-nil, refl, sym, ap, subst, ◌∙◌}
use Rattle.std.proofs.lemmas.Bool.{and_parts, not-true, or_parts}
use Rattle.std.proofs.lemmas.List.Elements.{filter-append}
use Rattle.std.proofs.lemmas.List.Folds.{list_any-append}
use Rattle.aoe_base.specs.declared.address.Mac.{Mac}
use Rattle.aoe_base.specs.Addresses.{all_unique, holds, same_address}
use Rattle.aoe_base.proofs.AddressLemmas.{same-address, same_address-comm}
use Rattle.aoe_lists.specs.Addresses.{without, first_places}

-- the head of a list is taken out, or stays
without_head : (x : Mac) (list : List Mac) (a : Mac) (P : List Mac → Type 0) → (same_address x a ≡ true → P (without list a))
    → (same_address x a ≡ false → P (x ∷ without list a)) → P (without (x ∷ list) a)
without_head x list a P out stays = at (same_address x a) out stays
  where
    at : (t : Bool) → (t ≡ true → P (without list a)) → (t ≡ false → P (x ∷ without list a)) → P (cond (not t) (x ∷ without list a) (without list a))
    at true o s = o refl
    at false o s = s refl

-- what isn't there isn't there when less is
holds-without : (list : List Mac) (a b : Mac) → holds list b ≡ false → holds (without list a) b ≡ false
holds-without [] a b e = refl
holds-without (x ∷ list) a b e =
    let parts = or_parts (same_address x b) (holds list b) e in
    without_head x list a (λ l. holds l b ≡ false) (λ _. holds-without list a b parts.1) (λ _. rw parts.0 (holds-without list a b parts.1))

-- an address is another than those that are taken out
holds-without_other : (list : List Mac) (a b : Mac) → same_address a b ≡ false → holds (without list a) b ≡ holds list b
holds-without_other [] a b other = refl
holds-without_other (x ∷ list) a b other =
    without_head x list a (λ l. holds l b ≡ (same_address x b || holds list b))
    (λ same. let P : Mac → Type 0 = λ y. holds (without list a) b ≡ (same_address y b || holds list b) in
    subst P (sym (same-address x a same)) (rw other (holds-without_other list a b other)))
    (λ _. ap (λ t. same_address x b || t) (holds-without_other list a b other))

holds-without_self : (list : List Mac) (a : Mac) → holds (without list a) a ≡ false
holds-without_self [] a = refl
holds-without_self (x ∷ list) a =
    without_head x list a (λ l. holds l a ≡ false) (λ _. holds-without_self list a) (λ other. rw other (holds-without_self list a))

pub all_unique-without : (list : List Mac) (a : Mac) → all_unique list ≡ true → all_unique (without list a) ≡ true
all_unique-without [] a e = refl
all_unique-without (x ∷ list) a e =
    let parts = and_parts (not (holds list x)) (all_unique list) e in
    without_head x list a (λ l. all_unique l ≡ true) (λ _. all_unique-without list a parts.1)
    (λ _. rw (holds-without list a x (not-true (holds list x) parts.0)) (all_unique-without list a parts.1))

pub all_unique-append : (list : List Mac) (a : Mac) → all_unique list ≡ true → holds list a ≡ false → all_unique (list ++ a ∷ []) ≡ true
all_unique-append [] a e new = refl
all_unique-append (x ∷ list) a e new =
    let parts = and_parts (not (holds list x)) (all_unique list) e in
    let other = or_parts (same_address x a) (holds list a) new in
    let back : same_address a x ≡ false = same_address-comm a x ∙ other.0 in
    rw (list_any-append (λ b. same_address b x) list (a ∷ []), not-true (holds list x) parts.0, back) (all_unique-append list a parts.1 other.1)

pub all_unique-first_places : (list : List Mac) → all_unique (first_places list) ≡ true
all_unique-first_places [] = refl
all_unique-first_places (x ∷ list) = rw (holds-without_self (first_places list) x) (all_unique-without (first_places list) x (all_unique-first_places list))

pub holds-first_places : (list : List Mac) (b : Mac) → holds (first_places list) b ≡ holds list b
holds-first_places [] b = refl
holds-first_places (x ∷ list) b = at (same_address x b) refl (holds-first_places list b)
  where
    at : (t : Bool) → same_address x b ≡ t → holds (first_places list) b ≡ holds list b
        → (same_address x b || holds (without (first_places list) x) b) ≡ (same_address x b || holds list b)
    at true e later = rw e refl
    at false e later = rw e (holds-without_other (first_places list) x b e ∙ later)

-- one more address, which has its first place here unless it is there already
pub first_places-append : (list : List Mac) (a : Mac) → first_places (list ++ a ∷ []) ≡ cond (holds list a) (first_places list) (first_places list ++ a ∷ [])
first_places-append [] a = refl
first_places-append (x ∷ list) a = at (holds list a) (first_places-append list a) (same_address x a) refl
  where
    at : (t : Bool) → first_places (list ++ a ∷ []) ≡ cond t (first_places list) (first_places list ++ a ∷ []) → (u : Bool) → same_address x a ≡ u
        → x ∷ without (first_places (list ++ a ∷ [])) x ≡ cond (u || t) (x ∷ without (first_places list) x) ((x ∷ without (first_places list) x) ++ a ∷ [])
    at true e true s = ap (λ (l : List Mac). x ∷ without l x) e
    at true e false s = ap (λ (l : List Mac). x ∷ without l x) e
    at false e true s = ap (λ (l : List Mac). x ∷ without l x) e
        ∙ ap (λ (l : List Mac). x ∷ l) (filter-append (λ b. not (same_address b x)) (first_places list) (a ∷ []))
        ∙ rw (same_address-comm a x, s, append-nil (without (first_places list) x)) refl
    at false e false s = ap (λ (l : List Mac). x ∷ without l x) e
        ∙ ap (λ (l : List Mac). x ∷ l) (filter-append (λ b. not (same_address b x)) (first_places list) (a ∷ [])) ∙ rw (same_address-comm a x, s) refl
