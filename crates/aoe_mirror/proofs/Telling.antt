-- What a watch is told of a mirror.
use Rattle.std.proofs.Common.{◌≡◌, ◌≤◌, ◌-◌, ◌==◌, ◌&&◌, ℕ, Bool, true, false, List, [], ◌∷◌, ◌++◌, Option, Some, None, refl, sym, ap, ◌∙◌, inl, inr, arith, eq-eqb, ne_eqb, option_to_list, append_assoc}
use Rattle.std.proofs.lemmas.Bool.{cases_eq}
use Rattle.aoe_mirror.specs.Watching.{AreChanges, Hears, TellsChanges, new_lead, new_state, state_event}
use Rattle.aoe_mirror.specs.declared.watch.MirrorEvent.{MirrorEvent}
use Rattle.aoe_mirror.specs.declared.watch.Standing.{Standing}

changes_then : (xs ys : List MirrorEvent) (a b c : Standing) → AreChanges xs a b → AreChanges ys b c → AreChanges (ys ++ xs) a c
changes_then xs [] a b c x y = rw y x
changes_then xs (e ∷ ys) a b c x y = (y.0, changes_then xs ys a b y.0 x y.1, y.2)

pub tells_then : (a b c : Standing) (x y z : Option (List MirrorEvent)) → TellsChanges a b x y → TellsChanges b c y z → TellsChanges a c x z
tells_then a b c None None None s t = tt
tells_then a b c None None (Some z) s t = absurd t
tells_then a b c None (Some y) z s t = absurd s
tells_then a b c (Some x) None z s t = absurd s
tells_then a b c (Some x) (Some y) None s t = absurd t
tells_then a b c (Some x) (Some y) (Some z) s t =
    (t.0 ++ s.0, t.1 ∙ ap (λ (l : List MirrorEvent). t.0 ++ l) s.1 ∙ sym (append_assoc t.0 s.0 x), changes_then s.0 t.0 a b c s.2 t.2)

pub tells_none : (a : Standing) (x : Option (List MirrorEvent)) → TellsChanges a a x x
tells_none a None = tt
tells_none a (Some x) = ([], refl, refl)

hears_tells : (e : Option MirrorEvent) (a b : Standing) (x y : Option (List MirrorEvent)) → Hears (option_to_list e) x y → AreChanges (option_to_list e) a b
    → TellsChanges a b x y
hears_tells e a b None None h c = tt
hears_tells e a b None (Some y) h c = absurd h
hears_tells e a b (Some x) None h c = absurd h
hears_tells e a b (Some x) (Some y) h c = (option_to_list e, h, c)

-- how a mirror stands where only the change of the lead was told
abbrev halfway : Standing → Standing → Standing
halfway a b = record { lead = b.lead; is_whole = a.is_whole && a.lead == b.lead }

and_true : (w : Bool) → (w && true) ≡ w
and_true true = refl
and_true false = refl

is_standing : (lead : ℕ) (whole : Bool) (a : Standing) → lead ≡ a.lead → whole ≡ a.is_whole
    → (let s : Standing = record { lead = lead; is_whole = whole } in s) ≡ a
is_standing lead whole a e f = rw (e, f) refl

lead_changes : (a b : Standing) → a.lead ≤ 1 → b.lead ≤ 1 → AreChanges (option_to_list (new_lead a b)) a (halfway a b)
lead_changes a b la lb = elim (cases_eq a.lead b.lead) [
  | inl same ↦ rw (eq-eqb a.lead b.lead same) (is_standing b.lead (a.is_whole && true) a (sym same) (and_true a.is_whole))
  | inr other ↦ rw (ne_eqb a.lead b.lead other) (a, refl, (omega (arith, la, lb, other), none a.is_whole))
]
  where
    none : (w : Bool) → (let s : Standing = record { lead = b.lead; is_whole = w && false } in s) ≡ record { lead = b.lead; is_whole = false }
    none true = refl
    none false = refl

state_changes : (lead : ℕ) (was now : Bool) → lead ≤ 1
    → AreChanges (option_to_list (state_event lead was now)) (record { lead = lead; is_whole = was }) (record { lead = lead; is_whole = now })
state_changes lead true true le = refl
state_changes lead false false le = refl
state_changes lead true false le = let e : 1 - (1 - lead) ≡ lead = omega (arith, le) in (record { lead = lead; is_whole = true }, refl, rw e (refl, refl))
state_changes lead false true le = let e : 1 - (1 - lead) ≡ lead = omega (arith, le) in (record { lead = lead; is_whole = false }, refl, rw e (refl, refl))

pub change_told : (a b : Standing) (x y z : Option (List MirrorEvent)) → a.lead ≤ 1 → b.lead ≤ 1 → Hears (option_to_list (new_lead a b)) x y
    → Hears (option_to_list (new_state a b)) y z → TellsChanges a b x z
change_told a b x y z la lb first second = tells_then a (halfway a b) b x y z (hears_tells (new_lead a b) a (halfway a b) x y first (lead_changes a b la lb))
    (hears_tells (new_state a b) (halfway a b) b y z second (state_changes b.lead (a.is_whole && a.lead == b.lead) b.is_whole lb))
