-- The lines of a script in their order: none of them is refused.
use Rattle.std.proofs.Common.{◌≡◌, ◌∙◌, ◌⊎◌, inl, inr, ◌+◌, ◌<◌, ℕ, zero, suc, false, List, [], ◌∷◌, ◌++◌, length, take, map, Option, Some, None, nat_le, refl, ap, subst, arith}
use Rattle.std.specs.Prelude.{IfSome, option_and_then, option_map, slice_get}
use Rattle.std.specs.Str.Lines.{lines}
use Rattle.std.proofs.lemmas.Bool.Decides.{nat_tests}
use Rattle.std.proofs.lemmas.List.{length-take, take-map}
use Rattle.std.proofs.lemmas.Option.{slice_get-map, slice_get_within}
use Rattle.aoe_script.specs.declared.event.Event.{Event}
use Rattle.aoe_script.specs.declared.line.Line.{Line}
use Rattle.aoe_script.specs.declared.line.Line.TheVariants.{Asks, Declares}
use Rattle.aoe_script.specs.declared.setup.Setup.{Setup}
use Rattle.aoe_script.specs.Lines.{IsScript, first_refusal, line_refusal, lines_of, refusal_at, refused_for}
use Rattle.aoe_script.specs.Rules.{event_why, setup_why}
use Rattle.aoe_script.proofs.KeptLemmas.{lines_kept, setups_alone}

pub first_none : (lines : List Line) → ((k : ℕ) → refusal_at lines k ≡ None) → (n : ℕ) → first_refusal lines n ≡ None
first_none lines h zero = refl
first_none lines h (suc n) = rw (first_none lines h n, h n) refl

-- a place in two lists, the second behind the first
pub record IsFirst (setups : List Setup) (rest : List Line) (k : ℕ) : Type 0 where
  pub setup : Setup
  pub at : slice_get setups k ≡ Some setup
  pub got : slice_get (map Declares setups ++ rest) k ≡ Some (Declares setup)
  pub before : take k (map Declares setups ++ rest) ≡ map Declares (take k setups)

pub record IsSecond (setups : List Setup) (rest : List Line) (k : ℕ) : Type 0 where
  pub j : ℕ
  pub got : slice_get (map Declares setups ++ rest) k ≡ slice_get rest j
  pub before : take k (map Declares setups ++ rest) ≡ map Declares setups ++ take j rest

place : (setups : List Setup) (rest : List Line) (k : ℕ) → IsFirst setups rest k ⊎ IsSecond setups rest k
place [] rest k = inr record { j = k; got = refl; before = refl }
place (setup ∷ setups) rest zero = inl record { setup = setup; at = refl; got = refl; before = refl }
place (setup ∷ setups) rest (suc k) = elim (place setups rest k) [
  | inl h ↦ inl record { setup = h.setup; at = h.at; got = h.got; before = ap (λ t. Declares setup ∷ t) h.before }
  | inr h ↦ inr record { j = h.j; got = h.got; before = ap (λ t. Declares setup ∷ t) h.before }
]

fewer : {X : Type 0} (xs : List X) (j : ℕ) (x : X) → slice_get xs j ≡ Some x → length (take j xs) < length xs
fewer xs j x e = omega (arith, slice_get_within xs j x e, length-take j xs)

if_at : {X : Type 0} (P : X → Type 0) (o : Option X) (x : X) → o ≡ Some x → IfSome o P → P x
if_at P None x e h = absurd cc
if_at P (Some y) x e h = let same : y ≡ x = cc in subst P same h

module _ (setups : List Setup) (events : List Event) (h : IsScript (record { setups = setups; events = events })) where
  first_fine : (k : ℕ) → IsFirst setups (map Asks events) k → refusal_at (map Declares setups ++ map Asks events) k ≡ None
  first_fine k f =
      let fine = if_at (λ s. setup_why (take k setups) false s ≡ None) (slice_get setups k) f.setup f.at (h.setups k) in
      ap (option_and_then (line_refusal (k + 1) (lines_of (take k (map Declares setups ++ map Asks events))))) f.got
      ∙ ap (λ t. line_refusal (k + 1) (lines_of t) (Declares f.setup)) f.before
      ∙ ap (λ s. line_refusal (k + 1) s (Declares f.setup)) (setups_alone (take k setups))
      ∙ ap (λ w. refused_for (k + 1) w false) fine

  second_fine : (k : ℕ) → IsSecond setups (map Asks events) k → refusal_at (map Declares setups ++ map Asks events) k ≡ None
  second_fine k f =
      ap (option_and_then (line_refusal (k + 1) (lines_of (take k (map Declares setups ++ map Asks events))))) (f.got ∙ slice_get-map Asks events f.j)
      ∙ ap (λ t. option_and_then (line_refusal (k + 1) (lines_of t)) (option_map Asks (slice_get events f.j)))
      (f.before ∙ ap (λ t. map Declares setups ++ t) (take-map Asks f.j events))
      ∙ ap (λ s. option_and_then (line_refusal (k + 1) s) (option_map Asks (slice_get events f.j))) (lines_kept setups (take f.j events))
      ∙ go (slice_get events f.j) refl
    where
      go : (o : Option Event) → slice_get events f.j ≡ o → option_and_then (line_refusal (k + 1) (record { setups = setups; events = take f.j events }))
          (option_map Asks o) ≡ None
      go None e = refl
      go (Some event) e =
          let fine = if_at (λ x. event_why setups x ≡ None) (slice_get events f.j) event e (h.events f.j) in
          let less = fewer events f.j event e in
          let few = h.few_events in
          let room : nat_le 50000 (length (take f.j events)) ≡ false = grind (arith, nat_tests) in
          rw (fine, room) refl

  pub none_refused : (k : ℕ) → refusal_at (map Declares setups ++ map Asks events) k ≡ None
  none_refused k = elim (place setups (map Asks events) k) [ inl f ↦ first_fine k f | inr f ↦ second_fine k f ]
