-- One store is synced after the other.
use Rattle.std.proofs.Common.{◌≡◌, ◌≤◌, ◌<◌, ◌+◌, ℕ, Bool, List, [], ◌∷◌, ◌++◌, length, length-append, Option, Some, None, refl, sym, ap, subst, ◌∙◌, arith, inl, inr, get_or}
use Rattle.std.proofs.lemmas.Bool.{cases_lt}
use Rattle.std.proofs.lemmas.List.{get_or_append_left, get_or_at, length-map}
use Rattle.std.proofs.lemmas.Option.{same_Some, slice_get-map, slice_get_within}
use Rattle.std.specs.Option.{option_map}
use Rattle.std.specs.Prelude.{slice_get, Result, Ok, Err}
use Rattle.aoe_base.specs.declared.failure.Failed.{Failed}
use Rattle.aoe_disk.specs.State.{DiskState}
use Rattle.aoe_shelf.specs.Calls.{SyncsStore}
use Rattle.aoe_shelf.specs.Slot.{ChangesAt}
use Rattle.aoe_shelf.proofs.SlotLemmas.{get-after, get-other, length-changed}
use Rattle.aoe_serve.specs.Slots.{Slot, slot_of, slots_of}
use Rattle.aoe_target.specs.Mounted.{Mounted}
use Rattle.aoe_serve.specs.Exporting.{SyncsEach, SyncsSlot, first_failed, first_of}

-- the store of one slot was synced, and the others are as they were
pub record SyncsAt (slot : ℕ) (result : Result (Unit {0}) Failed) (old new : List Slot) : Type 0 where
  pub count : length new ≡ length old
  pub syncs : (a b : Slot) → slice_get old slot ≡ Some a → slice_get new slot ≡ Some b → SyncsSlot result a b
  pub others : (i : ℕ) → (i ≡ slot → ⊥) → slice_get new i ≡ slice_get old i

module _ {S D : Type 0} (lasts : Bool) (store : S → DiskState) (keep : D → DiskState) (result : Result (Unit {0}) Failed) where
  syncs_from : (a b : Mounted S D) → SyncsStore store result a b → SyncsSlot result (slot_of lasts store keep a) (slot_of lasts store keep b)
  syncs_from a b s = record { syncs = s.syncs; rest = ap (slot_of lasts store keep) s.rest }

  pub syncs_at : (slot : ℕ) (old new : List (Mounted S D)) → ChangesAt slot (SyncsStore store result) old new
      → SyncsAt slot result (slots_of lasts store keep old) (slots_of lasts store keep new)
  syncs_at slot old new c =
      let f = slot_of lasts store keep in
      record {
        count = length-map new f ∙ length-changed slot _ old new c ∙ sym (length-map old f);
        syncs = λ a b ea eb.
            let first : f c.before ≡ a = same_Some (f c.before) a (sym (slice_get-map f old slot ∙ ap (option_map f) c.found) ∙ ea) in
            let second : f c.after ≡ b = same_Some (f c.after) b (sym (slice_get-map f new slot ∙ ap (option_map f) (get-after slot _ old new c)) ∙ eb) in
            subst (λ (x : Slot). SyncsSlot result x b) first
            (subst (λ (x : Slot). SyncsSlot result (f c.before) x) second (syncs_from c.before c.after c.change));
        others = λ i other. slice_get-map f new i ∙ ap (option_map f) (get-other slot _ old new c i other) ∙ sym (slice_get-map f old i);
      }

-- the first slots were synced, and the others are as they were
pub record Partly (old new : List Slot) (results : List (Result (Unit {0}) Failed)) : Type 0 where
  pub count : length new ≡ length old
  pub done : (i : ℕ) (a b : Slot) → i < length results → slice_get old i ≡ Some a → slice_get new i ≡ Some b → SyncsSlot (get_or results i (Ok tt)) a b
  pub rest : (i : ℕ) → length results ≤ i → slice_get new i ≡ slice_get old i

pub partly_begun : (old : List Slot) → Partly old old []
partly_begun old = record { count = refl; done = λ i a b below. absurd (omega (arith, below)); rest = λ i above. refl }

module _ (old now new : List Slot) (results : List (Result (Unit {0}) Failed)) (result : Result (Unit {0}) Failed) (s : ℕ) (at : length results ≡ s)
    (p : Partly old now results) (m : SyncsAt s result now new) where
  done_then : (i : ℕ) (a b : Slot) → i < length (results ++ result ∷ []) → slice_get old i ≡ Some a → slice_get new i ≡ Some b
      → SyncsSlot (get_or (results ++ result ∷ []) i (Ok tt)) a b
  done_then i a b below ea eb =
      elim (cases_lt i s) [
        | inl before ↦
            let same : slice_get new i ≡ slice_get now i = m.others i (λ e. omega (arith, e, before)) in
            let less : i < length results = omega (arith, before, at) in
            subst (λ (r : Result (Unit {0}) Failed). SyncsSlot r a b) (sym (get_or_append_left results (result ∷ []) (Ok tt) i less))
            (p.done i a b less ea (sym same ∙ eb))
        | inr after ↦
            let is : s ≡ i = omega (arith, after, below, at, length-append results (result ∷ [])) in
            let here : slice_get now s ≡ Some a = p.rest s (omega (arith, at)) ∙ ap (slice_get old) is ∙ ea in
            subst (λ (r : Result (Unit {0}) Failed). SyncsSlot r a b) (sym (get_or_at results result [] (Ok tt) i (at ∙ is)))
            (m.syncs a b here (ap (slice_get new) is ∙ eb))
      ]

  pub partly_then : Partly old new (results ++ result ∷ [])
  partly_then = record {
    count = m.count ∙ p.count;
    done = done_then;
    rest = λ i above.
        let more : length results + 1 ≤ i = omega (arith, above, length-append results (result ∷ [])) in
        m.others i (λ e. omega (arith, e, at, more)) ∙ p.rest i (omega (arith, more));
  }

pub partly_whole : (old new : List Slot) (results : List (Result (Unit {0}) Failed)) → Partly old new results → length results ≡ length old
    → SyncsEach results old new
partly_whole old new results p e = record {
  count = e;
  slots = record { count = p.count; each = λ i a b ea eb. p.done i a b (omega (arith, e, slice_get_within old i a ea)) ea eb };
}

-- the first failure, with one result more
later : (first : Option ℕ) (result : Result (Unit {0}) Failed) (n : ℕ) → option_map (λ slot. slot + 1) (first_of first result n)
    ≡ first_of (option_map (λ slot. slot + 1) first) result (n + 1)
later None (Ok done) n = refl
later None (Err failed) n = refl
later (Some k) (Ok done) n = refl
later (Some k) (Err failed) n = refl

pub first_then : (results : List (Result (Unit {0}) Failed)) (result : Result (Unit {0}) Failed)
    → first_failed (results ++ result ∷ []) ≡ first_of (first_failed results) result (length results)
first_then [] (Ok done) = refl
first_then [] (Err failed) = refl
first_then (Err failed ∷ results) (Ok done) = refl
first_then (Err failed ∷ results) (Err more) = refl
first_then (Ok done ∷ results) result = ap (option_map (λ slot. slot + 1)) (first_then results result)
    ∙ later (first_failed results) result (length results) ∙ ap (first_of (option_map (λ slot. slot + 1) (first_failed results)) result) (omega arith)

pub first-more : (results : List (Result (Unit {0}) Failed)) (result : Result (Unit {0}) Failed) (n : ℕ) (first more : Option ℕ)
    → first ≡ first_failed results → length results ≡ n → more ≡ first_of first result n → more ≡ first_failed (results ++ result ∷ [])
first-more results result n first more one count two =
    two ∙ ap (λ (o : Option ℕ). first_of o result n) one ∙ ap (λ (k : ℕ). first_of (first_failed results) result k) (sym count)
    ∙ sym (first_then results result)
