-- A frame comes to one slot after the other.
use Rattle.std.proofs.Common.{◌≡◌, ◌≤◌, ◌<◌, ◌+◌, ℕ, zero, suc, List, [], ◌∷◌, ◌++◌, length, length-append, Some, false, refl, sym, ap, subst, ◌∙◌, arith, inl, inr, get_or, append-nil}
use Rattle.std.proofs.lemmas.Grind.{flat_map-append}
use Rattle.std.proofs.lemmas.Bool.{cases_lt}
use Rattle.std.proofs.lemmas.List.{get_or_append_left, get_or_at}
use Rattle.std.proofs.lemmas.Option.{slice_get-get_or, slice_get_within, same_Some}
use Rattle.std.specs.Prelude.{slice_get}
use Rattle.aoe_target.specs.History.{is_cut}
use Rattle.aoe_target.specs.Law.{Fate, ignored}
use Rattle.aoe_serve.specs.Arrivals.{MeetAll, fate_at, replies_of, reply_of}
use Rattle.aoe_serve.specs.Answering.{MeetsAt}
use Rattle.aoe_serve.specs.Slots.{IsFrameLong, Meets, Slot}

-- the first slots met the frame, and the others are as they were
pub record Partly (old new : List Slot) (frame : List ℕ) (fates : List Fate) : Type 0 where
  pub count : length new ≡ length old
  pub done : (i : ℕ) (a b : Slot) → i < length fates → slice_get old i ≡ Some a → slice_get new i ≡ Some b → Meets a b frame (fate_at i fates)
  pub rest : (i : ℕ) → length fates ≤ i → slice_get new i ≡ slice_get old i

pub partly_begun : (old : List Slot) (frame : List ℕ) → Partly old old frame []
partly_begun old frame = record { count = refl; done = λ i a b below. absurd (omega (arith, below)); rest = λ i above. refl }

pub replies-on : (fates : List Fate) (fate : Fate) → replies_of (fates ++ fate ∷ []) ≡ replies_of fates ++ reply_of fate
replies-on fates fate = flat_map-append reply_of fates (fate ∷ []) ∙ ap (λ (t : List (List ℕ)). replies_of fates ++ t) (append-nil (reply_of fate))

fate_before : (fates : List Fate) (fate : Fate) (i : ℕ) → i < length fates → fate_at i (fates ++ fate ∷ []) ≡ fate_at i fates
fate_before fates fate i below = get_or_append_left fates (fate ∷ []) ignored i below

fate_last : (fates : List Fate) (fate : Fate) (i : ℕ) → length fates ≡ i → fate_at i (fates ++ fate ∷ []) ≡ fate
fate_last fates fate i e = get_or_at fates fate [] ignored i e

module _ (old now new : List Slot) (frame : List ℕ) (fates : List Fate) (fate : Fate) (s : ℕ) (at : length fates ≡ s) (p : Partly old now frame fates)
    (m : MeetsAt s now new frame fate) where
  done_then : (i : ℕ) (a b : Slot) → i < length (fates ++ fate ∷ []) → slice_get old i ≡ Some a → slice_get new i ≡ Some b
      → Meets a b frame (fate_at i (fates ++ fate ∷ []))
  done_then i a b below ea eb =
      elim (cases_lt i s) [
        | inl before ↦
            let same : slice_get new i ≡ slice_get now i = m.others i (λ e. omega (arith, e, before)) in
            let less : i < length fates = omega (arith, before, at) in
            subst (λ (f : Fate). Meets a b frame f) (sym (fate_before fates fate i less)) (p.done i a b less ea (sym same ∙ eb))
        | inr after ↦
            let is : s ≡ i = omega (arith, after, below, at, length-append fates (fate ∷ [])) in
            let here : slice_get now s ≡ Some a = p.rest s (omega (arith, at)) ∙ ap (slice_get old) is ∙ ea in
            subst (λ (f : Fate). Meets a b frame f) (sym (fate_last fates fate i (at ∙ is))) (m.meets a b here (ap (slice_get new) is ∙ eb))
      ]

  pub partly_then : Partly old new frame (fates ++ fate ∷ [])
  partly_then = record {
    count = m.count ∙ p.count;
    done = done_then;
    rest = λ i above.
        let more : length fates + 1 ≤ i = omega (arith, above, length-append fates (fate ∷ [])) in
        m.others i (λ e. omega (arith, e, at, more)) ∙ p.rest i (omega (arith, more));
  }

-- the slot that stands at a place
pub record There (slots : List Slot) (i : ℕ) : Type 0 where
  pub slot : Slot
  pub is : slice_get slots i ≡ Some slot

pub there : (slots : List Slot) (i : ℕ) → i < length slots → There slots i
there [] i below = absurd (omega (arith, below))
there (x ∷ slots) zero below = record { slot = x; is = refl }
there (x ∷ slots) (suc i) below = let t = there slots i (omega (arith, below)) in record { slot = t.slot; is = t.is }

module _ (old new : List Slot) (frame : List ℕ) (fates : List Fate) (p : Partly old new frame fates) (e : length fates ≡ length old) where
  met : (P : Fate → Type 0) → ((a b : Slot) (fate : Fate) → Meets a b frame fate → P fate) → (k : ℕ) (d : Fate) → k < length fates → P (get_or fates k d)
  met P tells k d below =
      let a = there old k (omega (arith, e, below)) in
      let b = there new k (omega (arith, e, below, p.count)) in
      let same : fate_at k fates ≡ get_or fates k d =
      same_Some (fate_at k fates) (get_or fates k d) (sym (slice_get-get_or fates k ignored below) ∙ slice_get-get_or fates k d below) in
      subst P same (tells a.slot b.slot (fate_at k fates) (p.done k a.slot b.slot below a.is b.is))

  -- every slot met it
  pub partly_whole : MeetAll old new frame fates
  partly_whole = record {
    round = (e, met (λ fate. is_cut fate ≡ false) (λ a b fate m. m.uncut), met IsFrameLong (λ a b fate m. m.fits));
    slots = record { count = p.count; each = λ i a b ea eb. p.done i a b (omega (arith, e, slice_get_within old i a ea)) ea eb };
  }
