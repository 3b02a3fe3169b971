-- The disk of a store with a cache, and what is settled there.
use Rattle.std.proofs.Common.{inl, inr, ◌≡◌, ◌≤◌, ◌+◌, ℕ, Bool, true, false, List, Option, Some, None, refl, sym, ap, ◌∙◌, arith}
use Rattle.std.proofs.lemmas.Bool.Decides.{nat_tests}
use Rattle.std.proofs.lemmas.Bool.{cases_Bool}
use Rattle.std.specs.Prelude.{IfSome}
use Rattle.std.specs.Option.{option_map}
use Rattle.aoe_base.proofs.CommonLemmas.{not-both}
use Rattle.aoe_disk.specs.State.{BothTell, Contents}
use Rattle.aoe_disk.specs.declared.armed.Arm.{Arm}
use Rattle.aoe_store.specs.Under.{bytes_under, ArmsUnder, CallsUnder, FreesUnder, ReadsUnder, StaysUnder, Under}
use Rattle.aoe_frame.specs.Header.{fields}
use Rattle.aoe_ata.specs.declared.args.AtaArgs.{AtaArgs}
use Rattle.aoe_ata.specs.declared.decision.AtaAnswer.{AtaAnswer}
use Rattle.aoe_ata.specs.declared.decision.AtaAnswer.TheVariants as ata
use Rattle.aoe_target.specs.declared.heard.Effect.{Effect}
use Rattle.aoe_target.specs.declared.heard.Effect.TheVariants as effect
use Rattle.aoe_target.specs.declared.heard.Heard.{Heard}
use Rattle.aoe_target.specs.declared.heard.Heard.TheVariants as heard
use Rattle.aoe_target.specs.declared.station.Station.{Station}
use Rattle.aoe_target.specs.declared.verdict.Verdict.{Verdict}
use Rattle.aoe_target.specs.declared.verdict.Verdict.TheVariants as verdict
use Rattle.aoe_target.specs.Device.{State}
use Rattle.aoe_target.specs.Law.{after, after_ata, step_of, Allows, AllowsAta}
use Rattle.aoe_target.specs.Law as target
use Rattle.aoe_target.specs.Receive.{calls_for, calls_store, fate_of, is_fault, is_faulty, MovesUnder, TurnsUnder}
use Rattle.aoe_target.specs.Sectors.{sectors_of, Sectors}
use Rattle.aoe_target.specs.Verdict.{verdict as verdict_of}
use Rattle.aoe_history.specs.declared.entry.Fate.{Fate}
use Rattle.aoe_history.specs.declared.entry.Fate.TheVariants.{Replied}
use Rattle.aoe_history.specs.Setup.{SlotSetup}
use Rattle.aoe_history.specs.Slots.{after_call, after_frame, fate_at, is_cached_whole, is_struck, Slot, Unsettled}
use Rattle.aoe_sim_shelves.specs.Arrival.{noted}
use Rattle.aoe_sim_shelves.specs.Shelf.{AgreesWithin, IsBelow, HasCache}
use Rattle.aoe_sim_shelves.proofs.StepLemmas.{step_sectors}

-- PLUMBING

both-then : (R S : Under → Under → Type 0) (x y : Option Under) → BothTell R x y → ((d e : Under) → R d e → S d e) → BothTell S x y
both-then R S x y p f = grind arith

some-then : (R : Sectors → Sectors → Type 0) (P Q : Sectors → Type 0) (o p : Option Sectors) → ((k l : Sectors) → R k l → P k → Q l)
    → BothTell R o p → IfSome o P → IfSome p Q
some-then R P Q o p f r i = grind arith

-- a crash leaves what was settled
whole-of : (room : ℕ) (u : Unsettled) → is_cached_whole room u ≡ true → (u.written ≤ room) × (u.struck ≡ false)
whole-of room u e = grind (arith, nat_tests)

of-whole : (room : ℕ) (u : Unsettled) → u.written ≤ room → u.struck ≡ false → is_cached_whole room u ≡ true
of-whole room u le e = grind (arith, nat_tests)

-- THE CALLS

pub moves-calls : (v : Verdict) (failed : Bool) (shown : Option Contents) (x y : Option Under) → calls_store v ≡ true
    → MovesUnder v failed shown x y → BothTell (CallsUnder failed) x y
moves-calls v failed shown x y c p = grind arith

-- WHAT A CALL LEAVES

-- no more is settled in a slot, and so many sectors more were written
abbrev pub SameSettled : Option Sectors → Option Sectors → Type 0
SameSettled o p = BothTell (λ (k l : Sectors). (s : ℕ) → l.settled s ≡ k.settled s) o p

pub record Writes (count : ℕ) (z w : Slot) : Type 0 where
  pub written : w.unsettled.written ≡ z.unsettled.written + count
  pub struck : w.unsettled.struck ≡ z.unsettled.struck
  pub settled : SameSettled z.state.sectors w.state.sectors

-- so many sectors were written through a cache
pub record Spends (count : ℕ) (d e : Under) : Type 0 where
  pub room : e.room ≡ d.room
  pub within : (k : ℕ) → d.free ≡ Some k → count ≤ k → StaysUnder count k d e

-- what is known of the disk under a cache, as long as a crash leaves what was settled
abbrev IsKnown : ℕ → ℕ → Slot → Under → Type 0
IsKnown n room z d = is_cached_whole room z.unsettled ≡ true → IfSome z.state.sectors (λ k. IsBelow n room z.unsettled k d)

record Keeps (n : ℕ) (z w : Slot) (d e : Under) : Type 0 where
  pub room : e.room ≡ d.room
  pub known : (room : ℕ) → d.room ≡ room → IsKnown n room z d → IsKnown n room w e

under-then : (n : ℕ) (z w : Slot) (cache : Option ℕ) (x y : Option Under) → BothTell (Keeps n z w) x y → HasCache n cache z x → HasCache n cache w y
under-then n z w cache x y keeps u = grind arith

module _ (n : ℕ) (cache : Option ℕ) (z w : Slot) (x y : Option Under) where
  pub under-wrote : (count : ℕ) → Writes count z w → BothTell (Spends count) x y → HasCache n cache z x → HasCache n cache w y
  under-wrote count wrote spends = under-then n z w cache x y (both-then _ _ x y spends (λ d e s. record {
    room = s.room;
    known = λ room is known whole.
        let fits = whole-of room w.unsettled whole in
        let written = wrote.written in
        some-then _ _ _ z.state.sectors w.state.sectors (λ k l same b.
        let stays = s.within b.left b.free (omega (arith, b.enough)) in
        record {
          left = stays.left;
          free = stays.free;
          enough = omega (arith, b.enough, stays.fewer);
          settled = λ i low. rw (same i, stays.bytes) (b.settled i low);
        }) wrote.settled (known (of-whole room z.unsettled (omega arith) (sym wrote.struck ∙ fits.1)));
  }))

  -- a call was struck, and nothing is known of the disk
  pub under-struck : w.unsettled.struck ≡ true → BothTell (λ (d e : Under). e.room ≡ d.room) x y → HasCache n cache z x → HasCache n cache w y
  under-struck struck same = under-then n z w cache x y (both-then _ _ x y same (λ d e room. record {
    room = room;
    known = λ room is known whole. absurd (not-both w.unsettled.struck struck (whole-of room w.unsettled whole).1);
  }))

  -- a sync: what was known is settled
  pub under-synced : (shown : Option Contents) → BothTell (λ (k l : Sectors). (s : ℕ) → l.settled s ≡ k.known s) z.state.sectors w.state.sectors
      → BothTell (AgreesWithin n) (option_map sectors_of shown) z.state.sectors → BothTell (FreesUnder false shown) x y
      → HasCache n cache z x → HasCache n cache w y
  under-synced shown settled agrees frees = under-then n z w cache x y (both-then _ _ x y frees (λ d e f. record {
    room = f.calls.room;
    known = λ room is known whole. synced room e (f.calls.room ∙ is) shown z.state.sectors w.state.sectors agrees settled (f.done refl);
  }))
    where
      synced : (room : ℕ) (e : Under) → e.room ≡ room → (shown : Option Contents) (o p : Option Sectors)
          → BothTell (AgreesWithin n) (option_map sectors_of shown) o
          → BothTell (λ (k l : Sectors). (s : ℕ) → l.settled s ≡ k.known s) o p → IfSome shown (λ c. (bytes_under e ≡ Some c.bytes) × (e.free ≡ Some e.room))
          → IfSome p (λ l. IsBelow n room w.unsettled l e)
      synced room e is shown o None a same done = tt
      synced room e is (Some c) (Some k) (Some l) a same done = record {
        left = room;
        free = done.1 ∙ ap Some is;
        enough = omega arith;
        settled = λ s low. rw (same s, done.0) (a.known s low);
      }
      synced room e is _ _ _ a same done = absurd (grind arith)

-- a disk that is as it was
pub settled-self : (o : Option Sectors) → SameSettled o o
settled-self o = grind arith

spends-none : (d e : Under) → e.room ≡ d.room → bytes_under e ≡ bytes_under d → e.free ≡ d.free → Spends 0 d e
spends-none d e room bytes free = record {
  room = room;
  within = λ k is le. record { bytes = bytes; left = k; free = free ∙ is; fewer = omega arith };
}

pub armed-under : (arm : Arm) (x y : Option Under) → BothTell (ArmsUnder arm) x y → BothTell (Spends 0) x y
armed-under arm x y p = both-then _ _ x y p (λ d e a. spends-none d e a.room (rw a.arms.contents) a.free)

read-under : (failed : Bool) (x y : Option Under) → BothTell (ReadsUnder failed) x y → BothTell (Spends 0) x y
read-under failed x y p = both-then _ _ x y p (λ d e r. spends-none d e r.calls.room (rw r.same) r.free)

same-under : (x : Option Under) → BothTell (Spends 0) x x
same-under x = grind (arith, spends-none)

-- WHAT A FRAME LEAVES

-- a call of the store is answered, unless the power is lost in it
must-reply : (station : Station) (k : State) (f : List ℕ) (v : Verdict) (g : target.Fate) → calls_store v ≡ true → Allows station k f v g
    → target.RepliesOrCut (λ e r. Unit {0}) g
must-reply station k f v g c a = grind arith

module _ (n : ℕ) (slot : SlotSetup) (f : List ℕ) (z : Slot) where
  abbrev v : Verdict
  v = verdict_of slot.station z.state.lists f

  -- a frame that isn't a call of the store
  idle-sectors : (w : Verdict) (g : target.Fate) → calls_store w ≡ false → Allows slot.station z.state f w g
      → SameSettled z.state.sectors (after slot.station f w g z.state).sectors
  idle-sectors w g c a = grind (arith, step_sectors)

  pub under-idle : (fate : Fate) (x : Option Under) → calls_store v ≡ false → Allows slot.station z.state f v (fate_at fate) → HasCache n slot.cache z x
      → HasCache n slot.cache (after_frame slot f fate z) x
  under-idle fate x c a = under-wrote n slot.cache z (after_frame slot f fate z) x x 0 (record {
    written = rw c (omega arith);
    struck = rw c;
    settled = idle-sectors v (fate_at fate) c a;
  }) (same-under x)

  module _ (x y : Option Under) (c : calls_store v ≡ true) where
    -- a call failed, or the power was lost in it
    pub under-failed : (fate : Fate) (failed : Bool) → is_struck fate ≡ true → BothTell (CallsUnder failed) x y → HasCache n slot.cache z x
        → HasCache n slot.cache (after_frame slot f fate z) y
    under-failed fate failed s calls =
        under-struck n slot.cache z (after_frame slot f fate z) x y (rw c (grind arith))
        (both-then _ _ x y calls (λ d e r. r.room))

    module _ (shown : Option Contents) (agrees : BothTell (AgreesWithin n) (option_map sectors_of shown) z.state.sectors) (u : HasCache n slot.cache z x)
        (number : ℕ) (out : List ℕ) where
      -- the slot after a reply
      abbrev left : Verdict → Effect → Slot
      left w e = record { state = after slot.station f w (target.replied e out) z.state; unsettled = after_call (Replied e number out) z.unsettled }

      done-then : (args : AtaArgs) (answer : AtaAnswer) (e : Effect) → calls_for answer ≡ true → is_fault e ≡ false → TurnsUnder answer false shown x y
          → AllowsAta slot.station z.state.sectors (fields f) args answer (target.replied e out)
          → HasCache n slot.cache (left (verdict.Ata (record { args = args; answer = answer })) e) y
      done-then args (ata.Put span) (effect.Wrote w) called s p a =
          under-wrote n slot.cache z _ x y span.count
          (record { written = rw a.0; struck = refl; settled = grind arith })
          (both-then _ _ x y p (λ d e r. record { room = r.calls.room; within = r.within })) u
      done-then args ata.Sync effect.Synced called s p a =
          under-synced n slot.cache z _ x y shown (grind arith) agrees p u
      done-then args answer effect.None called s p a =
          under-wrote n slot.cache z _ x y 0 (record { written = omega arith; struck = refl; settled = grind arith }) (read-under false x y (grind arith)) u
      done-then args answer e called s p a = absurd (grind arith)

      -- the call was done
      under-done : (w : Verdict) (e : Effect) → calls_store w ≡ true → is_fault e ≡ false → MovesUnder w false shown x y
          → Allows slot.station z.state f w (target.replied e out) → HasCache n slot.cache (left w e) y
      under-done (verdict.Ata d) e called s p a = done-then d.args d.answer e called s p a
      under-done _ e called s p a = absurd cc

      -- what a target did with a frame that made it call its store
      pub under-noted : (w : Heard) → is_struck (noted None w number out) ≡ is_faulty w → MovesUnder v (is_faulty w) shown x y
          → Allows slot.station z.state f v (fate_of w out) → HasCache n slot.cache (after_frame slot f (noted None w number out) z) y
      under-noted (heard.Replied e) struck p a = elim (cases_Bool (is_fault e)) [
        | inl fault ↦ under-failed (Replied e number out) (is_fault e) (struck ∙ fault) (moves-calls v (is_fault e) shown x y c p) u
        | inr fault ↦ rw c (under-done v e c fault (rw fault at p) a)
      ]
      under-noted w struck p a = absurd (must-reply slot.station z.state f v (fate_of w out) c a)
