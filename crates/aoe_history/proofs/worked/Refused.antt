-- What wrong hosts and shelves would do is refused.
use Rattle.std.proofs.Common.{ℕ, ◌≡◌, ◌≤◌, ◌⊎◌, inl, inr, Bool, true, false, not, ◌&&◌, ◌∙◌, List, [], ◌∷◌, length, Option, Some, None, refl, sym, ap, arith, slice_index, All, Contains, nat_eq}
use Rattle.std.specs.List.{list_all}
use Rattle.std.proofs.lemmas.Bool.{and_from, eq-eqb}
use Rattle.aoe_disk.specs.declared.loss.Loss.{Loss}
use Rattle.aoe_ata.specs.Decision.{decision}
use Rattle.aoe_flight.specs.Outstanding.{is_due}
use Rattle.aoe_initiator.specs.declared.outcome.Outcome.{Outcome}
use Rattle.aoe_initiator.specs.declared.step.Sent as step
use Rattle.aoe_initiator.specs.HostLaw.{answer_to, is_clear_at, IsNext, IsNextBy, IsQuiet}
use Rattle.aoe_initiator.specs.HostLog.{sent_of}
use Rattle.aoe_initiator.specs.Request.{request}
use Rattle.aoe_initiator.specs.Response.{answer}
use Rattle.aoe_lists.specs.Masks.{mask_answer}
use Rattle.aoe_lists.specs.Reserves.{reserve_answer}
use Rattle.aoe_lists.specs.Settings.{empty_settings}
use Rattle.aoe_target.specs.declared.heard.Effect.{Effect}
use Rattle.aoe_target.specs.declared.heard.Effect.TheVariants.{None as NoEffect, Wrote, WriteFault}
use Rattle.aoe_target.specs.Reply.{spelled}
use Rattle.aoe_target.specs.Verdict.{verdict}
use Rattle.aoe_history.specs.declared.entry.Entry.{Entry}
use Rattle.aoe_history.specs.declared.entry.Entry.TheVariants.{Sent, Arrived, Took, Lost, Crashed}
use Rattle.aoe_history.specs.declared.entry.Fate.{Fate}
use Rattle.aoe_history.specs.declared.entry.Fate.TheVariants.{Replied}
use Rattle.aoe_history.specs.Cases.{almost_waited, armed, beside_submitted, crashed_write, early_write, flush_frame, flush_sent, forged, forged_response, kept_out, masked_out, ones_frame, read_frame, reserved, second_submitted, write_due, write_sent, write_submitted}
use Rattle.aoe_history.specs.Commands.{commands_of, host_after}
use Rattle.aoe_history.specs.Frames.{arriving, clock}
use Rattle.aoe_history.specs.Example.{a, device, full, host_a, host_b, setup, setup_with, show, span}
use Rattle.aoe_history.specs.Groups.{Enters, Got, Hand, Shelf}
use Rattle.aoe_initiator.specs.Defaults.{default_life}
use Rattle.aoe_history.specs.HostLaw.{IsResponse, IsSent, IsStale, IsTaken}
use Rattle.aoe_history.specs.Lawful.{IsArrival, MayCome}
use Rattle.aoe_history.specs.Setup.{HostSetup, Setup, SlotSetup}
use Rattle.aoe_history.specs.ShelfLaw.{KeepsArming, KeepsShelfLaw}
use Rattle.aoe_history.specs.Slots.{zero_sector}
use Rattle.aoe_history.proofs.worked.CaseLemmas.{nth, nth_sent, passes, stale}

-- a command with a ticket is none of these, by a test
no-such : {X : Type 0} (test : X → Bool) (xs : List X) (x : X) → list_all (λ y. not (test y)) xs ≡ true → Contains xs x → test x ≡ true → ⊥
no-such test xs x none there e = let n = passes (λ y. not (test y)) xs x none there in cc

-- a command with this ticket isn't sent: none with it is due, and none with it is clear
pub is-not-sent : (s : Setup) (host : HostSetup) (h : List Entry) (c number : ℕ) (bytes : List ℕ)
    → list_all (λ o. not (nat_eq o.ticket.0 c && is_due (clock h) o)) (sent_of (commands_of host h)) ≡ true
    → list_all (λ x. not (nat_eq x.ticket.0 c && is_clear_at s.life.requests.0 (clock h) (commands_of host h) x)) (commands_of host h) ≡ true
    → IsSent s host h c number bytes → ⊥
is-not-sent s host h c number bytes none-due none-clear x = go x.sent.again x.may
  where
    go : (again : Bool) → IsNextBy again (host_after s host h) (commands_of host h) x.sent → ⊥
    go true n = no-such _ _ n.command none-due n.first_due.there (and_from _ _ (eq-eqb _ _ (ap (λ t. t.0) n.ticket ∙ x.ticket_is)) n.first_due.passes)
    go false n = no-such _ _ n.command none-clear n.there (and_from _ _ (eq-eqb _ _ (ap (λ t. t.0) n.ticket ∙ x.ticket_is)) n.clear)

-- what is stale is no response
stale-no-response : (s : Setup) (host : HostSetup) (h : List Entry) (f : List ℕ) (c : ℕ) (o : Outcome) → IsStale s host h f → IsResponse s host h f c o → ⊥
stale-no-response s host h f c o st r =
    let none : answer_to (host_after s host h) r.command f ≡ None = rw (← r.there.2) (st r.there.0 r.command r.there.1) in
    cc (none, r.says)

-- a flush that is sent as soon as the write before it is acknowledged
pub early-flush : (number : ℕ) (bytes : List ℕ) → MayCome setup almost_waited (Sent a 2 number bytes) → ⊥
unfolding full request
early-flush number bytes x = is-not-sent setup host_a almost_waited 2 number bytes refl refl x

-- a second write of a sector while a frame of the first can arrive
pub early-write : (number : ℕ) (bytes : List ℕ) → MayCome setup second_submitted (Sent a 2 number bytes) → ⊥
unfolding full request
early-write number bytes x = is-not-sent setup host_a second_submitted 2 number bytes refl refl x

-- a tag that is used again while a response to its last command can come
pub used-tag : (sent : step.Sent) → sent.ticket.0 ≡ 2 → sent.tag ≡ 1
    → IsNext (host_after setup host_a beside_submitted) (commands_of host_a beside_submitted) sent → ⊥
unfolding full request
used-tag sent is tag n = go sent.again n
  where
    go : (again : Bool) → IsNextBy again (host_after setup host_a beside_submitted) (commands_of host_a beside_submitted) sent → ⊥
    go true n = no-such (λ o. nat_eq o.ticket.0 2) (sent_of (commands_of host_a beside_submitted)) n.command refl n.first_due.there
        (eq-eqb _ _ (ap (λ t. t.0) n.ticket ∙ is))
    go false n = let f = rw tag at n.free in cc

-- a response with the right tag, from any source
pub any-source : MayCome setup forged_response (Took a 2 false) → ⊥
unfolding full request spelled answer
any-source x = go x.bytes x.fresh x.law
  where
    go : (f : List ℕ) → arriving default_life forged_response 2 ≡ Some f → IsTaken setup host_a forged_response f false → ⊥
    go f e l = let q : forged ≡ f = cc in
        stale-no-response setup host_a forged_response forged l.0 l.1 (stale setup host_a forged_response forged refl) (rw (← q) at l.2)

-- the laws hold of the frame that comes to a slot
came : {s : Setup} {slot : SlotSetup} {h : List Entry} {n : ℕ} {fate : Fate} (f : List ℕ) → arriving s.life h n ≡ Some f → IsArrival s slot h n fate
    → KeepsShelfLaw slot h f fate × KeepsArming slot h f fate
came f e x = let q : f ≡ x.bytes = cc in rw q (x.law, x.arming)

-- a flush that is acknowledged without a sync
pub no-sync : (reply : List ℕ) → MayCome setup flush_sent (Arrived device 3 (Replied NoEffect 4 reply)) → ⊥
unfolding full request verdict decision
no-sync reply x = (came flush_frame refl x).0

-- a frame that is handed over after its lifetime
pub expired : (fate : Fate) → MayCome setup flush_sent (Arrived device 1 fate) → ⊥
unfolding full request
expired fate x = let e : None ≡ Some x.bytes = x.fresh in cc

-- a write that is done though another host has the reservation
pub not-kept-out : (reply : List ℕ) → MayCome (setup_with None (host_a ∷ host_b ∷ [])) kept_out (Arrived device 5 (Replied (Wrote (span 0)) 6 reply)) → ⊥
unfolding full request verdict decision reserve_answer spelled
not-kept-out reply x = let m = (came early_write refl x).0 in cc

-- an answer to a station outside the mask list
pub not-masked : (effect : Effect) (reply : List ℕ) → MayCome (setup_with None (host_a ∷ host_b ∷ [])) masked_out (Arrived device 3 (Replied effect 4 reply))
    → ⊥
unfolding full request verdict decision mask_answer spelled
not-masked effect reply x = let m = (came early_write refl x).0 in cc

-- empty lists after a crash, though a reservation was acknowledged
pub lost-lists : (how : Loss) → MayCome (setup_with None (host_a ∷ host_b ∷ [])) reserved (Crashed device empty_settings how) → ⊥
unfolding full request verdict decision reserve_answer spelled
lost-lists how (inl e) = let m = ap (λ r. length r.reserves) e in cc
lost-lists how (inr c) = let lt = c.1 in absurd (omega arith)

-- a write that fails before the call that the disk was armed for, and one that doesn't fail in it
pub fails-early : (reply : List ℕ) → MayCome setup (armed 2) (Arrived device 1 (Replied (WriteFault (span 0)) 2 reply)) → ⊥
unfolding full request verdict decision
fails-early reply x = let n = (came ones_frame refl x).1.store.0 in cc

pub fails-never : (reply : List ℕ) → MayCome setup (armed 1) (Arrived device 1 (Replied (Wrote (span 0)) 2 reply)) → ⊥
unfolding full request verdict decision
fails-never reply x = let n = (came ones_frame refl x).1.store.0 in cc

-- a host that sends nothing though a command is clear, and one that doesn't repeat
pub sends-nothing : IsQuiet (host_after setup host_a write_submitted) (commands_of host_a write_submitted) → ⊥
unfolding full
sends-nothing q = go q.nothing_clear
  where
    go : (4096 ≤ 0) ⊎ All (λ c. is_clear_at 2000 0 (commands_of host_a write_submitted) c ≡ false) (commands_of host_a write_submitted) → ⊥
    go (inl le) = omega arith
    go (inr a) = let e : true ≡ false = a 0 (nth host_a write_submitted 0) (omega arith) in cc

pub repeats-never : IsQuiet (host_after setup host_a write_due) (commands_of host_a write_due) → ⊥
unfolding full request
repeats-never q = let e : true ≡ false = q.nothing_due 0 (nth_sent host_a write_due 0) (omega arith) in cc

-- a frame that is dropped though it can be handed over
pub dropped : (got : Option Got) → Enters setup write_sent (Hand 1 (Shelf 1)) got (Lost 1 ∷ write_sent) → ⊥
unfolding full request
dropped got (none, inl x) = let e = x.2 in cc
dropped got (none, inr x) = let e = x.2.1 in cc

-- what a store without a cache holds, read from one with a cache after a crash, and the other way round
differ : (vs ws : List ℕ) → vs ≡ ws → slice_index vs 0 ≡ 0x5a → slice_index ws 0 ≡ 0 → ⊥
differ vs ws e p q = let same = ap (λ v. slice_index v 0) e in omega arith

pub written-through : MayCome (setup_with (Some 8) (host_a ∷ [])) crashed_write (Arrived device 3 (Replied NoEffect 4 (show (read_frame 2) (full 0x5a)))) → ⊥
unfolding full request verdict decision spelled zero_sector
written-through x = differ (full 0x5a) zero_sector ((came (read_frame 2) refl x).0.2 0 (omega arith)) refl refl

pub held-back : MayCome setup crashed_write (Arrived device 3 (Replied NoEffect 4 (show (read_frame 2) zero_sector))) → ⊥
unfolding full request verdict decision spelled zero_sector
held-back x = differ (full 0x5a) zero_sector (sym ((came (read_frame 2) refl x).0.2 0 (omega arith))) refl refl
