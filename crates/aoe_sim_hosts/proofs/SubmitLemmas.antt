-- What a host submits, by what it keeps and by the history.
use Rattle.std.proofs.Common.{ℕ, suc, ◌+◌, ◌<◌, ◌≡◌, true, List, ◌∷◌, length, map, Option, Some, None, refl, sym, ap, ◌∙◌, arith, add-one}
use Rattle.std.specs.Prelude.{◌≢◌, position, IfErr, IfNone, IfOk, IfSome, OnErr, Result, Ok, Err}
use Rattle.std.specs.Option.{option_and_then}
use Rattle.std.proofs.lemmas.List.{length-map}
use Rattle.arrayvec.specs.ArrayVec.{ArrayVec}
use Rattle.aoe_base.specs.declared.address.TargetId.{TargetId}
use Rattle.aoe_base.specs.declared.counted.DeviceNo.{DeviceNo}
use Rattle.aoe_base.specs.declared.counted.Ticket.{Ticket}
use Rattle.aoe_base.specs.declared.failure.NoMemory.{NoMemory}
use Rattle.aoe_hold.specs.Commands.{unsent_count}
use Rattle.aoe_history.specs.declared.entry.Entry.{Entry}
use Rattle.aoe_history.specs.declared.entry.Entry.TheVariants.{Refused, Submitted}
use Rattle.aoe_history.specs.Commands.{host_after, log_of, tickets}
use Rattle.aoe_history.specs.Groups.{submit_entry, submitted_as}
use Rattle.aoe_history.specs.Lawful.{IsLawful}
use Rattle.aoe_history.specs.Setup.{device_place, is_called, HostSetup, Setup}
use Rattle.aoe_sim_hosts.specs.Host.{Awaits, IsSettled, SimHost}
use Rattle.aoe_sim_hosts.proofs.Apart.{awaits-settled, settled-apart}
use Rattle.aoe_sim_hosts.proofs.Called.{is-called}
use Rattle.aoe_sim_hosts.proofs.Commands.{about-after, about-kept, unsent-after}
use Rattle.aoe_sim_hosts.proofs.HostAlike.{both-about}
use Rattle.aoe_sim_hosts.proofs.IdLemmas.{place-about}
use Rattle.aoe_sim_hosts.proofs.Same.{host-same}
use Rattle.aoe_initiator.specs.declared.device.Device.{Device}
use Rattle.aoe_initiator.specs.declared.op.Op.{Op}
use Rattle.aoe_initiator.specs.declared.refusal.SubmitRefusal.{SubmitRefusal}
use Rattle.aoe_initiator.specs.declared.refusal.SubmitRefusal.TheVariants.{NoMemory as NoRoom}
use Rattle.aoe_initiator.specs.Host.{Host, IsSame, Matches}
use Rattle.aoe_initiator.specs.HostLaw.{held_at, op_refusal, same_id, submit_refusal}
use Rattle.aoe_initiator.specs.HostLog.{commands, entered_at, Event}
use Rattle.aoe_initiator.specs.HostLog.Event.{Submits}
use Rattle.aoe_initiator.specs.Op.{CanSubmit}

-- as many commands are held at a device as were submitted to it and never sent
abbrev pub IsHeldLaw : Type 0
IsHeldLaw = (log : List Event) (host : Host) (n : ℕ) → Matches log host → n < length host.devices → held_at host n ≡ unsent_count (entered_at n (commands log))

-- the core took a command, and nothing else of it changed
abbrev pub HasTaken : Host → Host → Ticket → Type 0
HasTaken x z t = IsSame x z × (z.clock ≡ x.clock) × (z.last_ticket ≡ t.0) × (z.waiting ≡ x.waiting)

-- a host refuses what the history says
pub refusal-after : (s : Setup) (host : HostSetup) (h : List Entry) (x : SimHost) (n : ℕ) (op : Op) → IsHeldLaw → IsSettled s host h x
    → n < length x.core.devices → submit_refusal (host_after s host h) n op ≡ submit_refusal x.core n op
refusal-after s host h x n op law y inside =
    let long = simp length-map at (ap length y.is.devices) in
    let held = unsent-after s host h n (omega arith) ∙ sym (law (log_of host h) x.core n y.matches inside) in
    let refusal = λ (o : Option Device). option_and_then (λ (d : Device). op_refusal d.about op) o in
    let refused = both-about (λ o p. refusal o ≡ refusal p) _ _ (about-after s host h n ∙ sym (about-kept s host x n y.is)) refl (λ d e same. rw same) in
    rw (held, refused)

-- ---- what is taken down

-- an entry of what is submitted, behind which the host is settled
abbrev pub IsEntered : Setup → HostSetup → List Entry → SimHost → SimHost → TargetId → Op → Entry → Type 0
IsEntered s host h x z dev op entry = (entry ≡ submitted_as s host h x.name dev op) × IsLawful s (entry ∷ h) × IsSettled s host (entry ∷ h) z

abbrev pub IsEntry : SimHost → SimHost → TargetId → Op → Entry → Type 0
IsEntry x z dev op entry = (s : Setup) (host : HostSetup) (h : List Entry) → IsSettled s host h x → IsLawful s h → IsEntered s host h x z dev op entry

-- ---- what the core answers

abbrev pub Answer : Type 0
Answer = Result Ticket (SubmitRefusal × Op)

-- what the core answers an operation for a device
pub record Answers (x z : Host) (device : DeviceNo) (op : Op) (answer : Answer) : Type 0 where
  pub refused : IfSome (submit_refusal x device.0 op) (λ r. answer ≡ Err (r, op))
  pub no_memory : IfNone (submit_refusal x device.0 op) (IfErr answer (λ e. e ≡ (NoRoom, op)))
  pub ticket : IfOk answer (λ t. t.0 ≡ x.last_ticket + 1)
  pub matches : IfOk answer (λ t. (log : List Event) → Matches log x → Matches (Submits t device op ∷ log) z)
  pub same : IfOk answer (λ t. HasTaken x z t)
  pub unchanged : OnErr answer (z ≡ x)

same-host : (a b : SimHost) → a.name ≡ b.name → a.core ≡ b.core → a ≡ b
same-host a b name core =
    ap (λ (k : Host). let n : SimHost = record { name = a.name; core = k } in n) core
    ∙ ap (λ (l : ArrayVec ℕ). let n : SimHost = record { name = l; core = b.core } in n) name

not-refused : (o : Option SubmitRefusal) (t : Ticket) (op : Op) → IfSome o (λ r. let a : Answer = Ok t in a ≡ Err (r, op)) → o ≡ None
not-refused None t op e = refl
not-refused (Some r) t op e = absurd (cc)

refused-as : (o : Option SubmitRefusal) (r : SubmitRefusal) (p op : Op) → IfSome o (λ q. let a : Answer = Err (r, p) in a ≡ Err (q, op))
    → IfNone o (let e : SubmitRefusal × Op = (r, p) in e ≡ (NoRoom, op)) → r ≢ NoRoom → o ≡ Some r
refused-as None r p op some none other = absurd (other (ap (λ (e : SubmitRefusal × Op). e.0) none))
refused-as (Some q) r p op some none other =
    let pair : SubmitRefusal × Op = (r, p) in
    let said : SubmitRefusal × Op = (q, op) in
    let is : pair ≡ said = cc in
    ap (λ (e : SubmitRefusal × Op). Some e.0) (sym is)

-- ---- a command of a host

module _ (x : SimHost) (dev : TargetId) (device : DeviceNo) (op : Op) (law : IsHeldLaw) (can : CanSubmit op)
    (place : position (λ (d : Device). same_id d.about.id dev) x.core.devices ≡ Some device.0) (inside : device.0 < length x.core.devices) where
  module _ (s : Setup) (host : HostSetup) (h : List Entry) (y : IsSettled s host h x) (lawful : IsLawful s h) where
    at : device_place host dev ≡ Some device.0
    at = place-about x.core.devices host.devices dev y.is.devices ∙ place

    answer : (o : Option SubmitRefusal) → submit_refusal x.core device.0 op ≡ o → submit_refusal (host_after s host h) device.0 op ≡ o
    answer o e = refusal-after s host h x device.0 op law y inside ∙ e

    entry-is : (o : Option SubmitRefusal) → submit_refusal x.core device.0 op ≡ o → submit_entry s host h x.name dev op o ≡ submitted_as s host h x.name dev op
    entry-is o e = rw (at, answer o e)

    -- a command is taken
    taken : (z : SimHost) (ticket : Ticket) → submit_refusal x.core device.0 op ≡ None → z.name ≡ x.name → HasTaken x.core z.core ticket
        → ticket.0 ≡ x.core.last_ticket + 1 → ((log : List Event) → Matches log x.core → Matches (Submits ticket device op ∷ log) z.core)
        → IsEntered s host h x z dev op (Submitted x.name ticket.0 dev op)
    taken z ticket fine name same next matches = (
      rw is_next (entry-is None fine),
      (rw y.is.called (record { device = device.0; attached = at; can = can; taken = answer None fine; next = is_next }), lawful),
      record {
        is = host-same s host x z name same.0 y.is;
        last = rw mine (same.2 ∙ is_next);
        time = same.1 ∙ y.time;
        matches = rw (mine, at) (matches (log_of host h) y.matches);
        waiting = same.3 ∙ y.waiting;
      },
    )
      where
        mine : is_called host x.name ≡ true
        mine = is-called s x.name host y.is.called

        is_next : ticket.0 ≡ suc (tickets host h)
        is_next = next ∙ add-one x.core.last_ticket ∙ ap suc y.last

    -- a command is refused
    refused : (refusal : SubmitRefusal) → submit_refusal x.core device.0 op ≡ Some refusal → IsEntered s host h x x dev op (Refused x.name refusal)
    refused refusal no_room = (
      entry-is (Some refusal) no_room,
      (rw y.is.called (dev, op, record { device = device.0; attached = at; can = can; refused = answer (Some refusal) no_room }), lawful),
      settled-apart s host (Refused x.name refusal) h x refl y,
    )

  -- what is taken down of an operation, by what the core answers
  pub entered : (z : SimHost) (copy : Op) (n : ArrayVec ℕ) → copy ≡ op → n ≡ x.name → z.name ≡ x.name → (answer : Answer)
      → Answers x.core z.core device op answer → (result : Result Entry NoMemory) → IfOk result (λ entry. IfOk answer (λ t. entry ≡ Submitted n t.0 dev copy))
      → IfOk result (λ entry. IfErr answer (λ e. (entry ≡ Refused n e.0) × (e.0 ≢ NoRoom))) → IfOk result (IsEntry x z dev op)
  entered z copy n copied named name (Ok t) a (Ok entry) is other = λ s host h y lawful.
      rw (is, named, copied) (taken s host h y lawful z t (not-refused _ t op a.refused) name a.same a.ticket a.matches)
  entered z copy n copied named name (Err (r, p)) a (Ok entry) is other = λ s host h y lawful.
      rw (other.0, named, same-host z x name a.unchanged) (refused s host h y lawful r (refused-as _ r p op a.refused a.no_memory other.1))
  entered z copy n copied named name answer a (Err e) is other = tt

-- the devices stay, whatever the core answers
pub devices-stay : (x z : Host) (answer : Answer) → IfOk answer (λ t. HasTaken x z t) → OnErr answer (z ≡ x)
    → map (λ (d : Device). d.about) z.devices ≡ map (λ (d : Device). d.about) x.devices
devices-stay x z (Ok t) same unchanged = same.0.devices
devices-stay x z (Err e) same unchanged = rw unchanged

-- what an event line submits is taken down, and the host awaits its turn
pub submitted-with : (s : Setup) (host : HostSetup) (h m : List Entry) (x z : SimHost) (dev : TargetId) (op : Op) (entry : Entry) → m ≡ entry ∷ h
    → IsEntered s host h x z dev op entry → (m ≡ submitted_as s host h x.name dev op ∷ h) × IsLawful s m × Awaits s host None m z
submitted-with s host h m x z dev op entry is t = rw is (rw t.0, t.1, awaits-settled s host (entry ∷ h) z t.2)
