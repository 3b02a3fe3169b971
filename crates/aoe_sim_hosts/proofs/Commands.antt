-- What the host law says of a host by its history, and what a host keeps of it.
use Rattle.std.proofs.Common.{ℕ, zero, suc, ◌+◌, ◌≤◌, ◌<◌, ◌≡◌, inl, inr, nat_eq, true, false, List, [], ◌∷◌, length, map, Some, refl, sym, ap, ◌∙◌, arith, add-zero, zero-add, Contains}
use Rattle.std.specs.Prelude.{slice_get}
use Rattle.std.specs.Option.{option_map_or}
use Rattle.std.proofs.lemmas.Bool.{cases_Bool, cond_both, eq-eqb, ne_eqb, not-false}
use Rattle.std.proofs.lemmas.List.Elements.{Contains-push_cases}
use Rattle.std.proofs.lemmas.Option.{slice_get-map}
use Rattle.arrayvec.specs.ArrayVec.{ArrayVec}
use Rattle.aoe_base.specs.declared.address.Mac.{Mac}
use Rattle.aoe_base.specs.declared.address.TargetId.{TargetId}
use Rattle.aoe_base.specs.declared.counted.Ticket.{Ticket}
use Rattle.aoe_frame.specs.declared.header.Header.{Header}
use Rattle.aoe_hold.specs.Commands.{unsent_count}
use Rattle.aoe_history.specs.declared.entry.Entry.{Entry}
use Rattle.aoe_history.specs.declared.entry.Entry.TheVariants.{Submitted, Sent, Took, Done, Ticked}
use Rattle.aoe_history.specs.Commands.{commands_of, devices_of, host_after, submission, tickets, Submission}
use Rattle.aoe_history.specs.Frames.{clock}
use Rattle.aoe_history.specs.Lawful.{IsLawful}
use Rattle.aoe_history.specs.Setup.{device_no, host_called, is_called, HostSetup, Setup}
use Rattle.aoe_sim_hosts.specs.Host.{is_apart, IsHost, SimHost}
use Rattle.aoe_sim_hosts.proofs.Called.{named}
use Rattle.aoe_sim_hosts.proofs.HostAlike.{about, abouts-of, both-about}
use Rattle.aoe_sim_hosts.proofs.Leaves.{leaves}
use Rattle.aoe_initiator.specs.declared.device.Attached.{Attached}
use Rattle.aoe_initiator.specs.declared.device.Device.{Device}
use Rattle.aoe_initiator.specs.declared.op.Op.{Op}
use Rattle.aoe_initiator.specs.Host.{Host}
use Rattle.aoe_initiator.specs.HostLaw.{answer_to, is_answered, is_from}
use Rattle.aoe_initiator.specs.HostLog.{at_ticket, commands, entered_at, HostCommand}
use Rattle.aoe_history.proofs.LogicLemmas.{if-true}
use Rattle.aoe_initiator.proofs.ListLemmas.{Contains-map_from}

-- ---- the devices of a host

devices-unsent : (ports : List Mac) (life now : ℕ) (cs : List HostCommand) (n : ℕ) (ds : List Attached) (k : ℕ) → k < length ds
    → option_map_or (λ (d : Device). unsent_count d.holds.commands) (slice_get (devices_of ports life now cs n ds) k) 0 ≡ unsent_count (entered_at (n + k) cs)
devices-unsent ports life now cs n [] k inside = absurd (omega (arith, inside))
devices-unsent ports life now cs n (d ∷ ds) zero inside = rw add-zero
devices-unsent ports life now cs n (d ∷ ds) (suc k) inside =
    let place : n + suc k ≡ (n + 1) + k = omega arith in
    rw place (devices-unsent ports life now cs (n + 1) ds k (omega (arith, inside)))

-- what the setup says of a device, by the history and by what the host keeps
pub about-after : (s : Setup) (host : HostSetup) (h : List Entry) (n : ℕ) → about (slice_get (host_after s host h).devices n) ≡ slice_get host.devices n
about-after s host h n =
    rw (
      ← slice_get-map (λ (d : Device). d.about) (host_after s host h).devices n,
      abouts-of host.ports s.life.requests.0 (clock h) 0
          (commands_of host h) host.devices,
    )

pub about-kept : (s : Setup) (host : HostSetup) (x : SimHost) (n : ℕ) → IsHost s host x → about (slice_get x.core.devices n) ≡ slice_get host.devices n
about-kept s host x n is = rw (← slice_get-map (λ (d : Device). d.about) x.core.devices n, is.devices)

-- how many commands wait there for their first send, by the history
pub unsent-after : (s : Setup) (host : HostSetup) (h : List Entry) (n : ℕ) → n < length host.devices
    → option_map_or (λ (d : Device). unsent_count d.holds.commands) (slice_get (host_after s host h).devices n) 0
    ≡ unsent_count (entered_at n (commands_of host h))
unsent-after s host h n inside = rw zero-add at (devices-unsent host.ports s.life.requests.0 (clock h) (commands_of host h) 0 host.devices n inside)

-- ---- what a frame answers

answered-same : (a b : Host) (c : HostCommand) (h : Header) → a.ports ≡ b.ports
    → about (slice_get a.devices c.device.0) ≡ about (slice_get b.devices c.device.0) → is_answered a c h ≡ is_answered b c h
answered-same a b c h ports devices =
    let from : is_from (slice_get a.devices c.device.0) c.op h ≡ is_from (slice_get b.devices c.device.0) c.op h
    = both-about (λ o p. is_from o c.op h ≡ is_from p c.op h) _ _ devices refl (λ d e same. rw same) in
    rw (ports, from)

-- two hosts with the same ports and devices are answered the same
pub answer-same : (a b : Host) (c : HostCommand) (f : List ℕ) → a.ports ≡ b.ports
    → about (slice_get a.devices c.device.0) ≡ about (slice_get b.devices c.device.0) → answer_to a c f ≡ answer_to b c f
answer-same a b c f ports devices =
    let same : (h : Header) → is_answered a c h ≡ is_answered b c h = λ h. answered-same a b c h ports devices in
    simp same

-- what a frame answers by what the host keeps, and by the history
pub answer-after : (s : Setup) (host : HostSetup) (h : List Entry) (x : SimHost) (c : HostCommand) (f : List ℕ) → IsHost s host x
    → answer_to x.core c f ≡ answer_to (host_after s host h) c f
answer-after s host h x c f is =
    answer-same x.core (host_after s host h) c f is.ports (about-kept s host x c.device.0 is ∙ sym (about-after s host h c.device.0))

-- and by two histories
pub answer-later : (s : Setup) (host : HostSetup) (h n : List Entry) (c : HostCommand) (f : List ℕ)
    → answer_to (host_after s host h) c f ≡ answer_to (host_after s host n) c f
answer-later s host h n c f =
    answer-same (host_after s host h) (host_after s host n) c f refl (about-after s host h c.device.0 ∙ sym (about-after s host n c.device.0))

-- ---- what a command asks

-- a command of a host is what was submitted with its ticket
pub record IsSubmission (host : HostSetup) (h : List Entry) (c : HostCommand) : Type 0 where
  pub bound : c.ticket.0 ≤ tickets host h
  pub asked : Submission
  pub there : submission host h c.ticket.0 ≡ Some asked
  pub device : c.device ≡ device_no host asked.dev
  pub op : c.op ≡ asked.op

abbrev AreSubmissions : HostSetup → List Entry → Type 0
AreSubmissions host h = (c : HostCommand) → Contains (commands_of host h) c → IsSubmission host h c

-- a change of a command leaves what it asks
abbrev Asks : HostCommand → HostCommand → Type 0
Asks y c = (y.ticket ≡ c.ticket) × (y.device ≡ c.device) × (y.op ≡ c.op)

keeps-submission : (host : HostSetup) (h n : List Entry) (c y : HostCommand) → Asks y c → tickets host h ≤ tickets host n
    → submission host n c.ticket.0 ≡ submission host h c.ticket.0 → IsSubmission host h c → IsSubmission host n y
keeps-submission host h n c y (ticket, device, op) more same x = record {
  bound = rw ticket (omega (arith, x.bound));
  asked = x.asked;
  there = rw (ticket, same) x.there;
  device = device ∙ x.device;
  op = op ∙ x.op;
}

asks-at : (t : Ticket) (change : HostCommand → HostCommand) → ((c : HostCommand) → Asks (change c) c) → (c : HostCommand) → Asks (at_ticket t change c) c
asks-at t change each c = cond_both (nat_eq c.ticket.0 t.0) (change c) c (λ y. Asks y c) (λ _. each c) (λ _. (refl, refl, refl))

module _ (host : HostSetup) (h n : List Entry) (count : tickets host n ≡ tickets host h)
    (same : (c : ℕ) → submission host n c ≡ submission host h c) (before : AreSubmissions host h) where
  changed : (change : HostCommand → HostCommand) → commands_of host n ≡ map change (commands_of host h) → ((c : HostCommand) → Asks (change c) c)
      → AreSubmissions host n
  changed change is each y there =
      let of = Contains-map_from change (commands_of host h) y (rw is at there) in
      keeps-submission host h n of.0 y (rw of.2 at (each of.0)) (omega arith) (same of.0.ticket.0) (before of.0 of.1)

  same-commands : commands_of host n ≡ commands_of host h → AreSubmissions host n
  same-commands is c there = keeps-submission host h n c c (refl, refl, refl) (omega arith) (same c.ticket.0) (before c (rw is at there))

submitted-now : (host : HostSetup) (h : List Entry) (name : ArrayVec ℕ) (t : ℕ) (dev : TargetId) (op : Op) → is_called host name ≡ true
    → t ≡ suc (tickets host h) → AreSubmissions host h → AreSubmissions host (Submitted name t dev op ∷ h)
submitted-now host h name t dev op own next before c there = elim (Contains-push_cases (commands_of host h) _ c (rw own at there)) [
  | inl old ↦
      let x = before c old in
      let away : nat_eq t c.ticket.0 ≡ false = ne_eqb _ _ (λ e. absurd (omega (arith, x.bound))) in
      keeps-submission host h (Submitted name t dev op ∷ h) c c (refl, refl, refl) (rw own (omega arith)) (rw (own, away)) x
  | inr same ↦ rw (← same) (record {
    bound = rw own (omega arith);
    asked = record { dev = dev; op = op };
    there = rw (own, eq-eqb t t refl);
    device = refl;
    op = refl;
  })
]

module _ (s : Setup) (host : HostSetup) (name : ArrayVec ℕ) (called : host_called s name ≡ Some host) where
  own : (h : List Entry) (e : Entry) → is_apart host e ≡ false → IsLawful s (e ∷ h) → AreSubmissions host h → AreSubmissions host (e ∷ h)
  own h (Submitted other t dev op) near l before =
      let mine = not-false _ near in
      submitted-now host h other t dev op mine (rw (named s name host called other mine) at l.0).next before
  own h (Sent other t number bytes) near l before =
      changed host h (Sent other t number bytes ∷ h) refl (λ c. refl) before _
      (ap commands (if-true _ _ _ (not-false _ near))) (asks-at _ _ (λ c. (refl, refl, refl)))
  own h (Took other number stale) near l before = same-commands host h (Took other number stale ∷ h) refl (λ c. refl) before refl
  own h (Done other t outcome) near l before =
      changed host h (Done other t outcome ∷ h) refl (λ c. refl) before _
      (ap commands (if-true _ _ _ (not-false _ near))) (asks-at _ _ (λ c. (refl, refl, refl)))
  own h (Ticked ms) near l before = same-commands host h (Ticked ms ∷ h) refl (λ c. refl) before refl
  own h _ near l before = absurd (cc)

  pub submitted-of : (h : List Entry) → IsLawful s h → (c : HostCommand) → Contains (commands_of host h) c → IsSubmission host h c
  submitted-of [] l c there = absurd (omega (arith, there.1))
  submitted-of (e ∷ h) l c there = elim (cases_Bool (is_apart host e)) [
    | inl away ↦
        let x = leaves host h e away in
        same-commands host h (e ∷ h) x.count x.submissions (λ d at. submitted-of h l.1 d at) (ap commands x.log) c there
    | inr near ↦ own h e near l (λ d at. submitted-of h l.1 d at) c there
  ]
