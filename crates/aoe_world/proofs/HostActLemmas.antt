-- An act of one host.
use Rattle.std.proofs.Common.{ℕ, ◌≡◌, Bool, true, false, List, ◌∷◌, length, Option, Some, None, refl, sym, ap, subst, ◌∙◌, arith}
use Rattle.std.specs.Prelude.{slice_get, slice_set}
use Rattle.std.proofs.lemmas.List.{length-set}
use Rattle.std.proofs.lemmas.Slice.Eq.{bytes_eq-Decides}
use Rattle.arrayvec.specs.ArrayVec.{ArrayVec}
use Rattle.aoe_base.specs.declared.address.TargetId.{TargetId}
use Rattle.aoe_base.proofs.CommonLemmas.{bytes-apart}
use Rattle.aoe_history.specs.declared.entry.Entry.{Entry}
use Rattle.aoe_history.specs.declared.entry.Entry.TheVariants.{Refused, Submitted}
use Rattle.aoe_history.specs.Frames.{arriving}
use Rattle.aoe_history.specs.Groups.{submit_entry, submitted_as, Enters, Got, Takes}
use Rattle.aoe_history.specs.Groups.Act.{Hand, Submit}
use Rattle.aoe_history.specs.Groups.Station.{Host as HostStation}
use Rattle.aoe_history.specs.Lawful.{IsLawful}
use Rattle.aoe_history.specs.Setup.{is_called, HostSetup, Setup, SlotSetup}
use Rattle.aoe_sim_hosts.proofs.Apart.{awaits-other, awaits-settled}
use Rattle.aoe_sim_hosts.proofs.Called.{is-called}
use Rattle.aoe_sim_hosts.specs.Host.{is_apart as is_apart_of_host, Awaits, IsSettled, SimHost}
use Rattle.aoe_initiator.specs.declared.op.Op.{Op}
use Rattle.aoe_initiator.specs.declared.refusal.SubmitRefusal.{SubmitRefusal}
use Rattle.aoe_sim_shelves.specs.Shelf.{is_apart as is_apart_of_slots}
use Rattle.aoe_world.proofs.AddsLemmas.{adds-entry, takes-adds, Adds}
use Rattle.aoe_world.proofs.ListLemmas.{set-each}
use Rattle.aoe_world.proofs.TurnLemmas.{settled-adds, shelves-after}
use Rattle.aoe_world.specs.declared.sim.Sim.{Sim}
use Rattle.aoe_world.specs.Sim.{IsNetwork, IsReady, IsTurning}

-- a host has one name
pub one-name : (host : HostSetup) (a b : ArrayVec ℕ) → is_called host a ≡ true → is_called host b ≡ true → a ≡ b
one-name host a b ca cb =
    ap {B = ArrayVec ℕ} (λ l. record { items = l }) (sym ((bytes_eq-Decides host.name a.items).0 ca) ∙ (bytes_eq-Decides host.name b.items).0 cb)

-- the response is the host's, if there is one
abbrev pub IsMine : HostSetup → Option Got → Type 0
IsMine host None = Unit {0}
IsMine host (Some got) = got.host ≡ host

-- a response that a host took is its own
takes-mine : (s : Setup) (host : HostSetup) (name : ArrayVec ℕ) (number : ℕ) (f : List ℕ) (h m : List Entry) (got : Option Got)
    → Takes s host name number f h got m → IsMine host got
takes-mine s host name number f h m None t = tt
takes-mine s host name number f h m (Some got) t = t.0

submit-adds : {p : Entry → Bool} {h m : List Entry} (s : Setup) (host : HostSetup) (name : ArrayVec ℕ) (dev : TargetId) (op : Op) (o : Option SubmitRefusal)
    → ((ticket : ℕ) → p (Submitted name ticket dev op) ≡ true) → ((refusal : SubmitRefusal) → p (Refused name refusal) ≡ true)
    → m ≡ submit_entry s host h name dev op o ∷ h → Adds p h m
submit-adds s host name dev op None a b is = adds-entry (a _) is
submit-adds s host name dev op (Some refusal) a b is = adds-entry (b refusal) is

-- a host of this name, before and after it did something, and nothing else moved
pub record HostMoves (s : Setup) (majors : List ℕ) (host : HostSetup) (name : ArrayVec ℕ) (i : ℕ) (x y : SimHost) (old new : Sim) : Type 0 where
  pub net : IsNetwork s majors
  pub ready : IsReady s majors old
  pub listed : slice_get s.hosts i ≡ Some host
  pub called : is_called host name ≡ true
  pub there : slice_get old.hosts.items i ≡ Some x
  pub life : new.run.life ≡ old.run.life
  pub hosts : new.hosts.items ≡ slice_set old.hosts.items i y
  pub shelves : new.shelves ≡ old.shelves

module _ {s : Setup} {majors : List ℕ} {host : HostSetup} {name : ArrayVec ℕ} {i : ℕ} {x y : SimHost} {old new : Sim}
    (m : HostMoves s majors host name i x y old new) where
  -- what another host waits for is no response of this one
  others-wait : (got : Option Got) (other : HostSetup) (h : List Entry) (z : SimHost) → is_called other name ≡ false → IsMine host got → IsSettled s other h z
      → Awaits s other got h z
  others-wait None other h z apart mine settled = awaits-settled s other h z settled
  others-wait (Some got) other h z apart mine settled =
      awaits-other s other got h z (rw (mine, (bytes_eq-Decides host.name name.items).0 m.called) (bytes-apart other.name name.items apart)) settled

  -- it did something, and the others wait for their turns
  turning-one : {got : Option Got} → IsMine host got → IsLawful s new.run.entries → Awaits s host got new.run.entries y
      → ((other : HostSetup) → is_called other name ≡ false → Adds (is_apart_of_host other) old.run.entries new.run.entries)
      → ((slots : List SlotSetup) → Adds (is_apart_of_slots slots) old.run.entries new.run.entries) → IsTurning s majors got 0 new
  turning-one {got} mine lawful done of-hosts of-slots = record {
    life = m.life ∙ m.ready.life;
    lawful = lawful;
    hosts_are = record {
      count = ap length m.hosts ∙ length-set old.hosts.items i y ∙ m.ready.hosts_are.count;
      settled = λ j other z ej ez below. absurd (omega (arith, below));
      waiting = λ j other z ej ez above. waits j other z ej (rw m.hosts at ez);
    };
    shelves_are = rw m.shelves (shelves-after of-slots m.ready.shelves_are);
  }
    where
      waits : (j : ℕ) (other : HostSetup) (z : SimHost) → slice_get s.hosts j ≡ Some other → slice_get (slice_set old.hosts.items i y) j ≡ Some z
          → Awaits s other got new.run.entries z
      waits = set-each s.hosts old.hosts.items i host y (λ j other z. Awaits s other got new.run.entries z) m.listed done
          (λ j other z apart ej ez.
          let away = m.net.names i j host other name m.listed ej (λ e. apart (sym e)) m.called in
          others-wait got other new.run.entries z away mine (settled-adds (of-hosts other away) (m.ready.hosts_are.each j other z ej ez)))

  own : x.name ≡ name
  own = one-name host x.name name (is-called s x.name host (m.ready.hosts_are.each i host x m.listed m.there).is.called) m.called

  -- it took a frame
  pub has-taken : (number : ℕ) (f : List ℕ) → arriving s.life old.run.entries number ≡ Some f
      → ((z : Setup) (o : HostSetup) → IsSettled z o old.run.entries x → IsLawful z old.run.entries → arriving z.life old.run.entries number ≡ Some f
      → (got : Option Got) × Takes z o x.name number f old.run.entries got new.run.entries × IsLawful z new.run.entries × Awaits z o got new.run.entries y)
      → (got : Option Got) × Enters s old.run.entries (Hand number (HostStation name)) got new.run.entries × IsTurning s majors got 0 new
  has-taken number f fresh took =
      let t = took s host (m.ready.hosts_are.each i host x m.listed m.there) m.ready.lawful fresh in
      let takes = subst (λ n. Takes s host n number f old.run.entries t.0 new.run.entries) own t.1 in (
        t.0,
        rw fresh (host, m.net.called i host name m.listed m.called, takes),
        turning-one (takes-mine s host name number f old.run.entries new.run.entries t.0 takes) t.2 t.3
            (λ other away. takes-adds s host name number f t.0 (λ stale. rw away) takes) (λ slots. takes-adds s host name number f t.0 (λ stale. refl) takes),
      )

  -- it submitted a command
  pub has-submitted : (dev : TargetId) (op : Op)
      → ((z : Setup) (o : HostSetup) → IsSettled z o old.run.entries x → IsLawful z old.run.entries
      → (new.run.entries ≡ submitted_as z o old.run.entries x.name dev op ∷ old.run.entries) × IsLawful z new.run.entries × Awaits z o None new.run.entries y)
      → (got : Option Got) × Enters s old.run.entries (Submit name dev op) got new.run.entries × IsTurning s majors got 0 new
  has-submitted dev op took =
      let t = took s host (m.ready.hosts_are.each i host x m.listed m.there) m.ready.lawful in
      let is : new.run.entries ≡ submitted_as s host old.run.entries name dev op ∷ old.run.entries = rw own at t.0 in (
        None,
        (refl, (host, m.net.called i host name m.listed m.called, is)),
        turning-one tt t.1 t.2 (λ other away. submit-adds s host name dev op _ (λ ticket. rw away) (λ refusal. refl) is)
            (λ slots. submit-adds s host name dev op _ (λ ticket. refl) (λ refusal. refl) is),
      )
