-- How each kind of entry keeps what holds of a host's commands and frames.
use Rattle.std.proofs.Common.{ℕ, suc, ◌≡◌, ◌⊎◌, inl, inr, nat_eq, true, false, ◌&&◌, List, ◌∷◌, Some, is_some, sym, ◌∙◌, arith}
use Rattle.std.proofs.lemmas.Bool.{cases_Bool}
use Rattle.std.proofs.lemmas.Slice.Eq.{bytes_eq-Decides}
use Rattle.std.proofs.lemmas.Bool.Decides.{nat_tests}
use Rattle.arrayvec.specs.ArrayVec.{ArrayVec}
use Rattle.aoe_base.specs.declared.address.TargetId.{TargetId}
use Rattle.aoe_base.specs.declared.counted.Lifetimes.{Lifetimes}
use Rattle.aoe_frame.specs.Header.{fields}
use Rattle.aoe_initiator.specs.declared.op.Op.{Op}
use Rattle.aoe_initiator.specs.declared.outcome.Outcome.{Outcome}
use Rattle.aoe_initiator.specs.declared.response.Answer.{Answer}
use Rattle.aoe_initiator.specs.Host.{Host}
use Rattle.aoe_initiator.specs.HostLaw.{answer_to}
use Rattle.aoe_initiator.specs.HostLog.{HostCommand}
use Rattle.aoe_net.specs.Network.{numbered, SentFrame}
use Rattle.aoe_history.specs.declared.entry.Entry.{Entry}
use Rattle.aoe_history.specs.declared.entry.Entry.TheVariants.{Submitted, Sent, Done}
use Rattle.aoe_history.specs.Commands.{host_after, tickets}
use Rattle.aoe_history.specs.CommandView.{sends_of, was_done, IsSentFor}
use Rattle.aoe_history.specs.Frames.{clock}
use Rattle.aoe_history.specs.HostLaw.{IsDone}
use Rattle.aoe_history.specs.Reading as reading
use Rattle.aoe_history.specs.Setup.{host_called, is_called, HostSetup, Setup}
use Rattle.aoe_history.proofs.hosts.BaseLemmas.{Base, Keeps}
use Rattle.aoe_history.proofs.hosts.ReadyLemmas.{MayBeSent}
use Rattle.aoe_history.proofs.hosts.BaseLemmas as base
use Rattle.aoe_history.proofs.hosts.CommandLemmas.{sent-at, view-at, IsNamed, Known}
use Rattle.aoe_history.proofs.hosts.SentLemmas.{host-there}

-- a host is the one that its name names
pub named : (s : Setup) (name : ArrayVec ℕ) (host : HostSetup) → host_called s name ≡ Some host → IsNamed s host
named s name host e other mine =
    let a : host.name ≡ other.items = (bytes_eq-Decides host.name other.items).0 mine in
    let b : host.name ≡ name.items = (bytes_eq-Decides host.name name.items).0 (host-there s name host e).1 in
    rw (sym a ∙ b) e

-- SUBMISSIONS, SENDS AND OUTCOMES

module _ (host : HostSetup) (h : List Entry) (name : ArrayVec ℕ) (c : ℕ) where
  pub submitted-keeps : (dev : TargetId) (op : Op) → (is_called host name ≡ true → c ≡ suc (tickets host h))
      → Keeps host h (Submitted name c dev op ∷ h)
  submitted-keeps dev op new = grind (arith, nat_tests)

  pub sent-keeps : (number : ℕ) (f : List ℕ) → is_called host name ≡ false → Keeps host h (Sent name c number f ∷ h)
  sent-keeps number f other = grind (arith, nat_tests)

  pub done-keeps : (outcome : Outcome) → (is_called host name ≡ true → is_some (sends_of host h c) ≡ true) → Keeps host h (Done name c outcome ∷ h)
  done-keeps outcome sent = grind (arith, nat_tests)

-- THE COMMAND THAT IS DONE

-- a command that is answered was sent, and isn't done
answered-flies : (host : Host) (c : HostCommand) (f : List ℕ) (a : Answer) → answer_to host c f ≡ Some a → (is_some c.sends ≡ true) × (c.done ≡ false)
answered-flies host c f a e = grind (arith, nat_tests)

pub done-flies : (s : Setup) (host : HostSetup) (h : List Entry) (c : ℕ) (outcome : Outcome) → Known host h
    → IsDone s host h c outcome → (is_some (sends_of host h c) ≡ true) × (was_done host h c ≡ false)
done-flies s host h c outcome k (inl x) =
    let v = view-at k x.response.there x.response.ticket_is in
    let flies = answered-flies (host_after s host h) x.response.command x.bytes x.response.answer x.response.says in
    grind arith
done-flies s host h c outcome k (inr x) =
    let v = sent-at k x.late.there x.ticket_is in
    grind (arith, x.late.passes)

-- FRAMES

-- of these frames those of the host's
abbrev pub AreSentFor : HostSetup → List Entry → List SentFrame → Type 0
AreSentFor host h fs = (k : ℕ) (f : SentFrame) → numbered fs k ≡ Some f → reading.is_from host f.bytes ≡ true → IsSentFor host h f

pub numbered-cases : (g : SentFrame) (fs : List SentFrame) (k : ℕ) (f : SentFrame) → numbered (g ∷ fs) k ≡ Some f → (g ≡ f) ⊎ (numbered fs k ≡ Some f)
numbered-cases g fs k f e = grind arith

pub keeps-frames : {life : Lifetimes} {host : HostSetup} {h n : List Entry} (fs : List SentFrame) → Keeps host h n
    → Base life host h → AreSentFor host h fs → AreSentFor host n fs
keeps-frames fs k b all number f e from = let x = all number f e from in record {
  ticket = x.ticket;
  sending = x.sending;
  sent = k.sends x.ticket ∙ x.sent;
  request = rw (k.submissions x.ticket (b.bounds x.ticket x.sending x.sent).1) x.request;
  time = x.time;
}

-- one more frame, which isn't the host's
pub foreign-frame : (host : HostSetup) (h : List Entry) (g : SentFrame) (fs : List SentFrame)
    → (reading.is_from host g.bytes ≡ true → ⊥) → AreSentFor host h fs → AreSentFor host h (g ∷ fs)
foreign-frame host h g fs foreign all number f e from = grind (arith, numbered-cases g fs number f e, all number f)

module _ (life : Lifetimes) (host : HostSetup) (h : List Entry) (name : ArrayVec ℕ) (c number : ℕ) (f : List ℕ)
    (mine : is_called host name ≡ true) (r : MayBeSent life host h c f) (reads : (fields f).tag ≡ r.tag) where
  still-sent : Base life host h → (g : SentFrame) → IsSentFor host h g → IsSentFor host (Sent name c number f ∷ h) g
  still-sent b g x = elim (cases_Bool (is_called host name && nat_eq c x.ticket)) [
    | inl own ↦ record {
      ticket = x.ticket;
      sending = base.more host h c f x.ticket;
      sent = rw own;
      request = rw x.sent x.request;
      time = grind (arith, x.time, b.last x.ticket x.sending x.sent, base.sent-last host h c f x.ticket);
    }
    | inr other ↦ record { ticket = x.ticket; sending = x.sending; sent = rw other x.sent; request = x.request; time = x.time }
  ]

  new-sent : IsSentFor host (Sent name c number f ∷ h) (record { bytes = f; birth = clock h })
  new-sent = record {
    ticket = c;
    sending = base.more host h c f c;
    sent = base.now-sent life host h name c number f mine r reads;
    request = rw (base.tag-is life host h name c number f mine r reads) r.request;
    time = rw (base.sent-last host h c f c) (omega arith);
  }

  pub sent-frames : Base life host h → (fs : List SentFrame) → AreSentFor host h fs
      → AreSentFor host (Sent name c number f ∷ h) (record { bytes = f; birth = clock h } ∷ fs)
  sent-frames b fs all k g e from = elim (numbered-cases (record { bytes = f; birth = clock h }) fs k g e) [
    | inl z ↦ rw (← z) new-sent
    | inr q ↦ still-sent b g (all k g q from)
  ]
