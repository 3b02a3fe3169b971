-- What a host asks of its devices, and which slot takes its frames.
use Rattle.std.proofs.Common.{ℕ, ◌<◌, ◌≤◌, ◌≡◌, inl, inr, nat_eq, true, ◌&&◌, List, [], ◌∷◌, drop, Some, None, sym, ap, ◌∙◌, arith, Contains}
use Rattle.std.proofs.lemmas.Bool.{and_parts, cases_Bool}
use Rattle.std.proofs.lemmas.Bool.Decides.{nat_tests}
use Rattle.std.proofs.lemmas.Option.{same_Some}
use Rattle.aoe_base.specs.declared.address.Mac.{Mac}
use Rattle.aoe_base.specs.declared.address.TargetId.{TargetId}
use Rattle.aoe_frame.specs.declared.header.Header.{Header}
use Rattle.aoe_frame.specs.Header.{Fits}
use Rattle.aoe_ata.specs.Decision.{written}
use Rattle.aoe_ata.specs.declared.decision.AtaDecision.{AtaDecision}
use Rattle.aoe_initiator.specs.declared.device.Attached.{Attached}
use Rattle.aoe_initiator.specs.declared.op.FlushCommand.{FlushCommand}
use Rattle.aoe_initiator.specs.declared.op.Op.{Op}
use Rattle.aoe_initiator.specs.declared.op.Op.TheVariants.{Write}
use Rattle.aoe_initiator.specs.HostLaw.{op_refusal, same_id}
use Rattle.aoe_initiator.specs.Op.{span_of, CanSubmit}
use Rattle.aoe_initiator.specs.Request.{request, request_header, CanSpell}
use Rattle.aoe_lists.specs.Settings.{Settings}
use Rattle.aoe_net.specs.Network.{SentFrame}
use Rattle.aoe_target.specs.declared.station.Station.{Station}
use Rattle.aoe_target.specs.declared.verdict.Verdict.TheVariants.{Ata}
use Rattle.aoe_target.specs.Verdict.{is_heard, verdict}
use Rattle.aoe_history.specs.declared.entry.Entry.{Entry}
use Rattle.aoe_history.specs.declared.entry.Entry.TheVariants.{Submitted}
use Rattle.aoe_history.specs.Commands.{commands_of, submission, tickets, Submission}
use Rattle.aoe_history.specs.CommandView.{IsAskable, IsRequest, IsSentFor, IsUnderstood}
use Rattle.aoe_history.specs.Conversation.{HasSectors}
use Rattle.aoe_history.specs.Frames.{clock}
use Rattle.aoe_history.specs.HostLaw.{IsSubmitted}
use Rattle.aoe_history.specs.Lawful.{HasHost, IsLawful}
use Rattle.aoe_history.specs.Setup.{device_no, is_called, HostSetup, IsAttachedTo, IsSetup, Setup, SlotSetup}
use Rattle.aoe_history.proofs.hosts.CommandLemmas.{IsNamed}
use Rattle.aoe_history.proofs.hosts.EntryLemmas.{named}
use Rattle.aoe_history.proofs.replies.RequestLemmas.{comes-of, request-asks, request-head, request-writes}
use Rattle.aoe_history.proofs.hosts.SentLemmas.{about-at, found, host-there, request-fits}
use Rattle.aoe_history.proofs.LogicLemmas.{some-and, some-mapped}
use Rattle.aoe_initiator.proofs.ListLemmas.{get-there, placed, placed-inside, Contains-get}
use Rattle.aoe_initiator.proofs.NameLemmas.{same-id}

-- DEVICES

askable-op : (about : Attached) (op : Op) → about.max ≤ 17 → about.total ≤ 281474976710656
    → CanSubmit op → op_refusal about op ≡ None → CanSpell op × HasSectors op
askable-op about op m t can e = grind (arith, nat_tests)

-- SUBMISSIONS

module _ (s : Setup) (host : HostSetup) (mine : IsNamed s host) (ok : IsSetup s) (there : Contains s.hosts host) where
  askable : (h : List Entry) (c : ℕ) (dev : TargetId) (op : Op) → IsSubmitted s host h c dev op → IsAskable host (record { dev = dev; op = op })
  askable h c dev op x =
      let a = get-there host.devices x.device (placed-inside _ host.devices x.device x.attached) in
      let d = some-mapped _ _ a.0 (about-at host.ports s.life.requests.0 (clock h) 0 (commands_of host h) host.devices x.device ∙ a.1) in
      let free : op_refusal a.0 op ≡ None = (let taken = rw (d.1, d.2) at x.taken in grind arith) in
      let at : IsAttachedTo s a.0 = ok.attached host a.0 there (Contains-get host.devices x.device a.0 a.1) in
      let slot = found _ s.slots at.slot at.there in
      let both = askable-op a.0 op (rw at.max (ok.max at.slot slot.0)) (rw at.total (ok.size at.slot slot.0)) x.can free in
      record {
        can = both.0;
        sectors = both.1;
        about = a.0;
        place = rw x.attached a.1;
        id = same-id a.0.id dev (placed _ host.devices x.device a.0 x.attached a.1);
      }

  pub asked : (h : List Entry) → IsLawful s h → (c : ℕ) (x : Submission) → submission host h c ≡ Some x → IsAskable host x
  asked [] l c x e = absurd (cc)
  asked (Submitted name t dev op ∷ h) l c x e = elim (cases_Bool (is_called host name && nat_eq t c)) [
    | inl own ↦ (
        let new = some-and _ _ host (mine name (and_parts _ _ own).0) l.0 in
        let is = same_Some _ x (rw own at e) in
        rw (← is) (askable h t dev op new))
    | inr other ↦ asked h l.1 c x (rw other at e)
  ]
  asked (_ ∷ h) l c x e = asked h l.1 c x e

  submitted-there : (h : List Entry) → IsLawful s h → (c : ℕ) → 0 < c → c ≤ tickets host h → (x : Submission) × (submission host h c ≡ Some x)
  submitted-there [] l c above le = absurd (omega arith)
  submitted-there (Submitted name t dev op ∷ h) l c above le = elim (cases_Bool (is_called host name && nat_eq t c)) [
    | inl own ↦ (record { dev = dev; op = op }, rw own)
    | inr other ↦ (
        let next = λ (own : is_called host name ≡ true). (some-and _ _ host (mine name own) l.0).next in
        rw other (submitted-there h l.1 c above (grind (arith, nat_tests))))
  ]
  submitted-there (_ ∷ h) l c above le = submitted-there h l.1 c above le

pub asked-of : (s : Setup) (host : HostSetup) (h : List Entry) → HasHost s host h
    → (c : ℕ) (x : Submission) → submission host h c ≡ Some x → IsAskable host x
asked-of s host h x = asked s host (named s x.name host x.called) x.setup (host-there s x.name host x.called).0 h x.lawful

pub there-of : (s : Setup) (host : HostSetup) (h : List Entry) → HasHost s host h → (c : ℕ) → 0 < c
    → c ≤ tickets host h → (x : Submission) × (submission host h c ≡ Some x)
there-of s host h x = submitted-there s host (named s x.name host x.called) x.setup (host-there s x.name host x.called).0 h x.lawful

-- FRAMES AT A SLOT

-- a target that hears a request with a number of its own has that number
heard-at : (station : Station) (h : Header) → is_heard station h ≡ true → h.id.major < 65535 → h.id.minor < 255 → same_id station.id h.id ≡ true
heard-at station h e major minor = grind (arith, nat_tests)

-- what a write asks stands in its frame
data-is : (f : List ℕ) (flush : FlushCommand) (op : Op) (at : ℕ) (bytes : List ℕ) (id : TargetId) (remote local : Mac) (tag : ℕ) → op ≡ Write at bytes
    → CanSpell op → HasSectors op → Fits (request_header op id remote local tag)
    → f ≡ request flush op id remote local tag → written (drop 24 f) (span_of (Write at bytes)) ≡ bytes
data-is f flush op at bytes id remote local tag e can some fits is =
    rw (is, e) (request-writes flush at bytes id remote local tag (rw e at can).0 (rw e at some).1 (rw e at fits))

module _ (s : Setup) (host : HostSetup) (h : List Entry) (run : HasHost s host h) (slot : SlotSetup) (there : Contains s.slots slot) where
  pub understood : (frame : SentFrame) (lists : Settings) (d : AtaDecision) → (sent : IsSentFor host h frame)
      → verdict slot.station lists frame.bytes ≡ Ata d → (x : Submission)
      → submission host h sent.ticket ≡ Some x → IsUnderstood slot lists.read_only x frame.bytes d.answer
  understood frame lists d sent v x is =
      let mine = (host-there s run.name host run.called).0 in
      let k = asked-of s host h run sent.ticket x is in
      let r : IsRequest host (device_no host x.dev) x.op sent.sending.tag frame.bytes = rw is at sent.request in
      let same : r.about ≡ k.about = same_Some _ _ (sym r.there ∙ k.place) in
      let fits = request-fits s host (device_no host x.dev) x.op sent.sending.tag frame.bytes run.setup mine r in
      let w : verdict slot.station lists (request r.about.flush x.op r.about.id r.remote r.local sent.sending.tag) ≡ Ata d = rw r.is at v in
      let c = comes-of _ _ _ _ d (request-head _ _ _ _ _ _ fits) w in
      let at : IsAttachedTo s r.about = run.setup.attached host r.about mine (Contains-get _ _ r.about r.there) in
      let its = found _ s.slots at.slot at.there in
      let eq = same-id at.slot.station.id r.about.id its.1 in
      let header = request_header x.op r.about.id r.remote r.local sent.sending.tag in
      let heard = heard-at slot.station header c.heard (rw eq at (run.setup.majors at.slot its.0)) (rw eq at (run.setup.minors at.slot its.0)) in
      record {
        slot_is = rw (ap (λ (a : Attached). a.id) same ∙ k.id) at heard;
        answer_is = request-asks r.about.flush x.op r.about.id r.remote r.local sent.sending.tag slot.station lists d k.can k.sectors fits w;
        bytes_are = λ at bytes e. data-is frame.bytes r.about.flush x.op at bytes _ _ _ _ e k.can k.sectors fits r.is;
      }
