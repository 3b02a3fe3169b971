-- A response that ends a command says what is so.
use Rattle.std.proofs.Common.{ℕ, ◌+◌, ◌-◌, ◌≤◌, ◌≡◌, nat_lt, Bool, true, false, not, ◌&&◌, List, drop, Some, refl, sym, subst, ap, ◌∙◌, arith, Contains}
use Rattle.std.specs.Prelude.{slice_get}
use Rattle.std.proofs.lemmas.Bool.Decides.{nat_tests}
use Rattle.arrayvec.specs.ArrayVec.{ArrayVec}
use Rattle.aoe_base.specs.declared.address.Mac.{Mac}
use Rattle.aoe_base.specs.Addresses.{holds}
use Rattle.aoe_frame.specs.declared.header.Header.{Header}
use Rattle.aoe_frame.specs.Header.{fields, head, is_response}
use Rattle.aoe_frame.proofs.HeaderLemmas.{kind-read, head-fields}
use Rattle.aoe_initiator.specs.declared.device.Attached.{Attached}
use Rattle.aoe_initiator.specs.declared.device.Device.{Device}
use Rattle.aoe_initiator.specs.declared.op.Op.{Op}
use Rattle.aoe_initiator.specs.declared.outcome.Outcome.{Outcome}
use Rattle.aoe_initiator.specs.declared.response.Answer.{Answer}
use Rattle.aoe_initiator.specs.Host.{Host}
use Rattle.aoe_initiator.specs.HostLaw.{answer_to}
use Rattle.aoe_initiator.specs.HostLog.{HostCommand, Sending}
use Rattle.aoe_initiator.specs.Response.{answer, has_flag, outcome_of}
use Rattle.aoe_initiator.proofs.ListLemmas.{Contains-get}
use Rattle.aoe_initiator.proofs.NameLemmas.{same-id}
use Rattle.aoe_history.specs.declared.entry.Entry.{Entry}
use Rattle.aoe_history.specs.Commands.{commands_of, host_after, submission}
use Rattle.aoe_history.specs.CommandView.{is_live, was_done, AsksAt}
use Rattle.aoe_history.specs.Frames.{clock, frames}
use Rattle.aoe_history.specs.HostLaw.{IsAnswered}
use Rattle.aoe_history.specs.Lawful.{HasHost}
use Rattle.aoe_history.specs.Setup.{HostSetup, Setup, SlotSetup}
use Rattle.aoe_history.proofs.FrameLemmas.{arrives, response-life}
use Rattle.aoe_history.proofs.LogicLemmas.{some-then}
use Rattle.aoe_history.proofs.hosts.AskedLemmas.{asked-of}
use Rattle.aoe_history.proofs.hosts.CommandLemmas.{viewed}
use Rattle.aoe_history.proofs.hosts.HostLemmas.{holds-of, known-of}
use Rattle.aoe_history.proofs.hosts.SentLemmas.{device-at, host-there}
use Rattle.aoe_history.proofs.reads.TrueLemmas.{AreTrue, IsReplyTo, SaysOf}
use Rattle.aoe_history.proofs.sectors.ArriveLemmas.{named-slot}

-- what a response to a command is
record IsAnswerTo (host : Host) (c : HostCommand) (h : Header) (args : List ℕ) (a : Answer) : Type 0 where
  dst : holds host.ports h.dst ≡ true
  flying : c.done ≡ false
  sending : Sending
  sent : c.sends ≡ Some sending
  tag : sending.tag ≡ h.tag
  device : Device
  there : slice_get host.devices c.device.0 ≡ Some device
  src : holds device.about.remotes.items h.src ≡ true
  id : h.id ≡ device.about.id
  says : answer c.op h args ≡ Some a

answers : (host : Host) (c : HostCommand) (f : List ℕ) (a : Answer) → answer_to host c f ≡ Some a → IsAnswerTo host c (fields f) (drop 24 f) a
answers host c f a e =
    let x = some-then _ (head f) a e in
    let y : IsAnswerTo host c x.0 (drop 24 f) a = grind (arith, nat_tests, same-id) in
    rw (head-fields f x.0 x.1) y

-- the command that has an outcome by a response, and what that says
pub record Truth (host : HostSetup) (slot : SlotSetup) (h : List Entry) (s c : ℕ) (op : Op) (outcome : Outcome) : Type 0 where
  pub bytes : List ℕ
  pub a : Answer
  pub gives : outcome ≡ outcome_of a (drop 24 bytes)
  pub answers_it : answer op (fields bytes) (drop 24 bytes) ≡ Some a
  pub says : SaysOf host slot h s c op a bytes

answer-is-response : (host : Host) (c : HostCommand) (f : List ℕ) (a : Answer) → answer_to host c f ≡ Some a → is_response f ≡ true
answer-is-response host c f a e =
    let x = some-then _ (head f) a e in
    let flag : has_flag x.0.flags 0x8 ≡ true = grind (arith, nat_tests) in
    kind-read f x.0 x.1 ∙ flag

-- a response came within its lifetime after a request, and that within its own after the last send
still-live : (requests responses now birth last : ℕ) (done : Bool) → now ≤ birth + responses → birth ≤ last + requests
    → not (done && nat_lt (requests + responses) (now - last)) ≡ true
still-live requests responses now birth last done le lt = grind (arith, nat_tests)

pub response-true : {s : Setup} {host : HostSetup} {h : List Entry} → HasHost s host h → (slot : SlotSetup) → Contains s.slots slot
    → {sct c : ℕ} {op : Op} {outcome : Outcome}
    → AreTrue s.life host slot h sct (frames h) → AsksAt slot (submission host h c) op → IsAnswered s host h c outcome → Truth host slot h sct c op outcome
response-true {s} {host} {h} run slot there {sct} {c} {op} true_ones asks ans =
    let r = ans.response in
    let v = viewed host h r.command (known-of s host h run) r.there in
    let number : v.ticket ≡ c = ap (λ (z : HostCommand). z.ticket.0) v.is ∙ r.ticket_is in
    let p = rw (← (rw number at v.is)) at (answers (host_after s host h) r.command ans.bytes r.answer r.says) in
    let k = asked-of s host h run c (record { dev = asks.dev; op = op }) asks.is in
    let place = rw asks.is at (device-at host.ports s.life.requests.0 (clock h) 0 (commands_of host h) host.devices _ p.device p.there) in
    let same : p.device.about ≡ k.about = cc (place, k.place) in
    let at = run.setup.attached host k.about (host-there s run.name host run.called).0 (Contains-get host.devices _ k.about k.place) in
    let its : at.slot ≡ slot = cc (at.there, named-slot s slot k.about.id run.setup there (rw (← k.id) at asks.slot_is)) in
    let ports = ap (λ (z : Attached). z.remotes) same ∙ at.remotes ∙ ap (λ (z : SlotSetup). z.station.ports) its in
    let to : IsReplyTo host slot ans.bytes = record {
      dst = p.dst;
      src = subst (λ (z : ArrayVec Mac). holds z.items (fields ans.bytes).src ≡ true) ports p.src;
      id = rw (← (p.id ∙ ap (λ (z : Attached). z.id) same ∙ k.id)) at asks.slot_is;
    } in
    let frame = arrives s.life h ans.number ans.bytes ans.fresh in
    let kind = answer-is-response (host_after s host h) r.command ans.bytes r.answer r.says in
    let young = rw (response-life s.life ans.bytes kind) at frame.young in
    let t = true_ones.each ans.number _ frame.is to in
    let its_live : is_live s.life host h t.ticket t.sending ≡ true =
    still-live s.life.requests.0 s.life.responses.0 (clock h) frame.birth t.sending.last.0 (was_done host h t.ticket) young t.time in
    let live : is_live s.life host h c p.sending ≡ true = rw p.flying refl in
    let ticket = (holds-of s host h run).base.tags t.ticket c t.sending p.sending t.sent p.sent its_live live (sym t.tag ∙ sym p.tag) in
    let answered = rw asks.is at p.says in
    record {
      bytes = ans.bytes;
      a = r.answer;
      gives = r.gives;
      answers_it = answered;
      says = (rw ticket at t.says) p.flying op asks r.answer answered;
    }
