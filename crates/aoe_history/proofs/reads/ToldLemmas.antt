-- A new reply says what is so.
use Rattle.std.proofs.Common.{ℕ, ◌+◌, ◌-◌, ◌<◌, ◌≡◌, ◌==◌, nat_le, nat_lt, true, false, ◌&&◌, List, ◌∷◌, ◌++◌, drop, length, slice_range, Option, Some, is_some, IfSome, IsSomeAnd, refl, subst, ap, ◌∙◌, arith, append_assoc, Contains}
use Rattle.std.proofs.lemmas.Bool.Decides.{nat_tests}
use Rattle.std.proofs.lemmas.List.{take_at}
use Rattle.aoe_base.specs.declared.address.TargetId.{TargetId}
use Rattle.aoe_base.specs.declared.counted.DeviceNo.{DeviceNo}
use Rattle.aoe_base.specs.Addresses.{holds}
use Rattle.aoe_base.specs.declared.counted.Lifetimes.{Lifetimes}
use Rattle.aoe_base.specs.declared.sectors.Span.{Span}
use Rattle.aoe_frame.specs.declared.header.Header.{Header}
use Rattle.aoe_frame.specs.Header.{fields, header_bytes, padded}
use Rattle.aoe_frame.proofs.HeaderLemmas.{head-long}
use Rattle.aoe_initiator.specs.declared.op.Op.{Op}
use Rattle.aoe_initiator.specs.declared.op.Op.TheVariants.{Read, Write, Flush}
use Rattle.aoe_initiator.specs.declared.response.Answer.{Answer}
use Rattle.aoe_initiator.specs.declared.response.Answer.TheVariants.{Data, Written, Flushed}
use Rattle.aoe_initiator.specs.Op.{command_of}
use Rattle.aoe_initiator.specs.Response.{answer}
use Rattle.aoe_initiator.proofs.NameLemmas.{same-id}
use Rattle.aoe_target.specs.declared.heard.Effect.{Effect}
use Rattle.aoe_target.specs.declared.heard.Effect.TheVariants as effect
use Rattle.aoe_target.specs.declared.station.Station.{Station}
use Rattle.aoe_target.specs.declared.verdict.Verdict.{Verdict}
use Rattle.aoe_target.specs.Device.{State}
use Rattle.aoe_target.specs.Law.{after, replied, Allows}
use Rattle.aoe_target.specs.Reply.{reply_port, spelled}
use Rattle.aoe_target.specs.Sectors.{in_span, value_in, Tells}
use Rattle.aoe_history.specs.declared.entry.Entry.{Entry}
use Rattle.aoe_history.specs.declared.entry.Entry.TheVariants.{Arrived}
use Rattle.aoe_history.specs.declared.entry.Fate.TheVariants.{Replied}
use Rattle.aoe_history.specs.CommandView.{sends_of, IsAskable, IsRequest}
use Rattle.aoe_history.specs.Conversation.{CanReply, TellsTruly}
use Rattle.aoe_history.specs.Frames.{bytes_of, clock}
use Rattle.aoe_history.specs.Lawful.{HasHost, IsArrival}
use Rattle.aoe_history.specs.Reading.{allowed, alone, IsAllowed}
use Rattle.aoe_history.specs.Setup.{is_slot, slot_of, HostSetup, Setup, SlotSetup}
use Rattle.aoe_history.specs.Slots.{marked_in, state_after, verdict_after}
use Rattle.aoe_history.proofs.FrameLemmas.{arrives, request-life}
use Rattle.aoe_history.proofs.hosts.AskedLemmas.{asked-of}
use Rattle.aoe_history.proofs.hosts.HostLemmas.{holds-of}
use Rattle.aoe_history.proofs.hosts.SentLemmas.{found, host-there, request-fits, request-header, request-kind}
use Rattle.aoe_history.proofs.hosts.SourceLemmas.{has-head, port-holds, replies, some-such, source-length, IsReply}
use Rattle.aoe_history.proofs.reads.PassLemmas.{allowed-unless, was-alone}
use Rattle.aoe_history.proofs.reads.TrueLemmas.{IsReplyTo, IsTrue, SaysOf}
use Rattle.aoe_history.proofs.replies.ConversationLemmas.{response-tells}
use Rattle.aoe_history.proofs.replies.ReplyLemmas.{reply-read, replying}
use Rattle.aoe_history.proofs.sectors.ArriveLemmas.{named-slot, same-sector, sectors-there, slot-arrived}
use Rattle.aoe_history.proofs.sectors.AtLemmas.{At}
use Rattle.aoe_history.proofs.sectors.SectorLemmas.{none-allowed}

-- the destination of a frame with this header
destination-is : (h : Header) (args : List ℕ) → length h.dst.0 ≡ 6 → (fields (padded (header_bytes h ++ args))).dst ≡ h.dst
destination-is h args d = simp (append_assoc, take_at)

-- a reply goes to where its request came from
reply-destination : (station : Station) (f r : List ℕ) → (x : IsReply station f r) → length (fields f).src.0 ≡ 6 → (fields r).dst ≡ (fields f).src
unfolding spelled
reply-destination station f r x len = rw x.is (destination-is (replying station (fields f) x.error) x.args len)

-- a sync leaves no mark
synced-clean : (station : Station) (k : State) (f r : List ℕ) (e : Effect) (v : Verdict) (s : ℕ) → e ≡ effect.Synced → Allows station k f v (replied e r)
    → marked_in (after station f v (replied e r) k).sectors s ≡ false
synced-clean station k f r e v s q a = grind arith

inside-at : (at count s : ℕ) → (nat_le at s && nat_lt s (at + count)) ≡ true → (at + (s - at) ≡ s) × (s - at < count)
inside-at at count s e = (grind (arith, nat_tests), grind (arith, nat_tests))

-- what is shown of a sector is allowed
shown-allowed : (life : Lifetimes) (host : HostSetup) (slot : SlotSetup) (h : List Entry) (s : ℕ) (span : Span) (bytes : List ℕ) → At life host slot h s
    → in_span span s ≡ true
    → alone host slot h s ≡ true → IfSome (state_after slot h).sectors (Tells span bytes) → IsAllowed (Some (value_in span bytes s)) (allowed host slot h s)
shown-allowed life host slot h s span bytes x inside al tells =
    let y = sectors-there slot h in
    let p = inside-at span.at span.count s inside in
    go (y.0.known s) (rw p.0 at ((rw y.1 at tells) (s - span.at) p.1)) (rw y.1 at (x.value al))
  where
    go : (o : Option (List ℕ)) → IfSome o (λ v. value_in span bytes s ≡ v) → IsAllowed o (allowed host slot h s)
        → IsAllowed (Some (value_in span bytes s)) (allowed host slot h s)
    go o q a = grind (arith, none-allowed)

module _ {s : Setup} {host : HostSetup} {h : List Entry} (run : HasHost s host h) (slot : SlotSetup) (there : Contains s.slots slot) (sct : ℕ)
    (x : At s.life host slot h sct)
    (dev : TargetId) (k : ℕ) (e : Effect) (number : ℕ) (r : List ℕ) where
  abbrev n : List Entry
  n = Arrived dev k (Replied e number r) ∷ h

  -- what it says, by what it tells
  by-op : (c : ℕ) (f : List ℕ) (op : Op) (a : Answer) → is_slot slot dev ≡ true → bytes_of h k ≡ f
      → Allows slot.station (state_after slot h) f (verdict_after slot h f) (replied e r)
      → is_some (sends_of host h c) ≡ true → ((command_of op == 0) ≡ true → TellsTruly op (state_after slot h) e r a) → SaysOf host slot n sct c op a r
  by-op c f (Write at bytes) Written is same law sent tells = λ inside. rw (is, tells refl, inside, sent) refl
  by-op c f Flush Flushed is same law sent tells = λ al.
      (same-sector sct (slot-arrived slot h dev k (Replied e number r) f is same)).1
      ∙ synced-clean slot.station (state_after slot h) f r e (verdict_after slot h f) sct (tells refl) law
  by-op c f (Read span) (Data len) is same law sent tells = λ inside al.
      let before = (was-alone host slot h dev k (Replied e number r) sct al).0 in
      allowed-unless _ _ _ (shown-allowed s.life host slot h sct span (slice_range (drop 24 r) 12 (12 + len)) x inside before (tells refl).1)
  by-op c f _ _ is same law sent tells = tt

  can-reply : (z : SlotSetup) → Contains s.slots z → (m : Header) → CanReply z.station m
  can-reply z has m = record {
    port = run.setup.shelf_addresses z (reply_port z.station m) has (port-holds z.station m (run.setup.some_port z has));
    major = (let small = run.setup.majors z has in omega arith);
  }

  tells : (device : DeviceNo) (op : Op) (tag : ℕ) (f : List ℕ) → IsRequest host device op tag f → (dev : TargetId)
      → IsAskable host (record { dev = dev; op = op })
      → Allows slot.station (state_after slot h) f (verdict_after slot h f) (replied e r) → (a : Answer) → answer op (fields r) (drop 24 r) ≡ Some a
      → (command_of op == 0) ≡ true
      → TellsTruly op (state_after slot h) e r a
  tells device op tag f req dev ask law a ans ata =
      let fits = request-fits s host device op tag f run.setup (host-there s run.name host run.called).0 req in
      response-tells req.about.flush op req.about.id req.remote req.local tag slot.station (state_after slot h) e r a ata ask.can ask.sectors fits
      (can-reply slot there _) (rw req.is at law) ans

  pub new-reply : IsSomeAnd (slot_of s dev) (λ z. IsArrival s z h k (Replied e number r)) → IsReplyTo host slot r
      → IsTrue s.life host slot n sct (record { bytes = r; birth = clock h })
  new-reply law to =
      let o = some-such (λ z. IsArrival s z h k (Replied e number r)) (slot_of s dev) law in
      let other = o.0 in
      let its = found (λ z. is_slot z dev) s.slots other o.1 in
      let f = o.2.bytes in
      let reply = replies other.station (state_after other h) f r e (verdict_after other h f) o.2.law in
      let long = head-long f (has-head other.station (state_after other h) f r e o.2.law) in
      let frame = arrives s.life h k f o.2.fresh in
      let from = subst (λ z. holds host.ports z ≡ true) (reply-destination other.station f r reply (source-length f long)) to.dst in
      let sent = (holds-of s host h run).frames k _ frame.is from in
      let mine = (host-there s run.name host run.called).0 in
      let hd = request-header s host _ _ sent.sending.tag f run.setup mine sent.request in
      let kind = request-kind s host _ _ sent.sending.tag f run.setup mine sent.request in
      let fits = rw (← hd) at (request-fits s host _ _ sent.sending.tag f run.setup mine sent.request) in
      let head_is : fields r ≡ replying other.station (fields f) reply.error =
      (reply-read reply.error fits (can-reply other its.0 (fields f)) reply.is).head_is in
      let id : slot.station.id ≡ other.station.id = same-id slot.station.id (fields r).id to.id ∙ ap (λ (z : Header). z.id) head_is in
      let is : is_slot slot dev ≡ true = rw (← id) at its.1 in
      let same : other ≡ slot = cc (o.1, named-slot s slot dev run.setup there is) in
      let here : Allows slot.station (state_after slot h) f (verdict_after slot h f) (replied e r) = rw same at o.2.law in
      record {
        ticket = sent.ticket;
        sending = sent.sending;
        sent = sent.sent;
        tag = ap (λ (z : Header). z.tag) head_is ∙ ap (λ (z : Header). z.tag) hd;
        time = (let a = rw (request-life s.life f kind) at frame.young in let t = sent.time in omega arith);
        says = λ done op asks a ans. by-op sent.ticket f op a is frame.bytes here (ap is_some sent.sent)
            (tells _ op sent.sending.tag f (rw asks.is at sent.request) asks.dev (asked-of s host h run sent.ticket _ asks.is) here a ans);
      }
