-- A host sends a frame: the request of the command that is next, which bears its tag and goes on its path.
use Rattle.std.proofs.Common.{ℕ, ◌≡◌, ◌<◌, List, ◌∷◌, ◌++◌, length, Some, refl, sym, ap, subst, ◌∙◌, append_assoc, Contains}
use Rattle.std.specs.Prelude.{slice_get}
use Rattle.std.proofs.lemmas.List.Elements.{All-contains}
use Rattle.std.proofs.lemmas.Nat.{from_be_bytes-to_be_bytes_4}
use Rattle.arrayvec.specs.ArrayVec.{ArrayVec}
use Rattle.aoe_base.specs.declared.address.Mac.{Mac}
use Rattle.aoe_base.specs.declared.address.TargetId.{TargetId}
use Rattle.aoe_base.specs.declared.counted.DeviceNo.{DeviceNo}
use Rattle.aoe_base.specs.declared.counted.PathNo.{PathNo}
use Rattle.aoe_base.specs.Addresses.{IsDistinct}
use Rattle.aoe_frame.specs.declared.header.Header.{Header}
use Rattle.aoe_frame.specs.Header.{fields, header_bytes}
use Rattle.aoe_base.proofs.MacLemmas.{six-is}
use Rattle.aoe_base.specs.declared.counted.Lifetimes.{Lifetimes}
use Rattle.aoe_initiator.specs.declared.device.Attached.{Attached}
use Rattle.aoe_initiator.specs.declared.op.FlushCommand.{FlushCommand}
use Rattle.aoe_initiator.specs.declared.op.Op.{Op}
use Rattle.aoe_initiator.specs.declared.step.Sent as step
use Rattle.aoe_initiator.specs.Host.{Host, Matches}
use Rattle.aoe_initiator.specs.HostLaw.{IsFrameOf, IsNext, IsOnNextPath, IsQuiet}
use Rattle.aoe_initiator.specs.HostLog.{commands, Event, HostCommand}
use Rattle.aoe_initiator.specs.HostLog.Event.{Sends}
use Rattle.aoe_initiator.specs.Request.{arguments, request, request_header}
use Rattle.aoe_initiator.proofs.ListLemmas.{Contains-get}
use Rattle.aoe_net.specs.declared.refusal.NetLimit.{NetLimit}
use Rattle.aoe_net.specs.Network.{IsFullBy}
use Rattle.aoe_paths.specs.PathTable.{new_paths, pair_at}
use Rattle.aoe_paths.proofs.PairLemmas.{pair-split}
use Rattle.aoe_history.specs.declared.entry.Entry.{Entry}
use Rattle.aoe_history.specs.declared.entry.Entry.TheVariants.{Sent}
use Rattle.aoe_history.specs.Commands.{commands_of, host_after, log_of, path_of, submission}
use Rattle.aoe_history.specs.Frames.{network, next_number}
use Rattle.aoe_history.specs.Groups.{SendsSome}
use Rattle.aoe_history.specs.Groups.SendsSome.{sends_one}
use Rattle.aoe_history.specs.HostLaw.{IsSent}
use Rattle.aoe_history.specs.Lawful.{IsLawful, MayCome}
use Rattle.aoe_history.specs.Setup.{HostSetup, Setup}
use Rattle.aoe_sim_hosts.specs.Host.{AreAddresses, IsHost, IsSettled, SimHost}
use Rattle.aoe_sim_hosts.specs.Turns.{HasSent}
use Rattle.aoe_sim_hosts.proofs.HostAlike.{about, alike, frame-alike, next-alike, path-alike, quiet-alike}
use Rattle.aoe_sim_hosts.proofs.PathNo.{path-given}
use Rattle.aoe_sim_hosts.proofs.Called.{is-called}
use Rattle.aoe_sim_hosts.proofs.Commands.{about-kept, submitted-of}
use Rattle.aoe_sim_hosts.proofs.Same.{settled-same, Stays}
use Rattle.aoe_history.specs.Run.{MeetsFull}
use Rattle.aoe_history.proofs.FullLemmas.{full-by}
use Rattle.aoe_history.proofs.LogicLemmas.{some-mapped, some-then}

-- HEADERS

-- a frame bears a header's addresses and its tag
pub record Bears (f : List ℕ) (h : Header) : Type 0 where
  pub dst : (fields f).dst.0 ≡ h.dst.0
  pub src : (fields f).src.0 ≡ h.src.0
  pub tag : (fields f).tag ≡ h.tag

bears-header : (h : Header) (rest : List ℕ) → length h.dst.0 ≡ 6 → length h.src.0 ≡ 6 → h.tag < 4294967296 → Bears (header_bytes h ++ rest) h
bears-header h rest d s small = record {
  dst = rw (six-is h.dst.0 d);
  src = rw (six-is h.dst.0 d, six-is h.src.0 s);
  tag = rw (six-is h.dst.0 d, six-is h.src.0 s) (from_be_bytes-to_be_bytes_4 h.tag small);
}

request-bears : (flush : FlushCommand) (op : Op) (id : TargetId) (remote local : Mac) (tag : ℕ) → length remote.0 ≡ 6 → length local.0 ≡ 6 → tag < 4294967296
    → Bears (request flush op id remote local tag) (request_header op id remote local tag)
unfolding request
request-bears flush op id remote local tag d s small =
    let h = request_header op id remote local tag in
    rw (append_assoc (header_bytes h) (arguments flush op)) (bears-header h _ d s small)

-- THE FRAME THAT IS SENT

-- a frame is the request to a device of a host, between the ports that a path joins
pub record IsRequest (host : HostSetup) (op : Op) (device : DeviceNo) (path : PathNo) (tag : ℕ) (f : List ℕ) : Type 0 where
  pub about : Attached
  pub there : slice_get host.devices device.0 ≡ Some about
  pub local : Mac
  pub remote : Mac
  pub joined : pair_at host.ports about.remotes.items path.0 ≡ Some (local, remote)
  pub is : request about.flush op about.id remote local tag ≡ f

module _ (s : Setup) (host : HostSetup) (h : List Entry) (x : SimHost) (settled : IsSettled s host h x) (lawful : IsLawful s h)
    (sent : step.Sent) (f : List ℕ) (frame : IsFrameOf x.core (commands_of host h) sent f) (small : sent.tag < 4294967296) where
  abbrev is : IsHost s host x
  is = settled.is

  abbrev c : HostCommand
  c = frame.command

  of : IsRequest host c.op c.device sent.path sent.tag f
  of =
      let d = some-then _ (slice_get x.core.devices c.device.0) f frame.bytes in
      let spelt = some-mapped _ (pair_at x.core.ports d.0.about.remotes.items sent.path.0) f d.2 in
      record {
        about = d.0.about;
        there = sym (about-kept s host x c.device.0 is) ∙ ap about d.1;
        local = spelt.0.0;
        remote = spelt.0.1;
        joined = ap (λ (ports : List Mac). pair_at ports d.0.about.remotes.items sent.path.0) (sym is.ports) ∙ spelt.1;
        is = spelt.2;
      }

  there : Contains host.devices of.about
  there = Contains-get host.devices c.device.0 of.about of.there

  bears : Bears f (request_header c.op of.about.id of.remote of.local sent.tag)
  bears =
      let ends = pair-split (new_paths host.ports of.about.remotes.items) sent.path.0 of.local of.remote of.joined in
      let own = All-contains (λ (a : Mac). length a.0 ≡ 6) host.ports of.local is.addresses (Contains-get host.ports _ of.local ends.0) in
      let remotes = All-contains (λ (d : Attached). AreAddresses d.remotes.items) host.devices of.about is.remote_addresses there in
      let other = All-contains (λ (a : Mac). length a.0 ≡ 6) of.about.remotes.items of.remote remotes (Contains-get _ _ of.remote ends.1) in
      subst (λ (g : List ℕ). Bears g (request_header c.op of.about.id of.remote of.local sent.tag)) of.is
      (request-bears of.about.flush c.op of.about.id of.remote of.local sent.tag other own small)

  -- the history reads the path of a frame from its addresses
  path-back : path_of host (submission host h sent.ticket.0) f ≡ sent.path
  path-back =
      let asked = submitted-of s host x.name is.called h lawful c frame.there in
      let far = All-contains (λ (d : Attached). IsDistinct d.remotes.items) host.devices of.about is.remotes there in
      rw (← frame.ticket, asked.there, ← ap (λ (n : DeviceNo). n.0) asked.device, of.there, bears.src, bears.dst)
      (path-given host of.about sent.path.0 of.local of.remote is.distinct far of.joined)

  -- the history says of the frame what the host did
  pub log-sent : log_of host (Sent x.name sent.ticket.0 (next_number h) f ∷ h) ≡ Sends sent.ticket sent.tag sent.path ∷ log_of host h
  log-sent = rw (is-called s x.name host is.called, bears.tag, path-back)

-- a frame that the core of a host gave
pub record Pulled (old : Host) (sent : step.Sent) (f : List ℕ) (new : Host) : Type 0 where
  pub next : (log : List Event) → Matches log old → IsNext old (commands log) sent
  pub frame : (log : List Event) → Matches log old → IsFrameOf old (commands log) sent f
  pub path : (log : List Event) → Matches log old → IsOnNextPath old log sent
  pub sends : (log : List Event) → Matches log old → Matches (Sends sent.ticket sent.tag sent.path ∷ log) new
  pub same : Stays old new
  pub small : sent.tag < 4294967296

module _ {s : Setup} {host : HostSetup} {name : ArrayVec ℕ} {h m : List Entry} {x : SimHost} {sent : step.Sent} {f : List ℕ} {new : Host}
    (is_name : x.name ≡ name) (pulled : Pulled x.core sent f new) (before : HasSent s name h m × IsSettled s host m x) where
  abbrev entry : Entry
  entry = Sent x.name sent.ticket.0 (next_number m) f

  sends : SendsSome name h (entry ∷ m)
  sends = rw is_name (sends_one sent.ticket.0 (next_number m) f before.0.sends)

  may-come : MayCome s m entry
  may-come =
      let same = alike s host m x before.1.is before.1.time in
      let log = log_of host m in
      let matches = before.1.matches in
      let is_sent : IsSent s host m sent.ticket.0 (next_number m) f = record {
        sent = sent;
        ticket_is = refl;
        may = next-alike same (commands log) sent (pulled.next log matches);
        path = path-alike same log sent (pulled.path log matches);
        frame = frame-alike same (commands log) sent f (pulled.frame log matches);
        tag_fits = pulled.small;
        number_is = refl;
      } in
      rw before.1.is.called is_sent

  -- the host sent one frame more
  pub sent-more : (n : List Entry) → n ≡ entry ∷ m → HasSent s name h n × IsSettled s host n (record { name = x.name; core = new })
  sent-more n is =
      let log = log-sent s host m x before.1 before.0.lawful sent f (pulled.frame (log_of host m) before.1.matches) pulled.small in
      rw is (
        record { sends = sends; lawful = (may-come, before.0.lawful) },
        settled-same s host m (entry ∷ m) x _ refl pulled.same refl refl (rw log (pulled.sends (log_of host m) before.1.matches)) before.1,
      )

  -- there is no room for one frame more
  pub sends-full : {limit : NetLimit} (life : Lifetimes) → IsFullBy limit (network life m) f → MeetsFull s (SendsSome name h) limit m
  sends-full {limit} life full =
      record { entry = entry; called_for = sends; may_come = may-come; bytes = f; brings = refl; full = full-by limit life s.life m f full }

-- nothing more may be sent
pub settled-quiet : (s : Setup) (host : HostSetup) (h : List Entry) (x : SimHost) (new : Host) → IsSettled s host h x
    → ((log : List Event) → Matches log x.core → IsQuiet x.core (commands log))
    → ((log : List Event) → Matches log x.core → Matches log new) → Stays x.core new
    → IsSettled s host h (record { name = x.name; core = new }) × IsQuiet (host_after s host h) (commands_of host h)
settled-quiet s host h x new settled quiet stays same = (
  settled-same s host h h x _ refl same refl refl (stays (log_of host h) settled.matches) settled,
  quiet-alike (alike s host h x settled.is settled.time) (commands_of host h) (quiet (log_of host h) settled.matches),
)
