-- Where the frames in the network come from, by the address of their source.
use Rattle.std.proofs.Common.{is_some, slice_range, ℕ, ◌<◌, ◌≤◌, ◌≡◌, true, List, ◌++◌, length, Option, Some, None, IsSomeAnd, refl, ap, arith, Contains, append_assoc}
use Rattle.std.proofs.lemmas.Bool.{both_ways, or_parts}
use Rattle.std.proofs.lemmas.List.{drop_at, length-drop, length-take, take_at}
use Rattle.aoe_frame.specs.declared.header.Header.{Header}
use Rattle.aoe_base.specs.declared.refusal.AoeError.{AoeError}
use Rattle.aoe_base.specs.Addresses.{holds}
use Rattle.aoe_base.proofs.AddressLemmas.{holds-each}
use Rattle.aoe_frame.specs.Header.{fields, head, header_bytes, padded}
use Rattle.aoe_frame.proofs.HeaderLemmas.{head-long}
use Rattle.aoe_target.specs.declared.heard.Effect.{Effect}
use Rattle.aoe_target.specs.declared.station.Station.{Station}
use Rattle.aoe_target.specs.declared.verdict.Verdict.{Verdict}
use Rattle.aoe_target.specs.Device.{State}
use Rattle.aoe_target.specs.Law.{replied, Allows}
use Rattle.aoe_target.specs.Reply.{reply_port, spelled}
use Rattle.aoe_target.specs.Verdict.{verdict}
use Rattle.aoe_history.specs.declared.entry.Entry.{Entry}
use Rattle.aoe_history.specs.HostLaw.{IsSent}
use Rattle.aoe_history.specs.Lawful.{IsForeign}
use Rattle.aoe_history.specs.Reading.{is_from}
use Rattle.aoe_history.specs.declared.entry.Fate.TheVariants.{Replied}
use Rattle.aoe_history.specs.Setup.{HostSetup, IsSetup, Setup, SlotSetup}
use Rattle.aoe_history.specs.ShelfLaw.{KeepsShelfLaw}
use Rattle.aoe_history.specs.Slots.{state_after, verdict_after}
use Rattle.aoe_history.proofs.replies.ReplyLemmas.{replying}
use Rattle.aoe_history.proofs.hosts.SendLemmas.{none-of}
use Rattle.aoe_history.proofs.hosts.SentLemmas.{request-header, spelled-request}

-- REPLIES

-- a frame is a reply to another
pub record IsReply (station : Station) (f r : List ℕ) : Type 0 where
  pub error : Option AoeError
  pub args : List ℕ
  pub is : r ≡ spelled station (fields f) error args

pub replies : (station : Station) (k : State) (f r : List ℕ) (e : Effect) (v : Verdict) → Allows station k f v (replied e r) → IsReply station f r
replies station k f r e v x = grind arith

-- a frame that is replied to has a header
pub has-head : (station : Station) (k : State) (f r : List ℕ) (e : Effect)
    → Allows station k f (verdict station k.lists f) (replied e r) → is_some (head f) ≡ true
unfolding verdict
has-head station k f r e x = grind arith

pub source-length : (f : List ℕ) → 24 ≤ length f → length (fields f).src.0 ≡ 6
source-length f le = simp (length-take, length-drop) (omega arith)

pub split-off : (a b c d e f g x z : List ℕ) → a ++ b ++ c ++ d ++ e ++ f ++ g ++ x ++ z ≡ a ++ (b ++ (c ++ (d ++ (e ++ (f ++ (g ++ (x ++ z)))))))
split-off a b c d e f g x z = simp append_assoc

-- the source of a frame with this header
source-is : (h : Header) (args : List ℕ) → length h.dst.0 ≡ 6 → length h.src.0 ≡ 6 → slice_range (padded (header_bytes h ++ args)) 6 12 ≡ h.src.0
source-is h args d s = simp append_assoc (rw (drop_at h.dst.0 _ 6 d, take_at h.src.0 _ 6 s))

-- the port that a reply comes from is the shelf's
pub port-holds : (station : Station) (h : Header) → 0 < length station.ports.items → holds station.ports.items (reply_port station h) ≡ true
port-holds station h lt = grind (arith, holds-each)

-- FRAMES OF OTHERS

pub some-such : {X : Type 0} (P : X → Type 0) (o : Option X) → IsSomeAnd o P → (x : X) × (o ≡ Some x) × P x
some-such P None a = absurd a
some-such P (Some x) a = (x, refl, a)

module _ (s : Setup) (host : HostSetup) (ok : IsSetup s) (mine : Contains s.hosts host) (h : List Entry) (number : ℕ) (f : List ℕ) where
  -- a frame that comes from elsewhere
  pub foreign-source : IsForeign s h number f → is_from host f ≡ true → ⊥
  foreign-source x from = both_ways _ (none-of _ s.hosts host (or_parts _ _ x.source).0 mine) from

  -- a reply
  pub replied-source : (slot : SlotSetup) (r : List ℕ) (e : Effect) → Contains s.slots slot
      → KeepsShelfLaw slot h f (Replied e number r) → is_from host r ≡ true → ⊥
  unfolding spelled
  replied-source slot r e there law from =
      let reply = replies slot.station (state_after slot h) f r e (verdict_after slot h f) law in
      let port = port-holds slot.station (fields f) (ok.some_port slot there) in
      let long = head-long f (has-head slot.station (state_after slot h) f r e law) in
      let source = source-is (replying slot.station (fields f) reply.error) reply.args (source-length f long) (ok.shelf_addresses slot _ there port) in
      ok.shelf_ports host slot (fields r).src mine there from (rw (reply.is, source) port)

  -- a request of a host
  pub request-source : (o : HostSetup) (c : ℕ) → Contains s.hosts o → IsSent s o h c number f → is_from host f ≡ true → host ≡ o
  request-source o c other x from =
      let r = spelled-request s o h _ _ _ _ f x.tag_fits x.frame.bytes in
      let is : (fields f).src.0 ≡ r.local.0 = ap (λ (z : Header). z.src.0) (request-header s o _ _ _ f ok other r) in
      ok.host_ports host o r.local mine other (rw is at from) r.own
