-- The read law of each lawful history.
use Rattle.std.proofs.Common.{ℕ, ◌+◌, ◌≡◌, inl, inr, Bool, true, false, List, [], ◌∷◌, drop, slice_range, Option, Some, None, refl, subst, ap, arith, Contains}
use Rattle.arrayvec.specs.ArrayVec.{ArrayVec}
use Rattle.aoe_base.specs.declared.sectors.Span.{Span}
use Rattle.aoe_base.specs.Addresses.{holds}
use Rattle.aoe_frame.specs.declared.header.Header.{Header}
use Rattle.aoe_frame.specs.Header.{fields}
use Rattle.aoe_initiator.specs.declared.op.Op.TheVariants as op
use Rattle.aoe_initiator.specs.declared.outcome.Outcome.{Outcome}
use Rattle.aoe_initiator.specs.declared.outcome.Outcome.TheVariants as outcome
use Rattle.aoe_initiator.specs.declared.response.Answer.{Answer}
use Rattle.aoe_initiator.specs.declared.response.Answer.TheVariants.{Data}
use Rattle.aoe_initiator.specs.Response.{outcome_of}
use Rattle.aoe_target.specs.Sectors.{in_span, value_in}
use Rattle.aoe_history.specs.declared.entry.Entry.{Entry}
use Rattle.aoe_history.specs.declared.entry.Entry.TheVariants.{Submitted, Sent, Injected, Arrived, Done, Crashed}
use Rattle.aoe_history.specs.declared.entry.Fate.TheVariants.{Replied}
use Rattle.aoe_history.specs.Commands.{submission, Submission}
use Rattle.aoe_history.specs.CommandView.{AsksAt}
use Rattle.aoe_history.specs.HostLaw.{IsDone, IsSent, IsSubmitted}
use Rattle.aoe_history.specs.Lawful.{HasHost, IsForeign, IsLawful}
use Rattle.aoe_history.specs.Reading.{allowed, alone, HasReadLaw, IsAllowed, KeepsReadLaw, ReadsAllowed}
use Rattle.aoe_history.specs.Setup.{host_called, is_called, is_slot, HostSetup, IsSetup, Setup, SlotSetup}
use Rattle.aoe_history.proofs.LogicLemmas.{some-and}
use Rattle.aoe_history.proofs.hosts.BaseLemmas.{Base, Keeps}
use Rattle.aoe_history.proofs.hosts.EntryLemmas.{named, sent-keeps, submitted-keeps}
use Rattle.aoe_history.proofs.hosts.HostLemmas.{holds-of, known-of}
use Rattle.aoe_history.proofs.hosts.ReadyLemmas.{ready}
use Rattle.aoe_history.proofs.hosts.SendLemmas.{or-parts, none-of}
use Rattle.aoe_history.proofs.hosts.SentLemmas.{host-there, request-header, spelled-request}
use Rattle.aoe_history.proofs.hosts.SourceLemmas.{some-such}
use Rattle.aoe_history.proofs.reads.DoneLemmas.{ended, ended-at, flushed, written}
use Rattle.aoe_history.proofs.reads.EndLemmas.{response-true}
use Rattle.aoe_history.proofs.reads.PassLemmas.{arrived-passes, crashed-at, crashed-passes, sent-passes}
use Rattle.aoe_history.proofs.reads.ToldLemmas.{new-reply}
use Rattle.aoe_history.proofs.reads.TrueLemmas.{all-pass, keeps-passes, one-more, IsReplyTo, Kept}
use Rattle.aoe_history.proofs.sectors.ArriveLemmas.{arrived-at}
use Rattle.aoe_history.proofs.sectors.AtLemmas.{quiet, sent-at, At}

-- a host's request is no reply, and no frame from elsewhere is one
request-no-reply : (s : Setup) (o host : HostSetup) (slot : SlotSetup) (h : List Entry) (c number : ℕ) (f : List ℕ) → IsSetup s → Contains s.hosts o
    → Contains s.slots slot
    → IsSent s o h c number f → IsReplyTo host slot f → ⊥
request-no-reply s o host slot h c number f ok other there x to =
    let command = x.frame.command in
    let r = spelled-request s o h command.op command.device x.sent.path x.sent.tag f x.tag_fits x.frame.bytes in
    let is = request-header s o command.device command.op x.sent.tag f ok other r in
    ok.shelf_ports o slot r.local other there r.own (subst (λ (z : Header). holds slot.station.ports.items z.src ≡ true) is to.src)

foreign-no-reply : (s : Setup) (host : HostSetup) (slot : SlotSetup) (h : List Entry) (number : ℕ) (f : List ℕ) → Contains s.slots slot → IsForeign s h number f
    → IsReplyTo host slot f → ⊥
foreign-no-reply s host slot h number f there x to =
    let no : holds slot.station.ports.items (fields f).src ≡ false =
    none-of (λ (z : SlotSetup). holds z.station.ports.items (fields f).src) s.slots slot (or-parts _ _ x.source).1 there in
    cc (no, to.src)

module _ (s : Setup) (host : HostSetup) (slot : SlotSetup) (ok : IsSetup s) (own_name : ArrayVec ℕ) (called : host_called s own_name ≡ Some host)
    (there : Contains s.slots slot) (sct : ℕ) where
  abbrev run : (h : List Entry) → IsLawful s h → HasHost s host h
  run h l = record { setup = ok; name = own_name; called = called; lawful = l }

  base-of : (h : List Entry) → IsLawful s h → Base s.life host h
  base-of h l = (holds-of s host h (run h l)).base

  -- the law of an entry that names the host
  own : (name : ArrayVec ℕ) → is_called host name ≡ true → host_called s name ≡ Some host
  own = named s own_name host called

  sent-at-it : (h : List Entry) (name : ArrayVec ℕ) (c number : ℕ) (f : List ℕ) → IsLawful s (Sent name c number f ∷ h) → At s.life host slot h sct
      → (t : Bool) → is_called host name ≡ t → At s.life host slot (Sent name c number f ∷ h) sct
  sent-at-it h name c number f l x true e =
      let r = ready s host h c number f (known-of s host h (run h l.1)) (some-and (λ o. IsSent s o h c number f) _ host (own name e) l.0) in
      let hd = request-header s host _ _ r.tag f ok (host-there s own_name host called).0 r.request in
      let later = holds-of s host (Sent name c number f ∷ h) (run (Sent name c number f ∷ h) l) in
      sent-at e r (ap (λ (z : Header). z.tag) hd) (base-of h l.1) later.base later.gone slot sct x
  sent-at-it h name c number f l x false e = rw e (quiet (sent-keeps host h name c number f e) (base-of h l.1) slot sct x)

  kept : (h : List Entry) → IsLawful s h → Kept s.life host slot h sct
  kept [] l = record {
    at = grind arith;
    replies = record { each = λ k r e to. absurd (cc) };
  }
  kept (Submitted name c dev op ∷ h) l =
      let x = kept h l.1 in
      let b = base-of h l.1 in
      let k = submitted-keeps host h name c dev op (λ e. (some-and (λ z. IsSubmitted s z h c dev op) _ host (own name e) l.0).next) in
      record { at = quiet k b slot sct x.at; replies = all-pass (keeps-passes slot sct k b (λ d. refl) refl refl (λ c span fl asks i v m. m)) x.replies }
  kept (Sent name c number f ∷ h) l =
      let x = kept h l.1 in
      let o = some-such (λ z. IsSent s z h c number f) (host_called s name) l.0 in
      record {
        at = sent-at-it h name c number f l x.at (is_called host name) refl;
        replies = one-more (λ to. absurd (request-no-reply s o.0 host slot h c number f ok (host-there s name o.0 o.1).0 there o.2 to))
            (all-pass (sent-passes slot name c number f sct (base-of h l.1)) x.replies);
      }
  kept (Arrived dev k (Replied e number r) ∷ h) l =
      let x = kept h l.1 in
      let b = run h l.1 in
      record {
        at = arrived-at b slot there sct dev k (Replied e number r) l.0 x.at;
        replies = one-more (new-reply b slot there sct x.at dev k e number r l.0)
            (all-pass (arrived-passes b slot there sct dev k (Replied e number r) l.0) x.replies);
      }
  kept (Arrived dev k fate ∷ h) l =
      let x = kept h l.1 in
      let b = run h l.1 in
      record { at = arrived-at b slot there sct dev k fate l.0 x.at; replies = all-pass (arrived-passes b slot there sct dev k fate l.0) x.replies }
  kept (Done name c outcome.Written ∷ h) l = written (run h l.1) slot there sct (kept h l.1) name c l.0
  kept (Done name c outcome.Flushed ∷ h) l = flushed (run h l.1) slot there sct (kept h l.1) name c l.0
  kept (Done name c o ∷ h) l =
      let x = kept h l.1 in
      let b = run h l.1 in
      ended b slot there sct x name c o l.0 (ended-at b slot there sct x name c o l.0 x.at) (λ d span fl asks i v m. m)
  kept (Crashed dev lists how ∷ h) l =
      let x = kept h l.1 in
      record { at = crashed-at s.life host slot h dev lists how sct x.at; replies = all-pass (crashed-passes host slot h dev lists how sct) x.replies }
  kept (Injected number f ∷ h) l =
      let x = kept h l.1 in
      let b = base-of h l.1 in
      let k : Keeps host h (Injected number f ∷ h) =
      grind arith in
      record {
        at = quiet k b slot sct x.at;
        replies = one-more (λ to. absurd (foreign-no-reply s host slot h number f there l.0 to))
            (all-pass (keeps-passes slot sct k b (λ d. refl) refl refl (λ c span fl asks i v m. m)) x.replies);
      }
  kept (e ∷ h) l =
      let x = kept h l.1 in
      let b = base-of h l.1 in
      let k : Keeps host h (e ∷ h) = grind arith in
      record { at = quiet k b slot sct x.at; replies = all-pass (keeps-passes slot sct k b (λ d. refl) refl refl (λ c span fl asks i v m. m)) x.replies }

-- WHAT IS READ

data-answer : (a : Answer) (args bytes : List ℕ) → outcome.Read bytes ≡ outcome_of a args
    → (len : ℕ) × (a ≡ Data len) × (bytes ≡ slice_range args 12 (12 + len))
data-answer a args bytes e = grind arith

module _ (s : Setup) (h : List Entry) (name : ArrayVec ℕ) (c : ℕ) (bytes : List ℕ) (ok : IsSetup s) (l : IsLawful s (Done name c (outcome.Read bytes) ∷ h))
    (host : HostSetup) (slot : SlotSetup) (called : host_called s name ≡ Some host) (there : Contains s.slots slot) where
  by-answer : (x : Submission) → submission host h c ≡ Some x → (span : Span) (sct : ℕ) → x.op ≡ op.Read span → is_slot slot x.dev ≡ true
      → in_span span sct ≡ true → alone host slot h sct ≡ true
      → IsDone s host h c (outcome.Read bytes) → IsAllowed (Some (value_in span bytes sct)) (allowed host slot h sct)
  by-answer x sub span sct is_read is inside al (inr late) = absurd (let e = late.gives in cc)
  by-answer x sub span sct is_read is inside al (inl ans) =
      let k = kept s host slot ok name called there sct h l.1 in
      let asks : AsksAt slot (submission host h c) (op.Read span) = record { dev = x.dev; is = rw (← is_read) sub; slot_is = is } in
      let t = response-true (run s host slot ok name called there sct h l.1) slot there k.replies asks ans in
      let d = data-answer t.a (drop 24 t.bytes) bytes t.gives in
      rw d.2 ((rw d.1 at t.says) inside al)

  reads-allowed : (o : Option Submission) → submission host h c ≡ o → ReadsAllowed host slot h o bytes
  reads-allowed None sub = tt
  reads-allowed (Some x) sub = λ span sct is_read is inside al.
      by-answer x sub span sct is_read is inside al (some-and (λ z. IsDone s z h c (outcome.Read bytes)) _ host called l.0)

finished-reads : (s : Setup) (h : List Entry) (name : ArrayVec ℕ) (c : ℕ) (o : Outcome) → IsSetup s → IsLawful s (Done name c o ∷ h)
    → KeepsReadLaw s h (Done name c o)
finished-reads s h name c (outcome.Read bytes) ok l = λ host slot called there.
    reads-allowed s h name c bytes ok l host slot called there (submission host h c) refl
finished-reads s h name c _ ok l = tt

pub read-law : (s : Setup) (h : List Entry) → IsSetup s → IsLawful s h → HasReadLaw s h
read-law s [] ok l = tt
read-law s (Done name c o ∷ h) ok l = (finished-reads s h name c o ok l, read-law s h ok l.1)
read-law s (_ ∷ h) ok l = (tt, read-law s h ok l.1)
