-- What holds of the commands and frames of a host in each lawful history.
use Rattle.std.proofs.Common.{ℕ, inl, inr, List, [], ◌∷◌, IsSomeAnd, ap, arith, Contains}
use Rattle.std.proofs.lemmas.Bool.{cases_Bool}
use Rattle.arrayvec.specs.ArrayVec.{ArrayVec}
use Rattle.aoe_base.proofs.CommonLemmas.{not-both}
use Rattle.aoe_frame.specs.declared.header.Header.{Header}
use Rattle.aoe_history.specs.declared.entry.Entry.{Entry}
use Rattle.aoe_history.specs.declared.entry.Entry.TheVariants.{Submitted, Sent, Injected, Arrived, Done}
use Rattle.aoe_history.specs.declared.entry.Fate.TheVariants.{Replied}
use Rattle.aoe_history.specs.Frames.{frames}
use Rattle.aoe_history.specs.HostLaw.{IsSent}
use Rattle.aoe_history.specs.Lawful.{HasHost, IsLawful}
use Rattle.aoe_history.specs.Setup.{host_called, is_called, HostSetup, IsSetup, Setup}
use Rattle.aoe_history.proofs.hosts.BaseLemmas.{keeps-base, sent-base, Base, Keeps}
use Rattle.aoe_history.proofs.hosts.CommandLemmas.{known, IsNamed, Known}
use Rattle.aoe_history.proofs.hosts.EntryLemmas.{done-flies, done-keeps, foreign-frame, keeps-frames, named, sent-frames, sent-keeps, submitted-keeps, AreSentFor}
use Rattle.aoe_history.proofs.hosts.GoneLemmas.{keeps-gone, sent-gone, AreGone}
use Rattle.aoe_history.proofs.hosts.ReadyLemmas.{ready}
use Rattle.aoe_history.proofs.hosts.SentLemmas.{found, host-there, request-header}
use Rattle.aoe_history.proofs.hosts.SourceLemmas.{foreign-source, replied-source, request-source, some-such}
use Rattle.aoe_history.proofs.LogicLemmas.{some-and}

pub record Holds (s : Setup) (host : HostSetup) (h : List Entry) : Type 0 where
  pub base : Base s.life host h
  pub frames : AreSentFor host h (frames h)
  pub gone : AreGone s.life host h

module _ (s : Setup) (host : HostSetup) (mine : IsNamed s host) (ok : IsSetup s) (there : Contains s.hosts host) where
  -- an entry that sends nothing of the host's, and adds no frame or one of another's
  kept : (h n : List Entry) → Keeps host h n → (AreSentFor host n (frames h) → AreSentFor host n (frames n)) → Holds s host h → Holds s host n
  kept h n k more x = record {
    base = keeps-base k x.base;
    frames = more (keeps-frames (frames h) k x.base x.frames);
    gone = keeps-gone k x.base x.gone;
  }

  sent : (h : List Entry) (name : ArrayVec ℕ) (c number : ℕ) (f : List ℕ) → IsLawful s h
      → IsSomeAnd (host_called s name) (λ o. IsSent s o h c number f) → Holds s host h
      → Holds s host (Sent name c number f ∷ h)
  sent h name c number f lawful law x = elim (cases_Bool (is_called host name)) [
    | inl own ↦ (
        let r = ready s host h c number f (known s host mine h lawful) (some-and _ _ host (mine name own) law) in
        let tag = ap (λ (z : Header). z.tag) (request-header s host _ _ r.tag f ok there r.request) in
        record {
          base = sent-base s.life host h name c number f own r tag x.base;
          frames = sent-frames s.life host h name c number f own r tag x.base (frames h) x.frames;
          gone = sent-gone s.life host h name c number f own r tag x.base x.gone;
        })
    | inr other ↦ (
        let o = some-such _ _ law in
        let its = host-there s name o.0 o.1 in
        kept h _ (sent-keeps host h name c number f other) (foreign-frame host _ _ (frames h)
        (λ from. let same = request-source s host ok there h number f o.0 c its.0 o.2 from in not-both _ (rw (← same) at its.1) other)) x)
  ]

  pub holds : (h : List Entry) → IsLawful s h → Holds s host h
  holds [] l = search arith
  holds (Submitted name c dev op ∷ h) l =
      kept h _ (submitted-keeps host h name c dev op (λ e. (some-and _ _ host (mine name e) l.0).next)) (λ all. all) (holds h l.1)
  holds (Sent name c number f ∷ h) l = sent h name c number f l.1 l.0 (holds h l.1)
  holds (Injected number f ∷ h) l = kept h (Injected number f ∷ h) (grind arith)
      (foreign-frame host _ _ (frames h) (foreign-source s host ok there h number f l.0)) (holds h l.1)
  holds (Arrived dev frame (Replied e number r) ∷ h) l =
      let slot = some-such _ _ l.0 in
      let port = (found _ s.slots slot.0 slot.1).0 in
      kept h (Arrived dev frame (Replied e number r) ∷ h) (grind arith)
      (foreign-frame host _ _ (frames h) (replied-source s host ok there h number slot.2.bytes slot.0 r e port slot.2.law)) (holds h l.1)
  holds (Done name c outcome ∷ h) l =
      kept h _ (done-keeps host h name c outcome (λ e. (done-flies s host h c outcome (known s host mine h l.1) (some-and _ _ host (mine name e) l.0)).0))
      (λ all. all) (holds h l.1)
  holds (x ∷ h) l = kept h (x ∷ h) (grind arith) (λ all. all) (holds h l.1)

pub known-of : (s : Setup) (host : HostSetup) (h : List Entry) → HasHost s host h → Known host h
known-of s host h x = known s host (named s x.name host x.called) h x.lawful

pub holds-of : (s : Setup) (host : HostSetup) (h : List Entry) → HasHost s host h → Holds s host h
holds-of s host h x = holds s host (named s x.name host x.called) x.setup (host-there s x.name host x.called).0 h x.lawful
