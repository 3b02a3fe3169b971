-- What holds of a sector of a slot for a host after a command of a host has its outcome.
use Rattle.std.proofs.Common.{ℕ, ◌≡◌, inl, inr, Bool, true, false, not, ◌&&◌, List, ◌∷◌, Option, Some, None, IsSomeAnd, refl, arith, Contains}
use Rattle.arrayvec.specs.ArrayVec.{ArrayVec}
use Rattle.std.proofs.lemmas.Bool.{not-true}
use Rattle.aoe_frame.specs.declared.header.Header.{Header}
use Rattle.aoe_initiator.specs.declared.op.Op.{Op}
use Rattle.aoe_initiator.specs.declared.op.Op.TheVariants.{Flush}
use Rattle.aoe_initiator.specs.declared.outcome.Outcome.{Outcome}
use Rattle.aoe_initiator.specs.declared.outcome.Outcome.TheVariants as outcome
use Rattle.aoe_initiator.specs.declared.response.Answer.{Answer}
use Rattle.aoe_initiator.specs.declared.response.Answer.TheVariants.{Written, Flushed}
use Rattle.aoe_initiator.specs.Response.{answer, outcome_of}
use Rattle.aoe_history.specs.declared.entry.Entry.{Entry}
use Rattle.aoe_history.specs.declared.entry.Entry.TheVariants.{Done}
use Rattle.aoe_history.specs.Commands.{submission, Submission}
use Rattle.aoe_history.specs.CommandView.{sends_of, AsksAt}
use Rattle.aoe_history.specs.HostLaw.{IsDone}
use Rattle.aoe_history.specs.Lawful.{HasHost}
use Rattle.aoe_history.specs.Reading.{alone, is_at, spoiled}
use Rattle.aoe_history.specs.Setup.{host_called, is_called, HostSetup, Setup, SlotSetup}
use Rattle.aoe_history.specs.Slots.{marked_after}
use Rattle.aoe_history.proofs.LogicLemmas.{some-and}
use Rattle.aoe_history.proofs.hosts.ApartLemmas.{none-beside-flush, none-beside-read, one-write, writes-to}
use Rattle.aoe_history.proofs.hosts.BaseLemmas.{Keeps}
use Rattle.aoe_history.proofs.hosts.EntryLemmas.{done-flies, done-keeps, named}
use Rattle.aoe_history.proofs.hosts.HostLemmas.{holds-of, known-of}
use Rattle.aoe_history.proofs.hosts.SendLemmas.{and-parts}
use Rattle.aoe_history.proofs.reads.EndLemmas.{response-true}
use Rattle.aoe_history.proofs.reads.TrueLemmas.{all-pass, keeps-passes, Kept, StillReads}
use Rattle.aoe_history.proofs.sectors.AtLemmas.{flying-active, landed, quiet, some-there, wr, At, IsFlying, IsUnderWay}
use Rattle.aoe_history.proofs.sectors.SectorLemmas.{flushes, settles, Sector}

-- ANSWERS AND OUTCOMES

written-answer : (a : Answer) (args : List ℕ) → outcome.Written ≡ outcome_of a args → a ≡ Written
written-answer a args e = grind arith

flushed-answer : (a : Answer) (args : List ℕ) → outcome.Flushed ≡ outcome_of a args → a ≡ Flushed
flushed-answer a args e = grind arith

flushed-op : (op : Op) (h : Header) (args : List ℕ) → answer op h args ≡ Some Flushed → op ≡ Flush
unfolding answer
flushed-op op h args e = grind arith

at-slot : (slot : SlotSetup) (o : Option Submission) → is_at slot o ≡ true → (op : Op) × AsksAt slot o op
at-slot slot None e = absurd (cc)
at-slot slot (Some x) e = (x.op, record { dev = x.dev; is = refl; slot_is = e })

module _ {s : Setup} {host : HostSetup} {h : List Entry} (run : HasHost s host h) (slot : SlotSetup) (there : Contains s.slots slot) (sct : ℕ)
    (x : Kept s.life host slot h sct) (name : ArrayVec ℕ) (c : ℕ) where
  abbrev n : Outcome → List Entry
  n o = Done name c o ∷ h

  abbrev MayEnd : Outcome → Type 0
  MayEnd o = IsSomeAnd (host_called s name) (λ z. IsDone s z h c o)

  own : (o : Outcome) → MayEnd o → is_called host name ≡ true → IsDone s host h c o
  own o law e = some-and (λ z. IsDone s z h c o) _ host (named s run.name host run.called name e) law

  its-keeps : (o : Outcome) → MayEnd o → Keeps host h (n o)
  its-keeps o law = done-keeps host h name c o (λ e. (done-flies s host h c o (known-of s host h run) (own o law e)).0)

  flies : (o : Outcome) → MayEnd o → is_called host name ≡ true → IsFlying host h c
  flies o law e =
      let d = done-flies s host h c o (known-of s host h run) (own o law e) in
      let y = some-there (sends_of host h c) d.0 in
      (y.0, y.1, d.1)

  -- what is so of the sector still is
  pub ended-at : {la : ℕ → Bool} {holds : Option (List ℕ)} {mark al sa sp : Bool} {may : Option (List (List ℕ))} (o : Outcome) → MayEnd o
      → Sector (IsFlying host h) (IsUnderWay s.life host h) (wr host slot h sct) la holds mark al sa sp may
      → Sector (IsFlying host (n o)) (IsUnderWay s.life host (n o)) (wr host slot h sct) la holds mark al sa sp may
  ended-at o law = quiet (its-keeps o law) (holds-of s host h run).base slot sct

  pub ended : (o : Outcome) → MayEnd o → At s.life host slot (n o) sct → StillReads host slot h (n o) sct → Kept s.life host slot (n o) sct
  ended o law at may = record {
    at = at;
    replies = all-pass (keeps-passes slot sct (its-keeps o law) (holds-of s host h run).base (λ d. refl) refl refl may) x.replies;
  }

  -- A WRITE
  acknowledged : (v : List ℕ) → wr host slot h sct c ≡ Some v → IsDone s host h c outcome.Written → landed host slot h sct c ≡ true
  acknowledged v w (inl ans) =
      let y = writes-to slot (submission host h c) sct v w in
      let t = response-true run slot there x.replies y.asks ans in
      (rw (written-answer t.a _ t.gives) at t.says) y.inside
  acknowledged v w (inr late) = absurd (let e = late.gives in cc)

  pub written : MayEnd outcome.Written → Kept s.life host slot (n outcome.Written) sct
  written law = go (is_called host name && not (spoiled host slot h sct)) refl (wr host slot h sct c) refl
    where
      go : (t : Bool) → (is_called host name && not (spoiled host slot h sct)) ≡ t → (w : Option (List ℕ)) → wr host slot h sct c ≡ w
          → Kept s.life host slot (n outcome.Written) sct
      go true e (Some v) we =
          let p = and-parts _ _ e in
          let fl = flies outcome.Written law p.0 in
          let ac = flying-active s.life host h c fl in
          let k = holds-of s host h run in
          let settled = settles x.at c v fl we (acknowledged v we (own outcome.Written law p.0)) (not-true _ p.1)
          (λ d w a wd. one-write s.life host h k.base k.gone slot sct d c a.0 ac.0 w v a.1 ac.1 a.2 ac.2 wd we) in
          ended outcome.Written law (rw (e, we) (ended-at outcome.Written law settled))
          (λ d span fd asks i w m. absurd (none-beside-read s.life host h k.base k.gone slot span sct d c fd.0 fl.0 v fd.1 fl.1 fd.2 fl.2 asks i we))
      go true e None we = ended outcome.Written law (rw (e, we) (ended-at outcome.Written law x.at)) (λ d span fd asks i w m. rw (e, we) m)
      go false e w we = ended outcome.Written law (rw e (ended-at outcome.Written law x.at)) (λ d span fd asks i w m. rw e m)

  -- A FLUSH
  acknowledged-flush : (op : Op) → AsksAt slot (submission host h c) op → IsDone s host h c outcome.Flushed
      → AsksAt slot (submission host h c) Flush × (alone host slot h sct ≡ true → marked_after slot h sct ≡ false)
  acknowledged-flush op asks (inr late) = absurd (let e = late.gives in cc)
  acknowledged-flush op asks (inl ans) =
      let t = response-true run slot there x.replies asks ans in
      let a = flushed-answer t.a _ t.gives in
      let is = flushed-op op _ _ (rw a at t.answers_it) in
      (rw is at asks, simp (a, is) at t.says)

  pub flushed : MayEnd outcome.Flushed → Kept s.life host slot (n outcome.Flushed) sct
  flushed law = ended outcome.Flushed law (go (is_called host name && is_at slot (submission host h c)) refl) (λ d span fd asks i w m. m)
    where
      go : (t : Bool) → (is_called host name && is_at slot (submission host h c)) ≡ t → At s.life host slot (n outcome.Flushed) sct
      go false e = rw e (ended-at outcome.Flushed law x.at)
      go true e =
          let p = and-parts _ _ e in
          let y = at-slot slot (submission host h c) p.1 in
          let f = acknowledged-flush y.0 y.1 (own outcome.Flushed law p.0) in
          let fl = flies outcome.Flushed law p.0 in
          let k = holds-of s host h run in
          rw e (ended-at outcome.Flushed law (flushes x.at f.1
          (λ d w b wd. none-beside-flush s.life host h k.base k.gone slot sct c d fl.0 b.0 w fl.1 b.1 fl.2 b.2 f.0 wd)))
