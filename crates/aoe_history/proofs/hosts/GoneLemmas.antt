-- Once a command that rests on effects was sent, no frame of an earlier one in conflict that has effects can arrive.
use Rattle.std.proofs.Common.{ℕ, ◌<◌, ◌≡◌, inl, inr, true, List, ◌∷◌, Some, arith}
use Rattle.std.proofs.lemmas.Bool.Decides.{nat_tests}
use Rattle.arrayvec.specs.ArrayVec.{ArrayVec}
use Rattle.aoe_base.specs.declared.counted.Lifetimes.{Lifetimes}
use Rattle.aoe_frame.specs.Header.{fields}
use Rattle.aoe_hold.specs.Commands.{has_effect, is_gone, rests_on_effects}
use Rattle.aoe_initiator.specs.HostLog.{Sending}
use Rattle.aoe_initiator.specs.Op.{kind_of}
use Rattle.aoe_history.specs.declared.entry.Entry.{Entry}
use Rattle.aoe_history.specs.declared.entry.Entry.TheVariants.{Sent}
use Rattle.aoe_history.specs.CommandView.{in_conflict, sends_of, view}
use Rattle.aoe_history.specs.Frames.{clock}
use Rattle.aoe_history.specs.Setup.{is_called, HostSetup}
use Rattle.aoe_history.proofs.hosts.BaseLemmas.{sent-cases, Base, Keeps}
use Rattle.aoe_history.proofs.hosts.ReadyLemmas.{MayBeSent}

abbrev pub AreGone : Lifetimes → HostSetup → List Entry → Type 0
AreGone life host h = (c d : ℕ) (x y : Sending) → sends_of host h c ≡ Some x → sends_of host h d ≡ Some y → 0 < d → d < c → in_conflict host h d c ≡ true
    → has_effect (kind_of (view host h d).op) ≡ true → rests_on_effects (kind_of (view host h c).op) ≡ true → is_gone life.requests.0 (clock h) y.last.0 ≡ true

pub keeps-gone : {life : Lifetimes} {host : HostSetup} {h n : List Entry} → Keeps host h n → Base life host h → AreGone life host h → AreGone life host n
keeps-gone {life} {host} {h} {n} k b g c d x y p q above lt co eff rests =
    grind (arith, nat_tests, k.sends c, k.sends d, b.bounds c x, b.bounds d y, k.submissions c, k.submissions d, g c d x y)

module _ (life : Lifetimes) (host : HostSetup) (h : List Entry) (name : ArrayVec ℕ) (c number : ℕ) (f : List ℕ)
    (mine : is_called host name ≡ true) (r : MayBeSent life host h c f) (reads : (fields f).tag ≡ r.tag) (b : Base life host h) (g : AreGone life host h) where
  -- an earlier command in conflict isn't sent any more
  not-again : (e : ℕ) (x : Sending) → sends_of host h e ≡ Some x → 0 < c → c < e → in_conflict host h c e ≡ true → ⊥
  not-again e x s above lt co = grind (arith, b.order e c x s above lt co, b.done c, r.may)

  own-gone : (d : ℕ) (y : Sending) → sends_of host h d ≡ Some y → 0 < d → d < c → in_conflict host h d c ≡ true
      → has_effect (kind_of (view host h d).op) ≡ true → rests_on_effects (kind_of (view host h c).op) ≡ true
      → is_gone life.requests.0 (clock h) y.last.0 ≡ true
  own-gone d y s above lt co eff rests = elim r.may [
    | inl first ↦ (let gone = (first.past d above lt co).gone eff rests in grind arith)
    | inr again ↦ g c d again.before y again.sent s above lt co eff rests
  ]

  pub sent-gone : AreGone life host (Sent name c number f ∷ h)
  sent-gone e d x y p q above lt co eff rests = let cases = sent-cases life host h name c number f mine r reads in
      grind (arith, cases e x p, cases d y q, own-gone d y, not-again e x, g e d x y)
