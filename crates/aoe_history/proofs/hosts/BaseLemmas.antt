-- What holds of the commands of a host in each lawful history.
use Rattle.std.proofs.Common.{ℕ, ◌-◌, ◌<◌, ◌≤◌, ◌≡◌, ◌⊎◌, inl, inr, nat_lt, Bool, true, not, ◌&&◌, List, ◌∷◌, Option, Some, is_some, sym, ap, ◌∙◌, arith}
use Rattle.std.proofs.lemmas.Bool.Decides.{nat_tests}
use Rattle.arrayvec.specs.ArrayVec.{ArrayVec}
use Rattle.aoe_base.specs.declared.counted.Lifetimes.{Lifetimes}
use Rattle.aoe_base.specs.declared.counted.Millis.{Millis}
use Rattle.aoe_base.specs.declared.counted.PathNo.{PathNo}
use Rattle.aoe_frame.specs.Header.{fields}
use Rattle.aoe_initiator.specs.HostLog.{one_more, Sending}
use Rattle.aoe_history.specs.declared.entry.Entry.{Entry}
use Rattle.aoe_history.specs.declared.entry.Entry.TheVariants.{Sent}
use Rattle.aoe_history.specs.Commands.{path_of, submission, tickets}
use Rattle.aoe_history.specs.CommandView.{in_conflict, is_live, sends_of, timeout_at, was_done}
use Rattle.aoe_history.specs.Frames.{clock}
use Rattle.aoe_history.specs.Setup.{is_called, HostSetup}
use Rattle.aoe_history.proofs.hosts.ReadyLemmas.{MayBeSent}
use Rattle.aoe_history.proofs.LogicLemmas.{own-number}

pub record Base (life : Lifetimes) (host : HostSetup) (h : List Entry) : Type 0 where
  pub bounds : (c : ℕ) (x : Sending) → sends_of host h c ≡ Some x → (0 < c) × (c ≤ tickets host h)
  pub last : (c : ℕ) (x : Sending) → sends_of host h c ≡ Some x → x.last.0 ≤ clock h
  pub done : (c : ℕ) → was_done host h c ≡ true → is_some (sends_of host h c) ≡ true
  pub order : (c d : ℕ) (x : Sending) → sends_of host h c ≡ Some x → 0 < d → d < c → in_conflict host h d c ≡ true → was_done host h d ≡ true
  pub tags : (c d : ℕ) (x y : Sending) → sends_of host h c ≡ Some x → sends_of host h d ≡ Some y
      → is_live life host h c x ≡ true → is_live life host h d y ≡ true → x.tag ≡ y.tag → c ≡ d

-- ENTRIES THAT SEND NOTHING OF THE HOST'S

-- no command is sent, what is done stays so, and what was submitted too
pub record Keeps (host : HostSetup) (h n : List Entry) : Type 0 where
  pub sends : (c : ℕ) → sends_of host n c ≡ sends_of host h c
  pub done : (c : ℕ) → was_done host h c ≡ true → was_done host n c ≡ true
  pub ended : (c : ℕ) → was_done host n c ≡ true → (was_done host h c ≡ true) ⊎ (is_some (sends_of host h c) ≡ true)
  pub time : clock h ≤ clock n
  pub count : tickets host h ≤ tickets host n
  pub submissions : (c : ℕ) → c ≤ tickets host h → submission host n c ≡ submission host h c

-- a command that is live was so before
pub live-by : (rest now later last : ℕ) (done done2 : Bool) → now ≤ later → (done ≡ true → done2 ≡ true)
    → not (done2 && nat_lt rest (later - last)) ≡ true → not (done && nat_lt rest (now - last)) ≡ true
live-by rest now later last done done2 le d e = grind (arith, nat_tests)

pub keeps-base : {life : Lifetimes} {host : HostSetup} {h n : List Entry} → Keeps host h n → Base life host h → Base life host n
keeps-base {life} {host} {h} {n} k b = record {
  bounds = λ c x e. grind (arith, k.sends c, b.bounds c x);
  last = λ c x e. grind (arith, k.sends c, b.last c x);
  done = λ c e. grind (arith, k.sends c, k.ended c e, b.done c);
  order = λ c d x e above lt co. grind (arith, k.sends c, b.bounds c x, k.submissions c, k.submissions d, b.order c d x, k.done d);
  tags = λ c d x y p q u v t. grind (arith, nat_tests, k.sends c, k.sends d, k.done c, k.done d, b.tags c d x y);
}

-- A SEND OF THE HOST'S

-- what is sent of a command after a frame of command `c`
abbrev pub more : HostSetup → List Entry → ℕ → List ℕ → ℕ → Sending
more host h c f d = one_more (fields f).tag (record { 0 = clock h }) (path_of host (submission host h c) f) (timeout_at host h d c f) (sends_of host h d)

pub more-last : (tag : ℕ) (now : Millis) (path : PathNo) (t : ℕ) (o : Option Sending) → (one_more tag now path t o).last ≡ now
more-last tag now path t o = grind arith

pub more-tag : (tag : ℕ) (now : Millis) (path : PathNo) (t : ℕ) (x : Sending) (o : Option Sending)
    → o ≡ Some x → (one_more tag now path t o).tag ≡ x.tag
more-tag tag now path t x o e = rw e

pub sent-last : (host : HostSetup) (h : List Entry) (c : ℕ) (f : List ℕ) (d : ℕ) → (more host h c f d).last.0 ≡ clock h
sent-last host h c f d = ap (λ (m : Millis). m.0) (more-last _ _ _ _ (sends_of host h d))

module _ (life : Lifetimes) (host : HostSetup) (h : List Entry) (name : ArrayVec ℕ) (c number : ℕ) (f : List ℕ)
    (mine : is_called host name ≡ true) (r : MayBeSent life host h c f) (reads : (fields f).tag ≡ r.tag) where
  abbrev pub after : List Entry
  after = Sent name c number f ∷ h

  pub now-sent : sends_of host after c ≡ Some (more host h c f c)
  now-sent = rw (own-number (is_called host name) c mine)

  -- it is the one that was sent, or another that was sent before
  pub sent-cases : (d : ℕ) (x : Sending) → sends_of host after d ≡ Some x → ((d ≡ c) × (x ≡ more host h c f d)) ⊎ (sends_of host h d ≡ Some x)
  sent-cases d x e = grind (arith, nat_tests)

  pub tag-is : (more host h c f c).tag ≡ r.tag
  tag-is = grind (arith, r.may)

  module _ (b : Base life host h) where
    own-order : (d : ℕ) → 0 < d → d < c → in_conflict host h d c ≡ true → was_done host h d ≡ true
    own-order d above lt co = grind (arith, r.may, b.order c d)

    -- no other live command has the tag
    own-tag : (d : ℕ) (y : Sending) → sends_of host h d ≡ Some y → is_live life host h d y ≡ true → r.tag ≡ y.tag → c ≡ d
    own-tag d y e alive t = elim r.may [
      | inl first ↦ absurd (first.free d y (b.bounds d y e).0 (b.bounds d y e).1 e alive (sym t))
      | inr again ↦ b.tags c d again.before y again.sent e (rw again.flying) alive (again.same ∙ t)
    ]

    pub sent-base : Base life host after
    sent-base = record {
      bounds = λ d x e. grind (arith, sent-cases d x e, b.bounds d x);
      last = λ d x e. grind (arith, sent-cases d x e, sent-last host h c f d, b.last d x);
      done = λ d e. grind (arith, b.done d e);
      order = λ e d x s above lt co. grind (arith, sent-cases e x s, own-order d, b.order e d x);
      tags = λ e d x y p q u v t. grind (arith, sent-cases e x p, sent-cases d y q, own-tag d y, own-tag e x, b.tags e d x y, tag-is);
    }
