-- A host's commands, each by what the history says of it.
use Rattle.std.proofs.Common.{ℕ, zero, suc, ◌<◌, ◌≤◌, ◌≡◌, inl, inr, true, false, List, [], ◌∷◌, ◌++◌, map, Some, None, refl, sym, ap, ◌∙◌, arith, Contains}
use Rattle.std.proofs.lemmas.Bool.{cases_Bool}
use Rattle.std.proofs.lemmas.Bool.Decides.{nat_tests}
use Rattle.std.proofs.lemmas.List.Elements.{Contains-push_cases}
use Rattle.aoe_flight.specs.declared.outstanding.Outstanding.{Outstanding}
use Rattle.arrayvec.specs.ArrayVec.{ArrayVec}
use Rattle.aoe_base.specs.declared.address.TargetId.{TargetId}
use Rattle.aoe_initiator.specs.declared.op.Op.{Op}
use Rattle.aoe_initiator.specs.declared.outcome.Outcome.{Outcome}
use Rattle.aoe_initiator.specs.HostLog.{as_sent, outstanding, sent_of, HostCommand, Sending}
use Rattle.aoe_initiator.specs.HostLog as log
use Rattle.aoe_history.specs.declared.entry.Entry.{Entry}
use Rattle.aoe_history.specs.declared.entry.Entry.TheVariants.{Submitted, Sent, Done, Ticked}
use Rattle.aoe_history.specs.CommandView.{sends_of, upto, view, views, was_done}
use Rattle.aoe_history.specs.Commands.{commands_of, log_of, tickets}
use Rattle.aoe_history.specs.Frames.{clock}
use Rattle.aoe_history.specs.HostLaw.{IsDone, IsSent}
use Rattle.aoe_history.specs.Lawful.{IsLawful}
use Rattle.aoe_history.specs.Setup.{host_called, is_called, HostSetup, Setup}
use Rattle.aoe_history.proofs.hosts.SendLemmas.{filtered-from}
use Rattle.aoe_history.proofs.LogicLemmas.{map-append, map-map, other-number, own-number, some-and}
use Rattle.aoe_initiator.proofs.ListLemmas.{Contains-map_from}

-- what holds of the commands of a lawful history
pub record Known (host : HostSetup) (h : List Entry) : Type 0 where
  pub list : commands_of host h ≡ views host h
  pub time : log.clock (log_of host h) ≡ clock h
  pub unsent : (c : ℕ) → tickets host h < c → sends_of host h c ≡ None
  pub undone : (c : ℕ) → tickets host h < c → was_done host h c ≡ false

-- ONE ENTRY MORE

map-upto : {Y : Type 0} (f g : ℕ → Y) (n : ℕ) → ((k : ℕ) → k ≤ n → f k ≡ g k) → map f (upto n) ≡ map g (upto n)
map-upto f g zero e = refl
map-upto f g (suc n) e = rw (map-append f, map-append g, map-upto f g n (λ k le. e k (omega arith)), e (suc n) (omega arith))

one-more : {Y : Type 0} (f g : ℕ → Y) (n : ℕ) (y : Y) → ((k : ℕ) → k ≤ n → f k ≡ g k)
    → y ≡ g (suc n) → map f (upto n) ++ y ∷ [] ≡ map g (upto (suc n))
one-more f g n y e own = rw (map-append g, map-upto f g n e, own)

module _ (host : HostSetup) (h : List Entry) (k : Known host h) where
  -- an entry that changes nothing of the host's commands
  same-known : (n : List Entry) → commands_of host n ≡ commands_of host h → log.clock (log_of host n) ≡ clock n → tickets host n ≡ tickets host h
      → ((d : ℕ) → view host n d ≡ view host h d) → Known host n
  same-known n list time count same = record {
    list = rw (list, count, k.list) (map-upto (view host h) (view host n) (tickets host h) (λ d le. sym (same d)));
    time = time;
    unsent = λ d lt. ap (λ (x : HostCommand). x.sends) (same d) ∙ k.unsent d (omega arith);
    undone = λ d lt. ap (λ (x : HostCommand). x.done) (same d) ∙ k.undone d (omega arith);
  }

  module _ (name : ArrayVec ℕ) (c : ℕ) where
    sent-known : (number : ℕ) (bytes : List ℕ) → (is_called host name ≡ true → c ≤ tickets host h) → Known host (Sent name c number bytes ∷ h)
    sent-known number bytes le = let n = Sent name c number bytes ∷ h in elim (cases_Bool (is_called host name)) [
      | inl own ↦ record {
        list = rw (own, k.list, k.time, map-map) (map-upto _ (view host n) (tickets host h) (λ d in'. rw own (grind (arith, nat_tests))));
        time = rw own k.time;
        unsent = λ d lt. grind (arith, nat_tests, k.unsent d lt);
        undone = k.undone;
      }
      | inr other ↦ same-known n (rw other) (rw other k.time) refl (λ d. rw other)
    ]

    done-known : (outcome : Outcome) → (is_called host name ≡ true → c ≤ tickets host h) → Known host (Done name c outcome ∷ h)
    done-known outcome le = let n = Done name c outcome ∷ h in elim (cases_Bool (is_called host name)) [
      | inl own ↦ record {
        list = rw (own, k.list, map-map) (map-upto _ (view host n) (tickets host h) (λ d in'. rw own (grind (arith, nat_tests))));
        time = rw own k.time;
        unsent = k.unsent;
        undone = λ d lt. grind (arith, nat_tests, k.undone d lt);
      }
      | inr other ↦ same-known n (rw other) (rw other k.time) refl (λ d. rw other)
    ]

    -- the ticket of a submission is the next
    submitted-known : (dev : TargetId) (op : Op) → (is_called host name ≡ true → c ≡ suc (tickets host h)) → Known host (Submitted name c dev op ∷ h)
    submitted-known dev op next = let n = Submitted name c dev op ∷ h in let t = tickets host h in elim (cases_Bool (is_called host name)) [
      | inl own ↦ (let new = next own in record {
        list = rw (own, k.list) (one-more (view host h) (view host n) t _ (λ d le. rw (new, other-number _ _ d le))
            (rw (new, own-number _ _ own, k.unsent (suc t) (omega arith), k.undone (suc t) (omega arith))));
        time = rw own k.time;
        unsent = rw own (λ d lt. k.unsent d (omega arith));
        undone = rw own (λ d lt. k.undone d (omega arith));
      })
      | inr other ↦ same-known n (rw other) (rw other k.time) (rw other) (λ d. rw other)
    ]

-- A COMMAND BY ITS TICKET

in-upto : (n c : ℕ) → Contains (upto n) c → (0 < c) × (c ≤ n)
in-upto zero c there = absurd (omega (arith, there.1))
in-upto (suc n) c there = grind (arith, Contains-push_cases (upto n) (suc n) c there, in-upto n c)

-- a command of the host's, by its ticket
pub record IsView (host : HostSetup) (h : List Entry) (x : HostCommand) : Type 0 where
  pub ticket : ℕ
  pub above : 0 < ticket
  pub submitted : ticket ≤ tickets host h
  pub is : view host h ticket ≡ x

pub viewed : (host : HostSetup) (h : List Entry) (x : HostCommand) → Known host h → Contains (commands_of host h) x → IsView host h x
viewed host h x k there =
    let c = Contains-map_from (view host h) (upto (tickets host h)) x (rw k.list at there) in
    let u = in-upto (tickets host h) c.0 c.1 in
    record { ticket = c.0; above = u.0; submitted = u.1; is = c.2 }

-- a ticket is that of a command
pub record IsViewAt (host : HostSetup) (h : List Entry) (c : ℕ) (x : HostCommand) : Type 0 where
  pub above : 0 < c
  pub submitted : c ≤ tickets host h
  pub is : view host h c ≡ x

pub view-at : {host : HostSetup} {h : List Entry} {c : ℕ} {x : HostCommand} → Known host h
    → Contains (commands_of host h) x → x.ticket.0 ≡ c → IsViewAt host h c x
view-at {host} {h} {c} {x} k there e = let v = viewed host h x k there in grind arith

-- it is that of a command that was sent
pub record IsSentAt (host : HostSetup) (h : List Entry) (c : ℕ) (o : Outstanding) : Type 0 where
  pub submitted : c ≤ tickets host h
  pub sending : Sending
  pub sent : sends_of host h c ≡ Some sending
  pub is : outstanding (view host h c) sending ≡ o

pub sent-at : {host : HostSetup} {h : List Entry} {c : ℕ} {o : Outstanding} → Known host h
    → Contains (sent_of (commands_of host h)) o → o.ticket.0 ≡ c
    → IsSentAt host h c o
sent-at {host} {h} {c} {o} k there e =
    let x = filtered-from as_sent (commands_of host h) o there in
    grind (arith, viewed host h x.0 k x.1)

-- THE COMMANDS OF A LAWFUL HISTORY

-- the host is the one that its name names
abbrev pub IsNamed : Setup → HostSetup → Type 0
IsNamed s host = (name : ArrayVec ℕ) → is_called host name ≡ true → host_called s name ≡ Some host

pub sent-view : (s : Setup) (host : HostSetup) (h : List Entry) (c number : ℕ) (f : List ℕ) → Known host h → (x : IsSent s host h c number f)
    → IsViewAt host h c x.frame.command
sent-view s host h c number f k x = view-at k x.frame.there (ap (λ t. t.0) x.frame.ticket ∙ x.ticket_is)

done-submitted : (s : Setup) (host : HostSetup) (h : List Entry) (c : ℕ) (outcome : Outcome)
    → Known host h → IsDone s host h c outcome → c ≤ tickets host h
done-submitted s host h c outcome k (inl x) = (view-at k x.response.there x.response.ticket_is).submitted
done-submitted s host h c outcome k (inr x) = (sent-at k x.late.there x.ticket_is).submitted

module _ (s : Setup) (host : HostSetup) (mine : IsNamed s host) where
  pub known : (h : List Entry) → IsLawful s h → Known host h
  known [] l = record { list = refl; time = refl; unsent = λ c lt. refl; undone = λ c lt. refl }
  known (Submitted name c dev op ∷ h) l = submitted-known host h (known h l.1) name c dev op (λ e. (some-and _ _ host (mine name e) l.0).next)
  known (Sent name c number bytes ∷ h) l = let k = known h l.1 in
      sent-known host h k name c number bytes (λ e. (sent-view s host h c number bytes k (some-and _ _ host (mine name e) l.0)).submitted)
  known (Done name c outcome ∷ h) l = let k = known h l.1 in
      done-known host h k name c outcome (λ e. done-submitted s host h c outcome k (some-and _ _ host (mine name e) l.0))
  known (Ticked ms ∷ h) l = let k = known h l.1 in same-known host h k (Ticked ms ∷ h) refl (let is = k.time in grind arith) refl (λ d. refl)
  known (x ∷ h) l = let k = known h l.1 in same-known host h k (x ∷ h) refl k.time refl (λ d. refl)
