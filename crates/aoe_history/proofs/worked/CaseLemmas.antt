-- The entries of worked histories, each by tests that compute.
use Rattle.std.proofs.Common.{inl, inr, is_none, IfSome, MatchBool, ℕ, suc, ◌+◌, ◌≡◌, ◌≤◌, Bool, true, false, not, ◌&&◌, ◌||◌, nat_lt, nat_le, List, ◌∷◌, length, drop, Option, Some, None, refl, arith, slice_index_or, All, Contains}
use Rattle.std.specs.List.{list_all}
use Rattle.std.proofs.lemmas.Bool.{and_parts, leb-true, ltb-true, OnTrue_from, not-true}
use Rattle.std.proofs.lemmas.List.Elements.{Contains-get_or}
use Rattle.std.proofs.lemmas.List.Sums.{AllPass-from_list_all}
use Rattle.aoe_flight.specs.declared.outstanding.Outstanding.{Outstanding}
use Rattle.aoe_flight.specs.Outstanding.{is_due, is_expired, is_taken, live, lower, precedes, rest_time, IsFirst}
use Rattle.aoe_base.specs.declared.address.TargetId.{TargetId}
use Rattle.aoe_base.specs.declared.counted.PathNo.{PathNo}
use Rattle.aoe_initiator.specs.declared.op.Op.{Op}
use Rattle.aoe_initiator.specs.declared.op.Op.TheVariants.{Flush}
use Rattle.aoe_initiator.specs.declared.outcome.Outcome.{Outcome}
use Rattle.aoe_initiator.specs.declared.response.Answer.{Answer}
use Rattle.aoe_initiator.specs.HostLaw.{answer_to, given_up, is_clear_at, paths_to, spelled, submit_refusal}
use Rattle.aoe_initiator.specs.Op.{CanSubmit}
use Rattle.aoe_initiator.specs.HostLog.{missed_by, path_log, sent_of, submitted, HostCommand}
use Rattle.aoe_paths.specs.PathLog.{next_of}
use Rattle.aoe_initiator.specs.Response.{outcome_of}
use Rattle.arrayvec.specs.ArrayVec.{ArrayVec}
use Rattle.aoe_disk.specs.State.{sector}
use Rattle.aoe_target.specs.Sectors.{Sectors, Tells}
use Rattle.aoe_history.specs.declared.entry.Entry.{Entry}
use Rattle.aoe_history.specs.declared.entry.Entry.TheVariants.{Took}
use Rattle.aoe_history.specs.declared.entry.Fate.{Fate}
use Rattle.aoe_history.specs.declared.entry.Fate.TheVariants.{Replied}
use Rattle.aoe_target.specs.declared.heard.Effect.TheVariants.{None as NoEffect}
use Rattle.aoe_script.specs.declared.event.Which.TheVariants.{Store, Keep}
use Rattle.aoe_history.specs.Commands.{commands_of, host_after, log_of, tickets}
use Rattle.aoe_history.specs.Frames.{arriving, clock, next_number}
use Rattle.aoe_history.specs.Groups.{told, GivesUp, Got, SendsSome, Turn}
use Rattle.aoe_history.specs.HostLaw.{IsDone, IsGivenUp, IsResponse, IsSent, IsStale, IsSubmitted}
use Rattle.aoe_history.specs.Lawful.{IsArrival, IsNumbered, IsTaking}
use Rattle.aoe_history.specs.Setup.{device_place, is_called, HostSetup, Setup, SlotSetup}
use Rattle.aoe_history.specs.ShelfLaw.{calls, stretch, IsStruckBy, KeepsArming, KeepsShelfLaw}
use Rattle.aoe_history.specs.Slots.{is_struck, state_after}

abbrev nobody : HostCommand
nobody = submitted (record { 0 = 0 }) (record { 0 = 0 }) Flush

-- the command of the host at a place, and of those that were sent
abbrev pub nth : HostSetup → List Entry → ℕ → HostCommand
nth host h k = slice_index_or (commands_of host h) k nobody

abbrev unsent : Outstanding
unsent = record {
  ticket = record { 0 = 0 };
  flying = record { tag = 0; first = record { 0 = 0 }; last = record { 0 = 0 }; path = record { 0 = 0 }; sends = 0 };
  wait = record { 0 = 0 };
  finished = false;
}

abbrev pub nth_sent : HostSetup → List Entry → ℕ → Outstanding
nth_sent host h k = slice_index_or (sent_of (commands_of host h)) k unsent

-- the path that is next for a command
abbrev pub path_for : Setup → HostSetup → List Entry → HostCommand → PathNo
path_for s host h x = record { 0 = next_of (paths_to (host_after s host h) x.device.0) (missed_by x.sends (path_log (log_of host h) x.device.0)) }

pub passes : {X : Type 0} (test : X → Bool) (xs : List X) (x : X) → list_all test xs ≡ true → Contains xs x → test x ≡ true
passes test xs x e there = rw there.2 at (AllPass-from_list_all test xs e there.0 x there.1)

all-fail : {X : Type 0} (p : X → Bool) (xs : List X) → list_all (λ x. not (p x)) xs ≡ true → All (λ x. p x ≡ false) xs
all-fail p xs e = λ k d lt. not-true (p (slice_index_or xs k d)) (AllPass-from_list_all (λ x. not (p x)) xs e k d lt)

pub or-of : (a b : Bool) → (not a || b) ≡ true → a ≡ true → b ≡ true
or-of a b e x = grind arith

there : (host : HostSetup) (h : List Entry) (k : ℕ) → nat_lt k (length (commands_of host h)) ≡ true → Contains (commands_of host h) (nth host h k)
there host h k e = Contains-get_or (commands_of host h) k nobody (ltb-true _ _ e)

-- the command at a place is the lowest of those that pass a test
abbrev is_lowest : (HostCommand → Bool) → HostSetup → List Entry → ℕ → Bool
is_lowest test host h k = list_all (λ c. not (test c) || nat_le (nth host h k).ticket.0 c.ticket.0) (commands_of host h)

lowest-of : (test : HostCommand → Bool) (host : HostSetup) (h : List Entry) (k : ℕ) → is_lowest test host h k ≡ true
    → All (λ c. test c ≡ true → (nth host h k).ticket.0 ≤ c.ticket.0) (commands_of host h)
lowest-of test host h k e = λ i d lt clear.
    leb-true _ _ (or-of _ _ (AllPass-from_list_all (λ c. not (test c) || nat_le (nth host h k).ticket.0 c.ticket.0) (commands_of host h) e i d lt) clear)

-- THE ENTRIES OF A HISTORY, the latest first

infixr 4 ◌after◌
pub ◌after◌ : {A B : Type 0} → A → B → A × B
x after y = (x, y)

-- a command is taken for the first device
pub submits : {s : Setup} {host : HostSetup} {h : List Entry} {c : ℕ} {dev : TargetId} {op : Op} → device_place host dev ≡ Some 0 → CanSubmit op
    → submit_refusal (host_after s host h) 0 op ≡ None → c ≡ suc (tickets host h) → IsSubmitted s host h c dev op
submits attached can taken next = record { device = 0; attached = attached; can = can; taken = taken; next = next }

-- a command of the host is sent for the first time
pub starts : {s : Setup} {host : HostSetup} {h : List Entry} {c : ℕ} {bytes : List ℕ} (k tag : ℕ) → (nth host h k).ticket.0 ≡ c
    → list_all (λ o. not (is_due (clock h) o)) (sent_of (commands_of host h)) ≡ true
    → nat_lt (length (live (rest_time s.life) (clock h) (sent_of (commands_of host h)))) host.room ≡ true
    → nat_lt k (length (commands_of host h)) ≡ true
    → is_clear_at s.life.requests.0 (clock h) (commands_of host h) (nth host h k) ≡ true
    → is_lowest (is_clear_at s.life.requests.0 (clock h) (commands_of host h)) host h k ≡ true
    → is_taken (live (rest_time s.life) (clock h) (sent_of (commands_of host h))) tag ≡ false → nat_lt tag 4294967296 ≡ true
    → spelled (host_after s host h) (nth host h k) (path_for s host h (nth host h k)) tag ≡ Some bytes → IsSent s host h c (next_number h) bytes
starts {s} {host} {h} k tag is due room within clear lowest free fits spells =
    let its = there host h k within in
    record {
      sent = record { ticket = (nth host h k).ticket; tag = tag; path = path_for s host h (nth host h k); again = false };
      ticket_is = is;
      may = record {
        nothing_due = all-fail (is_due (clock h)) _ due;
        room = ltb-true _ _ room;
        command = nth host h k;
        there = its;
        ticket = refl;
        clear = clear;
        lowest = lowest-of (is_clear_at s.life.requests.0 (clock h) (commands_of host h)) host h k lowest;
        free = free;
      };
      path = record { command = nth host h k; there = its; ticket = refl; next = refl };
      frame = record { command = nth host h k; there = its; ticket = refl; bytes = spells };
      tag_fits = ltb-true _ _ fits;
      number_is = refl;
    }

-- a response ends a command
pub responds : {s : Setup} {host : HostSetup} {h : List Entry} {f : List ℕ} {c : ℕ} (k : ℕ) (answer : Answer) → (nth host h k).ticket.0 ≡ c
    → nat_lt k (length (commands_of host h)) ≡ true → answer_to (host_after s host h) (nth host h k) f ≡ Some answer
    → IsResponse s host h f c (outcome_of answer (drop 24 f))
responds {host = host} {h} k answer is within says =
    record { command = nth host h k; there = there host h k within; ticket_is = is; answer = answer; says = says; gives = refl }

-- the host takes it, and the command has its outcome
pub ends : {s : Setup} {host : HostSetup} {h : List Entry} {name : ArrayVec ℕ} {n c : ℕ} {f : List ℕ} {o : Outcome} → arriving s.life h n ≡ Some f
    → IsResponse s host h f c o
    → IsDone s host (Took name n false ∷ h) c o × IsTaking s host h n false
ends {s} {host} {h} {name} {n} {c} {f} {o} fresh r =
    let response : IsResponse s host (Took name n false ∷ h) f c o =
    record { command = r.command; there = r.there; ticket_is = r.ticket_is; answer = r.answer; says = r.says; gives = r.gives } in
    (inl (record { number = n; bytes = f; fresh = fresh; response = response }), record { bytes = f; fresh = fresh; law = (c, o, r) })

-- two entries before the others
infixr 4 ◌upon◌
pub ◌upon◌ : {A B L : Type 0} → A × B → L → A × (B × L)
x upon l = (x.0, (x.1, l))

-- no disk is armed, and no call fails
unarmed : (slot : SlotSetup) (h : List Entry) (f : List ℕ) (fate : Fate) → stretch Store slot h ≡ None → stretch Keep slot h ≡ None → is_struck fate ≡ false
    → KeepsArming slot h f fate
unarmed slot h f fate store keep e = record {
  store = OnTrue_from (calls Store slot h f) (IsStruckBy Store slot (stretch Store slot h) fate) (λ called. rw store (by-cache (is_none slot.cache)));
  keep = OnTrue_from (calls Keep slot h f) (IsStruckBy Keep slot (stretch Keep slot h) fate) (λ called. rw keep e);
}
  where
    by-cache : (b : Bool) → MatchBool b (is_struck fate ≡ false) (is_struck fate ≡ false)
    by-cache b = grind arith

-- data for one sector tell what is known of it
tells-one : (o : Option Sectors) (at : ℕ) (bytes : List ℕ) → IfSome o (λ k. IfSome (k.known (at + 0)) (λ v. sector bytes 0 ≡ v))
    → IfSome o (Tells (record { at = at; count = 1 }) bytes)
tells-one None at bytes e = e
tells-one (Some k) at bytes e = λ i lt. let z : i ≡ 0 = omega arith in rw z e

-- a frame comes to a slot
pub comes : {s : Setup} {slot : SlotSetup} {h : List Entry} {n : ℕ} {f : List ℕ} {fate : Fate} → arriving s.life h n ≡ Some f → KeepsShelfLaw slot h f fate
    → stretch Store slot h ≡ None → stretch Keep slot h ≡ None → is_struck fate ≡ false → IsNumbered (next_number h) fate → IsArrival s slot h n fate
comes {slot = slot} {h} {f = f} {fate} fresh law store keep struck numbered = record {
  bytes = f;
  fresh = fresh;
  law = law;
  arming = unarmed slot h f fate store keep struck;
  numbered = numbered;
}

-- one that reads a sector
pub reads : {s : Setup} {n m : ℕ} {reply : List ℕ} (slot : SlotSetup) (h : List Entry) (f : List ℕ) (at : ℕ) (bytes : List ℕ) → arriving s.life h n ≡ Some f
    → (IfSome (state_after slot h).sectors (Tells (record { at = at; count = 1 }) bytes) → KeepsShelfLaw slot h f (Replied NoEffect m reply))
    → IfSome (state_after slot h).sectors (λ k. IfSome (k.known (at + 0)) (λ v. sector bytes 0 ≡ v))
    → stretch Store slot h ≡ None → stretch Keep slot h ≡ None → m ≡ next_number h → IsArrival s slot h n (Replied NoEffect m reply)
reads slot h f at bytes fresh law known store keep numbered = comes fresh (law (tells-one (state_after slot h).sectors at bytes known)) store keep refl numbered

-- A REPEAT

-- the command at a place of those that were sent passes a test, and none that does comes before it
abbrev is_first : (Outstanding → Bool) → (Outstanding → Outstanding → Bool) → HostSetup → List Entry → ℕ → Bool
is_first test before host h k =
    nat_lt k (length (sent_of (commands_of host h)))
    && (test (nth_sent host h k) && list_all (λ o. not (test o) || not (before o (nth_sent host h k))) (sent_of (commands_of host h)))

first-of : (test : Outstanding → Bool) (before : Outstanding → Outstanding → Bool) (host : HostSetup) (h : List Entry) (k : ℕ)
    → is_first test before host h k ≡ true
    → IsFirst test before (sent_of (commands_of host h)) (nth_sent host h k)
first-of test before host h k e =
    let sent = sent_of (commands_of host h) in
    let x = and_parts _ _ e in
    let y = and_parts _ _ x.1 in
    record {
      there = Contains-get_or sent k unsent (ltb-true _ _ x.0);
      passes = y.0;
      least = λ i d lt t. not-true _ (or-of _ _ (AllPass-from_list_all (λ o. not (test o) || not (before o (nth_sent host h k))) sent y.1 i d lt) t);
    }

-- a command of the host is sent again
pub repeats : {s : Setup} {host : HostSetup} {h : List Entry} {c : ℕ} {bytes : List ℕ} (k j : ℕ) → (nth_sent host h j).ticket.0 ≡ c
    → is_first (is_due (clock h)) precedes host h j ≡ true → nat_lt k (length (commands_of host h)) ≡ true → (nth host h k).ticket ≡ (nth_sent host h j).ticket
    → nat_lt (nth_sent host h j).flying.tag 4294967296 ≡ true
    → spelled (host_after s host h) (nth host h k) (path_for s host h (nth host h k)) (nth_sent host h j).flying.tag ≡ Some bytes
    → IsSent s host h c (next_number h) bytes
repeats {s} {host} {h} k j is first within same fits spells =
    let x = nth_sent host h j in
    let its = there host h k within in
    record {
      sent = record { ticket = x.ticket; tag = x.flying.tag; path = path_for s host h (nth host h k); again = true };
      ticket_is = is;
      may = record { command = x; first_due = first-of (is_due (clock h)) precedes host h j first; ticket = refl; tag = refl };
      path = record { command = nth host h k; there = its; ticket = same; next = refl };
      frame = record { command = nth host h k; there = its; ticket = same; bytes = spells };
      tag_fits = ltb-true _ _ fits;
      number_is = refl;
    }

-- GIVING UP, AND STALE RESPONSES

pub gives-up : {s : Setup} {host : HostSetup} {h : List Entry} {c : ℕ} (j : ℕ) → (nth_sent host h j).ticket.0 ≡ c
    → is_first (is_expired host.dead (clock h)) lower host h j ≡ true → IsGivenUp s host h c (given_up (clock h) (nth_sent host h j)).outcome
gives-up {host = host} {h} j is first =
    record { command = nth_sent host h j; late = first-of (is_expired host.dead (clock h)) lower host h j first; ticket_is = is; gives = refl }

none-of : {X : Type 0} (o : Option X) → is_none o ≡ true → o ≡ None
none-of o e = grind arith

pub stale : (s : Setup) (host : HostSetup) (h : List Entry) (f : List ℕ)
    → list_all (λ c. is_none (answer_to (host_after s host h) c f)) (commands_of host h) ≡ true → IsStale s host h f
stale s host h f e = λ k d lt. none-of _ (AllPass-from_list_all (λ c. is_none (answer_to (host_after s host h) c f)) (commands_of host h) e k d lt)

pub takes-stale : {s : Setup} {host : HostSetup} {h : List Entry} {n : ℕ} {f : List ℕ} → arriving s.life h n ≡ Some f
    → list_all (λ c. is_none (answer_to (host_after s host h) c f)) (commands_of host h) ≡ true → IsTaking s host h n true
takes-stale {s} {host} {h} {f = f} fresh e = record { bytes = f; fresh = fresh; law = stale s host h f e }

-- a host's turn, at whose end nothing is waited for too long, nothing is due and nothing is clear
pub turns : (s : Setup) (host : HostSetup) (name : ArrayVec ℕ) (got : Option Got) (h mid m : List Entry) → is_called host name ≡ true
    → GivesUp name (told name host got h) mid
    → list_all (λ o. not (is_expired host.dead (clock mid) o)) (sent_of (commands_of host mid)) ≡ true → SendsSome name mid m
    → list_all (λ o. not (is_due (clock m) o)) (sent_of (commands_of host m)) ≡ true
    → list_all (λ c. not (is_clear_at s.life.requests.0 (clock m) (commands_of host m) c)) (commands_of host m) ≡ true → Turn s host got h m
turns s host name got h mid m called gives late sends due clear = record {
  name = name;
  called = called;
  mid = mid;
  gives_up = gives;
  none_late = all-fail (is_expired host.dead (clock mid)) _ late;
  sends = sends;
  none_next = record {
    nothing_due = all-fail (is_due (clock m)) _ due;
    nothing_clear = inr (all-fail (is_clear_at s.life.requests.0 (clock m) (commands_of host m)) _ clear);
  };
}
