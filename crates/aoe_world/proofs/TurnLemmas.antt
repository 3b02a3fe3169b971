-- The turns of hosts, one after another.
use Rattle.std.proofs.Common.{ℕ, zero, suc, ◌≡◌, ◌≢◌, ◌≤◌, ◌<◌, ◌+◌, true, not, List, [], ◌∷◌, length, take, Option, Some, refl, sym, ap, ◌∙◌, add-one, arith, inl, inr}
use Rattle.std.specs.Prelude.{slice_get, slice_set}
use Rattle.std.proofs.lemmas.List.{length-set, take_all}
use Rattle.std.proofs.lemmas.Option.{same_Some, slice_get_within}
use Rattle.arrayvec.specs.ArrayVec.{ArrayVec}
use Rattle.aoe_history.specs.declared.entry.Entry.{Entry}
use Rattle.aoe_history.specs.Groups.{Got, Turn, Turns, TurnSome, TurnsSome}
use Rattle.aoe_history.specs.Lawful.{IsLawful}
use Rattle.aoe_history.specs.Setup.{is_called, shelf_of, HostSetup, Setup, SlotSetup}
use Rattle.aoe_sim_hosts.proofs.Apart.{awaits-apart, settled-apart}
use Rattle.aoe_sim_hosts.specs.Host.{is_apart as is_apart_of_host, Awaits, IsSettled, SimHost}
use Rattle.aoe_net.specs.declared.refusal.NetLimit.{NetLimit}
use Rattle.aoe_net.specs.declared.refusal.NetRefusal.{NetRefusal}
use Rattle.aoe_net.specs.declared.refusal.NetRefusal.TheVariants.{Full}
use Rattle.aoe_sim_shelves.proofs.Apart.{serves-apart}
use Rattle.aoe_sim_shelves.specs.Shelf.{is_apart as is_apart_of_slots, SimShelf, Serves}
use Rattle.aoe_history.specs.Run.{MeetsFull}
use Rattle.aoe_history.proofs.FullLemmas.{full-more}
use Rattle.aoe_world.proofs.AddsLemmas.{adds-keep, turn-adds, Adds}
use Rattle.aoe_world.proofs.ListLemmas.{set-each}
use Rattle.aoe_world.specs.declared.sim.Sim.{Sim}
use Rattle.aoe_world.specs.Sim.{AllServe, HadTurns, IsLeft, IsNetwork, IsReady, IsTurning}
use Rattle.aoe_initiator.proofs.ListLemmas.{get-there as there-is}

-- TURNS

-- one more turn, behind those of the hosts before
turns-more : (s : Setup) (hosts : List HostSetup) (i : ℕ) (host : HostSetup) (got : Option Got) (h n m : List Entry) → slice_get hosts i ≡ Some host
    → Turns s (take i hosts) got h n → Turn s host got n m → Turns s (take (suc i) hosts) got h m
turns-more s [] i host got h n m e before turn = absurd (cc)
turns-more s (o ∷ hosts) zero host got h n m e before turn = (m, rw (same_Some o host e, ← before) turn, refl)
turns-more s (o ∷ hosts) (suc i) host got h n m e (k, first, rest) turn = (k, first, turns-more s hosts i host got k n m e rest turn)

-- a turn that came in part, behind those of the hosts before
turns-some : (s : Setup) (hosts : List HostSetup) (i : ℕ) (host : HostSetup) (got : Option Got) (h n m : List Entry) → slice_get hosts i ≡ Some host
    → Turns s (take i hosts) got h n → TurnSome host got n m → TurnsSome s hosts got h m
turns-some s [] i host got h n m e before turn = absurd (cc)
turns-some s (o ∷ hosts) zero host got h n m e before turn = inl (rw (same_Some o host e, ← before) turn)
turns-some s (o ∷ hosts) (suc i) host got h n m e (k, first, rest) turn = inr (k, first, turns-some s hosts i host got k n m e rest turn)

-- WHAT ENTRIES LEAVE THAT SAY NOTHING OF A STATION

pub settled-adds : {s : Setup} {host : HostSetup} {x : SimHost} {h m : List Entry} → Adds (is_apart_of_host host) h m → IsSettled s host h x
    → IsSettled s host m x
settled-adds {s} {host} {x} a k = adds-keep (is_apart_of_host host) (λ n. IsSettled s host n x) (λ e n t z. settled-apart s host e n x t z) _ _ a k

awaits-adds : {s : Setup} {host : HostSetup} {got : Option Got} {x : SimHost} {h m : List Entry} → Adds (is_apart_of_host host) h m → Awaits s host got h x
    → Awaits s host got m x
awaits-adds {s} {host} {got} {x} a k = adds-keep (is_apart_of_host host) (λ n. Awaits s host got n x) (λ e n t z. awaits-apart s host got e n x t z) _ _ a k

pub serves-adds : {slots : List SlotSetup} {x : SimShelf} {h m : List Entry} → Adds (is_apart_of_slots slots) h m → Serves slots h x → Serves slots m x
serves-adds {slots} {x} a k = adds-keep (is_apart_of_slots slots) (λ n. Serves slots n x) (λ e n t z. serves-apart slots e n x t z) _ _ a k

pub shelves-after : {s : Setup} {majors : List ℕ} {h m : List Entry} {shelves : List SimShelf}
    → ((slots : List SlotSetup) → Adds (is_apart_of_slots slots) h m) → AllServe s majors h shelves → AllServe s majors m shelves
shelves-after {s} adds k =
    record { count = k.count; number = k.number; each = λ i major x em ex. serves-adds (adds (shelf_of s major)) (k.each i major x em ex) }

module _ {s : Setup} {majors : List ℕ} {got : Option Got} {h m : List Entry} (i : ℕ) (host : HostSetup)
    (net : IsNetwork s majors) (at : slice_get s.hosts i ≡ Some host) (turn : Turn s host got h m) where
  -- a turn says nothing of another host
  others-apart : (j : ℕ) (other : HostSetup) → slice_get s.hosts j ≡ Some other → j ≢ i → Adds (is_apart_of_host other) h m
  others-apart j other ej apart =
      turn-adds (record { done = λ name ticket outcome called. away name called; sent = λ name ticket number bytes called. away name called }) turn
    where
      away : (name : ArrayVec ℕ) → is_called host name ≡ true → not (is_called other name) ≡ true
      away name called = rw (net.names i j host other name at ej (λ e. apart (sym e)) called)

  -- the i-th host had its turn, and the others are as they were
  one-more : (x : SimHost) (hosts : List SimHost) → IsSettled s host m x → HadTurns s got h i hosts → HadTurns s got m (suc i) (slice_set hosts i x)
  one-more x hosts done k = record {
    count = length-set hosts i x ∙ k.count;
    settled = set-each s.hosts hosts i host x (λ j other y. j < suc i → IsSettled s other m y) at (λ below. done)
        (λ j other y apart ej ey below. settled-adds (others-apart j other ej apart) (k.settled j other y ej ey (omega (arith, apart, below))));
    waiting = set-each s.hosts hosts i host x (λ j other y. suc i ≤ j → Awaits s other got m y) at (λ above. absurd (omega (arith, above)))
        (λ j other y apart ej ey above. awaits-adds (others-apart j other ej apart) (k.waiting j other y ej ey (omega (arith, above))));
  }

-- THE LOOP

-- so many hosts had their turn
pub record Going (old now : Sim) (i end : ℕ) : Type 0 where
  pub upto : i ≤ end
  pub count : length now.hosts.items ≡ end
  pub frame : now.frame ≡ old.frame
  pub turns : (s : Setup) (majors : List ℕ) (got : Option Got) → IsNetwork s majors → IsTurning s majors got 0 old
      → Turns s (take i s.hosts) got old.run.entries now.run.entries × IsTurning s majors got i now

-- what is said of the turn of a host, for each history with which it agrees
abbrev pub OfTurn : Sim → SimHost → (Setup → HostSetup → Option Got → Type 0) → Type 0
OfTurn now x P = (s : Setup) (host : HostSetup) (got : Option Got) → Awaits s host got now.run.entries x → IsLawful s now.run.entries → P s host got

module _ {old now : Sim} {i end : ℕ} (x : SimHost) (g : Going old now i end) (there : slice_get now.hosts.items i ≡ Some x) where
  -- the host whose turn it is
  its : {s : Setup} {majors : List ℕ} {got : Option Got} → IsTurning s majors got i now
      → (host : HostSetup) × (slice_get s.hosts i ≡ Some host) × Awaits s host got now.run.entries x
  its {s} k =
      let at = there-is s.hosts i (omega (arith, slice_get_within now.hosts.items i x there, k.hosts_are.count)) in
      (at.0, at.1, k.hosts_are.waiting i at.0 x at.1 there (omega arith))

  -- one turn more
  pub going-on : (new : Sim) (y : SimHost)
      → OfTurn now x (λ s host got. Turn s host got now.run.entries new.run.entries × IsLawful s new.run.entries × IsSettled s host new.run.entries y)
      → new.run.life ≡ now.run.life → new.shelves.items ≡ now.shelves.items → new.hosts.items ≡ slice_set now.hosts.items i y → new.frame ≡ now.frame
      → Going old new (i + 1) end
  going-on new y turn life shelves hosts frame = rw (add-one i) (record {
    upto = omega (arith, slice_get_within now.hosts.items i x there, g.count);
    count = ap length hosts ∙ length-set now.hosts.items i y ∙ g.count;
    frame = frame ∙ g.frame;
    turns = λ s majors got net begun. more s majors got net (g.turns s majors got net begun);
  })
    where
      more : (s : Setup) (majors : List ℕ) (got : Option Got) → IsNetwork s majors
          → Turns s (take i s.hosts) got old.run.entries now.run.entries × IsTurning s majors got i now
          → Turns s (take (suc i) s.hosts) got old.run.entries new.run.entries × IsTurning s majors got (suc i) new
      more s majors got net (turns, k) =
          let at = its k in
          let t = turn s at.0 got at.2 k.lawful in (
            turns-more s s.hosts i at.0 got old.run.entries now.run.entries new.run.entries at.1 turns t.0,
            record {
              life = life ∙ k.life;
              lawful = t.1;
              hosts_are = rw hosts (one-more i at.0 net at.1 t.0 y now.hosts.items t.2 k.hosts_are);
              shelves_are = rw shelves (shelves-after (λ slots. turn-adds (record {
                done = λ name ticket outcome called. refl;
                sent = λ name ticket number bytes called. refl;
              }) t.0) k.shelves_are);
            },
          )

  -- the turn of a host came in part
  pub going-broken : (m : List Entry) (refusal : NetRefusal) → OfTurn now x (λ s host got. TurnSome host got now.run.entries m × IsLawful s m)
      → ((limit : NetLimit) → refusal ≡ Full limit → OfTurn now x (λ s host got. MeetsFull s (TurnSome host got now.run.entries) limit m))
      → (s : Setup) (majors : List ℕ) (got : Option Got)
      → IsNetwork s majors → IsTurning s majors got 0 old → IsLeft s (TurnsSome s s.hosts got old.run.entries) refusal m
  going-broken m refusal turn full s majors got net begun =
      let gone = g.turns s majors got net begun in
      let at = its gone.1 in
      let t = turn s at.0 got at.2 gone.1.lawful in
      let some = λ (n : List Entry) (part : TurnSome at.0 got now.run.entries n).
      turns-some s s.hosts i at.0 got old.run.entries now.run.entries n at.1 gone.0 part in
      record { begun = some m t.0; lawful = t.1; full = λ limit e. full-more s _ _ m some (full limit e s at.0 got at.2 gone.1.lawful) }

-- all had their turn
pub going-done : {old now : Sim} {i end : ℕ} → Going old now i end → end ≤ i → (s : Setup) (majors : List ℕ) (got : Option Got) → IsNetwork s majors
    → IsTurning s majors got 0 old → Turns s s.hosts got old.run.entries now.run.entries × IsReady s majors now
going-done {now = now} {i = i} g last s majors got net begun =
    let gone = g.turns s majors got net begun in
    let hosts = gone.1.hosts_are in (
      rw (take_all i s.hosts (omega (arith, g.upto, last, g.count, hosts.count))) at gone.0,
      record {
        life = gone.1.life;
        lawful = gone.1.lawful;
        hosts_are = record {
          count = hosts.count;
          each = λ j host x eh ex. hosts.settled j host x eh ex (omega (arith, slice_get_within now.hosts.items j x ex, g.count, last));
        };
        shelves_are = gone.1.shelves_are;
      },
    )
