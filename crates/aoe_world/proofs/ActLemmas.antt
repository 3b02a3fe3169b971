-- Acts: their entries, and then the turns of the hosts.
use Rattle.std.proofs.Common.{ℕ, ◌≡◌, ◌≢◌, nat_eq, true, false, not, List, [], ◌∷◌, Option, Some, None, Result, Ok, Err, refl, ap, ◌∙◌, arith, inl, inr, IsErrAnd, OnErr, OnOk}
use Rattle.std.specs.Prelude.{slice_get, slice_set}
use Rattle.std.specs.List.{list_any}
use Rattle.std.proofs.lemmas.Bool.{eqb-true}
use Rattle.std.proofs.lemmas.Bool.Decides.{nat_tests}
use Rattle.std.proofs.lemmas.List.{length-set}
use Rattle.std.proofs.lemmas.List.Elements.{filter_passes}
use Rattle.std.proofs.lemmas.List.Folds.{list_any_none}
use Rattle.std.proofs.lemmas.Option.{slice_get_within}
use Rattle.aoe_history.specs.declared.entry.Entry.{Entry}
use Rattle.aoe_history.specs.declared.entry.Entry.TheVariants.{Injected, Lost, Ticked}
use Rattle.aoe_frame.specs.Header.{fields}
use Rattle.aoe_history.specs.Frames.{arriving, next_number}
use Rattle.aoe_history.specs.Groups.{Act, Enters, EntersSome, Got, IsBegun, Station, TurnsSome}
use Rattle.aoe_history.specs.Groups.Act.{Hand, Inject, Lose}
use Rattle.aoe_history.specs.Groups.Station.{Shelf as ShelfStation, Host as HostStation}
use Rattle.aoe_history.specs.Lawful.{IsLawful, MayCome}
use Rattle.aoe_history.specs.Setup.{is_called, is_port, is_slot, shelf_of, HostSetup, Setup, SlotSetup}
use Rattle.arrayvec.specs.ArrayVec.{ArrayVec}
use Rattle.aoe_sim_hosts.proofs.Apart.{awaits-settled, awaits-ticked}
use Rattle.aoe_sim_hosts.proofs.Called.{is-called}
use Rattle.aoe_sim_hosts.specs.Host.{is_apart as is_apart_of_host, Awaits, IsSettled, SimHost}
use Rattle.aoe_net.specs.declared.refusal.NetLimit.{NetLimit}
use Rattle.aoe_net.specs.declared.refusal.NetRefusal.{NetRefusal}
use Rattle.aoe_net.specs.declared.refusal.NetRefusal.TheVariants.{Full, NoMemory}
use Rattle.aoe_net.specs.Network.{IsFullBy}
use Rattle.aoe_sim_shelves.specs.Shelf.{is_apart as is_apart_of_slots, SimShelf, Serves}
use Rattle.aoe_history.specs.Run.{network_of, with_entry, MeetsFull}
use Rattle.aoe_history.proofs.FullLemmas.{full-by, full-more}
use Rattle.aoe_world.proofs.AddsLemmas.{adds-entry, Adds, SpeaksOf}
use Rattle.aoe_world.proofs.ListLemmas.{filter-at, set-each}
use Rattle.aoe_world.proofs.TurnLemmas.{serves-adds, settled-adds, shelves-after}
use Rattle.aoe_world.specs.declared.sim.Sim.{Sim}
use Rattle.aoe_world.specs.Sim.{AllServe, AllSettled, Does, HadTurns, IsEntered, IsLeft, IsNetwork, IsReady, IsTurning, Settles}
use Rattle.aoe_initiator.proofs.ListLemmas.{get-there as there-is}

-- WHAT CAME OF AN ACT

-- what a refusal leaves of a part, it leaves of the whole
pub left-more : {s : Setup} {part whole : List Entry → Type 0} {refusal : NetRefusal} {h : List Entry} → ((m : List Entry) → part m → whole m)
    → IsLeft s part refusal h → IsLeft s whole refusal h
left-more more left = record { begun = more _ left.begun; lawful = left.lawful; full = λ limit e. full-more _ _ _ _ more (left.full limit e) }

pub act-done : (result : Result (Unit {0}) NetRefusal) (s : Setup) (majors : List ℕ) (act : Act) (got : Option Got) (old mid new : Sim)
    → Enters s old.run.entries act got mid.run.entries → Settles result s majors got mid new → Does result s majors act old new
act-done (Ok u) s majors act got old mid new enters (turns, k) = (record { got = got; entered = mid.run.entries; enters = enters; turns = turns }, k)
act-done (Err refusal) s majors act got old mid new enters left = left-more (λ m turns. inr (got, mid.run.entries, enters, turns)) left

-- without memory a beginning that is lawful is left
pub no-memory : {s : Setup} {begins : List Entry → Type 0} {h : List Entry} → begins h → IsLawful s h → IsLeft s begins NoMemory h
no-memory begun lawful = record { begun = begun; lawful = lawful; full = λ limit e. absurd (cc) }

-- where memory was short, what was begun is entered
pub short-of-memory : (result : Result (Unit {0}) NetRefusal) (s : Setup) (majors : List ℕ) (act : Act) (old new : Sim)
    → IsErrAnd result (λ refusal. refusal ≡ NoMemory) → IsBegun s old.run.entries act new.run.entries → IsLawful s new.run.entries
    → IsEntered result s majors act old new
short-of-memory (Ok u) s majors act old new is begun lawful = absurd is
short-of-memory (Err refusal) s majors act old new is begun lawful = rw is (no-memory begun lawful)

-- or nothing came of the act
pub none-came : (result : Result (Unit {0}) NetRefusal) (s : Setup) (majors : List ℕ) (act : Act) (old new : Sim)
    → IsErrAnd result (λ refusal. refusal ≡ NoMemory) → EntersSome s old.run.entries act old.run.entries → new.run ≡ old.run → IsLawful s old.run.entries
    → IsEntered result s majors act old new
none-came result s majors act old new is none same lawful = short-of-memory result s majors act old new is (rw same (inl none)) (rw same lawful)

-- before the turn of any host
no-turn : (s : Setup) (hosts : List HostSetup) (got : Option Got) (h : List Entry)
    → ((i : ℕ) (host : HostSetup) → slice_get hosts i ≡ Some host → (name : ArrayVec ℕ) × (is_called host name ≡ true)) → TurnsSome s hosts got h h
no-turn s [] got h called = refl
no-turn s (host ∷ hosts) got h called = let c = called 0 host refl in inl (c.0, c.1, inl refl)

hosts-called : {s : Setup} {h : List Entry} {hosts : List SimHost} → AllSettled s h hosts → (i : ℕ) (host : HostSetup) → slice_get s.hosts i ≡ Some host
    → (name : ArrayVec ℕ) × (is_called host name ≡ true)
hosts-called {s} {hosts = hosts} k i host there =
    let x = there-is hosts i (omega (arith, slice_get_within s.hosts i host there, k.count)) in
    (x.0.name, is-called s x.0.name host (k.each i host x.0 there x.1).is.called)

-- THE STATIONS IN AN ACT

pub hosts-wait : {s : Setup} {h m : List Entry} {hosts : List SimHost} → ((host : HostSetup) (x : SimHost) → IsSettled s host h x → Awaits s host None m x)
    → AllSettled s h hosts → HadTurns s None m 0 hosts
hosts-wait wait k = record {
  count = k.count;
  settled = λ i host x eh ex below. absurd (omega (arith, below));
  waiting = λ i host x eh ex above. wait host x (k.each i host x eh ex);
}

-- entries that say nothing of the hosts
pub hosts-after : {s : Setup} {h m : List Entry} {hosts : List SimHost} → ((host : HostSetup) → Adds (is_apart_of_host host) h m) → AllSettled s h hosts
    → HadTurns s None m 0 hosts
hosts-after {s} {m = m} adds k = hosts-wait (λ host x settled. awaits-settled s host m x (settled-adds (adds host) settled)) k

-- one entry that says nothing of the shelves
turning-by : {s : Setup} {majors : List ℕ} {old mid : Sim} (e : Entry) → IsReady s majors old → MayCome s old.run.entries e → mid.run ≡ with_entry old.run e
    → mid.hosts ≡ old.hosts → mid.shelves ≡ old.shelves → HadTurns s None (e ∷ old.run.entries) 0 old.hosts.items
    → ((slots : List SlotSetup) → is_apart_of_slots slots e ≡ true) → IsTurning s majors None 0 mid
turning-by e k may run hosts shelves waiting apart = record {
  life = rw run k.life;
  lawful = rw run (may, k.lawful);
  hosts_are = rw (run, hosts) waiting;
  shelves_are = rw (run, shelves) (shelves-after (λ slots. adds-entry (apart slots) refl) k.shelves_are);
}

pub turning-ticked : {s : Setup} {majors : List ℕ} {old mid : Sim} (ms : ℕ) → IsReady s majors old → mid.run ≡ with_entry old.run (Ticked ms)
    → mid.hosts ≡ old.hosts → mid.shelves ≡ old.shelves → IsTurning s majors None 0 mid
turning-ticked {s} {old = old} ms k run hosts shelves =
    turning-by (Ticked ms) k tt run hosts shelves (hosts-wait (λ host x settled. awaits-ticked s host ms old.run.entries x settled) k.hosts_are) (λ slots. refl)

-- A SHELF

-- no slot of one shelf has the name of a slot of another
pub apart-slot : (s : Setup) (a b i : ℕ) (slot : SlotSetup) → a ≢ b → slice_get (shelf_of s b) i ≡ Some slot
    → not (list_any (λ other. is_slot other slot.station.id) (shelf_of s a)) ≡ true
apart-slot s a b i slot apart e =
    rw (list_any_none (λ (other : SlotSetup). is_slot other slot.station.id) (shelf_of s a)
    (λ k d below. rw (differs _ (filter_passes (λ (other : SlotSetup). nat_eq other.station.id.major a) s.slots k d below))))
  where
    number : slot.station.id.major ≡ b
    number = eqb-true slot.station.id.major b (filter-at (λ (other : SlotSetup). nat_eq other.station.id.major b) s.slots i slot e)

    differs : (x : ℕ) → nat_eq x a ≡ true → nat_eq x slot.station.id.major ≡ false
    differs x same = grind (arith, nat_tests, same, number, apart)

-- what is said of the slots of one shelf says nothing of those of another
pub speaks-apart : (s : Setup) (a b : ℕ) → a ≢ b → SpeaksOf (is_apart_of_slots (shelf_of s a)) (shelf_of s b)
speaks-apart s a b apart = record {
  arrived = λ i slot frame fate e. apart-slot s a b i slot apart e;
  crashed = λ i slot lists how e. apart-slot s a b i slot apart e;
}

-- one shelf is what the history says, and what came says nothing of the others
pub one-shelf : {s : Setup} {majors : List ℕ} {h m : List Entry} (i major : ℕ) (x y : SimShelf) (shelves : List SimShelf) → IsNetwork s majors
    → slice_get majors i ≡ Some major → slice_get shelves i ≡ Some x → ((other : ℕ) → other ≢ major → Adds (is_apart_of_slots (shelf_of s other)) h m)
    → Serves (shelf_of s major) m y → y.shelf.major ≡ x.shelf.major → AllServe s majors h shelves → AllServe s majors m (slice_set shelves i y)
one-shelf {s} {majors} {m = m} i major x y shelves net em ex adds serves same k = record {
  count = length-set shelves i y ∙ k.count;
  number = λ j n z en ez. (all j n z en ez).0;
  each = λ j n z en ez. (all j n z en ez).1;
}
  where
    all : (j n : ℕ) (z : SimShelf) → slice_get majors j ≡ Some n → slice_get (slice_set shelves i y) j ≡ Some z
        → (z.shelf.major ≡ n) × Serves (shelf_of s n) m z
    all =
        set-each majors shelves i major y (λ j n (z : SimShelf). (z.shelf.major ≡ n) × Serves (shelf_of s n) m z) em (same ∙ k.number i major x em ex, serves)
        (λ j n z apart en ez. (k.number j n z en ez, serves-adds (adds n (net.majors_differ j i n major en em apart)) (k.each j n z en ez)))

-- ONE ENTRY

-- a frame is lost
pub lost-by : {s : Setup} {majors : List ℕ} (frame number : ℕ) (old mid : Sim) → IsReady s majors old → number ≡ frame
    → mid.run ≡ with_entry old.run (Lost number) → mid.hosts ≡ old.hosts → mid.shelves ≡ old.shelves
    → (got : Option Got) × Enters s old.run.entries (Lose frame) got mid.run.entries × IsTurning s majors got 0 mid
lost-by frame number old mid k is run hosts shelves =
    (None, (refl, rw (run, is)), turning-by (Lost number) k tt run hosts shelves (hosts-after (λ host. adds-entry refl refl) k.hosts_are) (λ slots. refl))

-- a frame that can't be handed over is lost
pub lose-as-hand : (r : Result (Unit {0}) NetRefusal) (s : Setup) (majors : List ℕ) (frame : ℕ) (station : Station) (old new : Sim)
    → arriving s.life old.run.entries frame ≡ None → IsEntered r s majors (Lose frame) old new → IsEntered r s majors (Hand frame station) old new
lose-as-hand (Ok u) s majors frame station old new gone (got, enters, turning) = (got, rw gone enters, turning)
lose-as-hand (Err refusal) s majors frame station old new gone left = left-more (go station) left
  where
    go : (station : Station) (n : List Entry) → IsBegun s old.run.entries (Lose frame) n → IsBegun s old.run.entries (Hand frame station) n
    go (ShelfStation major) n (inl e) = inl (rw gone e)
    go (HostStation name) n (inl e) = inl e
    go station n (inr (got, m, enters, turns)) = inr (got, m, rw gone enters, turns)

-- a frame of no station came into the network, or there was no room for it
pub injected-by : (r : Result (Unit {0}) NetRefusal) (s : Setup) (majors : List ℕ) (f : List ℕ) (old mid : Sim) → IsReady s majors old
    → is_port s (fields f).src ≡ false → mid.hosts ≡ old.hosts → mid.shelves ≡ old.shelves
    → OnOk r (mid.run ≡ with_entry old.run (Injected (next_number old.run.entries) f))
    → ((limit : NetLimit) → r ≡ Err (Full limit) → IsFullBy limit (network_of old.run) f)
    → OnErr r (mid.run ≡ old.run) → IsEntered r s majors (Inject f) old mid
injected-by (Ok u) s majors f old mid k foreign hosts shelves run full same = (
  None,
  (refl, ap (λ r. r.entries) run),
  turning-by _ k (record { source = foreign; number_is = refl }) run hosts shelves (hosts-after (λ host. adds-entry refl refl) k.hosts_are) (λ slots. refl),
)
injected-by (Err refusal) s majors f old mid k foreign hosts shelves run full same = rw same (record { begun = inl refl; lawful = k.lawful; full = meets })
  where
    meets : (limit : NetLimit) → refusal ≡ Full limit → MeetsFull s (IsBegun s old.run.entries (Inject f)) limit old.run.entries
    meets limit e = record {
      entry = Injected (next_number old.run.entries) f;
      called_for = inr (None, _, (refl, refl), no-turn s s.hosts None _ (hosts-called k.hosts_are));
      may_come = record { source = foreign; number_is = refl };
      bytes = f;
      brings = refl;
      full = full-by limit old.run.life s.life old.run.entries f (full limit (ap Err e));
    }

-- of what was before only the history counts
pub entered-from : (r : Result (Unit {0}) NetRefusal) (s : Setup) (majors : List ℕ) (act : Act) (old mid new : Sim) → mid.run.entries ≡ old.run.entries
    → IsEntered r s majors act mid new → IsEntered r s majors act old new
entered-from (Ok u) s majors act old mid new e (got, enters, turning) = (got, rw e at enters, turning)
entered-from (Err refusal) s majors act old mid new e left = rw e at left
