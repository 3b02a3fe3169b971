-- How long a history grows by an event, and what a world keeps.
use Rattle.std.proofs.Common.{ℕ, suc, ◌≡◌, ◌≤◌, ◌<◌, ◌+◌, ◌-◌, true, List, [], ◌∷◌, Option, Some, None, refl, arith, inl, inr}
use Rattle.std.specs.Prelude.{length, map, All, IfNone}
use Rattle.std.proofs.lemmas.List.Elements.{All-cons, All-nil}
use Rattle.arrayvec.specs.ArrayVec.{ArrayVec}
use Rattle.aoe_base.specs.declared.address.TargetId.{TargetId}
use Rattle.aoe_initiator.specs.declared.op.Op.{Op}
use Rattle.aoe_history.specs.declared.entry.Entry.{Entry}
use Rattle.aoe_history.specs.Frames.{arriving, frames}
use Rattle.aoe_history.specs.Groups.{Act, Station}
use Rattle.aoe_history.specs.Groups.Act.{Hand, Lose, Submit, Tick}
use Rattle.aoe_history.specs.Lawful.{IsLawful}
use Rattle.aoe_history.specs.Setup.{Setup}
use Rattle.aoe_sim_setup.specs.Layout.{majors_of, setup_of, stations_of, Placed}
use Rattle.aoe_sim_setup.specs.Stations.{CanCome}
use Rattle.aoe_history.specs.Run.{IsWithin, Recorded}
use Rattle.aoe_script.specs.Lines.{ScriptLines}
use Rattle.aoe_script.specs.Rules.{is_event}
use Rattle.aoe_script.specs.declared.event.Event.{Event}
use Rattle.aoe_script.specs.declared.event.Event.TheVariants.{Read, Write, Flush, Identify, Config, Masks, Reserve, Tick as TickLine, Pass, Skip, Again}
use Rattle.aoe_script.specs.declared.setup.Setup.{Setup as Line}
use Rattle.aoe_history.specs.Asks.{op_of}
use Rattle.aoe_transcript.specs.Print.{IsFromLine}
use Rattle.aoe_world.proofs.GroupLemmas.{follows-aside, follows-grows, grows-none, grows-on, little, AreOfLine, Grows, GrowsByLine, IsAside}
use Rattle.aoe_world.proofs.GroupSome.{some-aside, some-grows}
use Rattle.aoe_world.proofs.ScheduleLemmas.{among, handings-are}
use Rattle.aoe_world.specs.declared.place.Place.{Place}
use Rattle.aoe_net.specs.declared.refusal.NetRefusal.{NetRefusal}
use Rattle.aoe_net.specs.declared.refusal.NetRefusal.TheVariants.{Full}
use Rattle.aoe_net.specs.declared.refusal.NetRefusal.TheVariants as net
use Rattle.aoe_world.specs.declared.refusal.WorldRefusal.{WorldRefusal}
use Rattle.aoe_world.specs.declared.sim.Sim.{Sim}
use Rattle.aoe_world.specs.Schedule.{acts_of, hand_each, handings, Comes, ComesSome, Moves, MovesBy, MovesSome}
use Rattle.aoe_world.specs.Plan.{Knows}
use Rattle.aoe_world.specs.Sim.{IsLeft, IsReady}
use Rattle.aoe_world.specs.World.{refused_with, IsCounted, IsGoing, IsRefusedAt, IsStaged, IsWorld}

-- ACTS THAT ARE ASIDE

one-aside : (act : Act) → IsAside act → All IsAside (act ∷ [])
one-aside act t = All-cons IsAside act [] t (All-nil IsAside)

hands-aside : (frame : ℕ) (stations : List Station) → All IsAside (map (Hand frame) stations)
hands-aside frame [] = All-nil IsAside
hands-aside frame (s ∷ stations) = All-cons IsAside (Hand frame s) (map (Hand frame) stations) tt (hands-aside frame stations)

each-aside : (frame : ℕ) (stations : List Station) → All IsAside (hand_each frame stations)
each-aside frame [] = one-aside (Lose frame) tt
each-aside frame (s ∷ stations) = hands-aside frame (s ∷ stations)

handings-aside : (s : Setup) (places : List Placed) (h : List Entry) (frame : ℕ) → All IsAside (handings s places h frame)
handings-aside s places h frame = rw (handings-are (arriving s.life h frame) frame places) (each-aside frame (among places (arriving s.life h frame)))

-- EVENTS

asked : (host : ArrayVec ℕ) (dev : TargetId) (op : Op) (e : Event) → is_event e ≡ true → op_of e ≡ Some op → AreOfLine (Submit host dev op ∷ [])
asked host dev op e good same = inr (Submit host dev op, refl, record { event = e; good = good; same = same })

-- the acts of an event line
are-of-line : (s : Setup) (lines : List Line) (cursor : ℕ) (h : List Entry) (e : Event) → is_event e ≡ true → CanCome lines s e
    → AreOfLine (acts_of s lines cursor h e)
are-of-line s lines cursor h (Read host dev at count) good can = asked host dev _ (Read host dev at count) good refl
are-of-line s lines cursor h (Write host dev at count fill) good can = asked host dev _ (Write host dev at count fill) good refl
are-of-line s lines cursor h (Flush host dev) good can = asked host dev _ (Flush host dev) good refl
are-of-line s lines cursor h (Identify host dev) good can = asked host dev _ (Identify host dev) good refl
are-of-line s lines cursor h (Config host dev ccmd text) good can = asked host dev _ (Config host dev ccmd text) good refl
are-of-line s lines cursor h (Masks host dev edit dirs) good can = asked host dev _ (Masks host dev edit dirs) good refl
are-of-line s lines cursor h (Reserve host dev rcmd list) good can = asked host dev _ (Reserve host dev rcmd list) good refl
are-of-line s lines cursor h (TickLine ms) good can = inr (Tick ms, refl, can.1)
are-of-line s lines cursor h (Pass n) good can = inl (All-nil IsAside)
are-of-line s lines cursor h (Skip n) good can = inl (All-nil IsAside)
are-of-line s lines cursor h Again good can = inl (handings-aside s (stations_of lines) h (cursor - 1))
are-of-line s lines cursor h _ good can = inl (one-aside _ tt)

module _ {s : Setup} {acts : List Entry → ℕ → List Act} {cursor : ℕ} {h : List Entry} (all : (k : List Entry) (frame : ℕ) → All IsAside (acts k frame)) where
  moves-aside : {n behind : ℕ} {m : List Entry} → Moves s acts cursor h n behind m → Grows 0 0 h m
  moves-aside Moves.moves_none = grows-none
  moves-aside (Moves.moves_one {behind = behind} {m = m} before within follows) =
      grows-on (moves-aside before) (follows-aside s (acts m behind) m _ (all m behind) follows)

  moves-grow : {n behind : ℕ} {m : List Entry} → MovesBy s acts n cursor h behind m → GrowsByLine h m
  moves-grow by = little (moves-aside by.moves)

  moves-some : {n : ℕ} {m : List Entry} → MovesSome s acts n cursor h m → GrowsByLine h m
  moves-some {m = m} some =
      little (grows-on (moves-aside some.moves) (some-aside s (acts some.mid some.behind) some.mid m (all some.mid some.behind) some.follows))

comes-grows : (s : Setup) (lines : List Line) (e : Event) (cursor : ℕ) (h : List Entry) (behind : ℕ) (m : List Entry) → is_event e ≡ true → CanCome lines s e
    → Comes s lines e cursor h behind m → GrowsByLine h m
comes-grows s lines (Pass n) cursor h behind m good can by = moves-grow (handings-aside s (stations_of lines)) by
comes-grows s lines (Skip n) cursor h behind m good can by = moves-grow (λ k frame. one-aside (Lose frame) tt) by
comes-grows s lines e cursor h behind m good can (same, follows) =
    follows-grows s (acts_of s lines cursor h e) h m (are-of-line s lines cursor h e good can) follows

some-comes : (s : Setup) (lines : List Line) (e : Event) (cursor : ℕ) (h m : List Entry) → is_event e ≡ true → CanCome lines s e
    → ComesSome s lines e cursor h m → GrowsByLine h m
some-comes s lines (Pass n) cursor h m good can some = moves-some (handings-aside s (stations_of lines)) some
some-comes s lines (Skip n) cursor h m good can some = moves-some (λ k frame. one-aside (Lose frame) tt) some
some-comes s lines e cursor h m good can some = some-grows s (acts_of s lines cursor h e) h m (are-of-line s lines cursor h e good can) some

-- WORLDS

module _ {script : ScriptLines} {places : List Place} {old new : Sim} {cursor behind events : ℕ} {refused : Option WorldRefusal}
    (world : IsWorld script places old cursor events refused) (e : Event)
    (good : is_event e ≡ true) (can : CanCome script.setups (setup_of script.setups) e) where
  -- after an event of which all came
  pub stepped : refused ≡ None → Comes (setup_of script.setups) script.setups e cursor old.run.entries behind new.run.entries
      → IsReady (setup_of script.setups) (majors_of script.setups) new → (1 ≤ behind) × (behind ≤ suc (length (frames new.run.entries)))
      → IsWithin (frames new.run.entries) → IsWorld script places new behind (events + 1) refused
  stepped none comes ready at room =
      let grows = comes-grows (setup_of script.setups) script.setups e cursor old.run.entries behind new.run.entries good can comes in
      record {
        setup = world.setup;
        lawful = ready.lawful;
        room = room;
        lines_are = grows.lines_are world.lines_are;
        going = λ same.
            let going = world.going same in
            record {
              staged =
                  record {
                    good = going.staged.good;
                    network_is = going.staged.network_is;
                    places_are = going.staged.places_are;
                    from_one = at.0;
                    within = at.1;
                  };
              ready = ready;
              time = omega (arith, grows.time_is, going.time);
              tickets_are = λ host. omega (arith, grows.tickets_are host, going.tickets_are host);
            };
        refusal = rw none tt;
      }

  -- after an event that was refused
  pub stopped : (refusal : WorldRefusal) → ComesSome (setup_of script.setups) script.setups e cursor old.run.entries new.run.entries
      → IsLawful (setup_of script.setups) new.run.entries → IsWithin (frames new.run.entries) → IsCounted (setup_of script.setups) new.run.entries refusal
      → IsWorld script places new behind events (Some refusal)
  stopped refusal some lawful room at = record {
    setup = world.setup;
    lawful = lawful;
    room = room;
    lines_are = (some-comes (setup_of script.setups) script.setups e cursor old.run.entries new.run.entries good can some).lines_are world.lines_are;
    going = λ same. absurd cc;
    refusal = at;
  }

-- as long as a world goes on, all is known for one more line
pub knows-of : {script : ScriptLines} {places others : List Place} {sim : Sim} {cursor events : ℕ} → others ≡ places → IsGoing script places sim cursor events
    → events < 50000 → Knows script.setups others sim
knows-of same going few = record {
  network_is = going.staged.network_is;
  places_are = rw same going.staged.places_are;
  ready = going.ready;
  time = omega (arith, going.time, few);
  few = λ host. omega (arith, going.tickets_are host, few);
}

pub where-none : {X : Type 0} (refused : Option WorldRefusal) → X → IfNone refused X
where-none None y = y
where-none (Some refusal) y = tt

-- why a beginning is refused
pub refused-at : {s : Setup} {begins : List Entry → Type 0} (run : Recorded) (refusal : NetRefusal) (answer : WorldRefusal) → answer ≡ refused_with run refusal
    → IsLeft s begins refusal run.entries → IsRefusedAt s begins run.entries answer
refused-at run net.NoMemory answer is left = rw is tt
refused-at run (Full limit) answer is left = rw is ((refl, refl), left.full limit refl)

pub counted-at : (s : Setup) (run : Recorded) (refusal : NetRefusal) → IsCounted s run.entries (refused_with run refusal)
counted-at s run net.NoMemory = tt
counted-at s run (Full limit) = (refl, refl)

-- before any event
pub new-world : {script : ScriptLines} {places : List Place} {sim : Sim} {cursor : ℕ} → IsStaged script places sim cursor
    → IsReady (setup_of script.setups) (majors_of script.setups) sim → sim.run.entries ≡ [] → IsWorld script places sim cursor 0 None
new-world staged ready empty = record {
  setup = staged.network_is.setup;
  lawful = ready.lawful;
  room = rw empty (record { few = omega arith; small = omega arith });
  lines_are = rw empty (All-nil IsFromLine);
  going = λ same. record { staged = staged; ready = ready; time = rw empty (omega arith); tickets_are = λ host. rw empty (omega arith) };
  refusal = tt;
}
