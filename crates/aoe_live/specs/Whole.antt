-- A whole run, by how it ended.
use Rattle.std.specs.Prelude.{ℕ, ◌≡◌, ◌≤◌, ◌<◌, ◌-◌, ◌⊎◌, true, false, List, [], ◌∷◌, map, Option, IfSome, Result, Ok, Err, ◌+◌, length}
use Rattle.aoe_history.specs.declared.entry.Entry.{Entry}
use Rattle.aoe_history.specs.Frames.{clock}
use Rattle.aoe_io.specs.Link.{Added, Turned}
use Rattle.aoe_script.specs.declared.event.Event.{Event}
use Rattle.aoe_sim_setup.specs.Layout.{setup_of}
use Rattle.aoe_world.specs.Replay.{IsSound}
use Rattle.aoe_live.specs.declared.frames.Sender.TheVariants as sender
use Rattle.aoe_live.specs.declared.refusal.LiveRefusal.{LiveRefusal}
use Rattle.aoe_live.specs.declared.refusal.LiveRefusal.TheVariants as live
use Rattle.aoe_live.specs.Frames.{frames_by}
use Rattle.aoe_live.specs.Recorder.{is_link}
use Rattle.aoe_live.specs.Order.{has_outcome, InOrder}
use Rattle.aoe_live.specs.Rounds.{first_now, last_now, quiet_turns, AreRounds, GivesUp, InTurn, Round, Stopped, Wire}
use Rattle.aoe_live.specs.Stations.{stations}
use Rattle.aoe_live.specs.Tally.{submissions, is_over, tally_of}

-- the links and the clock at the begin of a run and later
pub record Outside : Type 0 where
  pub one : Wire
  pub two : Wire
  pub answers : Option (List ℕ)

abbrev pub outside : Wire → Wire → Option (List ℕ) → Outside
outside one two answers = record { one = one; two = two; answers = answers }

-- turns came, each link was asked once in each, and took the frames of the history's shelf, or of its host
pub record Came (sectors count turns : ℕ) (rounds : List Round) (h : List Entry) (events : List Event) (old new : Outside) : Type 0 where
  pub are : AreRounds sectors count turns rounds h events
  pub sound : IsSound (setup_of (stations sectors)) h
  pub turned_one : Turned old.one.turns new.one.turns old.one.given new.one.given (map (λ r. r.one) rounds)
  pub turned_two : Turned old.two.turns new.two.turns old.two.given new.two.given (map (λ r. r.two) rounds)
  pub took_one : Added old.one.taken new.one.taken (frames_by sender.Shelf h)
  pub took_two : Added old.two.taken new.two.taken (frames_by sender.Host h)
  pub told : IfSome new.answers (λ all. Added old.answers new.answers (map (λ r. r.now) rounds))
  pub time : (now : ℕ) → clock h + first_now rounds now ≡ last_now rounds now
  pub order : InOrder sectors count h

-- all turns are whole, and each command and the flush behind them has its outcome, none of them given up
pub record Finished (sectors count turns : ℕ) (events : List Event) (old new : Outside) : Type 0 where
  pub rounds : List Round
  pub entries : List Entry
  pub came : Came sectors count turns rounds entries events old new
  pub over : is_over count (tally_of entries) ≡ true
  pub all_asked : length (submissions entries) ≡ count + 1
  pub all_done : (ticket : ℕ) → 1 ≤ ticket → ticket ≤ count + 1 → has_outcome ticket entries ≡ true

-- all turns are whole, and too many in a row finished no command
pub record Idle (sectors count turns : ℕ) (old new : Outside) : Type 0 where
  pub rounds : List Round
  pub entries : List Entry
  pub events : List Event
  pub came : Came sectors count turns rounds entries events old new
  pub quiet : turns ≤ quiet_turns rounds

-- turns came, after which a run goes on, and in the next one, at this answer of the clock, something else
pub record Unfinished (sectors count turns : ℕ) (Breaks : List Round → ℕ → List Event → List Entry → List Entry → Outside → Type 0) (old new : Outside) : Type 0 where
  pub rounds : List Round
  pub entries : List Entry
  pub events : List Event
  pub mid : Outside
  pub came : Came sectors count turns rounds entries events old mid
  pub goes_on : is_over count (tally_of entries) ≡ false
  pub few_quiet : quiet_turns rounds < turns
  pub now : ℕ
  pub later : last_now rounds now ≤ now
  pub told : IfSome new.answers (λ all. Added mid.answers new.answers (now ∷ []))
  pub last : List Entry
  pub breaks : Breaks rounds now events entries last mid

-- with the lines that were recorded
abbrev pub with_lines : {T : Type 0} → Result T LiveRefusal → List Event → Result (List Event) LiveRefusal
with_lines (Ok u) events = Ok events
with_lines (Err refusal) events = Err refusal

-- Which is what, by the answer of a run. Memory is wanted before the first turn, by a line, or by the text of a run that finished.
abbrev pub Lives : (sectors count turns : ℕ) → Result (List Event) LiveRefusal → Outside → Outside → Type 0
Lives sectors count turns (Ok events) old new = Finished sectors count turns events old new
Lives sectors count turns (Err (live.Unanswered t)) old new =
    (t ≡ turns)
    × (Idle sectors count turns old new
    ⊎ Unfinished sectors count turns (λ rounds now events h k mid. GivesUp sectors (now - last_now rounds now) h k mid.one new.one mid.two new.two) old new)
Lives sectors count turns (Err (live.Full limit frames bytes)) old new =
    Unfinished sectors count turns
    (λ rounds now events h k mid. Stopped sectors (InTurn sectors count (now - last_now rounds now) h) (live.Full limit frames bytes) events h k mid.one new.one mid.two new.two) old new
Lives sectors count turns (Err live.TooMany) old new =
    Unfinished sectors count turns
    (λ rounds now events h k mid. Stopped sectors (InTurn sectors count (now - last_now rounds now) h) live.TooMany events h k mid.one new.one mid.two new.two) old new
Lives sectors count turns (Err (live.LinkFault link)) old new = is_link (live.LinkFault link) ≡ true
Lives sectors count turns (Err live.NoMemory) old new =
    (new ≡ old)
    ⊎ (Unfinished sectors count turns
    (λ rounds now events h k mid. Stopped sectors (InTurn sectors count (now - last_now rounds now) h) live.NoMemory events h k mid.one new.one mid.two new.two) old new
    ⊎ ((events : List Event) × Finished sectors count turns events old new))
