-- The turns of a run, and how it ends.
use Rattle.std.specs.Prelude.{ℕ, ◌≡◌, ◌-◌, ◌+◌, ◌<◌, ◌==◌, ◌⊎◌, Bool, true, false, not, if◌then◌else◌, List, [], ◌∷◌, ◌++◌, Option, Some, None, ◌≤◌}
use Rattle.aoe_history.specs.declared.entry.Entry.{Entry}
use Rattle.aoe_io.specs.Link.{Turn, Turned}
use Rattle.aoe_script.specs.declared.event.Event.{Event}
use Rattle.aoe_world.specs.Replay.{IsSound}
use Rattle.aoe_sim_setup.specs.Layout.{setup_of}
use Rattle.aoe_live.specs.declared.frames.Sender.TheVariants as sender
use Rattle.aoe_live.specs.declared.refusal.LiveRefusal.{LiveRefusal}
use Rattle.aoe_live.specs.declared.refusal.LiveRefusal.TheVariants as live
use Rattle.aoe_live.specs.Lines.{asking, handing, ticks, Carries, LinesCome}
use Rattle.aoe_live.specs.Recorder.{is_link, Fails}
use Rattle.aoe_live.specs.Stations.{stations}
use Rattle.aoe_live.specs.Tally.{is_over, tally_of}

-- a turn: the clock's answer, what each link brought, and whether a command had its outcome
pub record Round : Type 0 where
  pub now : ℕ
  pub one : Turn
  pub two : Turn
  pub finishes : Bool

-- the four parts of a turn in which so much time goes by: the time, the frame of the shelf's link, that of the host's, the next command
pub record IsTurn (sectors count ms : ℕ) (one two : Turn) (h m : List Entry) (lines : List Event) : Type 0 where
  pub passed : List Entry
  pub asked : List Entry
  pub answered : List Entry
  pub time : LinesCome sectors (ticks ms) h passed
  pub goes_on : (tally_of passed).gave_up ≡ false
  pub to_shelf : LinesCome sectors (handing sender.Host one passed) passed asked
  pub to_host : LinesCome sectors (handing sender.Shelf two asked) asked answered
  pub asks : LinesCome sectors (asking sectors count (tally_of answered)) answered m
  pub lines_are : lines ≡ ticks ms ++ ((handing sender.Host one passed ++ handing sender.Shelf two asked) ++ asking sectors count (tally_of answered))

-- what a link tells: its turns, what it gave and what it took
pub record Wire : Type 0 where
  pub turns : ℕ
  pub given : Option (List Turn)
  pub taken : Option (List (List ℕ))

abbrev pub wire : ℕ → Option (List Turn) → Option (List (List ℕ)) → Wire
wire turns given taken = record { turns = turns; given = given; taken = taken }

-- what passed over the two links while a history grew: what each brought, the latest first, and the frames that it took
pub record OverLinks (first second : List Turn) (h m : List Entry) (one one' two two' : Wire) : Type 0 where
  pub turned_one : Turned one.turns one'.turns one.given one'.given first
  pub turned_two : Turned two.turns two'.turns two.given two'.given second
  pub carries_one : Carries sender.Shelf h m one.taken one'.taken
  pub carries_two : Carries sender.Host h m two.taken two'.taken

-- a turn that is whole: its lines, what each link brought and took, and whether a command had its outcome
pub record Taken (sectors count ms : ℕ) (finishes : Bool) (h m : List Entry) (before events : List Event) (one one' two two' : Wire) : Type 0 where
  pub first : Turn
  pub second : Turn
  pub lines : List Event
  pub turn : IsTurn sectors count ms first second h m lines
  pub lines_are : events ≡ before ++ lines
  pub finishes_is : finishes ≡ not ((tally_of m).ended == (tally_of h).ended)
  pub over : OverLinks (first ∷ []) (second ∷ []) h m one one' two two'

-- the two parts in the middle
pub record IsExchange (sectors : ℕ) (one two : Turn) (h m : List Entry) (lines : List Event) : Type 0 where
  pub asked : List Entry
  pub to_shelf : LinesCome sectors (handing sender.Host one h) h asked
  pub to_host : LinesCome sectors (handing sender.Shelf two asked) asked m
  pub lines_are : lines ≡ handing sender.Host one h ++ handing sender.Shelf two asked

-- the clock's answer before this one, where there is one
abbrev pub or_now : Option ℕ → ℕ → ℕ
or_now None now = now
or_now (Some last) now = last

-- what the clock said in the turn before, or says now in the first one
abbrev pub last_now : List Round → ℕ → ℕ
last_now [] now = now
last_now (r ∷ rounds) now = r.now

-- what it said in the first one
abbrev pub first_now : List Round → ℕ → ℕ
first_now [] now = now
first_now (r ∷ rounds) now = first_now rounds r.now

-- how many of the latest turns in a row finished no command: after one more turn, and of all of them
abbrev pub quiet_by : Bool → ℕ → ℕ
quiet_by finishes quiet = if finishes then 0 else quiet + 1

abbrev pub quiet_turns : List Round → ℕ
quiet_turns [] = 0
quiet_turns (r ∷ rounds) = quiet_by r.finishes (quiet_turns rounds)

-- a turn behind others, and whether it finished a command
pub record IsRound (sectors count ms : ℕ) (r : Round) (before h : List Entry) (earlier events : List Event) : Type 0 where
  pub lines : List Event
  pub turn : IsTurn sectors count ms r.one r.two before h lines
  pub events_are : events ≡ earlier ++ lines
  pub finishes : r.finishes ≡ not ((tally_of h).ended == (tally_of before).ended)

-- the turns of a run, the latest first, with the history and the lines that they made: before each, not all commands had their outcome,
-- and not too many turns in a row had finished none
abbrev pub AreRounds : (sectors count turns : ℕ) → List Round → List Entry → List Event → Type 0
AreRounds sectors count turns [] h events = (h ≡ []) × (events ≡ [])
AreRounds sectors count turns (r ∷ rounds) h events =
    (before : List Entry) × (earlier : List Event) × AreRounds sectors count turns rounds before earlier × (quiet_turns rounds < turns)
    × (last_now rounds r.now ≤ r.now)
    × (is_over count (tally_of before) ≡ false) × IsRound sectors count (r.now - last_now rounds r.now) r before h earlier events

-- A TURN THAT ISN'T FINISHED

-- a line is one of these, and stands right behind those
pub record StandsIn (part lines : List Event) (next : Event) : Type 0 where
  pub behind : List Event
  pub part_is : part ≡ lines ++ next ∷ behind

-- it hands over what the shelf's link brought, and stands behind the time
pub record InFirst (sectors ms : ℕ) (one : Turn) (h m : List Entry) (lines : List Event) (next : Event) : Type 0 where
  pub time : LinesCome sectors (ticks ms) h m
  pub goes_on : (tally_of m).gave_up ≡ false
  pub lines_are : lines ≡ ticks ms
  pub hands : handing sender.Host one m ≡ next ∷ []

-- it hands over what the host's link brought, and stands behind the time and the frame of the shelf's link
pub record InSecond (sectors ms : ℕ) (one two : Turn) (h m : List Entry) (lines : List Event) (next : Event) : Type 0 where
  pub passed : List Entry
  pub time : LinesCome sectors (ticks ms) h passed
  pub goes_on : (tally_of passed).gave_up ≡ false
  pub to_shelf : LinesCome sectors (handing sender.Host one passed) passed m
  pub lines_are : lines ≡ ticks ms ++ handing sender.Host one passed
  pub hands : handing sender.Shelf two m ≡ next ∷ []

-- it is the next command, and stands behind the other three parts
pub record InAsking (sectors count ms : ℕ) (one two : Turn) (h m : List Entry) (lines : List Event) (next : Event) : Type 0 where
  pub passed : List Entry
  pub handed : List Event
  pub time : LinesCome sectors (ticks ms) h passed
  pub goes_on : (tally_of passed).gave_up ≡ false
  pub exchange : IsExchange sectors one two passed m handed
  pub lines_are : lines ≡ ticks ms ++ handed
  pub asks : asking sectors count (tally_of m) ≡ next ∷ []

-- in which part of a turn a line stands, behind these of the turn, by what each link brought in it:
-- while time goes by no link was asked, and before the frame of the shelf's link is handed over only that one
abbrev pub InTurn : (sectors count ms : ℕ) → List Entry → (first second : List Turn) → List Entry → List Event → Event → Type 0
InTurn sectors count ms h [] [] m lines next = StandsIn (ticks ms) lines next
InTurn sectors count ms h (one ∷ []) [] m lines next = InFirst sectors ms one h m lines next
InTurn sectors count ms h (one ∷ []) (two ∷ []) m lines next = InSecond sectors ms one two h m lines next ⊎ InAsking sectors count ms one two h m lines next
InTurn sectors count ms h first second m lines next = ⊥

-- a line wasn't recorded: where it stands, the lines before it, which came, what passed over the links, and the cause
pub record Stopped (sectors : ℕ) (Stands : List Turn → List Turn → List Entry → List Event → Event → Type 0) (refusal : LiveRefusal) (before : List Event) (h k : List Entry) (one one' two two' : Wire) : Type 0 where
  pub first : List Turn
  pub second : List Turn
  pub lines : List Event
  pub next : Event
  pub mid : List Entry
  pub stands : Stands first second mid lines next
  pub come : LinesCome sectors lines h mid
  pub fails : Fails sectors refusal (before ++ lines) next mid k
  pub over : OverLinks first second h mid one one' two two'

-- behind the first part of a turn a command was given up; no link was asked in it
pub record GivesUp (sectors ms : ℕ) (h k : List Entry) (one one' two two' : Wire) : Type 0 where
  pub time : LinesCome sectors (ticks ms) h k
  pub gave_up : (tally_of k).gave_up ≡ true
  pub sound : IsSound (setup_of (stations sectors)) k
  pub over : OverLinks [] [] h k one one' two two'

-- how a turn ends that isn't finished
abbrev pub TurnEnds : (sectors count turns ms : ℕ) → LiveRefusal → List Event → List Entry → List Entry → (one one' two two' : Wire) → Type 0
TurnEnds sectors count turns ms (live.Unanswered t) before h k one one' two two' = (t ≡ turns) × GivesUp sectors ms h k one one' two two'
TurnEnds sectors count turns ms (live.Full limit frames bytes) before h k one one' two two' = Stopped sectors (InTurn sectors count ms h) (live.Full limit frames bytes) before h k one one' two two'
TurnEnds sectors count turns ms live.TooMany before h k one one' two two' = Stopped sectors (InTurn sectors count ms h) live.TooMany before h k one one' two two'
TurnEnds sectors count turns ms (live.LinkFault link) before h k one one' two two' = is_link (live.LinkFault link) ≡ true
TurnEnds sectors count turns ms live.NoMemory before h k one one' two two' = Stopped sectors (InTurn sectors count ms h) live.NoMemory before h k one one' two two'
