-- Lines that are recorded, and the histories that they make.
use Rattle.std.specs.Prelude.{ℕ, ◌/◌, ◌%◌, ◌==◌, ◌&&◌, nat_lt, not, Bool, true, false, List, [], ◌∷◌, ◌++◌, replicate, Option, Some, None, if◌then◌else◌}
use Rattle.arrayvec.specs.ArrayVec.{ArrayVec}
use Rattle.aoe_history.specs.declared.entry.Entry.{Entry}
use Rattle.aoe_io.specs.Link.{Added, Turn, came, quiet, ended}
use Rattle.aoe_script.specs.declared.event.Event.{Event}
use Rattle.aoe_script.specs.declared.event.Event.TheVariants.{Read, Write, Flush, Tick, Deliver}
use Rattle.aoe_script.specs.Rules.{longest_wait}
use Rattle.aoe_sim_setup.specs.Layout.{setup_of}
use Rattle.aoe_world.specs.Replay.{Plays}
use Rattle.aoe_world.specs.Schedule.{Comes}
use Rattle.aoe_live.specs.declared.frames.Sender.{Sender}
use Rattle.aoe_live.specs.declared.frames.Sender.TheVariants as sender
use Rattle.aoe_live.specs.declared.tally.Tally.{Tally}
use Rattle.aoe_live.specs.Frames.{frames_by, newest}
use Rattle.aoe_live.specs.Stations.{command, host_a, shelf_s, stations}

-- a line comes: the history before it and behind it; no line of these moves the cursor
abbrev pub LineComes : ℕ → Event → List Entry → List Entry → Type 0
LineComes sectors e h m = Comes (setup_of (stations sectors)) (stations sectors) e 1 h 1 m

-- these lines come, one after another
abbrev pub LinesCome : ℕ → List Event → List Entry → List Entry → Type 0
LinesCome sectors events h m = Plays (setup_of (stations sectors)) (stations sectors) events 1 h 1 m

-- it is one of the lines that are recorded
abbrev pub is_recorded : Event → Bool
is_recorded (Read host dev at count) = true
is_recorded (Write host dev at count fill) = true
is_recorded (Flush host dev) = true
is_recorded (Tick ms) = true
is_recorded (Deliver frame station) = true
is_recorded event = false

-- the lines by which so many milliseconds go by: the last of them has at most 10,000,000, and each other one has that many
abbrev pub ticks : ℕ → List Event
ticks ms = replicate (ms / longest_wait) (Tick longest_wait) ++ (if ms % longest_wait == 0 then [] else Tick (ms % longest_wait) ∷ [])

-- a frame is handed to the station that didn't send it
abbrev pub receiver : Sender → ArrayVec ℕ
receiver sender.Host = shelf_s
receiver sender.Shelf = host_a

abbrev pub delivery : Sender → Option ℕ → List Event
delivery s None = []
delivery s (Some number) = Deliver number (receiver s) ∷ []

-- the line of what a link brought: it is handed over where the sender sent the same bytes at most two seconds ago, and dropped else
abbrev pub handing : Sender → Turn → List Entry → List Event
handing s (came bytes) h = delivery s (newest s 2000 h bytes)
handing s quiet h = []
handing s ended h = []

-- the next command, where there is one and none is open
abbrev pub asking : (sectors count : ℕ) → Tally → List Event
asking sectors count t = if (t.ended == t.begun) && not (nat_lt count t.begun) then command sectors count t.begun ∷ [] else []

-- what a link has taken of a sender's frames goes on with the history
abbrev pub Carries : Sender → List Entry → List Entry → Option (List (List ℕ)) → Option (List (List ℕ)) → Type 0
Carries s h m before after = (start : Option (List (List ℕ))) → Added start before (frames_by s h) → Added start after (frames_by s m)
