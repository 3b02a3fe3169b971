-- What the functions of a recorder do: they record lines, until one finds no room.
use Rattle.std.specs.Prelude.{ℕ, ◌≡◌, ◌≢◌, ◌≤◌, ◌+◌, Bool, true, false, nat_lt, List, [], ◌∷◌, ◌++◌, Option, Result, Err, IfErr, OnOk}
use Rattle.aoe_base.specs.Faults.{Rose}
use Rattle.aoe_history.specs.declared.entry.Entry.{Entry}
use Rattle.aoe_io.specs.Link.{Turn}
use Rattle.aoe_script.specs.declared.event.Event.{Event}
use Rattle.aoe_live.specs.declared.frames.Sender.TheVariants as sender
use Rattle.aoe_live.specs.declared.recorder.Recorder.{Recorder}
use Rattle.aoe_live.specs.declared.refusal.LiveRefusal.{LiveRefusal}
use Rattle.aoe_live.specs.declared.refusal.LiveRefusal.TheVariants as live
use Rattle.aoe_live.specs.Lines.{handing, LinesCome}
use Rattle.aoe_live.specs.Recorder.{is_unrecorded}
use Rattle.aoe_live.specs.Rounds.{wire, IsExchange, OverLinks, StandsIn, Stopped, Wire}

-- the two links, by what each tells
pub record Links : Type 0 where
  pub one : Wire
  pub two : Wire

abbrev pub links : {L : Type 0} → (L → ℕ) → (L → Option (List Turn)) → (L → Option (List (List ℕ))) → L → L → Links
links turns given taken one two = record { one = wire (turns one) (given one) (taken one); two = wire (turns two) (given two) (taken two) }

-- these lines were recorded and came, while the links brought this, the latest first
pub record Recorded (first second : List Turn) (lines : List Event) (old new : Recorder) (before after : Links) : Type 0 where
  pub come : LinesCome old.sectors lines old.world.entries new.world.entries
  pub lines_are : new.script.events ≡ old.script.events ++ lines
  pub over : OverLinks first second old.world.entries new.world.entries before.one after.one before.two after.two

-- a refusal of a line: that no command was answered is none, and there are two links
abbrev pub is_of_line : LiveRefusal → Bool
is_of_line (live.Unanswered turns) = false
is_of_line (live.LinkFault link) = nat_lt link 2
is_of_line refusal = true

-- a function does its whole work; or a line of it isn't recorded, which stands so; or a link failed
pub record Does {T : Type 0} (Whole : Type 0) (Stands : List Turn → List Turn → List Entry → List Event → Event → Type 0) (result : Result T LiveRefusal) (old new : Recorder) (before after : Links) : Type 0 where
  pub whole : OnOk result Whole
  pub stops : IfErr result (λ refusal. is_unrecorded refusal ≡ true → Stopped old.sectors Stands refusal old.script.events old.world.entries new.world.entries before.one after.one before.two after.two)
  pub why : IfErr result (λ refusal. is_of_line refusal ≡ true)
  pub sectors : new.sectors ≡ old.sectors
  pub commands : new.commands ≡ old.commands

-- a line is one of these, and no link was asked
abbrev pub Among : List Event → (first second : List Turn) → List Entry → List Event → Event → Type 0
Among part [] [] m lines next = StandsIn part lines next
Among part first second m lines next = ⊥

-- these lines are recorded, one after another, and no link is asked
abbrev pub Steps : {T : Type 0} → List Event → Result T LiveRefusal → Recorder → Recorder → Links → Links → Type 0
Steps lines result old new before after = Does (Recorded [] [] lines old new before after) (Among lines) result old new before after

-- each link was asked once, and what it brought was handed over
pub record Exchanged (old new : Recorder) (before after : Links) : Type 0 where
  pub first : Turn
  pub second : Turn
  pub lines : List Event
  pub exchange : IsExchange old.sectors first second old.world.entries new.world.entries lines
  pub recorded : Recorded (first ∷ []) (second ∷ []) lines old new before after

-- a line hands over what the link brought that was asked last
abbrev pub InExchange : ℕ → List Entry → (first second : List Turn) → List Entry → List Event → Event → Type 0
InExchange sectors h (one ∷ []) [] m lines next = (m ≡ h) × (lines ≡ []) × (handing sender.Host one m ≡ next ∷ [])
InExchange sectors h (one ∷ []) (two ∷ []) m lines next =
    LinesCome sectors (handing sender.Host one h) h m × (lines ≡ handing sender.Host one h) × (handing sender.Shelf two m ≡ next ∷ [])
InExchange sectors h first second m lines next = ⊥

-- each link is asked once
abbrev pub Exchanges : {T : Type 0} → Result T LiveRefusal → Recorder → Recorder → Links → Links → Type 0
Exchanges result old new before after = Does (Exchanged old new before after) (InExchange old.sectors old.world.entries) result old new before after

-- a link failed at most once, and just where the answer says so
pub record Blames {T : Type 0} (result : Result T LiveRefusal) (link faults faults' : ℕ) : Type 0 where
  pub count : faults ≤ faults'
  pub cause : result ≡ Err (live.LinkFault link) → Rose faults faults'
  pub no_fault : result ≢ Err (live.LinkFault link) → faults' ≡ faults
  pub one_fault : faults' ≤ faults + 1
