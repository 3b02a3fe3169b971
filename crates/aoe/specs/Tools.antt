-- What the tools ask and say, and how they end.
use Rattle.std.specs.Prelude.{ℕ, ◌≡◌, ◌≤◌, Bool, true, false, not, List, [], Option, Result, Ok, Err, option_map}
use Rattle.arrayvec.specs.ArrayVec.{ArrayVec}
use Rattle.aoe_base.specs.declared.failure.NoMemory.{NoMemory}
use Rattle.aoe_base.specs.Sizes.{longest_lifetime}
use Rattle.aoe_base.specs.declared.counted.Lifetimes.{Lifetimes}
use Rattle.aoe_copy.specs.Puts.{Flushes, Puts}
use Rattle.aoe_copy.specs.Runs.{Copies}
use Rattle.aoe_copy.specs.declared.end.CopyRefusal.{CopyRefusal}
use Rattle.aoe_copy.specs.declared.end.CopyRefusal.TheVariants as copy
use Rattle.aoe_copy.specs.declared.terms.Terms.{Terms}
use Rattle.aoe_io.specs.Bytes.{Took, TookSome}
use Rattle.aoe_lists.specs.declared.dir.Dir.{Dir}
use Rattle.aoe_tools.specs.Runs.{RunsConfig, RunsDiscovery, RunsMasks, RunsReserves, RunsStat, Told}
use Rattle.aoe_tools.specs.Text.{config_text, found_text, masks_text, reserves_text, stat_text}
use Rattle.aoe_tools.specs.declared.end.ToolRefusal.{ToolRefusal}
use Rattle.aoe_tools.specs.declared.end.ToolRefusal.TheVariants as refusal
use Rattle.aoe_tools.specs.declared.found.Seen.{Seen}
use Rattle.aoe_tools.specs.declared.question.Ask.{Ask}
use Rattle.aoe_args.specs.declared.command.Asking.{Asking}
use Rattle.aoe_args.specs.declared.command.Cfg.{Cfg}
use Rattle.aoe_args.specs.declared.command.Discover.{Discover}
use Rattle.aoe_args.specs.declared.command.Flush.{Flush}
use Rattle.aoe_args.specs.declared.command.Get.{Get}
use Rattle.aoe_args.specs.declared.command.Mask.{Mask}
use Rattle.aoe_args.specs.declared.command.Put.{Put}
use Rattle.aoe_args.specs.declared.command.Reserve.{Reserve}
use Rattle.aoe_args.specs.declared.command.Stat.{Stat}
use Rattle.aoe_args.specs.declared.command.Tool.{Tool}
use Rattle.aoe_args.specs.declared.command.Tool.TheVariants as tool
use Rattle.aoe.specs.declared.status.Status.{Status}
use Rattle.aoe.specs.declared.status.Status.TheVariants as status

-- who asks, and how long it listens
abbrev pub ask_of : Asking → Ask
ask_of asking = record { port = asking.port; turns = asking.turns }

-- the most sectors of a command of a copy: as many as a frame of 9018 bytes has room for
abbrev pub most_sectors : ℕ
most_sectors = 17

-- a frame can be on its way for so many milliseconds, whatever it is
abbrev pub lifetimes : ℕ → Lifetimes
lifetimes lifetime = record { requests = record { 0 = lifetime }; responses = record { 0 = lifetime } }

-- who copies, how long it waits, and how long a frame can be on its way
abbrev pub terms_of : Asking → ℕ → Terms
terms_of asking lifetime = record { ask = ask_of asking; life = lifetimes lifetime; most = most_sectors }

-- the directives of an edit
abbrev pub dirs_of : Mask → Option (List Dir)
dirs_of asked = option_map (λ dirs. dirs.items) asked.dirs

-- a text, or that there is no memory for it
abbrev pub said : Result (List ℕ) NoMemory → Result (List ℕ) ToolRefusal
said (Ok text) = Ok text
said (Err none) = Err refusal.NoMemory

-- what is said of what a tool gave: its text, unless there is no memory for it; or the refusal
abbrev pub IsSaid : {T : Type 0} → (T → List ℕ) → Result T ToolRefusal → Result (List ℕ) ToolRefusal → Type 0
IsSaid text (Ok given) (Ok said) = said ≡ text given
IsSaid text (Ok given) (Err r) = r ≡ refusal.NoMemory
IsSaid text (Err r) said = said ≡ Err r

-- `discover` ran, and says this of the devices
abbrev pub SaysFound : Discover → Result (List ℕ) ToolRefusal → Told → Type 0
SaysFound asked said t = (given : Result (List Seen) ToolRefusal) × RunsDiscovery given (ask_of asked.asking) t × IsSaid (found_text asked.long) given said

-- `stat` ran, and says this of them
abbrev pub SaysStat : Stat → Result (List ℕ) ToolRefusal → Told → Type 0
SaysStat asked said t = (given : Result (List Seen) ToolRefusal) × RunsStat given (ask_of asked.asking) t × IsSaid (stat_text asked.sectors) given said

-- `cfg` ran, and says this of the string
abbrev pub SaysConfig : Cfg → Result (List ℕ) ToolRefusal → Told → Type 0
SaysConfig asked said t = (given : Result (ArrayVec ℕ) ToolRefusal)
    × RunsConfig given asked.ccmd asked.text.items asked.id (ask_of asked.asking) t × IsSaid (λ args. config_text args.items) given said

-- `mask` ran, and says this of the mask list
abbrev pub SaysMasks : Mask → Result (List ℕ) ToolRefusal → Told → Type 0
SaysMasks asked said t =
    (given : Result (ArrayVec ℕ) ToolRefusal) × RunsMasks given (dirs_of asked) asked.anyway asked.id (ask_of asked.asking) t
    × IsSaid (λ args. masks_text args.items) given said

-- `reserve` ran, and says this of the reserve list
abbrev pub SaysReserves : Reserve → Result (List ℕ) ToolRefusal → Told → Type 0
SaysReserves asked said t = (given : Result (ArrayVec ℕ) ToolRefusal)
    × RunsReserves given asked.rcmd asked.list.items asked.id (ask_of asked.asking) t × IsSaid (λ args. reserves_text args.items) given said

-- `flush` ran, and says nothing
abbrev pub SaysFlush : Flush → Result (List ℕ) ToolRefusal → Told → Type 0
SaysFlush asked said t = (flushed : Result Unit ToolRefusal) × Flushes flushed (terms_of asked.asking asked.lifetime) asked.id t × IsSaid (λ done. []) flushed said

-- a tool ran, and says this
abbrev pub Says : Tool → Result (List ℕ) ToolRefusal → Told → Type 0
Says (tool.Discover asked) said t = SaysFound asked said t
Says (tool.Stat asked) said t = SaysStat asked said t
Says (tool.Cfg asked) said t = SaysConfig asked said t
Says (tool.Mask asked) said t = SaysMasks asked said t
Says (tool.Reserve asked) said t = SaysReserves asked said t
Says (tool.Flush asked) said t = SaysFlush asked said t

-- what a tool has to be given
abbrev pub CanAsk : Tool → Type 0
CanAsk (tool.Discover asked) = Unit {0}
CanAsk (tool.Stat asked) = Unit {0}
CanAsk (tool.Cfg asked) = asked.ccmd ≤ 4
CanAsk (tool.Mask asked) = Unit {0}
CanAsk (tool.Reserve asked) = asked.rcmd ≤ 2
CanAsk (tool.Flush asked) = asked.lifetime ≤ longest_lifetime

-- the status of a tool that ended without its answer
abbrev pub tool_status : ToolRefusal → Status
tool_status refusal.LinkFault = status.LinkFault 0
tool_status refusal.NoMemory = status.NoMemory
tool_status (refusal.Unanswered turns) = status.Unanswered turns
tool_status (refusal.Refused r) = status.Refused r

-- the statuses that a tool can end with
abbrev pub is_tool_status : Status → Bool
is_tool_status status.Ok = true
is_tool_status status.SinkFault = true
is_tool_status (status.LinkFault link) = true
is_tool_status status.NoMemory = true
is_tool_status (status.Unanswered turns) = true
is_tool_status (status.Refused r) = true
is_tool_status s = false

-- what becomes of what is said: a text is written, whole or where the sink fails a front of it; a refusal is the status
abbrev pub TakesSaid : Status → Result (List ℕ) ToolRefusal → Option (List ℕ) → Option (List ℕ) → Type 0
TakesSaid status.Ok (Ok text) held held' = Took held held' text
TakesSaid status.SinkFault (Ok text) held held' = TookSome held held' text
TakesSaid s (Ok text) held held' = ⊥
TakesSaid s (Err r) held held' = (s ≡ tool_status r) × (held' ≡ held)

-- a run of a tool over a link and a clock: it ended so, and a sink took what it says
pub record RunsTool (tool : Tool) (s : Status) (held held' : Option (List ℕ)) (t : Told) : Type 0 where
  pub said : Result (List ℕ) ToolRefusal
  pub says : Says tool said t
  pub writes : TakesSaid s said held held'

-- the status of a tool that ended without having copied sectors
abbrev pub copy_status : CopyRefusal → Status
copy_status (copy.Tool r) = tool_status r
copy_status (copy.Stream offset) = status.Stream offset
copy_status copy.SourceFault = status.SourceFault
copy_status copy.SinkFault = status.SinkFault

abbrev pub copied : Result Unit CopyRefusal → Status
copied (Ok done) = status.Ok
copied (Err r) = copy_status r

-- the statuses that it can end with
abbrev pub is_copy_status : Status → Bool
is_copy_status (status.Stream offset) = true
is_copy_status status.SourceFault = true
is_copy_status s = is_tool_status s

-- `get` ran over a link and a clock, a sink took what it read as it came, and the status tells how it ended
pub record CopiesOut (asked : Get) (s : Status) (held held' : Option (List ℕ)) (t : Told) : Type 0 where
  pub result : Result Unit CopyRefusal
  pub runs : Copies result (terms_of asked.asking asked.lifetime) asked.id asked.at asked.count t held held'
  pub ends : s ≡ copied result

-- `put` ran over a source, a link and a clock, with a flush at its end unless it was asked for without, and the status tells how it ended
pub record CopiesIn (asked : Put) (s : Status) (left left' : Option (List ℕ)) (t : Told) : Type 0 where
  pub result : Result Unit CopyRefusal
  pub runs : Puts result (terms_of asked.asking asked.lifetime) asked.id asked.at (not asked.no_flush) asked.verify t left left'
  pub ends : s ≡ copied result
