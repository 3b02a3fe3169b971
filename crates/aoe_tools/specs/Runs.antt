-- What a run of each tool is, over a link and a clock that tell what they gave.
use Rattle.std.specs.Prelude.{ℕ, ◌≡◌, Bool, true, false, List, Option, Some, None, Result, Ok, Err}
use Rattle.arrayvec.specs.ArrayVec.{ArrayVec}
use Rattle.aoe_base.specs.Addresses.{broadcast}
use Rattle.aoe_base.specs.declared.address.Mac.{Mac}
use Rattle.aoe_base.specs.declared.address.TargetId.{TargetId}
use Rattle.aoe_initiator.specs.Request.{request}
use Rattle.aoe_initiator.specs.declared.op.FlushCommand.TheVariants.{CacheExt}
use Rattle.aoe_initiator.specs.declared.op.Op.{Op}
use Rattle.aoe_initiator.specs.declared.op.Op.TheVariants as op
use Rattle.aoe_io.specs.Link.{Turn}
use Rattle.aoe_lists.specs.declared.dir.Dir.{Dir}
use Rattle.aoe_tools.specs.Asking.{Answers, tag_of}
use Rattle.aoe_tools.specs.Guard.{held_back, masks_in}
use Rattle.aoe_tools.specs.Discovery.{Discovers, finding_question, finding_request}
use Rattle.aoe_tools.specs.One.{AsksOne, edits_by}
use Rattle.aoe_tools.specs.Stat.{Stats}
use Rattle.aoe_tools.specs.LookUp.{LinkState}
use Rattle.aoe_tools.specs.declared.end.Refusal.{Refusal}
use Rattle.aoe_tools.specs.declared.end.ToolRefusal.{ToolRefusal}
use Rattle.aoe_tools.specs.declared.end.ToolRefusal.TheVariants as tool
use Rattle.aoe_tools.specs.declared.found.Seen.{Seen}
use Rattle.aoe_tools.specs.declared.question.Ask.{Ask}
use Rattle.aoe_tools.specs.declared.question.Question.{Question}
use Rattle.aoe_tools.specs.declared.question.Subject.{Subject}
use Rattle.aoe_tools.specs.declared.question.Subject.TheVariants as subject

-- what a clock and a link tell before a run and after it: the least that the clock can answer next and its answers, the turns of the
-- link, and the frames that it gave and took
pub record Told : Type 0 where
  pub least : ℕ
  pub answers : Option (List ℕ)
  pub answers' : Option (List ℕ)
  pub turns : ℕ
  pub turns' : ℕ
  pub given : Option (List Turn)
  pub given' : Option (List Turn)
  pub taken : Option (List (List ℕ))
  pub taken' : Option (List (List ℕ))

-- of a clock and a link, by what each tells of itself
abbrev pub told : {C L : Type 0} → (C → ℕ) → (C → Option (List ℕ)) → (L → ℕ) → (L → Option (List Turn)) → (L → Option (List (List ℕ))) → C → C → L → L → Told
told least answers turns given taken clock clock' link link' = record {
  least = least clock;
  answers = answers clock;
  answers' = answers clock';
  turns = turns link;
  turns' = turns link';
  given = given link;
  given' = given link';
  taken = taken link;
  taken' = taken link';
}

-- the first question of a tool to a device, by the clock's first answer
abbrev pub question : Subject → TargetId → Ask → ℕ → Question
question s id ask first = record { subject = s; id = Some id; port = ask.port; tag = tag_of first 0 }

-- the operation, which is no flush, was asked of the device, from all stations, with the clock's first answer in its tag
abbrev pub RunsOne : Result (ArrayVec ℕ) ToolRefusal → Subject → Op → TargetId → Ask → Told → Type 0
RunsOne result s o id ask t = (first : ℕ) × Answers first t.least t.answers t.answers'
    × AsksOne result (question s id ask first) (request CacheExt o id broadcast ask.port (tag_of first 0)) ask.turns t.turns t.turns' t.given t.given' t.taken t.taken'

-- its config string was asked for, with this command and string
abbrev pub RunsConfig : Result (ArrayVec ℕ) ToolRefusal → ℕ → List ℕ → TargetId → Ask → Told → Type 0
RunsConfig result ccmd text id ask t = RunsOne result subject.Config (op.Config ccmd text) id ask t

-- what its link tells before and after
abbrev pub before : Told → LinkState
before t = record { turns = t.turns; given = t.given; taken = t.taken }

abbrev pub after : Told → LinkState
after t = record { turns = t.turns'; given = t.given'; taken = t.taken' }

-- its mask list was asked for, edited by these directives where there are any, by request i of a tool
abbrev pub masks_question : TargetId → Ask → ℕ → ℕ → Question
masks_question id ask first i = record { subject = subject.Masks; id = Some id; port = ask.port; tag = tag_of first i }

abbrev pub masks_frame : Option (List Dir) → TargetId → Ask → ℕ → ℕ → List ℕ
masks_frame dirs id ask first i =
    request CacheExt (op.Masks (edits_by dirs).0 (record { items = (edits_by dirs).1 })) id broadcast ask.port (tag_of first i)

abbrev pub AsksMasks : Result (ArrayVec ℕ) ToolRefusal → Option (List Dir) → TargetId → Ask → ℕ → ℕ → LinkState → LinkState → Type 0
AsksMasks result dirs id ask first i from to =
    AsksOne result (masks_question id ask first i) (masks_frame dirs id ask first i) ask.turns from.turns to.turns from.given to.given from.taken to.taken

-- unless something holds the edit back, it was asked for; else nothing was
abbrev pub EditsUnless : Option Refusal → Result (ArrayVec ℕ) ToolRefusal → List Dir → TargetId → Ask → ℕ → LinkState → LinkState → Type 0
EditsUnless (Some r) result dirs id ask first mid to = (result ≡ Err (tool.Refused r)) × (to ≡ mid)
EditsUnless None result dirs id ask first mid to = AsksMasks result (Some dirs) id ask first 1 mid to

-- the list decides whether it is asked for; where there is none nothing more was asked
abbrev pub EditsBy : Result (ArrayVec ℕ) ToolRefusal → Result (ArrayVec ℕ) ToolRefusal → List Dir → TargetId → Ask → ℕ → LinkState → LinkState → Type 0
EditsBy (Ok list) result dirs id ask first mid to = EditsUnless (held_back ask.port dirs (masks_in list.items)) result dirs id ask first mid to
EditsBy (Err e) result dirs id ask first mid to = (result ≡ Err e) × (to ≡ mid)

-- the list was read, and then the edit was asked for, unless it was held back
pub record EditsGuarded (result : Result (ArrayVec ℕ) ToolRefusal) (dirs : List Dir) (id : TargetId) (ask : Ask) (first : ℕ) (from to : LinkState) : Type 0 where
  pub mid : LinkState
  pub list : Result (ArrayVec ℕ) ToolRefusal
  pub reads : AsksMasks list None id ask first 0 from mid
  pub edits : EditsBy list result dirs id ask first mid to

-- a read, and an edit that is asked for anyway, are one request
abbrev pub MasksBy : Result (ArrayVec ℕ) ToolRefusal → Option (List Dir) → Bool → TargetId → Ask → ℕ → LinkState → LinkState → Type 0
MasksBy result None anyway id ask first from to = AsksMasks result None id ask first 0 from to
MasksBy result (Some dirs) true id ask first from to = AsksMasks result (Some dirs) id ask first 0 from to
MasksBy result (Some dirs) false id ask first from to = EditsGuarded result dirs id ask first from to

abbrev pub RunsMasks : Result (ArrayVec ℕ) ToolRefusal → Option (List Dir) → Bool → TargetId → Ask → Told → Type 0
RunsMasks result dirs anyway id ask t =
    (first : ℕ) × Answers first t.least t.answers t.answers' × MasksBy result dirs anyway id ask first (before t) (after t)

-- its reserve list was asked for, with this command and list
abbrev pub RunsReserves : Result (ArrayVec ℕ) ToolRefusal → ℕ → List Mac → TargetId → Ask → Told → Type 0
RunsReserves result rcmd list id ask t = RunsOne result subject.Reserve (op.Reserve rcmd (record { items = list })) id ask t

-- every device was asked for its config string
abbrev pub RunsDiscovery : Result (List Seen) ToolRefusal → Ask → Told → Type 0
RunsDiscovery result ask t = (first : ℕ) × Answers first t.least t.answers t.answers'
    × Discovers result (finding_question first ask.port) (finding_request first ask.port) ask.turns t.turns t.turns' t.given t.given' t.taken t.taken'

-- the devices were found so, and then asked for their pages
abbrev pub RunsStat : Result (List Seen) ToolRefusal → Ask → Told → Type 0
RunsStat result ask t = (first : ℕ) × Answers first t.least t.answers t.answers'
    × Stats result first ask.port ask.turns t.turns t.turns' t.given t.given' t.taken t.taken'
