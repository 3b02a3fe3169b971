-- The tool that finds the devices and asks them for their pages.
use Rattle.std.specs.Prelude.{ℕ, ◌≡◌, ◌≤◌, ◌<◌, List, [], ◌∷◌, ◌++◌, Option, Result, Err}
use Rattle.aoe_base.specs.declared.address.Mac.{Mac}
use Rattle.aoe_io.specs.Link.{Added, Turn, Turned}
use Rattle.aoe_tools.specs.Asking.{IsAnswered, responses}
use Rattle.aoe_tools.specs.Discovery.{finding_question, finding_request, unless_none}
use Rattle.aoe_tools.specs.Found.{found_in}
use Rattle.aoe_tools.specs.Visits.{AreOver, IsBroken, Visit, devices, learned, visit_asked, visit_asks, visit_turns}
use Rattle.aoe_tools.specs.Waiting.{Lasts, TookFront, asked, asked_at, waited}
use Rattle.aoe_tools.specs.declared.end.ToolRefusal.{ToolRefusal}
use Rattle.aoe_tools.specs.declared.end.ToolRefusal.TheVariants as tool
use Rattle.aoe_tools.specs.declared.found.Seen.{Seen}

-- the devices that these turns found
abbrev pub found_by : ℕ → Mac → List Turn → List Seen
found_by first port finding = found_in (responses (finding_question first port) finding)

-- what it has sent in these turns and in those of the visits that followed, the latest first
abbrev pub sent : ℕ → Mac → List Turn → List Visit → List (List ℕ)
sent first port finding visits = visit_asked first port visits ++ asked (finding_request first port) finding

-- what it sends before its next turn, where it isn't over
abbrev pub sends_next : ℕ → Mac → List Turn → List Visit → List (List ℕ)
sends_next first port finding [] = asked_at (finding_request first port) finding
sends_next first port finding (v ∷ earlier) = visit_asks first port (v ∷ earlier)

-- what it says: the devices, each with what its response said
abbrev pub says : ℕ → Mac → ℕ → List Visit → Result (List Seen) ToolRefusal
says first port limit visits = unless_none limit (learned first port visits)

-- It is over: the devices were found in all turns, and they were visited in their order, each until its response came or until it had been
-- waited for in all turns.
abbrev pub IsWhole : ℕ → Mac → ℕ → List Turn → List Visit → Type 0
IsWhole first port limit finding visits = (waited finding ≡ limit) × (devices visits ≡ found_by first port finding) × AreOver first port limit visits

-- it isn't over
abbrev pub IsPart : ℕ → Mac → ℕ → List Turn → List Visit → Type 0
IsPart first port limit finding [] = waited finding < limit
IsPart first port limit finding (v ∷ earlier) = (waited finding ≡ limit) × IsBroken first port limit (found_by first port finding) (v ∷ earlier)

-- How it ends: where the link didn't fail and there was memory it is over, says this, and the link took what it sent. Where the link
-- failed it isn't over, and the link took a front of that. There may be no memory only while the devices are found, for one that has
-- just answered.
abbrev pub Ends : Result (List Seen) ToolRefusal → ℕ → Mac → ℕ → List Turn → List Visit → Option (List (List ℕ)) → Option (List (List ℕ)) → Type 0
Ends (Err tool.LinkFault) first port limit finding visits before after =
    IsPart first port limit finding visits × TookFront (sends_next first port finding visits) (sent first port finding visits) before after
Ends (Err tool.NoMemory) first port limit finding visits before after =
    (visits ≡ []) × (waited finding ≤ limit) × IsAnswered (finding_question first port) finding × Added before after (sent first port finding visits)
Ends result first port limit finding visits before after =
    IsWhole first port limit finding visits × (result ≡ says first port limit visits) × Added before after (sent first port finding visits)

-- A run of it over a link: the turns in which the devices were found, the latest first, and then the visits to the devices.
pub record Stats (result : Result (List Seen) ToolRefusal) (first : ℕ) (port : Mac) (limit start turned' : ℕ) (given given' : Option (List Turn)) (taken taken' : Option (List (List ℕ))) : Type 0 where
  pub finding : List Turn
  pub visits : List Visit
  pub turned : Turned start turned' given given' (visit_turns visits ++ finding)
  pub lasts : Lasts limit finding
  pub ends : Ends result first port limit finding visits taken taken'
