-- The devices that were found are asked for their pages, one after the other.
use Rattle.std.specs.Prelude.{ℕ, ◌≡◌, ◌+◌, true, false, List, [], ◌∷◌, ◌++◌, length, Option, Some, Result, Ok, Err, slice_get, slice_set}
use Rattle.std.specs.List.{flat_map}
use Rattle.aoe_base.specs.Addresses.{broadcast}
use Rattle.aoe_base.specs.declared.address.Mac.{Mac}
use Rattle.aoe_base.specs.declared.failure.Failed.{Failed}
use Rattle.aoe_initiator.specs.Request.{request}
use Rattle.aoe_initiator.specs.declared.op.FlushCommand.TheVariants.{CacheExt}
use Rattle.aoe_initiator.specs.declared.op.Op.TheVariants as op
use Rattle.aoe_io.specs.Link.{Added, Turn, Turned}
use Rattle.aoe_tools.specs.Asking.{responses, tag_of}
use Rattle.aoe_tools.specs.Waiting.{TookFront, TookSome, asked, asked_at}
use Rattle.aoe_tools.specs.One.{GoesOn, is_done}
use Rattle.aoe_tools.specs.Page.{known, with_known}
use Rattle.aoe_tools.specs.declared.found.Known.{Known}
use Rattle.aoe_tools.specs.declared.found.Seen.{Seen}
use Rattle.aoe_tools.specs.declared.question.Question.{Question}
use Rattle.aoe_tools.specs.declared.question.Subject.TheVariants as subject

-- the port of a device that answered first; each device that is found has one
abbrev pub first_port : List Mac → Mac
first_port [] = broadcast
first_port (port ∷ ports) = port

-- request i, from 0, of a tool whose clock answered first so, asks this device for its page
abbrev pub page_question : ℕ → Mac → ℕ → Seen → Question
page_question first port i s = record { subject = subject.Page; id = Some s.id; port = port; tag = tag_of first i }

abbrev pub page_request : ℕ → Mac → ℕ → Seen → List ℕ
page_request first port i s = request CacheExt op.Identify s.id (first_port s.ports.items) port (tag_of first i)

-- a device is asked in these turns, the latest first
pub record Visit : Type 0 where
  pub device : Seen
  pub turns : List Turn

-- the number of the request behind these visits: request 0 has found the devices
abbrev pub number : List Visit → ℕ
number earlier = length earlier + 1

-- its question, where these visits, the latest first, were before it
abbrev pub question_of : ℕ → Mac → List Visit → Visit → Question
question_of first port earlier v = page_question first port (number earlier) v.device

abbrev pub request_of : ℕ → Mac → List Visit → Visit → List ℕ
request_of first port earlier v = page_request first port (number earlier) v.device

-- a visit is over: a response came that counts, or it has waited for all turns, and not before
abbrev pub IsOver : Question → ℕ → List Turn → Type 0
IsOver q limit turns = (is_done q limit turns ≡ true) × GoesOn q limit turns

-- it isn't over, and wasn't before
abbrev pub IsUnderWay : Question → ℕ → List Turn → Type 0
IsUnderWay q limit turns = (is_done q limit turns ≡ false) × GoesOn q limit turns

abbrev pub AreOver : ℕ → Mac → ℕ → List Visit → Type 0
AreOver first port limit [] = Unit {0}
AreOver first port limit (v ∷ earlier) = IsOver (question_of first port earlier v) limit v.turns × AreOver first port limit earlier

-- the devices in their order
abbrev pub devices : List Visit → List Seen
devices [] = []
devices (v ∷ earlier) = devices earlier ++ v.device ∷ []

-- the same, with what their responses said
abbrev pub learned : ℕ → Mac → List Visit → List Seen
learned first port [] = []
learned first port (v ∷ earlier) = learned first port earlier ++ with_known v.device (known (responses (question_of first port earlier v) v.turns)) ∷ []

-- all of their turns, the latest first
abbrev pub visit_turns : List Visit → List Turn
visit_turns visits = flat_map (λ v. v.turns) visits

-- what is sent in them, the latest first
abbrev pub visit_asked : ℕ → Mac → List Visit → List (List ℕ)
visit_asked first port [] = []
visit_asked first port (v ∷ earlier) = asked (request_of first port earlier v) v.turns ++ visit_asked first port earlier

-- what is sent before the next turn of the last one
abbrev pub visit_asks : ℕ → Mac → List Visit → List (List ℕ)
visit_asks first port [] = []
visit_asks first port (v ∷ earlier) = asked_at (request_of first port earlier v) v.turns

-- the devices that were found begin with those that were visited
pub record BeginsWith (found visited : List Seen) : Type 0 where
  pub rest : List Seen
  pub is : found ≡ visited ++ rest

-- the last visit isn't over, and those before are
abbrev pub IsBroken : ℕ → Mac → ℕ → List Seen → List Visit → Type 0
IsBroken first port limit found [] = ⊥
IsBroken first port limit found (v ∷ earlier) =
    BeginsWith found (devices (v ∷ earlier)) × IsUnderWay (question_of first port earlier v) limit v.turns × AreOver first port limit earlier

-- ---- the calls, one inside the other

-- one request for a page was sent and its response was waited for
abbrev pub EndsPage : Result Known Failed → Question → List ℕ → ℕ → List Turn → Option (List (List ℕ)) → Option (List (List ℕ)) → Type 0
EndsPage (Ok k) q request limit turns before after = IsOver q limit turns × (k ≡ known (responses q turns)) × Added before after (asked request turns)
EndsPage (Err failed) q request limit turns before after = IsUnderWay q limit turns × TookSome request turns before after

pub record AsksPage (result : Result Known Failed) (q : Question) (request : List ℕ) (limit start turned' : ℕ) (given given' : Option (List Turn)) (taken taken' : Option (List (List ℕ))) : Type 0 where
  pub turns : List Turn
  pub turned : Turned start turned' given given' turns
  pub ends : EndsPage result q request limit turns taken taken'

-- device i, from 0, was visited
abbrev pub EndsVisit : Result Unit Failed → ℕ → Mac → ℕ → ℕ → List Seen → List Seen → Visit → Option (List (List ℕ)) → Option (List (List ℕ)) → Type 0
EndsVisit (Ok u) first port limit i found found' v before after =
    IsOver (page_question first port (i + 1) v.device) limit v.turns
    × (found' ≡ slice_set found i (with_known v.device (known (responses (page_question first port (i + 1) v.device) v.turns))))
    × Added before after (asked (page_request first port (i + 1) v.device) v.turns)
EndsVisit (Err failed) first port limit i found found' v before after =
    IsUnderWay (page_question first port (i + 1) v.device) limit v.turns
    × TookSome (page_request first port (i + 1) v.device) v.turns before after

pub record VisitsOne (result : Result Unit Failed) (first : ℕ) (port : Mac) (limit i : ℕ) (found found' : List Seen) (start turned' : ℕ) (given given' : Option (List Turn)) (taken taken' : Option (List (List ℕ))) : Type 0 where
  pub visit : Visit
  pub at : slice_get found i ≡ Some visit.device
  pub turned : Turned start turned' given given' visit.turns
  pub ends : EndsVisit result first port limit i found found' visit taken taken'

abbrev pub EndsVisits : Result Unit Failed → ℕ → Mac → ℕ → List Seen → List Seen → List Visit → Option (List (List ℕ)) → Option (List (List ℕ)) → Type 0
EndsVisits (Ok u) first port limit found found' visits before after =
    (devices visits ≡ found) × (found' ≡ learned first port visits) × AreOver first port limit visits × Added before after (visit_asked first port visits)
EndsVisits (Err failed) first port limit found found' visits before after =
    IsBroken first port limit found visits × TookFront (visit_asks first port visits) (visit_asked first port visits) before after

-- all devices were visited, up to a fault of the link
pub record VisitsAll (result : Result Unit Failed) (first : ℕ) (port : Mac) (limit : ℕ) (found found' : List Seen) (start turned' : ℕ) (given given' : Option (List Turn)) (taken taken' : Option (List (List ℕ))) : Type 0 where
  pub visits : List Visit
  pub turned : Turned start turned' given given' (visit_turns visits)
  pub ends : EndsVisits result first port limit found found' visits taken taken'
