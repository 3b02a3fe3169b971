-- The tool that asks which devices there are.
use Rattle.std.specs.Prelude.{ℕ, ◌≡◌, ◌≤◌, ◌<◌, List, [], ◌∷◌, Option, None, Result, Ok, Err}
use Rattle.aoe_base.specs.Addresses.{broadcast}
use Rattle.aoe_base.specs.declared.address.Mac.{Mac}
use Rattle.aoe_initiator.specs.Request.{request}
use Rattle.aoe_initiator.specs.declared.op.FlushCommand.TheVariants.{CacheExt}
use Rattle.aoe_initiator.specs.declared.op.Op.TheVariants as op
use Rattle.aoe_io.specs.Link.{Added, Turn, Turned}
use Rattle.aoe_tools.specs.Asking.{Response, IsAnswered, everyone, responses, tag_of}
use Rattle.aoe_tools.specs.Waiting.{Lasts, TookSome, asked, waited}
use Rattle.aoe_tools.specs.Found.{found_in}
use Rattle.aoe_tools.specs.declared.end.ToolRefusal.{ToolRefusal}
use Rattle.aoe_tools.specs.declared.end.ToolRefusal.TheVariants as tool
use Rattle.aoe_tools.specs.declared.found.Seen.{Seen}
use Rattle.aoe_tools.specs.declared.question.Question.{Question}
use Rattle.aoe_tools.specs.declared.question.Subject.TheVariants as subject

-- the question of request 0, of a tool whose clock answered first so: who is there?
abbrev pub finding_question : ℕ → Mac → Question
finding_question first port = record { subject = subject.Config; id = None; port = port; tag = tag_of first 0 }

abbrev pub finding_request : ℕ → Mac → List ℕ
finding_request first port = request CacheExt (op.Config 0 []) everyone broadcast port (tag_of first 0)

-- the devices that were found, or that nobody answered
abbrev pub unless_none : ℕ → List Seen → Result (List Seen) ToolRefusal
unless_none limit [] = Err (tool.Unanswered limit)
unless_none limit (s ∷ list) = Ok (s ∷ list)

-- what it says of the responses that came in all of its turns
abbrev pub discovered : ℕ → List Response → Result (List Seen) ToolRefusal
discovered limit responses = unless_none limit (found_in responses)

-- How it ends: once it has waited for all of its turns, whatever they brought, or before, where the link failed, or where a device answered
-- and there was no memory for it. The link took what was asked.
abbrev pub Ends : Result (List Seen) ToolRefusal → Question → List ℕ → ℕ → List Turn → Option (List (List ℕ)) → Option (List (List ℕ)) → Type 0
Ends (Err tool.LinkFault) q request limit turns before after = (waited turns < limit) × TookSome request turns before after
Ends (Err tool.NoMemory) q request limit turns before after = (waited turns ≤ limit) × IsAnswered q turns × Added before after (asked request turns)
Ends result q request limit turns before after = (waited turns ≡ limit) × (result ≡ discovered limit (responses q turns)) × Added before after (asked request turns)

-- A run of it over a link, with its turns, latest first.
pub record Discovers (result : Result (List Seen) ToolRefusal) (q : Question) (request : List ℕ) (limit start turned' : ℕ) (given given' : Option (List Turn)) (taken taken' : Option (List (List ℕ))) : Type 0 where
  pub turns : List Turn
  pub turned : Turned start turned' given given' turns
  pub lasts : Lasts limit turns
  pub ends : Ends result q request limit turns taken taken'
