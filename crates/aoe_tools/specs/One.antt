-- The tools that ask one thing: when they have ended, and what they say.
use Rattle.std.specs.Prelude.{ℕ, ◌≡◌, ◌==◌, ◌||◌, Bool, true, false, nat_eq, nat_lt, List, [], ◌∷◌, length, take, Option, Some, None, Result, Ok, Err, if◌then◌else◌, slice_index}
use Rattle.arrayvec.specs.ArrayVec.{ArrayVec}
use Rattle.aoe_initiator.specs.declared.response.Answer.{Answer}
use Rattle.aoe_initiator.specs.declared.response.Answer.TheVariants as answer
use Rattle.aoe_io.specs.Link.{Added, Turn, Turned}
use Rattle.aoe_lists.specs.declared.dir.Dir.{Dir}
use Rattle.aoe_tools.specs.Asking.{Response, responses}
use Rattle.aoe_tools.specs.Waiting.{TookSome, asked, waited}
use Rattle.aoe_tools.specs.declared.end.Refusal.{Refusal}
use Rattle.aoe_tools.specs.declared.end.Refusal.TheVariants as refusal
use Rattle.aoe_tools.specs.declared.end.ToolRefusal.{ToolRefusal}
use Rattle.aoe_tools.specs.declared.end.ToolRefusal.TheVariants as tool
use Rattle.aoe_tools.specs.declared.question.Question.{Question}
use Rattle.aoe_tools.specs.declared.question.Subject.{Subject}
use Rattle.aoe_tools.specs.declared.question.Subject.TheVariants as subject

-- the tool has ended: a response came that counts, or it has waited for all of its turns
abbrev pub is_done : Question → ℕ → List Turn → Bool
is_done q limit turns = nat_lt 0 (length (responses q turns)) || nat_eq (waited turns) limit

-- before each of these turns it hadn't
abbrev pub GoesOn : Question → ℕ → List Turn → Type 0
GoesOn q limit [] = Unit {0}
GoesOn q limit (t ∷ turns) = (is_done q limit turns ≡ false) × GoesOn q limit turns

-- how many bytes of arguments an answer has
abbrev pub told_len : Answer → ℕ
told_len (answer.Told len) = len
told_len (answer.Data len) = 0
told_len answer.Written = 0
told_len answer.Flushed = 0
told_len (answer.AtaError status error) = 0
told_len (answer.AoeError error) = 0

-- the arguments of a response
abbrev pub args_of : Response → ArrayVec ℕ
args_of r = record { items = take (told_len r.reply.answer) r.args }

-- what a mask list response says in its field MError, where the device refused
abbrev pub mask_refusal : Subject → List ℕ → Option Refusal
mask_refusal subject.Masks args = if slice_index args 2 == 0 then None else Some (refusal.Mask (slice_index args 2))
mask_refusal subject.Config args = None
mask_refusal subject.Reserve args = None
mask_refusal subject.Page args = None

-- how a response refuses
abbrev pub refusal_of : Subject → Answer → List ℕ → Option Refusal
refusal_of s (answer.AoeError error) args = Some (refusal.Aoe error)
refusal_of s (answer.AtaError status error) args = Some (refusal.Ata status error)
refusal_of s (answer.Told len) args = mask_refusal s args
refusal_of s (answer.Data len) args = None
refusal_of s answer.Written args = None
refusal_of s answer.Flushed args = None

abbrev pub unless_refused : Option Refusal → ArrayVec ℕ → Result (ArrayVec ℕ) ToolRefusal
unless_refused None args = Ok args
unless_refused (Some r) args = Err (tool.Refused r)

-- what the tool says of the responses that came, of which there is one at most
abbrev pub said : Question → ℕ → List Response → Result (ArrayVec ℕ) ToolRefusal
said q limit [] = Err (tool.Unanswered limit)
said q limit (r ∷ rs) = unless_refused (refusal_of q.subject r.reply.answer r.args) (args_of r)

-- How it ends: where the link didn't fail the tool has ended, says this, and the link took what was asked. Else it hadn't, and the
-- link took a front of that.
abbrev pub Ends : Result (ArrayVec ℕ) ToolRefusal → Question → List ℕ → ℕ → List Turn → Option (List (List ℕ)) → Option (List (List ℕ)) → Type 0
Ends (Err tool.LinkFault) q request limit turns before after = (is_done q limit turns ≡ false) × TookSome request turns before after
Ends result q request limit turns before after = (is_done q limit turns ≡ true) × (result ≡ said q limit (responses q turns)) × Added before after (asked request turns)

-- A run of a tool that asks one thing, over a link: its turns, latest first, are those after which it has ended.
pub record AsksOne (result : Result (ArrayVec ℕ) ToolRefusal) (q : Question) (request : List ℕ) (limit start turned' : ℕ) (given given' : Option (List Turn)) (taken taken' : Option (List (List ℕ))) : Type 0 where
  pub turns : List Turn
  pub turned : Turned start turned' given given' turns
  pub goes_on : GoesOn q limit turns
  pub ends : Ends result q request limit turns taken taken'

-- a mask list request edits by these directives, or it reads
abbrev pub edits_by : Option (List Dir) → Bool × List Dir
edits_by (Some dirs) = (true, dirs)
edits_by None = (false, [])
