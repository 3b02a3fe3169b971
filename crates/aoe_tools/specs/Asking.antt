-- What tools ask, and which responses count (AoEr11, "Common AoE header", "Tag", "Query Config Information").
use Rattle.std.specs.Prelude.{ℕ, ◌+◌, ◌%◌, ◌^◌, ◌≤◌, Bool, true, false, ◌&&◌, nat_eq, List, [], ◌∷◌, length, drop, Option, Some, None, IfSome, IsSome, if◌then◌else◌, option_and_then}
use Rattle.std.specs.Option.{option_map}
use Rattle.aoe_base.specs.declared.address.TargetId.{TargetId}
use Rattle.aoe_base.specs.Addresses.{same_address}
use Rattle.aoe_frame.specs.declared.header.Header.{Header}
use Rattle.aoe_frame.specs.Header.{head}
use Rattle.aoe_initiator.specs.declared.op.Op.{Op}
use Rattle.aoe_initiator.specs.declared.op.Op.TheVariants as op
use Rattle.aoe_initiator.specs.declared.response.Answer.{Answer}
use Rattle.aoe_initiator.specs.declared.response.Answer.TheVariants as answered
use Rattle.aoe_initiator.specs.HostLaw.{same_id}
use Rattle.aoe_initiator.specs.Op.{command_of}
use Rattle.aoe_initiator.specs.Response.{answer, has_flag, told, CanFill}
use Rattle.aoe_io.specs.Link.{Added, Turn, came, quiet, ended}
use Rattle.aoe_tools.specs.declared.question.Subject.{Subject}
use Rattle.aoe_tools.specs.declared.question.Subject.TheVariants as subject
use Rattle.aoe_tools.specs.declared.question.Question.{Question}
use Rattle.aoe_tools.specs.declared.question.Reply.{Reply}

-- the tag of request i, from 0, of a tool whose clock answered first so
abbrev pub tag_of : ℕ → ℕ → ℕ
tag_of first i = 2 ^ 31 + (first + i) % 2 ^ 31

-- an operation whose responses have the form of those that are asked for
abbrev pub op_of : Subject → Op
op_of subject.Config = op.Config 0 []
op_of subject.Masks = op.Masks false (record { items = [] })
op_of subject.Reserve = op.Reserve 0 (record { items = [] })
op_of subject.Page = op.Identify

-- the device is one that was asked
abbrev pub is_meant : Option TargetId → TargetId → Bool
is_meant None id = true
is_meant (Some asked) id = same_id id asked

-- the name that every device answers to: all of its bits are 1 (AoEr11, "Major" and "Minor")
abbrev pub everyone : TargetId
everyone = record { major = 0xffff; minor = 0xff }

-- a version 1 response to the port that asked, with the tag, the command and the device that were asked
abbrev pub is_response : Question → Header → Bool
is_response q h =
    nat_eq h.version 1 && has_flag h.flags 0x8 && same_address h.dst q.port && nat_eq h.tag q.tag && nat_eq h.command (command_of (op_of q.subject)) && is_meant q.id h.id

-- what a response says, by its header and the bytes behind it; nothing where it isn't well formed
abbrev pub answer_to : Subject → Header → List ℕ → Option Answer
answer_to s h args = answer (op_of s) h args

-- what a response to a command on the lists says, whose arguments have this length
abbrev pub list_answer : Header → Option ℕ → List ℕ → Option Answer
list_answer h len args = if has_flag h.flags 0x4 then Some (answered.AoeError h.error) else told len args

-- the response with this header and these bytes behind it, where it is well formed
abbrev pub reply_by : Question → Header → List ℕ → Option Reply
reply_by q h args = option_map (λ a. record { id = h.id; source = h.src; answer = a }) (answer_to q.subject h args)

-- a response that counts: it is one to this question, and is well formed
unfoldable pub counted : Question → List ℕ → Option Reply
counted q frame = option_and_then (λ h. if is_response q h then reply_by q h (drop 24 frame) else None) (head frame)

-- a response that counts, with the bytes behind its header
pub record Response : Type 0 where
  pub reply : Reply
  pub args : List ℕ

-- the response that a turn brought, where it counts
abbrev pub brought : Question → Turn → Option Response
brought q (came frame) = option_map (λ r. record { reply = r; args = drop 24 frame }) (counted q frame)
brought q quiet = None
brought q ended = None

abbrev pub with_response : Option Response → List Response → List Response
with_response None responses = responses
with_response (Some r) responses = r ∷ responses

-- the responses that these turns brought and that count, the latest first, as the turns stand
abbrev pub responses : Question → List Turn → List Response
responses q [] = []
responses q (t ∷ turns) = with_response (brought q t) (responses q turns)

-- the latest of these turns brought a response that counts
abbrev pub IsAnswered : Question → List Turn → Type 0
IsAnswered q [] = ⊥
IsAnswered q (t ∷ turns) = IsSome (brought q t)

-- a clock gave this answer, and no other
pub record Answers (first least : ℕ) (before after : Option (List ℕ)) : Type 0 where
  pub least_is : least ≤ first
  pub told : IfSome after (λ _. Added before after (first ∷ []))

-- the bytes that an answer speaks of stand behind the header
abbrev pub CanRead : Answer → List ℕ → Type 0
CanRead a frame = (24 ≤ length frame) × CanFill a (drop 24 frame) 512
