-- The look-up of a device by two requests: where it is, how long it is, and by which command it is flushed.
use Rattle.std.specs.Prelude.{ℕ, ◌≡◌, min, true, false, nat_lt, List, [], ◌∷◌, drop, Option, Some, None, Result, Ok, Err, if◌then◌else◌, slice_index, unwrap_or}
use Rattle.aoe_base.specs.declared.address.Mac.{Mac}
use Rattle.aoe_base.specs.declared.address.TargetId.{TargetId}
use Rattle.aoe_base.specs.Addresses.{broadcast}
use Rattle.aoe_initiator.specs.declared.op.FlushCommand.{FlushCommand}
use Rattle.aoe_initiator.specs.declared.op.FlushCommand.TheVariants.{CacheExt}
use Rattle.aoe_initiator.specs.declared.op.Op.TheVariants as op
use Rattle.aoe_initiator.specs.declared.response.Answer.{Answer}
use Rattle.aoe_initiator.specs.Request.{request}
use Rattle.aoe_io.specs.Link.{Added, Turn, Turned}
use Rattle.aoe_tools.specs.Asking.{Response, responses, tag_of}
use Rattle.aoe_tools.specs.Waiting.{TookSome, asked}
use Rattle.aoe_tools.specs.Page.{flush_in, total_in}
use Rattle.aoe_tools.specs.One.{is_done, refusal_of, GoesOn}
use Rattle.aoe_tools.specs.declared.end.Refusal.{Refusal}
use Rattle.aoe_tools.specs.declared.end.ToolRefusal.{ToolRefusal}
use Rattle.aoe_tools.specs.declared.end.ToolRefusal.TheVariants as tool
use Rattle.aoe_tools.specs.declared.lookup.Device.{Device}
use Rattle.aoe_tools.specs.declared.question.Ask.{Ask}
use Rattle.aoe_tools.specs.declared.question.Question.{Question}
use Rattle.aoe_tools.specs.declared.question.Reply.{Reply}
use Rattle.aoe_tools.specs.declared.question.Subject.TheVariants as subject

-- what a link tells: how many turns it gave, what came in them, and the frames that it took
pub record LinkState : Type 0 where
  pub turns : ℕ
  pub given : Option (List Turn)
  pub taken : Option (List (List ℕ))

-- a response, where it doesn't refuse
abbrev pub unless_refusing : Option Refusal → Response → Result Response ToolRefusal
unless_refusing None r = Ok r
unless_refusing (Some x) r = Err (tool.Refused x)

-- what came of a request, by the responses that came, of which there is one at most
abbrev pub answered : Question → ℕ → List Response → Result Response ToolRefusal
answered q limit [] = Err (tool.Unanswered limit)
answered q limit (r ∷ rs) = unless_refusing (refusal_of q.subject r.reply.answer r.args) r

-- where the link failed it hadn't ended, and the link took a front of what was asked
abbrev pub AskEnds : Result Response ToolRefusal → Question → List ℕ → ℕ → List Turn → Option (List (List ℕ)) → Option (List (List ℕ)) → Type 0
AskEnds (Err tool.LinkFault) q request limit turns before after = (is_done q limit turns ≡ false) × TookSome request turns before after
AskEnds result q request limit turns before after =
    (is_done q limit turns ≡ true) × (result ≡ answered q limit (responses q turns)) × Added before after (asked request turns)

-- a request over a link: its turns, latest first, are those after which it has ended
pub record Asks (result : Result Response ToolRefusal) (q : Question) (request : List ℕ) (limit : ℕ) (before after : LinkState) : Type 0 where
  pub turns : List Turn
  pub turned : Turned before.turns after.turns before.given after.given turns
  pub goes_on : GoesOn q limit turns
  pub ends : AskEnds result q request limit turns before.taken after.taken

-- a reply with the bytes that a frame has behind its header
abbrev pub with_args : List ℕ → Result Reply ToolRefusal → Result Response ToolRefusal
with_args frame (Ok r) = Ok record { reply = r; args = drop 24 frame }
with_args frame (Err e) = Err e

-- the turns that a request of a look-up waits: as many as a tool has, but no more than 300, three seconds on a link where nothing comes
abbrev pub look_up_turns : Ask → ℕ
look_up_turns ask = min ask.turns 300

-- how many sectors a command has at most: as many as the device says (AoEr11, "Query Config Information", Sector Count), but one at
-- least, and no more than a number
abbrev pub max_of : ℕ → List ℕ → ℕ
max_of most args = if nat_lt 1 (slice_index args 4) then min most (slice_index args 4) else 1

-- how many sectors a device has: none where its page declares no number
abbrev pub total_of : Answer → List ℕ → ℕ
total_of a args = unwrap_or (total_in a args) 0

abbrev pub config_question : Ask → TargetId → ℕ → Question
config_question ask id first = record { subject = subject.Config; id = Some id; port = ask.port; tag = tag_of first 0 }

abbrev pub page_question : Ask → TargetId → ℕ → Question
page_question ask id first = record { subject = subject.Page; id = Some id; port = ask.port; tag = tag_of first 1 }

abbrev pub config_frame : Ask → TargetId → ℕ → List ℕ
config_frame ask id first = request CacheExt (op.Config 0 []) id broadcast ask.port (tag_of first 0)

abbrev pub page_frame : Ask → TargetId → ℕ → Mac → List ℕ
page_frame ask id first remote = request CacheExt op.Identify id remote ask.port (tag_of first 1)

abbrev pub port_in : ℕ → Result Response ToolRefusal → Result (Mac × ℕ) ToolRefusal
port_in most (Ok r) = Ok (r.reply.source, max_of most r.args)
port_in most (Err e) = Err e

-- how many sectors it has by its page, and by which command it is flushed
abbrev pub page_facts : Result Response ToolRefusal → Result (ℕ × FlushCommand) ToolRefusal
page_facts (Ok r) = Ok (total_of r.reply.answer r.args, flush_in r.reply.answer r.args)
page_facts (Err e) = Err e

abbrev pub with_page : Mac × ℕ → Result (ℕ × FlushCommand) ToolRefusal → Result Device ToolRefusal
with_page (port, max) (Ok (total, flush)) = Ok record { port = port; max = max; total = total; flush = flush }
with_page found (Err e) = Err e

-- once the device answered where it is, it is asked there for its page
abbrev pub FindsAt : Result (Mac × ℕ) ToolRefusal → Result Device ToolRefusal → Ask → TargetId → ℕ → LinkState → LinkState → Type 0
FindsAt (Ok found) result ask id first mid after =
    (page : Result Response ToolRefusal) × Asks page (page_question ask id first) (page_frame ask id first found.0) (look_up_turns ask) mid after
    × (result ≡ with_page found (page_facts page))
FindsAt (Err e) result ask id first mid after = (result ≡ Err e) × (after ≡ mid)

-- a device is found by its response to a query config request to all, and by its page; a command has no more sectors than a number
pub record Finds (result : Result Device ToolRefusal) (ask : Ask) (id : TargetId) (first most : ℕ) (before after : LinkState) : Type 0 where
  pub mid : LinkState
  pub config : Result Response ToolRefusal
  pub asks : Asks config (config_question ask id first) (config_frame ask id first) (look_up_turns ask) before mid
  pub finds : FindsAt (port_in most config) result ask id first mid after
