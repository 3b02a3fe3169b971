-- What a host reads in the replies of a target.
use Rattle.std.proofs.Common.{if◌then◌else◌, ◌==◌, ℕ, ◌-◌, ◌≡◌, true, List, ◌++◌, length, drop, Option, Some, None, refl, arith}
use Rattle.std.proofs.lemmas.Bool.Decides.{nat_tests}
use Rattle.std.specs.Option.{option_map}
use Rattle.aoe_ata.specs.Args.{args_bytes}
use Rattle.aoe_ata.specs.Reply.{reply_of, status_of, error_of}
use Rattle.aoe_ata.specs.declared.args.AtaArgs.{AtaArgs}
use Rattle.aoe_ata.specs.declared.reply.AtaOutcome.{AtaOutcome}
use Rattle.aoe_frame.specs.declared.header.Header.{Header}
use Rattle.aoe_base.specs.declared.refusal.AoeError.{AoeError}
use Rattle.aoe_frame.specs.Header.{fields, header_bytes, padded, reply_header, Fits}
use Rattle.aoe_frame.proofs.HeaderLemmas.{head-fields}
use Rattle.aoe_base.specs.Refusal.{code_of_error}
use Rattle.aoe_initiator.specs.declared.op.Op.{Op}
use Rattle.aoe_initiator.specs.declared.op.Op.TheVariants.{Write, Flush}
use Rattle.aoe_initiator.specs.declared.response.Answer.{Answer}
use Rattle.aoe_initiator.specs.declared.response.Answer.TheVariants.{AtaError, AoeError as AoeErrorAnswer}
use Rattle.aoe_initiator.specs.Op.{command_of as command}
use Rattle.aoe_initiator.specs.Response.{answer, ata_success, is_failure}
use Rattle.aoe_target.specs.declared.station.Station.{Station}
use Rattle.aoe_target.specs.Reply.{reply_port, spelled}
use Rattle.aoe_target.specs.declared.heard.Effect.{Effect}
use Rattle.aoe_target.specs.declared.heard.Effect.TheVariants.{Wrote, Synced}
use Rattle.aoe_target.specs.Device.{State}
use Rattle.aoe_initiator.specs.Op.{span_of}
use Rattle.aoe_history.specs.Conversation.{CanReply, TellsTruly}
use Rattle.aoe_history.proofs.replies.RequestLemmas.{padded-head, padded-rest, zeros_behind}

-- the header of a reply
abbrev pub replying : Station → Header → Option AoeError → Header
replying station h error = reply_header h station.id (reply_port station h) (option_map code_of_error error)

-- a reply with an error
pub says-error : (op : Op) (h : Header) (station : Station) (error : AoeError) (args : List ℕ)
    → answer op (replying station h (Some error)) args ≡ Some (AoeErrorAnswer (code_of_error error))
unfolding answer
says-error op h station error args = refl

-- a reply without an error is read by its registers
pub says-ata : (op : Op) (h : Header) (station : Station) (a : AtaArgs) (outcome : AtaOutcome) (rest : List ℕ) → (command op == 0) ≡ true
    → answer op (replying station h None) (args_bytes (reply_of a outcome) ++ rest)
    ≡ (if is_failure (status_of outcome) then Some (AtaError (status_of outcome) (error_of outcome))
    else ata_success op (length (args_bytes (reply_of a outcome) ++ rest) - 12))
unfolding answer
says-ata op h station a outcome rest c = grind (arith, nat_tests)

-- A REPLY, READ

-- what is read in a reply with these arguments
pub record IsRead (reply : List ℕ) (h : Header) (args : List ℕ) : Type 0 where
  pub head_is : fields reply ≡ h
  pub zeros : List ℕ
  pub rest : drop 24 reply ≡ args ++ zeros

-- the header of a reply fits where that of the request does
reply-fits : (station : Station) (h : Header) (error : Option AoeError) → Fits h → CanReply station h → Fits (replying station h error)
reply-fits station h error fits can = grind arith

pub reply-read : {station : Station} {h : Header} {args reply : List ℕ} (error : Option AoeError) → Fits h → CanReply station h
    → reply ≡ spelled station h error args
    → IsRead reply (replying station h error) args
unfolding spelled
reply-read {station} {h} {args} error fits can is =
    let new = replying station h error in
    let new_fits = reply-fits station h error fits can in
    rw is (record {
      head_is = head-fields (padded (header_bytes new ++ args)) new (padded-head new args new_fits);
      zeros = zeros_behind (header_bytes new ++ args);
      rest = padded-rest new args new_fits;
    })

-- WHAT A RESPONSE TELLS

module _ (k : State) (e : Effect) (reply : List ℕ) where
  pub error-tells : (op : Op) (code : ℕ) → TellsTruly op k e reply (AoeErrorAnswer code)
  error-tells op code = grind arith

  pub failure-tells : (op : Op) (status error : ℕ) → TellsTruly op k e reply (AtaError status error)
  failure-tells op status error = grind arith

  pub write-tells : (at : ℕ) (bytes : List ℕ) (a : Answer) → e ≡ Wrote (span_of (Write at bytes)) → TellsTruly (Write at bytes) k e reply a
  write-tells at bytes a p = grind arith

  pub flush-tells : (a : Answer) → e ≡ Synced → TellsTruly Flush k e reply a
  flush-tells a p = grind arith
