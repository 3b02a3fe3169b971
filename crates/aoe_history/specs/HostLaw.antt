-- The host law in a history: what a host submits, sends, takes and finishes.
use Rattle.std.specs.Prelude.{ℕ, suc, ◌<◌, ◌≡◌, ◌⊎◌, Bool, true, false, List, drop, Some, None, All, Contains}
use Rattle.aoe_base.specs.declared.address.TargetId.{TargetId}
use Rattle.aoe_flight.specs.declared.outstanding.Outstanding.{Outstanding}
use Rattle.aoe_flight.specs.Outstanding.{is_expired, lower, IsFirst}
use Rattle.aoe_initiator.specs.declared.op.Op.{Op}
use Rattle.aoe_initiator.specs.declared.outcome.Outcome.{Outcome}
use Rattle.aoe_initiator.specs.declared.refusal.SubmitRefusal.{SubmitRefusal}
use Rattle.aoe_initiator.specs.declared.response.Answer.{Answer}
use Rattle.aoe_initiator.specs.declared.step.Sent as step
use Rattle.aoe_initiator.specs.HostLaw.{answer_to, given_up, submit_refusal, IsFrameOf, IsNext, IsOnNextPath}
use Rattle.aoe_initiator.specs.HostLog.{sent_of, HostCommand}
use Rattle.aoe_initiator.specs.Op.{CanSubmit}
use Rattle.aoe_initiator.specs.Response.{outcome_of}
use Rattle.aoe_history.specs.declared.entry.Entry.{Entry}
use Rattle.aoe_history.specs.Commands.{commands_of, host_after, log_of, tickets}
use Rattle.aoe_history.specs.Frames.{arriving, clock, next_number}
use Rattle.aoe_history.specs.Setup.{device_place, HostSetup, Setup}

-- a command is taken for a device: it has the next ticket
pub record IsSubmitted (s : Setup) (host : HostSetup) (h : List Entry) (ticket : ℕ) (dev : TargetId) (op : Op) : Type 0 where
  pub device : ℕ
  pub attached : device_place host dev ≡ Some device
  pub can : CanSubmit op
  pub taken : submit_refusal (host_after s host h) device op ≡ None
  pub next : ticket ≡ suc (tickets host h)

-- a command is refused
pub record IsRefused (s : Setup) (host : HostSetup) (h : List Entry) (dev : TargetId) (op : Op) (refusal : SubmitRefusal) : Type 0 where
  pub device : ℕ
  pub attached : device_place host dev ≡ Some device
  pub can : CanSubmit op
  pub refused : submit_refusal (host_after s host h) device op ≡ Some refusal

-- a frame is sent: that of the command that is next, with a tag that it may have and that its four bytes hold
pub record IsSent (s : Setup) (host : HostSetup) (h : List Entry) (ticket number : ℕ) (bytes : List ℕ) : Type 0 where
  pub sent : step.Sent
  pub ticket_is : sent.ticket.0 ≡ ticket
  pub may : IsNext (host_after s host h) (commands_of host h) sent
  pub path : IsOnNextPath (host_after s host h) (log_of host h) sent
  pub frame : IsFrameOf (host_after s host h) (commands_of host h) sent bytes
  pub tag_fits : sent.tag < 4294967296
  pub number_is : number ≡ next_number h

-- a frame is the response that ends a command, with this outcome
pub record IsResponse (s : Setup) (host : HostSetup) (h : List Entry) (f : List ℕ) (ticket : ℕ) (outcome : Outcome) : Type 0 where
  pub command : HostCommand
  pub there : Contains (commands_of host h) command
  pub ticket_is : command.ticket.0 ≡ ticket
  pub answer : Answer
  pub says : answer_to (host_after s host h) command f ≡ Some answer
  pub gives : outcome ≡ outcome_of answer (drop 24 f)

-- a frame is stale: it ends no command
abbrev pub IsStale : Setup → HostSetup → List Entry → List ℕ → Type 0
IsStale s host h f = All (λ c. answer_to (host_after s host h) c f ≡ None) (commands_of host h)

abbrev pub IsTaken : Setup → HostSetup → List Entry → List ℕ → Bool → Type 0
IsTaken s host h f true = IsStale s host h f
IsTaken s host h f false = (ticket : ℕ) × (outcome : Outcome) × IsResponse s host h f ticket outcome

-- of the commands that are waited for too long the one with the lowest ticket is given up
pub record IsGivenUp (s : Setup) (host : HostSetup) (h : List Entry) (ticket : ℕ) (outcome : Outcome) : Type 0 where
  pub command : Outstanding
  pub late : IsFirst (is_expired host.dead (clock h)) lower (sent_of (commands_of host h)) command
  pub ticket_is : command.ticket.0 ≡ ticket
  pub gives : outcome ≡ (given_up (clock h) command).outcome

-- a response that can still be handed over ends the command
pub record IsAnswered (s : Setup) (host : HostSetup) (h : List Entry) (ticket : ℕ) (outcome : Outcome) : Type 0 where
  pub number : ℕ
  pub bytes : List ℕ
  pub fresh : arriving s.life h number ≡ Some bytes
  pub response : IsResponse s host h bytes ticket outcome

-- a command has its outcome
abbrev pub IsDone : Setup → HostSetup → List Entry → ℕ → Outcome → Type 0
IsDone s host h ticket outcome = IsAnswered s host h ticket outcome ⊎ IsGivenUp s host h ticket outcome
