-- How many commands have no outcome, and that turns end.
use Rattle.std.proofs.Common.{ℕ, ◌≡◌, ◌+◌, ◌-◌, ◌*◌, ◌≤◌, ◌<◌, cond, drop, true, nat_eq, List, [], ◌∷◌, length, Option, Some, None, refl, ap, ◌∙◌, arith, inl, inr}
use Rattle.std.proofs.Math.Nat.{mul-le-mul_left}
use Rattle.std.proofs.lemmas.Bool.{and_parts, cases_Bool, eq-eqb}
use Rattle.std.proofs.lemmas.List.{length-map}
use Rattle.std.proofs.lemmas.List.Sums.{length-filter}
use Rattle.std.proofs.lemmas.Option.{option_and_then_some}
use Rattle.aoe_base.specs.declared.counted.Ticket.{Ticket}
use Rattle.aoe_base.proofs.CountLemmas.{count-alike, count-map}
use Rattle.aoe_frame.specs.Header.{head}
use Rattle.aoe_initiator.specs.declared.op.Op.{Op}
use Rattle.aoe_initiator.specs.declared.outcome.Done.{Done}
use Rattle.aoe_initiator.specs.declared.response.Answer.{Answer}
use Rattle.aoe_initiator.specs.Host.{Host, Matches, Waiting}
use Rattle.aoe_initiator.specs.HostLaw.{answer_to, ended, is_answered}
use Rattle.aoe_initiator.specs.HostLog.{after_end, after_send, at_ticket, clock, commands, path_log, submitted, Event, HostCommand}
use Rattle.aoe_initiator.specs.HostLog.Event.{Submits}
use Rattle.aoe_initiator.specs.Response.{answer}
use Rattle.aoe_io.specs.Link.{Turn, came}
use Rattle.aoe_paths.specs.PathLog.{timeout_on}
use Rattle.aoe_block.specs.Steps.{is_open, open_in}
use Rattle.aoe_block.specs.Turns.{after_frames, after_heard, quiet_by, the_device, Heard, Hears, Outgoing}
use Rattle.aoe_block.proofs.HostLemmas.{count-end, count-fewer, count-one-fewer}

-- a host holds as many
pub pending-open : {host : Host} {log : List Event} → Matches log host → length host.pending ≡ open_in log
pending-open m = simp (length-map, length-filter) at (ap (λ (l : List Waiting). length l) m.pending)

pub ended-fewer : (ticket : Ticket) (c : HostCommand) → is_open (at_ticket ticket after_end c) ≡ true → is_open c ≡ true
ended-fewer ticket c e = elim (cases_Bool (nat_eq c.ticket.0 ticket.0)) [
  | inl own ↦ absurd (let ended = rw own at e in cc)
  | inr other ↦ rw other at e
]

pub open-ended : (gave_up : List Done) (log : List Event) → open_in (ended gave_up log) ≤ open_in log
open-ended [] log = omega arith
open-ended (d ∷ dones) log =
    omega (arith, open-ended dones log, count-fewer is_open (at_ticket d.ticket after_end) (ended-fewer d.ticket) (commands (ended dones log)))

pub open-submits : (ticket : Ticket) (op : Op) (log : List Event) → open_in (Submits ticket the_device op ∷ log) ≤ open_in log + 1
open-submits ticket op log = count-end is_open (commands log) (submitted ticket the_device op)

pub open-frames : (sent : List Outgoing) (log : List Event) → open_in (after_frames sent log) ≡ open_in log
open-frames [] log = refl
open-frames (o ∷ earlier) log =
    let before = after_frames earlier log in
    let f = at_ticket o.sent.ticket (after_send o.sent.tag (record { 0 = clock before }) o.sent.path (λ n. timeout_on (path_log before n) o.sent.path.0)) in
    let same = λ (c : HostCommand). elim (cases_Bool (nat_eq c.ticket.0 o.sent.ticket.0)) as
    (λ x. is_open (f c) ≡ is_open c) [ inl own ↦ rw own | inr other ↦ rw other ] in
    count-map is_open f (commands before) ∙ count-alike (λ c. is_open (f c)) is_open same (commands before) ∙ open-frames earlier log

-- a command that is answered had no outcome
pub answered-open : (host : Host) (c : HostCommand) (frame : List ℕ) (says : Answer) → answer_to host c frame ≡ Some says → is_open c ≡ true
answered-open host c frame says e = option_and_then_some (λ h. cond (is_answered host c h) (answer c.op h (drop 24 frame)) None) (head frame) says e
    (λ h is found.
    elim (cases_Bool (is_answered host c h)) [
      | inl answers ↦ (and_parts _ _ (and_parts _ _ (and_parts _ _ answers).0).1).0
      | inr other ↦ absurd (let none = rw other at found in cc)
    ])

abbrev pub count_heard : Option Heard → ℕ
count_heard None = 0
count_heard (Some h) = 1

pub open-heard : (base : Host) (log : List Event) (t : Turn) (heard : Option Heard) → Hears base log t heard
    → open_in (after_heard heard log) + count_heard heard ≤ open_in log
open-heard base log t None hears = omega arith
open-heard base log (came frame) (Some h) a =
    let own : nat_eq a.command.ticket.0 h.ticket.0 ≡ true = rw a.ticket (eq-eqb h.ticket.0 h.ticket.0 refl) in
    count-one-fewer is_open (at_ticket h.ticket after_end) (ended-fewer h.ticket) (commands log) a.command a.there
    (answered-open a.host a.command frame a.answer a.answers) (rw own)
open-heard base log _ (Some h) hears = absurd hears

-- a turn leads on, whether it ended a command or none
pub smaller : (turns before after quiet : ℕ) (heard : Option Heard) → after + count_heard heard ≤ before → quiet < turns
    → after * (turns + 1) + (turns - quiet_by heard quiet) < before * (turns + 1) + (turns - quiet)
smaller turns before after quiet None less below =
    let more : (turns + 1) * after ≤ (turns + 1) * before = mul-le-mul_left (turns + 1) (omega (arith, less)) in
    grind (arith, more)
smaller turns before after quiet (Some h) less below =
    let more : (turns + 1) * (after + 1) ≤ (turns + 1) * before = mul-le-mul_left (turns + 1) less in
    grind (arith, more)
