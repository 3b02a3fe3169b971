use Rattle.std.proofs.Common.{◌≡◌, ◌∙◌, List, ap, get_or, map, cond, None, Some, arith, refl, rules, sym, nat_eq}
use Rattle.std.specs.Prelude.{position}
use Rattle.aoe_hold.specs.declared.command.Command.{Command}
use Rattle.aoe_hold.specs.Commands.{is_unsent, stage_sent}
use Rattle.aoe_hold.proofs.StageLemmas.{count-sent, stage-missing, stage-set, stands-read}
use Rattle.aoe_hold.proofs.ExtentLemmas.{covers-stage}
use Rattle.aoe_hold.proofs.KeyLemmas.{keys-stage}
use Rattle.aoe_hold.proofs.PastLemmas.{one-sent, past-sent}
use Rattle.aoe_hold.proofs.PlaceLemmas.{leaves-missing, leaves-once}
use Rattle.aoe_hold.proofs.OrderLemmas.{ascending-after_stage, up_to-after_stage}
use Rattle.aoe_hold.proofs.OutsideLemmas.{gone-later, gone-stage}
use Rattle.aoe_hold.proofs.TableLemmas.{send-recalls, send-value, time-of}
use Rattle.aoe_hold.specs.declared.queue.Waiter.{Waiter}
use Rattle.aoe_hold.specs.Queue.{ticket_of}
use Rattle.aoe_hold.proofs.MoveLemmas.{none_command}
use Rattle.aoe_hold.proofs.HoldLemmas.{held-gone, index-sent, tickets-filter}
use Rattle.aoe_hold.proofs.holds.Holds.sent_counted.Goals as goal

pub invariant_of-self : goal.invariant_of-self
invariant_of-self g c =
    let ticket = c.args.ticket.0 in
    let sent = stage_sent c.args.now in
    let held = c.self.inside.commands.items in
    let seen = c.look_all-commands.ensures.value in
    let found : position (λ (d : Command). nat_eq d.ticket.0 c.args.ticket.0) c.self.inside.commands.items ≡ Some c.in-Some.at =
    rw seen at (sym c.place_of.ensures ∙ c.in-Some.is) in
    let at = stands-read c.args.ticket.0 c.self.inside.commands.items c.in-Some.at none_command c.self.invariant.0.0 found in
    let read : c.sent-stage.result ≡ stage_sent c.args.now (get_or c.look_all-commands.result.now c.in-Some.at none_command).stage = search rules in
    let is = rw seen at read in
    let set_is = c.set_stage.ensures.items none_command in
    let after = set_is ∙ stage-set at (stage_sent c.args.now) c.sent-stage.result is in
    let read_count : c.from.result ≡ cond (is_unsent (get_or c.look_all-commands.result.now c.in-Some.at none_command)) 1 0 = search rules in
    let first = rw seen at read_count in
    let count = rw (← set_is) at (count-sent at c.args.now c.sent-stage.result is) in
    let later = time-of c.self.view_is c.args.now.0 c.requires.time in (
      (
        rw after (ascending-after_stage ticket sent held c.self.invariant.0.0),
        rw after (up_to-after_stage ticket sent _ held c.self.invariant.0.1),
        omega (arith, c.self.invariant.0.2, first, count),
      ),
      rw after (index-sent _ ticket c.args.now _ _ later (omega arith) c.leave.ensures.timed c.leave.ensures.ready
          c.leave.ensures.timed_room c.leave.ensures.ready_room c.self.invariant.1),
      rw after (past-sent c.self.inside.life.0 c.self.inside.past_from ticket c.args.now held c.self.invariant.2),
      rw after (held-gone _ ticket c.args.now _ _ _ (omega arith) c.leave.ensures.timed c.leave.ensures.ready c.leave.ensures.blocked
          c.leave.ensures.blocked_room c.self.invariant.3),
      rw after (gone-stage c.self.inside.life.0 c.self.inside.latest.0 c.args.now.0 c.self.inside.gone ticket sent held
          (λ last. refl) later c.self.invariant.4),
      rw (after, c.set_stage.ensures.keys) (covers-stage c.self.inside.extent c.self.inside.commands.keys ticket sent held c.self.invariant.5),
      rw (after, c.set_stage.ensures.keys) (keys-stage ticket sent held c.self.invariant.6),
      rw after (one-sent c.self.inside.life.0 c.self.inside.past_from ticket c.args.now held c.self.invariant.7),
    )

pub invariant_of-self-in_default : goal.invariant_of-self-in_default
invariant_of-self-in_default g c =
    let ticket = c.args.ticket.0 in
    let held = c.self.inside.commands.items in
    let none : c.place_of.result ≡ None = search rules in
    let missing : position (λ (d : Command). nat_eq d.ticket.0 c.args.ticket.0) held ≡ None =
    rw c.look_all-commands.ensures.value at (sym c.place_of.ensures ∙ none) in
    let same = stage-missing ticket (stage_sent c.args.now) held missing in
    let stay =
    leaves-missing ticket held c.self.inside.timed.items c.self.inside.ready.items c.self.inside.blocked.items c.self.invariant.3.all missing in
    let later = time-of c.self.view_is c.args.now.0 c.requires.time in
    let index =
    index-sent c.self.inside.unsent ticket c.args.now c.self.inside.timed c.self.inside.ready later (omega arith) stay.0 stay.1 refl refl c.self.invariant.1 in
    let queues = held-gone c.self.inside.unsent ticket c.args.now c.self.inside.timed c.self.inside.ready c.self.inside.blocked
    (omega arith) stay.0 stay.1 stay.2 refl c.self.invariant.3 in (
      c.self.invariant.0,
      rw same at index,
      c.self.invariant.2,
      rw same at queues,
      gone-later c.self.inside.life.0 c.self.inside.latest.0 c.args.now.0 c.self.inside.gone held later c.self.invariant.4,
      c.self.invariant.5,
      c.self.invariant.6,
      c.self.invariant.7,
    )

pub leave-requires : goal.leave-requires
leave-requires g c =
    let seen = c.look_all-commands.ensures.value in
    let found : position (λ (d : Command). nat_eq d.ticket.0 c.args.ticket.0) c.self.inside.commands.items ≡ Some c.in-Some.at =
    rw seen at (sym c.place_of.ensures ∙ c.in-Some.is) in
    let at = stands-read c.args.ticket.0 c.self.inside.commands.items c.in-Some.at none_command c.self.invariant.0.0 found in
    let read_first : c.is_unsent-first.result ≡ is_unsent (get_or c.look_all-commands.result.now c.in-Some.at none_command) = search rules in
    let first_is = rw seen at read_first in
    record {
      once = leaves-once c.self.inside.timed.items c.self.inside.ready.items c.self.inside.blocked.items c.is_unsent-first.result at
          c.self.invariant.3.all first_is;
    }

pub returns-in-Some-clause-value : goal.returns-in-Some-clause-value
returns-in-Some-clause-value g c =
    let seen = c.look_all-commands.ensures.value in
    let found : position (λ (d : Command). nat_eq d.ticket.0 c.args.ticket.0) c.self.inside.commands.items ≡ Some c.in-Some.at =
    rw seen at (sym c.place_of.ensures ∙ c.in-Some.is) in
    let at = stands-read c.args.ticket.0 c.self.inside.commands.items c.in-Some.at none_command c.self.invariant.0.0 found in
    let read : c.sent-stage.result ≡ stage_sent c.args.now (get_or c.look_all-commands.result.now c.in-Some.at none_command).stage = search rules in
    let is = rw seen at read in
    let set_is = c.set_stage.ensures.items none_command in
    let after = set_is ∙ stage-set at (stage_sent c.args.now) c.sent-stage.result is in
    rw after
    (send-value c.self.view_is c.args.ticket.0 c.args.now _
    (ap (λ (l : List Waiter). map ticket_of l) c.leave.ensures.ready ∙ tickets-filter c.args.ticket.0 c.self.inside.ready.items))

pub returns-in-Some-clause-recalls : goal.returns-in-Some-clause-recalls
returns-in-Some-clause-recalls g c =
    let seen = c.look_all-commands.ensures.value in
    let found : position (λ (d : Command). nat_eq d.ticket.0 c.args.ticket.0) c.self.inside.commands.items ≡ Some c.in-Some.at =
    rw seen at (sym c.place_of.ensures ∙ c.in-Some.is) in
    let at = stands-read c.args.ticket.0 c.self.inside.commands.items c.in-Some.at none_command c.self.invariant.0.0 found in
    let read : c.sent-stage.result ≡ stage_sent c.args.now (get_or c.look_all-commands.result.now c.in-Some.at none_command).stage = search rules in
    let is = rw seen at read in
    let set_is = c.set_stage.ensures.items none_command in
    let after = set_is ∙ stage-set at (stage_sent c.args.now) c.sent-stage.result is in
    rw after (send-recalls c.self.view_is c.args.ticket.0 c.args.now c.requires.time)

pub returns-clause-value : goal.returns-clause-value
returns-clause-value g c =
    let held = c.self.inside.commands.items in
    let none : c.place_of.result ≡ None = search rules in
    let missing : position (λ (d : Command). nat_eq d.ticket.0 c.args.ticket.0) held ≡ None =
    rw c.look_all-commands.ensures.value at (sym c.place_of.ensures ∙ none) in
    let stay =
    leaves-missing c.args.ticket.0 held c.self.inside.timed.items c.self.inside.ready.items c.self.inside.blocked.items c.self.invariant.3.all missing in
    let value = send-value c.self.view_is c.args.ticket.0 c.args.now _
    (ap (λ (l : List Waiter). map ticket_of l) stay.1 ∙ tickets-filter c.args.ticket.0 c.self.inside.ready.items) in
    rw (stage-missing c.args.ticket.0 (stage_sent c.args.now) held missing) at value

pub returns-clause-recalls : goal.returns-clause-recalls
returns-clause-recalls g c = λ entered recalls.
    let held = c.self.inside.commands.items in
    let none : c.place_of.result ≡ None = search rules in
    let missing : position (λ (d : Command). nat_eq d.ticket.0 c.args.ticket.0) held ≡ None =
    rw c.look_all-commands.ensures.value at (sym c.place_of.ensures ∙ none) in
    let after = send-recalls c.self.view_is c.args.ticket.0 c.args.now c.requires.time entered recalls in
    rw (stage-missing c.args.ticket.0 (stage_sent c.args.now) held missing) at after
