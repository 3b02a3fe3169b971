use Rattle.std.proofs.Common.{◌≡◌, get_or, None, Some, arith, refl, sym, ◌∙◌, rules, nat_eq}
use Rattle.std.specs.Prelude.{position}
use Rattle.aoe_hold.specs.declared.command.Command.{Command}
use Rattle.aoe_hold.specs.Commands.{stage_finished}
use Rattle.aoe_hold.proofs.StageLemmas.{count-finished, new-ends, place-ticket, place-within, stage-missing, stage-set, stands-read}
use Rattle.aoe_hold.proofs.OutsideLemmas.{gone-stage}
use Rattle.aoe_hold.proofs.ExtentLemmas.{covers-stage}
use Rattle.aoe_hold.proofs.KeyLemmas.{keys-stage}
use Rattle.aoe_hold.proofs.PastLemmas.{one-ended, past-ended}
use Rattle.aoe_hold.proofs.OrderLemmas.{ascending-after_stage, up_to-after_stage}
use Rattle.aoe_hold.proofs.TableLemmas.{finish-recalls, finish-value}
use Rattle.aoe_hold.proofs.MoveLemmas.{none_command}
use Rattle.aoe_hold.proofs.HeldLemmas.{ended-done}
use Rattle.aoe_hold.proofs.HoldLemmas.{held-few, index-ended}
use Rattle.aoe_hold.proofs.holds.Holds.finished_counted.Goals as goal

pub invariant_of-self : goal.invariant_of-self
invariant_of-self g c =
    let held = c.self.inside.commands.items in
    let seen = c.look_all-commands.ensures.value in
    let found : position (λ (d : Command). nat_eq d.ticket.0 c.args.ticket.0) c.self.inside.commands.items ≡ Some c.in-Some.at =
    rw seen at (sym c.place_of.ensures ∙ c.in-Some.is) in
    let at = stands-read c.args.ticket.0 c.self.inside.commands.items c.in-Some.at none_command c.self.invariant.0.0 found in
    let read : c.finished-ended.result ≡ stage_finished (get_or c.look_all-commands.result.now c.in-Some.at none_command).stage = search rules in
    let is = rw seen at read in
    let set_is = c.set_stage.ensures.items none_command in
    let after = set_is ∙ stage-set at stage_finished c.finished-ended.result is in
    let released = rw (c.look_all-commands-in-Some.ensures.value ∙ after, seen) at c.release.ensures.released in
    let both = index-ended at (new-ends at c.finished-ended.result is) released (rw seen at c.release.ensures.none) c.self.invariant.1 c.self.invariant.3 in (
      (
        rw after (ascending-after_stage c.args.ticket.0 stage_finished held c.self.invariant.0.0),
        rw after (up_to-after_stage c.args.ticket.0 stage_finished _ held c.self.invariant.0.1),
        c.self.invariant.0.2 ∙ sym (rw (← set_is) at (count-finished at c.finished-ended.result is)),
      ),
      rw after both.0,
      rw set_is (past-ended c.self.inside.life.0 c.self.inside.past_from c.past_from.result _ c.in-Some.at held _ c.min-self-inside.ensures
          c.past_from.ensures.before c.self.invariant.2),
      rw after both.1,
      rw c.look_all-commands-in-Some.ensures.value at c.count_gone-self-inside.ensures,
      rw (after, c.set_stage.ensures.keys) (covers-stage c.self.inside.extent c.self.inside.commands.keys c.args.ticket.0 stage_finished held
          c.self.invariant.5),
      rw (after, c.set_stage.ensures.keys) (keys-stage c.args.ticket.0 stage_finished held c.self.invariant.6),
      rw after (one-ended c.self.inside.life.0 c.self.inside.past_from c.past_from.result _ c.in-Some.at c.args.ticket.0 held _ c.min-self-inside.ensures
          (place-within at) (sym set_is ∙ after) c.past_from.ensures.from c.self.invariant.7),
    )

pub release-requires : goal.release-requires
release-requires g c =
    let held = c.self.inside.commands.items in
    let seen = c.look_all-commands.ensures.value in
    let found : position (λ (d : Command). nat_eq d.ticket.0 c.args.ticket.0) c.self.inside.commands.items ≡ Some c.in-Some.at =
    rw seen at (sym c.place_of.ensures ∙ c.in-Some.is) in
    let at = stands-read c.args.ticket.0 c.self.inside.commands.items c.in-Some.at none_command c.self.invariant.0.0 found in
    let read : c.finished-ended.result ≡ stage_finished (get_or c.look_all-commands.result.now c.in-Some.at none_command).stage = search rules in
    let is = rw seen at read in
    let set_is = c.set_stage.ensures.items none_command in
    let after = set_is ∙ stage-set at stage_finished c.finished-ended.result is in
    let shown = c.look_all-commands-in-Some.ensures.value ∙ after in
    let few = held-few c.self.invariant.0.2 c.self.invariant.3 in
    record {
      ascending = rw shown (ascending-after_stage c.args.ticket.0 stage_finished held c.self.invariant.0.0);
      past = c.count_gone-self-inside.ensures;
      done = λ done later.
          rw (shown, seen, place-ticket at) (ended-done at _ later (new-ends at c.finished-ended.result is) done);
      timed = omega (arith, few, c.self.invariant.1.timed_room);
      blocked = omega (arith, few, c.self.invariant.3.room);
    }

pub returns-in-Some-clause-value : goal.returns-in-Some-clause-value
returns-in-Some-clause-value g c =
    let seen = c.look_all-commands.ensures.value in
    let found : position (λ (d : Command). nat_eq d.ticket.0 c.args.ticket.0) c.self.inside.commands.items ≡ Some c.in-Some.at =
    rw seen at (sym c.place_of.ensures ∙ c.in-Some.is) in
    let at = stands-read c.args.ticket.0 c.self.inside.commands.items c.in-Some.at none_command c.self.invariant.0.0 found in
    let read : c.finished-ended.result ≡ stage_finished (get_or c.look_all-commands.result.now c.in-Some.at none_command).stage = search rules in
    let is = rw seen at read in
    let set_is = c.set_stage.ensures.items none_command in
    let after = set_is ∙ stage-set at stage_finished c.finished-ended.result is in
    rw after (finish-value c.self.view_is c.args.ticket.0)

pub returns-in-Some-clause-recalls : goal.returns-in-Some-clause-recalls
returns-in-Some-clause-recalls g c =
    let seen = c.look_all-commands.ensures.value in
    let found : position (λ (d : Command). nat_eq d.ticket.0 c.args.ticket.0) c.self.inside.commands.items ≡ Some c.in-Some.at =
    rw seen at (sym c.place_of.ensures ∙ c.in-Some.is) in
    let at = stands-read c.args.ticket.0 c.self.inside.commands.items c.in-Some.at none_command c.self.invariant.0.0 found in
    let read : c.finished-ended.result ≡ stage_finished (get_or c.look_all-commands.result.now c.in-Some.at none_command).stage = search rules in
    let is = rw seen at read in
    let set_is = c.set_stage.ensures.items none_command in
    let after = set_is ∙ stage-set at stage_finished c.finished-ended.result is in
    rw after (finish-recalls c.self.view_is c.args.ticket.0)

pub returns-clause-value : goal.returns-clause-value
returns-clause-value g c =
    let held = c.self.inside.commands.items in
    let none : c.place_of.result ≡ None = search rules in
    let missing : position (λ (d : Command). nat_eq d.ticket.0 c.args.ticket.0) held ≡ None =
    rw c.look_all-commands.ensures.value at (sym c.place_of.ensures ∙ none) in
    let value = finish-value c.self.view_is c.args.ticket.0 in
    sym c.self.view_is ∙ rw (stage-missing c.args.ticket.0 stage_finished held missing) at value

pub returns-clause-recalls : goal.returns-clause-recalls
returns-clause-recalls g c = λ entered recalls.
    let held = c.self.inside.commands.items in
    let none : c.place_of.result ≡ None = search rules in
    let missing : position (λ (d : Command). nat_eq d.ticket.0 c.args.ticket.0) held ≡ None =
    rw c.look_all-commands.ensures.value at (sym c.place_of.ensures ∙ none) in
    let after = finish-recalls c.self.view_is c.args.ticket.0 entered recalls in
    rw (← c.self.view_is) (rw (stage-missing c.args.ticket.0 stage_finished held missing) at after)

pub count_gone-self-inside-requires : goal.count_gone-self-inside-requires
count_gone-self-inside-requires g c =
    let seen = c.look_all-commands.ensures.value in
    let found : position (λ (d : Command). nat_eq d.ticket.0 c.args.ticket.0) c.self.inside.commands.items ≡ Some c.in-Some.at =
    rw seen at (sym c.place_of.ensures ∙ c.in-Some.is) in
    let at = stands-read c.args.ticket.0 c.self.inside.commands.items c.in-Some.at none_command c.self.invariant.0.0 found in
    let read : c.finished-ended.result ≡ stage_finished (get_or c.look_all-commands.result.now c.in-Some.at none_command).stage = search rules in
    let is = rw seen at read in
    let set_is = c.set_stage.ensures.items none_command in
    let after = set_is ∙ stage-set at stage_finished c.finished-ended.result is in
    rw (c.look_all-commands-in-Some.ensures.value ∙ after)
    (gone-stage c.self.inside.life.0 c.self.inside.latest.0 _ c.self.inside.gone c.args.ticket.0 stage_finished c.self.inside.commands.items
    (λ last. refl) (omega arith) c.self.invariant.4)
