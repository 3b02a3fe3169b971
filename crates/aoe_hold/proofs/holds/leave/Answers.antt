use Rattle.std.proofs.Common.{rules}
use Rattle.aoe_hold.proofs.PlaceLemmas.{leaves-first, leaves-none, HaveLeft}
use Rattle.aoe_hold.proofs.holds.leave.Goals as goal
use Rattle.aoe_hold.proofs.holds.leave.Given.{Over}
use Rattle.aoe_hold.proofs.holds.leave.Goals.{Joined-else-may_stand, else-may_stand-via-then-may_stand+else-is_none, else-may_stand-via-else-may_stand}

left : (g : Over) (c : Joined-else-may_stand g) → HaveLeft c.args.ticket.0 c.args.timed.now.items c.args.ready.now.items c.args.blocked.now.items
    c.args.timed.now.items c.else-may_stand.ready.items c.args.blocked.now.items
left g c = elim c.else-may_stand.branch [
  | else-may_stand-via-then-may_stand+else-is_none w ↦
      rw w.ready-is (leaves-first c.args.ticket.0 w.pop_ticket.result _ _ _ _ (search rules) w.pop_ticket.ensures.some
      (rw w.if-may_stand.true at c.requires.once))
  | else-may_stand-via-else-may_stand w ↦ rw w.ready-is (leaves-none c.args.ticket.0 _ _ _ (rw w.if-may_stand.false at c.requires.once))
]

pub returns-else-may_stand-clause-timed : goal.returns-else-may_stand-clause-timed
returns-else-may_stand-clause-timed g c = (left g c).0

pub returns-else-may_stand-clause-ready : goal.returns-else-may_stand-clause-ready
returns-else-may_stand-clause-ready g c = (left g c).1

pub returns-else-may_stand-clause-blocked : goal.returns-else-may_stand-clause-blocked
returns-else-may_stand-clause-blocked g c = (left g c).2
