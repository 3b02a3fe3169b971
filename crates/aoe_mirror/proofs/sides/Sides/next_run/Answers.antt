use Rattle.std.proofs.Common.{inl}
use Rattle.aoe_mirror.proofs.Copying.{next_found}
use Rattle.aoe_mirror.proofs.sides.Sides.next_run.Goals as goal

pub returns-in-Some : goal.returns-in-Some
returns-in-Some g c = inl c.in-Some.ensures

pub returns : goal.returns
returns g c = next_found c.args.self.now.stale c.args.from _ c.in_default.ensures c.first_run-2.ensures
