use Rattle.aoe_paths.proofs.TimeoutLemmas.{timeout-is}
use Rattle.aoe_paths.proofs.path.Path.timeout.Goals as goal

pub returns-in-Some : goal.returns-in-Some
returns-in-Some c =
    timeout-is c.args.self.now.trips c.in-Some.greatest c.saturating_mul-timeout.result c.clamp.result
    c.in-Some.ensures.kept c.in-Some.ensures.all c.in-Some.ensures.one c.saturating_mul-timeout.ensures c.clamp.ensures
