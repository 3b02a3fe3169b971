use Rattle.std.proofs.Common.{◌≡◌, length, arith, rules}
use Rattle.aoe_host_tests.proofs.initiator.one.Goals as goal

pub returns-clause-differ : goal.returns-clause-differ
returns-clause-differ c = λ i j d before within.
    let single : length c.push.new.self.items ≡ 1 = search rules in
    absurd (omega (arith, before, within, single))
