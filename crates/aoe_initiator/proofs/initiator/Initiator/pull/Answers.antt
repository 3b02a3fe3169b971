use Rattle.aoe_initiator.proofs.RepeatLemmas.{again-next, again-tag}
use Rattle.aoe_initiator.proofs.initiator.Initiator.pull.Goals as goal

pub returns-in-Some-clause-next : goal.returns-in-Some-clause-next
returns-in-Some-clause-next c = λ log m. again-next c.in-Some.ensures.again (c.in-Some.ensures.repeat log m)

pub returns-in-Some-clause-tag : goal.returns-in-Some-clause-tag
returns-in-Some-clause-tag c = again-tag c.in-Some.sent c.args.self.now c.pull_again.new.self c.in-Some.ensures.again c.pull_again.ensures.no_tag
