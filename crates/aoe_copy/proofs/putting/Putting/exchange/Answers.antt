use Rattle.std.proofs.Common.{refl}
use Rattle.aoe_copy.proofs.PutStepLemmas.{filled}
use Rattle.aoe_copy.proofs.PutTurnLemmas.{fails, fit-host, passes, was-answered, was-quiet}
use Rattle.aoe_copy.proofs.StepLemmas.{held-both}
use Rattle.aoe_copy.proofs.putting.Putting.exchange.Goals as goal

pub returns-in-Ok-true-clause-fit : goal.returns-in-Ok-true-clause-fit
returns-in-Ok-true-clause-fit g c = fit-host c.requires.fit (held-both c.in-Ok-true.ensures.exchanges) refl

pub returns-in-Ok-false-clause-fit : goal.returns-in-Ok-false-clause-fit
returns-in-Ok-false-clause-fit g c = fit-host c.requires.fit (held-both c.in-Ok-false.ensures.exchanges) refl

pub returns-in-Ok-true-clause-exchanges : goal.returns-in-Ok-true-clause-exchanges
returns-in-Ok-true-clause-exchanges g c = λ s answers left steps stands keeps well ticked.
    was-answered c.in-Ok-true.field-0-test
    (passes stands keeps well ticked (filled stands keeps c.requires.read c.requires.flushed c.requires.more) c.requires.waiting
    c.in-Ok-true.ensures.exchanges refl)

pub returns-in-Ok-false-clause-exchanges : goal.returns-in-Ok-false-clause-exchanges
returns-in-Ok-false-clause-exchanges g c = λ s answers left steps stands keeps well ticked.
    was-quiet c.in-Ok-false.field-0-test
    (passes stands keeps well ticked (filled stands keeps c.requires.read c.requires.flushed c.requires.more) c.requires.waiting
    c.in-Ok-false.ensures.exchanges refl)

pub returns-in-Err-clause-exchanges : goal.returns-in-Err-clause-exchanges
returns-in-Err-clause-exchanges g c = λ s answers left steps stands keeps well ticked.
    fails stands keeps well ticked c.exchange.new.host c.in-Err.ensures.exchanges
