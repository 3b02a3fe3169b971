use Rattle.std.proofs.Common.{arith, sym}
use Rattle.aoe_nbd.proofs.StepLemmas.{follows-disc, follows-head}
use Rattle.aoe_nbd.proofs.transmission.Transmission.take_head.Goals as goal

pub returns-then-head-eq-DISC-clause-follows : goal.returns-then-head-eq-DISC-clause-follows
returns-then-head-eq-DISC-clause-follows c = λ past stands. follows-disc c.args.export.now past c.args.self.now c.args.bytes.now c.in-Some.head c.requires
    (λ i. omega (arith, c.type_inv.bytes i)) (sym c.in-Some.ensures) c.if-head-eq-DISC.true stands

pub returns-clause-follows : goal.returns-clause-follows
returns-clause-follows c = λ past stands. follows-head c.args.export.now past c.args.self.now c.args.bytes.now c.in-Some.head
    c.refusal-refused.result c.data_len-missing.result c.head_event.result c.stage_of-self-inside.result c.requires
    (λ i. omega (arith, c.type_inv.bytes i)) (sym c.in-Some.ensures) c.if-head-eq-DISC.false
    c.refusal-refused.ensures c.data_len-missing.ensures c.head_event.ensures c.stage_of-self-inside.ensures stands
