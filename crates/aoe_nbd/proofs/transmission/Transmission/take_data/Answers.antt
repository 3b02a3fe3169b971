use Rattle.std.proofs.Common.{◌-◌, refl, sym}
use Rattle.aoe_nbd.proofs.StepLemmas.{above, follows-data}
use Rattle.aoe_nbd.proofs.transmission.Transmission.take_data.Goals as goal

pub returns-clause-follows : goal.returns-clause-follows
returns-clause-follows c = λ e past stands.
    follows-data e past c.args.self.now c.args.bytes.now c.args.head c.args.refused c.args.missing c.min-len.result (c.args.missing - c.min-len.result)
    c.data_event.result c.stage_of-self-inside.result c.requires
    (above _ (sym c.if-is_empty.ensures)) c.min-len.ensures refl c.data_event.ensures c.stage_of-self-inside.ensures stands
