use Rattle.std.proofs.Common.{◌∙◌, ap, arith, length}
use Rattle.std.proofs.lemmas.List.{length-set}
use Rattle.aoe_target.specs.Receive.{fate_of}
use Rattle.aoe_serve.proofs.TurnLemmas.{meets_at}
use Rattle.aoe_serve.proofs.rounds.meet.Goals as goal

pub returns-clause-meets : goal.returns-clause-meets
returns-clause-meets g c = (
  fate_of c.receive_slot-heard.result c.receive_slot-heard.new.out.items,
  meets_at g.S.Store.lasts g.S.Store.state g.D.Disk.state c.args.frame.now c.receive_slot-heard.result c.receive_slot-heard.new.out.items
      (omega (arith, c.if-prove.false, c.len.ensures.value)) c.args.slot _ _ c.receive_slot-heard.ensures.receives c.receive_slot-heard.ensures.firm,
  c.give.ensures,
)

pub returns-clause-len : goal.returns-clause-len
returns-clause-len g c = ap length c.receive_slot-heard.ensures.receives.others ∙ length-set _ c.args.slot c.receive_slot-heard.ensures.receives.after
