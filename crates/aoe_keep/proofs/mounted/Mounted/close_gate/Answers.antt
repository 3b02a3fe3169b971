use Rattle.std.proofs.Common.{arith, refl}
use Rattle.aoe_keep.proofs.Calls.{close_synced, close_wrote}
use Rattle.aoe_keep.proofs.Others.{sync_others}
use Rattle.aoe_keep.proofs.mounted.Mounted.close_gate.Goals as goal

pub returns-then-self-clause-kept : goal.returns-then-self-clause-kept
returns-then-self-clause-kept g c = record {
  lists = refl;
  room = omega (arith, c.requires.room, c.sync.ensures.call.sectors);
  disk = close_synced c.args.self.now.place c.args.self.now.lists c.args.next.now c.args.self.now.is_closed c.sync.result _ _ c.if-self.true c.requires.disk
      c.sync.ensures.contents;
}

pub returns-clause-kept : goal.returns-clause-kept
returns-clause-kept g c = record {
  lists = refl;
  room = omega (arith, c.requires.room, c.write_gate-closed.ensures.call.sectors);
  disk = close_wrote c.args.self.now.place c.args.self.now.lists c.args.next.now c.args.self.now.is_closed c.is_ok-self.result _ c.spare_slot.result
      c.write_gate-closed.result _ _ c.requires.room c.if-self.false c.is_ok-self.ensures.value c.spare_slot.ensures.slot c.requires.disk
      c.write_gate-closed.ensures.gate;
}

pub returns-then-self-clause-others : goal.returns-then-self-clause-others
returns-then-self-clause-others g c = sync_others c.sync.result _ _ c.sync.ensures.contents
