use Rattle.std.proofs.Common.{◌∙◌, ap, refl}
use Rattle.aoe_base.proofs.CommonLemmas.{on-err}
use Rattle.aoe_keep.specs.Stages.{spare, turn_after, is_unplaced}
use Rattle.aoe_keep.proofs.Making.{fails_to_clear, fails_to_stage, fails_to_open, replaces}
use Rattle.aoe_keep.proofs.Told.{told_link}
use Rattle.aoe_keep.proofs.Keeping.{kept_replaced, finds_replaced, formats_replaced, unplaced}
use Rattle.aoe_keep.proofs.Calls.{stage_interrupted}
use Rattle.aoe_keep.proofs.Others.{others_then}
use Rattle.aoe_keep.proofs.mounted.Mounted.replace.Goals as goal

pub returns-in_err-stage-clause-err : goal.returns-in_err-stage-clause-err
returns-in_err-stage-clause-err g c = on-err c.from_residual-in_err-stage.result (record {
  lists = c.stage.ensures.lists ∙ c.clear.ensures.lists;
  room = c.in_err-stage.ensures.err.room;
  disk = stage_interrupted c.stage.new.self.place c.stage.new.self.lists c.args.next.now c.stage.new.self.is_closed _ _
      c.in_err-stage.ensures.err.closed (c.stage.ensures.run.tells ∙ c.clear.ensures.run.tells) c.in_err-stage.ensures.err.disk;
})

pub returns-in_err-open-clause-err : goal.returns-in_err-open-clause-err
returns-in_err-open-clause-err g c = on-err c.from_residual-in_err-open.result (record {
  lists = c.open.ensures.lists ∙ c.stage.ensures.lists ∙ c.clear.ensures.lists;
  room = c.in_err-open.ensures.err.room;
  disk = told_link _ _ _ _ (c.open.ensures.run.tells ∙ c.stage.ensures.run.tells ∙ c.clear.ensures.run.tells) (λ x y h. h x) c.in_err-open.ensures.err.disk;
})

pub returns-clause-ok : goal.returns-clause-ok
returns-clause-ok g c = record {
  lists = c.copy-self.ensures;
  mounted = record {
    room = c.in_ok-open.ensures.ok.room;
    disk = kept_replaced c.open.new.self.place c.spare_slot-slot.result c.spare_turn-turn.result _ c.is_none-self.result c.copy-self.result c.args.next.now _
        c.spare_slot-slot.ensures.slot c.spare_turn-turn.ensures.turn refl
        (unplaced c.open.new.self.place c.is_none-self.result c.is_none-self.ensures) c.copy-self.ensures c.in_ok-open.ensures.ok.disk;
  };
  finds = finds_replaced c.open.new.self.place c.args.next.now _ c.in_ok-open.ensures.ok.disk;
  format = formats_replaced c.open.new.self.place c.args.next.now (g.D.Disk.state c.open.new.self.disk) c.in_ok-open.ensures.ok.disk;
}

pub returns-in_err-stage-clause-others : goal.returns-in_err-stage-clause-others
returns-in_err-stage-clause-others g c = others_then _ _ _ c.clear.ensures.others c.stage.ensures.others

pub returns-in_err-open-clause-others : goal.returns-in_err-open-clause-others
returns-in_err-open-clause-others g c = others_then _ _ _ (others_then _ _ _ c.clear.ensures.others c.stage.ensures.others) c.open.ensures.others

pub returns-clause-others : goal.returns-clause-others
returns-clause-others g c = others_then _ _ _ (others_then _ _ _ c.clear.ensures.others c.stage.ensures.others) c.open.ensures.others

pub returns-in_err-clear-clause-calls : goal.returns-in_err-clear-clause-calls
returns-in_err-clear-clause-calls g c =
    let clear = rw c.in_err-clear.was at c.clear.ensures.calls in
    fails_to_clear g.D.Disk.state c.args.next.now c.from_residual.ensures.0 clear c.clear.ensures.place

pub returns-in_err-stage-clause-calls : goal.returns-in_err-stage-clause-calls
returns-in_err-stage-clause-calls g c =
    let clear = rw c.in_ok-clear.was at c.clear.ensures.calls in
    let stage = rw c.in_err-stage.was at c.stage.ensures.calls in
    fails_to_stage g.D.Disk.state c.args.next.now clear c.clear.ensures.place c.stage.new.self c.from_residual-in_err-stage.ensures.0 stage
    c.stage.ensures.place c.stage.ensures.closed

pub returns-in_err-open-clause-calls : goal.returns-in_err-open-clause-calls
returns-in_err-open-clause-calls g c =
    let clear = rw c.in_ok-clear.was at c.clear.ensures.calls in
    let stage = rw c.in_ok-stage.was at c.stage.ensures.calls in
    let last = rw c.in_err-open.was at c.open.ensures.calls in
    fails_to_open g.D.Disk.state c.args.next.now clear c.clear.ensures.place c.stage.new.self stage c.stage.ensures.place
    c.open.new.self c.from_residual-in_err-open.ensures.0 last c.open.ensures.place c.open.ensures.closed

pub returns-clause-calls : goal.returns-clause-calls
returns-clause-calls g c =
    let clear = rw c.in_ok-clear.was at c.clear.ensures.calls in
    let stage = rw c.in_ok-stage.was at c.stage.ensures.calls in
    let last = rw c.in_ok-open.was at c.open.ensures.calls in
    replaces g.D.Disk.state c.args.next.now clear c.clear.ensures.place c.stage.new.self stage c.stage.ensures.place c.open.new.self.disk c.copy-self.result
    last
    (c.spare_slot-slot.ensures.slot ∙ ap spare c.open.ensures.place) (c.spare_turn-turn.ensures.turn ∙ ap turn_after c.open.ensures.place) refl
    (unplaced c.open.new.self.place c.is_none-self.result c.is_none-self.ensures ∙ ap is_unplaced c.open.ensures.place)
