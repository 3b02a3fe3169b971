use Rattle.std.proofs.Common.{◌++◌, ◌∙◌, arith, refl}
use Rattle.aoe_vlan.proofs.RunLemmas.{begun, ends, goes-on, limited}
use Rattle.aoe_vlan.proofs.over_stream.run.Goals as goal

pub frames-init : goal.frames-init
frames-init g c = record {
  so_far = λ before learnt. begun c.args.switch.now before (g.S.Source.left c.args.source.now) (g.K.Sink.held c.args.sink.now) learnt;
  ports = refl;
  source = refl;
  sink = refl;
  fits = omega arith;
}

pub frames-preserved : goal.frames-preserved
frames-preserved g c = record {
  so_far = λ before learnt.
      let s = c.frames.invariant.so_far before learnt in
      goes-on c.args.switch.now c.frames.switch c.turn.new.switch before _ _ _ _ _ _ c.frames.offset c.frames.count c.in-Ok.length c.frames.invariant.ports s
      (c.in-Ok.ensures.turned (s.inputs ++ before) s.learnt);
  ports = c.turn.ensures.same_ports ∙ c.frames.invariant.ports;
  source = c.in-Ok.ensures.source_blame.no_fault (λ e. cc) ∙ c.frames.invariant.source;
  sink = c.in-Ok.ensures.sink_blame.no_fault (λ e. cc) ∙ c.frames.invariant.sink;
  fits = omega (arith, c.frames.invariant.fits, c.in-Ok.ensures.within);
}

pub returns-in-Err-clause-run : goal.returns-in-Err-clause-run
returns-in-Err-clause-run g c = λ before learnt.
    let s = c.frames.invariant.so_far before learnt in
    ends c.in-Err.end c.args.switch.now c.frames.switch c.turn.new.switch before _ _ _ _ _ _ c.frames.offset c.frames.count c.frames-test.true
    c.frames.invariant.ports s
    (c.in-Err.ensures.ends (s.inputs ++ before) s.learnt)

pub returns-clause-run : goal.returns-clause-run
returns-clause-run g c = λ before learnt.
    limited c.args.switch.now c.frames.switch before _ _ _ _ c.frames.offset c.frames.count (omega (arith, c.frames-test.false, c.frames.auto.count-end))
    (c.frames.invariant.so_far before learnt)
