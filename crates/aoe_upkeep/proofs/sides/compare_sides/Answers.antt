use Rattle.std.proofs.Common.{◌∙◌, ◌*◌, ◌/◌, arith, drop, length, length-append, length-drop, refl, take}
use Rattle.std.proofs.lemmas.List.{length-take}
use Rattle.aoe_upkeep.specs.Comparing.{scene}
use Rattle.aoe_upkeep.proofs.SideLemmas.{has-all, has-cut, has-failed, has-more, has-none}
use Rattle.aoe_upkeep.proofs.sides.compare_sides.Goals as goal

pub pieces-init : goal.pieces-init
pieces-init g c = rw c.new-scan.ensures (record {
  scan = record { start = omega arith; count = omega arith };
  sectors = c.sectors-sectors.ensures.count;
  first = c.requires.first;
  second = c.requires.second;
  has = has-none (scene g.D.Disk.state g.K.Sink.held c.args.one.now c.args.two.now c.args.sink.now) c.sectors-sectors.ensures.disk c.requires.disk
      c.requires.size;
  faults = refl;
})

pub pieces-preserved : goal.pieces-preserved
pieces-preserved g c =
    let i = c.pieces.invariant in
    let m = c.min-len.result in
    let p = c.compare_piece in
    let front = length-take (512 * m) c.pieces.first in
    let second_front = length-take (512 * m) c.pieces.second in
    record {
      scan = c.in-Ok.ensures.scan;
      sectors = i.sectors;
      first = omega (
        arith,
        length-append p.new.first (drop (512 * m) c.pieces.first),
        length-drop (512 * m) c.pieces.first,
        p.auto.first,
        front,
        i.first,
        c.min-len.ensures,
      );
      second = omega (
        arith,
        length-append p.new.second (drop (512 * m) c.pieces.second),
        length-drop (512 * m) c.pieces.second,
        p.auto.second,
        second_front,
        i.second,
        c.min-len.ensures,
      );
      has = has-more c.pieces.scan (scene g.D.Disk.state g.K.Sink.held c.args.one.now c.args.two.now c.args.sink.now)
          (scene g.D.Disk.state g.K.Sink.held c.pieces.one c.pieces.two c.pieces.sink) i.has p.new.scan m
          (scene g.D.Disk.state g.K.Sink.held p.new.one p.new.two p.new.sink) (omega (arith, c.pieces-test.true, i.sectors))
          (omega (arith, c.pieces-test.true, c.min-len.ensures)) (omega (arith, c.min-len.ensures)) (omega (arith, c.min-len.ensures, i.sectors))
          (λ short. omega (arith, short, c.min-len.ensures, i.sectors)) (omega (arith, c.in-Ok.ensures.at, front, i.first, c.min-len.ensures))
          c.in-Ok.ensures.passes;
      faults = c.in-Ok.ensures.sink.no_fault (λ e. absurd cc) ∙ i.faults;
    }

pub returns-in-Err-clause-compares : goal.returns-in-Err-clause-compares
returns-in-Err-clause-compares g c =
    let i = c.pieces.invariant in
    let m = c.min-len.result in
    let p = c.compare_piece in
    has-failed c.pieces.scan (scene g.D.Disk.state g.K.Sink.held c.args.one.now c.args.two.now c.args.sink.now)
    (scene g.D.Disk.state g.K.Sink.held c.pieces.one c.pieces.two c.pieces.sink) i.has c.in-Err.stop p.new.scan
    (length (take (512 * m) c.pieces.first) / 512) (scene g.D.Disk.state g.K.Sink.held p.new.one p.new.two p.new.sink)
    (omega (arith, c.pieces-test.true, i.sectors))
    (omega (arith, length-take (512 * m) c.pieces.first, i.first, c.min-len.ensures, i.sectors)) c.in-Err.ensures.passes

pub returns-in-Ok-close-clause-compares : goal.returns-in-Ok-close-clause-compares
returns-in-Ok-close-clause-compares g c =
    let i = c.pieces.invariant in
    has-all c.pieces.scan (scene g.D.Disk.state g.K.Sink.held c.args.one.now c.args.two.now c.args.sink.now)
    (scene g.D.Disk.state g.K.Sink.held c.pieces.one c.pieces.two c.pieces.sink) i.has
    (scene g.D.Disk.state g.K.Sink.held c.pieces.one c.pieces.two c.close.new.sink) (omega (arith, c.pieces-test.false, i.sectors)) refl refl
    c.in-Ok-close.ensures.closes

pub returns-in-Err-close-clause-compares : goal.returns-in-Err-close-clause-compares
returns-in-Err-close-clause-compares g c =
    let i = c.pieces.invariant in
    has-cut c.pieces.scan (scene g.D.Disk.state g.K.Sink.held c.args.one.now c.args.two.now c.args.sink.now)
    (scene g.D.Disk.state g.K.Sink.held c.pieces.one c.pieces.two c.pieces.sink) i.has c.in-Err-close.field-0
    (scene g.D.Disk.state g.K.Sink.held c.pieces.one c.pieces.two c.close.new.sink) (omega (arith, c.pieces-test.false, i.sectors)) refl refl
    c.in-Err-close.ensures.closes
