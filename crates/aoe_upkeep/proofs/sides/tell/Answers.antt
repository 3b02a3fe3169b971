use Rattle.std.proofs.Common.{◌∙◌, ap, refl}
use Rattle.aoe_upkeep.specs.Comparing.{last_line, scene}
use Rattle.aoe_upkeep.proofs.TellLemmas.{head-cut, last-cut, runs-cut, tells-all}
use Rattle.aoe_upkeep.proofs.sides.tell.Goals as goal

pub returns-in-Err-clause-tells : goal.returns-in-Err-clause-tells
returns-in-Err-clause-tells g c =
    head-cut c.args.found (scene g.D.Disk.state g.K.Sink.held c.args.one.now c.args.two.now c.args.sink.now) c.requires.size c.requires.one c.requires.two
    (scene g.D.Disk.state g.K.Sink.held c.args.one.now c.args.two.now c.give_all.new.sink) refl refl (rw c.head_line.ensures at c.in-Err.ensures.some)

pub returns-in-Err-compare_sides-clause-tells : goal.returns-in-Err-compare_sides-clause-tells
returns-in-Err-compare_sides-clause-tells g c =
    runs-cut c.args.found (scene g.D.Disk.state g.K.Sink.held c.args.one.now c.args.two.now c.args.sink.now) c.requires.size c.requires.one c.requires.two
    (g.K.Sink.held c.give_all.new.sink) (rw c.head_line.ensures at c.in-Ok.ensures.all) c.in-Err-compare_sides.stop
    (scene g.D.Disk.state g.K.Sink.held c.compare_sides.new.one c.compare_sides.new.two c.compare_sides.new.sink) c.in-Err-compare_sides.ensures.compares

pub returns-in-Ok-give_all-clause-tells : goal.returns-in-Ok-give_all-clause-tells
returns-in-Ok-give_all-clause-tells g c =
    tells-all c.args.found (scene g.D.Disk.state g.K.Sink.held c.args.one.now c.args.two.now c.args.sink.now) c.requires.size c.requires.one c.requires.two
    (g.K.Sink.held c.give_all.new.sink) (rw c.head_line.ensures at c.in-Ok.ensures.all) c.in-Ok-compare_sides.count
    (scene g.D.Disk.state g.K.Sink.held c.compare_sides.new.one c.compare_sides.new.two c.compare_sides.new.sink) c.in-Ok-compare_sides.ensures.compares
    (scene g.D.Disk.state g.K.Sink.held c.compare_sides.new.one c.compare_sides.new.two c.give_all-2.new.sink) c.as_slice.result.now
    (c.as_slice.ensures.value ∙ c.last_line.ensures ∙ ap (last_line c.in-Ok-compare_sides.count) c.sectors.ensures.count) refl refl c.in-Ok-give_all.ensures.all

pub returns-in-Err-give_all-clause-tells : goal.returns-in-Err-give_all-clause-tells
returns-in-Err-give_all-clause-tells g c =
    last-cut c.args.found (scene g.D.Disk.state g.K.Sink.held c.args.one.now c.args.two.now c.args.sink.now) c.requires.size c.requires.one c.requires.two
    (g.K.Sink.held c.give_all.new.sink) (rw c.head_line.ensures at c.in-Ok.ensures.all) c.in-Ok-compare_sides.count
    (scene g.D.Disk.state g.K.Sink.held c.compare_sides.new.one c.compare_sides.new.two c.compare_sides.new.sink) c.in-Ok-compare_sides.ensures.compares
    (scene g.D.Disk.state g.K.Sink.held c.compare_sides.new.one c.compare_sides.new.two c.give_all-2.new.sink) c.as_slice.result.now
    (c.as_slice.ensures.value ∙ c.last_line.ensures ∙ ap (last_line c.in-Ok-compare_sides.count) c.sectors.ensures.count) refl refl c.in-Err-give_all.ensures.some
