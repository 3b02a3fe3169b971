use Rattle.aoe_upkeep.specs.Comparing.{Refuses, scene}
use Rattle.aoe_upkeep.proofs.TellLemmas.{never, no-refusal, told-read}
use Rattle.aoe_upkeep.proofs.sides.compare.Goals as goal

pub returns-clause-refuses : goal.returns-clause-refuses
returns-clause-refuses g c =
    no-refusal c.tell.result
    (λ why. Refuses why (g.D.Disk.state c.args.one.now) (g.D.Disk.state c.args.two.now) (g.D.Disk.state c.args.mark.now)
    (g.D.Disk.state c.find_mark.new.mark))
    (told-read c.tell.result c.in-Ok.found (scene g.D.Disk.state g.K.Sink.held c.args.one.now c.args.two.now c.args.sink.now)
    (scene g.D.Disk.state g.K.Sink.held c.tell.new.one c.tell.new.two c.tell.new.sink) c.tell.ensures.tells)

pub returns-clause-unread : goal.returns-clause-unread
returns-clause-unread g c =
    never c.tell.result
    (told-read c.tell.result c.in-Ok.found (scene g.D.Disk.state g.K.Sink.held c.args.one.now c.args.two.now c.args.sink.now)
    (scene g.D.Disk.state g.K.Sink.held c.tell.new.one c.tell.new.two c.tell.new.sink) c.tell.ensures.tells)

pub returns-clause-unwritten : goal.returns-clause-unwritten
returns-clause-unwritten g c =
    never c.tell.result
    (told-read c.tell.result c.in-Ok.found (scene g.D.Disk.state g.K.Sink.held c.args.one.now c.args.two.now c.args.sink.now)
    (scene g.D.Disk.state g.K.Sink.held c.tell.new.one c.tell.new.two c.tell.new.sink) c.tell.ensures.tells)
