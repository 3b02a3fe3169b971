use Rattle.std.proofs.Common.{ap, arith, Err}
use Rattle.aoe_live.proofs.RecordLemmas.{fails-at, follows-on, line-comes}
use Rattle.aoe_live.proofs.recorder.Recorder.record.Goals as goal

pub returns-in-Ok-push-clause-follows : goal.returns-in-Ok-push-clause-follows
returns-in-Ok-push-clause-follows c =
    follows-on c.args.self.now.sectors c.args.self.now.script c.args.self.now.world c.args.event c.requires.follows c.requires.recorded c.step.new.self
    c.in-Ok.ensures.comes c.push.new.self c.in-Ok-push.ensures.ok c.in-Ok.ensures.lines c.in-Ok.ensures.events.0 c.in-Ok.ensures.events.1
    (omega (arith, c.if-count-ge-MAX_EVENTS.false, c.count.ensures.count)) c.requires.short
    (record { lawful = c.in-Ok.ensures.lawful; reading = c.in-Ok.ensures.reading; room = c.in-Ok.ensures.room })

pub returns-in-Ok-push-clause-comes : goal.returns-in-Ok-push-clause-comes
returns-in-Ok-push-clause-comes c =
    line-comes c.args.self.now.sectors c.args.self.now.script c.args.self.now.world c.args.event c.requires.follows c.requires.recorded c.step.new.self
    c.in-Ok.ensures.comes

pub returns-in-Err-clause-fails : goal.returns-in-Err-clause-fails
returns-in-Err-clause-fails c =
    let begins = rw c.requires.follows.going at c.in-Err.ensures.begins in
    let why = rw c.requires.follows.going at c.in-Err.ensures.why in
    rw (c.stopped.ensures) (fails-at c.args.self.now.sectors c.args.self.now.script c.args.self.now.world c.args.event c.requires.follows
    (omega (arith, c.if-count-ge-MAX_EVENTS.false, c.count.ensures.count))
    c.in-Err.refusal c.step.new.self.entries c.step.new.self.lines c.in-Err.ensures.lines
    (record { lawful = c.in-Err.ensures.lawful; reading = c.in-Err.ensures.reading; room = c.in-Err.ensures.room }) begins why)

pub returns-in-Err-clause-stopped : goal.returns-in-Err-clause-stopped
returns-in-Err-clause-stopped c = rw c.in-Err.ensures.stays.0 (ap Err c.stopped.ensures)
