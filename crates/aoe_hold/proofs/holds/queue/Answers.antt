use Rattle.aoe_hold.proofs.QueuedLemmas.{queued-blocked, queued-timed}
use Rattle.aoe_hold.proofs.holds.queue.Goals as goal

pub returns-in-Blocker : goal.returns-in-Blocker
returns-in-Blocker c = λ life latest commands by.
    queued-blocked life latest commands (record { command = c.args.command; from = c.from-from.result }) c.args.blocked.now c.insert.new.self c.args.timed.now
    c.insert.ensures.waiters c.insert.ensures.room (rw c.from-from.ensures (rw c.in-Blocker.is at by))

pub returns-in-Clear : goal.returns-in-Clear
returns-in-Clear c = λ life latest commands by.
    let clear = rw c.in-Clear.is at by in
    queued-timed life latest commands (record { command = c.args.command; from = c.in-Clear.from }) c.args.timed.now c.insert-in-Clear.new.self
    c.args.blocked.now
    c.insert-in-Clear.ensures.waiters c.insert-in-Clear.ensures.room clear.0 clear.1
