use Rattle.std.proofs.Common.{◌≡◌, ◌<◌, ◌≤◌, ◌^◌, arith, ap, max, rules}
use Rattle.aoe_initiator.specs.HostLog.{commands}
use Rattle.aoe_initiator.specs.Host.{Host}
use Rattle.aoe_initiator.proofs.WorkLemmas.{next-none, next-some}
use Rattle.aoe_initiator.proofs.initiator.Initiator.next_time.Goals as goal

pub returns-then-from : goal.returns-then-from
returns-then-from c =
    let late : 2 ^ 64 ≤ c.work_from-from.result = search rules in
    record { next = λ log m. next-none c.args.self.now (commands log) c.work_from-from.result late (c.work_from-from.ensures.work log m) }

pub returns : goal.returns
returns c =
    let clock = ap (λ (h : Host). h.clock) c.self.view_is in
    let small : c.max.result < 2 ^ 64 = search rules in
    let is : c.max.result ≡ max c.work_from-from.result c.args.self.now.clock = omega (arith, c.max.ensures, clock) in
    record {
      next = λ log m.
          next-some c.args.self.now (commands log) c.work_from-from.result (record { 0 = c.max.result }) is small (c.work_from-from.ensures.work log m);
    }
