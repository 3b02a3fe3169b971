use Rattle.std.proofs.Common.{arith}
use Rattle.aoe_desk.specs.Requests.{owns, settle as settle_request}
use Rattle.aoe_desk.proofs.DeskLemmas.{first_place, length-change_at}
use Rattle.aoe_desk.proofs.KeptLemmas.{kept_settle, kept_some}
use Rattle.aoe_desk.proofs.desk.Desk.settle.Goals as goal

pub overflow_sub-self : goal.overflow_sub-self
overflow_sub-self c =
    let f = first_place (owns c.args.done.ticket.0) c.self.inside.requests.items c.in-Ok.k c.in-Ok.ensures.place in
    kept_some c.self.invariant c.in-Ok.k f.0 f.1 c.args.done f.2

pub invariant_of-self : goal.invariant_of-self
invariant_of-self c =
    let f = first_place (owns c.args.done.ticket.0) c.self.inside.requests.items c.in-Ok.k c.in-Ok.ensures.place in
    rw (c.in-Ok.ensures.settled, c.settle_in.ensures.capacity) (kept_settle c.self.invariant c.in-Ok.k f.0 f.1 c.args.done f.2)

pub close-requires : goal.close-requires
close-requires c =
    let xs = c.self.inside.requests.items in
    let f = first_place (owns c.args.done.ticket.0) xs c.in-Ok.k c.in-Ok.ensures.place in
    let len = length-change_at c.in-Ok.k (settle_request c.args.done) xs in
    rw c.in-Ok.ensures.settled (omega (arith, f.1, len))
