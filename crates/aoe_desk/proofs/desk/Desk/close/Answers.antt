use Rattle.std.proofs.Common.{◌<◌, length, sym, ◌∙◌}
use Rattle.aoe_desk.proofs.KeptLemmas.{completed_is, completed_kept, finished_read, gone_is, gone_kept}
use Rattle.aoe_desk.proofs.desk.Desk.close.Goals as goal

pub invariant_of-self-then-k-self : goal.invariant_of-self-then-k-self
invariant_of-self-then-k-self c =
    let k = c.args.k in
    let r = c.in-Some.request in
    let xs = c.self.inside.requests.items in
    let inside : k < length xs = rw (← c.self.view_is) at c.requires in
    let over = finished_read xs k r c.index.result.now inside c.in-Some.ensures.value c.index.ensures (sym c.is_finished.ensures ∙ c.if-not-is_finished.false) in
    rw (c.in-Some.ensures.items, c.remove.ensures.capacity) (gone_kept c.self.invariant k r inside c.in-Some.ensures.value over c.if-k-self.true)

pub returns-then-k-self-clause-closed : goal.returns-then-k-self-clause-closed
returns-then-k-self-clause-closed c =
    let k = c.args.k in
    let r = c.in-Some.request in
    let xs = c.self.inside.requests.items in
    let inside : k < length xs = rw (← c.self.view_is) at c.requires in
    let over = finished_read xs k r c.index.result.now inside c.in-Some.ensures.value c.index.ensures (sym c.is_finished.ensures ∙ c.if-not-is_finished.false) in
    rw (c.in-Some.ensures.items, ← c.self.view_is) (gone_is c.self.invariant k r inside c.in-Some.ensures.value over c.if-k-self.true)

pub invariant_of-self-2 : goal.invariant_of-self-2
invariant_of-self-2 c =
    let k = c.args.k in
    let r = c.in-Some.request in
    let xs = c.self.inside.requests.items in
    let inside : k < length xs = rw (← c.self.view_is) at c.requires in
    let over = finished_read xs k r c.index.result.now inside c.in-Some.ensures.value c.index.ensures (sym c.is_finished.ensures ∙ c.if-not-is_finished.false) in
    rw (c.in-Some.ensures.items, c.remove.ensures.capacity, c.push_back_reserved.ensures.items, c.push_back_reserved.ensures.capacity, c.into_reply.ensures)
    (completed_kept c.self.invariant k r inside c.in-Some.ensures.value over c.if-k-self.false)

pub returns-clause-closed : goal.returns-clause-closed
returns-clause-closed c =
    let k = c.args.k in
    let r = c.in-Some.request in
    let xs = c.self.inside.requests.items in
    let inside : k < length xs = rw (← c.self.view_is) at c.requires in
    let over = finished_read xs k r c.index.result.now inside c.in-Some.ensures.value c.index.ensures (sym c.is_finished.ensures ∙ c.if-not-is_finished.false) in
    rw (c.in-Some.ensures.items, c.push_back_reserved.ensures.items, c.into_reply.ensures, ← c.self.view_is)
    (completed_is c.self.invariant k r inside c.in-Some.ensures.value over c.if-k-self.false)
