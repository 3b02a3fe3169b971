use Rattle.std.proofs.Common.{◌≡◌, Some, sym, ◌∙◌}
use Rattle.aoe_hold.proofs.queue.Queue.pop_from.Goals as goal

pub returns-clause-some : goal.returns-clause-some
returns-clause-some g c =
    let same : Some c.in_ok-place.first ≡ Some c.remove_at.result = sym c.in_ok-place.ensures.there ∙ c.remove_at.ensures.there in
    let is : c.in_ok-place.first ≡ c.remove_at.result = cc in
    rw (← c.self.view_is) (rw is at c.if-first-from.false, c.remove_at.ensures.items)
