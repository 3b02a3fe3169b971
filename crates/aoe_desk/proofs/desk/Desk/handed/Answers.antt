use Rattle.std.proofs.Common.{◌≡◌, Some, refl, sym, ◌∙◌}
use Rattle.std.specs.List.{position}
use Rattle.std.proofs.lemmas.List.Quantifiers.{position-Some}
use Rattle.aoe_desk.specs.Requests.{hand as hand_request, is_waiting}
use Rattle.aoe_desk.proofs.DeskLemmas.{change_read, room_to_hand}
use Rattle.aoe_desk.proofs.KeptLemmas.{kept_hand}
use Rattle.aoe_desk.proofs.desk.Desk.handed.Goals as goal

pub invariant_of-self : goal.invariant_of-self
invariant_of-self c =
    let d = c.self.inside in
    let k = c.in-Some.k in
    let r = c.index_mut.result.now in
    let first : position is_waiting d.requests.items ≡ Some k = sym c.first_waiting.ensures ∙ c.in-Some.is in
    let here = position-Some is_waiting d.requests.items k r first in
    let same = change_read d.requests.items k r (hand_request c.args.ticket) here.0 c.index_mut.ensures.value in
    rw (c.hand.ensures, same) (kept_hand c.self.invariant k r here.0 here.1
    (room_to_hand c.self.invariant.desk (rw (← c.self.view_is) at c.requires.next)) c.args.ticket (rw (← c.self.view_is) at c.requires.rises))

pub returns-clause-handed : goal.returns-clause-handed
returns-clause-handed c =
    let d = c.self.inside in
    let k = c.in-Some.k in
    let r = c.index_mut.result.now in
    let first : position is_waiting d.requests.items ≡ Some k = sym c.first_waiting.ensures ∙ c.in-Some.is in
    let here = position-Some is_waiting d.requests.items k r first in
    let same = change_read d.requests.items k r (hand_request c.args.ticket) here.0 c.index_mut.ensures.value in
    rw (c.hand.ensures, same, ← c.self.view_is, first) refl
