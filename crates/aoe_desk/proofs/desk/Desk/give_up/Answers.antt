use Rattle.std.proofs.Common.{◌≡◌, Some, refl, sym, ◌∙◌}
use Rattle.std.specs.List.{position}
use Rattle.std.proofs.lemmas.List.Quantifiers.{position-Some}
use Rattle.aoe_desk.specs.Requests.{gave_up as gave_up_request, is_waiting}
use Rattle.aoe_desk.proofs.DeskLemmas.{change_read}
use Rattle.aoe_desk.proofs.KeptLemmas.{kept_give_up}
use Rattle.aoe_desk.proofs.desk.Desk.give_up.Goals as goal

pub invariant_of-self : goal.invariant_of-self
invariant_of-self c =
    let d = c.self.inside in
    let k = c.in-Some.k in
    let r = c.index_mut.result.now in
    let first : position is_waiting d.requests.items ≡ Some k = sym c.first_waiting.ensures ∙ c.in-Some.is in
    let here = position-Some is_waiting d.requests.items k r first in
    let same = change_read d.requests.items k r gave_up_request here.0 c.index_mut.ensures.value in
    rw (c.give_up.ensures, same) (kept_give_up c.self.invariant k r here.0)

pub returns-clause-given_up : goal.returns-clause-given_up
returns-clause-given_up c =
    let d = c.self.inside in
    let k = c.in-Some.k in
    let r = c.index_mut.result.now in
    let first : position is_waiting d.requests.items ≡ Some k = sym c.first_waiting.ensures ∙ c.in-Some.is in
    let here = position-Some is_waiting d.requests.items k r first in
    let same = change_read d.requests.items k r gave_up_request here.0 c.index_mut.ensures.value in
    rw (c.close.ensures.closed, c.give_up.ensures, same, ← c.self.view_is, first) refl
