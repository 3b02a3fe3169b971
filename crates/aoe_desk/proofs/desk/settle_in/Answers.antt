use Rattle.std.proofs.Common.{◌<◌, List, length, ap, arith, refl, set, ◌∙◌}
use Rattle.std.proofs.lemmas.List.{set-get_or}
use Rattle.aoe_desk.specs.declared.request.OpenRequest.{OpenRequest}
use Rattle.aoe_desk.specs.Requests.{owns, settle as settle_request}
use Rattle.aoe_desk.proofs.DeskLemmas.{change_read}
use Rattle.aoe_desk.proofs.KeptLemmas.{first_here, first_none, one_more, owns_here}
use Rattle.aoe_desk.proofs.desk.settle_in.Goals as goal

pub returns-in-None-clause-place : goal.returns-in-None-clause-place
returns-in-None-clause-place c =
    let i = c.requests.invariant in
    let r = c.index_mut.result.now in
    let k = c.requests.k in
    first_here (owns c.args.done.ticket.0) c.args.requests.now.items k r (λ j lt. i.none j r lt)
    (omega (arith, c.requests-test.true, c.len-k-end.ensures)) (owns_here k r i.done i.items c.index_mut.ensures.value c.in-None.ensures.owner)

pub returns-in-None-clause-settled : goal.returns-in-None-clause-settled
returns-in-None-clause-settled c =
    let i = c.requests.invariant in
    let r = c.index_mut.result.now in
    let k = c.requests.k in
    let xs = c.requests.requests.items in
    let inside : k < length xs = rw i.items (omega (arith, c.requests-test.true, c.len-k-end.ensures)) in
    let same = change_read xs k r (settle_request c.requests.done) inside c.index_mut.ensures.value in
    rw (c.in-None.ensures.settled, same, i.items, i.done) (refl {A = List OpenRequest})

pub requests-preserved : goal.requests-preserved
requests-preserved c =
    let i = c.requests.invariant in
    let r = c.index_mut.result.now in
    let k = c.requests.k in
    let xs = c.requests.requests.items in
    let back = c.in-Some.ensures.same in
    record {
      done = back.0 ∙ i.done;
      items = ap (λ (x : OpenRequest). set xs k x) (back.1 ∙ c.index_mut.ensures.value) ∙ set-get_or xs k r ∙ i.items;
      capacity = i.capacity;
      none = one_more c.args.done.ticket.0 c.args.requests.now.items k r (omega (arith, c.requests-test.true, c.len-k-end.ensures)) i.none
          (owns_here k r i.done i.items c.index_mut.ensures.value c.in-Some.ensures.stranger);
    }

pub returns-clause-stranger : goal.returns-clause-stranger
returns-clause-stranger c = first_none (owns c.args.done.ticket.0) c.args.requests.now.items
    (λ j x lt. c.requests.invariant.none j x (omega (arith, lt, c.requests-test.false, c.len-k-end.ensures)))
