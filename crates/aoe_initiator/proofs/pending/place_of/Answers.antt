use Rattle.std.proofs.Common.{◌≡◌, ◌≤◌, true, false, length, rules, arith, ◌∙◌}
use Rattle.std.proofs.lemmas.List.Sorted.{IsPartitionPoint-from_clause}
use Rattle.aoe_initiator.proofs.PlaceLemmas.{get_or-any, has, item-past, lower, partitioned, place-none, place-some}
use Rattle.aoe_initiator.proofs.pending.place_of.Goals as goal

pub returns-in-Some : goal.returns-in-Some
returns-in-Some c =
    let xs = c.args.pending.now.items in
    let t = c.args.ticket.0 in
    let at = c.partition_point-at.result in
    let point = IsPartitionPoint-from_clause (lower t) xs at c.partition_point-at.ensures.partitioned (partitioned t xs c.requires) (λ a r f h. search rules) in
    let same : has t c.in-Some.command.now ≡ true = search rules in
    let read = c.in-Some.ensures.item.1 in
    place-some t xs at c.in-Some.ensures.item.3.0 point.0 (λ d. rw (← (read ∙ get_or-any xs at c.in-Some.command.now d c.in-Some.ensures.item.3.0)) same)

pub returns-in_default : goal.returns-in_default
returns-in_default c =
    let xs = c.args.pending.now.items in
    let t = c.args.ticket.0 in
    let at = c.partition_point-at.result in
    let point = IsPartitionPoint-from_clause (lower t) xs at c.partition_point-at.ensures.partitioned (partitioned t xs c.requires) (λ a r f h. search rules) in
    let other : has t c.in-Some.command.now ≡ false = search rules in
    let read = c.in-Some.ensures.item.1 in
    place-none t xs at c.requires point.0 point.1 (λ d inside. rw (← (read ∙ get_or-any xs at c.in-Some.command.now d inside)) other)

pub returns-in_default-2 : goal.returns-in_default-2
returns-in_default-2 c =
    let xs = c.args.pending.now.items in
    let t = c.args.ticket.0 in
    let at = c.partition_point-at.result in
    let point = IsPartitionPoint-from_clause (lower t) xs at c.partition_point-at.ensures.partitioned (partitioned t xs c.requires) (λ a r f h. search rules) in
    let past : length xs ≤ at = item-past xs at c.get.result c.in_default.is c.get.ensures.item in
    place-none t xs at c.requires point.0 point.1 (λ d inside. absurd (omega (arith, past, inside)))
