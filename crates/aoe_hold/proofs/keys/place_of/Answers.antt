use Rattle.std.proofs.Common.{◌≡◌, ◌≤◌, arith, length, nat_eq, nat_lt, rules, false}
use Rattle.std.proofs.lemmas.List.Sorted.{IsPartitionPoint-from_clause}
use Rattle.aoe_hold.specs.declared.command.Command.{Command}
use Rattle.aoe_hold.proofs.MoveLemmas.{none_command}
use Rattle.aoe_hold.proofs.PlaceLemmas.{place-found, place-none, tickets-parted}
use Rattle.aoe_hold.proofs.keys.place_of.Goals as goal

pub returns-in-Some : goal.returns-in-Some
returns-in-Some c =
    let commands = c.args.commands.now in
    let point = IsPartitionPoint-from_clause (λ (d : Command). nat_lt d.ticket.0 c.args.ticket.0) commands c.partition_point-at.result
    c.partition_point-at.ensures.partitioned (tickets-parted c.args.ticket.0 commands c.requires) (λ a r f h. search rules) in
    let seen = c.in-Some.ensures.lookup.3 in
    place-found c.args.ticket.0 c.partition_point-at.result commands point.0 c.in-Some.command.now seen.0 (seen.1 c.in-Some.command.now) (search rules)

pub returns-in_default : goal.returns-in_default
returns-in_default c =
    let commands = c.args.commands.now in
    let point = IsPartitionPoint-from_clause (λ (d : Command). nat_lt d.ticket.0 c.args.ticket.0) commands c.partition_point-at.result
    c.partition_point-at.ensures.partitioned (tickets-parted c.args.ticket.0 commands c.requires) (λ a r f h. search rules) in
    let other : nat_eq c.in-Some.command.now.ticket.0 c.args.ticket.0 ≡ false = search rules in
    place-none c.args.ticket.0 c.partition_point-at.result commands point.0 none_command c.requires point.1
    (λ within. rw (← c.in-Some.ensures.lookup.3.1 none_command) other)

pub returns-in_default-2 : goal.returns-in_default-2
returns-in_default-2 c =
    let commands = c.args.commands.now in
    let point = IsPartitionPoint-from_clause (λ (d : Command). nat_lt d.ticket.0 c.args.ticket.0) commands c.partition_point-at.result
    c.partition_point-at.ensures.partitioned (tickets-parted c.args.ticket.0 commands c.requires) (λ a r f h. search rules) in
    let past : length commands ≤ c.partition_point-at.result = search rules in
    place-none c.args.ticket.0 c.partition_point-at.result commands point.0 none_command c.requires point.1 (λ within. absurd (omega arith))
