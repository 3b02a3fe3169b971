use Rattle.std.proofs.Common.{nat_lt, rules}
use Rattle.std.proofs.lemmas.List.Sorted.{IsPartitionPoint-from_clause}
use Rattle.aoe_hold.specs.declared.command.Command.{Command}
use Rattle.aoe_hold.proofs.PlaceLemmas.{tickets-parted}
use Rattle.aoe_hold.proofs.holds.keeper_by_walk.Goals as goal

pub blocker-requires : goal.blocker-requires
blocker-requires c =
    let ticket = c.args.command.now.ticket.0 in
    let point = IsPartitionPoint-from_clause (λ (d : Command). nat_lt d.ticket.0 ticket) c.args.commands.now c.partition_point-until.result
    c.partition_point-until.ensures.partitioned (tickets-parted ticket c.args.commands.now c.requires.ascending) (λ a r f h. search rules) in
    record { within = c.partition_point-until.ensures.bound; past = c.requires.past; later = point.1 }

pub clear_from-requires : goal.clear_from-requires
clear_from-requires c =
    let ticket = c.args.command.now.ticket.0 in
    let point = IsPartitionPoint-from_clause (λ (d : Command). nat_lt d.ticket.0 ticket) c.args.commands.now c.partition_point-until.result
    c.partition_point-until.ensures.partitioned (tickets-parted ticket c.args.commands.now c.requires.ascending) (λ a r f h. search rules) in
    record { within = c.partition_point-until.ensures.bound; past = c.requires.past; later = point.1 }
