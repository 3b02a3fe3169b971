use Rattle.aoe_block.specs.Fields.{parts_of}
use Rattle.aoe_block.proofs.LawLemmas.{later-hand}
use Rattle.aoe_block.proofs.SoundLemmas.{handed_parts, handed_sound, none_handed, some_pending}
use Rattle.aoe_block.proofs.block.Block.handed.Goals as goal

pub mark-requires : goal.mark-requires
mark-requires c =
    some_pending c.self.invariant (rw (← c.self.view_is) at c.requires.pending)

pub invariant_of-self : goal.invariant_of-self
invariant_of-self c =
    let b = c.self.inside in
    let lt = some_pending c.self.invariant (rw (← c.self.view_is) at c.requires.pending) in
    let fresh = rw (← c.self.view_is) at c.requires.fresh in
    rw c.mark.ensures (handed_sound c.self.invariant c.args.ticket lt (none_handed c.args.ticket.0 b.max b.at b.count b.stages.items b.bytes fresh))

pub returns-clause-handed : goal.returns-clause-handed
returns-clause-handed c =
    let lt = some_pending c.self.invariant (rw (← c.self.view_is) at c.requires.pending) in
    rw (← c.self.view_is, c.mark.ensures, handed_parts c.self.invariant c.args.ticket lt)

pub returns-clause-fresh : goal.returns-clause-fresh
returns-clause-fresh c later past free =
    let b = c.self.inside in
    let lt = some_pending c.self.invariant (rw (← c.self.view_is) at c.requires.pending) in
    let still = later-hand later c.args.ticket past (parts_of b.max b.at b.count b.stages.items b.bytes) (rw (← c.self.view_is) at free) in
    rw c.mark.ensures (rw (handed_parts c.self.invariant c.args.ticket lt) at still)
