use Rattle.std.proofs.Common.{arith, sym, subst}
use Rattle.aoe_net.specs.Network.{Network}
use Rattle.aoe_net.proofs.StoreLemmas.{measures, room-left, store-push, HasRoom}
use Rattle.aoe_net.proofs.net.Net.keep.Goals as goal

pub invariant_of-self-2 : goal.invariant_of-self-2
invariant_of-self-2 c =
    let is = measures c.self.inside.total c.self.inside.frames.items c.self.invariant in
    let room = subst (λ (net : Network). HasRoom net c.args.frame) (sym c.self.view_is) (room-left c.args.self.now c.args.frame c.requires.room) in
    rw (c.in_ok-push.ensures.items, c.bytes.ensures)
    (store-push c.self.inside.total c.self.inside.frames.items _ c.self.invariant (omega (arith, room.frames, is.count)) (omega (arith, room.bytes, is.sum)))
