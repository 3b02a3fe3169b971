use Rattle.std.proofs.Common.{arith}
use Rattle.std.proofs.lemmas.List.{length-take}
use Rattle.aoe_copy.proofs.FeedLemmas.{front-took}
use Rattle.aoe_copy.proofs.feed.Feed.take_front.Goals as goal

pub returns-clause-took : goal.returns-clause-took
returns-clause-took c =
    front-took c.args.self.now.front.now c.copy_from_slice.new.self _ c.args.self.now.used c.min-n.result
    (omega (arith, c.copy_from_slice.ensures.len, c.min-n.ensures, length-take c.min-n.result c.args.out.now))
    c.copy_from_slice.ensures.after
