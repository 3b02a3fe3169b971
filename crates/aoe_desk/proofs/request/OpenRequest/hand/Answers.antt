use Rattle.std.proofs.lemmas.Bool.{lt-ltb}
use Rattle.aoe_desk.proofs.RequestLemmas.{next_some, part_fresh}
use Rattle.aoe_desk.proofs.request.OpenRequest.hand.Goals as goal

pub handed-requires-clause-pending : goal.handed-requires-clause-pending
handed-requires-clause-pending c = next_some c.requires.kept c.args.ticket c.requires.rises (lt-ltb 0 c.args.self.now.parts c.if-self-gt0.true)

pub handed-requires-clause-fresh : goal.handed-requires-clause-fresh
handed-requires-clause-fresh c = part_fresh c.requires.kept c.args.ticket c.requires.rises
