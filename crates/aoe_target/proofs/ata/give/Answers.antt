use Rattle.std.proofs.Common.{◌∙◌, arith}
use Rattle.aoe_target.proofs.PieceLemmas.{padded_whole}
use Rattle.aoe_target.proofs.ReplyLemmas.{gives_read}
use Rattle.aoe_target.proofs.ata.give.Goals as goal

pub returns-in-Ok-clause-gives : goal.returns-in-Ok-clause-gives
returns-in-Ok-clause-gives g c =
    gives_read c.args.station.now (g.S.Store.state c.args.store.now).contents c.args.header.now c.args.args.now c.args.span c.read_into.new.out.items
    c.read_into.new.out.items
    (c.read_into.ensures.front ∙ c.begin_data.ensures.front) c.read_into.ensures.len
    (padded_whole c.read_into.new.out.items (omega (arith, c.read_into.ensures.len, c.requires.range.some))) c.in-Ok.ensures.reads.given
