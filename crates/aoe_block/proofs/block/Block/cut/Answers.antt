use Rattle.std.proofs.Common.{◌≡◌, replicate, rules, ap}
use Rattle.std.proofs.lemmas.Grind.{div_ceil_times}
use Rattle.aoe_block.specs.declared.stage.Stage.TheVariants.{Pending}
use Rattle.aoe_block.proofs.PartLemmas.{cut-parts_of}
use Rattle.aoe_block.proofs.SoundLemmas.{sound_new, stranger}
use Rattle.aoe_block.proofs.StageLemmas.{all_pending}
use Rattle.aoe_block.specs.Stages.{is_handed}
use Rattle.aoe_block.proofs.block.Block.cut.Goals as goal

pub invariant_of-result : goal.invariant_of-result
invariant_of-result c =
    let times = div_ceil_times c.args.count c.args.max c.requires.some in
    let items : c.in-Ok.stages.items ≡ replicate c.div_ceil-number.result Pending = search rules in
    rw items (sound_new c.args.total c.args.max c.args.at c.args.count c.args.bytes c.div_ceil-number.result c.requires.some c.requires.few c.requires.range
    c.ranges.total.fits
    c.requires.short c.requires.size (rw c.div_ceil-number.ensures times.0) (rw c.div_ceil-number.ensures times.1))

pub returns-in-Ok-clause-cut : goal.returns-in-Ok-clause-cut
returns-in-Ok-clause-cut c =
    let times = div_ceil_times c.args.count c.args.max c.requires.some in
    let items : c.in-Ok.stages.items ≡ replicate c.div_ceil-number.result Pending = search rules in
    rw items (cut-parts_of c.args.max c.args.at c.args.count c.div_ceil-number.result c.args.bytes c.requires.some c.requires.size
    (rw c.div_ceil-number.ensures times.0) (rw c.div_ceil-number.ensures times.1))

pub returns-in-Ok-clause-fresh : goal.returns-in-Ok-clause-fresh
returns-in-Ok-clause-fresh c ticket =
    let items : c.in-Ok.stages.items ≡ replicate c.div_ceil-number.result Pending = search rules in
    rw items (stranger ticket c.args.max c.args.at c.args.count (replicate c.div_ceil-number.result Pending) c.args.bytes
    (λ k. ap (is_handed ticket) (all_pending c.div_ceil-number.result k)))
