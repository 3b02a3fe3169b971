use Rattle.std.proofs.Common.{◌≡◌, ◌<◌, List, [], length, ap, ◌∙◌}
use Rattle.aoe_base.specs.declared.address.Mac.{Mac}
use Rattle.aoe_paths.specs.PathTable.{PathTable}
use Rattle.aoe_paths.proofs.PairLemmas.{pair-read}
use Rattle.aoe_paths.proofs.paths.Paths.pair.Goals as goal

pub returns : goal.returns
returns c =
    let locals : c.self.inside.locals.items ≡ c.args.self.now.locals = ap (λ (table : PathTable). table.locals) c.self.view_is in
    let remotes : c.self.inside.remotes.items ≡ c.args.self.now.remotes = ap (λ (table : PathTable). table.remotes) c.self.view_is in
    let some : 0 < length c.args.self.now.remotes = rw (← remotes) c.self.invariant.remote in
    pair-read c.args.self.now c.args.p.0 c.len-remotes.result c.deref.result.now c.deref-2.result.now (record { 0 = [] })
    (c.deref.ensures.0 ∙ locals) (c.deref-2.ensures.0 ∙ remotes) (c.len-remotes.ensures.value ∙ ap (λ (ports : List Mac). length ports) remotes) some c.requires
