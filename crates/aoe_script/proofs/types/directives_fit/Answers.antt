use Rattle.std.proofs.Common.{List, arith, subst}
use Rattle.std.specs.List.{All}
use Rattle.std.proofs.lemmas.List.{take_all}
use Rattle.std.proofs.lemmas.List.Elements.{All-more}
use Rattle.aoe_lists.specs.declared.dir.Dir.{Dir}
use Rattle.aoe_script.specs.Types.{IsAddress}
use Rattle.aoe_script.proofs.types.directives_fit.Goals as goal

pub dirs-preserved : goal.dirs-preserved
dirs-preserved c = All-more (λ dir. IsAddress dir.mac) c.args.dirs.now c.dirs.dir-index _ c.dirs-test.true c.dirs.invariant c.address_fits.ensures

pub returns : goal.returns
returns c =
    let P : List Dir → Type 0 = λ dirs. All (λ dir. IsAddress dir.mac) dirs in
    subst P (take_all c.dirs.dir-index c.args.dirs.now (omega arith)) c.dirs.invariant
