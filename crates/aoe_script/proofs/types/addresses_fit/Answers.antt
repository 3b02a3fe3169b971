use Rattle.std.proofs.Common.{List, arith, subst}
use Rattle.std.specs.List.{All}
use Rattle.std.proofs.lemmas.List.{take_all}
use Rattle.std.proofs.lemmas.List.Elements.{All-more}
use Rattle.aoe_base.specs.declared.address.Mac.{Mac}
use Rattle.aoe_script.specs.Types.{IsAddress}
use Rattle.aoe_script.proofs.types.addresses_fit.Goals as goal

pub macs-preserved : goal.macs-preserved
macs-preserved c = All-more IsAddress c.args.macs.now c.macs.mac-index _ c.macs-test.true c.macs.invariant c.address_fits.ensures

pub returns : goal.returns
returns c =
    let P : List Mac → Type 0 = λ macs. All IsAddress macs in
    subst P (take_all c.macs.mac-index c.args.macs.now (omega arith)) c.macs.invariant
