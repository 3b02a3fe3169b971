-- Each address of a script's lines has six bytes.
use Rattle.std.proofs.Common.{◌≡◌, List, length, All, Contains}
use Rattle.std.proofs.lemmas.List.Elements.{All-contains, All-nil}
use Rattle.aoe_base.specs.declared.address.Mac.{Mac}
use Rattle.aoe_script.specs.declared.setup.Setup.{Setup as Line}
use Rattle.aoe_script.specs.declared.setup.Setup.TheVariants.{Shelf, Host}
use Rattle.aoe_script.specs.Types.{FitsSetup}
use Rattle.aoe_sim_setup.specs.Layout.{addresses_in}

line-six : (line : Line) → FitsSetup line → All (λ mac. length mac.0 ≡ 6) (addresses_in line)
line-six (Shelf name major ports mtu) fits = λ k d lt. (fits k d lt).six
line-six (Host name ports room dead) fits = λ k d lt. (fits k d lt).six
line-six _ fits = All-nil (λ mac. length mac.0 ≡ 6)

pub six-bytes : (lines : List Line) (line : Line) (port : Mac) → All FitsSetup lines → Contains lines line → Contains (addresses_in line) port
    → length port.0 ≡ 6
six-bytes lines line port all there inside =
    All-contains (λ mac. length mac.0 ≡ 6) (addresses_in line) port (line-six line (All-contains FitsSetup lines line all there)) inside
