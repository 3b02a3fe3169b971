-- What the types of its fields say of a line: contracts see their bytes and numbers as numbers without a bound.
use Rattle.std.specs.Prelude.{ℕ, ◌≡◌, ◌^◌, ◌<◌, All, length}
use Rattle.aoe_base.specs.declared.address.Mac.{Mac}
use Rattle.aoe_disk.specs.declared.loss.Loss.{Loss}
use Rattle.aoe_disk.specs.declared.loss.Loss.TheVariants.{Mix}
use Rattle.aoe_script.specs.declared.event.Event.{Event}
use Rattle.aoe_script.specs.declared.event.Event.TheVariants.{Write, Config, Masks, Reserve, Inject, Stop, Crash}
use Rattle.aoe_script.specs.declared.setup.Setup.{Setup}
use Rattle.aoe_script.specs.declared.setup.Setup.TheVariants.{Shelf, Host}

-- a byte, and an address: six of them
abbrev pub IsByte : ℕ → Type 0
IsByte b = b < 2 ^ 8

pub record IsAddress (mac : Mac) : Type 0 where
  pub six : length mac.0 ≡ 6
  pub bytes : All IsByte mac.0

-- the choice of a loss has 64 bits
abbrev pub FitsLoss : Loss → Type 0
FitsLoss (Mix x) = x < 2 ^ 64
FitsLoss _ = Unit {0}

-- each field of a setup line fits its type
abbrev pub FitsSetup : Setup → Type 0
FitsSetup (Shelf name major ports mtu) = All IsAddress ports.items
FitsSetup (Host name ports room dead) = All IsAddress ports.items
FitsSetup _ = Unit {0}

-- each field of an event line does
abbrev pub FitsEvent : Event → Type 0
FitsEvent (Write host dev at count fill) = IsByte fill
FitsEvent (Config host dev ccmd text) = All IsByte text
FitsEvent (Masks host dev edit dirs) = All (λ dir. IsAddress dir.mac) dirs.items
FitsEvent (Reserve host dev rcmd list) = All IsAddress list.items
FitsEvent (Inject bytes) = All IsByte bytes
FitsEvent (Stop dev which k mode) = FitsLoss mode
FitsEvent (Crash shelf mode) = FitsLoss mode
FitsEvent _ = Unit {0}
