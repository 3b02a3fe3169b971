-- The codes of the errors that a reply can bear (AoEr11, "Error").
use Rattle.std.specs.Prelude.{ℕ}
use Rattle.aoe_base.specs.declared.refusal.AoeError.{AoeError}
use Rattle.aoe_base.specs.declared.refusal.AoeError.TheVariants.{UnrecognizedCommand, BadArgument, DeviceUnavailable, ConfigStringPresent, UnsupportedVersion, TargetIsReserved}

abbrev pub code_of_error : AoeError → ℕ
code_of_error UnrecognizedCommand = 1
code_of_error BadArgument = 2
code_of_error DeviceUnavailable = 3
code_of_error ConfigStringPresent = 4
code_of_error UnsupportedVersion = 5
code_of_error TargetIsReserved = 6
