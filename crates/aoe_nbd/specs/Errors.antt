-- The numbers of the errors that a reply can bear (NBD protocol, "Error values").
use Rattle.std.specs.Prelude.{ℕ, Option, Some, None}
use Rattle.aoe_nbd.specs.declared.error.NbdError.{NbdError}
use Rattle.aoe_nbd.specs.declared.error.NbdError.TheVariants.{NotPermitted, Failed, NoMemory, Invalid, NoSpace}

abbrev pub number_of : NbdError → ℕ
number_of NotPermitted = 1
number_of Failed = 5
number_of NoMemory = 12
number_of Invalid = 22
number_of NoSpace = 28

-- the number in a reply, 0 where there is no error
abbrev pub error_number : Option NbdError → ℕ
error_number None = 0
error_number (Some error) = number_of error
