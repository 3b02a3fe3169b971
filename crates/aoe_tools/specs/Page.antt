-- What a response to the request for a page says of its device.
use Rattle.std.specs.Prelude.{ℕ, ◌+◌, ◌==◌, ◌&&◌, not, Bool, List, [], ◌∷◌, Option, Some, None, if◌then◌else◌, slice_range}
use Rattle.std.specs.Option.{option_and_then, option_map_or}
use Rattle.aoe_ata.specs.Identify.{declared, has_bit, word}
use Rattle.aoe_initiator.specs.declared.op.FlushCommand.{FlushCommand}
use Rattle.aoe_initiator.specs.declared.op.FlushCommand.TheVariants.{Cache, CacheExt}
use Rattle.aoe_initiator.specs.declared.response.Answer.{Answer}
use Rattle.aoe_initiator.specs.declared.response.Answer.TheVariants as answer
use Rattle.aoe_tools.specs.Asking.{Response}
use Rattle.aoe_tools.specs.declared.found.Known.{Known}
use Rattle.aoe_tools.specs.declared.found.Seen.{Seen}
use Rattle.aoe_tools.specs.declared.found.State.{State}
use Rattle.aoe_tools.specs.declared.found.State.TheVariants as state

-- its page: it stands behind the 12 bytes of the registers (AoEr11, "ATA Command")
abbrev pub page_in : Answer → List ℕ → Option (List ℕ)
page_in (answer.Data len) args = Some (slice_range args 12 (12 + len))
page_in (answer.Told len) args = None
page_in answer.Written args = None
page_in answer.Flushed args = None
page_in (answer.AtaError status error) args = None
page_in (answer.AoeError error) args = None

-- how many sectors it declares
abbrev pub total_in : Answer → List ℕ → Option ℕ
total_in a args = option_and_then declared (page_in a args)

-- word 83 is valid (its bits 15 and 14 are 0 and 1) and says that FLUSH CACHE EXT is supported (bit 13)
-- (ATA/ATAPI Command Set, "IDENTIFY DEVICE data")
abbrev pub has_flush_ext : List ℕ → Bool
has_flush_ext page = not (has_bit (word page 83) 15) && has_bit (word page 83) 14 && has_bit (word page 83) 13

-- the command by which the device is flushed: FLUSH CACHE EXT is one of the feature set of 48-bit addresses, FLUSH CACHE is for every
-- device (ATA/ATAPI Command Set, "FLUSH CACHE")
abbrev pub flush_command : List ℕ → FlushCommand
flush_command page = if has_flush_ext page then CacheExt else Cache

abbrev pub flush_in : Answer → List ℕ → FlushCommand
flush_in a args = option_map_or flush_command (page_in a args) Cache

-- where it declares none: error 6 says that other stations reserve the device (AoEr11, "Error")
abbrev pub state_without : Answer → State
state_without (answer.AoeError error) = if error == 6 then state.Reserved else state.Error
state_without (answer.AtaError status error) = state.Error
state_without (answer.Data len) = state.Error
state_without (answer.Told len) = state.Error
state_without answer.Written = state.Error
state_without answer.Flushed = state.Error

abbrev pub state_by : Option ℕ → Answer → State
state_by (Some total) a = state.Up
state_by None a = state_without a

abbrev pub known_by : Answer → List ℕ → Known
known_by a args = record { total = total_in a args; state = state_by (total_in a args) a }

-- what the responses say that came, of which there is one at most
abbrev pub known : List Response → Known
known [] = record { total = None; state = state.Silent }
known (r ∷ rs) = known_by r.reply.answer r.args

-- a device that was found, with what is known of it
abbrev pub with_known : Seen → Known → Seen
with_known s k = record { id = s.id; ports = s.ports; args = s.args; total = k.total; state = k.state }
