-- Reserve lists (AoEr11, "Reserve / Release"). The bytes are those of the frame from byte 24 on.
use Rattle.std.specs.Prelude.{ℕ, ◌*◌, Bool, true, false, not, ◌&&◌, ◌==◌, nat_le, List, [], ◌∷◌, ◌++◌, length, map, drop, Option, Some, None, if◌then◌else◌, slice_index}
use Rattle.std.specs.List.{flat_map}
use Rattle.std.specs.Option.{option_and_then, option_map_or}
use Rattle.std.specs.Simd.{first_chunks}
use Rattle.aoe_base.specs.declared.address.Mac.{Mac}
use Rattle.aoe_base.specs.declared.refusal.AoeError.TheVariants.{BadArgument, TargetIsReserved}
use Rattle.aoe_lists.specs.declared.reserves.ReserveCommand.{ReserveCommand}
use Rattle.aoe_lists.specs.declared.reserves.ReserveCommand.TheVariants.{Read, Set, ForceSet}
use Rattle.aoe_lists.specs.Addresses.{first_places}
use Rattle.aoe_lists.specs.Settings.{Settings, max_addresses, may_use}
use Rattle.aoe_lists.specs.Step.{Step, reply_of, refusal_of, success_of}

-- the values of RCmd
abbrev pub reserve_code : ReserveCommand → ℕ
reserve_code Read = 0
reserve_code Set = 1
reserve_code ForceSet = 2

abbrev pub reserve_command_of : ℕ → Option ReserveCommand
reserve_command_of code =
    if code == 0 then Some Read
    else if code == 1 then Some Set
    else if code == 2 then Some ForceSet
    else None

-- a reply's arguments: the list
abbrev pub reserve_args : ReserveCommand → List Mac → List ℕ
reserve_args command reserves = (reserve_code command ∷ length reserves ∷ []) ++ flat_map (λ a. a.0) reserves

-- six bytes each are an address
abbrev pub addresses : List (List ℕ) → List Mac
addresses sixes = map (λ six. record { 0 = six }) sixes

-- every command but a read has addresses
abbrev pub has_addresses : ReserveCommand → Bool
has_addresses Read = false
has_addresses command = true

-- the addresses of a set, as many as it says and at most a full list
abbrev pub reserve_given : ReserveCommand → ℕ → List ℕ → Option (ReserveCommand × List Mac)
reserve_given command count rest =
    if not (has_addresses command) then Some (command, [])
    else if nat_le count max_addresses && nat_le (6 * count) (length rest) then Some (command, addresses (first_chunks 6 count rest))
    else None

-- the command and the addresses of a request, or nothing where a field is missing or has a value that isn't taken
abbrev pub reserve_request : List ℕ → Option (ReserveCommand × List Mac)
reserve_request bytes =
    if nat_le 2 (length bytes)
    then option_and_then (λ command. reserve_given command (slice_index bytes 1) (drop 2 bytes)) (reserve_command_of (slice_index bytes 0))
    else None

-- the list is set to the given one, in which the first of equal addresses counts
abbrev pub reserve_set : Settings → ReserveCommand → List Mac → Step
reserve_set s command given = success_of s (record s { reserves = first_places given }) (reserve_args command (first_places given))

-- what each command comes to
abbrev pub reserve_result : Settings → Mac → ReserveCommand → List Mac → Step
reserve_result s source Read given = reply_of (reserve_args Read s.reserves)
reserve_result s source Set given = if may_use s source then reserve_set s Set given else refusal_of TargetIsReserved []
reserve_result s source ForceSet given = reserve_set s ForceSet given

-- the written answer to a reserve request
unfoldable pub reserve_answer : Settings → Mac → List ℕ → Step
reserve_answer s source bytes =
    option_map_or (λ request. reserve_result s source request.0 request.1) (reserve_request bytes) (refusal_of BadArgument [])
