-- Config strings (AoEr11, "Query Config Information"). The bytes are those of the frame from byte 24 on.
use Rattle.std.specs.Prelude.{ℕ, ◌+◌, ◌%◌, Bool, true, false, not, ◌||◌, ◌&&◌, ◌==◌, nat_eq, nat_le, List, [], ◌∷◌, ◌++◌, length, take, drop, Option, Some, None, if◌then◌else◌, slice_index, slice_range}
use Rattle.std.specs.Int.{w16, to_be_bytes, from_be_bytes}
use Rattle.std.specs.List.{starts_with}
use Rattle.std.specs.Option.{option_and_then, option_map_or}
use Rattle.std.specs.Str.{bytes_eq}
use Rattle.aoe_base.specs.declared.refusal.AoeError.TheVariants.{BadArgument, ConfigStringPresent}
use Rattle.aoe_lists.specs.declared.config.ConfigCommand.{ConfigCommand}
use Rattle.aoe_lists.specs.declared.config.ConfigCommand.TheVariants.{Read, Test, TestPrefix, Set, ForceSet}
use Rattle.aoe_lists.specs.declared.config.Facts.{Facts}
use Rattle.aoe_lists.specs.Settings.{Settings, max_config}
use Rattle.aoe_lists.specs.Step.{Step, Silent, reply_of, refusal_of, success_of}

-- the values of CCmd
abbrev pub config_code : ConfigCommand → ℕ
config_code Read = 0
config_code Test = 1
config_code TestPrefix = 2
config_code Set = 3
config_code ForceSet = 4

abbrev pub config_command_of : ℕ → Option ConfigCommand
config_command_of code =
    if code == 0 then Some Read
    else if code == 1 then Some Test
    else if code == 2 then Some TestPrefix
    else if code == 3 then Some Set
    else if code == 4 then Some ForceSet
    else None

-- a reply's arguments: the device's facts, version 1 with the request's CCmd, and the string with its length
abbrev pub config_args : Facts → ConfigCommand → List ℕ → List ℕ
config_args facts command string = to_be_bytes w16 facts.buffers ++ to_be_bytes w16 facts.firmware
    ++ (facts.max ∷ (16 + config_code command) ∷ []) ++ to_be_bytes w16 (length string) ++ string

-- every command but a read has a string
abbrev pub has_string : ConfigCommand → Bool
has_string Read = false
has_string command = true

-- a string of the given length, no longer than a config string may be, whose bytes are there
abbrev pub config_argument : ConfigCommand → ℕ → List ℕ → Option (ConfigCommand × List ℕ)
config_argument command len rest =
    if not (has_string command) then Some (command, [])
    else if nat_le len max_config && nat_le len (length rest) then Some (command, take len rest)
    else None

-- the command and the string of a request, or nothing where a field is missing or has a value that isn't taken
abbrev pub config_request : List ℕ → Option (ConfigCommand × List ℕ)
config_request bytes =
    if nat_le 8 (length bytes)
    then option_and_then (λ command. config_argument command (from_be_bytes w16 (slice_range bytes 6 8)) (drop 8 bytes))
    (config_command_of (slice_index bytes 5 % 16))
    else None

-- what each command comes to
abbrev pub config_result : Settings → Facts → ConfigCommand → List ℕ → Step
config_result s facts Read string = reply_of (config_args facts Read s.config)
config_result s facts Test string = if bytes_eq s.config string then reply_of (config_args facts Test s.config) else Silent
config_result s facts TestPrefix string =
    if starts_with nat_eq s.config string then reply_of (config_args facts TestPrefix s.config) else Silent
config_result s facts Set string =
    if length s.config == 0 || bytes_eq s.config string
    then success_of s (record s { config = string }) (config_args facts Set string)
    else refusal_of ConfigStringPresent (config_args facts Set s.config)
config_result s facts ForceSet string = success_of s (record s { config = string }) (config_args facts ForceSet string)

-- the written answer to a query config request
unfoldable pub config_answer : Settings → Facts → List ℕ → Step
config_answer s facts bytes =
    option_map_or (λ request. config_result s facts request.0 request.1) (config_request bytes) (refusal_of BadArgument [])
