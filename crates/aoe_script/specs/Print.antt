-- The spelling of lines: words that single spaces part, numbers without leading zeros.
use Rattle.std.specs.Prelude.{ℕ, Bool, true, false, ◌==◌, List, [], ◌∷◌, ◌++◌, length, map, Option, Some, None, if◌then◌else◌, codes, decimal}
use Rattle.std.specs.List.{flat_map, join_with_byte}
use Rattle.aoe_base.specs.Names.{device_text, mac_text, pair_text}
use Rattle.aoe_base.specs.declared.address.Mac.{Mac}
use Rattle.aoe_base.specs.Texts.{macs_text}
use Rattle.aoe_disk.specs.declared.loss.Loss.{Loss}
use Rattle.aoe_disk.specs.declared.loss.Loss.TheVariants.{Keep as Kept, Old, Torn, Mix}
use Rattle.aoe_lists.specs.Settings.{Settings}
use Rattle.aoe_lists.specs.declared.dir.Dir.{Dir}
use Rattle.aoe_script.specs.declared.event.Event.{Event}
use Rattle.aoe_script.specs.declared.event.Event.TheVariants.{Read, Write, Flush, Identify, Config, Masks, Reserve, Tick, Deliver, Pass, Skip, Again, Inject, Fail, Stop, Crash}
use Rattle.aoe_script.specs.declared.event.Which.{Which}
use Rattle.aoe_script.specs.declared.event.Which.TheVariants.{Store, Keep}
use Rattle.aoe_script.specs.declared.setup.Setup.{Setup}
use Rattle.aoe_script.specs.declared.setup.Setup.TheVariants.{Life, Shelf, Slot, Host, Attach, Readonly}
use Rattle.aoe_script.specs.Lines.{ScriptLines}
use Rattle.aoe_script.specs.Words.{Text}

-- ---- words

abbrev pub list_text : List Mac → Text
list_text macs = if length macs == 0 then codes "-" else macs_text macs

abbrev pub dir_text : Dir → Text
dir_text dir = (if dir.add then 43 else 45) ∷ mac_text dir.mac

abbrev pub dirs_text : List Dir → Text
dirs_text dirs = join_with_byte 44 (map dir_text dirs)

abbrev pub bytes_text : List ℕ → Text
bytes_text bytes = if length bytes == 0 then codes "-" else flat_map pair_text bytes

-- addresses of twelve digits, joined by commas; a hyphen for none
abbrev pub digits_text : Mac → Text
digits_text mac = bytes_text mac.0

abbrev pub addresses_text : List Mac → Text
addresses_text macs = if length macs == 0 then codes "-" else join_with_byte 44 (map digits_text macs)

-- the word of lists with the read-only mark
abbrev pub mark_words : Bool → List Text
mark_words read_only = if read_only then codes "read-only" ∷ [] else []

-- the lists of a device, each behind its name, and their mark
abbrev pub lists_words : Settings → List Text
lists_words lists =
    codes "config" ∷ bytes_text lists.config ∷ codes "masks" ∷ addresses_text lists.masks ∷ codes "reserves" ∷ addresses_text lists.reserves
    ∷ mark_words lists.read_only

abbrev pub which_text : Which → Text
which_text Store = codes "store"
which_text Keep = codes "keep"

abbrev pub mode_text : Loss → Text
mode_text Kept = codes "keep"
mode_text Old = codes "old"
mode_text Torn = codes "torn"
mode_text (Mix x) = codes "mix:" ++ decimal x

-- the action words; a number that has none is its own
abbrev pub ccmd_text : ℕ → Text
ccmd_text ccmd =
    if ccmd == 0 then codes "read" else if ccmd == 1 then codes "test" else if ccmd == 2 then codes "prefix"
    else if ccmd == 3 then codes "set" else if ccmd == 4 then codes "force" else decimal ccmd

abbrev pub rcmd_text : ℕ → Text
rcmd_text rcmd = if rcmd == 0 then codes "read" else if rcmd == 1 then codes "set" else if rcmd == 2 then codes "force" else decimal rcmd

-- an action on the lists of a device: a read of the config string has no text, one of the reserve list no addresses
abbrev pub config_words : ℕ → List ℕ → List Text
config_words ccmd text = ccmd_text ccmd ∷ (if ccmd == 0 then [] else bytes_text text ∷ [])

abbrev pub masks_words : Bool → List Dir → List Text
masks_words edit dirs = if edit then codes "edit" ∷ dirs_text dirs ∷ [] else codes "read" ∷ []

abbrev pub reserve_words : ℕ → List Mac → List Text
reserve_words rcmd list = rcmd_text rcmd ∷ (if rcmd == 0 then [] else list_text list ∷ [])

abbrev pub optional_word : Option ℕ → List Text
optional_word None = []
optional_word (Some n) = decimal n ∷ []

-- ---- lines

abbrev pub setup_words : Setup → List Text
setup_words (Life requests responses) = codes "life" ∷ decimal requests ∷ optional_word responses
setup_words (Shelf name major ports mtu) = codes "shelf" ∷ name.items ∷ decimal major ∷ macs_text ports.items ∷ decimal mtu ∷ []
setup_words (Slot shelf minor sectors room) = codes "slot" ∷ shelf.items ∷ decimal minor ∷ decimal sectors ∷ optional_word room
setup_words (Host name ports room dead) = codes "host" ∷ name.items ∷ macs_text ports.items ∷ (optional_word room ++ optional_word dead)
setup_words (Attach host shelf minor) = codes "attach" ∷ host.items ∷ shelf.items ∷ decimal minor ∷ []
setup_words (Readonly shelf minor) = codes "readonly" ∷ shelf.items ∷ decimal minor ∷ []

abbrev pub event_words : Event → List Text
event_words (Read host dev at count) = codes "read" ∷ host.items ∷ device_text dev ∷ decimal at ∷ decimal count ∷ []
event_words (Write host dev at count fill) = codes "write" ∷ host.items ∷ device_text dev ∷ decimal at ∷ decimal count ∷ pair_text fill ∷ []
event_words (Flush host dev) = codes "flush" ∷ host.items ∷ device_text dev ∷ []
event_words (Identify host dev) = codes "identify" ∷ host.items ∷ device_text dev ∷ []
event_words (Config host dev ccmd text) = codes "config" ∷ host.items ∷ device_text dev ∷ config_words ccmd text
event_words (Masks host dev edit dirs) = codes "masks" ∷ host.items ∷ device_text dev ∷ masks_words edit dirs.items
event_words (Reserve host dev rcmd list) = codes "reserve" ∷ host.items ∷ device_text dev ∷ reserve_words rcmd list.items
event_words (Tick ms) = codes "tick" ∷ decimal ms ∷ []
event_words (Deliver frame station) = codes "deliver" ∷ decimal frame ∷ station.items ∷ []
event_words (Pass n) = codes "pass" ∷ decimal n ∷ []
event_words (Skip n) = codes "skip" ∷ decimal n ∷ []
event_words Again = codes "again" ∷ []
event_words (Inject bytes) = codes "inject" ∷ bytes_text bytes ∷ []
event_words (Fail dev which k) = codes "fail" ∷ device_text dev ∷ which_text which ∷ decimal k ∷ []
event_words (Stop dev which k mode) = codes "stop" ∷ device_text dev ∷ which_text which ∷ decimal k ∷ mode_text mode ∷ []
event_words (Crash shelf mode) = codes "crash" ∷ shelf.items ∷ mode_text mode ∷ []

-- it is an action on the lists of a device
abbrev pub is_action : Event → Bool
is_action (Config host dev ccmd text) = true
is_action (Masks host dev edit dirs) = true
is_action (Reserve host dev rcmd list) = true
is_action _ = false

-- it is what a host asks of a device
abbrev pub is_submission : Event → Bool
is_submission (Read host dev at count) = true
is_submission (Write host dev at count fill) = true
is_submission (Flush host dev) = true
is_submission (Identify host dev) = true
is_submission event = is_action event

-- words, each but the first behind a space (32)
abbrev pub spaced : List Text → Text
spaced ws = flat_map (λ word. 32 ∷ word) ws

abbrev pub spelled : List Text → Text
spelled [] = []
spelled (first ∷ ws) = first ++ spaced ws

-- a line of them, with its line feed (10)
abbrev pub line_text : List Text → Text
line_text ws = spelled ws ++ 10 ∷ []

abbrev pub script_text : ScriptLines → Text
script_text lines = flat_map (λ setup. line_text (setup_words setup)) lines.setups ++ flat_map (λ event. line_text (event_words event)) lines.events
