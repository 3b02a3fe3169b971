-- The lines of the grammar: what the words of a line say.
use Rattle.std.specs.Prelude.{ℕ, Bool, true, false, ◌&&◌, ◌||◌, ◌==◌, List, [], length, nat_le, slice_index, Option, Some, None, if◌then◌else◌, is_some, option_and_then, option_map}
use Rattle.std.specs.Option.{option_map_or}
use Rattle.arrayvec.specs.ArrayVec.{ArrayVec}
use Rattle.aoe_base.specs.Names.{device_of}
use Rattle.aoe_base.specs.declared.address.Mac.{Mac}
use Rattle.aoe_base.specs.declared.address.TargetId.{TargetId}
use Rattle.aoe_lists.specs.declared.dir.Dir.{Dir}
use Rattle.aoe_script.specs.declared.event.Event.{Event}
use Rattle.aoe_script.specs.declared.event.Event.TheVariants.{Read, Write, Flush, Identify, Config, Masks, Reserve, Tick, Deliver, Pass, Skip, Again, Inject, Fail, Stop, Crash}
use Rattle.aoe_script.specs.declared.refusal.Why.TheVariants.{Word, Value}
use Rattle.aoe_script.specs.declared.setup.Setup.{Setup}
use Rattle.aoe_script.specs.declared.setup.Setup.TheVariants.{Life, Shelf, Slot, Host, Attach, Readonly}
use Rattle.aoe_script.specs.declared.line.Line.{Line}
use Rattle.aoe_script.specs.declared.line.Line.TheVariants.{Blank, Declares, Asks, Bad}
use Rattle.aoe_script.specs.declared.keyword.Keyword.{Keyword}
use Rattle.aoe_script.specs.declared.keyword.Keyword.TheVariants.{Life as LifeLine, Shelf as ShelfLine, Slot as SlotLine, Host as HostLine, Attach as AttachLine, Readonly as ReadonlyLine, Read as ReadLine, Write as WriteLine, Flush as FlushLine, Identify as IdentifyLine, Config as ConfigLine, Masks as MasksLine, Reserve as ReserveLine, Tick as TickLine, Deliver as DeliverLine, Pass as PassLine, Skip as SkipLine, Again as AgainLine, Inject as InjectLine, Fail as FailLine, Stop as StopLine, Crash as CrashLine}
use Rattle.aoe_script.specs.Classes.{byte_of, bytes_of, ccmd_of, dirs_of, edit_of, keyword_of, list_of, mode_of, name_of, number, ports_of, rcmd_of, which_of}
use Rattle.aoe_script.specs.Words.{Text, few_words, word_at}

-- ---- parts that several forms have

-- a number that may be missing
abbrev pub optional_number : List Text → ℕ → Option (Option ℕ)
optional_number ws i = if nat_le (length ws) i then Some None else option_map Some (number (word_at ws i))

-- the host and the device of a submission
abbrev pub submitted : {T : Type 0} → (ArrayVec ℕ → TargetId → Option T) → List Text → Option T
submitted make ws = option_and_then (λ host. option_and_then (λ dev. make host dev) (device_of (word_at ws 2))) (name_of (word_at ws 1))

-- ---- setup lines

-- life MS, or life REQUESTS RESPONSES
abbrev pub life_of : List Text → Option Setup
life_of ws = option_and_then (λ requests. option_map (λ responses. Life requests responses) (optional_number ws 2)) (number (word_at ws 1))

-- shelf NAME MAJOR PORTS MTU
abbrev pub shelf_of : List Text → Option Setup
shelf_of ws =
    option_and_then (λ name. option_and_then (λ major. option_and_then (λ ports. option_map (λ mtu. Shelf name major (record { items = ports }) mtu)
    (number (word_at ws 4))) (ports_of (word_at ws 3))) (number (word_at ws 2))) (name_of (word_at ws 1))

-- slot NAME MINOR SECTORS, with or without ROOM
abbrev pub slot_of : List Text → Option Setup
slot_of ws =
    option_and_then (λ shelf. option_and_then (λ minor. option_and_then (λ sectors. option_map (λ room. Slot shelf minor sectors room)
    (optional_number ws 4)) (number (word_at ws 3))) (number (word_at ws 2))) (name_of (word_at ws 1))

-- host NAME PORTS, with or without ROOM DEAD
abbrev pub host_of : List Text → Option Setup
host_of ws =
    option_and_then (λ name. option_and_then (λ ports. option_and_then (λ room. option_map (λ dead. Host name (record { items = ports }) room dead)
    (optional_number ws 4)) (optional_number ws 3)) (ports_of (word_at ws 2))) (name_of (word_at ws 1))

-- attach HOST SHELF MINOR
abbrev pub attach_of : List Text → Option Setup
attach_of ws =
    option_and_then (λ host. option_and_then (λ shelf. option_map (λ minor. Attach host shelf minor)
    (number (word_at ws 3))) (name_of (word_at ws 2))) (name_of (word_at ws 1))

-- readonly SHELF MINOR
abbrev pub readonly_of : List Text → Option Setup
readonly_of ws = option_and_then (λ shelf. option_map (λ minor. Readonly shelf minor) (number (word_at ws 2))) (name_of (word_at ws 1))

-- ---- submissions

-- read HOST DEV AT COUNT
abbrev pub read_of : List Text → Option Event
read_of ws = submitted (λ host dev. option_and_then (λ at. option_map (λ count. Read host dev at count) (number (word_at ws 4))) (number (word_at ws 3))) ws

-- write HOST DEV AT COUNT HH
abbrev pub write_of : List Text → Option Event
write_of ws = submitted (λ host dev. option_and_then (λ at. option_and_then (λ count. option_map (λ fill. Write host dev at count fill)
    (byte_of (word_at ws 5))) (number (word_at ws 4))) (number (word_at ws 3))) ws

-- flush HOST DEV, identify HOST DEV
abbrev pub flush_of : List Text → Option Event
flush_of = submitted (λ host dev. Some (Flush host dev))

abbrev pub identify_of : List Text → Option Event
identify_of = submitted (λ host dev. Some (Identify host dev))

-- config HOST DEV read, or an action with HEX
abbrev pub config_text : ℕ → List Text → Option (List ℕ)
config_text ccmd ws = if ccmd == 0 then Some [] else bytes_of (word_at ws 4)

abbrev pub config_of : List Text → Option Event
config_of ws = submitted (λ host dev. option_and_then (λ ccmd. option_map (λ text. Config host dev ccmd text)
    (config_text ccmd ws)) (ccmd_of (word_at ws 3))) ws

abbrev pub has_config_shape : List Text → Bool
has_config_shape ws = option_map_or (λ ccmd. length ws == (if ccmd == 0 then 4 else 5)) (ccmd_of (word_at ws 3)) false

-- masks HOST DEV read, or edit DIRS
abbrev pub mask_dirs : Bool → List Text → Option (List Dir)
mask_dirs edit ws = if edit then dirs_of (word_at ws 4) else Some []

abbrev pub masks_of : List Text → Option Event
masks_of ws = submitted (λ host dev. option_and_then (λ edit. option_map (λ dirs. Masks host dev edit (record { items = dirs }))
    (mask_dirs edit ws)) (edit_of (word_at ws 3))) ws

abbrev pub has_masks_shape : List Text → Bool
has_masks_shape ws = option_map_or (λ edit. length ws == (if edit then 5 else 4)) (edit_of (word_at ws 3)) false

-- reserve HOST DEV read, or an action with LIST
abbrev pub reserve_list : ℕ → List Text → Option (List Mac)
reserve_list rcmd ws = if rcmd == 0 then Some [] else list_of (word_at ws 4)

abbrev pub reserve_of : List Text → Option Event
reserve_of ws = submitted (λ host dev. option_and_then (λ rcmd. option_map (λ list. Reserve host dev rcmd (record { items = list }))
    (reserve_list rcmd ws)) (rcmd_of (word_at ws 3))) ws

abbrev pub has_reserve_shape : List Text → Bool
has_reserve_shape ws = option_map_or (λ rcmd. length ws == (if rcmd == 0 then 4 else 5)) (rcmd_of (word_at ws 3)) false

-- ---- time and the network

-- tick MS, pass N, skip N
abbrev pub tick_of : List Text → Option Event
tick_of ws = option_map Tick (number (word_at ws 1))

abbrev pub pass_of : List Text → Option Event
pass_of ws = option_map Pass (number (word_at ws 1))

abbrev pub skip_of : List Text → Option Event
skip_of ws = option_map Skip (number (word_at ws 1))

-- deliver K STATION
abbrev pub deliver_of : List Text → Option Event
deliver_of ws = option_and_then (λ frame. option_map (λ station. Deliver frame station) (name_of (word_at ws 2))) (number (word_at ws 1))

-- inject HEX
abbrev pub inject_of : List Text → Option Event
inject_of ws = option_map Inject (bytes_of (word_at ws 1))

-- ---- faults

-- fail DEV store K, fail DEV keep K
abbrev pub fail_of : List Text → Option Event
fail_of ws =
    option_and_then (λ dev. option_and_then (λ which. option_map (λ k. Fail dev which k)
    (number (word_at ws 3))) (which_of (word_at ws 2))) (device_of (word_at ws 1))

-- stop DEV store K MODE, stop DEV keep K MODE
abbrev pub stop_of : List Text → Option Event
stop_of ws =
    option_and_then (λ dev. option_and_then (λ which. option_and_then (λ k. option_map (λ mode. Stop dev which k mode)
    (mode_of (word_at ws 4))) (number (word_at ws 3))) (which_of (word_at ws 2))) (device_of (word_at ws 1))

-- crash SHELF MODE
abbrev pub crash_of : List Text → Option Event
crash_of ws = option_and_then (λ shelf. option_map (λ mode. Crash shelf mode) (mode_of (word_at ws 2))) (name_of (word_at ws 1))

-- ---- the table of lines

-- a line with so many words says this, where each word is of its class
abbrev pub declares : Bool → Option Setup → Line
declares false setup = Bad Word
declares true None = Bad Value
declares true (Some setup) = Declares setup

abbrev pub asks : Bool → Option Event → Line
asks false event = Bad Word
asks true None = Bad Value
asks true (Some event) = Asks event

-- how many words there are with the first, which of them are fixed, and what they say
abbrev pub row_of : Keyword → List Text → Line
row_of LifeLine ws = declares (length ws == 2 || length ws == 3) (life_of ws)
row_of ShelfLine ws = declares (length ws == 5) (shelf_of ws)
row_of SlotLine ws = declares (length ws == 4 || length ws == 5) (slot_of ws)
row_of HostLine ws = declares (length ws == 3 || length ws == 5) (host_of ws)
row_of AttachLine ws = declares (length ws == 4) (attach_of ws)
row_of ReadonlyLine ws = declares (length ws == 3) (readonly_of ws)
row_of ReadLine ws = asks (length ws == 5) (read_of ws)
row_of WriteLine ws = asks (length ws == 6) (write_of ws)
row_of FlushLine ws = asks (length ws == 3) (flush_of ws)
row_of IdentifyLine ws = asks (length ws == 3) (identify_of ws)
row_of ConfigLine ws = asks (has_config_shape ws) (config_of ws)
row_of MasksLine ws = asks (has_masks_shape ws) (masks_of ws)
row_of ReserveLine ws = asks (has_reserve_shape ws) (reserve_of ws)
row_of TickLine ws = asks (length ws == 2) (tick_of ws)
row_of DeliverLine ws = asks (length ws == 3) (deliver_of ws)
row_of PassLine ws = asks (length ws == 2) (pass_of ws)
row_of SkipLine ws = asks (length ws == 2) (skip_of ws)
row_of AgainLine ws = asks (length ws == 1) (Some Again)
row_of InjectLine ws = asks (length ws == 2) (inject_of ws)
row_of FailLine ws = asks (length ws == 4 && is_some (which_of (word_at ws 2))) (fail_of ws)
row_of StopLine ws = asks (length ws == 5 && is_some (which_of (word_at ws 2))) (stop_of ws)
row_of CrashLine ws = asks (length ws == 3) (crash_of ws)

-- a first word that no row has is bad
abbrev pub any_row : Option Keyword → List Text → Line
any_row None ws = Bad Word
any_row (Some keyword) ws = row_of keyword ws

-- what the words of a line say: nothing where there are none, or where the first begins with # (35)
unfoldable pub said : List Text → Line
said ws = if length ws == 0 || slice_index (word_at ws 0) 0 == 35 then Blank else any_row (keyword_of (word_at ws 0)) ws

-- what a line says
abbrev pub line_of : Text → Line
line_of line = said (few_words line)

-- ---- lines that take memory for themselves

-- those that have bytes of any number: the text of a configuration, and a frame
abbrev pub has_bytes : Option Keyword → Bool
has_bytes (Some ConfigLine) = true
has_bytes (Some InjectLine) = true
has_bytes _ = false

abbrev pub takes_memory : List Text → Bool
takes_memory ws = has_bytes (keyword_of (word_at ws 0))
