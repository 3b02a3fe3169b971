-- What a line may say, by what stands before it: the first rule that doesn't hold.
use Rattle.std.specs.Prelude.{ℕ, ◌+◌, Bool, true, false, not, ◌&&◌, ◌||◌, ◌==◌, List, length, nat_lt, nat_le, count_by, sum_by, Option, Some, None, if◌then◌else◌}
use Rattle.std.specs.List.{list_all, list_any}
use Rattle.std.specs.Str.{bytes_eq}
use Rattle.arrayvec.specs.ArrayVec.{ArrayVec}
use Rattle.aoe_base.specs.declared.address.Mac.{Mac}
use Rattle.aoe_base.specs.declared.address.TargetId.{TargetId}
use Rattle.aoe_base.specs.Addresses.{all_unique, holds, is_individual, source_of}
use Rattle.aoe_base.specs.Sizes.{longest_frame, longest_lifetime, most_cached, most_simulated}
use Rattle.aoe_lists.specs.Settings.{max_directives}
use Rattle.aoe_script.specs.declared.event.Event.{Event}
use Rattle.aoe_script.specs.declared.event.Event.TheVariants.{Read, Write, Flush, Identify, Config, Masks, Reserve, Tick, Deliver, Pass, Skip, Again, Inject, Fail, Stop, Crash}
use Rattle.aoe_script.specs.declared.refusal.Why.{Why}
use Rattle.aoe_script.specs.declared.refusal.Why.TheVariants.{Value, Place, Repeat, Size, Unknown, Station}
use Rattle.aoe_script.specs.declared.setup.Setup.{Setup}
use Rattle.aoe_script.specs.declared.setup.Setup.TheVariants.{Life, Shelf, Slot, Host, Attach, Readonly}
use Rattle.aoe_script.specs.Classes.{is_name}

-- the most milliseconds that a line says, but for lifetimes: some three hours, a limit of this program
abbrev pub longest_wait : ℕ
longest_wait = 10000000

-- ---- ranges

abbrev pub is_within : ℕ → ℕ → ℕ → Bool
is_within least most n = nat_le least n && nat_le n most

-- the addresses of a station: one at least, none of a group, none twice
unfoldable pub are_ports : ArrayVec Mac → Bool
are_ports ports = is_within 1 4 (length ports.items) && list_all is_individual ports.items && all_unique ports.items

-- how many commands of a host fly, and for how long: both or neither
abbrev pub is_limit : Option ℕ → Option ℕ → Bool
is_limit None None = true
is_limit (Some room) (Some dead) = is_within 1 16384 room && is_within 1 longest_wait dead
is_limit None (Some dead) = false
is_limit (Some room) None = false

-- how many sectors the cache of a slot holds at most, where it has one
abbrev pub is_cache : Option ℕ → Bool
is_cache None = true
is_cache (Some room) = is_within 1 most_cached room

-- how long responses can be handed over, where a line says it apart
abbrev pub is_lifetime : Option ℕ → Bool
is_lifetime None = true
is_lifetime (Some ms) = nat_le ms longest_lifetime

-- a device's name has neither the number of all shelves nor that of all slots
abbrev pub is_device : TargetId → Bool
is_device dev = nat_le dev.major 65534 && nat_le dev.minor 254

-- each word of a setup line is in its range
abbrev pub is_setup : Setup → Bool
is_setup (Life requests responses) = nat_le requests longest_lifetime && is_lifetime responses
is_setup (Shelf name major ports mtu) = is_name name && nat_le major 65534 && are_ports ports && is_within 1500 9000 mtu
is_setup (Slot shelf minor sectors room) = is_name shelf && nat_le minor 254 && is_within 1 most_simulated sectors && is_cache room
is_setup (Host name ports room dead) = is_name name && are_ports ports && is_limit room dead
is_setup (Attach host shelf minor) = is_name host && is_name shelf && nat_le minor 254
is_setup (Readonly shelf minor) = is_name shelf && nat_le minor 254

-- a host and a device
abbrev pub is_asked : ArrayVec ℕ → TargetId → Bool
is_asked host dev = is_name host && is_device dev

abbrev pub is_span : ℕ → ℕ → Bool
is_span at count = nat_lt at 281474976710656 && nat_le count 255

-- each word of an event line is in its range
abbrev pub is_event : Event → Bool
is_event (Read host dev at count) = is_asked host dev && is_span at count
is_event (Write host dev at count fill) = is_asked host dev && is_span at count
is_event (Flush host dev) = is_asked host dev
is_event (Identify host dev) = is_asked host dev
is_event (Config host dev ccmd text) = is_asked host dev && nat_le ccmd 4 && nat_le (length text) (if ccmd == 0 then 0 else 1024)
is_event (Masks host dev edit dirs) = is_asked host dev && is_within (if edit then 1 else 0) (if edit then max_directives else 0) (length dirs.items)
is_event (Reserve host dev rcmd list) = is_asked host dev && nat_le rcmd 2 && nat_le (length list.items) (if rcmd == 0 then 0 else max_directives)
is_event (Tick ms) = is_within 1 longest_wait ms
is_event (Deliver frame station) = is_within 1 4294967295 frame && is_name station
is_event (Pass n) = is_within 1 10000 n
is_event (Skip n) = is_within 1 10000 n
is_event Again = true
is_event (Inject bytes) = is_within 14 longest_frame (length bytes)
is_event (Fail dev which k) = is_device dev && is_within 1 1000 k
is_event (Stop dev which k mode) = is_device dev && is_within 1 1000 k
is_event (Crash shelf mode) = is_name shelf

-- ---- what stands

abbrev pub same : ArrayVec ℕ → ArrayVec ℕ → Bool
same a b = bytes_eq a.items b.items

abbrev pub is_life : Setup → Bool
is_life (Life requests responses) = true
is_life _ = false

abbrev pub is_shelf : Setup → Bool
is_shelf (Shelf name major ports mtu) = true
is_shelf _ = false

abbrev pub is_host : Setup → Bool
is_host (Host name ports room dead) = true
is_host _ = false

-- it declares a shelf of this name, a host, either of them
abbrev pub is_shelf_named : ArrayVec ℕ → Setup → Bool
is_shelf_named name (Shelf other major ports mtu) = same other name
is_shelf_named name _ = false

abbrev pub is_host_named : ArrayVec ℕ → Setup → Bool
is_host_named name (Host other ports room dead) = same other name
is_host_named name _ = false

abbrev pub is_station_named : ArrayVec ℕ → Setup → Bool
is_station_named name setup = is_shelf_named name setup || is_host_named name setup

-- it declares a shelf of this number
abbrev pub has_major : ℕ → Setup → Bool
has_major major (Shelf name other ports mtu) = other == major
has_major major _ = false

-- it declares a station with this address
abbrev pub has_port : Mac → Setup → Bool
has_port mac (Shelf name major ports mtu) = holds ports.items mac
has_port mac (Host name ports room dead) = holds ports.items mac
has_port mac _ = false

-- it declares a slot of this shelf, the one of this number
abbrev pub is_slot_of : ArrayVec ℕ → Setup → Bool
is_slot_of shelf (Slot other minor sectors room) = same other shelf
is_slot_of shelf _ = false

abbrev pub is_slot : ArrayVec ℕ → ℕ → Setup → Bool
is_slot shelf minor (Slot other number sectors room) = number == minor && same other shelf
is_slot shelf minor _ = false

-- how many sectors it declares
abbrev pub sectors_of : Setup → ℕ
sectors_of (Slot shelf minor sectors room) = sectors
sectors_of _ = 0

-- it attaches this host to this slot
abbrev pub attaches : ArrayVec ℕ → ArrayVec ℕ → ℕ → Setup → Bool
attaches host shelf minor (Attach a b number) = number == minor && same a host && same b shelf
attaches host shelf minor _ = false

-- it marks this slot as read-only
abbrev pub marks : ArrayVec ℕ → ℕ → Setup → Bool
marks shelf minor (Readonly other number) = number == minor && same other shelf
marks shelf minor _ = false

-- it declares the device's shelf, of which all these lines declare the slot
abbrev pub has_device : List Setup → TargetId → Setup → Bool
has_device setups dev (Shelf name major ports mtu) = major == dev.major && list_any (is_slot name dev.minor) setups
has_device setups dev _ = false

-- it declares the device's shelf, to whose slot these lines attach the host
abbrev pub has_attached : List Setup → ArrayVec ℕ → TargetId → Setup → Bool
has_attached setups host dev (Shelf name major ports mtu) = major == dev.major && list_any (attaches host name dev.minor) setups
has_attached setups host dev _ = false

abbrev pub is_known : List Setup → TargetId → Bool
is_known setups dev = list_any (has_device setups dev) setups

-- an attachment stands only where its host and its slot do
abbrev pub is_attached : List Setup → ArrayVec ℕ → TargetId → Bool
is_attached setups host dev = list_any (has_attached setups host dev) setups

-- ---- setup lines

-- no more than 16 of a kind, and 262,144 sectors in all
abbrev pub is_full : (Setup → Bool) → List Setup → Bool
is_full kind setups = nat_le 16 (count_by kind setups)

abbrev pub are_too_many : List Setup → ℕ → Bool
are_too_many setups sectors = nat_lt 262144 (sum_by sectors_of setups + sectors)

-- the name or an address of a station stands already
abbrev pub is_taken : List Setup → ArrayVec ℕ → List Mac → Bool
is_taken setups name ports = list_any (is_station_named name) setups || list_any (λ mac. list_any (has_port mac) setups) ports

-- the first of these causes that holds: repeat, size, unknown
abbrev pub first_of : Bool → Bool → Bool → Option Why
first_of true size unknown = Some Repeat
first_of false true unknown = Some Size
first_of false false true = Some Unknown
first_of false false false = None

abbrev pub declared_why : List Setup → Setup → Option Why
declared_why setups (Life requests responses) = first_of (list_any is_life setups) false false
declared_why setups (Shelf name major ports mtu) = first_of (is_taken setups name ports.items || list_any (has_major major) setups) (is_full is_shelf setups) false
declared_why setups (Slot shelf minor sectors room) =
    first_of (list_any (is_slot shelf minor) setups) (is_full (is_slot_of shelf) setups || are_too_many setups sectors) (not (list_any (is_shelf_named shelf) setups))
declared_why setups (Host name ports room dead) = first_of (is_taken setups name ports.items) (is_full is_host setups) false
declared_why setups (Attach host shelf minor) =
    first_of (list_any (attaches host shelf minor) setups) false (not (list_any (is_host_named host) setups && list_any (is_slot shelf minor) setups))
declared_why setups (Readonly shelf minor) = first_of (list_any (marks shelf minor) setups) false (not (list_any (is_slot shelf minor) setups))

-- the cause, where it holds, before the others
abbrev pub unless : Bool → Why → Option Why → Option Why
unless true why rest = Some why
unless false why rest = rest

-- what is wrong with a setup line behind these, and behind an event line or none
unfoldable pub setup_why : List Setup → Bool → Setup → Option Why
setup_why setups behind setup = unless (not (is_setup setup)) Value (unless behind Place (declared_why setups setup))

-- ---- event lines

-- the device to which the host has to be attached
abbrev pub asked_why : List Setup → ArrayVec ℕ → TargetId → Option Why
asked_why setups host dev = unless (not (is_attached setups host dev)) Unknown None

abbrev pub known_why : List Setup → TargetId → Option Why
known_why setups dev = unless (not (is_known setups dev)) Unknown None

abbrev pub named_why : List Setup → Event → Option Why
named_why setups (Read host dev at count) = asked_why setups host dev
named_why setups (Write host dev at count fill) = asked_why setups host dev
named_why setups (Flush host dev) = asked_why setups host dev
named_why setups (Identify host dev) = asked_why setups host dev
named_why setups (Config host dev ccmd text) = asked_why setups host dev
named_why setups (Masks host dev edit dirs) = asked_why setups host dev
named_why setups (Reserve host dev rcmd list) = asked_why setups host dev
named_why setups (Tick ms) = None
named_why setups (Deliver frame station) = unless (not (list_any (is_station_named station) setups)) Unknown None
named_why setups (Pass n) = None
named_why setups (Skip n) = None
named_why setups Again = None
named_why setups (Inject bytes) = unless (list_any (has_port (source_of bytes)) setups) Station None
named_why setups (Fail dev which k) = known_why setups dev
named_why setups (Stop dev which k mode) = known_why setups dev
named_why setups (Crash shelf mode) = unless (not (list_any (is_shelf_named shelf) setups)) Unknown None

-- what is wrong with an event line behind these setup lines
unfoldable pub event_why : List Setup → Event → Option Why
event_why setups event = unless (not (is_event event)) Value (named_why setups event)
