-- The bytes of the handshake (NBD protocol, "Fixed newstyle negotiation" and "Option types"). All numbers are big-endian.
use Rattle.std.specs.Prelude.{ℕ, ◌+◌, ◌*◌, ◌^◌, ◌<◌, ◌≤◌, ◌==◌, ◌&&◌, ◌||◌, ◌++◌, Bool, List, [], length, replicate, nat_le, Option, Some, None, if◌then◌else◌, slice_range}
use Rattle.std.specs.Int.{w16, w32, w64, to_be_bytes, from_be_bytes}
use Rattle.std.specs.List.{flat_map}
use Rattle.std.specs.Str.{bytes_eq}
use Rattle.aoe_nbd.specs.declared.export.Export.{Export}
use Rattle.aoe_nbd.specs.declared.handshake.HandshakeEvent.{HandshakeEvent}
use Rattle.aoe_nbd.specs.declared.handshake.HandshakeEvent.TheVariants.{Answered, Begins, Leaves, Unknown}
use Rattle.aoe_nbd.specs.declared.option.OptionHead.{OptionHead}

-- what the server says first: NBDMAGIC, IHAVEOPT, and the flags FIXED_NEWSTYLE (1) and NO_ZEROES (2)
abbrev pub greeting : List ℕ
greeting = to_be_bytes w64 0x4e42444d41474943 ++ to_be_bytes w64 0x49484156454f5054 ++ to_be_bytes w16 3

-- an option of a client, with its data
pub record ClientOption : Type 0 where
  pub code : ℕ
  pub payload : List ℕ

-- the 16 bytes that an option begins with: IHAVEOPT, the option, and how many bytes its data has
abbrev pub option_head_bytes : OptionHead → List ℕ
option_head_bytes h = to_be_bytes w64 0x49484156454f5054 ++ to_be_bytes w32 h.code ++ to_be_bytes w32 h.len

abbrev pub option_bytes : ClientOption → List ℕ
option_bytes o = option_head_bytes (record { code = o.code; len = length o.payload }) ++ o.payload

-- an option that is read: 8,192 bytes of data at most, a limit of this program
pub record IsOption (o : ClientOption) : Type 0 where
  pub code : o.code < 2 ^ 32
  pub few : length o.payload ≤ 8192

-- the head of an option that stands at the front, or nothing where there are fewer than 16 bytes or another magic number
abbrev pub option_head_of : List ℕ → Option OptionHead
option_head_of f =
    if nat_le 16 (length f) && (from_be_bytes w64 (slice_range f 0 8) == 0x49484156454f5054)
    then Some (record { code = from_be_bytes w32 (slice_range f 8 12); len = from_be_bytes w32 (slice_range f 12 16) })
    else None

-- what a reply to an option has in front of its data: 0x0003e889045565a9, the option, the type of the reply, and how many bytes its data has
abbrev pub reply_front : ℕ → ℕ → ℕ → List ℕ
reply_front code kind len = to_be_bytes w64 0x0003e889045565a9 ++ to_be_bytes w32 code ++ to_be_bytes w32 kind ++ to_be_bytes w32 len

abbrev pub reply_to : ℕ → ℕ → List ℕ → List ℕ
reply_to code kind payload = reply_front code kind (length payload) ++ payload

-- ACK (1)
abbrev pub ack : ℕ → List ℕ
ack code = reply_to code 1 []

-- the transmission flags: HAS_FLAGS (1), READ_ONLY (2), SEND_FLUSH (4) with SEND_FUA (8)
abbrev pub flags_of : Export → ℕ
flags_of e = 1 + (if e.read_only then 2 else 0) + (if e.flushes then 12 else 0)

abbrev pub size_and_flags : Export → List ℕ
size_and_flags e = to_be_bytes w64 e.size ++ to_be_bytes w16 (flags_of e)

-- INFO_EXPORT (0), and INFO_BLOCK_SIZE (3) with the least, the best and the greatest
abbrev pub export_info : Export → List ℕ
export_info e = to_be_bytes w16 0 ++ size_and_flags e

abbrev pub block_info : List ℕ
block_info = to_be_bytes w16 3 ++ to_be_bytes w32 512 ++ to_be_bytes w32 4096 ++ to_be_bytes w32 16777216

-- the empty name and the export's own are served
abbrev pub is_name : Export → List ℕ → Bool
is_name e name = (length name == 0) || bytes_eq name e.name.items

-- the data of INFO and GO: a length and the name, a count and so many infos that are asked for
abbrev pub info_data : List ℕ → List ℕ → List ℕ
info_data name infos = to_be_bytes w32 (length name) ++ name ++ to_be_bytes w16 (length infos) ++ flat_map (to_be_bytes w16) infos

-- behind a name of n bytes stand a count, and so many numbers of two bytes, and no more
abbrev pub is_named : List ℕ → ℕ → Bool
is_named payload n = nat_le (n + 6) (length payload) && (length payload == n + 6 + 2 * from_be_bytes w16 (slice_range payload (n + 4) (n + 6)))

-- How long the name is that INFO and GO ask for, or nothing where the lengths disagree.
abbrev pub name_len : List ℕ → Option ℕ
name_len payload =
    let n = from_be_bytes w32 (slice_range payload 0 4) in
    if nat_le 4 (length payload) && is_named payload n then Some n else None

-- the error that INFO and GO get, or nothing: ERR_INVALID (2^31 + 3), ERR_UNKNOWN (2^31 + 6)
abbrev pub name_error : Export → List ℕ → Option ℕ → Option ℕ
name_error e payload None = Some 0x80000003
name_error e payload (Some n) = if is_name e (slice_range payload 4 (n + 4)) then None else Some 0x80000006

abbrev pub info_error : Export → List ℕ → Option ℕ
info_error e payload = name_error e payload (name_len payload)

-- what EXPORT_NAME gets: size and flags, and 124 zeros unless the client asked for none; or nothing for another name
abbrev pub export_answer : Export → Bool → List ℕ → List ℕ
export_answer e no_zeroes name = if is_name e name then size_and_flags e ++ (if no_zeroes then [] else replicate 124 0) else []

-- what LIST gets: the export's name by SERVER (2) and ACK, or ERR_INVALID where it has data
abbrev pub list_answer : Export → List ℕ → List ℕ
list_answer e payload =
    if length payload == 0 then reply_to 3 2 (to_be_bytes w32 (length e.name.items) ++ e.name.items) ++ ack 3
    else reply_to 3 0x80000003 []

-- what INFO and GO get: the two infos by INFO (3) and ACK, or an error
abbrev pub infos : Export → ℕ → Option ℕ → List ℕ
infos e code None = reply_to code 3 (export_info e) ++ reply_to code 3 block_info ++ ack code
infos e code (Some error) = reply_to code error []

-- What the server says to an option: EXPORT_NAME (1), ABORT (2), LIST (3), INFO (6), GO (7), and ERR_UNSUP
-- (2^31 + 1) to each other.
abbrev pub answer_of : Export → Bool → ClientOption → List ℕ
answer_of e no_zeroes o =
    if o.code == 1 then export_answer e no_zeroes o.payload
    else (if o.code == 2 then ack 2
    else (if o.code == 3 then list_answer e o.payload
    else (if (o.code == 6) || (o.code == 7) then infos e o.code (info_error e o.payload)
    else reply_to o.code 0x80000001 [])))

-- a GO begins the transmission where it isn't refused
abbrev pub go_event : Option ℕ → HandshakeEvent
go_event None = Begins
go_event (Some error) = Answered

-- what comes of an option
abbrev pub event_of : Export → ClientOption → HandshakeEvent
event_of e o =
    if o.code == 1 then (if is_name e o.payload then Begins else Unknown)
    else (if o.code == 2 then Leaves
    else (if o.code == 7 then go_event (info_error e o.payload)
    else Answered))
