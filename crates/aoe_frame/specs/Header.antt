-- The header of a frame (AoEr11, "Common AoE header"), and the padding behind it.
use Rattle.std.specs.Prelude.{ℕ, ◌+◌, ◌*◌, ◌/◌, ◌-◌, ◌<◌, ◌≡◌, ◌⊎◌, List, [], ◌∷◌, ◌++◌, ◌&&◌, ◌==◌, Bool, not, length, replicate, nat_le, Option, Some, None, if◌then◌else◌, is_some, unwrap_or, take, slice_index, slice_range, bit_and}
use Rattle.std.specs.Int.{w16, w32, to_be_bytes, from_be_bytes}
use Rattle.aoe_base.specs.declared.address.Mac.{Mac}
use Rattle.aoe_base.specs.declared.address.TargetId.{TargetId}
use Rattle.aoe_base.specs.Addresses.{source_of}
use Rattle.aoe_frame.specs.declared.header.Header.{Header}

-- the fields of a header, of a frame of at least 24 bytes
abbrev pub fields : List ℕ → Header
fields f = record {
  dst = record { 0 = slice_range f 0 6 };
  src = source_of f;
  version = slice_index f 14 / 16;
  flags = bit_and (slice_index f 14) 12;
  error = slice_index f 15;
  id = record { major = from_be_bytes w16 (slice_range f 16 18); minor = slice_index f 18 };
  command = slice_index f 19;
  tag = from_be_bytes w32 (slice_range f 20 24);
}

-- what the header of a frame says, or nothing where the frame has fewer than 24 bytes or another type than 0x88A2
abbrev pub head : List ℕ → Option Header
head f = if nat_le 24 (length f) && (slice_index f 12 == 136) && (slice_index f 13 == 162) then Some (fields f) else None

-- the kind of a frame, whatever its bytes: it is a response where it has the byte of the flags and the flag there is set, and a request else
abbrev pub is_response : List ℕ → Bool
is_response f = nat_le 15 (length f) && not (bit_and (slice_index f 14) 8 == 0)

-- the bytes of a header
abbrev pub header_bytes : Header → List ℕ
header_bytes h = h.dst.0 ++ h.src.0 ++ (136 ∷ 162 ∷ []) ++ ((h.version * 16 + h.flags) ∷ h.error ∷ [])
    ++ to_be_bytes w16 h.id.major ++ (h.id.minor ∷ h.command ∷ []) ++ to_be_bytes w32 h.tag

-- the response flag, the error flag, both or none
abbrev pub IsFlags : ℕ → Type 0
IsFlags n = (n ≡ 0) ⊎ (n ≡ 4) ⊎ (n ≡ 8) ⊎ (n ≡ 12)

-- a header whose fields fit their places, with no reserved flag
pub record Fits (h : Header) : Type 0 where
  pub dst : length h.dst.0 ≡ 6
  pub src : length h.src.0 ≡ 6
  pub version : h.version < 16
  pub flags : IsFlags h.flags
  pub major : h.id.major < 65536
  pub tag : h.tag < 4294967296

-- the header of a reply: back to the source, with the target's own name, version 1, and the request's command and tag
abbrev pub reply_header : Header → TargetId → Mac → Option ℕ → Header
reply_header request id port error = record {
  dst = request.src;
  src = port;
  version = 1;
  flags = if is_some error then 12 else 8;
  error = unwrap_or error 0;
  id = id;
  command = request.command;
  tag = request.tag;
}

-- zeros up to 60 bytes
abbrev pub padded : List ℕ → List ℕ
padded f = f ++ replicate (60 - length f) 0

-- the first n bytes, and zeros where there are fewer
abbrev pub stretched : ℕ → List ℕ → List ℕ
stretched n f = take n f ++ replicate (n - length f) 0
