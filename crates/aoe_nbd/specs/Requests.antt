-- The bytes of a request (NBD protocol, "Request message"). All numbers are big-endian.
use Rattle.std.specs.Prelude.{ℕ, ◌/◌, ◌^◌, ◌<◌, ◌==◌, ◌&&◌, ◌++◌, List, length, nat_le, Option, Some, None, if◌then◌else◌, slice_range}
use Rattle.std.specs.Int.{w16, w32, w64, to_be_bytes, from_be_bytes}
use Rattle.aoe_base.specs.declared.sectors.Span.{Span}
use Rattle.aoe_nbd.specs.declared.request.RequestHead.{RequestHead}
use Rattle.aoe_nbd.specs.declared.request.Request.{Request}
use Rattle.aoe_nbd.specs.declared.request.Action.{Action}
use Rattle.aoe_nbd.specs.declared.request.Action.TheVariants.{Read, Write, Flush}

-- the 28 bytes that a request begins with: 0x25609513, flags, type, handle, offset, length
abbrev pub head_bytes : RequestHead → List ℕ
head_bytes h = to_be_bytes w32 0x25609513 ++ to_be_bytes w16 h.flags ++ to_be_bytes w16 h.kind
    ++ to_be_bytes w64 h.handle ++ to_be_bytes w64 h.offset ++ to_be_bytes w32 h.len

-- a head whose fields fit their places
pub record Fits (h : RequestHead) : Type 0 where
  pub flags : h.flags < 2 ^ 16
  pub kind : h.kind < 2 ^ 16
  pub handle : h.handle < 2 ^ 64
  pub offset : h.offset < 2 ^ 64
  pub len : h.len < 2 ^ 32

-- the fields of 28 bytes
abbrev pub fields : List ℕ → RequestHead
fields f = record {
  flags = from_be_bytes w16 (slice_range f 4 6);
  kind = from_be_bytes w16 (slice_range f 6 8);
  handle = from_be_bytes w64 (slice_range f 8 16);
  offset = from_be_bytes w64 (slice_range f 16 24);
  len = from_be_bytes w32 (slice_range f 24 28);
}

-- the head that stands at the front, or nothing where there are fewer than 28 bytes or another magic number
abbrev pub head_of : List ℕ → Option RequestHead
head_of f = if nat_le 28 (length f) && (from_be_bytes w32 (slice_range f 0 4) == 0x25609513) then Some (fields f) else None

-- how many bytes of data stand behind the head: only a WRITE (1) has some
abbrev pub data_len : RequestHead → ℕ
data_len h = if h.kind == 1 then h.len else 0

-- the sectors of 512 bytes that offset and length name
abbrev pub span_of : RequestHead → Span
span_of h = record { at = h.offset / 512; count = h.len / 512 }

-- what a request that isn't refused asks for: a READ (0), a WRITE (1), which lasts with FUA (1), or a FLUSH (3)
abbrev pub action_of : RequestHead → Action
action_of h = if h.kind == 0 then Read (span_of h) else (if h.kind == 1 then Write (span_of h) (h.flags == 1) else Flush)

abbrev pub request_of : RequestHead → Request
request_of h = record { handle = h.handle; action = action_of h }
