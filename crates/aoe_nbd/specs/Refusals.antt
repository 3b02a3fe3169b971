-- Which requests are refused, and by which error.
use Rattle.std.specs.Prelude.{◌+◌, ◌%◌, ◌<◌, ◌≤◌, ◌≡◌, ◌≢◌, ◌⊎◌, true, false, ◌==◌, ◌&&◌, ◌||◌, Bool, not, nat_lt, Option, Some, None, if◌then◌else◌}
use Rattle.aoe_nbd.specs.declared.error.NbdError.{NbdError}
use Rattle.aoe_nbd.specs.declared.error.NbdError.TheVariants.{NotPermitted, Invalid, NoSpace}
use Rattle.aoe_nbd.specs.declared.export.Export.{Export}
use Rattle.aoe_nbd.specs.declared.request.RequestHead.{RequestHead}

-- a READ (0), a WRITE (1) or a FLUSH (3), with no flag or with FUA (1) alone
abbrev pub is_known : RequestHead → Bool
is_known h = ((h.kind == 0) || (h.kind == 1) || (h.kind == 3)) && ((h.flags == 0) || (h.flags == 1))

-- it wants what was written to last: a FLUSH, or FUA
abbrev pub wants_flush : RequestHead → Bool
wants_flush h = (h.kind == 3) || (h.flags == 1)

-- one sector at least and 16 MiB at most, in whole sectors
abbrev pub is_aligned : RequestHead → Bool
is_aligned h = not (h.len == 0) && (h.offset % 512 == 0) && (h.len % 512 == 0) && not (nat_lt 16777216 h.len)

-- The error that refuses a request other than DISC, or nothing. The first row that applies decides.
abbrev pub refusal : Export → RequestHead → Option NbdError
refusal e h =
    if not (is_known h) then Some Invalid
    else (if (h.kind == 1) && e.read_only then Some NotPermitted
    else (if wants_flush h && not e.flushes then Some Invalid
    else (if h.kind == 3 then None
    else (if not (is_aligned h) then Some Invalid
    else (if nat_lt e.size (h.offset + h.len) then Some (if h.kind == 1 then NoSpace else Invalid)
    else None)))))

-- the range of a read or a write: whole sectors of the export, one at least and 16 MiB at most
pub record IsInside (e : Export) (h : RequestHead) : Type 0 where
  pub some : 0 < h.len
  pub few : h.len ≤ 16777216
  pub starts : h.offset % 512 ≡ 0
  pub sectors : h.len % 512 ≡ 0
  pub within : h.offset + h.len ≤ e.size

-- what is carried out: reads and writes inside the export, writes where it can be written, and flushes where they are offered
pub record IsCarriedOut (e : Export) (h : RequestHead) : Type 0 where
  pub kind : (h.kind ≡ 0) ⊎ (h.kind ≡ 1) ⊎ (h.kind ≡ 3)
  pub flags : (h.flags ≡ 0) ⊎ (h.flags ≡ 1)
  pub inside : h.kind ≢ 3 → IsInside e h
  pub written : h.kind ≡ 1 → e.read_only ≡ false
  pub flushed : h.kind ≡ 3 → e.flushes ≡ true
  pub lasting : h.flags ≡ 1 → e.flushes ≡ true
