-- What the errors of a tap file mean.
use Rattle.std.specs.Prelude.{Bool, true, false, Option, Some, ℤ, pos, ◌==◌}
use Rattle.std.specs.declared.io.ErrorKind.{ErrorKind}
use Rattle.std.specs.declared.io.ErrorKind.TheVariants.{WouldBlock, InvalidInput, OutOfMemory, NetworkDown, Uncategorized}

-- the number of ENOBUFS on Linux: there is no room for what is sent
abbrev pub is_no_room : Option ℤ → Bool
is_no_room (Some (pos code)) = code == 105
is_no_room _ = false

-- a frame that is written is lost: the interface takes none of this length (EINVAL), has no room for it (EAGAIN, ENOMEM,
-- ENOBUFS) or is down
abbrev pub is_lost_writing : ErrorKind → Option ℤ → Bool
is_lost_writing InvalidInput code = true
is_lost_writing WouldBlock code = true
is_lost_writing OutOfMemory code = true
is_lost_writing NetworkDown code = true
is_lost_writing Uncategorized code = is_no_room code
is_lost_writing kind code = false
