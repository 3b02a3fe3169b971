-- What the kinds of a socket's errors mean.
use Rattle.std.specs.Prelude.{Bool, true, false, Option, Some, ℤ, pos, ◌==◌}
use Rattle.std.specs.declared.io.ErrorKind.{ErrorKind}
use Rattle.std.specs.declared.io.ErrorKind.TheVariants.{WouldBlock, TimedOut, ConnectionRefused, HostUnreachable, NetworkUnreachable, NetworkDown, PermissionDenied, InvalidInput, OutOfMemory, Uncategorized}

-- nothing came as long as a call waits
abbrev pub is_silence : ErrorKind → Bool
is_silence WouldBlock = true
is_silence TimedOut = true
is_silence _ = false

-- the other end isn't there, and what was sent to it is lost
abbrev pub is_loss : ErrorKind → Bool
is_loss ConnectionRefused = true
is_loss HostUnreachable = true
is_loss NetworkUnreachable = true
is_loss _ = false

-- the number of ENOBUFS on Linux: there is no room for what is sent
abbrev pub is_no_room : Option ℤ → Bool
is_no_room (Some (pos code)) = code == 105
is_no_room _ = false

-- a frame that is sent to one peer is lost: the peer isn't there, the machine keeps the frame from it (EPERM, EACCES), can't
-- send to its address (EINVAL), has no room for what is sent (EAGAIN, ENOMEM, ENOBUFS), or its interface is down
abbrev pub is_lost_sending : ErrorKind → Option ℤ → Bool
is_lost_sending PermissionDenied code = true
is_lost_sending InvalidInput code = true
is_lost_sending WouldBlock code = true
is_lost_sending OutOfMemory code = true
is_lost_sending NetworkDown code = true
is_lost_sending Uncategorized code = is_no_room code
is_lost_sending kind code = is_loss kind
