-- The bytes of a reply (NBD protocol, "Simple reply message").
use Rattle.std.specs.Prelude.{ℕ, ◌^◌, ◌<◌, ◌≡◌, ◌==◌, ◌++◌, List, length, if◌then◌else◌}
use Rattle.std.specs.Int.{w32, w64, to_be_bytes}

-- a reply: the number of its error, 0 for none; the request's handle; the data of a read
pub record Reply : Type 0 where
  pub error : ℕ
  pub handle : ℕ
  pub payload : List ℕ

-- 0x67446698, error and handle
abbrev pub reply_head : ℕ → ℕ → List ℕ
reply_head error handle = to_be_bytes w32 0x67446698 ++ to_be_bytes w32 error ++ to_be_bytes w64 handle

abbrev pub reply_bytes : Reply → List ℕ
reply_bytes r = reply_head r.error r.handle ++ r.payload

-- a reply to one of the requests of a client, which knows how many bytes it asked for by each handle: all of them come, or none with an error
pub record IsReply (asked : ℕ → ℕ) (r : Reply) : Type 0 where
  pub error : r.error < 2 ^ 32
  pub handle : r.handle < 2 ^ 64
  pub whole : length r.payload ≡ (if r.error == 0 then asked r.handle else 0)
