-- What a network is: its frames, and which of them it still hands over.
use Rattle.std.specs.Prelude.{ℕ, suc, ◌≡◌, ◌+◌, ◌-◌, ◌<◌, ◌≤◌, ◌==◌, ◌⊎◌, List, [], ◌∷◌, length, sum_by, nat_le, Option, Some, None, option_and_then, IsSomeAnd, if◌then◌else◌}
use Rattle.aoe_base.specs.declared.counted.Lifetimes.{Lifetimes}
use Rattle.aoe_frame.specs.Header.{is_response}
use Rattle.aoe_net.specs.declared.refusal.NetLimit.{NetLimit}
use Rattle.aoe_net.specs.declared.refusal.NetLimit.TheVariants.{Frames, Bytes}

-- a frame that was sent: its bytes, and the time of its sending
pub record SentFrame : Type 0 where
  pub bytes : List ℕ
  pub birth : ℕ

-- the lifetimes of its frames, the time of the latest sending (0 before the first), and the frames
-- that were sent, the latest first; times in milliseconds
pub record Network : Type 0 where
  pub life : Lifetimes
  pub latest : ℕ
  pub sent : List SentFrame

abbrev pub empty_network : Lifetimes → Network
empty_network life = record { life = life; latest = 0; sent = [] }

-- the network after these bytes were sent
abbrev pub with_frame : Network → ℕ → List ℕ → Network
with_frame net now bytes = record net { latest = now; sent = record { bytes = bytes; birth = now } ∷ net.sent }

-- how many bytes the frames have together
abbrev pub total_bytes : Network → ℕ
total_bytes net = sum_by (λ frame. length frame.bytes) net.sent

-- the most frames that a network keeps, a limit of this program
abbrev pub most_frames : ℕ
most_frames = 200000

-- the most bytes that they have together: 512 MiB, a limit of this program
abbrev pub most_frame_bytes : ℕ
most_frame_bytes = 536870912

-- the limit by which there is no room for these bytes: the most frames stand there; or fewer, and the bytes would be too many
abbrev pub IsFullBy : NetLimit → Network → List ℕ → Type 0
IsFullBy Frames net bytes = most_frames ≤ length net.sent
IsFullBy Bytes net bytes = (length net.sent < most_frames) × (most_frame_bytes < total_bytes net + length bytes)

-- no room for these bytes
abbrev pub IsFull : Network → List ℕ → Type 0
IsFull net bytes = IsFullBy Frames net bytes ⊎ IsFullBy Bytes net bytes

-- the frame with a number: they are numbered from 1 in the order of their sending
abbrev pub numbered : List SentFrame → ℕ → Option SentFrame
numbered [] number = None
numbered (frame ∷ earlier) number = if number == suc (length earlier) then Some frame else numbered earlier number

-- how long a frame can be handed over after its sending, by its kind
abbrev pub lifetime : Lifetimes → List ℕ → ℕ
lifetime life bytes = if is_response bytes then life.responses.0 else life.requests.0

-- the bytes of a frame that can still be handed over: its age is at most its lifetime
abbrev pub fresh_bytes : Network → ℕ → SentFrame → Option (List ℕ)
fresh_bytes net now frame = if nat_le (now - frame.birth) (lifetime net.life frame.bytes) then Some frame.bytes else None

-- the bytes that the network hands over for a number, or nothing where no frame has the number or
-- the one that has it has expired
abbrev pub deliverable : Network → ℕ → ℕ → Option (List ℕ)
deliverable net number now = option_and_then (fresh_bytes net now) (numbered net.sent number)

-- a frame with these bytes has the number
abbrev pub IsNumberOf : Network → List ℕ → ℕ → Type 0
IsNumberOf net bytes number = IsSomeAnd (numbered net.sent number) (λ frame. frame.bytes ≡ bytes)
