-- The frames of a history: which were sent by the shelf or the host, and which of them a link gives back.
use Rattle.std.specs.Prelude.{ℕ, ◌-◌, ◌++◌, List, [], ◌∷◌, nat_lt, Option, Some, None, option_map, if◌then◌else◌}
use Rattle.std.specs.Option.{option_map_or, option_or, option_to_list}
use Rattle.std.specs.Str.{bytes_eq}
use Rattle.aoe_history.specs.declared.entry.Entry.{Entry}
use Rattle.aoe_history.specs.declared.entry.Entry.TheVariants.{Sent, Arrived, Ticked}
use Rattle.aoe_history.specs.declared.entry.Fate.{Fate}
use Rattle.aoe_history.specs.declared.entry.Fate.TheVariants.{Replied}
use Rattle.aoe_live.specs.declared.frames.Sender.{Sender}
use Rattle.aoe_live.specs.declared.frames.Sender.TheVariants as sender

-- a frame and its number
pub record Numbered : Type 0 where
  pub number : ℕ
  pub bytes : List ℕ

-- the frame that a host sent with an entry, and that a shelf sent: its reply
abbrev pub sent_by : Entry → Option Numbered
sent_by (Sent host ticket number bytes) = Some (record { number = number; bytes = bytes })
sent_by entry = None

abbrev pub reply_of : Fate → Option Numbered
reply_of (Replied effect number bytes) = Some (record { number = number; bytes = bytes })
reply_of fate = None

abbrev pub replied_by : Entry → Option Numbered
replied_by (Arrived dev frame fate) = reply_of fate
replied_by entry = None

abbrev pub frame_by : Sender → Entry → Option Numbered
frame_by sender.Host entry = sent_by entry
frame_by sender.Shelf entry = replied_by entry

abbrev pub number_of : Entry → ℕ
number_of (Sent host ticket number bytes) = number
number_of (Arrived dev frame fate) = option_map_or (λ f. f.number) (reply_of fate) 0
number_of entry = 0

-- the frames that a sender sent, the latest first
abbrev pub frames_by : Sender → List Entry → List (List ℕ)
frames_by s [] = []
frames_by s (e ∷ h) = option_to_list (option_map (λ f. f.bytes) (frame_by s e)) ++ frames_by s h

-- how much time goes by with an entry, in milliseconds
abbrev pub ms_of : Entry → ℕ
ms_of (Ticked ms) = ms
ms_of entry = 0

-- the number of the frame, where these are its bytes
abbrev pub matching : List ℕ → Option Numbered → Option ℕ
matching bytes None = None
matching bytes (Some f) = if bytes_eq f.bytes bytes then Some f.number else None

-- the number of the newest frame of a sender with these bytes, where it isn't older than so many milliseconds
abbrev pub newest : Sender → ℕ → List Entry → List ℕ → Option ℕ
newest s age [] bytes = None
newest s age (e ∷ h) bytes =
    option_or (matching bytes (frame_by s e)) (if nat_lt age (ms_of e) then None else newest s (age - ms_of e) h bytes)
