-- What a run over a stream of frames takes, writes and leaves, by how it ended.
use Rattle.std.specs.Prelude.{ℕ, ◌<◌, ◌≤◌, ◌≡◌, List, [], ◌∷◌, length, slice_get, All, Option, Some, IfSome, Result, Ok, Err}
use Rattle.aoe_base.specs.Sizes.{most_streamed}
use Rattle.aoe_io.specs.Bytes.{Gave, GaveSome, Took, TookSome, IsEnded}
use Rattle.aoe_io.specs.Stream.{framed, stream, IsFrame, IsBroken}
use Rattle.aoe_target.specs.Law.{Fate}
use Rattle.aoe_serve.specs.Arrivals.{Arrived, AreServed, MeetAll, frames, replies_of}
use Rattle.aoe_serve.specs.Slots.{Meets, Slot}
use Rattle.aoe_serve.specs.Written.{written, written_of}
use Rattle.aoe_serve.specs.declared.over_stream.AnswerEnd.{AnswerEnd}
use Rattle.aoe_serve.specs.declared.over_stream.AnswerEnd.TheVariants.{Ended, SourceFault, SinkFault, Stream, Limit}
use Rattle.aoe_serve.specs.declared.over_stream.Format.{Format}

-- what stands in the source behind n frames of so many bytes, and what the run left of it
abbrev pub Stops : AnswerEnd → ℕ → ℕ → Option (List ℕ) → Option (List ℕ) → Type 0
Stops Ended n taken behind left = (n < most_streamed) × IsEnded behind × (left ≡ behind)
Stops (Stream offset) n taken behind left = (n < most_streamed) × (offset ≡ taken) × IfSome behind IsBroken × GaveSome behind left
Stops SourceFault n taken behind left = (n < most_streamed) × GaveSome behind left
Stops SinkFault n taken behind left = (n ≤ most_streamed) × (left ≡ behind)
Stops Limit n taken behind left = (n ≡ most_streamed) × (left ≡ behind)

-- The sink took what is written of all frames but the last, and a part of what is written of the last. Or it took a part of what stands in
-- front, before any frame; where nothing does, as in a stream of replies, there is no part of it.
abbrev pub FailedToWrite : Format → Option (List ℕ) → Option (List ℕ) → List Arrived → Type 0
FailedToWrite format before after [] = TookSome before after (written format [])
FailedToWrite format before after (a ∷ h) =
    (middle : Option (List ℕ)) × Took before middle (written format h) × TookSome middle after (written_of format a.frame (replies_of a.fates))

-- what the sink took of what is written: all, but where it failed
abbrev pub TookWritten : Format → AnswerEnd → Option (List ℕ) → Option (List ℕ) → List Arrived → Type 0
TookWritten format SinkFault before after arrivals = FailedToWrite format before after arrivals
TookWritten format _ before after arrivals = Took before after (written format arrivals)

-- what the sink took of bytes: all, or a part of them where it failed
abbrev pub WritesTo : {T E : Type 0} → Result T E → Option (List ℕ) → Option (List ℕ) → List ℕ → Type 0
WritesTo (Ok u) before after bytes = Took before after bytes
WritesTo (Err failed) before after bytes = TookSome before after bytes

-- A run over a shelf: the source gave the stream of the frames that arrived, the sink took what is written of them, and the frames came to
-- each slot. A call that failed was the last of its object.
pub record Answered (format : Format) (end : AnswerEnd) (left left' held held' : Option (List ℕ)) (old new : List Slot) : Type 0 where
  pub arrivals : List Arrived
  pub whole : All IsFrame (frames arrivals)
  pub served : AreServed old new arrivals
  pub behind : Option (List ℕ)
  pub gave : Gave left behind (stream (frames arrivals))
  pub stops : Stops end (length arrivals) (length (stream (frames arrivals))) behind left'
  pub took : TookWritten format end held held' arrivals

-- the round of a frame that came, which has so many bytes with its length: the sink took what is written of it
pub record Turned (format : Format) (taken : ℕ) (left left' held held' : Option (List ℕ)) (old new : List Slot) : Type 0 where
  pub frame : List ℕ
  pub fates : List Fate
  pub whole : IsFrame frame
  pub long : taken ≡ length (framed frame)
  pub gave : Gave left left' (framed frame)
  pub meets : MeetAll old new frame fates
  pub writes : Took held held' (written_of format frame (replies_of fates))

-- the sink failed in the round of a frame
pub record Breaks (format : Format) (left left' held held' : Option (List ℕ)) (old new : List Slot) : Type 0 where
  pub frame : List ℕ
  pub fates : List Fate
  pub whole : IsFrame frame
  pub gave : Gave left left' (framed frame)
  pub meets : MeetAll old new frame fates
  pub writes : TookSome held held' (written_of format frame (replies_of fates))

-- how a turn ends a run that took offset bytes before it
abbrev pub Ends : Format → AnswerEnd → ℕ → Option (List ℕ) → Option (List ℕ) → Option (List ℕ) → Option (List ℕ) → List Slot → List Slot → Type 0
Ends format Ended offset left left' held held' old new = IsEnded left × (left' ≡ left) × (held' ≡ held) × (new ≡ old)
Ends format (Stream at) offset left left' held held' old new = (at ≡ offset) × IfSome left IsBroken × GaveSome left left' × (held' ≡ held) × (new ≡ old)
Ends format SourceFault offset left left' held held' old new = GaveSome left left' × (held' ≡ held) × (new ≡ old)
Ends format SinkFault offset left left' held held' old new = Breaks format left left' held held' old new
Ends format Limit offset left left' held held' old new = ⊥

-- a frame came to one slot, and the others are as they were
pub record MeetsAt (slot : ℕ) (old new : List Slot) (frame : List ℕ) (fate : Fate) : Type 0 where
  pub count : length new ≡ length old
  pub meets : (a b : Slot) → slice_get old slot ≡ Some a → slice_get new slot ≡ Some b → Meets a b frame fate
  pub others : (i : ℕ) → (i ≡ slot → ⊥) → slice_get new i ≡ slice_get old i
