-- The steps of a copy into a device, latest first: steps of its own are that the input ends, with these bytes after its whole sectors, and
-- that it goes on after the last sector of the device, with these.
use Rattle.std.specs.Prelude.{ℕ, ◌≡◌, ◌+◌, ◌-◌, ◌*◌, ◌/◌, ◌%◌, ◌<◌, ◌≤◌, ◌⊎◌, min, Bool, true, false, ◌||◌, List, [], ◌∷◌, length, Option, Some, None, if◌then◌else◌}
use Rattle.std.specs.List.{cons_option}
use Rattle.aoe_block.specs.Steps.{open_of, ops, owns, GoesOn, Start, Step}
use Rattle.aoe_block.specs.Steps.Step.{hears, own, sends, submits, ticks}
use Rattle.aoe_initiator.specs.declared.op.Op.{Op}
use Rattle.aoe_initiator.specs.declared.op.Op.TheVariants as op
use Rattle.aoe_copy.specs.declared.plan.Plan.{Plan}
use Rattle.aoe_copy.specs.declared.putting.Stage.{Stage}
use Rattle.aoe_copy.specs.declared.putting.Stage.TheVariants as stage
use Rattle.aoe_copy.specs.Window.{in_order, most_open}

pub data Fed : Type 0 where
  ends : List ℕ → Fed
  exceeds : List ℕ → Fed

abbrev pub PutStep : Type 0
PutStep = Step Fed

-- the bytes of a write
abbrev pub piece_of : Op → Option (List ℕ)
piece_of (op.Write at bytes) = Some bytes
piece_of (op.Read span) = None
piece_of op.Flush = None
piece_of op.Identify = None
piece_of (op.Config ccmd text) = None
piece_of (op.Masks edit dirs) = None
piece_of (op.Reserve rcmd list) = None

abbrev pub is_flush : Op → Bool
is_flush op.Flush = true
is_flush (op.Write at bytes) = false
is_flush (op.Read span) = false
is_flush op.Identify = false
is_flush (op.Config ccmd text) = false
is_flush (op.Masks edit dirs) = false
is_flush (op.Reserve rcmd list) = false

-- the bytes of each write, the latest first
abbrev pub pieces_in : List Op → List (List ℕ)
pieces_in [] = []
pieces_in (o ∷ os) = cons_option (piece_of o) (pieces_in os)

abbrev pub pieces : List PutStep → List (List ℕ)
pieces steps = pieces_in (ops steps)

abbrev pub has_flush : List Op → Bool
has_flush [] = false
has_flush (o ∷ os) = is_flush o || has_flush os

-- the bytes that came after these, and can't be written
abbrev pub rest_in : List Fed → List ℕ
rest_in [] = []
rest_in (ends rest ∷ fed) = rest
rest_in (exceeds bytes ∷ fed) = bytes

abbrev pub rest_of : List PutStep → List ℕ
rest_of steps = rest_in (owns steps)

-- the end of the input: with whole sectors, or within one
abbrev pub stage_at_end : List ℕ → Stage
stage_at_end [] = stage.Ended
stage_at_end (b ∷ rest) = stage.Broken

-- what is left to do
abbrev pub stage_fed : List Fed → Stage
stage_fed [] = stage.Reading
stage_fed (ends rest ∷ fed) = stage_at_end rest
stage_fed (exceeds bytes ∷ fed) = stage.Beyond

abbrev pub stage_of : List PutStep → Stage
stage_of steps = if has_flush (ops steps) then stage.Flushing else stage_fed (owns steps)

-- how many sectors these bytes are
abbrev pub count_of : List (List ℕ) → ℕ
count_of [] = 0
count_of (bytes ∷ earlier) = count_of earlier + length bytes / 512

-- the bytes of the writes, in their order
abbrev pub written : List PutStep → List ℕ
written steps = in_order (pieces steps)

-- the write after others is of the sectors that follow theirs (ATA, WRITE SECTORS EXT)
abbrev pub write_after : Plan → List (List ℕ) → List ℕ → Op
write_after p earlier bytes = op.Write (p.at + count_of earlier) bytes

-- the most sectors of the command after these: as many as one may have, or those that the device has left
abbrev pub room_after : Plan → List (List ℕ) → ℕ
room_after p earlier = min p.max (p.count - count_of earlier)

-- each of these is as long as it may be
abbrev pub AreFull : Plan → List (List ℕ) → Type 0
AreFull p [] = Unit {0}
AreFull p (bytes ∷ earlier) = AreFull p earlier × (length bytes ≡ 512 * room_after p earlier)

-- more of the input may be read: it goes on, each write before was as long as it may be, and fewer than a window are under way
pub record MayRead (b : Start) (p : Plan) (steps : List PutStep) : Type 0 where
  pub reads : stage_of steps ≡ stage.Reading
  pub full : AreFull p (pieces steps)
  pub few : open_of b steps < most_open

-- these bytes may be the next write: whole sectors, at least one, and no more than it may have
pub record IsPart (p : Plan) (earlier : List (List ℕ)) (bytes : List ℕ) : Type 0 where
  pub some : 0 < length bytes
  pub whole : length bytes % 512 ≡ 0
  pub most : length bytes ≤ 512 * room_after p earlier

-- The flush may be submitted, where one is asked for: the input ended with whole sectors, and each command was acknowledged.
pub record MayFlush (b : Start) (flush : Bool) (steps : List PutStep) : Type 0 where
  pub wanted : flush ≡ true
  pub ended : stage_of steps ≡ stage.Ended
  pub none_open : open_of b steps ≡ 0

-- a command may be submitted: the write of the input's next sectors, or the flush
abbrev pub MayWrite : Start → Plan → Bool → List PutStep → Op → Type 0
MayWrite b p flush steps (op.Write at bytes) = (at ≡ p.at + count_of (pieces steps)) × MayRead b p steps × IsPart p (pieces steps) bytes
MayWrite b p flush steps op.Flush = MayFlush b flush steps
MayWrite b p flush steps (op.Read span) = ⊥
MayWrite b p flush steps op.Identify = ⊥
MayWrite b p flush steps (op.Config ccmd text) = ⊥
MayWrite b p flush steps (op.Masks edit dirs) = ⊥
MayWrite b p flush steps (op.Reserve rcmd list) = ⊥

-- with a number of commands under way nothing is left to be submitted now, and the copy isn't over
abbrev pub NothingLeft : Stage → ℕ → Type 0
NothingLeft stage.Reading n = ⊥
NothingLeft stage.Ended n = 0 < n
NothingLeft stage.Broken n = 0 < n
NothingLeft stage.Beyond n = 0 < n
NothingLeft stage.Flushing n = 0 < n

-- as many as may be were submitted: a window is under way, or nothing is left until those are acknowledged that are
abbrev pub IsFilled : Start → List PutStep → Type 0
IsFilled b steps = (most_open ≤ open_of b steps) ⊎ NothingLeft (stage_of steps) (open_of b steps)

-- The law of a copy into a device: a command writes the input's next sectors, those that follow on the ones before; once the input has ended
-- and all was acknowledged the flush is submitted; and before a turn of the link as much as may be was submitted, and there is more to wait
-- for.
abbrev pub PutLaw : Start → Plan → Bool → List PutStep → PutStep → Type 0
PutLaw b p flush steps (ticks answer gave_up) = Unit {0}
PutLaw b p flush steps (submits o) = MayWrite b p flush steps o
PutLaw b p flush steps (own (ends rest)) = GoesOn steps × (stage_of steps ≡ stage.Reading) × (length rest < 512)
PutLaw b p flush steps (own (exceeds bytes)) =
    GoesOn steps × MayRead b p steps × (room_after p (pieces steps) ≡ 0) × (0 < length bytes) × (length bytes ≤ 512)
PutLaw b p flush steps (sends o) = Unit {0}
PutLaw b p flush steps (hears turn heard) = IsFilled b steps
