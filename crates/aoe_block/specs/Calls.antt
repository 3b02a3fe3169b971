-- What the calls of a block do.
use Rattle.std.specs.Prelude.{◌≤◌, ◌≡◌, ℕ, ◌*◌, ◌&&◌, ◌==◌, Bool, true, false, not, List, [], ◌∷◌, length, map, Option, Some, None, if◌then◌else◌}
use Rattle.std.specs.List.{find, list_all, list_any}
use Rattle.aoe_base.specs.declared.counted.Ticket.{Ticket}
use Rattle.aoe_initiator.specs.declared.op.Op.{Op}
use Rattle.aoe_initiator.specs.declared.op.Op.TheVariants.{Read as ReadOp, Write as WriteOp}
use Rattle.aoe_initiator.specs.declared.outcome.Done.{Done}
use Rattle.aoe_initiator.specs.declared.outcome.Outcome.{Outcome}
use Rattle.aoe_initiator.specs.declared.outcome.Outcome.TheVariants.{Read, Written, Flushed, Told, AtaError, AoeError, GaveUp}
use Rattle.aoe_block.specs.declared.stage.Stage.TheVariants.{Handed, Ended, Failed}
use Rattle.aoe_block.specs.declared.took.Took.{Took}
use Rattle.aoe_block.specs.declared.took.Took.TheVariants.{NotMine, More, Whole, Part as PartTook}
use Rattle.aoe_block.specs.Parts.{BlockState, Part}
use Rattle.aoe_block.specs.Stages.{is_ended, is_failed, is_handed, is_pending}

-- the first part that wasn't handed
abbrev pub next_part : List Part → Option Part
next_part parts = find (λ p. is_pending p.stage) parts

-- the operation of a part
abbrev pub op_of : Bool → Part → Op
op_of true p = WriteOp p.at p.bytes
op_of false p = ReadOp (record { at = p.at; count = p.count })

-- the parts once the first that wasn't handed is under way
abbrev pub hand : Ticket → List Part → List Part
hand ticket [] = []
hand ticket (p ∷ parts) = if is_pending p.stage then record p { stage = Handed ticket } ∷ parts else p ∷ hand ticket parts

-- the part that is under way with a ticket
abbrev pub part_of : ℕ → List Part → Option Part
part_of ticket parts = find (λ p. is_handed ticket p.stage) parts

-- a part of so many sectors was read or written: all of its data came, or it was acknowledged
abbrev pub is_success : Bool → ℕ → Outcome → Bool
is_success write count (Read read) = not write && length read == 512 * count
is_success write count Written = write
is_success write count Flushed = false
is_success write count (Told args) = false
is_success write count (AtaError status error) = false
is_success write count (AoeError error) = false
is_success write count (GaveUp first now) = false

-- the bytes of a part that was read or written
abbrev pub bytes_after : Outcome → List ℕ → List ℕ
bytes_after (Read read) bytes = read
bytes_after Written bytes = bytes
bytes_after Flushed bytes = bytes
bytes_after (Told args) bytes = bytes
bytes_after (AtaError status error) bytes = bytes
bytes_after (AoeError error) bytes = bytes
bytes_after (GaveUp first now) bytes = bytes

-- a part after its outcome
abbrev pub after_outcome : Bool → Outcome → Part → Part
after_outcome write outcome p =
    if is_success write p.count outcome
    then record p { bytes = bytes_after outcome p.bytes; stage = Ended }
    else record p { stage = Failed }

-- the part that is under way with the ticket has its outcome, and the others are as they were
abbrev pub after_done : Bool → Done → Part → Part
after_done write done p = if is_handed done.ticket.0 p.stage then after_outcome write done.outcome p else p

abbrev pub settle : BlockState → Done → BlockState
settle block done = record block { parts = map (after_done block.write done) block.parts }

-- each part was read or written
abbrev pub are_ended : List Part → Bool
are_ended parts = list_all (λ p. is_ended p.stage) parts

-- a part had another outcome
abbrev pub is_broken : BlockState → Bool
is_broken block = list_any (λ p. is_failed p.stage) block.parts

-- the operations of all parts in order
abbrev pub operations : BlockState → List Op
operations block = map (op_of block.write) block.parts

-- an outcome that a command of a part can have: as many data as a read asked for, an acknowledgement of a write, or
-- an error
abbrev pub CanEnd : Bool → ℕ → Outcome → Type 0
CanEnd write count (Read read) = (write ≡ false) × (length read ≡ 512 * count)
CanEnd write count Written = write ≡ true
CanEnd write count Flushed = Unit {0}
CanEnd write count (Told args) = Unit {0}
CanEnd write count (AtaError status error) = Unit {0}
CanEnd write count (AoeError error) = Unit {0}
CanEnd write count (GaveUp first now) = Unit {0}

abbrev pub is_read_or_written : Outcome → Bool
is_read_or_written (Read read) = true
is_read_or_written Written = true
is_read_or_written Flushed = false
is_read_or_written (Told args) = false
is_read_or_written (AtaError status error) = false
is_read_or_written (AoeError error) = false
is_read_or_written (GaveUp first now) = false

-- no part is under way with a ticket past this one
abbrev pub AreUpTo : ℕ → List Part → Type 0
AreUpTo last [] = Unit {0}
AreUpTo last (p ∷ parts) = ((ticket : ℕ) → is_handed ticket p.stage ≡ true → ticket ≤ last) × AreUpTo last parts

-- what a command that ended is to a block: no part of it, or a part, after which each may have ended
abbrev pub took_as : Bool → Done → Option Part → Bool → Took
took_as write done None ended = NotMine done
took_as write done (Some p) ended =
    if is_success write p.count done.outcome then if ended then Whole else More else PartTook done.outcome

abbrev pub took : BlockState → Done → Took
took block done = took_as block.write done (part_of done.ticket.0 block.parts) (are_ended (settle block done).parts)
