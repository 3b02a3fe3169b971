-- Invariant IsMemory: bytes, settled bytes and marks have one size, and where a sector isn't loose
-- both bytes are equal.
-- One call at most is due; calls that don't fail bring it nearer; the one that fails is the one
-- that was due.
-- Read in this order: Pieces, Touching, Runs, Losing, MemoryCalls, ArmedCalls; then Spoiling and
-- Lasting of aoe_store.
-- A change of a mode of loss touches left_of, Losing, and then CrashLemmas of aoe_sim_shelves; a
-- field of the schedule touches MovesOn and all of Runs.
pub mod Pieces
pub mod Touching
pub mod Runs
pub mod Losing
pub mod MemoryCalls
pub mod ArmedCalls
