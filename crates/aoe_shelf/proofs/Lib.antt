-- Kept: `IsShelf`, at most 16 targets, with room for these. Each call changes one slot: read
-- `SlotLemmas`.
pub mod SlotLemmas
