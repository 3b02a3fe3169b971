-- Read Spoiling (a failed write of a store), then Lasting (writes with a sync after them); Pieces,
-- Touching and Runs of aoe_disk come before both.
-- The invariants are those of aoe_disk, at the head of its Lib.antt: no state is kept here but the
-- disk's. A mode of loss or a field of the schedule is changed there first.
pub mod Spoiling
pub mod Lasting
