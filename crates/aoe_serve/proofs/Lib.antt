-- Kept: within a frame `Partly`, that the first slots met it and the others are as they were.
-- Over frames `SoFar`: there is a list of arrivals of which the source gave the stream (or the
-- turns brought just these), the sink or link took the replies, and every slot was served with
-- them. `mount` and `unmount` recurse over pairs of disks (`AreSeated`, `AreBack`).
--
-- Read specs/OutletLaws, `TurnLemmas`, `SlotLemmas`, `RunLemmas`, `LinkLemmas`, `SyncLemmas`,
-- `EndLemmas`, `FileLemmas`.
--
-- A way to end touches its row in `Stops` and `Ends`, or in `Finishes` and `Waited`.
mod SlotLemmas
mod RunLemmas
mod TurnLemmas
mod LinkLemmas
mod ShelfLinkLemmas
mod SyncLemmas
pub mod BackingLemmas
pub mod EndLemmas
mod FileLemmas
mod MirrorLemmas
