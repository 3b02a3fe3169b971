-- Kept: `Serves`, the disks hold what the history says and are armed so (`IsDue`).
--
-- Read `Words`, `Apart`, `WithinLemmas`, `DueLemmas`, `FateLemmas`, `SlotLemmas`, `ArrivalLemmas`,
-- `ShelfLemmas`, `ArmLemmas`; of a crash `CrashLemmas`, `FrontLemmas`, `HistoryLemmas`,
-- `SeatLemmas`.
--
-- A store with a cache: `SlotLemmas` and `CrashLemmas` want a slot without one (`direct`). A mode
-- of loss: `CrashLemmas`. An ATA answer: `allows_within`, `ata_within`. An entry more in
-- `aoe_history`: `says-apart`.
pub mod Apart
mod AgreeLemmas
mod ArmLemmas
mod ArrivalLemmas
mod CrashLemmas
mod DueLemmas
mod FateLemmas
mod FrontLemmas
mod HistoryLemmas
mod ShelfLemmas
mod SeatLemmas
mod SlotLemmas
mod StepLemmas
mod UnderLemmas
mod WithinLemmas
mod Words
