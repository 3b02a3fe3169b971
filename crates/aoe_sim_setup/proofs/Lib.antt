-- Read `ListLemmas`, `GoodLines`, `LineLemmas`, `SlotLemmas`, `HostLemmas`, `StationLemmas`,
-- `SetupLemmas`, `EventLemmas`.
pub mod EventLemmas
pub mod GoodLines
pub mod HostLemmas
pub mod LineLemmas
pub mod ListLemmas
pub mod RangeLemmas
pub mod SetupLemmas
pub mod SlotLemmas
pub mod StationLemmas
mod MacLemmas
