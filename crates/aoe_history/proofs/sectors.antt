-- What a sector of a device holds for a host.
pub mod SectorLemmas
pub mod DeedLemmas
pub mod AtLemmas
pub mod ArriveLemmas
