pub mod Shelf
pub mod Arming
pub mod Arrival
pub mod Crash
pub mod NewKeep
