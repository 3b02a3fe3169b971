pub mod Shelf
pub mod Slot
pub mod Calls
