pub mod State
pub mod Calls
pub mod Arming
pub mod Sectors
pub mod Loss
pub mod Memory
