pub mod Host
pub mod Ids
pub mod Turns
