pub mod Comparing
pub mod Scanning
pub mod Upkeep
