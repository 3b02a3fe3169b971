pub mod Addresses
pub mod Config
pub mod Masks
pub mod Reserves
pub mod Settings
pub mod Step
