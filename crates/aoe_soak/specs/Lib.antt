pub mod Adds
pub mod Soak
