pub mod Example
pub mod Layout
pub mod Stations
