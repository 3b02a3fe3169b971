pub mod Tag
pub mod Switched
pub mod Tables
pub mod Running
