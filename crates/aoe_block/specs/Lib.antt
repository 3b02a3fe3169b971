pub mod Answered
pub mod Calls
pub mod Exchange
pub mod Fields
pub mod Parts
pub mod Stages
pub mod Steps
pub mod Turns
