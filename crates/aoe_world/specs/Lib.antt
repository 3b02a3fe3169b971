pub mod Build
pub mod Schedule
pub mod Sim
pub mod Acts
pub mod Plan
pub mod World
pub mod Replay
