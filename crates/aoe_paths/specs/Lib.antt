pub mod Path
pub mod PathLog
pub mod PathTable
pub mod Timeout
