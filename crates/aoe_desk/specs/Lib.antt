pub mod Desks
pub mod Requests
pub mod Runs
