pub mod Clients
pub mod Outcomes
pub mod Requests
