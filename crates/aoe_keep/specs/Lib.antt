pub mod Body
pub mod Found
pub mod Stages
pub mod Keep
pub mod Calls
pub mod Content
