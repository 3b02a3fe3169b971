pub mod Records
pub mod Ends
pub mod Capturing
