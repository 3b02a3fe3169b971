pub mod Calls
pub mod Frames
pub mod Sends
pub mod Turns
