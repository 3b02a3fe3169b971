pub mod Errors
pub mod Handshakes
pub mod Options
pub mod Refusals
pub mod Replies
pub mod Requests
pub mod Steps
pub mod Streams
