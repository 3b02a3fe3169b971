pub mod ClientMemory
pub mod Clients
pub mod Transcripts
pub mod Waits
