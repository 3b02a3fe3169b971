pub mod Bytes
pub mod Input
pub mod Joined
pub mod Link
pub mod LinkMemory
pub mod Memory
pub mod Stream
pub mod Ticking
