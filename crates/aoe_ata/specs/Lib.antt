pub mod Args
pub mod Command
pub mod Decision
pub mod Identify
pub mod Reply
pub mod Serial
