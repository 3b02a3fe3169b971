pub mod Counting
pub mod Counts
pub mod Print
pub mod Runs
pub mod Summary
