-- Worked histories, and what wrong stations would do.
pub mod CaseLemmas
pub mod Histories
pub mod Refused
pub mod RefusedPaths
pub mod CentralGroups
pub mod SetupLemmas
