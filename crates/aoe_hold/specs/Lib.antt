pub mod Commands
pub mod HoldTable
pub mod Queue
pub mod Extents
pub mod Held
pub mod Looks
