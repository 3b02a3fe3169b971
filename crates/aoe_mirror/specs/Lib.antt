pub mod Marks
pub mod Sides
pub mod Calls
pub mod Clean
pub mod Mirror
pub mod Covering
pub mod Watching
pub mod Names
