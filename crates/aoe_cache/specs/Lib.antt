pub mod Held
pub mod Down
pub mod Cache
pub mod Free
pub mod Any
