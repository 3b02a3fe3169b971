pub mod Network
pub mod Store
