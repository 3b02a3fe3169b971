pub mod Store
pub mod Under
pub mod Lasting
