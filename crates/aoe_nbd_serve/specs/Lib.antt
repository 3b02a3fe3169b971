pub mod Account
pub mod Asking
pub mod Conversations
pub mod Deeds
pub mod Ends
pub mod Moves
pub mod Serving
pub mod Window
