-- What a request asks, and what a reply to it says.
pub mod RequestLemmas
pub mod ReplyLemmas
pub mod ConversationLemmas
