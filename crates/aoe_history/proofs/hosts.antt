-- What a host sends, and when.
pub mod CommandLemmas
pub mod SendLemmas
pub mod SentLemmas
pub mod ReadyLemmas
pub mod BaseLemmas
pub mod GoneLemmas
pub mod SourceLemmas
pub mod EntryLemmas
pub mod HostLemmas
pub mod ApartLemmas
pub mod AskedLemmas
