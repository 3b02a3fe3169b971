-- What the replies in a network say, and what a read gives.
pub mod TrueLemmas
pub mod EndLemmas
pub mod PassLemmas
pub mod DoneLemmas
pub mod ToldLemmas
pub mod ReadLemmas
