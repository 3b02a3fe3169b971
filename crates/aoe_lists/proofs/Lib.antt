-- Invariants: no address is twice in a list; in an edit, the directives that are left make of the
-- list so far what all of them make of the first list.
-- Read in this order: AddressLemmas, EditLemmas, ChangeLemmas, AnswerLemmas, SortedLemmas;
-- PieceLemmas and ReadLemmas are small and apart.
-- A new list also needs a place in a keep's body (aoe_keep).
pub mod AddressLemmas
mod AnswerLemmas
pub mod ChangeLemmas
mod EditLemmas
mod PieceLemmas
mod ReadLemmas
mod SortedLemmas
