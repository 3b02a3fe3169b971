-- Kept, of a tool: what it sent is what is asked up to here, and what it knows is what the
-- responses that counted say.
-- Read the specs Asking, Waiting, One and Discovery, then `QuestionLemmas`, `WaitLemmas`,
-- `ListenLemmas`, `FoundLemmas`, `DiscoverLemmas`; of one device `OneLemmas`; of `stat` the specs
-- Page, Visits and Stat, then `VisitLemmas`, `StatLemmas`; of the look-up before a copy the specs
-- LookUp, then `AskLemmas`.
-- One more tool needs a question, `counted`, and what is said of the responses. What holds an edit of masks back is in the spec
-- Guard, with `GuardLemmas`.
mod AskLemmas
mod DiscoverLemmas
mod FoundLemmas
mod GuardLemmas
mod JoinLemmas
pub mod ListenLemmas
mod OneLemmas
mod QuestionLemmas
mod StatLemmas
mod VisitLemmas
mod WaitLemmas
