-- Kept: `IsTable` of the fields, that is, one path for each pair of ports, no port twice at an end,
-- and the path chosen last is one of the paths. `Recalls` for every log of what happened on the
-- paths: the table has the choice, the marks and the last eight trips that the log gives. A table
-- forgets only what changes no answer: the law speaks of all that happened, the code asks the
-- table, and the `*-recalled` lemmas say that both answer alike.
-- Read `ChoiceLemmas`, `TimeoutLemmas`, `PairLemmas`, `RecallLemmas`.
mod ChoiceLemmas
pub mod PairLemmas
mod PathLemmas
pub mod RecallLemmas
pub mod TimeoutLemmas
