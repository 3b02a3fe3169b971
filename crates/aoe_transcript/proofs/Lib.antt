-- Kept by the loops: the text is that of the entries so far, and the counts are theirs. Read, after
-- `JoinLemmas` of `aoe_script`: `RunLemmas`, `HistoryLemmas`, `CountLemmas`, `SubmissionLemmas`,
-- `LawfulLemmas`. A change of an entry, or a new one, touches `entry_words`, `CanPrint` and a
-- count.
mod CountLemmas
mod HistoryLemmas
mod LawfulLemmas
mod RunLemmas
mod SubmissionLemmas
