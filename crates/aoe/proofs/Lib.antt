-- Kept: a status is a function of how the run ended (`status_of`).
--
-- Read `OnSlots`, `Exits`, `Refusals`, `Complete`.
--
-- A status touches `code_of`, `text_of`, `ended_by` or `replayed_as`, and the cases of
-- `Complete`, `Mirrors` and `Refusals`.
mod Blame
mod Complete
mod CopyLemmas
mod Exits
mod OnSlots
mod Refusals
mod Switched
mod Mirrors
mod Upkeeps
mod Audits
mod Comparisons
