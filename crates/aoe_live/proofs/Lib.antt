-- Kept: `Follows`, the world came by the lines so far, and `IsKept`, every entry was looked at.
-- Read `LineLemmas`, `RecordLemmas`, `StepLemmas`, `TurnLemmas`, `RoundLemmas`, `OrderLemmas`,
-- `TextLemmas`.
mod EntryLemmas
mod GoodLemmas
mod GrownLemmas
mod LineLemmas
mod NewestLemmas
mod NumberLemmas
mod OrderLemmas
mod PassLemmas
mod RecordLemmas
mod RoundLemmas
mod StepLemmas
mod TextLemmas
mod TickLemmas
mod TurnLemmas
