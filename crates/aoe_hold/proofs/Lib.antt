-- Kept, for every list of commands that were entered (`Recalls`): the table has those that aren't
-- past. A table forgets only what changes no answer: the law speaks of all commands, the code asks
-- the table, and `LiveLemmas` says that both answer alike. The queues of the commands that wait are
-- tied to the table by counts (`IsIndex`, `AreHeld`), and the keys by `AreKeysOf` and `Covers`.
-- Read `LiveLemmas`, `WaitLemmas`, `IndexLemmas`, `ReleaseLemmas`, `HeldLemmas`, `PastLemmas`,
-- `ExtentLemmas`, `KeyLemmas`, `NearLemmas`, `HoldLemmas`.
mod ClearLemmas
mod ExtentLemmas
mod FreeLemmas
mod HeldLemmas
mod HoldLemmas
mod IndexLemmas
mod KeyLemmas
mod ListLemmas
mod MoveLemmas
mod NearLemmas
mod OrderLemmas
mod OutsideLemmas
mod PastLemmas
mod PlaceLemmas
mod QueuedLemmas
mod ReleaseLemmas
mod StageLemmas
mod WaitLemmas
pub mod LiveLemmas
pub mod TableLemmas
