-- Kept, for every list of commands that were sent (`Recalls`): the table has those that fly or
-- rest. A table forgets only what changes no answer: the law speaks of all commands, the code asks
-- the table, and the `*-recalled` lemmas say that both answer alike. Each order of the table is
-- tied to it by counts (`IsOrderOf`, in `IsIndexed`).
-- Read `EntryLemmas`, `IndexLemmas`, `ChangeLemmas`, `TableLemmas`, `ValueLemmas`, `TimeLemmas`.
mod ChangeLemmas
pub mod CountLemmas
mod EntryLemmas
mod FirstLemmas
mod IndexLemmas
mod InsertLemmas
mod LiveLemmas
mod PastLemmas
pub mod RecallLemmas
mod SlotLemmas
mod SoundLemmas
mod TableLemmas
mod TagLemmas
pub mod TimeLemmas
mod ValueLemmas
