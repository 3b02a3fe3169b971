-- Kept: nothing is wrong with what is added, and so many lines are there. Read `SetupLemmas`,
-- `GoodLemmas`, `AddLemmas`, `LoopLemmas`. Another line: specs/Soak, `GoodLemmas`, `LoopLemmas`.
mod AddLemmas
mod GoodLemmas
mod LoopLemmas
mod SetupLemmas
