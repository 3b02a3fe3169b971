-- Kept: `IsInRoom`, that is, the things are in order (`AreInOrder`), and there is memory for as
-- many as there is room for. Read `RankLemmas`.
pub mod RankLemmas
