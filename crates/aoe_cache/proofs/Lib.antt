-- Kept: `IsIndexed`, that the table has the sectors of the places, each once, with room for all.
-- What the buffer holds is these in order (`held_of`), and all else asks only that. While the
-- buffer is written down, the places not tried yet are in order, and those of failed runs are the
-- first.
--
-- Read `Ascending`, `Ordered`, `Table`, `Steps`, then `Runs`, `Going`, `Down`, `Laying`,
-- `Sectors`, `Seen`, `Beneath`, `Freeing`.
--
-- Another table touches `place_for`, `keep_first` and `Table`.
pub mod Ascending
pub mod Places
pub mod Laying
pub mod Sectors
pub mod Ordered
pub mod Table
pub mod Steps
pub mod Runs
pub mod Going
pub mod Down
pub mod Seen
pub mod Freeing
pub mod Beneath
