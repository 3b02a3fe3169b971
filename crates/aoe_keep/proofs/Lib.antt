-- Kept (specs/Stages), of a replacement by its six calls:
-- - `IsKept`, between replacements: the present lists are behind an open gate, and gate and body
--   aren't loose; the spare slot is closed, or has a body with another turn.
-- - `IsCleared` (calls 1, 2): the spare gate is closed and not loose.
-- - `IsStaged` (3, 4): the next lists are there, not loose.
-- - `IsOpened`, `IsReplaced` (5, 6): that gate is open and not loose, and every crash finds the
--   next lists.
-- - `IsInterrupted`, after a failed call: still `IsKept`, and every crash finds those lists, the
--   next ones, or what it could find before.
--
-- Read `Slots`, `Steps`, `Replacing` (the heart), `Told`, `Writes`, `Calls`, `Keeping`, `Others`,
-- `Mounting`, `Offers`; of the format `Spelling`, `Reading`, `Uniqueness`.
--
-- The order of the calls touches the stages, `Replacing`, and the six calls in `Replaces` of
-- `aoe_target` and in `struck_frame` and `calls_per`.
pub mod MountLemmas
pub mod Offers
mod Told
mod Runs
mod Slots
mod Steps
mod Writes
mod Replacing
mod Calls
mod Mounting
mod Others
mod Keeping
mod Uniqueness
mod Spelling
mod Reading
mod Making
