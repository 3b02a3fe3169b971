-- Kept: `IsMirror`, sides of one size that agree where nothing is stale, and a mark disk that
-- names the lead once it is settled; before that each stale sector is loose on the lead.
-- `AreMarks`: the count is that of the bits set, and none is below `lowest`. `Passes`, over all
-- runs: below a sector at most 64 are stale for each failure so far.
--
-- Read `Bits`, `Told`, `Whole`, `Quiet`, `Steps`, then `Reading`, `Writing`, `Syncing`,
-- `Lowest`, `Copying`, `Passing`, `Surviving`, `Cleaning`, `Naming`, `Settling`.
--
-- `IsMarked` is apart from it: the mark disk says that a mirror is clean only while it is, and its second
-- sector is written only then.
--
-- A takeover is a write with the sides in the other order (`turned`).
pub mod Bits
pub mod Told
pub mod Whole
pub mod Quiet
pub mod Steps
pub mod Reading
pub mod Writing
pub mod Syncing
pub mod Lowest
pub mod Copying
pub mod Passing
pub mod Surviving
pub mod Cleaning
pub mod Naming
pub mod Settling
pub mod Covering
pub mod Telling
