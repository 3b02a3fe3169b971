-- A `Change` says what becomes of lists and format. Read `Causes`, `Changing`.
-- `compare`: RunLemmas (the runs of sectors while they are passed), ScanLemmas (a piece), SideLemmas
-- (all pieces), TellLemmas (the whole text).
mod Causes
mod Changing
mod RunLemmas
mod ScanLemmas
mod SideLemmas
mod TellLemmas
