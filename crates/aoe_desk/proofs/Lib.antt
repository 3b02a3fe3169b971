-- Kept of a desk: `IsKept` (specs/Desks), that is, what its counts say and `IsDesk`, with `IsOpen` of each open request.
-- Read `PartLemmas` (the parts of a block by how far they are), `RequestLemmas`, `DeskLemmas`, `RunLemmas`.
mod AdmitLemmas
mod DeskLemmas
mod KeptLemmas
mod PartLemmas
mod RequestLemmas
mod RunLemmas
