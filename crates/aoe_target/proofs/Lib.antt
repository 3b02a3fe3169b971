-- Kept: `Holds d k`, for every `State` k: the lists are those, every crash of the keep finds the
-- present ones or offers of failed edits, and the sectors agree (`Agrees`). `AdmitsAs`: the
-- sorted lists beside the keep let in whom its lists let in.
--
-- Read `SectorLemmas`, `LawLemmas`, `DeviceLemmas`, `ReceiveLemmas` (one `*_step` a verdict),
-- `PieceLemmas`, `ReplyLemmas`.
--
-- An ATA answer touches its rows in `AllowsAta`, `after_ata`, `allows_less`, `effect_agrees`;
-- above, `deed` (`aoe_history`), `allows_within`, `ata_within` (`aoe_sim_shelves`). A field of
-- `State` touches `Same`, `Agrees`, `SameWithin`.
mod AddressNumbers
pub mod DeviceLemmas
pub mod LawLemmas
pub mod OneReply
mod PieceLemmas
mod PortLemmas
mod ReceiveLemmas
mod ReceivesLemmas
mod ReplyLemmas
pub mod SectorLemmas
