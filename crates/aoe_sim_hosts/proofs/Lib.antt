-- Kept: `IsSettled`, a host matches its log (`log_of`), its clock is the history's, and no outcome
-- waits; `Awaits`, inside an act: the same once its clock goes on.
--
-- Read `Called`, `Same`, `Leaves`, `HostAlike`, `Commands`, `Apart`, `AddressLemmas`; then one file
-- a step: `SubmitLemmas`, `TakeLemmas`, `TellLemmas`, `SendLemmas`, `TurnLemmas`.
--
-- An entry more in `aoe_history` touches `leaves` and `own`.
pub mod AddressLemmas
pub mod Apart
pub mod Called
pub mod Commands
mod HostAlike
pub mod IdLemmas
pub mod Leaves
pub mod PathNo
pub mod Same
mod SendLemmas
mod SubmitLemmas
mod TakeLemmas
mod TellLemmas
mod TurnLemmas
