-- Kept: `Carries`, the network has the frames of the history; `IsReady`, all hosts are settled, and
-- `IsTurning k`, the first k had their turn; `IsWorld`: `IsReady`, and names and cursor are where
-- script and frames say. `left-more` and `full-more` carry a full network up.
--
-- Read `AddsLemmas`, `TurnLemmas`, `ActLemmas`, `HostActLemmas`, `ShelfActLemmas`;
-- `ScheduleLemmas`, `PassLemmas`; `PlaceLemmas`, `PlanLemmas`; `GroupLemmas`, `WorldLemmas`;
-- `BuildLists`, `BuildHost`, `BuildShelf`, `BuildStations`.
--
-- A change of an act touches `Act`, `Enters`, `EntersSome`, their `enters-*` lemmas, a variant in
-- act.rt with `named` and `CanAct`, and a function of sim.rt. An event line: `acts_of`, `plan_of`,
-- `CanCome`, `EventLemmas`, `are-of-line`. An entry more in `aoe_history`: `frames-grow`,
-- `entry-keeps`, `grows-aside`.
mod ActLemmas
pub mod AddsLemmas
mod BuildHost
mod BuildLists
mod BuildShelf
mod BuildStations
mod EventLemmas
pub mod GroupLemmas
mod GroupSome
mod HostActLemmas
mod ListLemmas
mod PassLemmas
mod PlaceLemmas
mod PlanLemmas
pub mod RunLemmas
pub mod ScheduleKeeps
mod ScheduleLemmas
mod ShelfActLemmas
mod SlotLemmas
mod TextLemmas
mod TurnLemmas
mod WorldLemmas
