-- Kept of a block: `AreParts` (specs/Fields), that is, the parts before the cursor were handed out
-- and those from it on weren't. Kept of a job: `Drives` (specs/Steps), that is, the host is what its
-- list of steps comes to, with all tags of it (`AreTagged`).
-- Read of a block `PlaceLemmas`, `PartLemmas`, `StageLemmas`, `SoundLemmas`, `CallLemmas`, `LawLemmas`.
-- Read of a job the specs Turns, Exchange, Steps and Answered, then `HostLemmas`, `TagLemmas`,
-- `OpenLemmas`, `HearLemmas`, `SendLemmas`, `StepLemmas`, and what follows, `StepLaws`, `DoneLaws`.
-- One more kind of step touches each function of specs/Steps and needs a row of `MayCome`; in
-- `aoe_copy` it needs one of `ReadLaw` and of `PutLaw`.
mod CallLemmas
pub mod DoneLaws
pub mod HearLemmas
pub mod HostLemmas
pub mod LawLemmas
pub mod OpenLemmas
mod PartLemmas
mod PlaceLemmas
pub mod SendLemmas
mod SoundLemmas
mod StageLemmas
pub mod StepLaws
pub mod StepLemmas
pub mod TagLemmas
