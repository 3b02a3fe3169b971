-- Kept of a server: `Serves` (specs/Serving), that is, its steps so far, each of which might come, and what they come to. Of a conversation:
-- `IsKept` (specs/Asking), what is kept of the request that comes.
-- Read `InputLemmas`, `ActLemmas`, `AskLemmas`, `HandLemmas`, `TalkLemmas`; then `StepLemmas` (one step more), `HostSteps`, `DeskSteps`,
-- `GuestSteps`, and `EndSteps`.
pub mod ActLemmas
pub mod AskLemmas
pub mod BeginLemmas
pub mod DeskSteps
pub mod EndSteps
pub mod GuestSteps
pub mod HandLemmas
pub mod HostSteps
pub mod InputLemmas
pub mod RunLemmas
pub mod StepLemmas
pub mod TalkLemmas
pub mod WindowLemmas
