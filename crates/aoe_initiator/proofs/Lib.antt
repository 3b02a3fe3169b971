-- Kept: `IsConsistent` of the fields, and `Matches log host` for every log: the clock is the log's,
-- tickets ascend, `pending` is the commands without an outcome in order, the flight table is those
-- that fly or rest, each device's hold table those that aren't past, and its paths are what the log
-- gives. A table forgets only what changes no answer: the law speaks of all commands, the code asks
-- the tables, and the `*-recalled` lemmas say that both answer alike.
-- Read first the lemmas of `aoe_paths`, `aoe_flight` and `aoe_hold`, and then `LogLemmas`,
-- `DeviceLemmas`, `PathLemmas`, `MatchLemmas` (one `matches-*` for each event: the heart),
-- `SoundLemmas`, `ClearLemmas`, `StartLemmas`, `RepeatLemmas`, `TakeLemmas`, `AnswerLemmas`,
-- `RequestLemmas`, `WorkLemmas`.
-- An event touches `commands`, `path_log`, a `matches-*` and a `sound-*`. A field of `Host` touches
-- `Matches` or `IsSound` and each of those. An operation touches `request`, `answer`, `kind_of`,
-- `span_of`, and in `aoe_history` `asked-as` and `ata-by`.
mod AnswerLemmas
mod ClearLemmas
mod DeviceLemmas
pub mod ListLemmas
mod LogLemmas
pub mod MatchLemmas
pub mod NameLemmas
mod PathLemmas
mod PlaceLemmas
mod RepeatLemmas
mod RequestLemmas
mod SoundLemmas
mod StartLemmas
mod StepLemmas
mod TakeLemmas
mod WorkLemmas
