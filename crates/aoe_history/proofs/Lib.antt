-- `MayCome` says which entry may come next, `IsLawful` says it of each; no code is in these laws.
--
-- What is kept of a host. Its commands are, ticket by ticket, what the history says (`Known`).
-- `Holds` has `Base` (only what was submitted is sent, a later command in conflict is sent once the
-- earlier is done, live tags differ), `AreSentFor` (a frame with the host's source is the request
-- of a command that was sent) and `AreGone` (once a command that rests on effects was sent, no
-- frame with effects of an earlier one in conflict can arrive). So of a host's writes of a sector
-- one at most is under way.
--
-- What is kept of one host, slot and sector, for the read law: `Kept` (`ReadLemmas`), `At` and
-- `AreTrue`. A command *flies* from its first frame to its outcome, and is *under way* while it
-- flies or a frame of it can arrive; a write has *landed* if the slot stored its data since it was
-- sent.
-- - `At` (`SectorLemmas`): while the host is alone, what the sector holds is allowed (`value`), and
--   so is the value of each write under way (`mine`); if it isn't spoiled, it holds the value of a
--   write that flies and has landed (`own`); if it is safe, a flush acknowledged since its last
--   write began, no crash can change it and no write of it is under way (`clean`, `still`). A
--   spoiled sector may have any value (`lost`).
-- - `AreTrue`: each reply from the slot to the host in the network is to a command that was sent,
--   at most the lifetime of requests after its last frame; and while that command flies, "written"
--   means that the write has landed, "flushed" that the sector has no mark, and the data of a read
--   are allowed.
-- - Each needs the other: a new reply is true because of `At`, and an outcome keeps `At` because
--   the reply was true. The law is the case of a read that has its outcome.
--
-- The lemmas by which each entry keeps `At`; `AreTrue`; `Holds`:
-- - Sent by this host: `sent-at`; `sent-passes`; `sent-base`, `sent-frames`, `sent-gone`.
-- - Arrived: `arrived-at`, by `acts`; `arrived-passes`, its reply `new-reply`; `replied-source`.
-- - Done, written: `written`; `written`; `done-keeps`.
-- - Done, flushed or else: `flushed` or `ended-at`; `ended`; `done-keeps`.
-- - Crashed: `crashed-at`; `crashed-passes`; `kept`.
-- - Injected: `quiet`; `foreign-no-reply`; `foreign-source`.
-- - Sent by others: `quiet`; `request-no-reply`; `request-source`.
-- - Submitted: `quiet`; `keeps-passes`; `submitted-keeps`.
-- - Took, Refused, Ticked, Lost, Armed: `quiet`; `keeps-passes`; `kept`.
--
-- Read, folder by folder:
-- - replies: `RequestLemmas`, `ReplyLemmas`, `ConversationLemmas`;
-- - hosts: `CommandLemmas` (`Known`), `SendLemmas`, `SentLemmas`, `ReadyLemmas`, `BaseLemmas`
--   (`Base`, `Keeps`), `GoneLemmas`, `SourceLemmas`, `EntryLemmas`, `HostLemmas`, `ApartLemmas`,
--   `AskedLemmas`;
-- - sectors: `SectorLemmas` (one lemma a change), `DeedLemmas`, `AtLemmas`, `ArriveLemmas`;
-- - reads: `TrueLemmas`, `EndLemmas`, `PassLemmas`, `DoneLemmas`, `ToldLemmas`, `ReadLemmas`;
-- - worked: `CaseLemmas`, `Histories` (each a chain of its steps), `CentralGroups`, `SetupLemmas`,
--   `Refused`, `RefusedPaths`;
-- - beside them: `LogicLemmas`, `FrameLemmas`, `FullLemmas`, `RunLemmas`.
--
-- What a change touches:
-- - A kind of entry: a row in `MayCome` and in each function over entries that it concerns
--   (`frames`, `clock`, `log_of`, `sends_of`, `was_done`, `slot_after`, `stretch`, `alone`, `safe`,
--   `spoiled`, `allowed`, `is_plain`, `is_apart`, `is_aside`); in `known`, `holds`, `asked`,
--   `submitted-there`, `sent-same`, `landed-sent`, `sectors-there`, `kept`, `read-law`; above, in
--   `leaves` and `own` (`aoe_sim_hosts`), `says-apart` (`aoe_sim_shelves`), `frames-grow`,
--   `entry-keeps`, `grows-aside` (`aoe_world`), `entry_words`, `frames_within` and `one`
--   (`aoe_transcript`). One that says nothing of hosts and sectors copies the rows of `Lost`.
-- - An outcome or answer: `SaysOf`, `says-passes`, `by-op` of `ToldLemmas`, a clause of `kept`.
-- - An effect on a sector: `Act`, a lemma in `SectorLemmas`, `by-act`.
-- - A fact of a sector: a field of `Sector` and all of `SectorLemmas`.
-- - An operation of a host: `asked-as`, `ata-by`. An ATA answer: `deed`. A codec: `RequestLemmas`,
--   `ReplyLemmas`.
pub mod LogicLemmas
pub mod FrameLemmas
mod RunLemmas
pub mod FullLemmas
mod replies
mod hosts
mod sectors
mod reads
mod worked
