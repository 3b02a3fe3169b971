-- What a request asks of the target that hears it, and what the response tells of what the target did.
use Rattle.std.specs.Prelude.{ℕ, ◌≡◌, ◌≢◌, ◌+◌, ◌/◌, ◌%◌, ◌<◌, List, length, drop, IfSome, slice_range}
use Rattle.aoe_ata.specs.declared.decision.AtaAnswer.{AtaAnswer}
use Rattle.aoe_ata.specs.declared.decision.AtaAnswer.TheVariants.{Abort, Give, Page, Put, Sync}
use Rattle.aoe_ata.specs.Decision.{within}
use Rattle.aoe_frame.specs.declared.header.Header.{Header}
use Rattle.aoe_initiator.specs.declared.op.Op.{Op}
use Rattle.aoe_initiator.specs.declared.op.Op.TheVariants.{Read, Write, Flush, Identify}
use Rattle.aoe_initiator.specs.declared.response.Answer.{Answer}
use Rattle.aoe_initiator.specs.declared.response.Answer.TheVariants.{Data, Written, Flushed}
use Rattle.aoe_initiator.specs.Op.{span_of}
use Rattle.aoe_target.specs.declared.heard.Effect.{Effect}
use Rattle.aoe_target.specs.declared.heard.Effect.TheVariants.{None as NoEffect, Wrote, Synced}
use Rattle.aoe_target.specs.declared.station.Station.{Station}
use Rattle.aoe_target.specs.Device.{State}
use Rattle.aoe_target.specs.Reply.{reply_port}
use Rattle.aoe_target.specs.Sectors.{Tells}

-- the answer of a device of so many sectors to an ATA request, before it is called
abbrev pub asked_for : ℕ → Op → AtaAnswer
asked_for total (Read span) = within total span (Give span)
asked_for total (Write at bytes) = within total (span_of (Write at bytes)) (Put (span_of (Write at bytes)))
asked_for total Flush = Sync
asked_for total Identify = Page
asked_for total op = Abort

-- a read or a write has sectors, and a write whole ones
abbrev pub HasSectors : Op → Type 0
HasSectors (Read span) = span.count ≢ 0
HasSectors (Write at bytes) = (length bytes / 512 ≢ 0) × (length bytes % 512 ≡ 0)
HasSectors op = Unit {0}

-- a station has an address and a number that fit their places in a reply
pub record CanReply (station : Station) (h : Header) : Type 0 where
  pub port : length (reply_port station h).0 ≡ 6
  pub major : station.id.major < 65536

-- what a response tells is what the target did: a write stored its data in the sectors that were asked for, a flush synced the store, and
-- the sectors of a read are as they are known
abbrev pub TellsTruly : Op → State → Effect → List ℕ → Answer → Type 0
TellsTruly (Write at bytes) k e reply Written = e ≡ Wrote (span_of (Write at bytes))
TellsTruly Flush k e reply Flushed = e ≡ Synced
TellsTruly (Read span) k e reply (Data len) = (e ≡ NoEffect) × IfSome k.sectors (Tells span (slice_range (drop 24 reply) 12 (12 + len)))
TellsTruly op k e reply a = Unit {0}
