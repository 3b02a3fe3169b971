-- What the clients of a server read, and what of theirs outlives a crash, in a history of the host by which it is served.
use Rattle.std.specs.Prelude.{ℕ, ◌≡◌, ◌<◌, true, List, [], ◌∷◌, Some, Contains, if◌then◌else◌}
use Rattle.aoe_base.specs.declared.address.TargetId.{TargetId}
use Rattle.aoe_block.specs.Steps.{log_of as log_of_steps, outcomes, owns}
use Rattle.aoe_desk.specs.Runs.{IsRun}
use Rattle.aoe_disk.specs.declared.loss.Loss.{Loss}
use Rattle.aoe_history.specs.declared.entry.Entry.{Entry}
use Rattle.aoe_history.specs.declared.entry.Entry.TheVariants as entry
use Rattle.aoe_history.specs.Commands.{log_of, submission, writes}
use Rattle.aoe_history.specs.Lawful.{HasHost}
use Rattle.aoe_history.specs.Reading.{allowed}
use Rattle.aoe_history.specs.Setup.{is_called, is_slot, HostSetup, Setup, SlotSetup}
use Rattle.aoe_initiator.specs.declared.device.Attached.{Attached}
use Rattle.aoe_initiator.specs.declared.outcome.Done.{Done}
use Rattle.aoe_initiator.specs.declared.outcome.Outcome.TheVariants as outcome
use Rattle.aoe_lists.specs.Settings.{Settings}
use Rattle.aoe_nbd_serve.specs.Account.{AreServed, ServeStep, Setting}
use Rattle.aoe_nbd_serve.specs.Deeds.{calls_of}
use Rattle.aoe_nbd_law.specs.Outcomes.{is_sure, HasEnded, IsLastWriteBefore, IsWholeSince, IsWriteSince}

-- the outcomes of a host's commands, the latest first
abbrev pub outcomes_of : HostSetup → List Entry → List Done
outcomes_of host [] = []
outcomes_of host (entry.Done name ticket says ∷ h) =
    let earlier = outcomes_of host h in
    if is_called host name then record { ticket = record { 0 = ticket }; outcome = says } ∷ earlier else earlier
outcomes_of host (_ ∷ h) = outcomes_of host h

-- In a lawful history this host, which is attached to the one slot, did what these steps of a server say, and had the same outcomes.
pub record IsHostOf (s : Setup) (host : HostSetup) (slot : SlotSetup) (h : List Entry) (c : Setting) (steps : List ServeStep) : Type 0 where
  pub lawful : HasHost s host h
  pub there : Contains s.slots slot
  pub about : Attached
  pub attached : host.devices ≡ about ∷ []
  pub slot_is : is_slot slot about.id ≡ true
  pub are : AreServed c steps
  pub run : IsRun c.terms.total c.terms.max (calls_of (owns steps))
  pub log_is : log_of host h ≡ log_of_steps c.start steps
  pub outcomes_are : outcomes_of host h ≡ outcomes steps

-- The command `write` wrote the one value to a sector, and `reader` read the other: if the sector wasn't in doubt when the reader had its outcome,
-- what it read is the value of the write or of one that was submitted between the two.
pub record IsReadBehind (host : HostSetup) (slot : SlotSetup) (h : List Entry) (sector write reader : ℕ) (written read : List ℕ) : Type 0 where
  pub wrote : writes slot (submission host h write) sector ≡ Some written
  pub bytes : List ℕ
  pub ended : HasEnded host h reader (outcome.Read bytes)
  pub gives : is_sure host slot ended.earlier sector ≡ true → IsWriteSince host slot h sector write reader read

-- The command `write` wrote this value to a sector, and `flush` was submitted behind it and done. Until a write that was submitted behind the flush
-- is sent no crash changes what may be read of the sector; and if it wasn't in doubt at the flush it isn't now, unless a fault left it in doubt.
pub record OutlivesCrashes (host : HostSetup) (slot : SlotSetup) (h : List Entry) (sector write flush : ℕ) (written : List ℕ) : Type 0 where
  pub wrote : writes slot (submission host h write) sector ≡ Some written
  pub behind : write < flush
  pub ended : HasEnded host h flush outcome.Flushed
  pub keeps : IsLastWriteBefore host slot h sector flush → (dev : TargetId) (lists : Settings) (how : Loss)
      → allowed host slot (entry.Crashed dev lists how ∷ h) sector ≡ allowed host slot h sector
  pub sure : IsLastWriteBefore host slot h sector flush → is_sure host slot ended.earlier sector ≡ true → IsWholeSince slot sector ended
      → is_sure host slot h sector ≡ true
