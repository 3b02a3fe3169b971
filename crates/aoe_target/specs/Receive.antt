-- What a target that is handed a frame answers, calls and leaves.
use Rattle.std.specs.Prelude.{ℕ, ◌*◌, ◌≡◌, Bool, true, false, List, [], ◌∷◌, drop, Option}
use Rattle.std.specs.Option.{option_map}
use Rattle.aoe_disk.specs.State.{Contents, DiskState, DeviceCall, BothTell}
use Rattle.aoe_disk.specs.State as device
use Rattle.aoe_disk.specs.Calls.{IsRun}
use Rattle.aoe_keep.specs.Found.{AlwaysFinds, FindsOffered}
use Rattle.aoe_keep.specs.Keep.{KeepsOthers}
use Rattle.aoe_store.specs.Under.{FreesUnder, ReadsUnder, SpendsUnder, Under}
use Rattle.aoe_ata.specs.Decision.{written}
use Rattle.aoe_ata.specs.declared.decision.AtaAnswer.{AtaAnswer}
use Rattle.aoe_ata.specs.declared.decision.AtaAnswer.TheVariants.{Give, Put, Verify, Sync}
use Rattle.aoe_lists.specs.Settings.{Settings}
use Rattle.aoe_lists.specs.Step.{Step}
use Rattle.aoe_lists.specs.Step as step
use Rattle.aoe_target.specs.declared.heard.Effect.{Effect}
use Rattle.aoe_target.specs.declared.heard.Effect.TheVariants as effect
use Rattle.aoe_target.specs.declared.heard.Heard.{Heard}
use Rattle.aoe_target.specs.declared.heard.Heard.TheVariants as heard
use Rattle.aoe_target.specs.declared.verdict.Verdict.{Verdict}
use Rattle.aoe_target.specs.declared.verdict.Verdict.TheVariants.{Ata, Lists}
use Rattle.aoe_target.specs.declared.station.Station.{Station}
use Rattle.aoe_target.specs.Sectors.{Agrees, sectors_of}
use Rattle.aoe_target.specs.Law.{Fate, ignored, silent, replied, after_ata, step_of}

-- what became of a frame, with the bytes of the reply
abbrev pub fate_of : Heard → List ℕ → Fate
fate_of heard.Ignored out = ignored
fate_of heard.Silent out = silent
fate_of (heard.Replied e) out = replied e out

-- the store is called, once
abbrev pub calls_for : AtaAnswer → Bool
calls_for (Give span) = true
calls_for (Put span) = true
calls_for (Verify span) = true
calls_for Sync = true
calls_for answer = false

abbrev pub calls_store : Verdict → Bool
calls_store (Ata d) = calls_for d.answer
calls_store v = false

-- the device call that an answer to an ATA command needs: of exactly the sectors that the command names. A read whose data isn't
-- given is a read of them all
abbrev pub ata_calls : List ℕ → AtaAnswer → List DeviceCall
ata_calls f (Give span) = device.Read span.at (512 * span.count) ∷ []
ata_calls f (Verify span) = device.Read span.at (512 * span.count) ∷ []
ata_calls f (Put span) = device.Write span.at (written (drop 24 f) span) ∷ []
ata_calls f Sync = device.Sync ∷ []
ata_calls f answer = []

-- the calls of the store that a verdict on a frame needs
abbrev pub store_calls : List ℕ → Verdict → List DeviceCall
store_calls f (Ata d) = ata_calls f d.answer
store_calls f v = []

-- what an answer to an ATA command does to the disk of a store that writes later
abbrev pub TurnsUnder : AtaAnswer → Bool → Option Contents → Option Under → Option Under → Type 0
TurnsUnder (Give span) failed shown old new = BothTell (ReadsUnder failed) old new
TurnsUnder (Verify span) failed shown old new = BothTell (ReadsUnder failed) old new
TurnsUnder (Put span) failed shown old new = BothTell (SpendsUnder span.count failed) old new
TurnsUnder Sync failed shown old new = BothTell (FreesUnder failed shown) old new
TurnsUnder answer failed shown old new = new ≡ old

-- and what a verdict on a frame does
abbrev pub MovesUnder : Verdict → Bool → Option Contents → Option Under → Option Under → Type 0
MovesUnder (Ata d) failed shown old new = TurnsUnder d.answer failed shown old new
MovesUnder v failed shown old new = new ≡ old

-- the lists change
abbrev pub is_change : Step → Bool
is_change (step.Change next args) = true
is_change s = false

-- the lists of the keep are replaced, once
abbrev pub edits : Station → Settings → List ℕ → Verdict → Bool
edits station lists f (Lists command) = is_change (step_of station lists f command)
edits station lists f v = false

-- the effects that a failed call of the store has
abbrev pub is_fault : Effect → Bool
is_fault (effect.WriteFault span) = true
is_fault effect.ReadFault = true
is_fault effect.SyncFault = true
is_fault e = false

abbrev pub is_faulty : Heard → Bool
is_faulty (heard.Replied e) = is_fault e
is_faulty h = false

-- the effect that a failed replacement of the lists has
abbrev pub is_edit_fault : Effect → Bool
is_edit_fault effect.EditFault = true
is_edit_fault e = false

abbrev pub is_unkept : Heard → Bool
is_unkept (heard.Replied e) = is_edit_fault e
is_unkept h = false

-- what a reply to an ATA command leaves of a store's contents, where they are told
abbrev pub Leaves : List ℕ → AtaAnswer → Effect → List ℕ → Option Contents → Option Contents → Type 0
Leaves f answer e reply old new =
    BothTell Agrees (option_map sectors_of new) (option_map (after_ata f answer (replied e reply)) (option_map sectors_of old))

-- a replacement of the lists of a keep: six device calls, or fewer of which the last failed, that leave all but the keep's sectors alone
pub record Replaces (failed : Bool) (old new : DiskState) : Type 0 where
  pub calls : IsRun 6 failed old new
  pub others : KeepsOthers old new

-- what a step of the lists leaves of a keep's lists and disk: the next lists, which every crash finds; or, where the keep failed, the
-- lists as they were, and every crash finds them, the next ones, or what a crash could find before
abbrev pub KeepsEdit : Settings → Effect → Settings → Settings → DiskState → DiskState → Type 0
KeepsEdit next effect.Edited old new before after = (new ≡ next) × AlwaysFinds after next
KeepsEdit next effect.EditFault old new before after = (new ≡ old) × FindsOffered before after old next
KeepsEdit next e old new before after = ⊥

abbrev pub KeepsChange : Settings → Heard → Settings → Settings → DiskState → DiskState → Type 0
KeepsChange next (heard.Replied e) old new before after = KeepsEdit next e old new before after
KeepsChange next h old new before after = ⊥

abbrev pub KeepsStep : Step → Heard → Settings → Settings → DiskState → DiskState → Type 0
KeepsStep (step.Change next args) h old new before after = KeepsChange next h old new before after
KeepsStep s h old new before after = (new ≡ old) × (after ≡ before)
