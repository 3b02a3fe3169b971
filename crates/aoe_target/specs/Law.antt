-- The shelf law: what may become of a frame that a target is handed, and what it leaves.
use Rattle.std.specs.Prelude.{ℕ, ◌*◌, ◌≡◌, List, [], ◌∷◌, drop, length, Option, Some, None, IfSome}
use Rattle.std.specs.Option.{option_map}
use Rattle.aoe_base.specs.declared.sectors.Span.{Span}
use Rattle.aoe_frame.specs.Header.{fields}
use Rattle.aoe_frame.specs.declared.header.Header.{Header}
use Rattle.aoe_base.specs.declared.refusal.AoeError.TheVariants.{DeviceUnavailable}
use Rattle.aoe_ata.specs.Decision.{written}
use Rattle.aoe_ata.specs.declared.args.AtaArgs.{AtaArgs}
use Rattle.aoe_ata.specs.declared.decision.AtaAnswer.{AtaAnswer}
use Rattle.aoe_ata.specs.declared.decision.AtaAnswer.TheVariants.{Abort, NotFound, Page, Mode, Give, Put, Verify, Sync}
use Rattle.aoe_ata.specs.declared.reply.AtaOutcome.TheVariants.{Done, Active, Aborted, NotFound as OutOfRange, Uncorrectable}
use Rattle.aoe_lists.specs.Settings.{Settings}
use Rattle.aoe_lists.specs.Step.{Step}
use Rattle.aoe_lists.specs.Step as step
use Rattle.aoe_target.specs.Device.{Device, State, Holds}
use Rattle.aoe_target.specs.declared.station.Station.{Station}
use Rattle.aoe_target.specs.declared.heard.Effect.{Effect}
use Rattle.aoe_target.specs.declared.heard.Effect.TheVariants as effect
use Rattle.aoe_target.specs.declared.verdict.ListCommand.{ListCommand}
use Rattle.aoe_target.specs.declared.verdict.Verdict.{Verdict}
use Rattle.aoe_target.specs.declared.verdict.Verdict.TheVariants.{Ignored, Silent, Refused, Lists, Ata}
use Rattle.aoe_target.specs.Verdict.{verdict, list_step}
use Rattle.aoe_target.specs.Reply.{spelled, repeated, step_reply, ata_reply, data_reply, data_of, identity}
use Rattle.aoe_target.specs.Sectors.{Sectors, Tells, puts, spoils, learns, settles}

-- what becomes of a frame: no reply, since it isn't for the target or its source isn't answered; the power was lost
-- in the call; or a reply with these bytes
pub data Fate : Type 0 where
  ignored : Fate
  silent : Fate
  cut : Fate
  replied : Effect → List ℕ → Fate

-- a reply of which this is true, or a loss of power
abbrev pub RepliesOrCut : (Effect → List ℕ → Type 0) → Fate → Type 0
RepliesOrCut P ignored = ⊥
RepliesOrCut P silent = ⊥
RepliesOrCut P cut = Unit {0}
RepliesOrCut P (replied e reply) = P e reply

-- a read: the sectors, of which each that is known is as it is known, or UNC
abbrev pub Gives : Station → Option Sectors → Header → AtaArgs → Span → Effect → List ℕ → Type 0
Gives station k h args span effect.None reply =
    (length (data_of span reply) ≡ 512 * span.count) × (reply ≡ data_reply station h args (data_of span reply))
    × IfSome k (Tells span (data_of span reply))
Gives station k h args span effect.ReadFault reply = reply ≡ ata_reply station h args Uncorrectable
Gives station k h args span e reply = ⊥

-- a read whose data isn't given
abbrev pub Verifies : Station → Header → AtaArgs → Effect → List ℕ → Type 0
Verifies station h args effect.None reply = reply ≡ ata_reply station h args Done
Verifies station h args effect.ReadFault reply = reply ≡ ata_reply station h args Uncorrectable
Verifies station h args e reply = ⊥

-- a write: done, or ABRT
abbrev pub AnswersWrite : Station → Header → AtaArgs → Span → Effect → List ℕ → Type 0
AnswersWrite station h args span (effect.Wrote s) reply = (s ≡ span) × (reply ≡ ata_reply station h args Done)
AnswersWrite station h args span (effect.WriteFault s) reply = (s ≡ span) × (reply ≡ ata_reply station h args Aborted)
AnswersWrite station h args span e reply = ⊥

-- a sync: done, or ABRT
abbrev pub AnswersSync : Station → Header → AtaArgs → Effect → List ℕ → Type 0
AnswersSync station h args effect.Synced reply = reply ≡ ata_reply station h args Done
AnswersSync station h args effect.SyncFault reply = reply ≡ ata_reply station h args Aborted
AnswersSync station h args e reply = ⊥

-- what the device is told to do
abbrev pub AllowsAta : Station → Option Sectors → Header → AtaArgs → AtaAnswer → Fate → Type 0
AllowsAta station k h args Abort fate = fate ≡ replied effect.None (ata_reply station h args Aborted)
AllowsAta station k h args NotFound fate = fate ≡ replied effect.None (ata_reply station h args OutOfRange)
AllowsAta station k h args Page fate = fate ≡ replied effect.None (data_reply station h args (identity station))
AllowsAta station k h args Mode fate = fate ≡ replied effect.None (ata_reply station h args Active)
AllowsAta station k h args (Give span) fate = RepliesOrCut (Gives station k h args span) fate
AllowsAta station k h args (Verify span) fate = RepliesOrCut (Verifies station h args) fate
AllowsAta station k h args (Put span) fate = RepliesOrCut (AnswersWrite station h args span) fate
AllowsAta station k h args Sync fate = RepliesOrCut (AnswersSync station h args) fate

-- a change of the lists: done, or the error "device unavailable"
abbrev pub Edits : Station → List ℕ → List ℕ → Effect → List ℕ → Type 0
Edits station f args effect.Edited reply = reply ≡ spelled station (fields f) None args
Edits station f args effect.EditFault reply = reply ≡ spelled station (fields f) (Some DeviceUnavailable) (repeated f)
Edits station f args e reply = ⊥

-- the written answer to a request that reads or changes the lists
abbrev pub AllowsStep : Station → List ℕ → Step → Fate → Type 0
AllowsStep station f step.Silent fate = fate ≡ silent
AllowsStep station f (step.Reply error args) fate = fate ≡ replied effect.None (step_reply station f error args)
AllowsStep station f (step.Change next args) fate = RepliesOrCut (Edits station f args) fate

-- the step of a list request that came in a frame
abbrev pub step_of : Station → Settings → List ℕ → ListCommand → Step
step_of station lists f command = list_step station lists (fields f).src (drop 24 f) command

-- what may become of a frame
abbrev pub Allows : Station → State → List ℕ → Verdict → Fate → Type 0
Allows station k f Ignored fate = fate ≡ ignored
Allows station k f Silent fate = fate ≡ silent
Allows station k f (Refused error) fate = fate ≡ replied effect.None (spelled station (fields f) (Some error) (repeated f))
Allows station k f (Lists command) fate = AllowsStep station f (step_of station k.lists f command) fate
Allows station k f (Ata d) fate = AllowsAta station k.sectors (fields f) d.args d.answer fate

-- what a reply to an ATA command leaves of the sectors
abbrev pub after_read : AtaAnswer → List ℕ → Sectors → Sectors
after_read (Give span) reply k = learns span (data_of span reply) k
after_read answer reply k = k

abbrev pub after_effect : List ℕ → AtaAnswer → Effect → List ℕ → Sectors → Sectors
after_effect f answer effect.None reply k = after_read answer reply k
after_effect f answer (effect.Wrote span) reply k = puts span (written (drop 24 f) span) k
after_effect f answer (effect.WriteFault span) reply k = spoils span k
after_effect f answer effect.Synced reply k = settles k
after_effect f answer e reply k = k

-- what a loss of power in the call leaves: of a write what a failed one leaves
abbrev pub after_cut : AtaAnswer → Sectors → Sectors
after_cut (Put span) k = spoils span k
after_cut answer k = k

abbrev pub after_ata : List ℕ → AtaAnswer → Fate → Sectors → Sectors
after_ata f answer (replied e reply) k = after_effect f answer e reply k
after_ata f answer cut k = after_cut answer k
after_ata f answer fate k = k

-- what a change of the lists leaves: the next lists; or, where the keep failed or the power was lost, the chance that a
-- crash leaves them
abbrev pub after_edit : Settings → Effect → State → State
after_edit next effect.Edited k = record k { lists = next; offers = [] }
after_edit next effect.EditFault k = record k { offers = next ∷ k.offers }
after_edit next e k = k

abbrev pub after_change : Settings → Fate → State → State
after_change next (replied e reply) k = after_edit next e k
after_change next cut k = record k { offers = next ∷ k.offers }
after_change next fate k = k

abbrev pub after_step : Step → Fate → State → State
after_step (step.Change next args) fate k = after_change next fate k
after_step s fate k = k

-- what a frame leaves
abbrev pub after : Station → List ℕ → Verdict → Fate → State → State
after station f (Ata d) fate k = record k { sectors = option_map (after_ata f d.answer fate) k.sectors }
after station f (Lists command) fate k = after_step (step_of station k.lists f command) fate k
after station f v fate k = k

-- One step of a device of which this much is known: this may become of the frame, and the device is then as the frame leaves it.
pub record IsStep (station : Station) (k : State) (f : List ℕ) (fate : Fate) (d : Device) : Type 0 where
  pub allowed : Allows station k f (verdict station k.lists f) fate
  pub holds : Holds d (after station f (verdict station k.lists f) fate k)
