-- How the commands of a host ended in a history, and which of them wrote a sector.
use Rattle.std.specs.Prelude.{ℕ, ◌≡◌, ◌≤◌, ◌<◌, Bool, true, false, ◌&&◌, ◌||◌, List, [], ◌∷◌, ◌++◌, Some, None, is_some}
use Rattle.arrayvec.specs.ArrayVec.{ArrayVec}
use Rattle.aoe_initiator.specs.declared.outcome.Outcome.{Outcome}
use Rattle.aoe_initiator.specs.declared.outcome.Outcome.TheVariants.{Written}
use Rattle.aoe_history.specs.declared.entry.Entry.{Entry}
use Rattle.aoe_history.specs.declared.entry.Entry.TheVariants.{Arrived, Done}
use Rattle.aoe_history.specs.Commands.{is_of, submission, was_sent, writes}
use Rattle.aoe_history.specs.Frames.{bytes_of}
use Rattle.aoe_history.specs.Reading.{allowed}
use Rattle.aoe_history.specs.Setup.{is_called, is_slot, HostSetup, SlotSetup}
use Rattle.aoe_history.specs.Slots.{breaks, verdict_after}

-- a command was acknowledged as a write
abbrev pub was_acknowledged : HostSetup → List Entry → ℕ → Bool
was_acknowledged host [] c = false
was_acknowledged host (Done name ticket Written ∷ h) c = is_of host c name ticket || was_acknowledged host h c
was_acknowledged host (_ ∷ h) c = was_acknowledged host h c

-- in these later entries a fault of the slot left the sector in doubt: a failed write, or a loss of power in one
abbrev pub has_fault : SlotSetup → List Entry → List Entry → ℕ → Bool
has_fault slot [] h sector = false
has_fault slot (Arrived dev frame fate ∷ later) h sector =
    (is_slot slot dev && breaks (verdict_after slot (later ++ h) (bytes_of (later ++ h) frame)) fate sector) || has_fault slot later h sector
has_fault slot (_ ∷ later) h sector = has_fault slot later h sector

-- a command got its outcome there, behind what happened earlier
pub record HasEnded (host : HostSetup) (h : List Entry) (c : ℕ) (outcome : Outcome) : Type 0 where
  pub later : List Entry
  pub name : ArrayVec ℕ
  pub earlier : List Entry
  pub order : h ≡ later ++ Done name c outcome ∷ earlier
  pub own : is_called host name ≡ true

-- no fault left the sector in doubt since then
abbrev pub IsWholeSince : {host : HostSetup} {h : List Entry} {c : ℕ} {outcome : Outcome} → SlotSetup → ℕ → HasEnded host h c outcome → Type 0
IsWholeSince {c = c} {outcome = outcome} slot sector x = has_fault slot x.later (Done x.name c outcome ∷ x.earlier) sector ≡ false

-- a sector isn't in doubt: since a fault, or a crash that no flush protected it from, a write of it was acknowledged
abbrev pub is_sure : HostSetup → SlotSetup → List Entry → ℕ → Bool
is_sure host slot h sector = is_some (allowed host slot h sector)

-- a command is a write of the sector, and was acknowledged
pub record IsAcknowledged (host : HostSetup) (slot : SlotSetup) (h : List Entry) (sector c : ℕ) : Type 0 where
  pub value : List ℕ
  pub writes_it : writes slot (submission host h c) sector ≡ Some value
  pub acknowledged : was_acknowledged host h c ≡ true

-- a command that was submitted before this one, and is none earlier than that one, gave the sector this value
pub record IsWriteSince (host : HostSetup) (slot : SlotSetup) (h : List Entry) (sector since before : ℕ) (value : List ℕ) : Type 0 where
  pub ticket : ℕ
  pub since_it : since ≤ ticket
  pub before_it : ticket < before
  pub writes_it : writes slot (submission host h ticket) sector ≡ Some value

-- no write of the sector that was submitted behind this command was sent
abbrev pub IsLastWriteBefore : HostSetup → SlotSetup → List Entry → ℕ → ℕ → Type 0
IsLastWriteBefore host slot h sector c =
    (later : ℕ) → c < later → was_sent host h later ≡ true → writes slot (submission host h later) sector ≡ None
