-- Which entry may come next, by the shelf law, the host law and the network.
use Rattle.std.specs.Prelude.{ℕ, ◌≡◌, Bool, false, List, [], ◌∷◌, Some, IsSomeAnd}
use Rattle.arrayvec.specs.ArrayVec.{ArrayVec}
use Rattle.aoe_base.specs.declared.address.TargetId.{TargetId}
use Rattle.aoe_frame.specs.Header.{fields}
use Rattle.aoe_initiator.specs.declared.op.Op.{Op}
use Rattle.aoe_history.specs.declared.entry.Entry.{Entry}
use Rattle.aoe_history.specs.declared.entry.Entry.TheVariants.{Submitted, Refused, Sent, Injected, Arrived, Took, Done, Ticked, Lost, Armed, Crashed}
use Rattle.aoe_history.specs.declared.entry.Fate.{Fate}
use Rattle.aoe_history.specs.declared.entry.Fate.TheVariants.{Replied}
use Rattle.aoe_history.specs.Frames.{arriving, next_number}
use Rattle.aoe_history.specs.HostLaw.{IsDone, IsRefused, IsSent, IsSubmitted, IsTaken}
use Rattle.aoe_history.specs.Setup.{host_called, is_port, slot_of, HostSetup, IsSetup, Setup, SlotSetup}
use Rattle.aoe_history.specs.ShelfLaw.{KeepsArming, KeepsLists, KeepsShelfLaw}

-- a reply is the next frame
abbrev pub IsNumbered : ℕ → Fate → Type 0
IsNumbered next (Replied effect number bytes) = number ≡ next
IsNumbered next fate = Unit {0}

-- a frame that can be handed over comes to a slot
pub record IsArrival (s : Setup) (slot : SlotSetup) (h : List Entry) (frame : ℕ) (fate : Fate) : Type 0 where
  pub bytes : List ℕ
  pub fresh : arriving s.life h frame ≡ Some bytes
  pub law : KeepsShelfLaw slot h bytes fate
  pub arming : KeepsArming slot h bytes fate
  pub numbered : IsNumbered (next_number h) fate

-- a frame that can be handed over comes to a host
pub record IsTaking (s : Setup) (host : HostSetup) (h : List Entry) (frame : ℕ) (stale : Bool) : Type 0 where
  pub bytes : List ℕ
  pub fresh : arriving s.life h frame ≡ Some bytes
  pub law : IsTaken s host h bytes stale

-- a frame that comes from elsewhere has the address of no station as its source
pub record IsForeign (s : Setup) (h : List Entry) (number : ℕ) (bytes : List ℕ) : Type 0 where
  pub source : is_port s (fields bytes).src ≡ false
  pub number_is : number ≡ next_number h

abbrev pub MayCome : Setup → List Entry → Entry → Type 0
MayCome s h (Submitted name ticket dev op) = IsSomeAnd (host_called s name) (λ host. IsSubmitted s host h ticket dev op)
MayCome s h (Refused name refusal) = IsSomeAnd (host_called s name) (λ host. (dev : TargetId) × (op : Op) × IsRefused s host h dev op refusal)
MayCome s h (Sent name ticket number bytes) = IsSomeAnd (host_called s name) (λ host. IsSent s host h ticket number bytes)
MayCome s h (Injected number bytes) = IsForeign s h number bytes
MayCome s h (Arrived dev frame fate) = IsSomeAnd (slot_of s dev) (λ slot. IsArrival s slot h frame fate)
MayCome s h (Took name frame stale) = IsSomeAnd (host_called s name) (λ host. IsTaking s host h frame stale)
MayCome s h (Done name ticket outcome) = IsSomeAnd (host_called s name) (λ host. IsDone s host h ticket outcome)
MayCome s h (Ticked ms) = Unit {0}
MayCome s h (Lost frame) = Unit {0}
MayCome s h (Armed dev which k mode) = Unit {0}
MayCome s h (Crashed dev lists how) = IsSomeAnd (slot_of s dev) (λ slot. KeepsLists slot h lists)

-- each entry could come after those before it
abbrev pub IsLawful : Setup → List Entry → Type 0
IsLawful s [] = Unit {0}
IsLawful s (e ∷ h) = MayCome s h e × IsLawful s h

-- a lawful history, and one of its hosts
pub record HasHost (s : Setup) (host : HostSetup) (h : List Entry) : Type 0 where
  pub setup : IsSetup s
  pub name : ArrayVec ℕ
  pub called : host_called s name ≡ Some host
  pub lawful : IsLawful s h
