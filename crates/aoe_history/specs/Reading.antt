-- The read law: what a host reads of a sector that only it wrote.
use Rattle.std.specs.Prelude.{ℕ, ◌≡◌, ◌⊎◌, Bool, true, false, not, ◌&&◌, ◌||◌, List, [], ◌∷◌, Option, Some, None, if◌then◌else◌, Contains}
use Rattle.aoe_base.specs.declared.sectors.Span.{Span}
use Rattle.aoe_base.specs.Addresses.{holds}
use Rattle.aoe_frame.specs.Header.{fields}
use Rattle.aoe_initiator.specs.declared.op.Op.TheVariants as op
use Rattle.aoe_initiator.specs.declared.outcome.Outcome.TheVariants.{Read, Written, Flushed}
use Rattle.aoe_target.specs.Sectors.{in_span, value_in}
use Rattle.aoe_history.specs.declared.entry.Entry.{Entry}
use Rattle.aoe_history.specs.declared.entry.Entry.TheVariants.{Sent, Arrived, Done, Crashed}
use Rattle.aoe_history.specs.Commands.{submission, was_sent, writes, Submission}
use Rattle.aoe_history.specs.Frames.{bytes_of}
use Rattle.aoe_history.specs.Setup.{host_called, is_called, is_slot, HostSetup, Setup, SlotSetup}
use Rattle.aoe_history.specs.Slots.{breaks, marked_after, stores, verdict_after, zero_sector}

-- a frame is the host's, by its source
abbrev pub is_from : HostSetup → List ℕ → Bool
is_from host f = holds host.ports (fields f).src

-- only frames of the host ever stored data in the sector, or left it in doubt
abbrev pub alone : HostSetup → SlotSetup → List Entry → ℕ → Bool
alone host slot [] s = true
alone host slot (Arrived dev frame fate ∷ h) s =
    if is_slot slot dev && (stores fate s || breaks (verdict_after slot h (bytes_of h frame)) fate s)
    then is_from host (bytes_of h frame) && alone host slot h s
    else alone host slot h s
alone host slot (_ ∷ h) s = alone host slot h s

-- where no value is written, it is as before
abbrev pub unless_written : Option (List ℕ) → Bool → Bool
unless_written (Some v) before = false
unless_written None before = before

-- the entry is the first frame of the host's command
abbrev pub is_first : Bool → Bool → Bool
is_first own again = own && not again

-- the command is one at the slot
abbrev pub is_at : SlotSetup → Option Submission → Bool
is_at slot None = false
is_at slot (Some x) = is_slot slot x.dev

-- a flush of the host was acknowledged after its last write of the sector began
abbrev pub safe : HostSetup → SlotSetup → List Entry → ℕ → Bool
safe host slot [] s = true
safe host slot (Sent name ticket number bytes ∷ h) s =
    let before = safe host slot h s in
    if is_first (is_called host name) (was_sent host h ticket) then unless_written (writes slot (submission host h ticket) s) before else before
safe host slot (Done name ticket Flushed ∷ h) s =
    let before = safe host slot h s in
    if is_called host name && is_at slot (submission host h ticket) then true else before
safe host slot (_ ∷ h) s = safe host slot h s

-- a crash may change the sector, and the host has no flush after its last write of it
abbrev pub loses : HostSetup → SlotSetup → List Entry → ℕ → Bool
loses host slot h s = not (safe host slot h s) && marked_after slot h s

-- the sector was left in doubt by a fault or a crash since the host's last write of it began
abbrev pub spoiled : HostSetup → SlotSetup → List Entry → ℕ → Bool
spoiled host slot [] s = false
spoiled host slot (Sent name ticket number bytes ∷ h) s =
    let before = spoiled host slot h s in
    if is_first (is_called host name) (was_sent host h ticket) then unless_written (writes slot (submission host h ticket) s) before else before
spoiled host slot (Arrived dev frame fate ∷ h) s =
    let before = spoiled host slot h s in
    if is_slot slot dev then breaks (verdict_after slot h (bytes_of h frame)) fate s || before else before
spoiled host slot (Crashed dev lists how ∷ h) s =
    let before = spoiled host slot h s in
    if is_slot slot dev then loses host slot h s || before else before
spoiled host slot (_ ∷ h) s = spoiled host slot h s

-- a value more, or any value as before
abbrev pub also : Option (List ℕ) → Option (List (List ℕ)) → Option (List (List ℕ))
also (Some v) (Some vs) = Some (v ∷ vs)
also (Some v) None = None
also None before = before

-- this value alone, where one is written
abbrev pub only : Option (List ℕ) → Option (List (List ℕ)) → Option (List (List ℕ))
only (Some v) before = Some (v ∷ [])
only None before = before

-- the values that the host may read of the sector; None is any value
abbrev pub allowed : HostSetup → SlotSetup → List Entry → ℕ → Option (List (List ℕ))
allowed host slot [] s = Some (zero_sector ∷ [])
allowed host slot (Sent name ticket number bytes ∷ h) s =
    let before = allowed host slot h s in
    if is_first (is_called host name) (was_sent host h ticket) then also (writes slot (submission host h ticket) s) before else before
allowed host slot (Done name ticket Written ∷ h) s =
    let before = allowed host slot h s in
    if is_called host name && not (spoiled host slot h s) then only (writes slot (submission host h ticket) s) before else before
allowed host slot (Arrived dev frame fate ∷ h) s =
    let before = allowed host slot h s in
    if is_slot slot dev && breaks (verdict_after slot h (bytes_of h frame)) fate s then None else before
allowed host slot (Crashed dev lists how ∷ h) s =
    let before = allowed host slot h s in
    if is_slot slot dev && loses host slot h s then None else before
allowed host slot (_ ∷ h) s = allowed host slot h s

-- the value is one of these
abbrev pub IsIn : List ℕ → List (List ℕ) → Type 0
IsIn v [] = ⊥
IsIn v (w ∷ ws) = (v ≡ w) ⊎ IsIn v ws

-- a value, or an unknown one, is allowed
abbrev pub IsAllowed : Option (List ℕ) → Option (List (List ℕ)) → Type 0
IsAllowed v None = Unit {0}
IsAllowed None (Some vs) = ⊥
IsAllowed (Some v) (Some vs) = IsIn v vs

-- a command that read these bytes: each sector in which the host is alone has a value that it may read
abbrev pub ReadsAllowed : HostSetup → SlotSetup → List Entry → Option Submission → List ℕ → Type 0
ReadsAllowed host slot h None bytes = Unit {0}
ReadsAllowed host slot h (Some x) bytes =
    (span : Span) (s : ℕ) → x.op ≡ op.Read span → is_slot slot x.dev ≡ true → in_span span s ≡ true → alone host slot h s ≡ true
    → IsAllowed (Some (value_in span bytes s)) (allowed host slot h s)

abbrev pub KeepsReadLaw : Setup → List Entry → Entry → Type 0
KeepsReadLaw setup h (Done name ticket (Read bytes)) =
    (host : HostSetup) (slot : SlotSetup) → host_called setup name ≡ Some host → Contains setup.slots slot
    → ReadsAllowed host slot h (submission host h ticket) bytes
KeepsReadLaw setup h _ = Unit {0}

-- each read of a history
abbrev pub HasReadLaw : Setup → List Entry → Type 0
HasReadLaw setup [] = Unit {0}
HasReadLaw setup (e ∷ h) = KeepsReadLaw setup h e × HasReadLaw setup h
