-- What becomes of an input: its first bytes are read before anything is sent.
use Rattle.std.specs.Prelude.{ℕ, ◌≡◌, Bool, true, false, List, [], Option, Some, Result, Ok, Err}
use Rattle.aoe_base.specs.declared.address.TargetId.{TargetId}
use Rattle.aoe_tools.specs.Runs.{after, before, Told as ToldAll}
use Rattle.aoe_tools.specs.declared.end.ToolRefusal.{ToolRefusal}
use Rattle.aoe_copy.specs.declared.end.CopyRefusal.{CopyRefusal}
use Rattle.aoe_copy.specs.declared.end.CopyRefusal.TheVariants as copy
use Rattle.aoe_copy.specs.declared.input.Input.{Input}
use Rattle.aoe_copy.specs.declared.input.Input.TheVariants as input
use Rattle.aoe_copy.specs.declared.terms.Terms.{Terms}
use Rattle.aoe_copy.specs.Again.{PutsAgain}
use Rattle.aoe_copy.specs.Input.{Reads}
use Rattle.aoe_copy.specs.PutRuns.{Copies}

-- nothing is sent, and nothing more is read
pub record IsUnsent (x : ToldAll) (left left' : Option (List ℕ)) : Type 0 where
  pub link : after x ≡ before x
  pub clock : x.answers' ≡ x.answers
  pub source : left' ≡ left

-- what was read of an input
abbrev pub front_of : Input → List ℕ
front_of (input.Sectors bytes) = bytes
front_of (input.Longer front) = front

-- an input is written, and read again and compared where that is asked for
abbrev pub PutsRead : Result Input CopyRefusal → Result Unit CopyRefusal → Terms → TargetId → ℕ → Bool → Bool → ToldAll → Option (List ℕ) → Option (List ℕ)
    → Type 0
PutsRead (Err e) result t id at flush verify x left left' = (result ≡ Err e) × IsUnsent x left left'
PutsRead (Ok i) result t id at flush true x left left' = PutsAgain result t id at flush (front_of i) x left left'
PutsRead (Ok i) result t id at flush false x left left' = Copies result t id at flush (front_of i) x left left'

-- the input is read up to its end, or to more than is read before anything is sent, and then written
abbrev pub Puts : Result Unit CopyRefusal → Terms → TargetId → ℕ → Bool → Bool → ToldAll → Option (List ℕ) → Option (List ℕ) → Type 0
Puts result t id at flush verify x left left' =
    (read : Result Input CopyRefusal) × (mid : Option (List ℕ)) × Reads read left mid × PutsRead read result t id at flush verify x mid left'

-- a copy ended as a tool ends
abbrev pub IsToolEnd : Result Unit CopyRefusal → Result Unit ToolRefusal → Type 0
IsToolEnd (Ok done) result = result ≡ Ok record {}
IsToolEnd (Err (copy.Tool e)) result = result ≡ Err e
IsToolEnd (Err e) result = ⊥

-- the device was flushed (ATA, FLUSH CACHE): a copy of nothing
abbrev pub Flushes : Result Unit ToolRefusal → Terms → TargetId → ToldAll → Type 0
Flushes result t id x = (copied : Result Unit CopyRefusal) × (left : Option (List ℕ)) × Copies copied t id 0 true [] x (Some []) left × IsToolEnd copied result
