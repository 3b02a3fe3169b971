-- A copy of nothing ends as a tool ends.
use Rattle.std.proofs.Common.{ℕ, ◌≡◌, List, [], ◌++◌, length, Option, Some, None, refl, ap, arith, inl, inr, true, length-append}
use Rattle.std.specs.Prelude.{◌≢◌, Result, Ok, Err}
use Rattle.std.proofs.lemmas.Option.{same_Some}
use Rattle.aoe_base.specs.declared.address.TargetId.{TargetId}
use Rattle.aoe_tools.specs.Runs.{Told as ToldAll}
use Rattle.aoe_tools.specs.declared.end.Refusal.TheVariants as refusal
use Rattle.aoe_tools.specs.declared.end.ToolRefusal.{ToolRefusal}
use Rattle.aoe_tools.specs.declared.end.ToolRefusal.TheVariants as tool
use Rattle.aoe_tools.specs.declared.lookup.Device.{Device}
use Rattle.aoe_copy.specs.declared.end.CopyRefusal.{CopyRefusal}
use Rattle.aoe_copy.specs.declared.end.CopyRefusal.TheVariants as copy
use Rattle.aoe_copy.specs.declared.terms.Terms.{Terms}
use Rattle.aoe_copy.specs.PutRuns.{Copies, CopiesAt, HasFed, PutSeen, PutSetting, Runs}

-- no byte came of an input without one
fed-none : (left : Option (List ℕ)) (used behind : List ℕ) → HasFed [] (Some []) left used behind → length behind ≡ 0
fed-none None used behind h = absurd (let no = h.gave in cc)
fed-none (Some l) used behind h =
    let is : [] ≡ h.fed ++ l = same_Some _ _ h.gave in
    omega (
      arith,
      ap (λ (x : List ℕ). length x) is,
      length-append h.fed l,
      ap (λ (x : List ℕ). length x) h.all,
      length-append used behind,
    )

abbrev pub IsTool : CopyRefusal → Type 0
IsTool e = (r : ToolRefusal) × (e ≡ copy.Tool r)

runs-tool : (e : CopyRefusal) (c : PutSetting) (seen now : PutSeen) → c.front ≡ [] → seen.left ≡ Some [] → e ≢ copy.SourceFault → Runs (Err e) c seen now
    → IsTool e
runs-tool (copy.Tool r) c seen now front left other runs = (r, refl)
runs-tool (copy.Stream offset) c seen now front left other runs =
    let fed : HasFed [] (Some []) now.left _ runs.behind = rw (front, left) at runs.seen_is.fed in
    absurd (omega (arith, fed-none now.left _ runs.behind fed, runs.ends.4))
runs-tool copy.SourceFault c seen now front left other runs = absurd (other refl)
runs-tool copy.SinkFault c seen now front left other runs = absurd runs.ends

at-tool : (found : Result Device ToolRefusal) (e : CopyRefusal) (t : Terms) (id : TargetId) (seen now : PutSeen) → seen.left ≡ Some []
    → e ≢ copy.SourceFault → CopiesAt found (Err e) t id 0 true [] seen now → IsTool e
at-tool (Err r) e t id seen now left other c = (r, let same : e ≡ copy.Tool r = cc in same)
at-tool (Ok d) e t id seen now left other c = elim c [
  | inl out ↦ (tool.Refused refusal.Range, let same : e ≡ copy.Tool (tool.Refused refusal.Range) = cc in same)
  | inr within ↦ elim within.1 [ inl none ↦ (tool.NoMemory, let same : e ≡ copy.Tool tool.NoMemory = cc in same) | inr runs ↦ runs-tool e _ seen now refl left other runs ]
]

pub copies-tool : (result : Result Unit CopyRefusal) (t : Terms) (id : TargetId) (x : ToldAll) (left : Option (List ℕ))
    → Copies result t id 0 true [] x (Some []) left → result ≢ Err copy.SourceFault → (e : CopyRefusal) → result ≡ Err e → IsTool e
copies-tool (Ok done) t id x left c other e is = absurd cc
copies-tool (Err r) t id x left c other e is =
    let same : r ≡ e = cc in rw (← same) (at-tool c.found r t id _ _ refl (λ s. other (ap (λ (y : CopyRefusal). Err y) s)) c.copies)
