-- Which statuses a copy has, and what they tell of its link and its source.
use Rattle.std.proofs.Common.{◌≡◌, ◌∙◌, Result, Err, true, ap, refl, sym}
use Rattle.std.specs.Prelude.{◌↔◌}
use Rattle.aoe_copy.specs.declared.end.CopyRefusal.{CopyRefusal}
use Rattle.aoe_copy.specs.declared.end.CopyRefusal.TheVariants as copy
use Rattle.aoe_tools.specs.declared.end.ToolRefusal.TheVariants as tool
use Rattle.aoe.specs.Tools.{copied, copy_status, is_copy_status}
use Rattle.aoe.specs.declared.status.Status.{Status}
use Rattle.aoe.specs.declared.status.Status.TheVariants as status

told-link : (r : CopyRefusal) → copy_status r ≡ status.LinkFault 0 → r ≡ copy.Tool tool.LinkFault
told-link (copy.Tool tool.LinkFault) e = refl
told-link (copy.Tool tool.NoMemory) e = absurd cc
told-link (copy.Tool (tool.Unanswered n)) e = absurd cc
told-link (copy.Tool (tool.Refused r)) e = absurd cc
told-link (copy.Stream offset) e = absurd cc
told-link copy.SourceFault e = absurd cc
told-link copy.SinkFault e = absurd cc

abbrev IsLinkFault : Result Unit CopyRefusal → Type 0
IsLinkFault ended = ended ≡ Err (copy.Tool tool.LinkFault)

pub copied-link : (s : Status) (r : CopyRefusal) → s ≡ copy_status r → (s ≡ status.LinkFault 0) ↔ IsLinkFault (Err r)
copied-link s r is = (λ told. ap Err (told-link r (sym is ∙ told)), λ e. is ∙ ap copied e)

told-source : (r : CopyRefusal) → copy_status r ≡ status.SourceFault → r ≡ copy.SourceFault
told-source (copy.Tool tool.LinkFault) e = absurd cc
told-source (copy.Tool tool.NoMemory) e = absurd cc
told-source (copy.Tool (tool.Unanswered n)) e = absurd cc
told-source (copy.Tool (tool.Refused r)) e = absurd cc
told-source (copy.Stream offset) e = absurd cc
told-source copy.SourceFault e = refl
told-source copy.SinkFault e = absurd cc

abbrev IsSourceFault : Result Unit CopyRefusal → Type 0
IsSourceFault ended = ended ≡ Err copy.SourceFault

pub copied-source : (s : Status) (r : CopyRefusal) → s ≡ copy_status r → (s ≡ status.SourceFault) ↔ IsSourceFault (Err r)
copied-source s r is = (λ told. ap Err (told-source r (sym is ∙ told)), λ e. is ∙ ap copied e)

pub told-status : (r : CopyRefusal) → is_copy_status (copy_status r) ≡ true
told-status (copy.Tool tool.LinkFault) = refl
told-status (copy.Tool tool.NoMemory) = refl
told-status (copy.Tool (tool.Unanswered n)) = refl
told-status (copy.Tool (tool.Refused r)) = refl
told-status (copy.Stream offset) = refl
told-status copy.SourceFault = refl
told-status copy.SinkFault = refl
