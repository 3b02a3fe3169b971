-- What became of a frame, told by a small value and by the sectors of a write beside it.
use Rattle.std.specs.Prelude.{◌≡◌}
use Rattle.aoe_base.specs.declared.sectors.Span.{Span}
use Rattle.aoe_target.specs.declared.heard.Effect.{Effect}
use Rattle.aoe_target.specs.declared.heard.Effect.TheVariants as effect
use Rattle.aoe_target.specs.declared.heard.Heard.{Heard}
use Rattle.aoe_target.specs.declared.heard.Heard.TheVariants as heard
use Rattle.aoe_target.specs.declared.heard.Told.{Told}
use Rattle.aoe_target.specs.declared.heard.Told.TheVariants as told

-- what is told, with these sectors where it was a write
abbrev pub heard_as : Told → Span → Heard
heard_as told.Ignored span = heard.Ignored
heard_as told.Silent span = heard.Silent
heard_as told.Replied span = heard.Replied effect.None
heard_as told.Wrote span = heard.Replied (effect.Wrote span)
heard_as told.Synced span = heard.Replied effect.Synced
heard_as told.Edited span = heard.Replied effect.Edited
heard_as told.WriteFault span = heard.Replied (effect.WriteFault span)
heard_as told.ReadFault span = heard.Replied effect.ReadFault
heard_as told.SyncFault span = heard.Replied effect.SyncFault
heard_as told.EditFault span = heard.Replied effect.EditFault

-- where the effect is that of a write, these are its sectors
abbrev pub Names : Effect → Span → Type 0
Names (effect.Wrote sectors) span = sectors ≡ span
Names (effect.WriteFault sectors) span = sectors ≡ span
Names e span = Unit {0}

abbrev pub NamesIn : Heard → Span → Type 0
NamesIn (heard.Replied e) span = Names e span
NamesIn h span = Unit {0}
