-- What is known of a device whose writes last: one that was done marks none of its sectors.
use Rattle.std.specs.Prelude.{false, not, ◌&&◌, List, [], ◌∷◌}
use Rattle.std.specs.Option.{option_map}
use Rattle.aoe_base.specs.declared.sectors.Span.{Span}
use Rattle.aoe_target.specs.Device.{State}
use Rattle.aoe_target.specs.History.{Met}
use Rattle.aoe_target.specs.Law.{Fate, replied, after}
use Rattle.aoe_target.specs.Sectors.{Sectors, in_span}
use Rattle.aoe_target.specs.Verdict.{verdict}
use Rattle.aoe_target.specs.declared.heard.Effect.{Effect}
use Rattle.aoe_target.specs.declared.heard.Effect.TheVariants as effect
use Rattle.aoe_target.specs.declared.station.Station.{Station}

-- no sector of the span is marked
abbrev pub unmarks : Span → Sectors → Sectors
unmarks span k = record k { marks = λ s. not (in_span span s) && k.marks s; exact = false }

abbrev pub firm_by : Effect → Sectors → Sectors
firm_by (effect.Wrote span) k = unmarks span k
firm_by e k = k

abbrev pub firm_after : Fate → Sectors → Sectors
firm_after (replied e reply) k = firm_by e k
firm_after fate k = k

abbrev pub with_firm : Fate → State → State
with_firm fate k = record k { sectors = option_map (firm_after fate) k.sectors }

-- what the frames leave of what was known of the device
abbrev pub lasting_by : Station → State → List Met → State
lasting_by station k [] = k
lasting_by station k (m ∷ h) =
    let before = lasting_by station k h in
    with_firm m.fate (after station m.frame (verdict station before.lists m.frame) m.fate before)
