use Rattle.std.proofs.Common.{◌≡◌, None, rules, ◌∙◌}
use Rattle.std.specs.Prelude.{option_copied}
use Rattle.slab.specs.Slab.{get}
use Rattle.aoe_flight.proofs.TableLemmas.{tag-held, tag-none}
use Rattle.aoe_flight.proofs.table.Table.look_tag.Goals as goal

pub returns-in_err-slot-clause-value : goal.returns-in_err-slot-clause-value
returns-in_err-slot-clause-value g c =
    let none : c.from_residual.result ≡ None = search rules in
    rw (← c.self.view_is) (none ∙ tag-none c.self.inside.slots c.self.inside.tags.items c.args.tag c.self.invariant.has_tags
    (rw (← c.from.ensures) c.in_err-slot.ensures.none))

pub returns-clause-value : goal.returns-clause-value
returns-clause-value g c =
    let copied : c.copied.result ≡ option_copied c.get.result = search rules in
    let read : c.copied.result ≡ get c.self.inside.slots c.in_ok-slot.slot = copied ∙ c.get.ensures in
    rw (← c.self.view_is) (read ∙ tag-held c.self.inside.slots c.self.inside.tags.items c.args.tag c.in_ok-slot.slot c.self.invariant.has_tags
    (rw (← c.from.ensures) c.in_ok-slot.ensures.there) (rw (← c.from.ensures) c.in_ok-slot.ensures.first))
