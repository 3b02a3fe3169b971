use Rattle.std.proofs.Common.{sym, refl, ◌∙◌}
use Rattle.aoe_desk.proofs.RequestLemmas.{not_owned, part_counted, took_back, took_mine}
use Rattle.aoe_desk.proofs.request.OpenRequest.settle.Goals as goal

pub returns-then-self-done-clause-stranger : goal.returns-then-self-done-clause-stranger
returns-then-self-done-clause-stranger c = not_owned c.requires c.args.done.ticket c.if-self-done.true

pub end-requires-in-More : goal.end-requires-in-More
end-requires-in-More c = part_counted c.requires c.args.done
    (took_mine c.args.self.now.block c.args.done c.take.result c.take.ensures.took (λ back e. let h = sym c.in-More.is ∙ e in cc))

pub end-requires-in-Whole : goal.end-requires-in-Whole
end-requires-in-Whole c = part_counted c.requires c.args.done
    (took_mine c.args.self.now.block c.args.done c.take.result c.take.ensures.took (λ back e. let h = sym c.in-Whole.is ∙ e in cc))

pub end-requires-in-Part : goal.end-requires-in-Part
end-requires-in-Part c = part_counted c.requires c.args.done
    (took_mine c.args.self.now.block c.args.done c.take.result c.take.ensures.took (λ back e. let h = sym c.in-Part.is ∙ e in cc))

pub returns-in-NotMine-clause-same : goal.returns-in-NotMine-clause-same
returns-in-NotMine-clause-same c =
    let b = took_back c.args.self.now.block c.args.done c.in-NotMine.done (sym c.in-NotMine.is ∙ c.take.ensures.took) in
    (b.0, rw (c.take.ensures.stranger b.1) refl)
