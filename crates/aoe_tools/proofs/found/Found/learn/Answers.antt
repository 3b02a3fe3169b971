use Rattle.std.proofs.Common.{ap, refl, sym, ◌∙◌}
use Rattle.std.specs.Prelude.{slice_get, slice_set}
use Rattle.aoe_tools.specs.Page.{with_known}
use Rattle.aoe_tools.proofs.FoundLemmas.{named-after, value-set}
use Rattle.aoe_tools.proofs.found.Found.learn.Goals as goal

pub invariant_of-self : goal.invariant_of-self
invariant_of-self c = named-after c.self.inside.devices.entries c.args.i c.in-Some.seen.now (with_known c.in-Some.seen.now c.args.known)
    (sym c.in-Some.ensures.value) refl c.self.invariant

pub returns : goal.returns
returns c = (
  c.in-Some.seen.now,
  ap (λ l. slice_get l c.args.i) (sym c.self.view_is) ∙ sym c.in-Some.ensures.value,
  value-set c.self.inside.devices.entries c.args.i (with_known c.in-Some.seen.now c.args.known)
      ∙ ap (λ l. slice_set l c.args.i (with_known c.in-Some.seen.now c.args.known)) c.self.view_is,
)
