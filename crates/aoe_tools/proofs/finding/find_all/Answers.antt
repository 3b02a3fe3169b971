use Rattle.std.proofs.Common.{◌∙◌, ap, arith, refl}
use Rattle.aoe_tools.proofs.AskLemmas.{behind}
use Rattle.aoe_tools.proofs.DiscoverLemmas.{begins, ends, fails, forgets, goes-on}
use Rattle.aoe_tools.proofs.ListenLemmas.{left-falls}
use Rattle.aoe_tools.specs.One.{args_of}
use Rattle.aoe_tools.proofs.finding.find_all.Goals as goal

pub args_of-args-requires : goal.args_of-args-requires
args_of-args-requires g c = rw (behind c.deref.ensures.0) (rw c.in-Ok-Some.field-0-is at c.in-Ok-Some.ensures.here).1

pub responses-init : goal.responses-init
responses-init g c = (begins c.new-wait.ensures c.new-found.ensures, omega (arith, ap (λ w. w.turns) c.new-wait.ensures), refl)

pub responses-preserved : goal.responses-preserved
responses-preserved g c = (
  goes-on c.responses.invariant.0
      (rw (c.args_of-args.ensures ∙ ap (λ l. args_of (record { reply = c.in-Ok-Some.reply; args = l })) (behind c.deref.ensures.0)) at c.in-Ok.ensures.noted)
      (rw c.in-Ok-Some.field-0-is at c.in-Ok-Some.ensures.listens),
  c.listen.ensures.within,
  c.in-Ok-Some.ensures.link.no_fault (λ e. absurd cc) ∙ c.responses.invariant.2,
)

pub responses-smaller : goal.responses-smaller
responses-smaller g c = left-falls (rw c.in-Ok-Some.field-0-is at c.in-Ok-Some.ensures.listens)

pub returns-in-Err-clause-run : goal.returns-in-Err-clause-run
returns-in-Err-clause-run g c = fails c.responses.invariant.0 c.in-Err.ensures.listens

pub returns-in-Err-note-clause-run : goal.returns-in-Err-note-clause-run
returns-in-Err-note-clause-run g c = forgets c.responses.invariant.0 (rw c.in-Ok-Some.field-0-is at c.in-Ok-Some.ensures.listens)

pub returns-clause-run : goal.returns-clause-run
returns-clause-run g c = ends c.responses.invariant.0 c.unless_none.ensures (rw c.in-Ok-None.field-0-is at c.in-Ok-None.ensures.listens)
