use Rattle.std.proofs.Common.{◌≡◌, ◌∙◌, ℕ, ap, arith, inl, inr}
use Rattle.std.proofs.lemmas.Bool.{cases_Bool}
use Rattle.aoe_args.specs.Words.{link_count}
use Rattle.aoe_args.specs.declared.command.Command.{Command}
use Rattle.aoe_args.specs.declared.command.Command.TheVariants.{Serve}
use Rattle.aoe_args.specs.declared.command.Serve.{Serve as Serves}
use Rattle.aoe.specs.Commands.{has_sides, is_live}
use Rattle.aoe.proofs.Blame.{at-first}
use Rattle.aoe.proofs.Comparisons.{within-three}
use Rattle.aoe.proofs.Complete.{answers, link-fine, serves}
use Rattle.aoe.proofs.Mirrors.{of-sides, within-four}
use Rattle.aoe.proofs.Refusals.{disk-within, file-fault, keep-bad, keep-fault, keep-small, mounted, pairs-only, ran-as, settled}
use Rattle.aoe_world.proofs.RunLemmas.{no_fault}
use Rattle.aoe.proofs.top.aoe.Goals as goal

-- serve has one link
linked : (n : ℕ) (command : Command) (asked : Serves) → command ≡ Serve asked → n ≡ link_count command → n ≡ 1
linked n command asked is count = count ∙ ap link_count is

pub returns-clause-settled : goal.returns-clause-settled
returns-clause-settled g c exported slot e =
    settled _ _ _ _ _ _ _ _ c.run_command.ensures.run c.run_command.ensures.refused c.requires.count (pairs-only c.args.command.now exported) slot e

pub returns-clause-disk_fault : goal.returns-clause-disk_fault
returns-clause-disk_fault g c disk e = elim (cases_Bool (has_sides c.args.command.now)) [
  | inl sides ↦ of-sides c.args.command.now sides (λ asked is. within-four _ _ _ _ _ _ _ _ (c.run_command.ensures.mirrors asked is) disk e)
      (λ is. within-three _ _ _ _ _ _ (c.run_command.ensures.compares is).0 disk e)
  | inr other ↦ disk-within _ _ _ _ _ _ _ _ c.run_command.ensures.run c.run_command.ensures.refused c.requires.count other disk e
]

pub returns-clause-file_fault : goal.returns-clause-file_fault
returns-clause-file_fault g c exported slot e =
    file-fault _ _ _ _ _ _ _ _ c.run_command.ensures.run c.run_command.ensures.refused c.requires.count (pairs-only c.args.command.now exported) slot e

pub returns-clause-keep_fault : goal.returns-clause-keep_fault
returns-clause-keep_fault g c exported slot e =
    keep-fault _ _ _ _ _ _ _ _ c.run_command.ensures.run c.run_command.ensures.refused c.requires.count (pairs-only c.args.command.now exported) slot e

pub returns-clause-keep_small : goal.returns-clause-keep_small
returns-clause-keep_small g c exported slot sectors =
    keep-small _ _ _ _ _ _ _ _ c.run_command.ensures.run c.run_command.ensures.refused c.requires.count (pairs-only c.args.command.now exported) slot sectors

pub returns-clause-keep_bad : goal.returns-clause-keep_bad
returns-clause-keep_bad g c exported slot bad =
    keep-bad _ _ _ _ _ _ _ _ c.run_command.ensures.run c.run_command.ensures.refused c.requires.count (pairs-only c.args.command.now exported) slot bad

pub returns-clause-mounted : goal.returns-clause-mounted
returns-clause-mounted g c exported slot lists =
    mounted _ _ _ _ _ _ _ _ c.run_command.ensures.run c.run_command.ensures.refused c.requires.count (pairs-only c.args.command.now exported) slot lists

pub returns-clause-answers : goal.returns-clause-answers
returns-clause-answers g c asked fs is unrefused some_memory left_is all few source sink fine =
    let r = ran-as _ _ _ _ _ _ _ _ _ is (c.run_command.ensures.run unrefused some_memory) in
    answers _ _ _ _ _ _ _ fine asked fs r left_is all few (λ e. no_fault _ _ source (c.run_command.ensures.source.cause e))
    (λ e. no_fault _ _ sink (c.run_command.ensures.sink.cause e))

pub returns-clause-serves : goal.returns-clause-serves
returns-clause-serves g c asked is unrefused some_memory link fine =
    let r = ran-as _ _ _ _ _ _ _ _ _ is (c.run_command.ensures.run unrefused some_memory) in
    serves _ _ _ _ _ _ _ fine asked r
    (λ e. link-fine g.L.Link.faults _ _ link (at-first _ _ _ _ (λ a b blamed. blamed.cause e) (c.run_command.ensures.first (ap is_live is)))
    (omega (arith, linked _ _ asked is c.requires.links)))
