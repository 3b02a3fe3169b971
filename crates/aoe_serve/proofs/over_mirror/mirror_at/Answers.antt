use Rattle.std.proofs.Common.{ℕ, ◌≤◌, ◌∙◌, sym, refl, subst, arith, eq-eqb, ne_eqb}
use Rattle.std.proofs.lemmas.Bool.{both_ways}
use Rattle.aoe_mirror.specs.Marks.{count_of}
use Rattle.aoe_mirror.specs.Mirror.{pair}
use Rattle.aoe_serve.specs.Mirroring.{TellsOf}
use Rattle.aoe_serve.proofs.MirrorLemmas.{copied_since, ran_copied, run_begun, same_first}
use Rattle.aoe_serve.proofs.over_mirror.mirror_at.Goals as goal

pub returns-in-Err-new-clause-link_count : goal.returns-in-Err-new-clause-link_count
returns-in-Err-new-clause-link_count g c = same_first (λ a b. g.L.Link.faults a ≤ g.L.Link.faults b) c.args.links.now (λ x. omega arith)

pub returns-in-Err-new-clause-link_blame : goal.returns-in-Err-new-clause-link_blame
returns-in-Err-new-clause-link_blame g c =
    same_first _ c.args.links.now (λ x. record { cause = λ told. absurd told; no_fault = λ _. refl; one_fault = omega arith })

pub run_over-disks-requires-clause-running : goal.run_over-disks-requires-clause-running
run_over-disks-requires-clause-running g c =
    run_begun g.A.Given.faults g.A.Given.faults g.A.Given.whole (pair g.D.Disk.state c.resync_all.new.self) refl
    (λ _. sym c.stale.ensures ∙ c.if-stale-eq0.true) (copied_since g.A.Given.faults _ _ c.requires.since c.resync_all.ensures.copies)

pub run_over-disks-requires-2-clause-running : goal.run_over-disks-requires-2-clause-running
run_over-disks-requires-2-clause-running g c =
    run_begun g.B.Given.faults g.A.Given.faults g.B.Given.whole (pair g.D.Disk.state c.resync_all.new.self) c.requires.faults
    (λ is. absurd (both_ways g.B.Given.whole c.requires.behind.0 is)) (copied_since g.A.Given.faults _ _ c.requires.since c.resync_all.ensures.copies)

pub returns-then-stale-eq0-clause-ran : goal.returns-then-stale-eq0-clause-ran
returns-then-stale-eq0-clause-ran g c =
    let begun = c.resync_all.new.self in
    ran_copied g.D.Disk.state _ g.A.Given.faults g.A.Given.faults g.A.Given.whole _ c.args.plan c.run_over-disks.result.0 _ _ _
    (pair g.D.Disk.state begun) c.args.keep c.run_over-disks.result.1 refl
    (c.requires.whole.0 ∙ sym (eq-eqb (count_of begun.sides.stale) 0 (sym c.stale.ensures ∙ c.if-stale-eq0.true)))
    c.resync_all.ensures.copies (rw (c.in-Ok.ensures, c.copy_of.ensures) at c.run_over-disks.ensures.ran)

pub returns-clause-ran : goal.returns-clause-ran
returns-clause-ran g c =
    let begun = c.resync_all.new.self in
    ran_copied g.D.Disk.state _ g.B.Given.faults g.A.Given.faults g.B.Given.whole _ c.args.plan c.run_over-disks-2.result.0 _ _ _
    (pair g.D.Disk.state begun) c.args.keep c.run_over-disks-2.result.1 c.requires.faults
    (c.requires.behind.0 ∙ sym (ne_eqb (count_of begun.sides.stale) 0 (λ e. c.if-stale-eq0.false (c.stale.ensures ∙ e))))
    c.resync_all.ensures.copies (rw c.in-Ok-new.ensures at c.run_over-disks-2.ensures.ran)

pub returns-clause-told : goal.returns-clause-told
returns-clause-told g c =
    subst (λ (lead : ℕ). TellsOf lead c.run_over-disks-2.result.0 (g.W.MirrorWatch.told c.args.watch) (g.W.MirrorWatch.told c.run_over-disks-2.result.2))
    c.requires.behind.1 c.run_over-disks-2.ensures.told
