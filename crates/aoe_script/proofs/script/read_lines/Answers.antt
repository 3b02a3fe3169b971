-- Each turn enters the next line.
use Rattle.std.proofs.Common.{◌∙◌, ◌+◌, sym, ap, subst, rules, Err, inl, inr}
use Rattle.aoe_script.specs.Lines.{FailsFor, ScriptLines, line_refusal, with_line}
use Rattle.aoe_script.specs.declared.line.Line.{Line}
use Rattle.aoe_script.proofs.ScriptLemmas.{fails, not_refused, one_more, script_read, wanting}
use Rattle.aoe_script.proofs.script.read_lines.Goals as goal

pub returns-in-Err-clause-cause : goal.returns-in-Err-clause-cause
returns-in-Err-clause-cause c =
    fails c.args.text.now c.lines.rest.now c.in-Some.line.now c.in-Some.next.now c.lines.number c.lines.script c.lines.invariant c.in-Some.ensures.line
    (Unit {0}) ScriptLines c.in-Err.refusal c.requires
    (let P : Line → Type 0 = λ l. FailsFor {T = Unit {0}} (line_refusal (c.lines.number + 1) c.lines.script l) (Err c.in-Err.refusal) in
    subst P c.in-Ok.ensures.said c.in-Err.ensures.cause)

pub returns-in_default-read_line-clause-memory : goal.returns-in_default-read_line-clause-memory
returns-in_default-read_line-clause-memory c = λ e.
    wanting c.args.text.now c.lines.rest.now c.in-Some.line.now c.in-Some.next.now c.lines.number c.lines.script c.lines.invariant c.in-Some.ensures.line
    c.requires (inr c.in_default-read_line.ensures.memory)

pub returns-in-Err-clause-memory : goal.returns-in-Err-clause-memory
returns-in-Err-clause-memory c = λ e.
    wanting c.args.text.now c.lines.rest.now c.in-Some.line.now c.in-Some.next.now c.lines.number c.lines.script c.lines.invariant c.in-Some.ensures.line
    c.requires
    (inl (ap (λ l. line_refusal (c.lines.number + 1) c.lines.script l) (sym c.in-Ok.ensures.said) ∙ c.in-Err.ensures.memory cc))

pub lines-preserved : goal.lines-preserved
lines-preserved c =
    one_more c.args.text.now c.lines.rest.now c.in-Some.line.now c.in-Some.next.now c.lines.number c.lines.script c.lines.invariant c.in-Some.ensures.line
    c.enter.new.self c.in-Some.ensures.shorter
    (ap (λ l. line_refusal (c.lines.number + 1) c.lines.script l) (sym c.in-Ok.ensures.said) ∙ c.in-Ok-enter.ensures.cause)
    (c.in-Ok-enter.ensures.ok ∙ ap (λ l. with_line c.lines.script l) c.in-Ok.ensures.said)

pub returns-clause-cause : goal.returns-clause-cause
returns-clause-cause c =
    not_refused c.args.text.now c.lines.rest.now c.lines.number c.lines.script c.lines.invariant (search rules) c.requires

pub returns-clause-script : goal.returns-clause-script
returns-clause-script c = script_read c.args.text.now c.lines.rest.now c.lines.number c.lines.script c.lines.invariant (search rules)
