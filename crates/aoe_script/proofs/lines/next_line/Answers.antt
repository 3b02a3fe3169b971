use Rattle.std.proofs.Common.{rules}
use Rattle.aoe_script.proofs.LineLemmas.{first_line, last_line}
use Rattle.aoe_script.proofs.lines.next_line.Goals as goal

pub returns-then-end-text-clause-line : goal.returns-then-end-text-clause-line
returns-then-end-text-clause-line c =
    last_line c.args.text.now c.from.result.now c.until-end.result c.until-end.ensures.place c.if-end-text.true (search rules) c.from.ensures

pub returns-clause-line : goal.returns-clause-line
returns-clause-line c =
    first_line c.args.text.now c.without_return.result.now c.from-2.result.now c.until-end.result c.until-end.ensures.place
    (search rules) c.without_return.ensures c.from-2.ensures
