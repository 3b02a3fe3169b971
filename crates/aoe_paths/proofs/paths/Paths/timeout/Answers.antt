use Rattle.std.proofs.Common.{◌≡◌, ◌*◌, ◌<◌, length, ap, sym, ◌∙◌, arith}
use Rattle.aoe_paths.specs.PathTable.{path_count}
use Rattle.aoe_paths.specs.Timeout.{timeout_of}
use Rattle.aoe_paths.proofs.PathLemmas.{trips-read}
use Rattle.aoe_paths.proofs.RecallLemmas.{timeout-recalled}
use Rattle.aoe_paths.proofs.paths.Paths.timeout.Goals as goal

pub returns-clause-value : goal.returns-clause-value
returns-clause-value c =
    let paths = c.self.inside.paths.items in
    let count : length c.self.inside.locals.items * length c.self.inside.remotes.items ≡ path_count c.args.self.now = ap path_count c.self.view_is in
    let inside : c.args.p.0 < length paths = omega (arith, c.requires, count, c.self.invariant.count) in
    rw (← c.self.view_is) (c.timeout.ensures ∙ ap timeout_of (sym (trips-read paths c.args.p.0 c.index.result.now inside c.index.ensures)))

pub returns-clause-recalled : goal.returns-clause-recalled
returns-clause-recalled c = λ log recalls. returns-clause-value c ∙ timeout-recalled c.args.self.now log c.args.p.0 recalls c.requires
