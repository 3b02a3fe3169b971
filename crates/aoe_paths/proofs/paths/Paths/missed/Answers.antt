use Rattle.std.proofs.Common.{◌≤◌, map, arith, true, length, ◌∷◌, ap, refl, sym, subst, rules}
use Rattle.std.proofs.lemmas.List.{length-map, set_past}
use Rattle.aoe_paths.specs.Path.{PathState}
use Rattle.aoe_paths.specs.PathLog.{Recalls}
use Rattle.aoe_paths.specs.PathLog.PathEvent.{Missed}
use Rattle.aoe_paths.specs.PathTable.{PathTable}
use Rattle.aoe_paths.proofs.PathLemmas.{marks-set, trips-missed}
use Rattle.aoe_paths.proofs.RecallLemmas.{recalls-missed}
use Rattle.aoe_paths.proofs.paths.Paths.missed.Goals as goal

pub returns-in_default-clause-value : goal.returns-in_default-clause-value
returns-in_default-clause-value c =
    let paths = c.self.inside.paths.items in
    let past : length paths ≤ c.args.p.0 = search rules in
    let marks : length (map (λ (path : PathState). path.missed) paths) ≤ c.args.p.0 =
    omega (arith, past, length-map paths (λ (path : PathState). path.missed)) in
    rw (← c.self.view_is, set_past (map (λ (path : PathState). path.missed) paths) c.args.p.0 true marks) refl

pub returns-in_default-clause-recalls : goal.returns-in_default-clause-recalls
returns-in_default-clause-recalls c = λ log recalls.
    let P : PathTable → Type 0 = λ table. Recalls table (Missed c.args.p.0 ∷ log) in
    subst P (sym (returns-in_default-clause-value c)) (recalls-missed c.args.self.now log c.args.p.0 recalls)

pub returns-clause-value : goal.returns-clause-value
returns-clause-value c =
    let paths = c.self.inside.paths.items in
    let marks = marks-set paths c.args.p.0 c.miss.new.self in
    let trips =
    trips-missed paths c.args.p.0 c.in-Some.path.now c.miss.new.self c.in-Some.ensures.item.1 (ap (λ (path : PathState). path.trips) c.miss.ensures) in
    rw (← c.self.view_is, marks, trips, c.miss.ensures) refl

pub returns-clause-recalls : goal.returns-clause-recalls
returns-clause-recalls c = λ log recalls.
    let P : PathTable → Type 0 = λ table. Recalls table (Missed c.args.p.0 ∷ log) in
    subst P (sym (returns-clause-value c)) (recalls-missed c.args.self.now log c.args.p.0 recalls)
