use Rattle.std.proofs.Common.{◌≤◌, map, arith, false, length, ◌<◌, ◌∷◌, refl, sym, subst, rules}
use Rattle.std.proofs.lemmas.List.{length-map, set_past}
use Rattle.aoe_paths.specs.Path.{PathState}
use Rattle.aoe_paths.specs.PathLog.{Recalls}
use Rattle.aoe_paths.specs.PathLog.PathEvent.{Answered}
use Rattle.aoe_paths.specs.PathTable.{PathTable}
use Rattle.aoe_paths.proofs.PathLemmas.{marks-set, trips-answered}
use Rattle.aoe_paths.proofs.RecallLemmas.{recalls-answered}
use Rattle.aoe_paths.proofs.paths.Paths.answered.Goals as goal

pub returns-in_default-clause-value : goal.returns-in_default-clause-value
returns-in_default-clause-value c =
    let paths = c.self.inside.paths.items in
    let past : length paths ≤ c.args.p.0 = search rules in
    let marks : length (map (λ (path : PathState). path.missed) paths) ≤ c.args.p.0 =
    omega (arith, past, length-map paths (λ (path : PathState). path.missed)) in
    let trips : length (map (λ (path : PathState). path.trips) paths) ≤ c.args.p.0 = omega (arith, past, length-map paths (λ (path : PathState). path.trips)) in
    rw (
      ← c.self.view_is,
      set_past (map (λ (path : PathState). path.missed) paths) c.args.p.0 false marks,
      set_past
          (map (λ (path : PathState). path.trips) paths) c.args.p.0 _ trips,
    ) refl

pub returns-in_default-clause-recalls : goal.returns-in_default-clause-recalls
returns-in_default-clause-recalls c = λ log recalls.
    let P : PathTable → Type 0 = λ table. Recalls table (Answered c.args.p.0 c.args.trip ∷ log) in
    subst P (sym (returns-in_default-clause-value c)) (recalls-answered c.args.self.now log c.args.p.0 c.args.trip recalls)

pub returns-clause-value : goal.returns-clause-value
returns-clause-value c =
    let paths = c.self.inside.paths.items in
    let inside : c.args.p.0 < length paths = search rules in
    let marks = marks-set paths c.args.p.0 c.answer.new.self in
    let trips = trips-answered paths c.args.p.0 c.in-Some.path.now c.args.trip inside c.in-Some.ensures.item.1 in
    rw (← c.self.view_is, marks, c.answer.ensures, trips) refl

pub returns-clause-recalls : goal.returns-clause-recalls
returns-clause-recalls c = λ log recalls.
    let P : PathTable → Type 0 = λ table. Recalls table (Answered c.args.p.0 c.args.trip ∷ log) in
    subst P (sym (returns-clause-value c)) (recalls-answered c.args.self.now log c.args.p.0 c.args.trip recalls)
