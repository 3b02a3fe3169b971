use Rattle.std.proofs.Common.{◌≡◌, ◌∙◌, ◌+◌, ◌∷◌, ◌++◌, ◌%◌, ◌/◌, [], ap, sym, arith}
use Rattle.std.proofs.lemmas.List.{replicate_more}
use Rattle.std.proofs.lemmas.Nat.{mod_below}
use Rattle.aoe_script.specs.declared.event.Event.TheVariants.{Tick}
use Rattle.aoe_live.specs.Lines.{ticks}
use Rattle.aoe_live.specs.Steps.{links, Among}
use Rattle.aoe_live.proofs.GoodLemmas.{ticks-good}
use Rattle.aoe_live.proofs.StepLemmas.{among-moves, does-behind, fails-behind, recorded-as, recorded-then}
use Rattle.aoe_live.proofs.TextLemmas.{tick-short}
use Rattle.aoe_live.proofs.TickLemmas.{ticks-at, ticks-some, whole}
use Rattle.aoe_live.proofs.recorder.Recorder.pass_time.Goals as goal

pub line-requires-clause-good : goal.line-requires-clause-good
line-requires-clause-good g c = ticks-good c.ticks.self.sectors 10000000 (omega arith) (omega arith)

pub line-requires-2-clause-good : goal.line-requires-2-clause-good
line-requires-2-clause-good g c =
    let below = mod_below c.args.ms 10000000 (omega arith) in
    ticks-good c.ticks.self.sectors (c.args.ms % 10000000) (omega (arith, c.if-rest-eq0.false)) (omega (arith, below))

pub line-requires-clause-short : goal.line-requires-clause-short
line-requires-clause-short g c = tick-short 10000000 (omega arith)

pub line-requires-2-clause-short : goal.line-requires-2-clause-short
line-requires-2-clause-short g c =
    let below = mod_below c.args.ms 10000000 (omega arith) in
    tick-short (c.args.ms % 10000000) (omega (arith, below))

pub returns-in-Err-clause-steps : goal.returns-in-Err-clause-steps
returns-in-Err-clause-steps g c =
    let p = c.args.self.now in
    let q = c.ticks.self in
    let i = c.ticks.invariant in
    let at = ticks-at c.args.ms c.ticks.counter c.ticks-test.true in
    fails-behind (Among (Tick 10000000 ∷ [])) (Among (ticks c.args.ms)) [] [] (whole c.ticks.counter) p q c.line.new.self
    (links g.L.Link.turns g.L.Link.given g.L.Link.taken c.args.one.now c.args.two.now)
    (links g.L.Link.turns g.L.Link.given g.L.Link.taken c.ticks.one c.ticks.two)
    (links g.L.Link.turns g.L.Link.given g.L.Link.taken c.line.new.one c.line.new.two)
    i.sectors i.commands i.recorded
    (among-moves p.sectors (ticks c.args.ms) (whole c.ticks.counter) (Tick 10000000 ∷ []) at.0 q.world.entries at.1) _ _ c.in-Err.refusal
    c.in-Err.ensures.steps

pub ticks-preserved : goal.ticks-preserved
ticks-preserved g c =
    let p = c.args.self.now in
    let q = c.ticks.self in
    let r = c.line.new.self in
    let i = c.ticks.invariant in
    let e = c.in-Ok.ensures in
    let before = links g.L.Link.turns g.L.Link.given g.L.Link.taken c.args.one.now c.args.two.now in
    let after = links g.L.Link.turns g.L.Link.given g.L.Link.taken c.line.new.one c.line.new.two in
    record {
      kept = e.kept;
      recorded = recorded-as [] [] (whole c.ticks.counter ++ Tick 10000000 ∷ []) (whole (c.ticks.counter + 1)) p r before after
          (replicate_more c.ticks.counter (Tick 10000000))
          (recorded-then [] [] [] [] (whole c.ticks.counter) (Tick 10000000 ∷ []) p q r before
          (links g.L.Link.turns g.L.Link.given g.L.Link.taken c.ticks.one c.ticks.two) after i.sectors i.recorded e.steps.whole);
      sectors = e.steps.sectors ∙ i.sectors;
      commands = e.steps.commands ∙ i.commands;
      faults_one = e.faults_one.no_fault (λ x. absurd cc) ∙ i.faults_one;
      faults_two = e.faults_two.no_fault (λ x. absurd cc) ∙ i.faults_two;
    }

pub returns-clause-steps : goal.returns-clause-steps
returns-clause-steps g c =
    let p = c.args.self.now in
    let q = c.ticks.self in
    let r = c.line-2.new.self in
    let i = c.ticks.invariant in
    let n = c.ticks.counter in
    let rest = c.args.ms % 10000000 in
    let n_is : c.args.ms / 10000000 ≡ n = omega (arith, c.ticks.auto.counter-end, c.ticks-test.false) in
    let part : ticks c.args.ms ≡ whole n ++ (Tick rest ∷ [] ++ []) =
    ticks-some c.args.ms c.if-rest-eq0.false ∙ ap (λ k. whole k ++ (Tick rest ∷ [] ++ [])) n_is in
    let before = links g.L.Link.turns g.L.Link.given g.L.Link.taken c.args.one.now c.args.two.now in
    let mid = links g.L.Link.turns g.L.Link.given g.L.Link.taken c.ticks.one c.ticks.two in
    let after = links g.L.Link.turns g.L.Link.given g.L.Link.taken c.line-2.new.one c.line-2.new.two in
    does-behind (Among (Tick rest ∷ [])) (Among (ticks c.args.ms)) [] [] (whole n) p q r before mid after i.sectors i.commands i.recorded
    (among-moves p.sectors (ticks c.args.ms) (whole n) (Tick rest ∷ []) [] q.world.entries part) _ _ c.line-2.result
    (λ last. recorded-as [] [] (whole n ++ Tick rest ∷ []) (ticks c.args.ms) p r before after (sym part)
    (recorded-then [] [] [] [] (whole n) (Tick rest ∷ []) p q r before mid after i.sectors i.recorded last)) c.line-2.ensures.steps
