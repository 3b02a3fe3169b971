use Rattle.std.proofs.Common.{◌∙◌, refl, arith}
use Rattle.aoe_live.specs.Rounds.{wire}
use Rattle.aoe_live.specs.Tally.{tally_of}
use Rattle.aoe_live.proofs.RoundLemmas.{begun, ends-as, goes-on, is-finished, is-refused, not-before, over-as, quiet-within, sound-as, taken-as, turn-smaller}
use Rattle.aoe_live.proofs.TextLemmas.{script-short}
use Rattle.aoe_live.proofs.recorder.Recorder.run.Goals as goal

pub turns-init : goal.turns-init
turns-init g c =
    let fresh = c.requires.fresh in
    record {
      kept = fresh.kept;
      going = begun fresh.no_entries fresh.no_lines fresh.kept.follows.sound;
      within = omega arith;
      later = tt;
      sectors = refl;
      commands = refl;
      faults_one = refl;
      faults_two = refl;
    }

pub returns-in-Err-clause-lives : goal.returns-in-Err-clause-lives
returns-in-Err-clause-lives g c =
    let i = c.turns.invariant in
    let one = wire (g.L.Link.turns c.turns.one) (g.L.Link.given c.turns.one) (g.L.Link.taken c.turns.one) in
    let one_after = wire (g.L.Link.turns c.turn.new.one) (g.L.Link.given c.turn.new.one) (g.L.Link.taken c.turn.new.one) in
    let two = wire (g.L.Link.turns c.turns.two) (g.L.Link.given c.turns.two) (g.L.Link.taken c.turns.two) in
    let two_after = wire (g.L.Link.turns c.turn.new.two) (g.L.Link.given c.turn.new.two) (g.L.Link.taken c.turn.new.two) in
    is-refused _ i.going (omega (arith, c.turns-test.true)) c.now-now.result c.now-now.ensures.told
    c.since-ms.result c.since-ms.ensures (not-before c.turns.last (g.C.Clock.least c.turns.clock) c.now-now.result i.later c.now-now.ensures.least)
    c.in-Err.refusal c.turn.new.self.world.entries
    (ends-as c.turns.self.sectors c.args.self.now.sectors c.turns.self.commands c.args.self.now.commands c.args.turns c.since-ms.result
    c.in-Err.refusal c.turns.self.script.events c.turns.self.world.entries c.turn.new.self.world.entries one one_after two two_after i.sectors i.commands
    c.in-Err.ensures.ends)

pub returns-then-is_over-clause-lives : goal.returns-then-is_over-clause-lives
returns-then-is_over-clause-lives g c =
    let i = c.turns.invariant in
    is-finished _ i.going (omega (arith, c.turns-test.true)) c.now-now.result c.now-now.ensures.told
    c.since-ms.result c.since-ms.ensures c.in-Ok.finishes c.turn.new.self.world.entries c.turn.new.self.script.events
    (taken-as i.sectors i.commands c.in-Ok.ensures.taken)
    (sound-as (c.in-Ok.ensures.sectors ∙ i.sectors) c.in-Ok.ensures.kept.follows.sound) c.requires.few
    (not-before c.turns.last (g.C.Clock.least c.turns.clock) c.now-now.result i.later c.now-now.ensures.least)
    (over-as c.turn.new.self.commands c.args.self.now.commands c.turn.new.self.tally (tally_of c.turn.new.self.world.entries) c.is_over.result
    c.is_over.ensures (c.in-Ok.ensures.commands ∙ i.commands) c.in-Ok.ensures.kept.tally ∙ c.if-is_over.true)

pub returns-then-is_over-clause-short : goal.returns-then-is_over-clause-short
returns-then-is_over-clause-short g c =
    let f = c.in-Ok.ensures.kept.follows in
    script-short c.turn.new.self.sectors c.turn.new.self.script f.most f.setups f.few f.short

pub turns-smaller : goal.turns-smaller
turns-smaller g c =
    let i = c.turns.invariant in
    turn-smaller (taken-as i.sectors i.commands c.in-Ok.ensures.taken)
    c.in-Ok.ensures.kept.follows.few (omega (arith, c.turns-test.true)) c.quiet_after-quiet.result c.quiet_after-quiet.ensures

pub turns-preserved : goal.turns-preserved
turns-preserved g c =
    let i = c.turns.invariant in
    record {
      kept = c.in-Ok.ensures.kept;
      going = goes-on _ i.going (omega (arith, c.turns-test.true)) c.now-now.result c.now-now.ensures.told
          c.since-ms.result c.since-ms.ensures c.in-Ok.finishes c.turn.new.self.world.entries c.turn.new.self.script.events
          (taken-as i.sectors i.commands c.in-Ok.ensures.taken)
          (sound-as (c.in-Ok.ensures.sectors ∙ i.sectors) c.in-Ok.ensures.kept.follows.sound) c.requires.few
          (not-before c.turns.last (g.C.Clock.least c.turns.clock) c.now-now.result i.later c.now-now.ensures.least)
          c.quiet_after-quiet.result c.quiet_after-quiet.ensures
          (over-as c.turn.new.self.commands c.args.self.now.commands c.turn.new.self.tally (tally_of c.turn.new.self.world.entries) c.is_over.result
          c.is_over.ensures (c.in-Ok.ensures.commands ∙ i.commands) c.in-Ok.ensures.kept.tally ∙ c.if-is_over.false);
      within = quiet-within c.turns.quiet c.args.turns c.quiet_after-quiet.result c.in-Ok.finishes
          (omega (arith, c.turns-test.true)) c.quiet_after-quiet.ensures;
      later = c.now-now.ensures.later;
      sectors = c.in-Ok.ensures.sectors ∙ i.sectors;
      commands = c.in-Ok.ensures.commands ∙ i.commands;
      faults_one = c.in-Ok.ensures.faults_one.no_fault (λ e. absurd cc) ∙ i.faults_one;
      faults_two = c.in-Ok.ensures.faults_two.no_fault (λ e. absurd cc) ∙ i.faults_two;
    }
