use Rattle.std.proofs.Common.{◌∙◌}
use Rattle.aoe_nbd_serve.specs.declared.terms.ServeEnd.TheVariants as serve_end
use Rattle.aoe_nbd_serve.specs.Serving.{seen_by}
use Rattle.aoe_nbd_serve.proofs.EndSteps.{ended-as}
use Rattle.aoe_nbd_serve.proofs.serving.Serving.run.Goals as goal
use Rattle.aoe_nbd_serve.proofs.serving.Serving.run.Goals.{else-not-has_moved, then-not-has_moved}

pub returns-in-Err-clause-runs : goal.returns-in-Err-clause-runs
returns-in-Err-clause-runs g c = λ setting most s.
    let t = c.turns in
    let seen =
    seen_by (g.L.Link.turns t.link) (g.L.Link.given t.link) (g.L.Link.taken t.link) (g.K.Clock.answers t.clock) (g.C.Clients.told t.clients)
    (g.B.Bell.waits t.bell) (g.E.Ending.answers t.ending) in
    let later = g.K.Clock.answers c.now.new.self in
    let seen' = record seen { link = record seen.link { answers = later } } in
    let (n, before) = t.invariant.so setting most s in
    let ticked = c.tick.ensures.ticks setting seen later n c.now.ensures.told before in
    c.in-Err.ensures.turns setting (record seen' { asked = g.E.Ending.answers c.ask.new.ending }) (c.ask.ensures.asks setting seen' 0 ticked)

pub turns-preserved : goal.turns-preserved
turns-preserved g c =
    let t = c.turns in
    let o = c.in-Ok.ensures in
    let seen =
    seen_by (g.L.Link.turns t.link) (g.L.Link.given t.link) (g.L.Link.taken t.link) (g.K.Clock.answers t.clock) (g.C.Clients.told t.clients)
    (g.B.Bell.waits t.bell) (g.E.Ending.answers t.ending) in
    let later = g.K.Clock.answers c.now.new.self in
    let seen' = record seen { link = record seen.link { answers = later } } in
    let behind =
    seen_by (g.L.Link.turns c.turn.new.link) (g.L.Link.given c.turn.new.link) (g.L.Link.taken c.turn.new.link) later (g.C.Clients.told c.turn.new.clients)
    (g.B.Bell.waits t.bell) (g.E.Ending.answers c.ask.new.ending) in
    let link = o.link.no_fault (λ e. cc) ∙ t.invariant.faults in
    let clients = o.clients.no_fault (λ e. cc) ∙ t.invariant.client_faults in
    elim c.if-not-has_moved.branch [
      | then-not-has_moved w ↦ record {
        fit = rw w.self-is w.wait.ensures.fit;
        here = rw (w.self-is, w.wait.ensures.conversation) o.here;
        so = λ setting most s.
            let (n, before) = t.invariant.so setting most s in
            let ticked = c.tick.ensures.ticks setting seen later n c.now.ensures.told before in
            let asked = c.ask.ensures.asks setting seen' 0 ticked in
            let turned = o.turns setting (record seen' { asked = g.E.Ending.answers c.ask.new.ending }) asked in
            (128, rw (w.self-is, w.bell-is) (w.wait.ensures.waits setting behind 128 turned));
        faults = link;
        client_faults = clients;
      }
      | else-not-has_moved w ↦ record {
        fit = rw w.self-is o.fit;
        here = rw w.self-is o.here;
        so = λ setting most s.
            let (n, before) = t.invariant.so setting most s in
            let ticked = c.tick.ensures.ticks setting seen later n c.now.ensures.told before in
            let asked = c.ask.ensures.asks setting seen' 0 ticked in
            let turned = o.turns setting (record seen' { asked = g.E.Ending.answers c.ask.new.ending }) asked in
            (128, rw (w.self-is, w.bell-is) turned);
        faults = link;
        client_faults = clients;
      }
    ]

pub returns-clause-runs : goal.returns-clause-runs
returns-clause-runs g c = λ setting most s. let (n, before) = c.turns.invariant.so setting most s in ended-as serve_end.NoMemory before tt
