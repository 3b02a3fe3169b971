use Rattle.std.proofs.Common.{arith, refl, [], ◌∷◌, replicate}
use Rattle.aoe_io.specs.Link.{Turn, Turned, came, ended, quiet}
use Rattle.aoe_io.proofs.LinkLemmas.{turned-by, turned-nothing, turned-then}
use Rattle.aoe_serve.proofs.over_link.wait.Goals as goal

pub turns-init : goal.turns-init
turns-init g c = (turned-nothing (g.L.Link.turns c.args.link.now) (g.L.Link.given c.args.link.now), refl, refl)

pub returns-in-Ok-Frame-clause-waited : goal.returns-in-Ok-Frame-clause-waited
returns-in-Ok-Frame-clause-waited g c =
    let n = c.turns.turn in
    let t : Turn = came c.recv.new.out.items in
    let start = g.L.Link.turns c.args.link.now in
    let mid = g.L.Link.turns c.turns.link in
    let last = g.L.Link.turns c.recv.new.self in
    let one : Turned mid last (g.L.Link.given c.turns.link) (g.L.Link.given c.recv.new.self) (t ∷ []) =
    turned-by mid last (g.L.Link.given c.turns.link) (g.L.Link.given c.recv.new.self) t
    (rw c.in-Ok-Frame.field-0-is at c.in-Ok-Frame.ensures.gave) c.recv.ensures.passing c.in-Ok-Frame.ensures.turns in
    let all : Turned start last (g.L.Link.given c.args.link.now) (g.L.Link.given c.recv.new.self) (t ∷ replicate n quiet) =
    turned-then start mid last (g.L.Link.given c.args.link.now) (g.L.Link.given c.turns.link) (g.L.Link.given c.recv.new.self) (replicate n quiet)
    (t ∷ []) c.turns.invariant.0 one in
    (t ∷ replicate n quiet, (n, omega (arith, c.turns-test.true), refl), all)

pub returns-in-Ok-Ended-clause-waited : goal.returns-in-Ok-Ended-clause-waited
returns-in-Ok-Ended-clause-waited g c =
    let n = c.turns.turn in
    let t : Turn = ended in
    let start = g.L.Link.turns c.args.link.now in
    let mid = g.L.Link.turns c.turns.link in
    let last = g.L.Link.turns c.recv.new.self in
    let one : Turned mid last (g.L.Link.given c.turns.link) (g.L.Link.given c.recv.new.self) (t ∷ []) =
    turned-by mid last (g.L.Link.given c.turns.link) (g.L.Link.given c.recv.new.self) t
    (rw c.in-Ok-Ended.field-0-is at c.in-Ok-Ended.ensures.gave) c.recv.ensures.passing c.in-Ok-Ended.ensures.turns in
    let all : Turned start last (g.L.Link.given c.args.link.now) (g.L.Link.given c.recv.new.self) (t ∷ replicate n quiet) =
    turned-then start mid last (g.L.Link.given c.args.link.now) (g.L.Link.given c.turns.link) (g.L.Link.given c.recv.new.self) (replicate n quiet)
    (t ∷ []) c.turns.invariant.0 one in
    (t ∷ replicate n quiet, (n, omega (arith, c.turns-test.true), refl), all)
