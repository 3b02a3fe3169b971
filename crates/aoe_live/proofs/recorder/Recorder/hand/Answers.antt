use Rattle.std.proofs.Common.{rules, ◌≡◌, ◌∙◌, ℕ, ◌∷◌, [], Some, ap, arith, length, sym}
use Rattle.arrayvec.specs.ArrayVec.{ArrayVec}
use Rattle.aoe_script.specs.declared.event.Event.TheVariants.{Deliver}
use Rattle.aoe_script.specs.Rules.{event_why}
use Rattle.aoe_sim_setup.specs.Layout.{setup_of}
use Rattle.aoe_io.specs.Link.{turn_of}
use Rattle.aoe_io.specs.declared.links.Got.TheVariants as got
use Rattle.aoe_live.specs.Frames.{newest}
use Rattle.aoe_live.specs.Lines.{handing, receiver}
use Rattle.aoe_live.specs.Stations.{stations}
use Rattle.aoe_live.specs.Steps.{links}
use Rattle.aoe_live.proofs.GoodLemmas.{host-good, shelf-good}
use Rattle.aoe_live.proofs.NumberLemmas.{newest-one}
use Rattle.aoe_live.proofs.StepLemmas.{steps-as}
use Rattle.aoe_live.proofs.TextLemmas.{deliver-short}
use Rattle.aoe_live.proofs.TurnLemmas.{handing-frame}
use Rattle.aoe_live.proofs.recorder.Recorder.hand.Goals.{in-Host, in-Shelf}
use Rattle.aoe_live.proofs.recorder.Recorder.hand.Goals as goal

pub line-requires-clause-good : goal.line-requires-clause-good
line-requires-clause-good g c =
    let f = c.requires.kept.follows in
    let sectors = c.args.self.now.sectors in
    let h = c.args.self.now.world.entries in
    let one = newest-one c.args.sender (setup_of (stations sectors)) 2000 h c.args.frame.now c.in-Some.frame f.sound.lawful
    (ap (λ l. newest c.args.sender 2000 l c.args.frame.now) (sym c.history.ensures.history) ∙ sym c.newest.ensures ∙ c.in-Some.is) in
    let most = f.sound.room.few in
    elim c.match-sender.branch [
      | in-Host w ↦
          ap (λ name. event_why (stations sectors) (Deliver c.in-Some.frame name))
          (c.named-station.ensures ∙ ap (λ letter. record { items = letter ∷ [] }) w.named-is)
          ∙ shelf-good sectors c.in-Some.frame one.0 (omega (arith, one.1, most))
      | in-Shelf w ↦
          ap (λ name. event_why (stations sectors) (Deliver c.in-Some.frame name))
          (c.named-station.ensures ∙ ap (λ letter. record { items = letter ∷ [] }) w.named-is)
          ∙ host-good sectors c.in-Some.frame one.0 (omega (arith, one.1, most))
    ]

pub line-requires-clause-short : goal.line-requires-clause-short
line-requires-clause-short g c =
    let f = c.requires.kept.follows in
    let h = c.args.self.now.world.entries in
    let one = newest-one c.args.sender (setup_of (stations c.args.self.now.sectors)) 2000 h c.args.frame.now c.in-Some.frame f.sound.lawful
    (ap (λ l. newest c.args.sender 2000 l c.args.frame.now) (sym c.history.ensures.history) ∙ sym c.newest.ensures ∙ c.in-Some.is) in
    let letters : length c.named-station.result.items ≡ 1 = ap (λ (name : ArrayVec ℕ). length name.items) c.named-station.ensures in
    deliver-short c.in-Some.frame c.named-station.result (omega (arith, one.1, f.sound.room.few)) (omega (arith, letters))

pub returns-clause-steps : goal.returns-clause-steps
returns-clause-steps g c =
    let s = c.args.sender in
    let h = c.args.self.now.world.entries in
    let found = sym c.in-Some.is ∙ c.newest.ensures ∙ ap (λ l. newest s 2000 l c.args.frame.now) c.history.ensures.history in
    let is_frame : c.args.got ≡ got.Frame = search rules in
    let part = handing-frame s c.args.got c.args.frame.now h (Some c.in-Some.frame) is_frame found in
    let station : c.named-station.result ≡ receiver s =
    elim c.match-sender.branch [
      | in-Host w ↦ c.named-station.ensures ∙ ap (λ letter. record { items = letter ∷ [] }) w.named-is ∙ sym (ap receiver w.in-Host.is)
      | in-Shelf w ↦ c.named-station.ensures ∙ ap (λ letter. record { items = letter ∷ [] }) w.named-is ∙ sym (ap receiver w.in-Shelf.is)
    ] in
    steps-as c.line.result (Deliver c.in-Some.frame c.named-station.result ∷ [])
    (handing s (turn_of c.args.got c.args.frame.now) h) c.args.self.now c.line.new.self
    (links g.L.Link.turns g.L.Link.given g.L.Link.taken c.args.one.now c.args.two.now)
    (links g.L.Link.turns g.L.Link.given g.L.Link.taken c.line.new.one c.line.new.two)
    (ap (λ x. Deliver c.in-Some.frame x ∷ []) station ∙ sym part) c.line.ensures.steps
