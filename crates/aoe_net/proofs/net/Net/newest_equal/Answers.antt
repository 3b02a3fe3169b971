use Rattle.std.proofs.Common.{◌≡◌, ◌+◌, ◌-◌, ◌<◌, length, ap, sym, ◌∙◌, arith}
use Rattle.std.proofs.lemmas.Slice.Eq.{bytes_eq-Decides}
use Rattle.std.proofs.lemmas.Bool.Decides.{not_from_Decides}
use Rattle.aoe_net.specs.Network.{Network}
use Rattle.aoe_net.specs.Store.{frame_of, frames_of}
use Rattle.aoe_net.proofs.StoreLemmas.{found, measures, is-number, within-count, not-here}
use Rattle.aoe_net.proofs.net.Net.newest_equal.Goals as goal

pub loop-index-init : goal.loop-index-init
loop-index-init c = λ k claim.
    let inside = within-count c.args.self.now c.args.frame.now k claim in
    let is = measures c.self.inside.total c.self.inside.frames.items c.self.invariant in
    let sent : length (frames_of c.self.inside.frames.items) ≡ length c.args.self.now.sent = ap (λ (net : Network). length net.sent) c.self.view_is in
    omega (arith, inside.1, is.count, sent, c.len-index.ensures, c.self.inside.frames.ok.0)

pub returns-then-eq-clause-equal : goal.returns-then-eq-clause-equal
returns-then-eq-clause-equal c =
    let kept = c.self.inside.frames.items in
    let frame = c.index.result.now in
    let sent : frames_of kept ≡ c.args.self.now.sent = ap (λ (net : Network). net.sent) c.self.view_is in
    let inside : c.loop-index.index - 1 < length kept =
    omega (arith, c.loop-index.auto.index, c.len-index.ensures, c.self.inside.frames.ok.0, c.loop-index-test.true) in
    let some =
    found kept (c.loop-index.index - 1 + 1) (c.loop-index.index - 1) frame (omega (arith, c.loop-index-test.true)) (omega arith) inside c.index.ensures in
    let given : c.bytes.result.now ≡ (frame_of frame).bytes = c.bytes.ensures in
    let same : c.bytes.result.now ≡ c.args.frame.now = (bytes_eq-Decides c.bytes.result.now c.args.frame.now).0 (sym c.eq.ensures ∙ c.if-eq.true) in
    is-number c.args.self.now c.args.frame.now (c.loop-index.index - 1 + 1) (frame_of frame) (rw (← sent) some) (sym given ∙ same)

pub returns-then-eq-clause-newest : goal.returns-then-eq-clause-newest
returns-then-eq-clause-newest c = λ k claim. omega (arith, c.loop-index.invariant k claim)

pub loop-index-preserved : goal.loop-index-preserved
loop-index-preserved c =
    let kept = c.self.inside.frames.items in
    let frame = c.index.result.now in
    let sent : frames_of kept ≡ c.args.self.now.sent = ap (λ (net : Network). net.sent) c.self.view_is in
    let inside : c.loop-index.index - 1 < length kept =
    omega (arith, c.loop-index.auto.index, c.len-index.ensures, c.self.inside.frames.ok.0, c.loop-index-test.true) in
    let some = found kept c.loop-index.index (c.loop-index.index - 1) frame (omega (arith, c.loop-index-test.true)) (omega arith) inside c.index.ensures in
    let given : c.bytes.result.now ≡ (frame_of frame).bytes = c.bytes.ensures in
    let other : c.bytes.result.now ≡ c.args.frame.now → ⊥ =
    not_from_Decides c.eq.result (rw c.eq.ensures (bytes_eq-Decides c.bytes.result.now c.args.frame.now)) c.if-eq.false in
    not-here c.args.self.now c.args.frame.now c.loop-index.index (frame_of frame) (rw (← sent) some) (λ same. other (given ∙ same)) c.loop-index.invariant

pub returns-clause-none : goal.returns-clause-none
returns-clause-none c = λ k claim.
    let inside = within-count c.args.self.now c.args.frame.now k claim in
    omega (arith, inside.0, c.loop-index.invariant k claim)
