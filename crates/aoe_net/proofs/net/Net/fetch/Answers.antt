use Rattle.std.proofs.Common.{◌≡◌, ◌-◌, ◌<◌, ◌≤◌, ℕ, List, length, get_or, Some, ap, sym, ◌∙◌, arith, subst}
use Rattle.std.proofs.lemmas.Bool.{ltb-false, ltb-true}
use Rattle.aoe_net.specs.declared.net.StoredFrame.{StoredFrame}
use Rattle.aoe_net.specs.Network.{lifetime, Network}
use Rattle.aoe_net.specs.Store.{frame_of, frames_of}
use Rattle.aoe_net.proofs.StoreLemmas.{nothing, missing, found, expired, fresh, numbered-zero}
use Rattle.aoe_net.proofs.net.Net.fetch.Goals as goal

pub returns-in_err-index : goal.returns-in_err-index
returns-in_err-index c =
    let first : c.args.no.0 ≡ 0 = omega (arith, c.in_err-index.ensures) in
    rw (c.from_residual.ensures, first) (nothing c.args.self.now 0 c.args.now.0 (numbered-zero c.args.self.now.sent))

pub returns-in_err-frame : goal.returns-in_err-frame
returns-in_err-frame c =
    let kept = c.self.inside.frames.items in
    let P : List StoredFrame → Type 0 = λ ps. length ps ≤ c.in_ok-index.index in
    let past : length kept ≤ c.in_ok-index.index = subst P c.deref.ensures.value c.in_err-frame.ensures.lookup.3 in
    let sent : frames_of kept ≡ c.args.self.now.sent = ap (λ (net : Network). net.sent) c.self.view_is in
    let none = missing kept c.args.no.0 c.in_ok-index.index c.in_ok-index.ensures.0 c.in_ok-index.ensures.1 past in
    rw c.from_residual-in_err-frame.ensures (nothing c.args.self.now c.args.no.0 c.args.now.0 (rw (← sent) none))

pub returns-then-has_expired : goal.returns-then-has_expired
returns-then-has_expired c =
    let kept = c.self.inside.frames.items in
    let frame = c.in_ok-frame.frame.now in
    let read : (c.in_ok-index.index < length kept) × (frame ≡ get_or kept c.in_ok-index.index frame) =
    rw (← c.deref.ensures.value) (c.in_ok-frame.ensures.lookup.3.0, c.in_ok-frame.ensures.lookup.1) in
    let sent : frames_of kept ≡ c.args.self.now.sent = ap (λ (net : Network). net.sent) c.self.view_is in
    let some = found kept c.args.no.0 c.in_ok-index.index frame c.in_ok-index.ensures.0 c.in_ok-index.ensures.1 read.0 read.1 in
    expired c.args.self.now c.args.no.0 c.args.now.0 (frame_of frame) (rw (← sent) some)
    (ltb-true (lifetime c.args.self.now.life frame.bytes) (c.args.now.0 - frame.birth.0) (sym c.has_expired.ensures ∙ c.if-has_expired.true))

pub returns : goal.returns
returns c =
    let kept = c.self.inside.frames.items in
    let frame = c.in_ok-frame.frame.now in
    let read : (c.in_ok-index.index < length kept) × (frame ≡ get_or kept c.in_ok-index.index frame) =
    rw (← c.deref.ensures.value) (c.in_ok-frame.ensures.lookup.3.0, c.in_ok-frame.ensures.lookup.1) in
    let sent : frames_of kept ≡ c.args.self.now.sent = ap (λ (net : Network). net.sent) c.self.view_is in
    let some = found kept c.args.no.0 c.in_ok-index.index frame c.in_ok-index.ensures.0 c.in_ok-index.ensures.1 read.0 read.1 in
    let young : c.args.now.0 - frame.birth.0 ≤ lifetime c.args.self.now.life frame.bytes =
    ltb-false (lifetime c.args.self.now.life frame.bytes) (c.args.now.0 - frame.birth.0) (sym c.has_expired.ensures ∙ c.if-has_expired.false) in
    ap (λ (bytes : List ℕ). Some bytes) c.bytes.ensures ∙ fresh c.args.self.now c.args.no.0 c.args.now.0 (frame_of frame) (rw (← sent) some) young
