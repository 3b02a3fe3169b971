use Rattle.std.proofs.Common.{◌≡◌, ◌<◌, ◌++◌, [], ◌∷◌, ◌∙◌, ℕ, List, ap, arith, length, map, subst}
use Rattle.aoe_serve.specs.ShelfLink.{with_room}
use Rattle.aoe_serve.proofs.ShelfLinkLemmas.{kept, lost, on_ok}
use Rattle.aoe_serve.proofs.replies.Replies.push.Goals as goal

pub returns-then-len-ge-MAX_WAITING : goal.returns-then-len-ge-MAX_WAITING
returns-then-len-ge-MAX_WAITING c =
    let held = c.self.inside.frames.items in
    let frame = c.args.reply.now.items in
    let full : length held ≡ 64 = omega (arith, c.if-len-ge-MAX_WAITING.true, c.len.ensures.len, c.self.invariant.1) in
    subst (λ (l : List (List ℕ)). l ≡ with_room (l ++ frame ∷ [])) c.self.view_is (lost held (λ f. f.items) frame full)

pub returns : goal.returns
returns c =
    let held = c.self.inside.frames.items in
    let copy = c.refill.new.out in
    let few : length held < 64 = omega (arith, c.if-len-ge-MAX_WAITING.false, c.len.ensures.len) in
    let fits : length held < c.self.inside.frames.capacity = omega (arith, few, c.self.invariant.0) in
    let new = on_ok c.try_push_back.result (c.try_push_back.ensures.variant.1 fits) c.try_push_back.ensures.ok in
    let same = c.refill.ensures ∙ c.as_slice.ensures.value in
    ap (λ b. map (λ f. f.items) b.items) new
    ∙ kept held (λ f. f.items) copy few
    ∙ ap (λ (x : List ℕ). with_room (map (λ f. f.items) held ++ x ∷ [])) same
    ∙ ap (λ (l : List (List ℕ)). with_room (l ++ c.args.reply.now.items ∷ [])) c.self.view_is
