use Rattle.std.proofs.Common.{ℕ, ◌-◌, ◌%◌, List, take, ap, ◌∙◌, arith}
use Rattle.aoe_copy.proofs.FeedLemmas.{lent-whole, piece-of}
use Rattle.aoe_copy.proofs.feed.Feed.piece.Goals as goal

pub returns-clause-piece : goal.returns-clause-piece
returns-clause-piece g c =
    piece-of _ _ c.fill.new.out c.from_vec.result c.in-Ok-fill.n c.args.want (omega (arith, c.fill.auto.out, c.as_mut_slice.ensures.len, c.in-Ok.ensures.len))
    (omega (arith, c.in-Ok-fill.ensures.within, c.as_mut_slice.ensures.len, c.in-Ok.ensures.len)) c.in-Ok-fill.ensures.fed
    (λ less. c.in-Ok-fill.ensures.short (omega (arith, less, c.as_mut_slice.ensures.len, c.in-Ok.ensures.len))) (c.from_vec.ensures ∙ c.truncate.ensures.items
    ∙ ap (λ (l : List ℕ). take (c.in-Ok-fill.n - c.in-Ok-fill.n % 512) l)
    (lent-whole c.fill.new.out c.in-Ok.piece.items c.in-Ok.piece.len (omega (arith, c.fill.auto.out, c.as_mut_slice.ensures.len))))
