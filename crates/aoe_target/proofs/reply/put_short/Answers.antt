use Rattle.std.proofs.Common.{◌≡◌, ◌++◌, ◌∙◌, arith, drop, length}
use Rattle.aoe_frame.specs.Header.{padded}
use Rattle.aoe_target.proofs.PieceLemmas.{short_is}
use Rattle.aoe_target.proofs.reply.put_short.Goals as goal

pub returns : goal.returns
returns c =
    let head = c.put_head.new.out in
    let args = c.args.args.now in
    let none = c.split_at_mut-rest.result.1.now in
    let size : length head ≡ 24 = c.put_head.auto.out ∙ c.split_at_mut-head.ensures.front_len in
    let empty : length none ≡ 0 = omega (arith, c.split_at_mut-rest.ensures.back_len, c.split_at_mut-head.ensures.back_len, c.requires.place) in
    (λ i. head ++ ((c.copy_from_slice-2.ensures.after i ++ drop (length args) (c.copy_from_slice.ensures.after i)) ++ none))
    ∙ short_is head args none size c.requires.args empty ∙ (λ i. padded (c.put_head.ensures i ++ args))
