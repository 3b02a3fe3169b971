use Rattle.std.proofs.Common.{arith, refl, sym, ap, take, drop, ◌≡◌, ◌+◌, ◌-◌}
use Rattle.aoe_nbd.proofs.TalkLemmas.{less, takes-option}
use Rattle.aoe_nbd.proofs.handshake.Handshake.take_option.Goals as goal

pub returns-then-bytes-len-clause-proceeds : goal.returns-then-bytes-len-clause-proceeds
returns-then-bytes-len-clause-proceeds c = λ talk leads. (
  refl,
  c.requires.out,
  refl,
  less c.args.self.now c.args.no_zeroes c.args.bytes.now c.in-Some.head c.requires.stage
      (λ i. omega (arith, c.type_inv.bytes i)) (sym c.in-Some.ensures) (omega (arith, c.if-head-gt-MAX_OPTION.false)) c.if-bytes-len.true,
)

pub returns-clause-proceeds : goal.returns-clause-proceeds
returns-clause-proceeds c = λ talk leads. takes-option c.args.export.now talk c.args.self.now c.args.no_zeroes c.args.bytes.now _ c.in-Some.head
    c.answer-event.result c.answer-event.new.out.items c.stage_behind-self-inside.result c.requires.stage
    (λ i. omega (arith, c.type_inv.bytes i)) (sym c.in-Some.ensures) (omega (arith, c.if-head-gt-MAX_OPTION.false)) (omega (arith, c.if-bytes-len.false))
    (let size : 16 + c.in-Some.head.len - 16 ≡ c.in-Some.head.len = omega arith in ap (λ k. take k (drop 16 c.args.bytes.now)) size)
    c.answer-event.ensures.event c.answer-event.ensures.out c.stage_behind-self-inside.ensures leads
