use Rattle.std.proofs.Common.{◌≡◌, ◌<◌, ◌+◌, ◌-◌, ◌*◌, length, arith, ◌∙◌}
use Rattle.aoe_block.proofs.CallLemmas.{pending_read, pending_write, piece_length, read_admitted, write_admitted}
use Rattle.aoe_block.proofs.SoundLemmas.{next_some, none_pending}
use Rattle.aoe_block.proofs.block.Block.pending.Goals as goal
use Rattle.aoe_block.proofs.block.Block.pending.Goals.{Else-self-len, In-Ok}

pub returns-then-self-len-clause-value : goal.returns-then-self-len-clause-value
returns-then-self-len-clause-value c =
    let b = c.self.inside in
    let all : b.next ≡ length b.stages.items = c.if-self-len.true ∙ c.len.ensures ∙ b.stages.ok.0 in
    rw (← c.self.view_is, none_pending c.self.invariant all)

-- a part is left
more : (c : Else-self-len) → c.self.inside.next < length c.self.inside.stages.items
more c =
    let len : c.len.result ≡ length c.self.inside.stages.items = c.len.ensures ∙ c.self.inside.stages.ok.0 in
    let within = c.self.invariant.within in
    omega arith

whole : (c : In-Ok) → c.self.inside.next < length c.self.inside.stages.items → length c.in-Ok.bytes ≡ 512 * c.part_span-span.result.count
whole c lt =
    piece_length c.self.invariant lt c.part_span-span.ensures _ c.bytes.ensures (omega arith) c.in-Ok.ensures

pub returns-then-not-self-clause-value : goal.returns-then-not-self-clause-value
returns-then-not-self-clause-value c =
    let b = c.self.inside in
    let lt = more (goal.at.returns-then-not-self-clause-value c).Else-self-len in
    rw (← c.self.view_is) (pending_read c.self.invariant b.write lt c.part_span-span.ensures c.if-not-self.true)

pub returns-in-Ok-clause-value : goal.returns-in-Ok-clause-value
returns-in-Ok-clause-value c =
    let b = c.self.inside in
    let lt = more (goal.at.returns-in-Ok-clause-value c).Else-self-len in
    let start = 512 * b.max * b.next in
    let size : start + 512 * c.part_span-span.result.count - start ≡ 512 * c.part_span-span.result.count = omega arith in
    rw (← c.self.view_is) (pending_write c.self.invariant b.write lt c.part_span-span.ensures c.if-not-self.false
    (start + 512 * c.part_span-span.result.count - start) c.bytes.ensures size c.in-Ok.ensures)

pub returns-then-not-self-clause-admitted : goal.returns-then-not-self-clause-admitted
returns-then-not-self-clause-admitted c =
    rw (← c.self.view_is) (read_admitted c.self.invariant (more (goal.at.returns-then-not-self-clause-admitted c).Else-self-len) c.part_span-span.ensures)

pub returns-in-Ok-clause-whole : goal.returns-in-Ok-clause-whole
returns-in-Ok-clause-whole c =
    let at = goal.at.returns-in-Ok-clause-whole c in
    omega (arith, whole at.In-Ok (more at.Else-self-len))

pub returns-in-Ok-clause-admitted : goal.returns-in-Ok-clause-admitted
returns-in-Ok-clause-admitted c =
    let at = goal.at.returns-in-Ok-clause-admitted c in
    let lt = more at.Else-self-len in
    rw (← c.self.view_is) (write_admitted c.self.invariant lt c.part_span-span.ensures c.in-Ok.bytes (whole at.In-Ok lt))

pub returns-then-not-self-clause-some : goal.returns-then-not-self-clause-some
returns-then-not-self-clause-some c is =
    rw (← c.self.view_is) (next_some c.self.invariant (more (goal.at.returns-then-not-self-clause-some c).Else-self-len))

pub returns-in-Ok-clause-some : goal.returns-in-Ok-clause-some
returns-in-Ok-clause-some c is =
    rw (← c.self.view_is) (next_some c.self.invariant (more (goal.at.returns-in-Ok-clause-some c).Else-self-len))
