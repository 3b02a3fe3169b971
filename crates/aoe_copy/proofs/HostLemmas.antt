-- The host of a copy before its first step.
use Rattle.std.proofs.Common.{ℕ, ◌≡◌, [], ap}
use Rattle.aoe_base.specs.declared.address.Mac.{Mac}
use Rattle.aoe_base.specs.declared.address.TargetId.{TargetId}
use Rattle.aoe_base.specs.declared.counted.Lifetimes.{Lifetimes}
use Rattle.aoe_block.specs.Answered.{IsStart}
use Rattle.aoe_block.specs.Turns.{host_of}
use Rattle.aoe_block.proofs.TagLemmas.{tagged-none}
use Rattle.aoe_initiator.specs.declared.op.FlushCommand.{FlushCommand}
use Rattle.aoe_initiator.specs.Host.{Host, Matches}
use Rattle.aoe_block.specs.Steps.{new_start}

pub starts-new : (port : Mac) (life : Lifetimes) (id : TargetId) (remote : Mac) (total max : ℕ) {flush : FlushCommand} {host : Host}
    → host ≡ host_of port life id remote total max flush → Matches [] host → IsStart (new_start host)
starts-new port life id remote total max {flush} {host} is m =
    record { matches = m; tags = rw (ap (λ (h : Host). h.flight.last_tag) is) tagged-none }
