use Rattle.std.proofs.Common.{ℕ, ◌∙◌, ap, zero-add}
use Rattle.aoe_hold.specs.Commands.{unsent_count}
use Rattle.aoe_initiator.specs.HostLog.{commands, entered_at}
use Rattle.aoe_initiator.proofs.DeviceLemmas.{held-recalled}
use Rattle.aoe_initiator.proofs.law.held_law.Goals as goal

pub returns : goal.returns
returns c log host n m inside =
    held-recalled host.life.requests.0 (commands log) 0 n host.devices m.entered inside
    ∙ ap (λ (k : ℕ). unsent_count (entered_at k (commands log))) (zero-add n)
