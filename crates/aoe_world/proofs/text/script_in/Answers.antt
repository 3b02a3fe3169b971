-- A text is refused for the cause that its lines have, and for its length only where it is too long.
use Rattle.std.proofs.Common.{ap, Err}
use Rattle.aoe_world.proofs.TextLemmas.{refused_text}
use Rattle.aoe_world.proofs.text.script_in.Goals as goal

pub returns-in-Err-clause-refused : goal.returns-in-Err-clause-refused
returns-in-Err-clause-refused c =
    rw c.refused_as.ensures (refused_text c.args.text.now c.in-Err.refusal c.in-Err.ensures.cause (λ e. c.in-Err.ensures.memory (ap Err e)))
