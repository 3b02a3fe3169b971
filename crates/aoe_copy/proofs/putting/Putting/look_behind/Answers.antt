use Rattle.std.proofs.Common.{refl, sym, ◌∙◌}
use Rattle.aoe_copy.proofs.PutStepLemmas.{ends-unread, may-read, past-more, room-is}
use Rattle.aoe_copy.proofs.putting.Putting.look_behind.Goals as goal

pub returns-in-Ok-clause-reads : goal.returns-in-Ok-clause-reads
returns-in-Ok-clause-reads g c = λ s seen steps stands keeps well ticked.
    let may = may-read stands keeps c.requires.may in
    past-more _ stands may.reads well ticked c.in-Ok.ensures.piece refl may (sym (room-is keeps) ∙ c.requires.none) keeps
    refl (rw c.bytes.ensures at c.stage_past-self.ensures)

pub returns-in-Err-clause-reads : goal.returns-in-Err-clause-reads
returns-in-Err-clause-reads g c = λ s seen steps stands keeps well ticked.
    ends-unread c.in-Err.refusal stands well (may-read stands keeps c.requires.may) c.in-Err.ensures.failed c.in-Err.ensures.memory
