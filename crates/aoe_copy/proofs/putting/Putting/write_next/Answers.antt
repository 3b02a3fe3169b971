use Rattle.std.proofs.Common.{ap, refl, ◌≡◌, ◌*◌, ◌∙◌, arith, length}
use Rattle.aoe_copy.specs.PutSteps.{pieces, room_after}
use Rattle.aoe_copy.proofs.PutStepLemmas.{ends-unread, full-reads, keeps-fed, last-reads, may-read, room-is}
use Rattle.aoe_copy.proofs.putting.Putting.write_next.Goals as goal

pub returns-in-Ok-clause-reads : goal.returns-in-Ok-clause-reads
returns-in-Ok-clause-reads g c = λ s seen steps stands keeps well ticked.
    let want : 512 * c.args.room ≡ 512 * room_after s.put.plan (pieces steps) = ap (λ n. 512 * n) (c.requires.room ∙ room-is keeps) in
    last-reads _ stands (keeps-fed keeps refl) well ticked (may-read stands keeps c.requires.may) c.in-Ok.ensures.piece want
    (omega (arith, c.requires.room, c.requires.fit.most))
    (rw c.bytes.ensures at c.if-bytes-want.true) c.write_last.result c.write_last.ensures.writes c.write_last.ensures.stage c.write_last.ensures.memory

pub returns-in-Ok-2-clause-reads : goal.returns-in-Ok-2-clause-reads
returns-in-Ok-2-clause-reads g c = λ s seen steps stands keeps well ticked.
    let want : 512 * c.args.room ≡ 512 * room_after s.put.plan (pieces steps) = ap (λ n. 512 * n) (c.requires.room ∙ room-is keeps) in
    full-reads _ stands (keeps-fed keeps refl) well ticked (may-read stands keeps c.requires.may) c.in-Ok.ensures.piece want
    (omega (arith, c.requires.room, c.requires.fit.most))
    (omega (arith, c.requires.some)) (omega (arith, c.if-bytes-want.false, ap (λ l. length l) c.bytes.ensures)) c.submit_write.result
    c.submit_write.ensures.writes c.submit_write.ensures.memory

pub returns-in-Err-clause-reads : goal.returns-in-Err-clause-reads
returns-in-Err-clause-reads g c = λ s seen steps stands keeps well ticked.
    ends-unread c.in-Err.refusal stands well (may-read stands keeps c.requires.may) c.in-Err.ensures.failed c.in-Err.ensures.memory
