use Rattle.std.proofs.Common.{◌≡◌, ◌+◌, ◌/◌, ◌≤◌, ◌++◌, ℕ, List, length, false, subst, arith, ◌∙◌}
use Rattle.aoe_desk.specs.Desks.{IsTaken}
use Rattle.aoe_nbd.specs.declared.request.Action.{Action}
use Rattle.aoe_nbd_serve.specs.Asking.{CanHandIn}
use Rattle.aoe_nbd_serve.proofs.HandLemmas.{count-again, handed-flush, handed-read, handed-write}
use Rattle.aoe_nbd_serve.proofs.requests.Coming.hand_in.Goals as goal

pub returns-in-Read-clause-call : goal.returns-in-Read-clause-call
returns-in-Read-clause-call c =
    let can = subst (λ (a : Action). CanHandIn a c.args.self.now c.args.last.now c.args.desk.now) c.in-Read.is c.requires in
    handed-read c.args.request (c.args.self.now.payload.items ++ c.args.last.now) c.in-Read.span.at c.in-Read.span.count c.args.desk.now c.read.new.self c.in-Read.is can.0.room
    (c.read.ensures.taken (omega (arith, can.0.within, count-again c.in-Read.span.count)))

pub returns-in-Write-clause-call : goal.returns-in-Write-clause-call
returns-in-Write-clause-call c =
    let bytes = c.args.self.now.payload.items ++ c.args.last.now in
    let at = c.in-Write.span.at in
    let can = subst (λ (a : Action). CanHandIn a c.args.self.now c.args.last.now c.args.desk.now) c.in-Write.is c.requires in
    let all : c.take_data-data.result ≡ bytes = c.take_data-data.ensures.value ∙ c.keep.ensures.items in
    let taken = subst (λ (b : List ℕ). at + length b / 512 ≤ c.args.desk.now.total → IsTaken c.args.request.handle false c.in-Write.lasts at b c.args.desk.now c.write.new.self) all c.write.ensures.taken in
    handed-write c.args.request bytes at c.in-Write.span.count c.in-Write.lasts c.args.desk.now c.write.new.self c.in-Write.is can.0.room (taken can.0.within)

pub returns-in-Flush-clause-call : goal.returns-in-Flush-clause-call
returns-in-Flush-clause-call c =
    let can = subst (λ (a : Action). CanHandIn a c.args.self.now c.args.last.now c.args.desk.now) c.in-Flush.is c.requires in
    handed-flush c.args.request (c.args.self.now.payload.items ++ c.args.last.now) c.args.desk.now c.flush.new.self c.in-Flush.is can.0 c.flush.ensures.taken
