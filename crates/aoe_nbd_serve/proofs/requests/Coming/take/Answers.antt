use Rattle.std.proofs.Common.{ℕ, subst, sym, take, ◌∙◌}
use Rattle.aoe_desk.specs.Desks.{HasRoom}
use Rattle.aoe_nbd_serve.specs.Asking.{Did}
use Rattle.aoe_nbd_serve.proofs.AskLemmas.{can-do, kept-after, not-more, takes-by, Laws}
use Rattle.aoe_nbd_serve.proofs.requests.Coming.take.Goals as goal

pub do_event-requires : goal.do_event-requires
do_event-requires c =
    let k = c.requires.kept in
    let laws : Laws = record { reads = c.request_reads_back.ensures; carries = c.what_is_carried_out.ensures } in
    let has = subst (λ (n : ℕ). HasRoom n c.args.desk.now) c.room_needed-room.ensures (c.has_room.ensures.value.0 c.if-not-has_room.false) in
    can-do laws c.args.export.now c.args.transmission.now c.take-taken.new.self c.args.self.now c.args.desk.now c.bytes-front.result.now c.take-taken.result.len c.take-taken.result.event k
    (c.take-taken.ensures.follows k.past k.stands) has c.requires.size

pub returns-clause-takes : goal.returns-clause-takes
returns-clause-takes c = λ some. takes-by c.args.export.now c.take-taken.result.event c.args.transmission.now c.take-taken.new.self c.do_event.new.transmission c.bytes-front.result.now c.args.input.now
    c.drop_front.new.self c.take-taken.result.len c.room_needed-room.result c.args.self.now c.do_event.new.self c.args.desk.now c.do_event.new.desk c.bytes-front.ensures c.take-taken.ensures.follows
    c.do_event.ensures.did c.drop_front.ensures

pub returns-clause-kept : goal.returns-clause-kept
returns-clause-kept c =
    let k = c.requires.kept in
    let laws : Laws = record { reads = c.request_reads_back.ensures; carries = c.what_is_carried_out.ensures } in
    kept-after laws c.args.export.now c.args.transmission.now c.take-taken.new.self c.do_event.new.transmission c.args.self.now c.do_event.new.self c.args.desk.now c.do_event.new.desk
    c.bytes-front.result.now c.take-taken.result.len c.take-taken.result.event k (c.take-taken.ensures.follows k.past k.stands)
    (subst (λ (n : ℕ). Did c.take-taken.result.event (take c.take-taken.result.len c.bytes-front.result.now) n c.take-taken.new.self c.do_event.new.transmission c.args.self.now c.do_event.new.self
    c.args.desk.now c.do_event.new.desk) c.room_needed-room.ensures c.do_event.ensures.did)
    (not-more c.take-taken.result.event (sym c.is_more.ensures ∙ c.if-is_more.false))

pub returns-clause-more : goal.returns-clause-more
returns-clause-more c = λ is. absurd (not-more c.take-taken.result.event (sym c.is_more.ensures ∙ c.if-is_more.false) is)
