use Rattle.std.proofs.Common.{nat_eq, ◌≡◌, ◌<◌, true, length, drop, Some, None, sym, refl, ◌∙◌, rules}
use Rattle.std.specs.Prelude.{slice_get}
use Rattle.std.proofs.lemmas.List.{take_rest}
use Rattle.std.proofs.lemmas.Option.{slice_get_read}
use Rattle.aoe_frame.specs.Header.{head}
use Rattle.aoe_initiator.specs.declared.pending.Pending.{Pending}
use Rattle.aoe_initiator.specs.HostLaw.{is_response_to}
use Rattle.aoe_initiator.specs.HostLog.{commands, sent_of}
use Rattle.aoe_initiator.specs.Op.{data_len}
use Rattle.aoe_initiator.specs.Response.{answer, CanFill}
use Rattle.aoe_initiator.specs.Steps.{place}
use Rattle.aoe_initiator.proofs.AnswerLemmas.{all-untagged, flyer, flyer-placed, flies-found, found-answer, from-there, if-none, no-path, none-says, not-from-at, HasFlyer}
use Rattle.aoe_initiator.proofs.ListLemmas.{get-there, placed-inside, placed-within}
use Rattle.aoe_initiator.proofs.initiator.Initiator.answered.Goals as goal
use Rattle.aoe_initiator.proofs.initiator.Initiator.answered.Goals.{After-index, In_ok-at}

-- the place of the command, and the command there
placed : (c : In_ok-at) → place c.in_ok-ticket.ticket c.args.self.now.pending ≡ Some c.in_ok-at.at
placed c = rw (← c.self.view_is) (sym c.place_of.ensures ∙ c.in_ok-at.was)

read : (c : After-index) → slice_get c.args.self.now.pending c.in_ok-at.at ≡ Some c.index.result.now
read c =
    let items = c.self.inside.pending.items in
    let there : place c.in_ok-ticket.ticket items ≡ Some c.in_ok-at.at = sym c.place_of.ensures ∙ c.in_ok-at.was in
    let inside : c.in_ok-at.at < length items = placed-within _ items c.in_ok-at.at c.index.result.now there in
    rw (← c.self.view_is) (slice_get_read items (length items) c.in_ok-at.at c.index.result.now refl inside c.index.ensures)

pub returns-in_err-ticket-clause-none : goal.returns-in_err-ticket-clause-none
returns-in_err-ticket-clause-none c =
    let is : head c.args.frame.now ≡ Some c.in_ok-header.header = search rules in
    if-none c.from_residual-in_err-ticket.result c.args.self.now c.args.frame.now (λ log m.
    all-untagged c.args.self.now log c.args.frame.now c.in_ok-header.header is
    (c.in_err-ticket.ensures.none_sent (sent_of (commands log)) (rw (← c.self.view_is) at m.sent)))

pub returns-in_err-at-clause-none : goal.returns-in_err-at-clause-none
returns-in_err-at-clause-none c =
    let missing : place c.in_ok-ticket.ticket c.self.inside.pending.items ≡ None = search rules in
    if-none c.from_residual-in_err-at.result c.args.self.now c.args.frame.now (λ log m.
    let found = flyer (commands log) c.in_ok-header.header.tag c.in_ok-ticket.ticket
    (c.in_ok-ticket.ensures.flying_sent (sent_of (commands log)) (rw (← c.self.view_is) at m.sent)) in
    absurd (flyer-placed c.args.self.now log c.in_ok-header.header.tag c.in_ok-ticket.ticket found.0 m found.1 (rw (← c.self.view_is) missing)))

pub returns-then-not-is_from-clause-none : goal.returns-then-not-is_from-clause-none
returns-then-not-is_from-clause-none c = λ log m.
    let is : head c.args.frame.now ≡ Some c.in_ok-header.header = search rules in
    let found = flyer (commands log) c.in_ok-header.header.tag c.in_ok-ticket.ticket
    (c.in_ok-ticket.ensures.flying_sent (sent_of (commands log)) (rw (← c.self.view_is) at m.sent)) in
    not-from-at c.args.self.now log c.args.frame.now c.in_ok-header.header c.in_ok-ticket.ticket c.in_ok-at.at c.is_from.result found.0 m is
    (rw (← c.self.view_is) c.in_ok-ticket.ensures.only) found.1
    (placed (goal.at.returns-then-not-is_from-clause-none c).In_ok-at) c.if-not-is_from.true c.is_from.ensures

pub returns-in_err-path-clause-none : goal.returns-in_err-path-clause-none
returns-in_err-path-clause-none c =
    let there : place c.in_ok-ticket.ticket c.self.inside.pending.items ≡ Some c.in_ok-at.at =
    sym c.place_of.ensures ∙ c.in_ok-at.was in
    let inside : c.in_ok-at.at < length c.self.inside.pending.items =
    placed-inside (λ (q : Pending). nat_eq q.ticket.0 c.in_ok-ticket.ticket.0) c.self.inside.pending.items c.in_ok-at.at there in
    let p = get-there c.self.inside.pending.items c.in_ok-at.at inside in
    let hears : is_response_to c.args.self.now c.in_ok-header.header ≡ true = sym c.hears.ensures ∙ c.if-not-hears.false in
    if-none c.from_residual-in_err-path.result c.args.self.now c.args.frame.now (λ log m.
    let there : slice_get c.args.self.now.pending c.in_ok-at.at ≡ Some p.0 = rw (← c.self.view_is) p.1 in
    no-path c.args.self.now log c.in_ok-header.header c.in_ok-at.at p.0 m there hears
    (from-there c.args.self.now c.in_ok-header.header c.in_ok-at.at there c.if-not-is_from.false c.is_from.ensures) c.in_err-path.ensures.none)

pub returns-in_err-answer-clause-none : goal.returns-in_err-answer-clause-none
returns-in_err-answer-clause-none c =
    let is : head c.args.frame.now ≡ Some c.in_ok-header.header = search rules in
    let none : answer c.index.result.now.op c.in_ok-header.header (drop 24 c.args.frame.now) ≡ None =
    rw (← (take_rest c.args.frame.now 24)) (sym c.read_answer.ensures.value ∙ c.in_err-answer.was) in
    if-none c.from_residual-in_err-answer.result c.args.self.now c.args.frame.now (λ log m.
    let found = flyer (commands log) c.in_ok-header.header.tag c.in_ok-ticket.ticket
    (c.in_ok-ticket.ensures.flying_sent (sent_of (commands log)) (rw (← c.self.view_is) at m.sent)) in
    let flies : HasFlyer c.args.self.now log c.args.frame.now c.in_ok-header.header c.in_ok-ticket.ticket c.in_ok-at.at c.index.result.now found.0 = record {
      matches = m;
      read = is;
      flies = found.1;
      found = placed (goal.at.returns-in_err-answer-clause-none c).In_ok-at;
      there = read (goal.at.returns-in_err-answer-clause-none c).After-index;
    } in
    none-says flies (rw (← c.self.view_is) c.in_ok-ticket.ensures.only) none)

pub returns-clause-fills : goal.returns-clause-fills
returns-clause-fills c =
    let fills : CanFill c.in_ok-answer.answer (drop 24 c.args.frame.now) (data_len c.index.result.now.op) =
    rw (← (take_rest c.args.frame.now 24)) c.in_ok-answer.ensures.here in
    rw (read (goal.at.returns-clause-fills c).After-index) fills

pub returns-clause-some : goal.returns-clause-some
returns-clause-some c = λ log m.
    let is : head c.args.frame.now ≡ Some c.in_ok-header.header = search rules in
    let given : answer c.index.result.now.op c.in_ok-header.header (drop 24 c.args.frame.now) ≡ Some c.in_ok-answer.answer =
    rw (← (take_rest c.args.frame.now 24)) (sym c.read_answer.ensures.value ∙ c.in_ok-answer.was) in
    let hears : is_response_to c.args.self.now c.in_ok-header.header ≡ true = sym c.hears.ensures ∙ c.if-not-hears.false in
    let found = flyer (commands log) c.in_ok-header.header.tag c.in_ok-ticket.ticket
    (c.in_ok-ticket.ensures.flying_sent (sent_of (commands log)) (rw (← c.self.view_is) at m.sent)) in
    let there = read (goal.at.returns-clause-some c).After-index in
    let flies : HasFlyer c.args.self.now log c.args.frame.now c.in_ok-header.header c.in_ok-ticket.ticket c.in_ok-at.at c.index.result.now found.0 = record {
      matches = m;
      read = is;
      flies = found.1;
      found = placed (goal.at.returns-clause-some c).In_ok-at;
      there = there;
    } in
    found-answer flies c.in_ok-path.path c.in_ok-answer.answer hears
    (from-there c.args.self.now c.in_ok-header.header c.in_ok-at.at there c.if-not-is_from.false c.is_from.ensures) c.in_ok-path.ensures.pair given

pub returns-clause-there : goal.returns-clause-there
returns-clause-there c = placed (goal.at.returns-clause-there c).In_ok-at

pub returns-clause-flies : goal.returns-clause-flies
returns-clause-flies c =
    rw (← c.self.view_is) (flies-found c.in_ok-header.header.tag c.self.inside.flight c.in_ok-ticket.ticket
    (sym c.match_tag.ensures.flying ∙ c.in_ok-ticket.was))
