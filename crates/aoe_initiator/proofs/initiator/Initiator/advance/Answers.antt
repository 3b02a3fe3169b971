use Rattle.std.proofs.Common.{◌≡◌, ◌<◌, List, [], length, max, None, Some, refl, sym, ap, subst, ◌∙◌, arith, rules, append-nil}
use Rattle.std.proofs.lemmas.List.Edits.{length-remove}
use Rattle.std.specs.List.{remove}
use Rattle.aoe_base.specs.declared.counted.Ticket.{Ticket}
use Rattle.aoe_flight.specs.declared.outstanding.Outstanding.{Outstanding}
use Rattle.aoe_flight.specs.FlightTable.{Recalls}
use Rattle.aoe_flight.specs.Outstanding.{is_expired, lower, IsFirst}
use Rattle.aoe_initiator.specs.declared.pending.Pending.{Pending}
use Rattle.aoe_initiator.specs.Host.{Host}
use Rattle.aoe_initiator.specs.Steps.{place}
use Rattle.aoe_initiator.proofs.ListLemmas.{get-within}
use Rattle.aoe_initiator.proofs.MatchLemmas.{matches-advanced, same-then}
use Rattle.aoe_initiator.proofs.TakeLemmas.{expired-flies, expired-placed, gave-up-more, left-closed}
use Rattle.aoe_initiator.proofs.initiator.Initiator.advance.Goals as goal

-- the flying command with the lowest ticket that has to be given up
abbrev IsFirstExpired : Host → Ticket → Type 0
IsFirstExpired host t = (sent : List Outstanding) → Recalls host.flight sent
    → (o : Outstanding) × (o.ticket ≡ t) × IsFirst (is_expired host.flight.dead host.clock) lower sent o

pub give_up-requires-clause-flies : goal.give_up-requires-clause-flies
give_up-requires-clause-flies c =
    rw (← c.self-in-expired.view_is)
    (expired-flies c.self-in-expired.inside.flight.dead c.self-in-expired.inside.clock.0 c.self-in-expired.inside.flight c.in-Some.ticket
    c.in-Some.ensures.first)

pub expired-smaller : goal.expired-smaller
expired-smaller c =
    let closes = c.give_up.ensures.2 in
    let inside = get-within c.expired.self.pending c.in-Some-place_of.at closes.command closes.there in
    let left : c.give_up.new.self.pending ≡ remove c.expired.self.pending c.in-Some-place_of.at = ap (λ (h : Host). h.pending) closes.after in
    let fewer : length c.give_up.new.self.pending < length c.expired.self.pending =
    omega (arith, length-remove c.expired.self.pending c.in-Some-place_of.at inside, ap (λ (l : List Pending). length l) left) in
    fewer

pub expired-preserved : goal.expired-preserved
expired-preserved c =
    let closes = c.give_up.ensures.2 in
    let step = left-closed c.expired.self c.give_up.new.self c.in-Some-place_of.at None _ closes in
    let found : place c.in-Some.ticket c.self-in-expired.inside.pending.items ≡ Some c.in-Some-place_of.at =
    sym c.place_of.ensures ∙ c.in-Some-place_of.is in
    record {
      clock = step.clock ∙ c.expired.invariant.clock;
      same = same-then c.args.self.now c.expired.self c.give_up.new.self c.expired.invariant.same step.same;
      last = step.last ∙ c.expired.invariant.last;
      tag = ap (λ (h : Host). h.flight.last_tag) closes.after ∙ c.expired.invariant.tag;
      gives_up = gave-up-more c.args.self.now c.expired.self c.give_up.new.self c.args.now c.in-Some.ticket c.in-Some-place_of.at c.expired.invariant.same.dead
          c.expired.invariant.gives_up (rw (← c.self-in-expired.view_is) found) c.give_up.ensures
          (rw (← c.self-in-expired.view_is) c.in-Some.ensures.first_sent);
    }

pub returns-in_default-place_of-clause-gives_up : goal.returns-in_default-place_of-clause-gives_up
returns-in_default-place_of-clause-gives_up c =
    let given = c.expired.invariant.gives_up in
    let none : c.place_of.result ≡ None = search rules in
    let missing : place c.in-Some.ticket c.self-in-expired.inside.pending.items ≡ None =
    sym c.place_of.ensures ∙ none in
    let Q : Host → Type 0 = λ h. IsFirstExpired h c.in-Some.ticket in (
      given.0,
      given.1,
      λ log m.
          let here = given.2 log m in (
            here.0,
            expired-placed c.expired.self _ c.in-Some.ticket here.1 (subst Q c.self-in-expired.view_is c.in-Some.ensures.first_sent)
                (rw (← c.self-in-expired.view_is) missing),
            here.1,
          ),
    )

pub expired-init : goal.expired-init
expired-init c =
    let clock_is : c.max.result ≡ max c.self.inside.clock.0 c.args.now.0 = c.max.ensures in
    let C : Host → Type 0 = λ h. c.max.result ≡ max h.clock c.args.now.0 in
    let now_is = subst C c.self.view_is clock_is in
    record {
      clock = now_is;
      same = rw (← c.self.view_is) (record { ports = refl; life = refl; room = refl; dead = refl; devices = refl });
      last = rw (← c.self.view_is) refl;
      tag = rw (← c.self.view_is) refl;
      gives_up = (
        [],
        rw (← c.self.view_is) (sym (append-nil c.self.inside.done.items)),
        λ log m.
            (tt, matches-advanced log _ c.args.now c.max.result clock_is (rw (← c.self.view_is) at m)),
      );
    }
