use Rattle.std.proofs.Common.{ap, refl, sym, ◌∙◌, arith, rules}
use Rattle.std.proofs.lemmas.Bool.{eq-eqb}
use Rattle.slab.specs.Slab.{values}
use Rattle.aoe_flight.specs.FlightTable.{FlightTable}
use Rattle.aoe_flight.specs.Outstanding.{launched}
use Rattle.aoe_flight.proofs.PastLemmas.{past-launched, past-live}
use Rattle.aoe_flight.proofs.SoundLemmas.{count-live, flies-new, forget-value, live-new, live-view, sound-live, sound-new, time-of}
use Rattle.aoe_flight.proofs.RecallLemmas.{free-recalled, recalls-launch}
use Rattle.aoe_flight.proofs.flight.Flight.launch.Goals as goal

pub invariant_of-self : goal.invariant_of-self
invariant_of-self c = (
  sound-live c.self.inside.rest.0 c.args.now.0 c.forget.ensures.values c.forget.ensures.capacity c.self.invariant.0,
  past-live c.self.inside.latest.0 c.self.inside.rest.0 c.args.now.0 (values c.self.inside.commands) _ c.forget.ensures.values
      (time-of (values c.self.inside.commands) c.self.view_is c.args.now.0 c.requires) c.self.invariant.1,
  c.self.invariant.2,
)

pub returns-then-len-self-clause-full : goal.returns-then-len-self-clause-full
returns-then-len-self-clause-full c =
    let room = ap (λ (t : FlightTable). t.room) c.self.view_is in
    rw (live-view (values c.self.inside.commands) c.self.view_is c.args.now.0 c.requires ∙ sym c.forget.ensures.values)
    (omega (arith, room, c.len.ensures, c.if-len-self.true))

pub returns-then-len-self-clause-unchanged : goal.returns-then-len-self-clause-unchanged
returns-then-len-self-clause-unchanged c = forget-value (values c.self.inside.commands) c.self.view_is c.args.now.0 _ c.requires c.forget.ensures.values

pub returns-then-len-self-clause-distinct : goal.returns-then-len-self-clause-distinct
returns-then-len-self-clause-distinct c =
    let sound = sound-live c.self.inside.rest.0 c.args.now.0 c.forget.ensures.values c.forget.ensures.capacity c.self.invariant.0 in
    λ tag. count-live c.self.inside.rest.0 c.args.now.0 (values c.forget.new.self) tag (sound.distinct tag)

pub launch-tag-requires-clause-tags : goal.launch-tag-requires-clause-tags
launch-tag-requires-clause-tags c =
    let sound = sound-live c.self.inside.rest.0 c.args.now.0 c.forget.ensures.values c.forget.ensures.capacity c.self.invariant.0 in
    omega (arith, sound.fits, sound.few)

pub launch-tag-requires-clause-room : goal.launch-tag-requires-clause-room
launch-tag-requires-clause-room c =
    let sound = sound-live c.self.inside.rest.0 c.args.now.0 c.forget.ensures.values c.forget.ensures.capacity c.self.invariant.0 in
    omega (arith, c.len.ensures, c.if-len-self.false, sound.reserved)

pub invariant_of-self-2 : goal.invariant_of-self-2
invariant_of-self-2 c =
    let kept = values c.forget.new.self in
    let sound = sound-live c.self.inside.rest.0 c.args.now.0 c.forget.ensures.values c.forget.ensures.capacity c.self.invariant.0 in
    let later = time-of (values c.self.inside.commands) c.self.view_is c.args.now.0 c.requires in
    let past =
    past-live c.self.inside.latest.0 c.self.inside.rest.0 c.args.now.0 (values c.self.inside.commands) kept c.forget.ensures.values later c.self.invariant.1 in
    let new = launched c.args.ticket c.launch-tag.result c.args.now c.args.path c.args.wait in (
      sound-new new (values c.launch-tag.new.self) c.launch-tag.ensures.values c.launch-tag.ensures.tag.free
          c.launch-tag.ensures.capacity (omega (arith, c.len.ensures, c.if-len-self.false)) sound,
      past-launched c.args.now.0 new kept (values c.launch-tag.new.self) (omega arith) c.launch-tag.ensures.values past,
      c.self.invariant.2,
    )

pub returns-clause-room : goal.returns-clause-room
returns-clause-room c =
    let room = ap (λ (t : FlightTable). t.room) c.self.view_is in
    rw (live-view (values c.self.inside.commands) c.self.view_is c.args.now.0 c.requires ∙ sym c.forget.ensures.values)
    (omega (arith, room, c.len.ensures, c.if-len-self.false))

pub returns-clause-tag : goal.returns-clause-tag
returns-clause-tag c =
    let last = ap (λ (t : FlightTable). t.last_tag) c.self.view_is in
    rw (live-view (values c.self.inside.commands) c.self.view_is c.args.now.0 c.requires ∙ sym c.forget.ensures.values, ← last) c.launch-tag.ensures.tag

pub returns-clause-command : goal.returns-clause-command
returns-clause-command c =
    let new = launched c.args.ticket c.launch-tag.result c.args.now c.args.path c.args.wait in
    let all = rw c.forget.ensures.values at c.launch-tag.ensures.values in
    let alive = live-new c.self.inside.rest.0 c.args.now.0 new (values c.self.inside.commands) (values c.launch-tag.new.self) refl all in
    rw (live-view (values c.self.inside.commands) c.self.view_is c.args.now.0 c.requires, alive) all

pub returns-clause-flies : goal.returns-clause-flies
returns-clause-flies c =
    let new = launched c.args.ticket c.launch-tag.result c.args.now c.args.path c.args.wait in
    let all = rw c.forget.ensures.values at c.launch-tag.ensures.values in
    let alive = live-new c.self.inside.rest.0 c.args.now.0 new (values c.self.inside.commands) (values c.launch-tag.new.self) refl all in
    rw alive (flies-new c.args.ticket.0 new _ (values c.launch-tag.new.self) all (eq-eqb c.args.ticket.0 c.args.ticket.0 refl))

pub returns-clause-distinct : goal.returns-clause-distinct
returns-clause-distinct c =
    let sound = sound-live c.self.inside.rest.0 c.args.now.0 c.forget.ensures.values c.forget.ensures.capacity c.self.invariant.0 in
    let new = launched c.args.ticket c.launch-tag.result c.args.now c.args.path c.args.wait in
    let after = sound-new new (values c.launch-tag.new.self) c.launch-tag.ensures.values c.launch-tag.ensures.tag.free
    c.launch-tag.ensures.capacity (omega (arith, c.len.ensures, c.if-len-self.false)) sound in
    λ tag. count-live c.self.inside.rest.0 c.args.now.0 (values c.launch-tag.new.self) tag (after.distinct tag)

pub returns-clause-same : goal.returns-clause-same
returns-clause-same c = search rules

pub returns-clause-recalls : goal.returns-clause-recalls
returns-clause-recalls c = λ sent recalls.
    recalls-launch c.args.self.now _ sent _ c.args.now.0 c.launch-tag.result refl (returns-clause-same c) (returns-clause-command c) recalls c.requires

pub returns-clause-free : goal.returns-clause-free
returns-clause-free c = λ sent recalls. free-recalled c.args.self.now sent c.args.now.0 c.launch-tag.result recalls c.requires (returns-clause-tag c).free
