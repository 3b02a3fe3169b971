use Rattle.std.proofs.Common.{◌≡◌, ◌+◌, ◌<◌, ◌∷◌, ◌++◌, [], List, length, Some, ap, refl, set, ◌∙◌, arith, rules}
use Rattle.std.specs.Prelude.{slice_get}
use Rattle.std.proofs.lemmas.Option.{slice_get_read}
use Rattle.aoe_hold.specs.declared.command.Command.{Command}
use Rattle.aoe_hold.specs.HoldTable.{new_command, with_command}
use Rattle.aoe_initiator.specs.declared.pending.Pending.{Pending}
use Rattle.aoe_initiator.specs.Devices.{change_at}
use Rattle.aoe_initiator.specs.Host.{IsSendable}
use Rattle.aoe_initiator.specs.Op.{kind_of, span_of}
use Rattle.aoe_initiator.proofs.DeviceLemmas.{about-change_at, device_entered, set-change_at}
use Rattle.aoe_initiator.proofs.MatchLemmas.{matches-submitted}
use Rattle.aoe_initiator.proofs.SoundLemmas.{sound-submitted}
use Rattle.aoe_initiator.proofs.StepLemmas.{held-less}
use Rattle.aoe_initiator.proofs.initiator.Initiator.submit.Goals as goal

pub enter-requires-clause-room : goal.enter-requires-clause-room
enter-requires-clause-room c =
    let inside : c.args.device.0 < length c.self.inside.devices.items = rw (← c.self.view_is) at c.requires.attached in
    let there : slice_get c.self.inside.devices.items c.args.device.0 ≡ Some c.index_mut.result.now =
    slice_get_read c.self.inside.devices.items
    (length c.self.inside.devices.items) c.args.device.0 c.index_mut.result.now refl inside c.index_mut.ensures.value in
    held-less c.self.inside.devices.items c.args.device.0 c.index_mut.result.now there (rw (← c.self.view_is) at c.in_default.ensures.room)

pub invariant_of-self-2 : goal.invariant_of-self-2
invariant_of-self-2 c =
    let inside : c.args.device.0 < length c.self.inside.devices.items = rw (← c.self.view_is) at c.requires.attached in
    let command : Command = new_command (record { 0 = c.self.inside.last_ticket.0 + 1 }) c.kind.result c.span.result in
    let entered : c.enter.new.self ≡ with_command c.index_mut.result.now.holds command = search rules in
    let changed : set c.self.inside.devices.items c.args.device.0
    (record { about = c.index_mut.result.now.about; holds = c.enter.new.self; paths = c.index_mut.result.now.paths }) ≡ change_at c.args.device.0
    (device_entered command) c.self.inside.devices.items =
    rw entered (set-change_at c.self.inside.devices.items c.args.device.0 c.index_mut.result.now (device_entered command) inside c.index_mut.ensures.value) in
    let p : Pending = record { ticket = record { 0 = c.self.inside.last_ticket.0 + 1 }; device = c.args.device; op = c.args.op; room = c.in-Ok.room } in
    let pushed : c.push_back_reserved.new.self.items ≡ c.self.inside.pending.items ++ p ∷ [] =
    c.push_back_reserved.ensures.items ∙ ap (λ (l : List Pending). l ++ p ∷ []) c.make_room.ensures.pending in
    let kept = ap (λ (l : List Pending). length l) c.make_room.ensures.pending in
    let waiting = ap length c.make_room.ensures.done in
    let ready : IsSendable (length c.self.inside.devices.items) p =
    record { inside = inside; spelled = c.in_default.ensures.spelled; room = c.in-Ok.ensures.room ∙ c.data_len.ensures } in
    rw (changed, pushed, c.make_room.ensures.done)
    (sound-submitted c.self.invariant c.args.device.0 command p _ refl refl ready (omega (arith, c.in-Ok.ensures.outcomes, kept, waiting)))

pub returns-clause-matches : goal.returns-clause-matches
returns-clause-matches c = λ log m.
    let inside : c.args.device.0 < length c.self.inside.devices.items = rw (← c.self.view_is) at c.requires.attached in
    let command : Command = new_command (record { 0 = c.self.inside.last_ticket.0 + 1 }) (kind_of c.args.op) (span_of c.args.op) in
    let entered : c.enter.new.self ≡ with_command c.index_mut.result.now.holds command = search rules in
    let changed : set c.self.inside.devices.items c.args.device.0
    (record { about = c.index_mut.result.now.about; holds = c.enter.new.self; paths = c.index_mut.result.now.paths }) ≡ change_at c.args.device.0
    (device_entered command) c.self.inside.devices.items =
    rw entered (set-change_at c.self.inside.devices.items c.args.device.0 c.index_mut.result.now (device_entered command) inside c.index_mut.ensures.value) in
    let p : Pending = record { ticket = record { 0 = c.self.inside.last_ticket.0 + 1 }; device = c.args.device; op = c.args.op; room = c.in-Ok.room } in
    let pushed : c.push_back_reserved.new.self.items ≡ c.self.inside.pending.items ++ p ∷ [] =
    c.push_back_reserved.ensures.items ∙ ap (λ (l : List Pending). l ++ p ∷ []) c.make_room.ensures.pending in
    matches-submitted log _ _ (record { 0 = c.self.inside.last_ticket.0 + 1 }) c.args.device c.args.op c.in-Ok.room (rw (← c.self.view_is) at m) refl inside
    (rw (changed, pushed, c.make_room.ensures.done) refl)

pub returns-clause-same : goal.returns-clause-same
returns-clause-same c =
    let inside : c.args.device.0 < length c.self.inside.devices.items = rw (← c.self.view_is) at c.requires.attached in
    let command : Command = new_command (record { 0 = c.self.inside.last_ticket.0 + 1 }) (kind_of c.args.op) (span_of c.args.op) in
    let entered : c.enter.new.self ≡ with_command c.index_mut.result.now.holds command = search rules in
    let changed : set c.self.inside.devices.items c.args.device.0
    (record { about = c.index_mut.result.now.about; holds = c.enter.new.self; paths = c.index_mut.result.now.paths }) ≡ change_at c.args.device.0
    (device_entered command) c.self.inside.devices.items =
    rw entered (set-change_at c.self.inside.devices.items c.args.device.0 c.index_mut.result.now (device_entered command) inside c.index_mut.ensures.value) in
    rw (← c.self.view_is) (
      record {
        ports = refl;
        life = refl;
        room = refl;
        dead = refl;
        devices = rw changed (about-change_at c.args.device.0 (device_entered command) c.self.inside.devices.items (λ d. refl));
      },
      refl,
      refl,
      c.make_room.ensures.done,
    )

pub returns-clause-no_tag : goal.returns-clause-no_tag
returns-clause-no_tag c = rw (← c.self.view_is) refl
