use Rattle.std.proofs.Common.{ap, refl, subst, sym, ◌∙◌, Some}
use Rattle.aoe_desk.specs.Runs.Call.{Refuses}
use Rattle.aoe_nbd.specs.declared.transmission.Event.{Event}
use Rattle.aoe_nbd_serve.specs.Asking.{room_after, CanDo, Did}
use Rattle.aoe_nbd_serve.proofs.requests.Coming.do_event.Goals as goal

pub returns-in-Came : goal.returns-in-Came
returns-in-Came c = record {
  did = subst (λ (event : Event). Did event c.args.bytes.now c.args.room c.args.transmission.now c.args.transmission.now c.args.self.now c.hand_in.new.self c.args.desk.now c.hand_in.new.desk)
      (sym c.in-Came.is) (record {
        call = Some c.hand_in.ensures.call.0;
        begun = refl;
        room_is = c.hand_in.ensures.room ∙ c.room_after-self.ensures ∙ ap (λ (event : Event). room_after event c.args.room) c.in-Came.is;
        payload_is = c.hand_in.ensures.kept_data;
        handed = c.hand_in.ensures.call.1;
        desk = (c.hand_in.ensures.call.2, c.hand_in.ensures.call.3);
      });
}

pub returns-in-Refused : goal.returns-in-Refused
returns-in-Refused c = record {
  did = subst (λ (event : Event). Did event c.args.bytes.now c.args.room c.args.transmission.now c.args.transmission.now c.args.self.now
      (record c.args.self.now { room = c.room_after-self.result }) c.args.desk.now c.refuse.new.self) (sym c.in-Refused.is) (record {
        call = Some (Refuses c.in-Refused.handle c.in-Refused.error);
        begun = refl;
        room_is = c.room_after-self.ensures ∙ ap (λ (event : Event). room_after event c.args.room) c.in-Refused.is;
        payload_is = refl;
        handed = refl;
        desk = (subst (λ (event : Event). CanDo event c.args.self.now c.args.bytes.now c.args.desk.now) c.in-Refused.is c.requires, c.refuse.ensures);
      });
}
