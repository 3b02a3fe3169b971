use Rattle.std.proofs.Common.{◌*◌, None, refl, inl}
use Rattle.aoe_desk.specs.declared.request.OpenRequest.{OpenRequest}
use Rattle.aoe_desk.proofs.AdmitLemmas.{admitted, kept_admitted}
use Rattle.aoe_desk.proofs.desk.Desk.admit.Goals as goal

abbrev request : goal.After-push_back_reserved → OpenRequest
request c = record {
  handle = c.args.handle;
  reads = c.args.reads;
  block = c.in-Ok.block;
  parts = c.div_ceil.result;
  lasts = c.args.lasts;
  flush = c.wanted.result;
  under_way = 0;
  last = record { 0 = 0 };
  error = None;
  room = 512 * c.args.count;
}

pub invariant_of-self : goal.invariant_of-self
invariant_of-self c =
    let cut = rw (c.in-Ok.is, ← c.self.view_is) at c.requires.cut in
    let new = admitted (request c) cut.0 c.self.inside.max c.args.count cut.1 c.self.invariant.desk.some (rw c.in-Ok.is at c.requires.kind)
    c.div_ceil.ensures c.wanted.ensures refl refl refl refl cut.2 cut.3 in
    rw (c.push_back_reserved.ensures.items, c.push_back_reserved.ensures.capacity) (kept_admitted c.self.invariant (request c) c.args.count
    (rw (← c.self.view_is) at c.requires.room) cut.2 new)

pub returns-clause-taken : goal.returns-clause-taken
returns-clause-taken c within at bytes size cut =
    let new = admitted (request c) at c.self.inside.max c.args.count bytes c.self.invariant.desk.some (rw c.in-Ok.is at c.requires.kind)
    c.div_ceil.ensures c.wanted.ensures refl refl refl refl size (rw (c.in-Ok.is, ← c.self.view_is) at cut) in
    let device = rw (c.in-Ok.is, ← c.self.view_is) at c.requires.device in
    rw (← c.self.view_is, c.push_back_reserved.ensures.items) (inl (request c, new, device.0, device.1, refl))
