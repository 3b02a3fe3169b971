use Rattle.std.proofs.Common.{arith, refl, ap, ◌∙◌}
use Rattle.aoe_history.specs.Groups.SendsSome.{sends_none}
use Rattle.aoe_history.specs.Run.{Recorded}
use Rattle.aoe_sim_hosts.specs.Host.{SimHost}
use Rattle.aoe_sim_hosts.proofs.IdLemmas.{ids-same}
use Rattle.aoe_sim_hosts.proofs.SendLemmas.{sends-full, sent-more, settled-quiet, Pulled}
use Rattle.aoe_sim_hosts.proofs.host.SimHost.send_all.Goals as goal
use Rattle.aoe_sim_hosts.proofs.host.SimHost.send_all.Goals.{After-send}

pub frames-init : goal.frames-init
frames-init c = record {
  ids = c.self.invariant;
  life = refl;
  name = ap (λ (x : SimHost). x.name) c.self.view_is;
  tickets = ap (λ (x : SimHost). x.core.last_ticket) c.self.view_is;
  sent = λ s host settled lawful. (record { sends = sends_none; lawful = lawful }, rw c.self.view_is settled);
}

pub invariant_of-self : goal.invariant_of-self
invariant_of-self c =
    ids-same c.frames.self-inside.ids.items c.frames.self-inside.core.devices c.pull.new.self.devices c.in-Some.ensures.same.0.devices c.frames.invariant.ids

pub invariant_of-self-in_default : goal.invariant_of-self-in_default
invariant_of-self-in_default c =
    ids-same c.frames.self-inside.ids.items c.frames.self-inside.core.devices c.pull.new.self.devices c.pull.ensures.same.0.devices c.frames.invariant.ids

pulled : (c : After-send) → Pulled c.frames.self-inside.core c.in-Some.sent c.pull.new.out.items c.pull.new.self
pulled c =
    let step = c.in-Some.ensures in
    record { next = step.next; frame = step.frame; path = step.path; sends = step.sends; same = step.same; small = omega arith }

pub frames-preserved : goal.frames-preserved
frames-preserved c =
    let step = c.in-Some.ensures in
    let i = c.frames.invariant in
    let more = rw c.as_slice.ensures.value at c.in-Ok.ensures.ok in
    record {
      ids = ids-same c.frames.self-inside.ids.items c.frames.self-inside.core.devices c.pull.new.self.devices step.same.0.devices i.ids;
      life = ap (λ (r : Recorded). r.life) more ∙ i.life;
      name = i.name;
      tickets = step.same.2 ∙ i.tickets;
      sent = λ s host settled lawful.
          sent-more i.name (pulled c.before) (i.sent s host settled lawful) c.send.new.self.entries (ap (λ (r : Recorded). r.entries) more);
    }

pub returns-in-Err-clause-some : goal.returns-in-Err-clause-some
returns-in-Err-clause-some c = λ s host settled lawful. rw c.in-Err.ensures.err (c.frames.invariant.sent s host settled lawful).0

pub returns-in-Err-clause-full : goal.returns-in-Err-clause-full
returns-in-Err-clause-full c = λ limit is_full s host settled lawful.
    let i = c.frames.invariant in
    rw c.in-Err.ensures.err
    (sends-full i.name (pulled c.before) (i.sent s host settled lawful) c.frames.run.life
    (rw c.as_slice.ensures.value at (c.in-Err.ensures.full limit is_full)))

pub returns-clause-some : goal.returns-clause-some
returns-clause-some c = λ s host settled lawful. (c.frames.invariant.sent s host settled lawful).0

pub returns-clause-ok : goal.returns-clause-ok
returns-clause-ok c = λ s host settled lawful.
    let d = c.in_default.ensures in
    settled-quiet s host c.frames.run.entries _ c.pull.new.self (c.frames.invariant.sent s host settled lawful).1 d.quiet d.stays d.same
