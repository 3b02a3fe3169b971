use Rattle.aoe_history.specs.CommandView.{sends_of}
use Rattle.aoe_history.proofs.hosts.AskedLemmas.{asked-of}
use Rattle.aoe_history.proofs.hosts.HostLemmas.{holds-of, known-of}
use Rattle.aoe_history.proofs.sectors.AtLemmas.{some-there}
use Rattle.aoe_history.proofs.commands.host_commands_law.Goals as goal

pub returns : goal.returns
returns c = record {
  commands = λ s host h x. (known-of s host h x).list;
  askable = asked-of;
  sent_once_submitted = λ s host h x. (holds-of s host h x).base.bounds;
  sent_by_now = λ s host h x. (holds-of s host h x).base.last;
  done_once_sent = λ s host h x. (holds-of s host h x).base.done;
  in_order = λ s host h x later earlier sent above lt conflict.
      let y = some-there (sends_of host h later) sent in (holds-of s host h x).base.order later earlier y.0 y.1 above lt conflict;
  earlier_gone = λ s host h x later earlier a b sent before lt conflict effect rests.
      let k = holds-of s host h x in k.gone later earlier a b sent before (k.base.bounds earlier b before).0 lt conflict effect rests;
  tags_differ = λ s host h x. (holds-of s host h x).base.tags;
}
