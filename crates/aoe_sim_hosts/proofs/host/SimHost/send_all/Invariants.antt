use Rattle.std.proofs.Common.{◌≡◌, ◌-◌, length}
use Rattle.aoe_net.specs.Network.{most_frames}
use Rattle.aoe_history.specs.Frames.{frames}
use Rattle.aoe_history.specs.Lawful.{IsLawful}
use Rattle.aoe_history.specs.Setup.{HostSetup, Setup}
use Rattle.aoe_sim_hosts.specs.Host.{IsSettled}
use Rattle.aoe_sim_hosts.specs.Ids.{AreIds}
use Rattle.aoe_sim_hosts.specs.Turns.{HasSent}
use Rattle.aoe_sim_hosts.proofs.host.SimHost.send_all.Given as goal

abbrev pub invariant-frames : goal.invariant-frames
invariant-frames l = record {
  ids : AreIds l.self-inside.ids.items l.self-inside.core.devices;
  life : l.run.life ≡ l.fn.run.life;
  name : l.self-inside.name ≡ l.fn.self.name;
  tickets : l.self-inside.core.last_ticket ≡ l.fn.self.core.last_ticket;
  sent : (s : Setup) (host : HostSetup) → IsSettled s host l.fn.run.entries l.fn.self → IsLawful s l.fn.run.entries
      → HasSent s l.fn.self.name l.fn.run.entries l.run.entries × IsSettled s host l.run.entries
      (record { name = l.self-inside.name; core = l.self-inside.core });
}

abbrev pub decreases-frames : goal.decreases-frames
decreases-frames l = most_frames - length (frames l.run.entries)
