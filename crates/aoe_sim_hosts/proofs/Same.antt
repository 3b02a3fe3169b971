-- Logs that tell the same, and hosts of which nothing changed that a setup says.
use Rattle.std.proofs.Common.{ℕ, ◌≡◌, List, ◌∷◌, arith, refl, sym, ap, ◌∙◌}
use Rattle.aoe_history.specs.declared.entry.Entry.{Entry}
use Rattle.aoe_history.specs.Commands.{log_of, tickets}
use Rattle.aoe_history.specs.Frames.{clock}
use Rattle.aoe_history.specs.Setup.{host_called, HostSetup, Setup}
use Rattle.aoe_sim_hosts.specs.Host.{IsHost, IsSettled, SimHost, TellsSame}
use Rattle.aoe_initiator.specs.Host.{unfinished, Host, IsSame, Matches}
use Rattle.aoe_initiator.specs.HostLog.{clock as log_clock, Event}
use Rattle.aoe_initiator.specs.HostLog.Event.{Advances}

pub tells-itself : (a : List Event) → TellsSame a a
tells-itself a = record { time = refl; commands_are = refl; paths = λ n. refl }

-- what a host keeps is true of each log that tells the same
pub matches-same : (a b : List Event) (host : Host) → TellsSame a b → Matches a host → Matches b host
matches-same a b host same m = record {
  time = m.time ∙ same.time;
  tickets = rw same.commands_are at m.tickets;
  last = rw same.commands_are at m.last;
  attached = rw same.commands_are at m.attached;
  flew = rw same.commands_are at m.flew;
  pending = m.pending ∙ ap unfinished same.commands_are;
  rest = m.rest;
  room = m.room;
  dead = m.dead;
  sent = rw same.commands_are at m.sent;
  entered = rw same.commands_are at m.entered;
  paths = λ n. rw (same.paths n) at (m.paths n);
}

-- a step keeps what never changes of a host
pub host-same : (s : Setup) (host : HostSetup) (x y : SimHost) → y.name ≡ x.name → IsSame x.core y.core → IsHost s host x → IsHost s host y
host-same s host x y name same is = record {
  called = ap (λ n. host_called s n) name ∙ is.called;
  ports = same.ports ∙ is.ports;
  life = same.life ∙ is.life;
  room = same.room ∙ is.room;
  dead = same.dead ∙ is.dead;
  devices = same.devices ∙ is.devices;
  distinct = is.distinct;
  remotes = is.remotes;
  addresses = is.addresses;
  remote_addresses = is.remote_addresses;
}

-- and what the history says of it, where time, tickets and outcomes stay
abbrev pub Stays : Host → Host → Type 0
Stays a b = IsSame a b × (b.clock ≡ a.clock) × (b.last_ticket ≡ a.last_ticket) × (b.waiting ≡ a.waiting)

pub settled-same : (s : Setup) (host : HostSetup) (h n : List Entry) (x y : SimHost) → y.name ≡ x.name → Stays x.core y.core
    → tickets host n ≡ tickets host h → clock n ≡ clock h → Matches (log_of host n) y.core → IsSettled s host h x → IsSettled s host n y
settled-same s host h n x y name same count time matches settled = record {
  is = host-same s host x y name same.0 settled.is;
  last = same.2 ∙ settled.last ∙ sym count;
  time = same.1 ∙ settled.time ∙ sym time;
  matches = matches;
  waiting = same.3 ∙ settled.waiting;
}

-- a clock that goes on to the time that it has
pub advanced : (log : List Event) (now : ℕ) → log_clock log ≡ now → TellsSame (Advances (record { 0 = now }) ∷ log) log
advanced log now is = record { time = omega arith; commands_are = refl; paths = λ n. refl }
