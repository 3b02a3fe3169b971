-- A host's turn, of its two parts.
use Rattle.std.proofs.Common.{◌≡◌, inl, inr, true, List, Option}
use Rattle.aoe_initiator.specs.HostLaw.{IsQuiet}
use Rattle.aoe_history.specs.declared.entry.Entry.{Entry}
use Rattle.aoe_history.specs.Commands.{commands_of, host_after}
use Rattle.aoe_history.specs.Groups.{Got, SendsSome, Turn, TurnSome}
use Rattle.aoe_history.specs.Lawful.{IsLawful}
use Rattle.aoe_history.specs.Setup.{is_called, HostSetup, Setup}
use Rattle.aoe_sim_hosts.specs.Host.{Awaits, SimHost}
use Rattle.aoe_sim_hosts.specs.Turns.{HasBegun, HasSent, HasTold}
use Rattle.aoe_sim_hosts.proofs.Called.{is-called}
use Rattle.aoe_history.specs.Run.{MeetsFull}
use Rattle.aoe_net.specs.declared.refusal.NetLimit.{NetLimit}
use Rattle.aoe_history.proofs.FullLemmas.{full-more}

module _ {s : Setup} {host : HostSetup} {got : Option Got} {h mid : List Entry} {x : SimHost} (tells : HasTold s host got h mid x) where
  called : is_called host x.name ≡ true
  called = is-called s x.name host tells.settled.is.called

  -- nothing more is told or sent
  pub turn-over : (m : List Entry) → HasSent s x.name mid m → IsQuiet (host_after s host m) (commands_of host m) → Turn s host got h m
  turn-over m sent quiet = record {
    name = x.name;
    called = called;
    mid = mid;
    gives_up = tells.gives_up;
    none_late = tells.none_late;
    sends = sent.sends;
    none_next = quiet;
  }

  -- something was sent
  pub turn-sends : (m : List Entry) → HasSent s x.name mid m → TurnSome host got h m × IsLawful s m
  turn-sends m sent = ((x.name, called, inr (inr (mid, tells.gives_up, tells.none_late, sent.sends))), sent.lawful)

  -- the room that is lacking is that for a frame of the turn
  pub turn-full : {limit : NetLimit} (m : List Entry) → MeetsFull s (SendsSome x.name mid) limit m → MeetsFull s (TurnSome host got h) limit m
  turn-full m full =
      full-more s (SendsSome x.name mid) (TurnSome host got h) m (λ n sends. (x.name, called, inr (inr (mid, tells.gives_up, tells.none_late, sends)))) full

-- something was told
pub turn-tells : {s : Setup} {host : HostSetup} {got : Option Got} {h m : List Entry} {x : SimHost} → Awaits s host got h x → HasBegun s host got x.name h m
    → TurnSome host got h m × IsLawful s m
turn-tells {s} {host} {x = x} waits tells = (
  (
    x.name,
    is-called s x.name host waits.is.called,
    elim tells.begun [
      | inl same ↦ inl same
      | inr gives ↦ inr (inl gives)
    ],
  ),
  tells.lawful,
)
