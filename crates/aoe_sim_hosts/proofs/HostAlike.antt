-- The host law goes by a host's ports, its room, the time and what it knows of its devices: of two hosts that have these alike it says
-- the same.
use Rattle.std.proofs.Common.{ℕ, ◌+◌, ◌*◌, ◌≡◌, Bool, true, false, List, [], ◌∷◌, length, map, Option, Some, None, refl, sym, ◌∙◌}
use Rattle.std.specs.Prelude.{slice_get}
use Rattle.std.specs.Option.{option_and_then, option_map, option_map_or}
use Rattle.std.proofs.lemmas.Option.{slice_get-map}
use Rattle.aoe_base.specs.declared.address.Mac.{Mac}
use Rattle.aoe_base.specs.declared.counted.DeviceNo.{DeviceNo}
use Rattle.aoe_base.specs.declared.counted.PathNo.{PathNo}
use Rattle.aoe_initiator.specs.declared.device.Attached.{Attached}
use Rattle.aoe_initiator.specs.declared.device.Device.{Device}
use Rattle.aoe_initiator.specs.declared.op.Op.{Op}
use Rattle.aoe_initiator.specs.declared.step.Sent.{Sent}
use Rattle.aoe_initiator.specs.Host.{Host}
use Rattle.aoe_initiator.specs.HostLaw.{paths_to, spelled_for, IsFrameOf, IsNext, IsNextBy, IsOnNextPath, IsQuiet}
use Rattle.aoe_initiator.specs.HostLog.{Event, HostCommand}
use Rattle.aoe_initiator.specs.Request.{request}
use Rattle.aoe_paths.specs.PathTable.{pair_at}
use Rattle.aoe_history.specs.declared.entry.Entry.{Entry}
use Rattle.aoe_history.specs.Commands.{commands_of, devices_of, host_after}
use Rattle.aoe_history.specs.Frames.{clock}
use Rattle.aoe_history.specs.Setup.{HostSetup, Setup}
use Rattle.aoe_sim_hosts.specs.Host.{IsHost, SimHost}

pub record IsAlike (a b : Host) : Type 0 where
  pub ports : a.ports ≡ b.ports
  pub life : a.life ≡ b.life
  pub room : a.room ≡ b.room
  pub clock : a.clock ≡ b.clock
  pub abouts : map (λ (d : Device). d.about) a.devices ≡ map (λ (d : Device). d.about) b.devices

abbrev pub about : Option Device → Option Attached
about o = option_map (λ (d : Device). d.about) o

-- what is said of two devices with one setup, or of none
pub both-about : (P : Option Device → Option Device → Type 0) (o p : Option Device) → about o ≡ about p → P None None
    → ((d e : Device) → d.about ≡ e.about → P (Some d) (Some e)) → P o p
both-about P None None same none some = none
both-about P (Some d) (Some e) same none some = some d e cc
both-about P _ _ same none some = absurd cc

module _ {a b : Host} (x : IsAlike a b) where
  about-at : (n : ℕ) → about (slice_get a.devices n) ≡ about (slice_get b.devices n)
  about-at n = rw (← slice_get-map (λ (d : Device). d.about) a.devices n, x.abouts) (slice_get-map (λ (d : Device). d.about) b.devices n)

  -- paths
  paths-alike : (n : ℕ) → paths_to a n ≡ paths_to b n
  paths-alike n =
      let count = λ (ports : List Mac) (o : Option Device). option_map_or (λ (d : Device). length ports * length d.about.remotes.items) o 0 in
      both-about (λ o p. count a.ports o ≡ count b.ports p) _ _ (about-at n) refl (λ d e same. rw (x.ports, same))

  pub path-alike : (log : List Event) (sent : Sent) → IsOnNextPath a log sent → IsOnNextPath b log sent
  path-alike log sent n = record { command = n.command; there = n.there; ticket = n.ticket; next = rw (paths-alike n.command.device.0) at n.next }

  -- frames
  spelled-alike : (op : Op) (device : DeviceNo) (path : PathNo) (tag : ℕ) → spelled_for a op device path tag ≡ spelled_for b op device path tag
  spelled-alike op device path tag =
      let spelled = λ (ports : List Mac) (o : Option Device).
      option_and_then (λ (d : Device). option_map (λ pair. request d.about.flush op d.about.id pair.1 pair.0 tag) (pair_at ports d.about.remotes.items path.0)) o in
      both-about (λ o p. spelled a.ports o ≡ spelled b.ports p) _ _ (about-at device.0) refl (λ d e same. rw (x.ports, same))

  pub frame-alike : (cs : List HostCommand) (sent : Sent) (f : List ℕ) → IsFrameOf a cs sent f → IsFrameOf b cs sent f
  frame-alike cs sent f n = record {
    command = n.command;
    there = n.there;
    ticket = n.ticket;
    bytes = sym (spelled-alike n.command.op n.command.device sent.path sent.tag) ∙ n.bytes;
  }

  -- what may be sent next
  next-by : (t : Bool) (cs : List HostCommand) (sent : Sent) → IsNextBy t a cs sent → IsNextBy t b cs sent
  next-by true cs sent n = record { command = n.command; first_due = rw x.clock at n.first_due; ticket = n.ticket; tag = n.tag }
  next-by false cs sent n = record {
    nothing_due = rw x.clock at n.nothing_due;
    room = rw (x.life, x.clock, x.room) at n.room;
    command = n.command;
    there = n.there;
    ticket = n.ticket;
    clear = rw (x.life, x.clock) at n.clear;
    lowest = rw (x.life, x.clock) at n.lowest;
    free = rw (x.life, x.clock) at n.free;
  }

  pub next-alike : (cs : List HostCommand) (sent : Sent) → IsNext a cs sent → IsNext b cs sent
  next-alike cs sent n = next-by sent.again cs sent n

  pub quiet-alike : (cs : List HostCommand) → IsQuiet a cs → IsQuiet b cs
  quiet-alike cs n = record { nothing_due = rw x.clock at n.nothing_due; nothing_clear = rw (x.life, x.clock, x.room) at n.nothing_clear }

-- A HOST AND WHAT THE HISTORY SAYS OF IT

pub abouts-of : (ports : List Mac) (life now n : ℕ) (cs : List HostCommand) (ds : List Attached)
    → map (λ (d : Device). d.about) (devices_of ports life now cs n ds) ≡ ds
abouts-of ports life now n cs [] = refl
abouts-of ports life now n cs (d ∷ ds) = rw (abouts-of ports life now (n + 1) cs ds)

pub alike : (s : Setup) (host : HostSetup) (h : List Entry) (x : SimHost) → IsHost s host x → x.core.clock ≡ clock h → IsAlike x.core (host_after s host h)
alike s host h x is time = record {
  ports = is.ports;
  life = is.life;
  room = is.room;
  clock = time;
  abouts = is.devices ∙ sym (abouts-of host.ports s.life.requests.0 (clock h) 0 (commands_of host h) host.devices);
}
