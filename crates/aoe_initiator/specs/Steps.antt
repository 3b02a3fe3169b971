-- What the parts of a step make of what a host keeps.
use Rattle.std.specs.Prelude.{ℕ, ◌≡◌, ◌+◌, ◌^◌, ◌<◌, ◌≤◌, ◌&&◌, Bool, true, false, List, ◌∷◌, length, min, nat_le, nat_lt, nat_eq, Option, Some, None, option_map, position, slice_get, All, Contains}
use Rattle.std.specs.List.{find}
use Rattle.aoe_base.specs.declared.counted.Ticket.{Ticket}
use Rattle.aoe_flight.specs.declared.outstanding.Flying.{Flying}
use Rattle.aoe_flight.specs.FlightTable.{after_change, live_at, FlightTable, Recalls}
use Rattle.aoe_flight.specs.Outstanding.{after_repeat, flies_as, launched, IsNextTag}
use Rattle.aoe_flight.specs.declared.outstanding.Outstanding.{Outstanding}
use Rattle.aoe_initiator.specs.declared.device.Device.{Device}
use Rattle.aoe_initiator.specs.declared.device.Route.{Route}
use Rattle.aoe_initiator.specs.declared.pending.Pending.{Pending}
use Rattle.aoe_initiator.specs.declared.step.Sent.{Sent}
use Rattle.aoe_initiator.specs.Devices.{change_at, device_sent, IsRoute}
use Rattle.aoe_initiator.specs.Host.{Host}
use Rattle.aoe_initiator.specs.HostLaw.{has_work, is_flying}
use Rattle.aoe_initiator.specs.HostLog.{wait_of, HostCommand}
use Rattle.aoe_initiator.specs.Op.{span_of}
use Rattle.aoe_initiator.specs.Request.{request}

-- as many commands fly or rest as may
abbrev pub is_full : Host → Bool
is_full host = nat_le host.flight.room (length (live_at host.flight host.clock))

-- the tables aren't ahead of the host's clock
pub record InTime (host : Host) : Type 0 where
  pub flight : host.flight.latest ≤ host.clock
  pub devices : All (λ d. d.holds.latest ≤ host.clock) host.devices

-- what a frame that was sent did to the tags: a repeat gave none, and a first send the next one that no flying or resting command has
abbrev pub GivesTag : Bool → FlightTable → ℕ → ℕ → FlightTable → Type 0
GivesTag true old now tag new = new.last_tag ≡ old.last_tag
GivesTag false old now tag new = (new.last_tag ≡ tag) × IsNextTag (live_at old now) old.last_tag tag

-- the place of the pending command with a ticket
abbrev pub place : Ticket → List Pending → Option ℕ
place ticket pending = position (λ p. nat_eq p.ticket.0 ticket.0) pending

-- the flying command with a ticket is sent again, with its tag
pub record Repeats (old : Host) (ticket : Ticket) (sent : Sent) (frame : List ℕ) (new : Host) : Type 0 where
  pub flying : Flying
  pub at : ℕ
  pub command : Pending
  pub device : Device
  pub route : Route
  pub flies : option_map (λ c. c.flying) (find (flies_as ticket.0) old.flight.commands) ≡ Some flying
  pub found : place ticket old.pending ≡ Some at
  pub there : slice_get old.pending at ≡ Some command
  pub held : slice_get old.devices command.device.0 ≡ Some device
  pub routed : IsRoute device (Some flying.path) route
  pub bytes : frame ≡ request route.flush command.op route.target route.remote route.local flying.tag
  pub is : sent ≡ record { ticket = ticket; tag = flying.tag; path = route.path; again = true }
  pub after : new ≡ record old {
    flight = after_change old.flight ticket.0 (after_repeat (record { 0 = old.clock }) route.path (record { 0 = wait_of route.timeout.0 (min flying.sends 32 + 1) })) old.clock;
    devices = change_at command.device.0 (device_sent ticket (record { 0 = old.clock }) (Some flying.path) route.path) old.devices;
  }

-- a pending command is sent for the first time
pub record Launches (old : Host) (ticket : Ticket) (at : ℕ) (sent : Sent) (frame : List ℕ) (new : Host) : Type 0 where
  pub command : Pending
  pub device : Device
  pub route : Route
  pub there : slice_get old.pending at ≡ Some command
  pub held : slice_get old.devices command.device.0 ≡ Some device
  pub routed : IsRoute device None route
  pub bytes : frame ≡ request route.flush command.op route.target route.remote route.local sent.tag
  pub is : sent ≡ record { ticket = ticket; tag = sent.tag; path = route.path; again = false }
  pub recalls : (before : List Outstanding) → Recalls old.flight before
      → Recalls new.flight (launched ticket sent.tag (record { 0 = old.clock }) route.path (record { 0 = wait_of route.timeout.0 1 }) ∷ before)
  pub after : new ≡ record old {
    flight = new.flight;
    devices = change_at command.device.0 (device_sent ticket (record { 0 = old.clock }) None route.path) old.devices;
  }
  pub flight : new.flight ≡ record old.flight { latest = old.clock; last_tag = sent.tag; commands = new.flight.commands }
  pub room : is_full old ≡ false

-- a command flies and has a ticket above a number
abbrev pub is_flying_above : ℕ → HostCommand → Bool
is_flying_above n c = is_flying c && nat_lt n c.ticket.0

-- of the flying commands with a ticket above a number, the one with the lowest has this ticket and so many sectors
pub record IsNextAbove (n : ℕ) (cs : List HostCommand) (ticket count : ℕ) : Type 0 where
  pub command : HostCommand
  pub there : Contains cs command
  pub flies : is_flying_above n command ≡ true
  pub ticket_is : command.ticket.0 ≡ ticket
  pub count_is : (span_of command.op).count ≡ count
  pub lowest : All (λ other. is_flying_above n other ≡ true → ticket ≤ other.ticket.0) cs

-- from a time on there is something to do, and not before
abbrev pub HasWorkFrom : Host → List HostCommand → ℕ → Type 0
HasWorkFrom host cs from = (now : ℕ) → host.clock ≤ now → now < 2 ^ 64 → has_work host cs now ≡ nat_le from now
