-- What the parts of a step make of what a host keeps, put together.
use Rattle.std.proofs.Common.{ℕ, ◌≡◌, ◌+◌, ◌<◌, min, true, false, Option, Some, None, inl, inr, nat_le, List, [], ◌∷◌, ◌++◌, length, get_or, refl, ap, subst, ◌∙◌, arith}
use Rattle.std.specs.Prelude.{option_map, slice_get}
use Rattle.std.specs.List.{find, remove}
use Rattle.std.specs.Option.{option_map_or}
use Rattle.std.proofs.lemmas.Bool.{cases_Bool, leb-true}
use Rattle.std.proofs.lemmas.Option.{slice_get_read}
use Rattle.aoe_base.specs.declared.counted.Millis.{Millis}
use Rattle.aoe_base.specs.declared.counted.PathNo.{PathNo}
use Rattle.aoe_base.specs.declared.counted.Ticket.{Ticket}
use Rattle.aoe_hold.specs.Commands.{unsent_count}
use Rattle.aoe_flight.specs.declared.outstanding.Flying.{Flying}
use Rattle.aoe_flight.specs.FlightTable.{after_change, live_at, FlightTable, Recalls}
use Rattle.aoe_flight.specs.Outstanding.{after_finish, after_repeat, flies_as, launched}
use Rattle.aoe_flight.specs.declared.outstanding.Outstanding.{Outstanding}
use Rattle.aoe_initiator.specs.declared.device.Arrival.{Arrival}
use Rattle.aoe_initiator.specs.declared.device.Device.{Device}
use Rattle.aoe_initiator.specs.declared.device.Route.{Route}
use Rattle.aoe_initiator.specs.declared.outcome.Done.{Done}
use Rattle.aoe_initiator.specs.declared.outcome.Outcome.{Outcome}
use Rattle.aoe_initiator.specs.declared.pending.Pending.{Pending}
use Rattle.aoe_initiator.specs.Devices.{change_at, device_finished, device_sent, IsRoute}
use Rattle.aoe_initiator.specs.Host.{Closes, Host}
use Rattle.aoe_initiator.specs.HostLog.{wait_of}
use Rattle.aoe_initiator.specs.Request.{request}
use Rattle.aoe_initiator.specs.Steps.{place, Launches, Repeats}

pub closes-from : (old : Host) (at : ℕ) (p : Pending) (came : Option Arrival) (outcome : Outcome) (flight : FlightTable) (devices : List Device)
    (pending : List Pending) (waiting : List Done) → at < length old.pending → p ≡ get_or old.pending at p
    → flight ≡ after_change old.flight p.ticket.0 after_finish old.flight.latest → devices ≡ change_at p.device.0 (device_finished p.ticket came) old.devices
    → pending ≡ remove old.pending at
    → waiting ≡ old.waiting ++ record { ticket = p.ticket; outcome = outcome } ∷ []
    → Closes old at came outcome (record old { flight = flight; devices = devices; pending = pending; waiting = waiting })
closes-from old at p came outcome flight devices pending waiting inside read flight_is devices_is pending_is waiting_is = record {
  command = p;
  there = slice_get_read old.pending (length old.pending) at p refl inside read;
  after = rw (flight_is, devices_is, pending_is, waiting_is) refl;
}

not-full : (a b : ℕ) → b < a → nat_le a b ≡ false
not-full a b less = elim (cases_Bool (nat_le a b)) [
  | inl yes_le ↦ absurd (omega (arith, leb-true a b yes_le, less))
  | inr no_le ↦ no_le
]

-- the command that waits at a place, its device, and the way that its next frame takes
pub record Goes (old : Host) (at : ℕ) (missed : Option PathNo) (p : Pending) (d : Device) (route : Route) : Type 0 where
  pub there : slice_get old.pending at ≡ Some p
  pub held : slice_get old.devices p.device.0 ≡ Some d
  pub routed : IsRoute d missed route

pub launches-from : (old : Host) (t : Ticket) (at tag : ℕ) {p : Pending} {d : Device} {route : Route} (frame : List ℕ) (wait : Millis) (flight : FlightTable)
    (devices : List Device) → Goes old at None p d route → frame ≡ request route.flush p.op route.target route.remote route.local tag
    → devices ≡ change_at p.device.0 (device_sent t (record { 0 = old.clock }) None route.path) old.devices
    → flight ≡ record old.flight { latest = old.clock; last_tag = tag; commands = flight.commands } → length (live_at old.flight old.clock) < old.flight.room
    → wait.0 ≡ wait_of route.timeout.0 1
    → ((before : List Outstanding) → Recalls old.flight before → Recalls flight (launched t tag (record { 0 = old.clock }) route.path wait ∷ before))
    → Launches old t at (record { ticket = t; tag = tag; path = route.path; again = false }) frame (record old { flight = flight; devices = devices })
launches-from old t at tag {p} {d} {route} frame wait flight devices goes bytes devices_is flight_is room wait_is recalls = record {
  command = p;
  device = d;
  route = route;
  there = goes.there;
  held = goes.held;
  routed = goes.routed;
  bytes = bytes;
  is = refl;
  recalls = rw (← wait_is) recalls;
  after = rw devices_is refl;
  flight = flight_is;
  room = not-full old.flight.room (length (live_at old.flight old.clock)) room;
}

pub repeats-from : (old : Host) (t : Ticket) (at : ℕ) (f : Flying) {p : Pending} {d : Device} {route : Route} (frame : List ℕ) (wait : Millis)
    (flight : FlightTable) (devices : List Device) → place t old.pending ≡ Some at → Goes old at (Some f.path) p d route
    → option_map (λ c. c.flying) (find (flies_as t.0) old.flight.commands) ≡ Some f
    → frame ≡ request route.flush p.op route.target route.remote route.local f.tag → wait.0 ≡ wait_of route.timeout.0 (min f.sends 32 + 1)
    → flight ≡ after_change old.flight t.0 (after_repeat (record { 0 = old.clock }) route.path wait) old.clock
    → devices ≡ change_at p.device.0 (device_sent t (record { 0 = old.clock }) (Some f.path) route.path) old.devices
    → Repeats old t (record { ticket = t; tag = f.tag; path = route.path; again = true }) frame (record old { flight = flight; devices = devices })
repeats-from old t at f {p} {d} {route} frame wait flight devices found goes flies bytes wait_is flight_is devices_is =
    let P : ℕ → FlightTable = λ w. after_change old.flight t.0 (after_repeat (record { 0 = old.clock }) route.path (record { 0 = w })) old.clock in
    record {
      flying = f;
      at = at;
      command = p;
      device = d;
      route = route;
      flies = flies;
      found = found;
      there = goes.there;
      held = goes.held;
      routed = goes.routed;
      bytes = bytes;
      is = refl;
      after = rw (devices_is, flight_is ∙ ap P wait_is) refl;
    }

pub held-less : (devices : List Device) (n : ℕ) (d : Device) → slice_get devices n ≡ Some d
    → option_map_or (λ (e : Device). unsent_count e.holds.commands) (slice_get devices n) 0 < 65536 → unsent_count d.holds.commands < 4294967295
held-less devices n d there few =
    let P : Option Device → Type 0 = λ o. option_map_or (λ (e : Device). unsent_count e.holds.commands) o 0 < 65536 in
    let less : unsent_count d.holds.commands < 65536 = subst P there few in
    omega (arith, less)
