-- What a run of `nbd` serves, what it did, and how it ends.
use Rattle.std.specs.Prelude.{ℕ, ◌≡◌, ◌*◌, ◌<◌, ◌⊎◌, Bool, true, false, List, Option, Result, Ok, Err, unwrap_or}
use Rattle.aoe_base.specs.Names.{device_text}
use Rattle.aoe_block.specs.Steps.{new_start}
use Rattle.aoe_block.specs.Turns.{host_of}
use Rattle.aoe_clients.specs.Clients.{ClientEvent}
use Rattle.aoe_initiator.specs.declared.outcome.Outcome.{Outcome}
use Rattle.aoe_initiator.specs.declared.outcome.Outcome.TheVariants as outcome
use Rattle.aoe_nbd.specs.declared.export.Export.{Export}
use Rattle.aoe_nbd_serve.specs.Account.{ServeSeen, Setting}
use Rattle.aoe_nbd_serve.specs.Ends.{IsServed}
use Rattle.aoe_nbd_serve.specs.declared.terms.ServeEnd.{ServeEnd}
use Rattle.aoe_nbd_serve.specs.declared.terms.ServeEnd.TheVariants as serve
use Rattle.aoe_nbd_serve.specs.declared.terms.Served.{Served}
use Rattle.aoe_nbd_serve.specs.declared.terms.Terms.{Terms}
use Rattle.aoe_tools.specs.Asking.{Answers}
use Rattle.aoe_tools.specs.LookUp.{Finds, LinkState}
use Rattle.aoe_tools.specs.Runs.{Told}
use Rattle.aoe_tools.specs.declared.end.Refusal.TheVariants as refusal
use Rattle.aoe_tools.specs.declared.end.ToolRefusal.{ToolRefusal}
use Rattle.aoe_tools.specs.declared.lookup.Device.{Device}
use Rattle.aoe_args.specs.declared.command.Nbd.{Nbd}
use Rattle.aoe.specs.Tools.{ask_of, lifetimes, most_sectors, tool_status}
use Rattle.aoe.specs.declared.door.Door.{Door}
use Rattle.aoe.specs.declared.status.Status.{Status}
use Rattle.aoe.specs.declared.status.Status.TheVariants as status

-- the export of a device: its name, and its sectors as bytes
abbrev pub export_of : Nbd → Device → Export
export_of asked d = record {
  name = record { items = device_text asked.id };
  size = 512 * d.total;
  read_only = asked.read_only;
  flushes = asked.flushes;
}

-- How a device is served. Nothing is submitted for two lifetimes: by then no frame of an earlier run can arrive, neither its request nor the
-- response to it.
abbrev pub serve_terms : Nbd → Device → Terms
serve_terms asked d = record {
  export = export_of asked d;
  total = d.total;
  max = d.max;
  quarantine = record { 0 = 2 * asked.lifetime };
  once = asked.once;
  idle = unwrap_or asked.idle 0;
}

-- the status where the last flush had this outcome: it was refused, or nobody answered it
abbrev pub unflushed_status : ℕ → Outcome → Status
unflushed_status turns (outcome.AoeError error) = status.Refused (refusal.Aoe error)
unflushed_status turns (outcome.AtaError ata error) = status.Refused (refusal.Ata ata error)
unflushed_status turns (outcome.GaveUp first now) = status.Unanswered turns
unflushed_status turns (outcome.Read bytes) = status.Unanswered turns
unflushed_status turns outcome.Written = status.Unanswered turns
unflushed_status turns outcome.Flushed = status.Unanswered turns
unflushed_status turns (outcome.Told args) = status.Unanswered turns

-- the status of a run that ended so
abbrev pub served_as : ℕ → ServeEnd → Status
served_as turns (serve.Ended why) = status.Ok
served_as turns (serve.Unflushed says) = unflushed_status turns says
served_as turns serve.NoMemory = status.NoMemory
served_as turns serve.LinkFault = status.LinkFault 0
served_as turns serve.LinkEnded = status.Unanswered turns
served_as turns serve.ClientFault = status.ClientFault

-- the statuses that it can end with
abbrev pub is_served_status : Status → Bool
is_served_status status.Ok = true
is_served_status (status.LinkFault link) = true
is_served_status status.NoMemory = true
is_served_status (status.Unanswered turns) = true
is_served_status (status.Refused r) = true
is_served_status status.ClientFault = true
is_served_status s = false

-- what clients, a bell and whoever asks for the end tell, and whether a client is there
pub record DoorSeen : Type 0 where
  pub told : Option (List ClientEvent)
  pub waits : Option (List ℕ)
  pub asked : Option (List Bool)
  pub here : Bool

-- of a door, by what each of the three tells of itself
abbrev pub door_seen : {P B E : Type 0} → (P → Option (List ClientEvent)) → (P → Bool) → (B → Option (List ℕ)) → (E → Option (List Bool)) → Door P B E → DoorSeen
door_seen told connected waits answers door = record {
  told = told door.clients;
  waits = waits door.bell;
  asked = answers door.ending;
  here = connected door.clients;
}

-- what link, clock and door tell together
abbrev pub all_seen : LinkState → Option (List ℕ) → DoorSeen → ServeSeen
all_seen link answers door = record {
  link = record { turns = link.turns; given = link.given; taken = link.taken; answers = answers };
  told = door.told;
  waits = door.waits;
  asked = door.asked;
}

-- where a run begins that serves a device: with a host of its own, which is attached to it
abbrev pub setting_of : Nbd → Device → ServeSeen → Setting
setting_of asked d before = record {
  start = new_start (host_of asked.asking.port (lifetimes asked.lifetime) asked.id d.port d.total d.max d.flush);
  terms = serve_terms asked d;
  before = before;
}

-- the device was served, and the status tells how that ended
pub record Serves (asked : Nbd) (s : Status) (d : Device) (before : ServeSeen) (here : Bool) (now : ServeSeen) : Type 0 where
  pub end : ServeEnd
  pub served : Served
  pub is : IsServed end served here (setting_of asked d before) now
  pub ends : s ≡ served_as asked.asking.turns end

-- nothing was done behind the look-up, and no client was accepted
pub record IsUnserved {D : Type 0} (door door' : D) (mid now : LinkState) (answers answers' : Option (List ℕ)) : Type 0 where
  pub door_is : door' ≡ door
  pub link_is : now ≡ mid
  pub clock_is : answers' ≡ answers

-- there is no memory for a host; or the device is served
abbrev pub MayServe : {D : Type 0} → (D → DoorSeen) → Nbd → Status → Device → D → D → LinkState → LinkState → Option (List ℕ) → Option (List ℕ) → Type 0
MayServe seen asked s d door door' mid now answers answers' =
    ((s ≡ status.NoMemory) × IsUnserved door door' mid now answers answers')
    ⊎ Serves asked s d (all_seen mid answers (seen door)) (seen door').here (all_seen now answers' (seen door'))

-- once the device is found: it tells no number of sectors, or it may be served
abbrev pub ServesAt : {D : Type 0} → (D → DoorSeen) → Result Device ToolRefusal → Nbd → Status → D → D → LinkState → LinkState → Option (List ℕ) → Option (List ℕ) → Type 0
ServesAt seen (Err e) asked s door door' mid now answers answers' = (s ≡ tool_status e) × IsUnserved door door' mid now answers answers'
ServesAt seen (Ok d) asked s door door' mid now answers answers' =
    ((d.total ≡ 0) × (s ≡ status.Refused refusal.Range) × IsUnserved door door' mid now answers answers')
    ⊎ ((0 < d.total) × MayServe seen asked s d door door' mid now answers answers')

-- `nbd` ran over a link, a clock and a door: the device is found, by the clock's first answer, and then served
pub record IsServedTo {D : Type 0} (seen : D → DoorSeen) (asked : Nbd) (s : Status) (door door' : D) (t : Told) : Type 0 where
  pub first : ℕ
  pub later : Option (List ℕ)
  pub answered : Answers first t.least t.answers later
  pub found : Result Device ToolRefusal
  pub mid : LinkState
  pub finds : Finds found (ask_of asked.asking) asked.id first most_sectors (record { turns = t.turns; given = t.given; taken = t.taken }) mid
  pub serves : ServesAt seen found asked s door door' mid (record { turns = t.turns'; given = t.given'; taken = t.taken' }) later t.answers'
