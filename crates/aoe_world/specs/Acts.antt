-- What the acts of the code stand for: there places stand for names.
use Rattle.std.specs.Prelude.{ℕ, ◌≡◌, ◌+◌, ◌-◌, ◌^◌, ◌<◌, ◌≤◌, true, false, List, [], length, is_some, position, slice_get, unwrap_or, IfSome}
use Rattle.std.specs.Option.{option_map_or}
use Rattle.arrayvec.specs.ArrayVec.{ArrayVec}
use Rattle.aoe_base.specs.declared.address.TargetId.{TargetId}
use Rattle.aoe_base.specs.Sizes.{longest_frame}
use Rattle.aoe_frame.specs.Header.{fields}
use Rattle.aoe_history.specs.Frames.{clock}
use Rattle.aoe_history.specs.Groups.{Act as Said, Station}
use Rattle.aoe_history.specs.Groups.Act.{Arm, Crash, Hand, Inject, Lose, Submit, Tick}
use Rattle.aoe_history.specs.Groups.Station.{Shelf as ShelfStation, Host as HostStation}
use Rattle.aoe_history.specs.Setup.{is_port, shelf_of, HostSetup, Setup, SlotSetup}
use Rattle.aoe_initiator.specs.declared.op.Op.{Op}
use Rattle.aoe_initiator.specs.HostLaw.{same_id}
use Rattle.aoe_initiator.specs.Op.{CanSubmit}
use Rattle.aoe_world.specs.declared.act.Act.{Act}
use Rattle.aoe_world.specs.declared.act.Act.TheVariants as act
use Rattle.aoe_world.specs.declared.act.At.{At}
use Rattle.aoe_world.specs.declared.act.At.TheVariants as at
use Rattle.aoe_world.specs.declared.sim.Sim.{Sim}
use Rattle.aoe_world.specs.Sim.{IsInside}

-- THE NAMES OF PLACES

abbrev pub name_at : Setup → ℕ → ArrayVec ℕ
name_at s i = record { items = option_map_or (λ (host : HostSetup). host.name) (slice_get s.hosts i) [] }

abbrev pub major_at : List ℕ → ℕ → ℕ
major_at majors i = unwrap_or (slice_get majors i) 0

abbrev pub station_at : Setup → List ℕ → At → Station
station_at s majors (at.Shelf i) = ShelfStation (major_at majors i)
station_at s majors (at.Host i) = HostStation (name_at s i)

abbrev pub id_at : Setup → List ℕ → (shelf slot : ℕ) → TargetId
id_at s majors shelf slot = option_map_or (λ (x : SlotSetup). x.station.id) (slice_get (shelf_of s (major_at majors shelf)) slot) (record { major = 0; minor = 0 })

-- the act of the definitions, which has names
abbrev pub named : Setup → List ℕ → Act → Said
named s majors (act.Submit host dev op) = Submit (name_at s host) dev op
named s majors (act.Tick ms) = Tick ms
named s majors (act.Inject bytes) = Inject bytes
named s majors (act.Arm shelf slot which k mode) = Arm (id_at s majors shelf slot) which k mode
named s majors (act.Crash shelf how) = Crash (major_at majors shelf) how
named s majors (act.Hand frame to) = Hand frame.0 (station_at s majors to)
named s majors (act.Lose frame) = Lose frame.0

-- WHICH ACTS CAN BE DONE

-- the host is there and attached to the device, has a ticket left, and takes such a command
pub record CanAsk (sim : Sim) (host : ℕ) (dev : TargetId) (op : Op) : Type 0 where
  pub there : host < length sim.hosts.items
  pub attached : IfSome (slice_get sim.hosts.items host) (λ x. is_some (position (λ d. same_id d.about.id dev) x.core.devices) ≡ true)
  pub few : IfSome (slice_get sim.hosts.items host) (λ x. x.core.last_ticket < 2 ^ 64 - 1)
  pub allowed : CanSubmit op

-- the slot is there, and the number of calls is one of a script
pub record CanArm (sim : Sim) (shelf slot k : ℕ) : Type 0 where
  pub there : shelf < length sim.shelves.items
  pub inside : IfSome (slice_get sim.shelves.items shelf) (λ x. slot < length x.shelf.targets)
  pub from_one : 0 < k
  pub most : k ≤ 1000

abbrev pub CanAct : Act → Sim → Type 0
CanAct (act.Submit host dev op) sim = CanAsk sim host dev op
CanAct (act.Tick ms) sim = clock sim.run.entries + ms < 2 ^ 64
CanAct (act.Inject bytes) sim = length bytes ≤ longest_frame
CanAct (act.Arm shelf slot which k mode) sim = CanArm sim shelf slot k
CanAct (act.Crash shelf how) sim = shelf < length sim.shelves.items
CanAct (act.Hand frame to) sim = IsInside to sim
CanAct (act.Lose frame) sim = Unit {0}

-- what is injected comes from no station
abbrev pub IsForeign : Setup → Act → Type 0
IsForeign s (act.Inject bytes) = is_port s (fields bytes).src ≡ false
IsForeign s act = Unit {0}
