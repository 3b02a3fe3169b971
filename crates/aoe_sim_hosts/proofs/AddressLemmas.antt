-- The addresses of a setup's hosts, and of the devices that they are attached to, have six bytes.
use Rattle.std.proofs.Common.{◌≡◌, List, get_or, Some, sym, ◌∙◌, Contains}
use Rattle.std.specs.Prelude.{All}
use Rattle.std.specs.List.{find}
use Rattle.std.proofs.lemmas.List.{get_or_default}
use Rattle.std.proofs.lemmas.List.Folds.{find_at}
use Rattle.aoe_base.specs.declared.address.TargetId.{TargetId}
use Rattle.aoe_base.proofs.AddressLemmas.{holds-each}
use Rattle.aoe_initiator.specs.declared.device.Attached.{Attached}
use Rattle.aoe_initiator.proofs.ListLemmas.{Contains-get}
use Rattle.aoe_history.specs.Setup.{is_slot, HostSetup, IsSetup, Setup, SlotSetup}
use Rattle.aoe_sim_hosts.specs.Host.{AreAddresses}

found : (slots : List SlotSetup) (id : TargetId) (slot : SlotSetup) → find (λ (x : SlotSetup). is_slot x id) slots ≡ Some slot → Contains slots slot
found slots id slot e = Contains-get slots _ slot (sym (find_at (λ (x : SlotSetup). is_slot x id) slots) ∙ e)

pub host-addresses : (s : Setup) (host : HostSetup) → IsSetup s → Contains s.hosts host → AreAddresses host.ports
host-addresses s host setup mine = λ k d below. setup.host_addresses host (get_or host.ports k d) mine (holds-each host.ports k d below)

pub remote-addresses : (s : Setup) (host : HostSetup) → IsSetup s → Contains s.hosts host → All (λ (d : Attached). AreAddresses d.remotes.items) host.devices
remote-addresses s host setup mine = λ k d below.
    let device = get_or host.devices k d in
    let a = setup.attached host device mine (k, below, get_or_default host.devices k device d below) in
    let there = found s.slots device.id a.slot a.there in
    rw a.remotes (λ j b inside. setup.shelf_addresses a.slot (get_or a.slot.station.ports.items j b) there (holds-each a.slot.station.ports.items j b inside))
