-- The setup of good lines is one.
use Rattle.std.proofs.Common.{ℕ, ◌≡◌, ◌∙◌, true, List, length, All, Some, refl, ap, arith, Contains}
use Rattle.std.specs.Prelude.{slice_get}
use Rattle.aoe_base.specs.declared.address.Mac.{Mac}
use Rattle.aoe_base.specs.Addresses.{holds}
use Rattle.aoe_initiator.specs.declared.device.Attached.{Attached}
use Rattle.aoe_initiator.proofs.ListLemmas.{Contains-get}
use Rattle.aoe_history.specs.Setup.{HostSetup, IsAttachedTo, IsSetup, SlotSetup}
use Rattle.aoe_script.specs.declared.setup.Setup.{Setup as Line}
use Rattle.aoe_script.specs.Types.{FitsSetup}
use Rattle.aoe_sim_setup.specs.Layout.{addresses_in, setup_of}
use Rattle.aoe_sim_setup.proofs.GoodLines.{AreGood}
use Rattle.aoe_sim_setup.proofs.HostLemmas.{device-from, host-from, DeviceFrom, HostFrom}
use Rattle.aoe_sim_setup.proofs.LineLemmas.{held-at, one-line, slot_in}
use Rattle.aoe_sim_setup.proofs.ListLemmas.{contains-at, place-of}
use Rattle.aoe_sim_setup.proofs.MacLemmas.{six-bytes}
use Rattle.aoe_sim_setup.proofs.RangeLemmas.{line-ranges}
use Rattle.aoe_sim_setup.proofs.SlotLemmas.{slot-found, slot-from, slot-placed, SlotFrom}

module _ (lines : List Line) (good : AreGood lines) where
  host-of : (host : HostSetup) → Contains (setup_of lines).hosts host → HostFrom lines host
  host-of host c = let p = place-of (setup_of lines).hosts host c in host-from lines p.at host p.there

  slot-of : (slot : SlotSetup) → Contains (setup_of lines).slots slot → SlotFrom lines slot
  slot-of slot c = slot-from lines good slot (place-of (setup_of lines).slots slot c)

  pub in-host : (host : HostSetup) (h : HostFrom lines host) (port : Mac) → holds host.ports port ≡ true → holds h.line.ports.items port ≡ true
  in-host host h port e = ap (λ z. holds z.ports port) h.host_is ∙ e

  pub in-slot : (slot : SlotSetup) (x : SlotFrom lines slot) (port : Mac) → holds slot.station.ports.items port ≡ true
      → holds x.line.shelf.ports.items port ≡ true
  in-slot slot x port e = ap (λ z. holds z.station.ports.items port) x.slot_is ∙ e

  six : (k : ℕ) {line : Line} (port : Mac) → All FitsSetup lines → slice_get lines k ≡ Some line → holds (addresses_in line) port ≡ true → length port.0 ≡ 6
  six k {line} port fit there held =
      six-bytes lines line port fit (Contains-get lines k line there) (contains-at _ port (held-at (addresses_in line) port held))

  same-host : (a b : HostSetup) (x : HostFrom lines a) (y : HostFrom lines b) → x.line.at ≡ y.line.at → a ≡ b
  same-host a b x y same = let at = x.line.there in let there = y.line.there in cc

  -- a line is no host line and no shelf line at once
  two-kinds : (host : HostSetup) (slot : SlotSetup) (x : HostFrom lines host) (y : SlotFrom lines slot) → x.line.at ≡ y.line.shelf.at → ⊥
  two-kinds host slot x y same = let at = x.line.there in let there = y.line.shelf.there in cc

  attached-to : (d : Attached) → DeviceFrom lines d → IsAttachedTo (setup_of lines) d
  attached-to d x = rw (← x.device_is)
      (record {
        slot = slot_in x.line;
        there = slot-found lines good (slot_in x.line) (slot-placed lines good x.line);
        remotes = refl;
        total = refl;
        max = refl;
      })

  pub is-setup : All FitsSetup lines → IsSetup (setup_of lines)
  is-setup fit = record {
    host_addresses = λ host port c e. let h = host-of host c in six h.line.at port fit h.line.there (in-host host h port e);
    shelf_addresses = λ slot port c e. let x = slot-of slot c in six x.line.shelf.at port fit x.line.shelf.there (in-slot slot x port e);
    host_ports = λ a b port p q e f.
        let x = host-of a p in
        let y = host-of b q in
        same-host a b x y (one-line lines good x.line.at y.line.at _ _ port x.line.there y.line.there (in-host a x port e) (in-host b y port f));
    shelf_ports = λ host slot port p q e f.
        let x = host-of host p in
        let y = slot-of slot q in
        let shelf = y.line.shelf in
        two-kinds host slot x y (one-line lines good x.line.at shelf.at _ _ port x.line.there shelf.there (in-host host x port e) (in-slot slot y port f));
    slot_names = λ slot c. slot-found lines good slot (place-of (setup_of lines).slots slot c);
    some_port = λ slot c. let x = slot-of slot c in rw (← x.slot_is) (line-ranges lines good x.line).0.ports.some;
    majors = λ slot c. let x = slot-of slot c in rw (← x.slot_is) (line-ranges lines good x.line).1;
    minors = λ slot c. let x = slot-of slot c in rw (← x.slot_is) (line-ranges lines good x.line).2;
    size = λ slot c. let x = slot-of slot c in let r = line-ranges lines good x.line in rw (← x.slot_is) (omega (arith, r.0.size));
    max = λ slot c. let x = slot-of slot c in rw (← x.slot_is) (line-ranges lines good x.line).0.max;
    attached = λ host d p q.
        let h = host-of host p in
        let at = place-of host.devices d q in
        attached-to d (device-from lines good h.name at.at d (ap (λ z. slice_get z.devices at.at) h.host_is ∙ at.there));
  }
