-- A run of `capture` over one slot, whose file an audit of the slot's device passes.
use Rattle.std.specs.Prelude.{ℕ, ◌+◌, ◌≡◌, ◌≤◌, ◌<◌, true, false, List, [], ◌∷◌, length, All, is_some}
use Rattle.aoe_base.specs.Addresses.{holds, source_of}
use Rattle.aoe_keep.specs.Found.{AlwaysFinds}
use Rattle.aoe_pcap_audit.specs.Records.{most_captured, most_records}
use Rattle.aoe_serve.specs.Slots.{Slot}
use Rattle.aoe_target.specs.declared.station.Station.{Station}

-- the shelf has a port, its addresses have six bytes each, and the name of the target has its places in a header
pub record IsOnWire (station : Station) : Type 0 where
  pub shelf : station.id.major < 65536
  pub ports : 1 ≤ length station.ports.items
  pub six : All (λ port. length port.0 ≡ 6) station.ports.items

-- every crash finds the lists of the slot, as it does when its keep was mounted, and its store tells what the sectors hold
pub record IsTold (slot : Slot) : Type 0 where
  pub lists : AlwaysFinds slot.device.keep slot.device.lists
  pub store : is_some slot.device.store.contents ≡ true

-- no frame came from a port of the shelf
abbrev pub AreOthers : Station → List (List ℕ) → Type 0
AreOthers station frames = All (λ f. holds station.ports.items (source_of f) ≡ false) frames

-- how many bytes frames have
abbrev pub total_length : List (List ℕ) → ℕ
total_length [] = 0
total_length (f ∷ frames) = length f + total_length frames

-- no more frames, and no more bytes of them, than the audit of a file takes
pub record AreFew (frames : List (List ℕ)) : Type 0 where
  pub count : length frames ≤ most_records
  pub bytes : total_length frames ≤ most_captured
