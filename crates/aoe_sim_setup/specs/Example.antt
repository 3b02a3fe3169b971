-- The setup lines of the network of the worked cases.
use Rattle.std.specs.Prelude.{ℕ, true, List, [], ◌∷◌, ◌++◌, None, codes}
use Rattle.arrayvec.specs.ArrayVec.{ArrayVec}
use Rattle.aoe_base.specs.declared.address.Mac.{Mac}
use Rattle.aoe_history.specs.Example.{a, b, host_a, host_b, port, setup_with, slot}
use Rattle.aoe_history.specs.Setup.{slot_over, Setup}
use Rattle.aoe_script.specs.declared.setup.Setup.{Setup as Line}
use Rattle.aoe_script.specs.declared.setup.Setup.TheVariants.{Shelf, Slot, Host, Attach, Readonly}

abbrev pub shelf_name : ArrayVec ℕ
shelf_name = record { items = codes "disks" }

abbrev pub one_port : ℕ → ArrayVec Mac
one_port n = record { items = port n ∷ [] }

-- a shelf with one slot, and two hosts that are attached to it
abbrev pub lines : List Line
lines =
    Host b (one_port 11) None None
    ∷ Shelf shelf_name 1 (one_port 1) 1500
    ∷ Slot shelf_name 0 16 None
    ∷ Attach b shelf_name 0
    ∷ Host a (one_port 10) None None
    ∷ Attach a shelf_name 0
    ∷ []

abbrev pub expected : Setup
expected = setup_with None (host_b ∷ host_a ∷ [])

-- the same with a slot that takes no writes
abbrev pub marked_lines : List Line
marked_lines = lines ++ Readonly shelf_name 0 ∷ []

abbrev pub expected_marked : Setup
expected_marked = record expected { slots = slot_over slot.station None true ∷ [] }
