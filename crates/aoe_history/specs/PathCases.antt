-- Worked histories of a host that has two paths to its device, the latest entry first.
use Rattle.std.specs.Prelude.{ℕ, ◌+◌, List, [], ◌∷◌, false, None}
use Rattle.aoe_base.specs.declared.address.Mac.{Mac}
use Rattle.aoe_initiator.specs.declared.op.Op.TheVariants.{Read}
use Rattle.aoe_initiator.specs.declared.outcome.Outcome.TheVariants.{Read as ReadOutcome}
use Rattle.aoe_target.specs.declared.heard.Effect.TheVariants.{None as NoEffect}
use Rattle.aoe_history.specs.declared.entry.Entry.{Entry}
use Rattle.aoe_history.specs.declared.entry.Entry.TheVariants.{Submitted, Sent, Arrived, Took, Done, Ticked}
use Rattle.aoe_history.specs.declared.entry.Fate.TheVariants.{Replied}
use Rattle.aoe_history.specs.Example.{a, ask_at, device, host_of, port, setup_of, show_of, slot_at, span}
use Rattle.aoe_history.specs.Setup.{HostSetup, Setup, SlotSetup}
use Rattle.aoe_history.specs.Slots.{zero_sector}

-- path 0 goes from port 10 to port 1, and path 1 to port 2
abbrev pub two_ports : List Mac
two_ports = port 1 ∷ port 2 ∷ []

abbrev pub two_slot : SlotSetup
two_slot = slot_at two_ports None

abbrev pub two_host : HostSetup
two_host = host_of two_ports a 10

abbrev pub two_paths : Setup
two_paths = setup_of two_ports None (two_host ∷ [])

-- the frame in which the host reads a sector, on a path
abbrev pub read_on : (path at tag : ℕ) → List ℕ
read_on path at tag = ask_at (path + 1) 10 (Read (span at)) tag

-- the reply of the slot to it
abbrev pub zeros_on : (path at tag : ℕ) → List ℕ
zeros_on path at tag = show_of two_slot (read_on path at tag) zero_sector

-- a read is sent on path 0
abbrev pub first_sent : List Entry
first_sent = Sent a 1 1 (read_on 0 0 1) ∷ Submitted a 1 device (Read (span 0)) ∷ []

-- a read beside it, which goes on path 1
abbrev pub other_submitted : List Entry
other_submitted = Submitted a 2 device (Read (span 1)) ∷ first_sent

-- the answer on path 0 is missed after 1000 milliseconds, and the read is repeated on path 1
abbrev pub due : List Entry
due = Ticked 1000 ∷ first_sent

abbrev pub sent_twice : List Entry
sent_twice = Sent a 1 2 (read_on 1 0 1) ∷ due

-- a read beside it, which goes on path 1 again: path 0 is marked
abbrev pub missed : List Entry
missed = Submitted a 2 device (Read (span 1)) ∷ sent_twice

-- the answer on path 1 is missed after 2000 milliseconds and not before, and the read is repeated on path 0: both are marked
abbrev pub almost_grown : List Entry
almost_grown = Ticked 1999 ∷ sent_twice

abbrev pub grown : List Entry
grown = Ticked 1 ∷ almost_grown

abbrev pub sent_thrice : List Entry
sent_thrice = Sent a 1 3 (read_on 0 0 1) ∷ grown

abbrev pub path_case : List Entry
path_case = Done a 1 (ReadOutcome zero_sector) ∷ Took a 4 false ∷ Arrived device 3 (Replied NoEffect 4 (zeros_on 0 0 1)) ∷ sent_thrice

-- the answer on path 1 comes 100 milliseconds after the repeat, 1100 after the first frame: neither is a trip, since two frames were sent.
-- The next read goes on path 1, and its answer is waited for as on a path without a trip
abbrev pub measured : List Entry
measured =
    Sent a 2 4 (read_on 1 1 2) ∷ Submitted a 2 device (Read (span 1)) ∷ Done a 1 (ReadOutcome zero_sector) ∷ Took a 3 false
    ∷ Arrived device 2 (Replied NoEffect 3 (zeros_on 1 0 1)) ∷ Ticked 100 ∷ sent_twice
