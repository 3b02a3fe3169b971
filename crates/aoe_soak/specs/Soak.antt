-- A large run from a number: the script of a seed and a count of commands.
use Rattle.std.specs.Prelude.{ℕ, ◌+◌, ◌/◌, ◌%◌, ◌==◌, ◌++◌, List, [], ◌∷◌, None, codes, if◌then◌else◌}
use Rattle.std.specs.List.{flat_map, range_with_len}
use Rattle.arrayvec.specs.ArrayVec.{ArrayVec}
use Rattle.aoe_base.specs.declared.address.Mac.{Mac}
use Rattle.aoe_base.specs.declared.address.TargetId.{TargetId}
use Rattle.aoe_disk.specs.declared.loss.Loss.TheVariants.{Torn}
use Rattle.aoe_script.specs.declared.event.Event.{Event}
use Rattle.aoe_script.specs.declared.event.Event.TheVariants.{Read, Write, Flush, Tick, Pass, Skip, Again, Crash}
use Rattle.aoe_script.specs.declared.setup.Setup.{Setup}
use Rattle.aoe_script.specs.declared.setup.Setup.TheVariants.{Life, Shelf, Slot, Host, Attach}
use Rattle.aoe_script.specs.Lines.{ScriptLines}

-- ---- the setup: a shelf of two ports, and two hosts of two ports at its one slot

abbrev pub shelf_s : ArrayVec ℕ
shelf_s = record { items = codes "s" }

abbrev pub host_a : ArrayVec ℕ
host_a = record { items = codes "a" }

abbrev pub host_b : ArrayVec ℕ
host_b = record { items = codes "b" }

-- the two addresses of a station
abbrev pub two_ports : ℕ → ArrayVec Mac
two_ports station = record {
  items = record { 0 = 2 ∷ 0 ∷ 0 ∷ 0 ∷ station ∷ 0 ∷ [] } ∷ record { 0 = 2 ∷ 0 ∷ 0 ∷ 0 ∷ station ∷ 1 ∷ [] } ∷ [];
}

abbrev pub stations : List Setup
stations =
    Life 2000 None
    ∷ Shelf shelf_s 1 (two_ports 1) 1500
    ∷ Slot shelf_s 0 4096 None
    ∷ Host host_a (two_ports 10) None None
    ∷ Host host_b (two_ports 11) None None
    ∷ Attach host_a shelf_s 0
    ∷ Attach host_b shelf_s 0
    ∷ []

-- ---- the lines of command i, from 0

abbrev pub device : TargetId
device = record { major = 1; minor = 0 }

-- the hosts take turns
abbrev pub host : ℕ → ArrayVec ℕ
host i = if i % 2 == 0 then host_a else host_b

-- each four commands are a round: both hosts write a sector of their own, and then both read it
abbrev pub pair : ℕ → ℕ
pair i = i / 2

abbrev pub round : ℕ → ℕ
round i = pair i / 2

-- host a has the sectors from 0 on, and host b those from 2,048 on
abbrev pub sector : ℕ → ℕ → ℕ
sector seed i = (seed + round i) % 2048 + (if i % 2 == 0 then 0 else 2048)

abbrev pub fill : ℕ → ℕ → ℕ
fill seed i = (seed + round i) % 256

abbrev pub first_line : ℕ → ℕ → Event
first_line seed i =
    if pair i % 2 == 0 then Write (host i) device (sector seed i) 1 (fill seed i) else Read (host i) device (sector seed i) 1

-- of each ten commands one loses its answer and is sent again, and of one the request comes twice
abbrev pub following : ℕ → List Event
following i =
    if i % 10 == 3 then Pass 1 ∷ Skip 1 ∷ Tick 1000 ∷ Pass 2 ∷ []
    else if i % 10 == 6 then Pass 1 ∷ Again ∷ Pass 2 ∷ []
    else Pass 2 ∷ []

-- half way both hosts flush, and the shelf loses power
abbrev pub crash : List Event
crash = Tick 2001 ∷ Flush host_a device ∷ Pass 2 ∷ Flush host_b device ∷ Pass 2 ∷ Crash shelf_s Torn ∷ []

abbrev pub before : ℕ → ℕ → List Event
before count i = if i == count / 2 then crash else []

abbrev pub command : ℕ → ℕ → ℕ → List Event
command seed count i = before count i ++ first_line seed i ∷ following i

-- ---- the script

-- the lines of the first n of count commands
abbrev pub commands : ℕ → ℕ → ℕ → List Event
commands seed count n = flat_map (command seed count) (range_with_len 0 n)

abbrev pub soaked : ℕ → ℕ → ScriptLines
soaked seed count = record { setups = stations; events = commands seed count count }
