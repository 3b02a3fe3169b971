-- The network of the worked cases: one slot of 16 sectors, and hosts that are attached to it.
use Rattle.std.specs.Prelude.{ℕ, false, List, [], ◌∷◌, drop, replicate, Option, None}
use Rattle.arrayvec.specs.ArrayVec.{ArrayVec}
use Rattle.aoe_base.specs.declared.address.Mac.{Mac}
use Rattle.aoe_base.specs.declared.address.TargetId.{TargetId}
use Rattle.aoe_base.specs.declared.sectors.Span.{Span}
use Rattle.aoe_frame.specs.Header.{fields}
use Rattle.aoe_ata.specs.Args.{registers}
use Rattle.aoe_ata.specs.declared.reply.AtaOutcome.{AtaOutcome}
use Rattle.aoe_initiator.specs.Defaults.{default_life}
use Rattle.aoe_initiator.specs.declared.device.Attached.{Attached}
use Rattle.aoe_initiator.specs.declared.op.FlushCommand.TheVariants.{CacheExt}
use Rattle.aoe_initiator.specs.declared.op.Op.{Op}
use Rattle.aoe_initiator.specs.Request.{request}
use Rattle.aoe_target.specs.Mounted.{station_of}
use Rattle.aoe_target.specs.Reply.{ata_reply, data_reply}
use Rattle.aoe_history.specs.Setup.{slot_over, HostSetup, Setup, SlotSetup}

-- the address 02:00:00:00:00:n
abbrev pub port : ℕ → Mac
port n = record { 0 = 2 ∷ 0 ∷ 0 ∷ 0 ∷ 0 ∷ n ∷ [] }

-- e1.0
abbrev pub device : TargetId
device = record { major = 1; minor = 0 }

-- the slot of a shelf with these ports, and of one with port 1 alone
abbrev pub slot_at : List Mac → Option ℕ → SlotSetup
slot_at shelf cache = slot_over (station_of device shelf 1500 16) cache false

abbrev pub slot_with : Option ℕ → SlotSetup
slot_with cache = slot_at (port 1 ∷ []) cache

abbrev pub slot : SlotSetup
slot = slot_with None

abbrev pub attached_to : List Mac → Attached
attached_to shelf = record { id = device; remotes = record { items = shelf }; total = 16; max = 2; flush = CacheExt }

abbrev pub attached : Attached
attached = attached_to (port 1 ∷ [])

-- the names a and b
abbrev pub a : ArrayVec ℕ
a = record { items = 97 ∷ [] }

abbrev pub b : ArrayVec ℕ
b = record { items = 98 ∷ [] }

abbrev pub host_of : List Mac → ArrayVec ℕ → ℕ → HostSetup
host_of shelf name n = record { name = name.items; ports = port n ∷ []; room = 4096; dead = 180000; devices = attached_to shelf ∷ [] }

abbrev pub host_with : ArrayVec ℕ → ℕ → HostSetup
host_with name n = host_of (port 1 ∷ []) name n

abbrev pub host_a : HostSetup
host_a = host_with a 10

abbrev pub host_b : HostSetup
host_b = host_with b 11

abbrev pub setup_of : List Mac → Option ℕ → List HostSetup → Setup
setup_of shelf cache hosts = record { life = default_life; hosts = hosts; slots = slot_at shelf cache ∷ [] }

abbrev pub setup_with : Option ℕ → List HostSetup → Setup
setup_with cache hosts = setup_of (port 1 ∷ []) cache hosts

-- one host
abbrev pub setup : Setup
setup = setup_with None (host_a ∷ [])

-- a sector of one byte, again and again
unfoldable pub full : ℕ → List ℕ
full byte = replicate 512 byte

abbrev pub span : ℕ → Span
span at = record { at = at; count = 1 }

-- the frame in which the host with a port asks for an operation, at a port of the shelf and at port 1
abbrev pub ask_at : ℕ → ℕ → Op → ℕ → List ℕ
ask_at to n op tag = request CacheExt op device (port to) (port n) tag

abbrev pub ask : ℕ → Op → ℕ → List ℕ
ask n op tag = ask_at 1 n op tag

-- the reply of the slot to an ATA command, without and with data
abbrev pub tell : List ℕ → AtaOutcome → List ℕ
tell f outcome = ata_reply slot.station (fields f) (registers (drop 24 f)) outcome

abbrev pub show_of : SlotSetup → List ℕ → List ℕ → List ℕ
show_of at f bytes = data_reply at.station (fields f) (registers (drop 24 f)) bytes

abbrev pub show : List ℕ → List ℕ → List ℕ
show f bytes = show_of slot f bytes
