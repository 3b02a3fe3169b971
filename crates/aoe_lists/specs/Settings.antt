-- What a device keeps for its hosts, as contracts see it.
use Rattle.std.specs.Prelude.{ℕ, Bool, false, ◌||◌, ◌&&◌, ◌==◌, ◌≡◌, List, [], length}
use Rattle.std.proofs.Math.Bool.{beq}
use Rattle.std.specs.Str.{bytes_eq}
use Rattle.std.specs.Cmp.Lexicographic.{pointwise}
use Rattle.aoe_base.specs.declared.address.Mac.{Mac}
use Rattle.aoe_base.specs.Addresses.{holds, same_address}

-- the most bytes of a config string (AoEr11, "Query Config Information")
abbrev pub max_config : ℕ
max_config = 1024

-- the most addresses of a mask list or a reserve list: AoEr11 gives their number a byte, and a device may take fewer.
-- A reply with so many of them fits a frame of 1500 bytes
abbrev pub max_addresses : ℕ
max_addresses = 180

-- the most directives or addresses that a host asks for by one request
abbrev pub max_directives : ℕ
max_directives = 64

-- the config string, the mask list and the reserve list, which hosts set, and the mark by which writes are refused
pub record Settings : Type 0 where
  pub config : List ℕ
  pub masks : List Mac
  pub reserves : List Mac
  pub read_only : Bool

-- those of a new device
abbrev pub empty_settings : Settings
empty_settings = record { config = []; masks = []; reserves = []; read_only = false }

-- a list that lets in whom it names, and everyone where it names nobody
abbrev pub is_open_to : List Mac → Mac → Bool
is_open_to list a = length list == 0 || holds list a

-- both lists let in the same stations
abbrev pub LetInTheSame : List Mac → List Mac → Type 0
LetInTheSame one other = (a : Mac) → is_open_to one a ≡ is_open_to other a

-- the station is answered
abbrev pub admits : Settings → Mac → Bool
admits s source = is_open_to s.masks source

-- the station's ATA commands are done
abbrev pub may_use : Settings → Mac → Bool
may_use s source = is_open_to s.reserves source

-- both are the same in all parts
abbrev pub same_settings : Settings → Settings → Bool
same_settings a b =
    bytes_eq a.config b.config && pointwise same_address a.masks b.masks && pointwise same_address a.reserves b.reserves
    && beq a.read_only b.read_only
