-- What a disk is, to whoever writes to it and loses power.
use Rattle.std.specs.Prelude.{◌≡◌, ◌+◌, ◌*◌, ◌≤◌, ◌<◌, ◌^◌, ◌++◌, ℕ, Bool, true, false, Option, None, Some, IfSome, IsSome, List, length, take, drop, get_or, replicate}

-- the bytes that a read gives, for each sector whether a crash may change it, and the bytes of the last sync where the disk tells them
pub record Contents : Type 0 where
  pub bytes : List ℕ
  pub loose : List Bool
  pub settled : Option (List ℕ)

-- which device calls fail: how many still can (no number while a stop is armed), whether a stop was reached,
-- and, where the disk tells it, which coming call is the next to fail, counted from 1, if any
pub record Schedule : Type 0 where
  pub armed : Option ℕ
  pub out : Bool
  pub due : Option (Option ℕ)

-- a device call: a read of so many bytes from a sector on, a write of a piece there, or a sync
pub data DeviceCall : Type 0 where
  Read : ℕ → ℕ → DeviceCall
  Write : ℕ → List ℕ → DeviceCall
  Sync : DeviceCall

-- a disk: its size, its faults so far, and its contents, its schedule and the calls that were made of it, in their order, where it
-- tells them
pub record DiskState : Type 0 where
  pub sectors : ℕ
  pub faults : ℕ
  pub contents : Option Contents
  pub schedule : Option Schedule
  pub log : Option (List DeviceCall)

-- a relation between what was told before and what is told after: telling neither begins nor ends
abbrev pub BothTell : {A B : Type 0} → (A → B → Type 0) → Option A → Option B → Type 0
BothTell R None None = Unit {0}
BothTell R None (Some b) = ⊥
BothTell R (Some a) None = ⊥
BothTell R (Some a) (Some b) = R a b

-- the 512 bytes of sector s
abbrev pub sector : List ℕ → ℕ → List ℕ
sector bytes s = take 512 (drop (512 * s) bytes)

-- whether a crash may change sector s
abbrev pub is_loose : List Bool → ℕ → Bool
is_loose loose s = get_or loose s false

-- the bytes with a piece in the place of those from start on
abbrev pub with_piece : List ℕ → ℕ → List ℕ → List ℕ
with_piece bytes start piece = take start bytes ++ piece ++ drop (start + length piece) bytes

-- the marks with n of them set from sector at on
abbrev pub with_marks : List Bool → ℕ → ℕ → List Bool
with_marks loose at n = take at loose ++ replicate n true ++ drop (at + n) loose

-- a sector that lost what it held: 0xEE in every byte
unfoldable pub spoiled_sector : List ℕ
spoiled_sector = replicate 512 0xee

pub record HasShape (sectors : ℕ) (c : Contents) : Type 0 where
  pub bytes : length c.bytes ≡ 512 * sectors
  pub marks : length c.loose ≡ sectors
  pub settled : IfSome c.settled (λ settled. length settled ≡ 512 * sectors)

pub record IsSchedule (s : Schedule) : Type 0 where
  pub number_in : IsSome s.armed → s.out ≡ false
  pub from_one : IfSome s.due (λ due. IfSome due (λ k. 0 < k))

-- what holds of every disk
pub record IsDisk (d : DiskState) : Type 0 where
  pub bound : d.sectors ≤ 2 ^ 40
  pub shape : IfSome d.contents (HasShape d.sectors)
  pub schedule : IfSome d.schedule IsSchedule

-- a crash may leave this image: it agrees with the bytes in every sector that isn't loose
pub record CanLeave (c : Contents) (image : List ℕ) : Type 0 where
  pub size : length image ≡ length c.bytes
  pub kept : (s : ℕ) → is_loose c.loose s ≡ false → sector image s ≡ sector c.bytes s
