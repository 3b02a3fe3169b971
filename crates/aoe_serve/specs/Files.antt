-- Files and their keeps as the slots of a shelf.
use Rattle.std.specs.Prelude.{ℕ, zero, suc, ◌+◌, ◌≡◌, ◌≤◌, List, [], ◌∷◌, ◌++◌, length, unwrap_or, Option, Some, None}
use Rattle.aoe_base.specs.declared.address.Mac.{Mac}
use Rattle.aoe_cache.specs.Any.{any_disk, any_state}
use Rattle.aoe_cache.specs.Cache.{seen}
use Rattle.aoe_cache.specs.Free.{KeepsSettled}
use Rattle.aoe_cache.specs.declared.any.AnyStore.{AnyStore}
use Rattle.aoe_cache.specs.declared.place.HeldSector.{HeldSector}
use Rattle.aoe_disk.specs.State.{BothTell, DiskState}
use Rattle.aoe_keep.specs.Keep.{HasMounted, IsRefused}
use Rattle.aoe_keep.specs.declared.refusal.MountRefusal.{MountRefusal}
use Rattle.aoe_lists.specs.Settings.{Settings}
use Rattle.aoe_serve.specs.Backing.{lasts_of, over_file}
use Rattle.aoe_serve.specs.Slots.{Slot}
use Rattle.aoe_serve.specs.declared.plan.ExportRefusal.{ExportRefusal}
use Rattle.aoe_serve.specs.declared.plan.ExportRefusal.TheVariants as why
use Rattle.aoe_target.specs.Mounted.{Mounted, station_of}
use Rattle.aoe_target.specs.declared.station.Station.{Station}

-- the target with this minor on a shelf, over a disk of so many sectors
abbrev pub named : ℕ → List Mac → ℕ → ℕ → ℕ → Station
named major ports mtu minor sectors = station_of record { major = major; minor = minor } ports mtu sectors

-- what a store shows that holds back up to so many sectors of its disk, and these now: they are laid over the disk. One that writes
-- through shows the disk
abbrev pub shown : Option ℕ → List HeldSector → DiskState → DiskState
shown None held disk = disk
shown (Some most) held disk = seen held disk

-- a disk under a store that holds back up to so many sectors: each sector that isn't loose in the store isn't loose on the disk, and is
-- there as the store shows it
pub record IsUnder (most : Option ℕ) (disk store : DiskState) : Type 0 where
  pub held : List HeldSector
  pub few : length held ≤ unwrap_or most 0
  pub is : shown most held disk ≡ store
  pub kept : BothTell KeepsSettled store.contents disk.contents

-- A slot over a file and a keep, from the mounting to the giving back: the disks as they were given, the slot at its beginning and its
-- end, and the disks as they are given back. Its store holds back up to so many sectors of the file, and none at its beginning; or its
-- writes last.
pub record IsOver {D : Type 0} (state : D → DiskState) (most : Option ℕ) (name : ℕ → Station) (file file' keep keep' : D) (first last : Slot) : Type 0 where
  pub station : first.station ≡ name (state file).sectors
  pub store : first.device.store ≡ shown most [] (state file)
  pub lasts : first.lasts ≡ lasts_of most
  pub mounted : HasMounted (state keep) first.device.keep first.device.lists
  pub file_back : IsUnder most (state file') last.device.store
  pub keep_back : state keep' ≡ last.device.keep

-- each pair of disks is a file and its keep, and a slot is over it; the minors count up from the first
abbrev pub OverFiles : {D : Type 0} → (D → DiskState) → Option ℕ → (ℕ → ℕ → Station) → ℕ → List (Option D) → List (Option D) → List Slot → List Slot → Type 0
OverFiles state most name minor (Some file ∷ Some keep ∷ disks) (Some file' ∷ Some keep' ∷ disks') (a ∷ first) (b ∷ last) =
    IsOver state most (name minor) file file' keep keep' a b × OverFiles state most name (minor + 1) disks disks' first last
OverFiles state most name minor [] [] [] [] = Unit {0}
OverFiles state most name minor _ _ _ _ = ⊥

-- a keep that was mounted and given back, with its file as it was
pub record IsBack {D : Type 0} (state : D → DiskState) (file file' keep keep' : D) : Type 0 where
  pub file_same : file' ≡ file
  pub lists : Settings
  pub mounted : HasMounted (state keep) (state keep') lists

-- a keep that was refused and given back, with its file as it was
pub record IsRefusedAt {D : Type 0} (state : D → DiskState) (refusal : MountRefusal) (file file' keep keep' : D) : Type 0 where
  pub file_same : file' ≡ file
  pub why : IsRefused state keep refusal keep'

-- the keep of that slot was refused: those before it were mounted, and those behind it weren't touched
abbrev pub GivesBack : {D : Type 0} → (D → DiskState) → ℕ → MountRefusal → List (Option D) → List (Option D) → Type 0
GivesBack state zero refusal (Some file ∷ Some keep ∷ disks) (Some file' ∷ Some keep' ∷ disks') =
    IsRefusedAt state refusal file file' keep keep' × (disks' ≡ disks)
GivesBack state (suc slot) refusal (Some file ∷ Some keep ∷ disks) (Some file' ∷ Some keep' ∷ disks') =
    IsBack state file file' keep keep' × GivesBack state slot refusal disks disks'
GivesBack state slot refusal _ _ = ⊥

-- why nothing was run, and the disks are given back: all as they were where memory was wanting
abbrev pub AreGivenBack : {D : Type 0} → (D → DiskState) → ExportRefusal → List (Option D) → List (Option D) → Type 0
AreGivenBack state why.NoMemory disks disks' = disks' ≡ disks
AreGivenBack state (why.Keep slot refusal) disks disks' = GivesBack state slot refusal disks disks'

-- a target over this store and this keep, which was mounted
pub record IsSeatedOn {D : Type 0} (state : D → DiskState) (name : ℕ → Station) (store : AnyStore D) (keep : D) (target : Mounted (AnyStore D) D) : Type 0 where
  pub station : target.station ≡ name (any_state state store).sectors
  pub store_is : target.store ≡ store
  pub mounted : HasMounted (state keep) (state target.keep.disk) target.keep.lists

-- such a target was added last
pub record IsSeated {D : Type 0} (state : D → DiskState) (name : ℕ → Station) (store : AnyStore D) (keep : D) (old new : List (Mounted (AnyStore D) D)) : Type 0 where
  pub target : Mounted (AnyStore D) D
  pub added : new ≡ old ++ target ∷ []
  pub seated : IsSeatedOn state name store keep target

-- these targets are over these files and keeps, and their stores hold back up to so many sectors; the minors count up from the first
abbrev pub AreSeated : {D : Type 0} → (D → DiskState) → Option ℕ → (ℕ → ℕ → Station) → ℕ → List (Option D) → List (Mounted (AnyStore D) D) → Type 0
AreSeated state most name minor disks [] = disks ≡ []
AreSeated {D} state most name minor disks (t ∷ targets) = (file : D) × (keep : D) × (others : List (Option D)) × (disks ≡ Some file ∷ Some keep ∷ others)
    × IsSeatedOn state (name minor) (over_file most file) keep t × AreSeated state most name (minor + 1) others targets

-- these are the disks of a target: its store's and its keep's
pub record IsLeft {D : Type 0} (state : D → DiskState) (most : Option ℕ) (file keep : D) (target : Mounted (AnyStore D) D) : Type 0 where
  pub store : file ≡ any_disk target.store
  pub under : IsUnder most (state file) (any_state state target.store)
  pub disk : keep ≡ target.keep.disk

-- the target that was added last left, and these are its disks
pub record Leaves {D : Type 0} (state : D → DiskState) (most : Option ℕ) (file keep : D) (old new : List (Mounted (AnyStore D) D)) : Type 0 where
  pub target : Mounted (AnyStore D) D
  pub last : old ≡ new ++ target ∷ []
  pub left : IsLeft state most file keep target

-- these are the disks of these targets
abbrev pub AreBack : {D : Type 0} → (D → DiskState) → Option ℕ → List (Option D) → List (Mounted (AnyStore D) D) → Type 0
AreBack state most disks [] = disks ≡ []
AreBack {D} state most disks (t ∷ targets) = (file : D) × (keep : D) × (others : List (Option D)) × (disks ≡ Some file ∷ Some keep ∷ others)
    × IsLeft state most file keep t × AreBack state most others targets
