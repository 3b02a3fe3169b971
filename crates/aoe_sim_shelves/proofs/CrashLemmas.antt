-- A target that lost its power and was mounted again, and what is known of it.
use Rattle.std.proofs.Common.{◌≡◌, ◌<◌, ◌-◌, ◌/◌, inl, ℕ, Bool, true, false, if◌then◌else◌, List, length, replicate, Option, Some, None, refl, sym, ◌∙◌, arith}
use Rattle.std.specs.Bool.{OnTrue}
use Rattle.std.specs.Prelude.{IfSome}
use Rattle.std.proofs.lemmas.Bool.{OnTrue_at, OnTrue_from}
use Rattle.std.specs.Option.{option_map}
use Rattle.std.proofs.lemmas.Grind.{common_steps}
use Rattle.aoe_cache.specs.Any.{any_state, any_under}
use Rattle.aoe_cache.specs.Cache.{seen_contents, Cache}
use Rattle.aoe_cache.specs.Free.{free_of, under_of}
use Rattle.aoe_cache.specs.Held.{laid_over}
use Rattle.aoe_cache.specs.declared.any.AnyStore.{AnyStore}
use Rattle.aoe_cache.specs.declared.any.AnyStore.TheVariants.{Direct, Cached}
use Rattle.aoe_base.specs.declared.address.Mac.{Mac}
use Rattle.aoe_base.proofs.CommonLemmas.{none-set}
use Rattle.aoe_disk.specs.Arming.{number_of}
use Rattle.aoe_disk.specs.Memory.{contents_of, state_of, Memory}
use Rattle.aoe_disk.specs.State.{is_loose, sector, BothTell, Contents}
use Rattle.aoe_disk.specs.declared.loss.Loss.{Loss}
use Rattle.aoe_disk.proofs.Pieces.{is_loose-replicate}
use Rattle.aoe_keep.specs.Found.{Finds}
use Rattle.aoe_keep.specs.Keep.{HasMounted}
use Rattle.aoe_lists.specs.Settings.{Settings}
use Rattle.aoe_target.specs.Device.{MayStand, State}
use Rattle.aoe_target.specs.Device as target
use Rattle.aoe_target.specs.Sectors.{sectors_of, Sectors}
use Rattle.aoe_target.specs.declared.station.Station.{Station}
use Rattle.aoe_target.proofs.DeviceLemmas.{first_state}
use Rattle.aoe_history.specs.Setup.{SlotSetup}
use Rattle.aoe_history.specs.Slots.{after_crash, all_settled, is_cached_whole, left_known, left_sectors, Slot, Unsettled}
use Rattle.aoe_sim_shelves.specs.Crash.{Loses, LosesCache, LosesStore, Restarts}
use Rattle.aoe_sim_shelves.specs.Shelf.{AgreesWithin, HoldsWithin, IsBelow, IsStoreDue, IsTargetOf, HasCache, SameWithin}
use Rattle.aoe_sim_shelves.proofs.AgreeLemmas.{same_agrees}
use Rattle.aoe_sim_shelves.proofs.Words.{device, Target}

-- nothing is loose on a disk that was opened again
opened_marks : {how : Loss} {a b : Memory} → Loses how a b → (s : ℕ) → is_loose b.loose s ≡ false
opened_marks {how} {a} {b} l s = rw l.rest (is_loose-replicate (length b.bytes / 512) s)

-- A STORE WITHOUT A CACHE

module _ {how : Loss} {a b : Memory} (l : Loses how a b) (u : Unsettled) (n : ℕ) (station : Station) (first : Settings) where
  abbrev direct : SlotSetup
  direct = record { station = station; cache = None; lists = first }

  left_value : (k : Sectors) → SameWithin n (sectors_of (contents_of a)) k → (s : ℕ) → s < n → Some (sector b.bytes s) ≡ left_known direct u how k s
  left_value k same s low =
      rw (← same.marks s low, ← same.known s low, ← same.settled s low) (grind (arith, l.image.kept s, l.image.lost s))

  both_left : (y : Option Sectors) → BothTell (AgreesWithin n) (Some (sectors_of (contents_of a))) y
      → BothTell (AgreesWithin n) (Some (sectors_of (contents_of b))) (option_map (left_sectors direct u how) y)
  both_left None agrees = absurd agrees
  both_left (Some k) agrees =
      let value = left_value k (agrees.same (sym agrees.exact)) in
      same_agrees n (sectors_of (contents_of b)) (left_sectors direct u how k) (record {
        known = value;
        marks = λ s low. opened_marks l s;
        settled = λ s low. rw l.rest (value s low);
        exact = agrees.exact;
      })

-- A STORE WITH A CACHE

-- no sector of a disk on which so much is free is loose
firm : (places left : ℕ) (c : Contents) (s : ℕ) → free_of places (Some c) ≡ Some left → is_loose c.loose s ≡ false
firm places left c s e = grind (arith, common_steps)

-- a disk just opened has all its room
pub opened_free : (places : ℕ) (m : Memory) (n : ℕ) → m.loose ≡ replicate n false → free_of places (Some (contents_of m)) ≡ Some places
opened_free places m n is = rw (is, none-set n)

-- a sector after a crash, by what the disk had there and what the store showed
cached_sector : (new old shown : List ℕ) (marked whole : Bool) (known settled : Option (List ℕ)) → (marked ≡ false → (new ≡ old) × (old ≡ shown))
    → IfSome known (λ v. Some shown ≡ Some v) → (whole ≡ true → (new ≡ old) × IfSome settled (λ v. Some old ≡ Some v))
    → IfSome (if marked then (if whole then settled else None) else known) (λ v. Some new ≡ Some v)
cached_sector new old shown marked whole known settled solid knows settles = grind arith

module _ {how : Loss} {a b : Cache Memory} (l : LosesCache how a b) (u : Unsettled) (n : ℕ) (station : Station) (first : Settings) (room : ℕ) where
  abbrev cached : SlotSetup
  cached = record { station = station; cache = Some room; lists = first }

  module _ (k : Sectors) (agrees : AgreesWithin n (sectors_of (seen_contents a.held (contents_of a.disk))) k)
      (below : is_cached_whole room u ≡ true → IsBelow n room u k (under_of state_of a)) where
    cached_value : (s : ℕ) → s < n → IfSome (left_known cached u how k s) (λ v. Some (sector b.disk.bytes s) ≡ Some v)
    cached_value s low =
        cached_sector _ (sector a.disk.bytes s) (sector (laid_over a.disk.bytes a.held) s) (k.marks s) (is_cached_whole room u) (k.known s) (k.settled s)
        (λ solid. let kept = l.kept.kept s (agrees.marks s low solid) in (l.disk.image.kept s kept.0, kept.1))
        (agrees.known s low)
        (λ whole.
        let down = below whole in
        (l.disk.image.kept s (firm (a.room - length a.held) down.left (contents_of a.disk) s down.free), down.settled s low))

    cached_within : AgreesWithin n (sectors_of (seen_contents b.held (contents_of b.disk))) (left_sectors cached u how k)
    cached_within = rw l.held (record {
      known = cached_value;
      marks = λ s low e. opened_marks l.disk s;
      same = λ e. let no : false ≡ true = agrees.exact ∙ e in absurd cc;
      exact = agrees.exact;
    })

    cached_below : b.room ≡ room → IsBelow n room all_settled (left_sectors cached u how k) (under_of state_of b)
    cached_below same = record {
      left = room;
      free =
          let all : b.room - 0 ≡ room = omega arith in
          rw (l.held, all) (opened_free room b.disk (length b.disk.bytes / 512) (rw l.disk.rest));
      enough = omega arith;
      settled = cached_value;
    }

  cached_left : (y : Option Sectors) → BothTell (AgreesWithin n) (Some (sectors_of (seen_contents a.held (contents_of a.disk)))) y
      → OnTrue (is_cached_whole room u) (IfSome y (λ k. IsBelow n room u k (under_of state_of a))) → b.room ≡ room
      → BothTell (AgreesWithin n) (Some (sectors_of (seen_contents b.held (contents_of b.disk)))) (option_map (left_sectors cached u how) y)
      × IfSome (option_map (left_sectors cached u how) y) (λ k. IsBelow n room all_settled k (under_of state_of b))
  cached_left None agrees below same = absurd agrees
  cached_left (Some k) agrees below same =
      (cached_within k agrees (λ w. OnTrue_at w below), cached_below k agrees (λ w. OnTrue_at w below) same)

-- EITHER STORE

-- what a crash leaves of a slot's store
pub record LeavesStore (n : ℕ) (slot : SlotSetup) (how : Loss) (z : Slot) (b : AnyStore Memory) : Type 0 where
  pub sectors : BothTell (AgreesWithin n) (option_map sectors_of (any_state state_of b).contents)
      (option_map (left_sectors slot z.unsettled how) z.state.sectors)
  pub under : (lists : Settings) → HasCache n slot.cache (after_crash slot lists how z) (any_under state_of b)

left_store : (how : Loss) (a b : AnyStore Memory) → LosesStore how a b → (n : ℕ) (station : Station) (first : Settings) (z : Slot) (cache : Option ℕ)
    → HasCache n cache z (any_under state_of a) → BothTell (AgreesWithin n) (option_map sectors_of (any_state state_of a).contents) z.state.sectors
    → LeavesStore n (record { station = station; cache = cache; lists = first }) how z b
left_store how (Direct a) (Direct b) l n station first z None under agrees =
    record { sectors = both_left l z.unsettled n station first z.state.sectors agrees; under = λ lists. tt }
left_store how (Cached a) (Cached b) l n station first z (Some room) under agrees =
    let same : b.room ≡ room = l.room ∙ under.0 in
    let left = cached_left l z.unsettled n station first room z.state.sectors agrees under.1 same in
    record { sectors = left.0; under = λ lists. (same, OnTrue_from _ _ (λ whole. left.1)) }
left_store how _ _ l n station first z cache under agrees = absurd (grind arith)

pub lost_sectors : (how : Loss) (a b : AnyStore Memory) → LosesStore how a b → (any_state state_of b).sectors ≡ (any_state state_of a).sectors
lost_sectors how a b l = grind arith

lost_unarmed : (how : Loss) (a b : AnyStore Memory) → LosesStore how a b → IsStoreDue None b
lost_unarmed how a b l = grind arith

-- A TARGET

-- a disk that is mounted while no call of it is to fail
pub mounted_unarmed : (disk new : Memory) (lists : Settings) → HasMounted (state_of disk) (state_of new) lists → option_map number_of disk.arming ≡ None
    → option_map number_of new.arming ≡ None
mounted_unarmed disk new lists m none = grind (arith, m.mounts.run.run.schedule.due)

module _ {how : Loss} {a b : Target} (r : Restarts how a b) where
  -- a crash leaves lists that may stand, and they are those that the keep finds
  pub restarted_lists : (k : State) → Finds (MayStand k) (contents_of a.keep.disk) → MayStand k b.keep.lists
  restarted_lists k finds =
      let left = finds r.disk.bytes r.keep.allowed in
      let same : left.0 ≡ b.keep.lists = cc (left.1, r.mounted.mounts.stands.0) in
      rw (← same) left.2

  -- no call of its disks is to fail
  pub store_unarmed : IsStoreDue None b.store
  store_unarmed = lost_unarmed how a.store b.store r.store

  pub keep_unarmed : option_map number_of b.keep.disk.arming ≡ None
  keep_unarmed = mounted_unarmed r.disk b.keep.disk b.keep.lists r.mounted (rw r.keep.rest)

  -- what is known of it after the crash, and of the disk under its store
  pub restarted : (n : ℕ) (slot : SlotSetup) (z : Slot) → HasCache n slot.cache z (any_under state_of a.store) → HoldsWithin n (device a) z.state
      → HasCache n slot.cache (after_crash slot b.keep.lists how z) (any_under state_of b.store)
      × HoldsWithin n (device b) (after_crash slot b.keep.lists how z).state
  restarted n slot z under h =
      let left = left_store how a.store b.store r.store n slot.station slot.lists z slot.cache under h.sectors in (
        left.under b.keep.lists,
        record { lists = refl; crash = λ image left. let l = r.mounted.finds image left in (l.0, l.1, inl l.2); sectors = left.sectors },
      )

  -- it is a target of its shelf still
  pub restarted_target : {major : ℕ} {ports : List Mac} {mtu : ℕ} → IsTargetOf major ports mtu a → IsTargetOf major ports mtu b
  restarted_target t = record {
    minor = rw r.station t.minor;
    station = rw (r.station, lost_sectors how a.store b.store r.store) t.station;
    room = omega (arith, t.room, r.keep.sectors, r.mounted.mounts.run.run.sectors);
    known = target.state_of (device b);
    holds = first_state (device b) r.mounted.finds;
  }
