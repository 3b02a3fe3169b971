-- A target over disks that were just opened.
use Rattle.std.proofs.Common.{◌≡◌, ◌<◌, ◌≤◌, ◌+◌, ◌-◌, ◌*◌, ◌/◌, ◌==◌, inl, inr, ℕ, Bool, true, false, List, [], ◌∷◌, ◌++◌, length, get_or, take, replicate, Option, Some, None, refl, sym, ap, ◌∙◌, arith, get_or-take, get_or-drop}
use Rattle.std.specs.Prelude.{slice_get, IsSomeAnd, Ok}
use Rattle.std.specs.Option.{option_map}
use Rattle.std.proofs.lemmas.Bool.{OnTrue_from}
use Rattle.std.proofs.lemmas.Bool.Decides.{nat_tests}
use Rattle.std.proofs.lemmas.Grind.{common_steps}
use Rattle.std.proofs.lemmas.List.{drop-replicate, length-replicate, map-append, take-replicate}
use Rattle.std.proofs.lemmas.Option.{slice_get_within}
use Rattle.aoe_cache.specs.Any.{any_state, any_under, over}
use Rattle.aoe_cache.specs.Free.{under_of}
use Rattle.aoe_cache.specs.declared.any.AnyStore.{AnyStore}
use Rattle.aoe_base.specs.declared.address.Mac.{Mac}
use Rattle.aoe_base.specs.declared.address.TargetId.{TargetId}
use Rattle.aoe_disk.specs.Arming.{number_of}
use Rattle.aoe_disk.specs.Memory.{contents_of, fresh, state_of, Memory}
use Rattle.aoe_disk.specs.State.{sector, BothTell}
use Rattle.aoe_disk.specs.declared.loss.Loss.{Loss}
use Rattle.aoe_disk.proofs.Pieces.{is_loose-replicate}
use Rattle.aoe_keep.specs.Calls.{StandsBy}
use Rattle.aoe_keep.specs.Found.{found, is_open, placement, slot, AlwaysFinds}
use Rattle.aoe_keep.specs.Keep.{HasMounted, IsRefused, Kept}
use Rattle.aoe_keep.specs.Stages.{next_place}
use Rattle.aoe_keep.specs.declared.place.Place.{Place}
use Rattle.aoe_keep.specs.declared.refusal.MountRefusal.{MountRefusal}
use Rattle.aoe_keep.specs.declared.refusal.MountRefusal.TheVariants.{BadKeep, Failed, TooSmall}
use Rattle.aoe_lists.specs.Settings.{empty_settings, Settings}
use Rattle.aoe_shelf.specs.Shelf.{has_minor, refusal_of}
use Rattle.aoe_target.specs.Device as target
use Rattle.aoe_target.specs.Mounted.{station_of}
use Rattle.aoe_target.specs.Sectors.{sectors_of, Sectors}
use Rattle.aoe_target.specs.declared.station.Station.{Station}
use Rattle.aoe_target.proofs.DeviceLemmas.{first_state}
use Rattle.aoe_history.specs.Setup.{slot_over, SlotSetup}
use Rattle.aoe_history.specs.Slots.{all_settled, new_slot, zero_sector}
use Rattle.aoe_sim_shelves.specs.Crash.{Loses, LosesStore, Restarts}
use Rattle.aoe_sim_shelves.specs.NewKeep.{IsNewKeep}
use Rattle.aoe_sim_shelves.specs.Shelf.{AgreesWithin, IsBelow, IsServing, IsStoreDue, IsTargetOf, HasCache, SimShelf, SameWithin, Serves}
use Rattle.aoe_sim_shelves.proofs.AgreeLemmas.{same_agrees}
use Rattle.aoe_sim_shelves.proofs.CrashLemmas.{lost_sectors, mounted_unarmed, opened_free}
use Rattle.aoe_sim_shelves.proofs.FrontLemmas.{front_of, get_last, get_split, last_of, length_last}
use Rattle.aoe_sim_shelves.proofs.Words.{device, stations, Shelf, Target}

-- a target that has its room and a minor of its own isn't refused
pub not_refused : (ts : List Target) (minor : ℕ) → length ts < 16 → has_minor ts minor ≡ false → refusal_of ts minor ≡ None
not_refused ts minor room other = let less : (length ts == 16) ≡ false = grind (arith, nat_tests) in rw (less, other)

-- the target that `seat` adds
abbrev pub seated : ℕ → List Mac → ℕ → ℕ → AnyStore Memory → Kept Memory → Target
seated major ports mtu minor store keep =
    record { station = station_of (record { major = major; minor = minor }) ports mtu (any_state state_of store).sectors; keep = keep; store = store }

pub seated_target : (major : ℕ) (ports : List Mac) (mtu minor : ℕ) (store : AnyStore Memory) {read_only : Bool} {keep : Kept Memory} → minor < 255
    → IsNewKeep read_only keep → IsTargetOf major ports mtu (seated major ports mtu minor store keep)
seated_target major ports mtu minor store {keep = keep} low k = record {
  minor = low;
  station = refl;
  room = omega (arith, k.sectors);
  known = target.state_of (device (seated major ports mtu minor store keep));
  holds = first_state (device (seated major ports mtu minor store keep)) k.finds;
}

-- A RESTART

-- the name that the last target has in code
pub last_name : (before front : List Target) (t : Target) (at : ℕ) (id : TargetId) → before ≡ front ++ t ∷ [] → at ≡ length before - 1
    → IsSomeAnd (slice_get before at) (λ u. id ≡ u.station.id) → id ≡ t.station.id
last_name before front t at id is place p =
    let e : at ≡ length front = omega (arith, ap length is, length_last front t) in
    rw (e, is, get_last front t) at p

-- a target that was added again
pub seated_again : {how : Loss} {t : Target} (shelf r : Shelf) (minor : ℕ) (store : AnyStore Memory) (disk : Memory) (keep : Kept Memory)
    → IsTargetOf shelf.major shelf.ports shelf.mtu t → r ≡ record shelf { targets = r.targets } → minor ≡ t.station.id.minor
    → LosesStore how t.store store → Loses how t.keep.disk disk → HasMounted (state_of disk) (state_of keep.disk) keep.lists
    → Restarts how t (seated r.major r.ports r.mtu minor store keep)
seated_again {how} {t} shelf r minor store disk keep k rest name lost lost_keep mounted = record {
  station = rw (rest, name, lost_sectors how t.store store lost) (sym k.station);
  store = lost;
  disk = disk;
  keep = lost_keep;
  mounted = mounted;
}

-- DISKS OF ZEROS

zero_in : (n i : ℕ) → ◌≡◌ {A = ℕ} (get_or (replicate n 0) i 0) 0
zero_in n i = grind (arith, common_steps)

no_gate : (n k : ℕ) → is_open (replicate n 0) k ≡ false
no_gate n k = let low : 0 < 512 = omega arith in rw (get_or-take, get_or-drop, zero_in n (512 * (8 * k) + 0))

-- empty lists stand on it
pub zeros_found : (n : ℕ) → found (replicate n 0) ≡ Ok empty_settings
zeros_found n = rw (no_gate n 0, no_gate n 1)

pub zeros_sectors : (n : ℕ) (d : Memory) → d ≡ fresh (replicate (512 * n) 0) → length d.loose ≡ n
zeros_sectors n d is = rw is (simp length-replicate (omega arith))

zero_sector_in : (n s : ℕ) → s < n → sector (replicate (512 * n) 0) s ≡ zero_sector
unfolding zero_sector
zero_sector_in n s low = ap (take 512) (drop-replicate (512 * s) (512 * n) 0) ∙ take-replicate 512 (512 * n - 512 * s) 0 (omega arith)

-- A STORE OVER ZEROS

over_sectors : (cache : Option ℕ) (store : Memory) → (any_state state_of (over cache store)).sectors ≡ length store.loose
over_sectors cache store = grind arith

over_due : (cache : Option ℕ) (n : ℕ) (store : Memory) → store ≡ fresh (replicate n 0) → IsStoreDue None (over cache store)
over_due cache n store zeros = grind arith

abbrev zeros : Bool → Sectors
zeros exact = record { known = λ s. Some zero_sector; marks = λ s. false; settled = λ s. Some zero_sector; exact = exact }

module _ (n : ℕ) (station : Station) (store : Memory) (is : store ≡ fresh (replicate (512 * n) 0)) where
  zeros_within : SameWithin n (sectors_of (contents_of store)) (zeros true)
  zeros_within = record {
    known = λ s low. rw (is, zero_sector_in n s low);
    marks = λ s low. rw is (is_loose-replicate (length (replicate (512 * n) 0) / 512) s);
    settled = λ s low. rw (is, zero_sector_in n s low);
    exact = refl;
  }

  over_within : (cache : Option ℕ) (read_only : Bool) → BothTell (AgreesWithin n) (option_map sectors_of (any_state state_of (over cache store)).contents)
      (new_slot (slot_over station cache read_only)).state.sectors
  over_within None read_only = same_agrees n _ _ zeros_within
  over_within (Some room) read_only = record { known = zeros_within.known; marks = λ s low e. zeros_within.marks s low; same = λ e. absurd cc; exact = refl }

  over_under : (cache : Option ℕ) (read_only : Bool) → HasCache n cache (new_slot (slot_over station cache read_only)) (any_under state_of (over cache store))
  over_under None read_only = tt
  over_under (Some room) read_only =
      let all : room - 0 ≡ room = omega arith in
      let below : IsBelow n room all_settled (zeros false) (under_of state_of (record { disk = store; held = []; room = room })) = record {
        left = room;
        free = rw all (opened_free room store (length {A = ℕ} (replicate (512 * n) 0) / 512) (rw is));
        enough = omega arith;
        settled = λ s low. zeros_within.known s low;
      } in
      (refl, OnTrue_from _ _ (λ whole. below))

-- a disk that has room, on which lists stand and of which no call fails is mounted
pub never_refused : (disk left : Memory) (e : MountRefusal) (lists : Settings) → 16 ≤ length disk.loose → found disk.bytes ≡ Ok lists → disk.arming ≡ None
    → IsRefused state_of disk e left → ⊥
never_refused disk left (TooSmall sectors) lists room is unarmed r = omega (arith, room, r.0, r.1)
never_refused disk left Failed lists room is unarmed r = grind (arith, r.2.run.schedule.due)
never_refused disk left (BadKeep k) lists room is unarmed r = cc (is, r.1.0)

-- A NEW KEEP

no_place : (n : ℕ) {place : Option Place} {closed : Bool} → placement (slot (replicate n 0) 0) (slot (replicate n 0) 1) ≡ (place, closed) → place ≡ None
no_place n e = sym (ap (λ (p : Option Place × Bool). p.0) (rw (no_gate n 0, no_gate n 1) at e))

-- a disk of zeros that was mounted
pub mounted_zeros : (n : ℕ) {disk : Memory} {keep : Kept Memory} → disk ≡ fresh (replicate n 0) → length disk.loose ≡ 16
    → HasMounted (state_of disk) (state_of keep.disk) keep.lists → StandsBy (state_of disk) keep → IsNewKeep false keep
mounted_zeros n {disk} {keep} new size m stands = record {
  lists = let empty : found (replicate n 0) ≡ Ok keep.lists = rw new at m.mounts.stands.0 in cc (zeros_found n);
  finds = m.finds;
  sectors = omega (arith, m.mounts.run.run.sectors, size);
  unarmed = mounted_unarmed disk keep.disk keep.lists m (rw new);
  place = no_place n (rw new at stands);
}

-- and whose lists got the mark
pub marked_zeros : {old new : Kept Memory} → IsNewKeep false old → new.lists ≡ record old.lists { read_only = true } → AlwaysFinds (state_of new.disk) new.lists
    → length new.disk.loose ≡ length old.disk.loose → option_map number_of new.disk.arming ≡ None → new.place ≡ next_place old.place → IsNewKeep true new
marked_zeros k lists finds sectors unarmed place =
    record { lists = rw k.lists at lists; finds = finds; sectors = sectors ∙ k.sectors; unarmed = unarmed; place = rw k.place at place }

-- A NEW SLOT

-- over a disk of zeros, with a keep to which nothing happened
pub record IsNew (n : ℕ) (read_only : Bool) (store : Memory) (keep : Kept Memory) : Type 0 where
  pub zeros : store ≡ fresh (replicate (512 * n) 0)
  pub keep_is : IsNewKeep read_only keep

module _ (major : ℕ) (ports : List Mac) (mtu minor : ℕ) (cache : Option ℕ) {n : ℕ} {read_only : Bool} {store : Memory} {keep : Kept Memory}
    (k : IsNew n read_only store keep) where
  abbrev new_setup : SlotSetup
  new_setup = slot_over (station_of (record { major = major; minor = minor }) ports mtu n) cache read_only

  abbrev new_target : Target
  new_target = seated major ports mtu minor (over cache store) keep

  new_serving : IsServing new_setup [] new_target (record { store = None; keep = None })
  new_serving = record {
    station = rw (over_sectors cache store, zeros_sectors n store k.zeros);
    under = over_under n new_setup.station store k.zeros cache read_only;
    holds = record {
      lists = k.keep_is.lists;
      crash = λ image left. let l = k.keep_is.finds image left in (l.0, l.1, inl (l.2 ∙ k.keep_is.lists));
      sectors = over_within n new_setup.station store k.zeros cache read_only;
    };
    store_due = over_due cache (512 * n) store k.zeros;
    keep_due = rw k.keep_is.unarmed;
    store_stop = refl;
    keep_stop = refl;
  }

  -- the shelf serves the new slot too
  pub new_serves : {slots : List SlotSetup} {x y : SimShelf} → y.shelf.targets ≡ x.shelf.targets ++ new_target ∷ []
      → y.stops ≡ x.stops ++ record { store = None; keep = None } ∷ [] → Serves slots [] x → Serves (slots ++ new_setup ∷ []) [] y
  new_serves {slots} {x} {y} targets stops s = record {
    count = rw (targets, length_last x.shelf.targets new_target, length_last slots new_setup, s.count);
    stops = rw (stops, length_last x.stops (record { store = None; keep = None }), length_last slots new_setup, s.stops);
    each = λ i slot t z a b c.
        let b' = rw targets at b in
        let c' = rw stops at c in
        elim (get_split slots new_setup i slot a) [
          | inl p ↦
              let low = slice_get_within slots i slot p in
              let there = front_of x.shelf.targets new_target i t (omega (arith, low, s.count)) b' in
              s.each i slot t z p there (front_of x.stops _ i z (omega (arith, low, s.stops)) c')
          | inr p ↦
              let last = last_of x.shelf.targets new_target i t (omega (arith, p.0, s.count)) b' in
              rw (p.1, last, last_of x.stops _ i z (omega (arith, p.0, s.stops)) c') new_serving
        ];
  }

  -- and its station stands behind the others
  pub new_station : (xs : List Target) → stations (xs ++ new_target ∷ []) ≡ stations xs ++ new_setup.station ∷ []
  new_station xs = rw (map-append (λ (t : Target). t.station) xs (new_target ∷ []), over_sectors cache store, zeros_sectors n store k.zeros)
