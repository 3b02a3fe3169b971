-- What a run leaves at its end, slot by slot.
use Rattle.std.proofs.Common.{◌≡◌, ◌≤◌, ◌<◌, ◌+◌, ◌-◌, ◌*◌, ◌^◌, ℕ, zero, suc, min, List, [], ◌∷◌, length, true, false, Option, Some, None, refl, sym, ap, subst, ◌∙◌, arith, get_or, inl, inr}
use Rattle.std.proofs.lemmas.Bool.{cases_lt}
use Rattle.std.proofs.lemmas.Option.{slice_get_within}
use Rattle.std.specs.Option.{option_map}
use Rattle.std.specs.Prelude.{IfSome, Result, Ok, Err, is_err, slice_get}
use Rattle.aoe_base.specs.Faults.{Rose}
use Rattle.aoe_base.specs.declared.failure.Failed.{Failed}
use Rattle.aoe_cache.specs.Free.{KeepsSettled}
use Rattle.aoe_disk.specs.State.{Contents, DiskState, BothTell}
use Rattle.aoe_disk.specs.Calls.{SyncsTo, Settles}
use Rattle.aoe_disk.proofs.Touching.{settles_kept}
use Rattle.aoe_serve.specs.Arrivals.{Arrived, AreServed, at_slot}
use Rattle.aoe_serve.specs.Slots.{IsServed, Slot}
use Rattle.aoe_target.specs.History.{count_failed, store_failed}
use Rattle.aoe_target.specs.declared.station.Station.{Station}
use Rattle.aoe_serve.specs.Exporting.{IsExported, Outside, Tells, arrivals_in, first_failed}
use Rattle.aoe_keep.specs.Keep.{HasMounted}
use Rattle.aoe_serve.specs.Files.{IsOver, OverFiles}
use Rattle.aoe_serve.specs.declared.plan.Exported.{Exported}
use Rattle.aoe_serve.specs.declared.plan.Plan.{Plan}
use Rattle.aoe_serve.proofs.BackingLemmas.{shown-faults}
use Rattle.aoe_serve.proofs.EndLemmas.{served_in, there}
use Rattle.aoe_world.specs.Replay.{IsFaultless}
use Rattle.aoe.specs.Ending.{file_at}
use Rattle.aoe.specs.Run.{NothingLoose, OnSlot}
use Rattle.aoe.proofs.OnSlots.{Disks, disks-first, disks-then, on-first, on-map, on-then}

-- a slot over these disks, from its beginning to its end
pub record Stands {D : Type 0} (state : D → DiskState) (first last : List Slot) (slot : ℕ) (file file' keep keep' : D) : Type 0 where
  pub a : Slot
  pub b : Slot
  pub at_first : slice_get first slot ≡ Some a
  pub at_last : slice_get last slot ≡ Some b
  pub faults : a.device.store.faults ≡ (state file).faults
  pub faults_back : b.device.store.faults ≡ (state file').faults
  pub kept : BothTell KeepsSettled b.device.store.contents (state file').contents
  pub mounted : HasMounted (state keep) a.device.keep a.device.lists

stands-first : {D : Type 0} (state : D → DiskState) (most : Option ℕ) (name : ℕ → Station) (a b : Slot) (first last : List Slot) (file file' keep keep' : D)
    → IsOver state most name file file' keep keep' a b
    → Stands state (a ∷ first) (b ∷ last) 0 file file' keep keep'
stands-first state most name a b first last file file' keep keep' over = record {
  a = a;
  b = b;
  at_first = refl;
  at_last = refl;
  faults = ap (λ (d : DiskState). d.faults) over.store ∙ shown-faults most [] (state file);
  faults_back = sym (ap (λ (d : DiskState). d.faults) over.file_back.is) ∙ shown-faults most over.file_back.held (state file');
  kept = over.file_back.kept;
  mounted = over.mounted;
}

stands-then : {D : Type 0} (state : D → DiskState) (x y : Slot) (first last : List Slot) (slot : ℕ) (file file' keep keep' : D)
    → Stands state first last slot file file' keep keep'
    → Stands state (x ∷ first) (y ∷ last) (suc slot) file file' keep keep'
stands-then state x y first last slot file file' keep keep' s =
    record { a = s.a; b = s.b; at_first = s.at_first; at_last = s.at_last; faults = s.faults; faults_back = s.faults_back; kept = s.kept; mounted = s.mounted }

-- what stands over files and keeps
record Over {D : Type 0} (state : D → DiskState) (disks disks' : List (Option D)) (first last : List Slot) : Type 0 where
  count : length disks ≡ 2 * length first
  stands : (slot : ℕ) → OnSlot (Stands state first last slot) slot disks disks'
  has : (slot : ℕ) → slot < length first → Disks slot disks disks'

over-then : {D : Type 0} (state : D → DiskState) (most : Option ℕ) (name : ℕ → Station) (a b : Slot) (first last : List Slot) (file file' keep keep' : D)
    (disks disks' : List (Option D))
    → IsOver state most name file file' keep keep' a b → Over state disks disks' first last
    → Over state (Some file ∷ Some keep ∷ disks) (Some file' ∷ Some keep' ∷ disks') (a ∷ first) (b ∷ last)
over-then state most name a b first last file file' keep keep' disks disks' over rest = record { count = omega (arith, rest.count); stands = stand; has = disk }
  where
    stand : (slot : ℕ) → OnSlot (Stands state (a ∷ first) (b ∷ last) slot) slot (Some file ∷ Some keep ∷ disks) (Some file' ∷ Some keep' ∷ disks')
    stand zero = on-first (Stands state (a ∷ first) (b ∷ last) 0) file file' keep keep' disks disks'
        (stands-first state most name a b first last file file' keep keep' over)
    stand (suc slot) = on-then (Stands state (a ∷ first) (b ∷ last) (suc slot)) slot (Some file) (Some keep) (Some file') (Some keep') disks disks'
        (on-map (Stands state first last slot) (Stands state (a ∷ first) (b ∷ last) (suc slot)) slot disks disks' (stands-then state a b first last slot)
        (rest.stands slot))

    disk : (slot : ℕ) → slot < length (a ∷ first) → Disks slot (Some file ∷ Some keep ∷ disks) (Some file' ∷ Some keep' ∷ disks')
    disk zero below = disks-first file file' keep keep' disks disks'
    disk (suc slot) below = disks-then slot (Some file) (Some keep) (Some file') (Some keep') disks disks' (rest.has slot (omega (arith, below)))

over : {D : Type 0} (state : D → DiskState) (most : Option ℕ) (name : ℕ → ℕ → Station) (minor : ℕ) (disks disks' : List (Option D)) (first last : List Slot)
    → OverFiles state most name minor disks disks' first last → Over state disks disks' first last
over state most name minor (Some f ∷ Some k ∷ disks) (Some f' ∷ Some k' ∷ disks') (a ∷ first) (b ∷ last) x = over-then state most
    (name minor) a b first last f f' k k' disks disks' x.0 (over state most name (minor + 1) disks disks' first last x.1)
over state most name minor (Some f ∷ Some k ∷ disks) (Some f' ∷ Some k' ∷ disks') (a ∷ first) [] x = absurd x
over state most name minor (Some f ∷ Some k ∷ disks) (Some f' ∷ Some k' ∷ disks') [] last x = absurd x
over state most name minor (Some f ∷ Some k ∷ disks) (Some f' ∷ None ∷ disks') first last x = absurd x
over state most name minor (Some f ∷ Some k ∷ disks) (Some f' ∷ []) first last x = absurd x
over state most name minor (Some f ∷ Some k ∷ disks) (None ∷ disks') first last x = absurd x
over state most name minor (Some f ∷ Some k ∷ disks) [] first last x = absurd x
over state most name minor (Some f ∷ None ∷ disks) disks' first last x = absurd x
over state most name minor (Some f ∷ []) disks' first last x = absurd x
over state most name minor (None ∷ disks) disks' first last x = absurd x
over state most name minor [] [] [] [] x = record { count = refl; stands = λ slot f f' k k' ef. absurd cc; has = λ slot below. absurd (omega (arith, below)) }
over state most name minor [] [] [] (b ∷ last) x = absurd x
over state most name minor [] [] (a ∷ first) last x = absurd x
over state most name minor [] (d ∷ disks') first last x = absurd x

-- Which sync failed.

counted : (o : Option ℕ) (k : ℕ) → option_map (λ slot. slot + 1) o ≡ Some k → (j : ℕ) × (o ≡ Some j) × (k ≡ j + 1)
counted None k e = absurd cc
counted (Some j) k e = let same : j + 1 ≡ k = cc in (j, refl, sym same)

uncounted : (o : Option ℕ) → option_map (λ slot. slot + 1) o ≡ None → o ≡ None
uncounted None e = refl
uncounted (Some j) e = absurd cc

record FailedAt (results : List (Result (Unit {0}) Failed)) (k : ℕ) : Type 0 where
  within : k < length results
  failed : is_err (get_or results k (Ok tt)) ≡ true

failed-at : (results : List (Result (Unit {0}) Failed)) (k : ℕ) → first_failed results ≡ Some k → FailedAt results k
failed-at [] k e = absurd cc
failed-at (Err failed ∷ results) k e =
    let first : 0 ≡ k = cc in
    subst (λ (n : ℕ). FailedAt (Err failed ∷ results) n) first (record { within = omega arith; failed = refl })
failed-at (Ok done ∷ results) k e =
    let c = counted (first_failed results) k e in
    let f = failed-at results c.0 c.1 in
    let is : suc c.0 ≡ k = omega (arith, c.2) in
    subst (λ (n : ℕ). FailedAt (Ok done ∷ results) n) is (record { within = omega (arith, f.within); failed = f.failed })

none-failed : (results : List (Result (Unit {0}) Failed)) → first_failed results ≡ None → (i : ℕ) → is_err (get_or results i (Ok tt)) ≡ false
none-failed [] e zero = refl
none-failed [] e (suc i) = refl
none-failed (Err failed ∷ results) e i = absurd cc
none-failed (Ok done ∷ results) e zero = refl
none-failed (Ok done ∷ results) e (suc i) = none-failed results (uncounted (first_failed results) e) i

not_loose : (x y : Option Contents) → BothTell Settles x y → IfSome y NothingLoose
not_loose None None told = tt
not_loose None (Some y) told = absurd told
not_loose (Some x) None told = tt
not_loose (Some x) (Some y) told = settles_kept x y told

sync-done : (r : Result (Unit {0}) Failed) (old new : DiskState) → is_err r ≡ false → SyncsTo r old new → IfSome new.contents NothingLoose
sync-done (Ok done) old new e sync = not_loose old.contents new.contents sync.contents
sync-done (Err failed) old new e sync = absurd cc

kept-settled : (store disk : Option Contents) → BothTell KeepsSettled store disk → IfSome store NothingLoose → IfSome disk NothingLoose
kept-settled None None kept settled = tt
kept-settled None (Some y) kept settled = absurd kept
kept-settled (Some x) None kept settled = absurd kept
kept-settled (Some x) (Some y) kept settled = λ s. (kept.kept s (settled s)).0

-- a sync that failed after faults that were counted
rose_then : (a n b c : ℕ) → min (a + n) (2 ^ 64 - 1) ≤ b → b ≤ c → Rose b c → Rose a c
rose_then a n b c before later rose few =
    elim (cases_lt b (2 ^ 64 - 1)) [
      | inl below ↦ let more : b < c = rose below in omega arith
      | inr above ↦ omega arith
    ]

sync-failed : (r : Result (Unit {0}) Failed) (old new : DiskState) → is_err r ≡ true → SyncsTo r old new → Rose old.faults new.faults
sync-failed (Ok done) old new e sync = absurd cc
sync-failed (Err failed) old new e sync = sync.call.cause

module _ {D S K L : Type 0} (state : D → DiskState) (most : Option ℕ) (name : ℕ → ℕ → Station) (minor : ℕ) (t : Tells S K L) (p : Plan) (e : Exported)
    (a b : Outside S K L) (disks disks' : List (Option D))
    (x : IsExported state most name minor t p e a b disks disks') where
  all-over : Over state disks disks' x.first x.last
  all-over = over state most name minor disks disks' x.first x.last x.over

  abbrev arrivals : List Arrived
  arrivals = arrivals_in t p e.end a b x.first x.run.middle x.run.ran

  served : AreServed x.first x.run.middle arrivals
  served = served_in t p e.end a b x.first x.run.middle x.run.ran

  pub stands : (slot : ℕ) → OnSlot (Stands state x.first x.last slot) slot disks disks'
  stands = all-over.stands

  -- the last sync of a slot
  record LastSync (slot : ℕ) (file file' : D) : Type 0 where
    before : DiskState
    after : DiskState
    sync : SyncsTo (get_or x.run.results slot (Ok tt)) before after
    back : after.faults ≡ (state file').faults
    kept : BothTell KeepsSettled after.contents (state file').contents
    count : ℕ
    counted : min ((state file).faults + count) (2 ^ 64 - 1) ≤ before.faults

  last-sync : (slot : ℕ) (file file' keep keep' : D) → Stands state x.first x.last slot file file' keep keep' → LastSync slot file file'
  last-sync slot file file' keep keep' s =
      let m = there x.run.middle slot (omega (arith, slice_get_within x.last slot s.b s.at_last, x.run.synced.slots.count)) in
      let is : IsServed s.a m.slot (at_slot slot arrivals) = served.slots.each slot s.a m.slot s.at_first m.is in
      let P : ℕ → Type 0 = λ n. min (n + count_failed store_failed (at_slot slot arrivals)) (2 ^ 64 - 1) ≤ m.slot.device.store.faults in
      record {
        before = m.slot.device.store;
        after = s.b.device.store;
        sync = (x.run.synced.slots.each slot m.slot s.b m.is s.at_last).syncs;
        back = s.faults_back;
        kept = s.kept;
        count = count_failed store_failed (at_slot slot arrivals);
        counted = subst P s.faults is.store_faults;
      }

  rose-in : (slot : ℕ) (file file' : D) → is_err (get_or x.run.results slot (Ok tt)) ≡ true → LastSync slot file file'
      → Rose (state file).faults (state file').faults
  rose-in slot file file' failed l =
      subst (λ (n : ℕ). Rose (state file).faults n) l.back
      (rose_then (state file).faults l.count l.before.faults l.after.faults l.counted l.sync.call.later
      (sync-failed (get_or x.run.results slot (Ok tt)) l.before l.after failed l.sync))

  -- the disk of a slot that wasn't synced counted it
  pub unsynced-rose : (slot : ℕ) → e.unsynced ≡ Some slot → OnSlot (λ file file' _ _. Rose (state file).faults (state file').faults) slot disks disks'
  unsynced-rose slot is =
      let f = failed-at x.run.results slot (sym x.run.unsynced ∙ is) in
      on-map (Stands state x.first x.last slot) (λ file file' _ _. Rose (state file).faults (state file').faults) slot disks disks'
      (λ file file' keep keep' s. rose-in slot file file' f.failed (last-sync slot file file' keep keep' s)) (stands slot)

  -- there is that slot
  pub unsynced-within : (slot : ℕ) → e.unsynced ≡ Some slot → file_at slot + 1 < length disks
  unsynced-within slot is =
      let f = failed-at x.run.results slot (sym x.run.unsynced ∙ is) in
      omega (arith, f.within, x.run.synced.count, served.slots.count, all-over.count)

  -- where each slot was synced no file has a loose sector
  pub all-settled : (slot : ℕ) → e.unsynced ≡ None → OnSlot (λ _ file' _ _. IfSome (state file').contents NothingLoose) slot disks disks'
  all-settled slot is =
      let ok = none-failed x.run.results (sym x.run.unsynced ∙ is) slot in
      on-map (Stands state x.first x.last slot) (λ _ file' _ _. IfSome (state file').contents NothingLoose) slot disks disks'
      (λ file file' keep keep' s. let l = last-sync slot file file' keep keep' s in
      kept-settled l.after.contents (state file').contents l.kept (sync-done (get_or x.run.results slot (Ok tt)) l.before l.after ok l.sync)) (stands slot)

  -- where no file failed each slot was synced
  pub all-synced : ((slot : ℕ) → OnSlot (λ file file' _ _. IsFaultless (state file).faults (state file').faults) slot disks disks') → e.unsynced ≡ None
  all-synced fine = by e.unsynced refl
    where
      by : (o : Option ℕ) → e.unsynced ≡ o → o ≡ None
      by None is = refl
      by (Some slot) is =
          let f = failed-at x.run.results slot (sym x.run.unsynced ∙ is) in
          let d = all-over.has slot (omega (arith, f.within, x.run.synced.count, served.slots.count)) in
          let none = fine slot d.file d.file' d.keep d.keep' d.file_is d.file_is' d.keep_is d.keep_is' in
          let rose = unsynced-rose slot is d.file d.file' d.keep d.keep' d.file_is d.file_is' d.keep_is d.keep_is' none.room in
          absurd (omega (arith, none.same, rose))
