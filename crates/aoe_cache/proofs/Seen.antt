-- What a cached store shows is what a store may show.
use Rattle.std.proofs.Common.{◌≡◌, ◌≤◌, ◌+◌, ◌*◌, ◌/◌, ℕ, Bool, true, false, List, [], Option, Some, None, IfSome, is_some, Result, Ok, Err, OnOk, is_err, length, take, drop, refl, sym, arith, ◌∙◌, ap, inl, inr, option_map}
use Rattle.std.proofs.lemmas.Bool.{cases_lt}
use Rattle.aoe_disk.specs.State.{Contents, Schedule, DiskState, HasShape, IsDisk, IsSchedule, BothTell}
use Rattle.aoe_disk.specs.Calls.{IsRange, IsRun, MovesOn, Reads, Puts, Writes, WritesTo, Syncs, SyncsTo}
use Rattle.aoe_disk.proofs.Runs.{run_none, run_then}
use Rattle.aoe_store.specs.Store.{MaySpoil, Stores, StoresTo}
use Rattle.aoe_store.proofs.Spoiling.{spoils_may_spoil}
use Rattle.aoe_cache.specs.declared.place.HeldSector.{HeldSector}
use Rattle.aoe_cache.specs.Held.{laid_over, with_written}
use Rattle.aoe_cache.specs.Down.{Empties, WritesPart}
use Rattle.aoe_cache.specs.Cache.{Cache, CacheSyncs, CacheWrites, SyncsAfter, seen, seen_contents, seen_schedule, state_of}
use Rattle.aoe_cache.proofs.Ascending.{AreHeld}
use Rattle.aoe_cache.proofs.Sectors.{held_written, laid_written, length-laid_over, length-marked, marked_written}
use Rattle.aoe_cache.proofs.Down.{AsSeen, down_seen}

-- what holds of two that both tell holds of what is shown of them
told_map : {A B : Type 0} (P : A → Type 0) (R : A → A → Type 0) (S : B → B → Type 0) (f g : A → B) (old new : Option A)
    → ((x y : A) → P x → R x y → S (f x) (g y)) → IfSome old P → BothTell R old new
    → BothTell S (option_map f old) (option_map g new)
told_map P R S f g None None then p told = tt
told_map P R S f g None (Some y) then p told = absurd told
told_map P R S f g (Some x) None then p told = absurd told
told_map P R S f g (Some x) (Some y) then p told = then x y p told

-- it is a disk, to whoever sees it

seen_shape : {sectors : ℕ} {hs : List HeldSector} (held : AreHeld sectors hs) (c : Option Contents) → IfSome c (HasShape sectors)
    → IfSome (option_map (seen_contents hs) c) (HasShape sectors)
seen_shape held None shape = tt
seen_shape held (Some c) shape = record {
  bytes = length-laid_over held c.bytes shape.bytes;
  marks = length-marked _ c.loose _ held.below shape.marks;
  settled = tt;
}

seen_plan : (s : Option Schedule) → IfSome s IsSchedule → IfSome (option_map seen_schedule s) IsSchedule
seen_plan None h = tt
seen_plan (Some s) h = record { number_in = h.number_in; from_one = tt }

pub seen_disk : {hs : List HeldSector} {d : DiskState} → IsDisk d → AreHeld d.sectors hs → IsDisk (seen hs d)
seen_disk {d = d} disk held = record {
  bound = disk.bound;
  shape = seen_shape held d.contents disk.shape;
  schedule = seen_plan d.schedule disk.schedule;
}

-- any number of device calls is one call of it

seen_moves : {m : ℕ} {failed : Bool} {before after : ℕ} {x y : Schedule} → MovesOn m failed before after x y
    → MovesOn 1 failed before after (seen_schedule x) (seen_schedule y)
seen_moves moves = record {
  kind = moves.kind;
  fewer = moves.fewer;
  stop = moves.stop;
  out_by_fault = moves.out_by_fault;
  out_by_failure = λ told. cc;
  stays_out = moves.stays_out;
  due = tt;
}

some_map : {A B : Type 0} (f : A → B) (o : Option A) → is_some (option_map f o) ≡ is_some o
some_map f None = refl
some_map f (Some x) = refl

seen_run : {m : ℕ} {failed : Bool} {hs gs : List HeldSector} {old new : DiskState} → IsRun m failed old new → AreHeld old.sectors hs → AreHeld old.sectors gs
    → IsRun 1 failed (seen hs old) (seen gs new)
seen_run {gs = gs} {old = old} {new = new} run held left =
    let rest : AreHeld new.sectors gs = rw run.sectors left in
    record {
      before = seen_disk run.before held;
      after = seen_disk run.after rest;
      sectors = run.sectors;
      tells = some_map _ new.contents ∙ run.tells ∙ sym (some_map _ old.contents);
      later = run.later;
      cause = run.cause;
      schedule = told_map IsSchedule _ _ _ _ old.schedule new.schedule (λ x y s moves. seen_moves moves) run.before.schedule run.schedule;
    }

-- reads

-- what the buffer lays over what was read
abbrev Lays : ℕ → ℕ → List HeldSector → List ℕ → List ℕ → Type 0
Lays at n hs read out = (bytes : List ℕ) → 512 * at + n ≤ length bytes → read ≡ take n (drop (512 * at) bytes)
    → out ≡ take n (drop (512 * at) (laid_over bytes hs))

read_laid : {T E : Type 0} (sectors at n : ℕ) (result : Result T E) (hs : List HeldSector) (read out : List ℕ) (c : Option Contents)
    → 512 * at + n ≤ 512 * sectors → IfSome c (HasShape sectors) → OnOk result (Lays at n hs read out)
    → OnOk result (IfSome c (λ c. read ≡ take n (drop (512 * at) c.bytes)))
    → OnOk result (IfSome (option_map (seen_contents hs) c) (λ c. out ≡ take n (drop (512 * at) c.bytes)))
read_laid sectors at n (Err e) hs read out c fits shape lays given = tt
read_laid sectors at n (Ok v) hs read out None fits shape lays given = tt
read_laid sectors at n (Ok v) hs read out (Some c) fits shape lays given = lays c.bytes (omega (arith, fits, shape.bytes)) given

pub reads_seen : {T E : Type 0} (at n : ℕ) (result : Result T E) (hs : List HeldSector) (read out : List ℕ) (old new : DiskState) → IsRange at n old.sectors
    → AreHeld old.sectors hs → OnOk result (Lays at n hs read out)
    → Reads at n result read old new → Reads at n result out (seen hs old) (seen hs new)
reads_seen at n result hs read out old new range held lays reads = record {
  call = seen_run reads.call held held;
  same = ap (option_map (seen_contents hs)) reads.same;
  given = read_laid old.sectors at n result hs read out old.contents (omega (arith, range.whole, range.within)) reads.call.before.shape lays reads.given;
  log = refl;
}

-- writes

module _ (at : ℕ) (piece : List ℕ) {sectors : ℕ} (range : IsRange at (length piece) sectors) where
  -- to the buffer
  put_seen : {hs : List HeldSector} (c : Option Contents) → AreHeld sectors hs → IfSome c (HasShape sectors)
      → BothTell (Puts at piece) (option_map (seen_contents hs) c) (option_map (seen_contents (with_written at (length piece / 512) piece hs)) c)
  put_seen None held shape = tt
  put_seen (Some c) held shape = record {
    bytes = laid_written at _ piece (sym range.whole) range.within held c.bytes shape.bytes;
    loose = marked_written at _ piece (sym range.whole) range.within held c.loose shape.marks;
    settled = refl;
  }

  -- to the disk, where nothing is held
  write_seen : {T E : Type 0} (result : Result T E) (x y : Contents) → HasShape sectors x → Writes at piece result x y
      → Stores at piece result (seen_contents [] x) (seen_contents [] y)
  write_seen (Ok v) x y shape told = record { bytes = told.bytes; loose = told.loose; settled = refl }
  write_seen (Err e) x y shape told =
      let may : MaySpoil at (length piece) x y = spoils_may_spoil at (length piece) x y sectors shape range told in
      record { bytes = may.bytes; loose = may.loose; kept = may.kept; settled = refl; exact = λ some. cc }

-- nowhere, where the buffer couldn't be written down whole
same_stored : {T E : Type 0} (at : ℕ) (piece : List ℕ) (result : Result T E) (hs : List HeldSector) (c : Option Contents) → is_err result ≡ true
    → BothTell (Stores at piece result) (option_map (seen_contents hs) c) (option_map (seen_contents hs) c)
same_stored at piece (Ok v) hs c err = cc
same_stored at piece (Err e) hs None err = tt
same_stored at piece (Err e) hs (Some x) err = record {
  bytes = record { size = refl; before = refl; after = refl };
  loose = record { size = refl; before = refl; after = refl };
  kept = λ s solid. (solid, refl);
  settled = refl;
  exact = λ some. cc;
}

stored_as : {T E : Type 0} (at : ℕ) (piece : List ℕ) (result : Result T E) (c d : Option Contents) → is_err result ≡ false → BothTell (Puts at piece) c d
    → BothTell (Stores at piece result) c d
stored_as at piece (Err e) c d ok puts = cc
stored_as at piece (Ok v) c d ok puts = puts

nothing : (sectors : ℕ) → AreHeld sectors []
nothing sectors = record { order = tt; below = tt }

module _ {T E : Type 0} (at : ℕ) (piece : List ℕ) (result : Result T E) (hs gs : List HeldSector) (old new : DiskState)
    (range : IsRange at (length piece) old.sectors) (disk : IsDisk old) (held : AreHeld old.sectors hs) where
  put_held : {rest : List HeldSector} → AreHeld old.sectors rest → AreHeld old.sectors (with_written at (length piece / 512) piece rest)
  put_held = held_written at _ piece (sym range.whole) range.within

  -- a write that the buffer has room for
  held_stored : is_err result ≡ false → new ≡ old → gs ≡ with_written at (length piece / 512) piece hs → StoresTo at piece result (seen hs old) (seen gs new)
  held_stored ok same is = rw (same, is) (record {
    call = rw ok (seen_run (run_none old disk) held (put_held held));
    contents = stored_as at piece result _ _ ok (put_seen at piece range old.contents held disk.shape);
    log = refl;
  })

  -- the buffer couldn't be written down whole
  part_stored : WritesPart result hs gs old new → StoresTo at piece result (seen hs old) (seen gs new)
  part_stored part =
      let stays = down_seen true hs gs old new disk held part.down in
      record {
        call = rw part.failed (seen_run stays.run held stays.left);
        contents = rw stays.same (same_stored at piece result hs old.contents part.failed);
        log = refl;
      }

  module _ (between : DiskState) (down : Empties hs [] old between) where
    emptied : AsSeen false hs [] old between
    emptied = down_seen false hs [] old between disk held (rw down.empty at down.down)

    shape_between : IfSome between.contents (HasShape old.sectors)
    shape_between = rw emptied.run.sectors at emptied.run.after.shape

    -- it was, and has room for the piece then
    buffer_stored : is_err result ≡ false → new ≡ between → gs ≡ with_written at (length piece / 512) piece []
        → StoresTo at piece result (seen hs old) (seen gs new)
    buffer_stored ok same is = rw (same, is) (record {
      call = rw ok (seen_run emptied.run held (put_held (nothing _)));
      contents = stored_as at piece result _ _ ok (rw emptied.same at (put_seen at piece range between.contents (nothing _) shape_between));
      log = refl;
    })

    -- it was, and the piece went to the disk
    disk_stored : gs ≡ [] → WritesTo at piece result between new → StoresTo at piece result (seen hs old) (seen gs new)
    disk_stored is write = rw is (record {
      call = seen_run (run_then emptied.calls 1 (is_err result) old between new emptied.run write.call) held (nothing _);
      contents = rw emptied.same at (told_map _ _ (Stores at piece result) _ _ between.contents new.contents
          (write_seen at piece range result) shape_between write.contents);
      log = refl;
    })

-- a write of a cached store is one of a store
pub writes_seen : {D T E : Type 0} (state : D → DiskState) (at : ℕ) (piece : List ℕ) (result : Result T E) (old new : Cache D)
    → IsRange at (length piece) (state old.disk).sectors → IsDisk (state old.disk) → AreHeld (state old.disk).sectors old.held
    → CacheWrites state at piece result old new → StoresTo at piece result (state_of state old) (state_of state new)
writes_seen state at piece result old new range disk held writes = elim (cases_lt old.room (length (with_written at (length piece / 512) piece old.held))) [
  | inl over ↦ elim (writes.beyond over) [
    | inl part ↦ part_stored at piece result _ _ _ _ range disk held part
    | inr after ↦ elim (cases_lt old.room (length piece / 512)) [
      | inl long ↦ let puts = after.puts.disk long in disk_stored at piece result _ _ _ _ range disk held after.between after.down puts.0 puts.1
      | inr short ↦ let puts = after.puts.buffer short in buffer_stored at piece result _ _ _ _ range disk held after.between after.down puts.0 puts.1 puts.2
    ]
  ]
  | inr fits ↦ let puts = writes.within fits in held_stored at piece result _ _ _ _ range disk held puts.done (ap state puts.disk) puts.held
]

-- syncs

sync_seen : {T E : Type 0} (result : Result T E) (x y : Contents) → Syncs result x y → Syncs result (seen_contents [] x) (seen_contents [] y)
sync_seen (Ok v) x y told = record { bytes = told.bytes; loose = told.loose; settled = tt }
sync_seen (Err e) x y told = record { bytes = told.bytes; marks = told.marks; fewer = told.fewer; settled = refl; exact = λ some. cc }

same_synced : {T E : Type 0} (result : Result T E) (hs : List HeldSector) (c : Option Contents) → is_err result ≡ true
    → BothTell (Syncs result) (option_map (seen_contents hs) c) (option_map (seen_contents hs) c)
same_synced (Ok v) hs c err = cc
same_synced (Err e) hs None err = tt
same_synced (Err e) hs (Some x) err = record { bytes = refl; marks = refl; fewer = λ s kept. kept; settled = refl; exact = λ some. refl }

-- a sync of a cached store is one of a store
module _ {D T E : Type 0} (state : D → DiskState) (result : Result T E) (old new : Cache D) (disk : IsDisk (state old.disk))
    (held : AreHeld (state old.disk).sectors old.held) where
  part_synced : WritesPart result old.held new.held (state old.disk) (state new.disk) → SyncsTo result (state_of state old) (state_of state new)
  part_synced part =
      let stays = down_seen true old.held new.held (state old.disk) (state new.disk) disk held part.down in
      record {
        call = rw part.failed (seen_run stays.run held stays.left);
        contents = rw stays.same (same_synced result old.held (state old.disk).contents part.failed);
        log = refl;
      }

  after_synced : SyncsAfter result old.held new.held (state old.disk) (state new.disk) → SyncsTo result (state_of state old) (state_of state new)
  after_synced after =
      let stays = down_seen false old.held new.held (state old.disk) after.between disk held after.down.down in
      let run = run_then stays.calls 1 (is_err result) (state old.disk) after.between (state new.disk) stays.run after.sync.call in
      let same = rw after.down.empty at stays.same in
      rw after.down.empty (record {
        call = seen_run run held (nothing _);
        contents = rw same at (told_map _ _ (Syncs result) _ _ after.between.contents (state new.disk).contents
            (λ x y shape told. sync_seen result x y told) after.sync.call.before.shape after.sync.contents);
        log = refl;
      })

  pub syncs_seen : CacheSyncs state result old new → SyncsTo result (state_of state old) (state_of state new)
  syncs_seen syncs = elim syncs.down [
    | inl part ↦ part_synced part
    | inr after ↦ after_synced after
  ]
