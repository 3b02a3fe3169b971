-- A store over a file holds back no more than its room.
use Rattle.std.proofs.Common.{◌≡◌, ◌≤◌, ◌/◌, ℕ, false, Option, Some, None, List, [], ◌∷◌, length, take, drop, refl, ap, ◌∙◌, arith, inl, inr}
use Rattle.std.proofs.lemmas.Bool.{cases_Bool, cases_lt}
use Rattle.std.proofs.lemmas.List.{length-append, length-drop, length-take}
use Rattle.std.specs.Prelude.{Result}
use Rattle.aoe_disk.specs.State.{DiskState}
use Rattle.aoe_cache.specs.Any.{StaysWith, any_disk, any_state}
use Rattle.aoe_cache.specs.Cache.{Cache, CacheSyncs, CacheWrites, PutsAfter}
use Rattle.aoe_cache.specs.Down.{Run, WritesPart, unwritten}
use Rattle.aoe_cache.specs.Held.{with_written}
use Rattle.aoe_cache.specs.declared.any.AnyStore.{AnyStore}
use Rattle.aoe_cache.specs.declared.any.AnyStore.TheVariants.{Direct, Cached}
use Rattle.aoe_cache.specs.declared.place.HeldSector.{HeldSector}
use Rattle.aoe_cache.proofs.Ascending.{length-with_written}
use Rattle.aoe_cache.specs.Cache.{seen, seen_contents}
use Rattle.aoe_cache.specs.Free.{KeepsSettled}
use Rattle.aoe_store.specs.Lasting.{LastsTo, StoresAs}
use Rattle.aoe_store.specs.Store.{StoresTo}
use Rattle.std.specs.Option.{option_map}
use Rattle.aoe_disk.specs.State.{BothTell, Contents}
use Rattle.aoe_serve.specs.Backing.{HoldsBack, IsBacking, lasts_of, over_file}
use Rattle.aoe_serve.specs.declared.backing.FileStore.TheVariants.{Any}
use Rattle.aoe_serve.specs.Files.{IsUnder, shown}

-- Over a file.

pub over-disk : {D : Type 0} (most : Option ℕ) (disk : D) → any_disk (over_file most disk) ≡ disk
over-disk None disk = refl
over-disk (Some most) disk = refl

pub over-state : {D : Type 0} (state : D → DiskState) (most : Option ℕ) (disk : D) → any_state state (over_file most disk) ≡ shown most [] (state disk)
over-state state None disk = refl
over-state state (Some most) disk = refl

pub over-sectors : {D : Type 0} (state : D → DiskState) (most : Option ℕ) (disk : D) → (any_state state (over_file most disk)).sectors ≡ (state disk).sectors
over-sectors state None disk = refl
over-sectors state (Some most) disk = refl

pub shown-faults : (most : Option ℕ) (held : List HeldSector) (disk : DiskState) → (shown most held disk).faults ≡ disk.faults
shown-faults None held disk = refl
shown-faults (Some most) held disk = refl

unwritten-fewer : (runs : List Run) (held : List HeldSector) → length (unwritten runs held) ≤ length held
unwritten-fewer [] held = omega arith
unwritten-fewer (r ∷ runs) held =
    let rest = unwritten-fewer runs (drop r.count held) in
    let less = length-drop r.count held in
    elim (cases_Bool r.failed) [
      | inl failed ↦ rw failed (omega (arith, rest, less, length-append (take r.count held) (unwritten runs (drop r.count held)), length-take r.count held))
      | inr written ↦ rw written (omega (arith, rest, less))
    ]

part-fewer : {T E : Type 0} (result : Result T E) (held left : List HeldSector) (old new : DiskState) → WritesPart result held left old new
    → length left ≤ length held
part-fewer result held left old new part = omega (arith, ap length part.down.stays, unwritten-fewer part.down.runs held)

puts-few : {T E : Type 0} (at n : ℕ) (piece : List ℕ) (result : Result T E) (most : ℕ) (held : List HeldSector) (between new : DiskState)
    → PutsAfter at n piece result most held between new → length held ≤ most
puts-few at n piece result most held between new puts =
    elim (cases_lt most n) [
      | inl more ↦ omega (arith, ap length (puts.disk more).0)
      | inr few ↦ omega (arith, few, ap length (puts.buffer (omega (arith, few))).2, length-with_written at n piece [])
    ]

-- a relation between a cached store before and after that keeps its room, and what it holds within it
record KeepsRoom {D : Type 0} (old new : Cache D) : Type 0 where
  room : new.room ≡ old.room
  few : length old.held ≤ old.room → length new.held ≤ old.room

holds-then : {D : Type 0} (R : Cache D → Cache D → Type 0) (most : Option ℕ) (old new : AnyStore D) → ((a b : Cache D) → R a b → KeepsRoom a b)
    → StaysWith R old new
    → HoldsBack most old → HoldsBack most new
holds-then R None (Direct a) (Direct b) keeps stays holds = tt
holds-then R None (Direct a) (Cached b) keeps stays holds = absurd stays
holds-then R None (Cached a) new keeps stays holds = absurd holds
holds-then R (Some most) (Direct a) new keeps stays holds = absurd holds
holds-then R (Some most) (Cached a) (Direct b) keeps stays holds = absurd stays
holds-then R (Some most) (Cached a) (Cached b) keeps stays holds =
    let k = keeps a b stays in
    (k.room ∙ holds.0, omega (arith, holds.0, k.few (omega (arith, holds.0, holds.1))))

module _ {D T E : Type 0} (state : D → DiskState) (most : Option ℕ) (result : Result T E) (old new : AnyStore D) where
  pub holds-write : (at : ℕ) (piece : List ℕ) → StaysWith (CacheWrites state at piece result) old new → HoldsBack most old → HoldsBack most new
  holds-write at piece = holds-then (CacheWrites state at piece result) most old new keeps
    where
      keeps : (a b : Cache D) → CacheWrites state at piece result a b → KeepsRoom a b
      keeps a b w = record {
        room = w.room;
        few = λ few. elim (cases_lt a.room (length (with_written at (length piece / 512) piece a.held))) [
          | inl more ↦ elim (w.beyond more) [
            | inl part ↦ omega (arith, few, part-fewer result a.held b.held (state a.disk) (state b.disk) part)
            | inr after ↦ puts-few at (length piece / 512) piece result a.room b.held after.between (state b.disk) after.puts
          ]
          | inr within ↦ let within_room : length (with_written at (length piece / 512) piece a.held) ≤ a.room = omega (arith, within) in
              omega (arith, within_room, ap length (w.within within_room).held)
        ];
      }

  pub holds-sync : StaysWith (CacheSyncs state result) old new → HoldsBack most old → HoldsBack most new
  holds-sync = holds-then (CacheSyncs state result) most old new keeps
    where
      keeps : (a b : Cache D) → CacheSyncs state result a b → KeepsRoom a b
      keeps a b s = record {
        room = s.room;
        few = λ few. elim s.down [
          | inl part ↦ omega (arith, few, part-fewer result a.held b.held (state a.disk) (state b.disk) part)
          | inr after ↦ omega (arith, ap length after.down.empty)
        ];
      }

  -- the same of the store of a slot
  pub any-write : (at : ℕ) (piece : List ℕ) → StaysWith (CacheWrites state at piece result) old new → IsBacking most (Any old) → IsBacking most (Any new)
  any-write at piece stays is = (is.0, holds-write at piece stays is.1)

  pub any-sync : StaysWith (CacheSyncs state result) old new → IsBacking most (Any old) → IsBacking most (Any new)
  any-sync stays is = (is.0, holds-sync stays is.1)

-- Writes that last, and others.

pub stores-any : {T E : Type 0} (most : Option ℕ) (at : ℕ) (piece : List ℕ) (result : Result T E) (a b : DiskState) → lasts_of most ≡ false
    → StoresTo at piece result a b → StoresAs (lasts_of most) at piece result a b
stores-any most at piece result a b e stores = rw e stores

pub stores-durable : {T E : Type 0} (most : Option ℕ) (at : ℕ) (piece : List ℕ) (result : Result T E) (a b : DiskState) → most ≡ Some 0
    → LastsTo at piece result a b → StoresAs (lasts_of most) at piece result a b
stores-durable most at piece result a b e lasts = rw e lasts

pub under-durable : (most : Option ℕ) (disk : DiskState) → most ≡ Some 0 → IsUnder most disk (seen [] disk)
under-durable most disk e = rw e (record { held = []; few = omega arith; is = refl; kept = kept disk.contents })
  where
    kept : (c : Option Contents) → BothTell KeepsSettled (option_map (seen_contents []) c) c
    kept None = tt
    kept (Some c) = record { kept = λ s e. (e, refl) }
