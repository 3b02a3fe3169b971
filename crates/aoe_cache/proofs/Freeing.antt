-- The disk without the buffer, and how much can be written before it is.
use Rattle.std.proofs.Common.{◌≡◌, ◌≤◌, ◌+◌, ◌-◌, ◌/◌, ℕ, true, false, List, [], Option, Some, None, IfSome, Result, Ok, Err, OnOk, is_err, length, refl, sym, arith, ◌∙◌, ap, inl, inr, option_map}
use Rattle.std.proofs.lemmas.Bool.{both_ways, cases_Bool}
use Rattle.std.proofs.lemmas.Option.{IfSome_then}
use Rattle.aoe_base.proofs.CommonLemmas.{none-set}
use Rattle.aoe_disk.specs.State.{Contents, DiskState, HasShape, IsDisk, BothTell}
use Rattle.aoe_disk.specs.Calls.{IsRange, Settles}
use Rattle.aoe_cache.specs.declared.place.HeldSector.{HeldSector}
use Rattle.aoe_cache.specs.Held.{held_for, with_written}
use Rattle.aoe_cache.specs.Cache.{Cache, CacheSyncs, CacheWrites, seen_contents, state_of}
use Rattle.aoe_cache.specs.Free.{Frees, KeepsSettled, Spends, base, free, free_of, is_settled}
use Rattle.aoe_cache.proofs.Ascending.{AreHeld, count_le, count_mono, length-with_written}
use Rattle.aoe_cache.proofs.Sectors.{cases_held, laid_at, marked_at}
use Rattle.aoe_cache.proofs.Seen.{syncs_seen}

-- a sector that isn't loose in the store isn't held

pub keeps_settled : {sectors : ℕ} {hs : List HeldSector} (held : AreHeld sectors hs) (c : Option Contents) → IfSome c (HasShape sectors)
    → BothTell KeepsSettled (option_map (seen_contents hs) c) c
keeps_settled held None shape = tt
keeps_settled {sectors} {hs} held (Some c) shape = record {
  kept = λ s settled.
      let marks = marked_at s sectors c.loose hs held.below shape.marks in
      let bytes = laid_at s sectors 0 c.bytes hs held.order held.below shape.bytes in
      elim (cases_held (held_for hs s)) [
        | inl none ↦ (sym (rw none at marks) ∙ settled, sym (rw none at bytes))
        | inr p ↦ absurd (both_ways _ settled (rw p.1 at marks))
      ];
}

-- a number of places is free where no sector of the disk is loose, whatever the number

free_as : (x y k : ℕ) (c : Option Contents) → free_of x c ≡ Some k → (k ≡ x) × (free_of y c ≡ Some y)
free_as x y k None e = cc
free_as x y k (Some c) e = elim (cases_Bool (is_settled c)) [
  | inl is ↦ let f : Some x ≡ Some k = rw is at e in (cc, rw is refl)
  | inr is ↦ let f : None ≡ Some k = rw is at e in cc
]

-- a write of fewer sectors than are free
pub spends_free : {D T E : Type 0} (state : D → DiskState) (at : ℕ) (piece : List ℕ) (result : Result T E) (old new : Cache D)
    → IsRange at (length piece) (state old.disk).sectors → CacheWrites state at piece result old new
    → (k : ℕ) → free state old ≡ Some k → length piece / 512 ≤ k → Spends state (length piece / 512) k old new
spends_free state at piece result old new range writes k is le =
    let n : ℕ = length piece / 512 in
    let left : ℕ = new.room - length new.held in
    let places = free_as (old.room - length old.held) left k (state old.disk).contents is in
    let size = length-with_written at n piece old.held in
    let order = count_mono at (at + n) old.held (omega arith) in
    let last = count_le (at + n) old.held in
    let fits : length (with_written at n piece old.held) ≤ old.room = omega (arith, size, order, last, places.0, le, range.some, range.whole) in
    let puts = writes.within fits in
    record {
      disk = rw puts.disk refl;
      left = left;
      free = rw puts.disk places.1;
      fewer = omega (arith, size, order, last, places.0, le, writes.room, ap length puts.held);
    }

-- an Ok sync

frees_from : (room : ℕ) (shown disk : Option Contents) → BothTell Settles shown (option_map (seen_contents []) disk)
    → IfSome shown (λ c. (option_map (λ (d : Contents). d.bytes) disk ≡ Some c.bytes) × (free_of room disk ≡ Some room))
frees_from room None disk told = tt
frees_from room (Some x) None told = absurd told
frees_from room (Some x) (Some y) told =
    let settled : is_settled y ≡ true = rw told.loose (none-set (length x.loose)) in
    (ap Some told.bytes, rw settled refl)

module _ {D T E : Type 0} (state : D → DiskState) (old new : Cache D) (disk : IsDisk (state old.disk)) (held : AreHeld (state old.disk).sectors old.held) where
  pub frees_all : (result : Result T E) → CacheSyncs state result old new → is_err result ≡ false
      → IfSome (state_of state old).contents (λ c. (base state new ≡ Some c.bytes) × (free state new ≡ Some new.room))
  frees_all (Err e) syncs ok = cc
  frees_all (Ok v) syncs ok = elim syncs.down [
    | inl part ↦ let wrong : false ≡ true = part.failed in cc
    | inr after ↦
        let there = syncs_seen state (Ok v) old new disk held syncs in
        let empty = rw after.down.empty at there.contents in
        let all : new.room - 0 ≡ new.room = omega arith in
        rw (after.down.empty, all) (frees_from new.room (state_of state old).contents (state new.disk).contents empty)
  ]

  pub frees_room : (result : Result T E) → CacheSyncs state result old new → OnOk result (IfSome (state_of state old).contents (λ shown. Frees state shown new))
  frees_room (Err e) syncs = tt
  frees_room (Ok v) syncs = IfSome_then (state_of state old).contents {Q = λ shown. Frees state shown new} (frees_all (Ok v) syncs refl)
      (λ shown f. record { disk = f.0; free = f.1 })
