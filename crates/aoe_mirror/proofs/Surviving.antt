-- What a crash of all three disks leaves, and a mark disk that is read.
use Rattle.std.proofs.Common.{◌≡◌, ◌≤◌, ◌<◌, ◌==◌, ◌⊎◌, ℕ, zero, suc, Bool, true, false, Option, None, Some, IfSome, List, length, drop, get_or, replicate, Result, Ok, Err, OnOk, is_err, refl, sym, ap, ◌∙◌, inl, inr, arith, eq-eqb, if◌then◌else◌}
use Rattle.std.proofs.lemmas.Bool.{both_ways, cases_Bool}
use Rattle.std.proofs.lemmas.List.{get_or-take}
use Rattle.std.specs.List.{list_all}
use Rattle.std.specs.Prelude.{slice_set}
use Rattle.aoe_disk.specs.State.{CanLeave, Contents, DiskState, HasShape, IsDisk, is_loose, sector}
use Rattle.aoe_disk.specs.Calls.{Puts, Syncs, SyncsTo, Writes, WritesTo}
use Rattle.aoe_disk.proofs.Touching.{sector-with_sector, settles_kept}
use Rattle.aoe_mirror.specs.Sides.{Agree, IsMirror, Names, Pair, Survives, both, mark_in, named, reopened, seen, side_in}
use Rattle.aoe_mirror.specs.Calls.{Answer}
use Rattle.aoe_mirror.proofs.Told.{told_if, told_mono}
use Rattle.aoe_mirror.proofs.Whole.{Fit, seen_at}
use Rattle.aoe_mirror.proofs.Quiet.{parts_in, settled_by}
use Rattle.aoe_mirror.proofs.Steps.{fit_of}
use Rattle.aoe_mirror.proofs.Writing.{put_by}

-- the first byte of a disk
first_byte : (bytes : List ℕ) → get_or bytes 0 0 ≡ get_or (sector bytes 0) 0 0
first_byte bytes = sym (get_or-take 512 bytes 0 0 (omega arith))

names_same : (mark : Contents) (image : List ℕ) → is_loose mark.loose 0 ≡ false → CanLeave mark image → named image ≡ named mark.bytes
names_same mark image kept leave = ap (λ (b : ℕ). if b == 0xa7 then 1 else 0)
    (first_byte image ∙ ap (λ (l : List ℕ). get_or l 0 0) (leave.kept 0 kept) ∙ sym (first_byte mark.bytes))

module _ (p : Pair) (m : IsMirror p) (sides : Contents × Contents) (mark : Contents) (one two three : List ℕ)
    (told : both p.lead.contents p.follower.contents ≡ Some sides) (marked : p.mark.contents ≡ Some mark)
    (lead : CanLeave sides.0 one) (follower : CanLeave sides.1 two) (left : CanLeave mark three) where
  fit : Fit p.lead.sectors p.stale sides
  fit = rw told at (fit_of p m)

  agree : Agree p.settled p.stale sides
  agree = rw told at m.agree

  parts : (s : ℕ) → is_loose (seen p.stale sides).loose s ≡ false → (is_loose sides.0.loose s ≡ false)
      × ((is_loose sides.1.loose s ≡ false) ⊎ (is_loose p.stale s ≡ true))
  parts s off = parts_in (is_loose sides.0.loose s) (is_loose sides.1.loose s) (is_loose p.stale s) (sym (seen_at p.lead.sectors p.stale sides s fit) ∙ off)

  from_lead : CanLeave (seen p.stale sides) one
  from_lead = record { size = lead.size; kept = λ s off. lead.kept s (parts s off).0 }

  from_follower : p.settled ≡ false → CanLeave (seen p.stale sides) two
  from_follower isnt = record {
    size = follower.size ∙ fit.follower.bytes ∙ sym fit.lead.bytes;
    kept = λ s off. elim (cases_Bool (is_loose p.stale s)) [
      | inl on ↦ absurd (both_ways _ (parts s off).0 (agree.unsettled isnt s on))
      | inr fresh ↦ elim (parts s off).1 [
        | inl quiet ↦ follower.kept s quiet ∙ agree.same s fresh
        | inr on ↦ absurd (both_ways _ fresh on)
      ]
    ];
  }

  names_lead : p.settled ≡ true → named three ≡ p.side
  names_lead is = let n : Names p.side mark = rw marked at (m.mark.named is) in names_same mark three n.kept left ∙ n.side

  from_either : (b : Bool) → p.settled ≡ false → CanLeave (seen p.stale sides) (if b then one else two)
  from_either true isnt = from_lead
  from_either false isnt = from_follower isnt

  survives_so : CanLeave (seen p.stale sides) (reopened p one two three)
  survives_so = elim (cases_Bool p.settled) [
    | inl is ↦ rw (eq-eqb (named three) p.side (names_lead is)) from_lead
    | inr isnt ↦ from_either (named three == p.side) isnt
  ]

pub survives : (p : Pair) → IsMirror p → Survives p
survives p m = λ sides mark one two three told marked lead follower left. survives_so p m sides mark one two three told marked lead follower left

-- the mark disk, synced and read

-- the side by what is known of the bytes of a mark: whether all but the first are zeros, and the first is that of the second side, or zero
abbrev side_by : Bool → Bool → Bool → Option ℕ
side_by zeros second first = if zeros then if second then Some 1 else if first then Some 0 else None else None

named_by : (zeros second first : Bool) (k : ℕ) → side_by zeros second first ≡ Some k → ((if second then 1 else 0) ≡ k) × (k ≤ 1)
named_by true true first k e = let is : 1 ≡ k = cc in (is, omega (arith, is))
named_by true false true k e = let is : 0 ≡ k = cc in (is, omega (arith, is))
named_by true false false k e = absurd cc
named_by false second first k e = absurd cc

pub named_in : (bytes : List ℕ) (k : ℕ) → side_in (sector bytes 0) ≡ Some k → (named bytes ≡ k) × (k ≤ 1)
unfolding side_in
named_in bytes k e =
    let marked = sector bytes 0 in
    let by = named_by (list_all (λ b. b == 0) (drop 1 marked)) (get_or marked 0 0 == 0xa7) (get_or marked 0 0 == 0) k e in
    (ap (λ (v : ℕ). if v == 0xa7 then 1 else 0) (first_byte bytes) ∙ by.0, by.1)

pub mark_is : (bytes : List ℕ) → mark_in bytes ≡ side_in (sector bytes 0)
unfolding mark_in
mark_is bytes = refl

-- a mark that is written

pub zeros : (n : ℕ) → list_all (λ b. b == 0) (replicate n 0) ≡ true
zeros zero = refl
zeros (suc n) = zeros n

pub first_side_in : (n : ℕ) → 0 < n → side_in (replicate n 0) ≡ Some 0
unfolding side_in
first_side_in zero some = absurd (omega (arith, some))
first_side_in (suc n) some = rw (zeros n) refl

pub second_side_in : (n : ℕ) → 0 < n → side_in (slice_set (replicate n 0) 0 0xa7) ≡ Some 1
unfolding side_in
second_side_in zero some = absurd (omega (arith, some))
second_side_in (suc n) some = rw (zeros n) refl

module _ (a b c : DiskState) (r q : Answer) (piece : List ℕ) (k : ℕ) (disk : IsDisk a) (room : 0 < a.sectors) (size : length piece ≡ 512)
    (mark : side_in piece ≡ Some k) (w : WritesTo 0 piece r a b) (put : is_err r ≡ false) (s : SyncsTo q b c) where
  marked : IfSome b.contents (λ (y : Contents). sector y.bytes 0 ≡ piece)
  marked = told_if (Puts 0 piece) (HasShape a.sectors) (λ (y : Contents). sector y.bytes 0 ≡ piece) a.contents b.contents
      (told_mono (Writes 0 piece r) (Puts 0 piece) a.contents b.contents w.contents (λ x y. put_by 0 piece r x y put)) disk.shape
      (λ x y shape p. ap (λ (l : List ℕ). sector l 0) p.bytes ∙ sector-with_sector x.bytes piece 0 size (let bytes = shape.bytes in omega (arith, bytes, room)))

  mark_written : is_err q ≡ false → IfSome c.contents (Names k)
  mark_written done = told_if (Syncs q) (λ (y : Contents). sector y.bytes 0 ≡ piece) (Names k) b.contents c.contents s.contents marked
      (λ y z h t.
      let settles = settled_by q y z done t in
      let whole : side_in (sector z.bytes 0) ≡ Some k = ap (λ (l : List ℕ). side_in (sector l 0)) settles.bytes ∙ ap side_in h ∙ mark in
      record { kept = settles_kept y z settles 0; side = (named_in z.bytes k whole).0; whole = mark_is z.bytes ∙ whole })

  pub mark_written_if : OnOk q (IfSome c.contents (Names k))
  mark_written_if = ok_by q mark_written
    where
      ok_by : {T E : Type 0} {P : Type 0} (q : Result T E) → (is_err q ≡ false → P) → OnOk q P
      ok_by (Ok v) h = h refl
      ok_by (Err e) h = tt
