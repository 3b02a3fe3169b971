-- The third sector of a mark disk, and what is written of it.
use Rattle.std.proofs.Common.{◌≡◌, ◌≤◌, ◌<◌, ◌+◌, ◌*◌, ◌/◌, ◌++◌, ℕ, zero, suc, true, false, Option, None, Some, IfSome, List, [], length, take, drop, replicate, unwrap_or, Result, Ok, Err, OnOk, is_err, refl, sym, ap, ◌∙◌, inl, inr, arith}
use Rattle.std.proofs.lemmas.List.{drop-drop, drop_at, length-replicate, take_at}
use Rattle.std.specs.Prelude.{slice_set}
use Rattle.aoe_disk.specs.State.{BothTell, Contents, DiskState, HasShape, IsDisk, is_loose, sector}
use Rattle.aoe_disk.specs.Calls.{IsRange, Puts, Reads, Syncs, SyncsTo, Writes, WritesTo}
use Rattle.aoe_disk.specs.Sectors.{Calms, IsOutside, Touches}
use Rattle.aoe_disk.proofs.Touching.{puts_touch, sector-with_sector, settles_kept, spoils_touch}
use Rattle.aoe_mirror.specs.Calls.{Answer}
use Rattle.aoe_mirror.specs.Names.{AreKnown, IsKnown, KeepsNames, are_zeros, digest_in, is_head, is_third, names_at, names_in}
use Rattle.aoe_mirror.specs.declared.names.Named.{Named}
use Rattle.aoe_mirror.proofs.Told.{if_mono, told_if, told_mono, told_then, told_with}
use Rattle.aoe_mirror.proofs.Quiet.{settled_by}
use Rattle.aoe_mirror.proofs.Surviving.{zeros}
use Rattle.aoe_mirror.proofs.Cleaning.{sector_past}
use Rattle.aoe_mirror.proofs.Reading.{ok_given}
use Rattle.aoe_mirror.proofs.Syncing.{synced_calm}
use Rattle.aoe_mirror.proofs.Writing.{put_by}

-- WHAT THE SECTOR SAYS

pub names_is : (bytes : List ℕ) → names_at bytes ≡ names_in (sector bytes 2)
unfolding names_at
names_is bytes = refl

no_names : names_in [] ≡ Some (record { one = None; two = None })
unfolding names_in
no_names = refl

pub names_zeros : (marked : List ℕ) → are_zeros marked ≡ true → names_in marked ≡ Some (record { one = None; two = None })
unfolding names_in
names_zeros marked z = rw z refl

pub names_none : (marked : List ℕ) → are_zeros marked ≡ false → is_third marked ≡ false → names_in marked ≡ None
unfolding names_in
names_none marked z h = rw (z, h) refl

pub names_some : (marked : List ℕ) → are_zeros marked ≡ false → is_third marked ≡ true
    → names_in marked ≡ Some (record { one = digest_in (take 32 (drop 32 marked)); two = digest_in (take 32 (drop 64 marked)) })
unfolding names_in
names_some marked z h = rw (z, h) refl

third_is : (marked : List ℕ) → is_head (take 32 marked) ≡ true → are_zeros (drop 96 marked) ≡ true → is_third marked ≡ true
unfolding is_third
third_is marked h r = rw (h, r) refl

-- WRITING IT

-- the first bytes of a sector that knows names
abbrev pub head_of : ℕ → List ℕ
head_of n = slice_set (replicate n 0) 0 0x5a

head_is : (n : ℕ) → 0 < n → is_head (head_of n) ≡ true
unfolding is_head
head_is zero some = absurd (omega (arith, some))
head_is (suc n) some = rw (zeros n) refl

head_some : (n : ℕ) → 0 < n → (rest : List ℕ) → are_zeros (head_of n ++ rest) ≡ false
head_some zero some rest = absurd (omega (arith, some))
head_some (suc n) some rest = refl

head_size : (n : ℕ) → 0 < n → length (head_of n) ≡ n
head_size zero some = absurd (omega (arith, some))
head_size (suc n) some = ap suc (length-replicate n 0)

zeros_drop : (k n : ℕ) → are_zeros (drop k (replicate n 0)) ≡ true
zeros_drop zero n = zeros n
zeros_drop (suc k) zero = refl
zeros_drop (suc k) (suc n) = zeros_drop k n

digest_back : (n : ℕ) (name : Option (List ℕ)) → IsKnown name → digest_in (unwrap_or name (replicate n 0)) ≡ name
unfolding digest_in
digest_back n None known = rw (zeros n) refl
digest_back n (Some digest) known = rw known refl

module _ (head one two rest : List ℕ) (lh : length head ≡ 32) (lo : length one ≡ 32) (lt : length two ≡ 32) where
  abbrev whole : List ℕ
  whole = head ++ (one ++ (two ++ rest))

  behind_head : drop 32 whole ≡ one ++ (two ++ rest)
  behind_head = drop_at head (one ++ (two ++ rest)) 32 lh

  behind_one : drop 64 whole ≡ two ++ rest
  behind_one = sym (drop-drop 32 32 whole) ∙ ap (drop 32) behind_head ∙ drop_at one (two ++ rest) 32 lo

  behind_two : drop 96 whole ≡ rest
  behind_two = sym (drop-drop 32 64 whole) ∙ ap (drop 32) behind_one ∙ drop_at two rest 32 lt

  names_back : are_zeros whole ≡ false → is_head head ≡ true → are_zeros rest ≡ true
      → names_in whole ≡ Some (record { one = digest_in one; two = digest_in two })
  names_back some is quiet =
      names_some whole some (third_is whole (ap is_head (take_at head (one ++ (two ++ rest)) 32 lh) ∙ is) (ap are_zeros behind_two ∙ quiet))
      ∙ ap (λ (l : List ℕ). Some (record { one = digest_in l; two = digest_in (take 32 (drop 64 whole)) }))
      (ap (take 32) behind_head ∙ take_at one (two ++ rest) 32 lo)
      ∙ ap (λ (l : List ℕ). Some (record { one = digest_in one; two = digest_in l })) (ap (take 32) behind_one ∙ take_at two rest 32 lt)

-- the digests stand in a sector of zeros
pub digests_put : (n : ℕ) → n ≡ 32 → (head one two rest one' two' out : List ℕ) → head ≡ head_of n → one ≡ one' → two ≡ two' → rest ≡ drop 96 out
    → (m : ℕ) → out ≡ replicate m 0 → length one' ≡ 32 → length two' ≡ 32
    → names_in (head ++ (one ++ (two ++ rest))) ≡ Some (record { one = digest_in one'; two = digest_in two' })
digests_put n size head one two rest one' two' out h e f r m quiet lo lt = rw (h, e, f, r, quiet)
    (names_back (head_of n) one' two' (drop 96 (replicate m 0)) (head_size n (omega (arith, size)) ∙ size) lo lt
    (head_some n (omega (arith, size)) (one' ++ (two' ++ drop 96 (replicate m 0)))) (head_is n (omega (arith, size))) (zeros_drop 96 m))

-- what is behind three digests
pub rest_put : (a b c out : List ℕ) → a ≡ drop 32 out → b ≡ drop 32 a → c ≡ drop 32 b → c ≡ drop 96 out
rest_put a b c out e f g = g ∙ ap (drop 32) (f ∙ ap (drop 32) e ∙ drop-drop 32 32 out) ∙ drop-drop 32 64 out

-- what was written is read again
pub digests_back : (names : Named) (n : ℕ) (one two : List ℕ) → AreKnown names → one ≡ unwrap_or names.one (replicate n 0) → two ≡ unwrap_or names.two (replicate n 0)
    → Some (record { one = digest_in one; two = digest_in two }) ≡ Some names
digests_back names n one two known e f = ap (λ (x : Option (List ℕ)). Some (record { one = x; two = digest_in two })) (ap digest_in e ∙ digest_back n names.one known.one)
    ∙ ap (λ (x : Option (List ℕ)). Some (record { one = names.one; two = x })) (ap digest_in f ∙ digest_back n names.two known.two)

-- A SECTOR THAT IS WRITTEN AND SYNCED

pub touch_calm : (at n : ℕ) (a b c : Contents) → Touches at n a b → Calms b c → Touches at n a c
touch_calm at n a b c t m = record {
  size = ap length m.bytes ∙ t.size;
  marks = m.marks ∙ t.marks;
  same = λ s out. ap (λ (l : List ℕ). sector l s) m.bytes ∙ t.same s out;
  kept = λ s out off. m.kept s (t.kept s out off);
}

pub calm_touch : (at n : ℕ) (a b c : Contents) → Calms a b → Touches at n b c → Touches at n a c
calm_touch at n a b c m t = record {
  size = t.size ∙ ap length m.bytes;
  marks = t.marks ∙ m.marks;
  same = λ s out. t.same s out ∙ ap (λ (l : List ℕ). sector l s) m.bytes;
  kept = λ s out off. t.kept s out (m.kept s off);
}

-- the sectors before one, and that one
pub touch_next : (n : ℕ) (a b c : Contents) → Touches 0 n a b → Touches n 1 b c → Touches 0 (n + 1) a c
touch_next n a b c t u = record {
  size = u.size ∙ t.size;
  marks = u.marks ∙ t.marks;
  same = λ s out. u.same s (past s out) ∙ t.same s (behind s out);
  kept = λ s out off. u.kept s (past s out) (t.kept s (behind s out) off);
}
  where
    past : (s : ℕ) → IsOutside 0 (n + 1) s → IsOutside n 1 s
    past s (inl low) = absurd (omega (arith, low))
    past s (inr high) = inr (omega (arith, high))

    behind : (s : ℕ) → IsOutside 0 (n + 1) s → IsOutside 0 n s
    behind s (inl low) = absurd (omega (arith, low))
    behind s (inr high) = inr (omega (arith, high))

pub touch_more : (n m : ℕ) → n ≤ m → (a b : Contents) → Touches 0 n a b → Touches 0 m a b
touch_more n m le a b t = record { size = t.size; marks = t.marks; same = λ s out. t.same s (behind s out); kept = λ s out off. t.kept s (behind s out) off }
  where
    behind : (s : ℕ) → IsOutside 0 m s → IsOutside 0 n s
    behind s (inl low) = absurd (omega (arith, low))
    behind s (inr high) = inr (omega (arith, high))

touch_none : (at n : ℕ) (a b : Contents) → Calms a b → Touches at n a b
touch_none at n a b m = record { size = ap length m.bytes; marks = m.marks; same = λ s out. ap (λ (l : List ℕ). sector l s) m.bytes; kept = λ s out off. m.kept s off }

pub touch_idle : (at n : ℕ) (a b : DiskState) → BothTell Calms a.contents b.contents → BothTell (Touches at n) a.contents b.contents
touch_idle at n a b calm = told_mono Calms (Touches at n) a.contents b.contents calm (touch_none at n)

module _ (t : ℕ) (piece : List ℕ) (size : length piece ≡ 512) (a b : DiskState) (r : Answer) (disk : IsDisk a) (room : t < a.sectors) (w : WritesTo t piece r a b) where
  single : length piece / 512 ≡ 1
  single = omega (arith, size)

  range : IsRange t (length piece) a.sectors
  range = record { some = omega (arith, size); whole = omega (arith, size); within = omega (arith, size, room) }

  touches_by : (q : Answer) (x y : Contents) → HasShape a.sectors x → Writes t piece q x y → Touches t (length piece / 512) x y
  touches_by (Ok v) x y shape h = puts_touch t piece x y a.sectors shape range h
  touches_by (Err e) x y shape h = spoils_touch t (length piece) x y a.sectors shape range h

  pub touch_written : BothTell (Touches t 1) a.contents b.contents
  touch_written = told_with (Writes t piece r) (Touches t 1) (HasShape a.sectors) a.contents b.contents w.contents disk.shape
      (λ x y shape h. rw single at (touches_by r x y shape h))

  pub touch_synced : (q : Answer) (c : DiskState) → SyncsTo q b c → BothTell (Touches t 1) a.contents c.contents
  touch_synced q c s = told_then (Touches t 1) Calms (Touches t 1) a.contents b.contents c.contents touch_written (synced_calm q b c s) (touch_calm t 1)

  module _ (put : is_err r ≡ false) (q : Answer) (c : DiskState) (s : SyncsTo q b c) where
    stands : IfSome b.contents (λ (y : Contents). sector y.bytes t ≡ piece)
    stands = told_if (Puts t piece) (HasShape a.sectors) (λ (y : Contents). sector y.bytes t ≡ piece) a.contents b.contents
        (told_mono (Writes t piece r) (Puts t piece) a.contents b.contents w.contents (λ x y. put_by t piece r x y put)) disk.shape
        (λ x y shape p. ap (λ (l : List ℕ). sector l t) p.bytes
        ∙ sector-with_sector x.bytes piece t size (let bytes = shape.bytes in omega (arith, bytes, room)))

    settled : is_err q ≡ false → IfSome c.contents (λ (z : Contents). (sector z.bytes t ≡ piece) × (is_loose z.loose t ≡ false))
    settled done = told_if (Syncs q) (λ (y : Contents). sector y.bytes t ≡ piece)
        (λ (z : Contents). (sector z.bytes t ≡ piece) × (is_loose z.loose t ≡ false)) b.contents c.contents s.contents stands
        (λ y z h u.
        let settles = settled_by q y z done u in
        (ap (λ (l : List ℕ). sector l t) settles.bytes ∙ h, settles_kept y z settles t))

ok_by : {T E : Type 0} {P : Type 0} (q : Result T E) → (is_err q ≡ false → P) → OnOk q P
ok_by (Ok v) h = h refl
ok_by (Err e) h = tt

pub keeps_written : (names : Named) (piece : List ℕ) → length piece ≡ 512 → names_in piece ≡ Some names → (a b : DiskState) (r : Answer) → IsDisk a → 2 < a.sectors
    → WritesTo 2 piece r a b → is_err r ≡ false → (q : Answer) (c : DiskState) → SyncsTo q b c → OnOk q (IfSome c.contents (KeepsNames names))
keeps_written names piece size is a b r disk room w put q c s = ok_by q (λ done.
    if_mono (λ (z : Contents). (sector z.bytes 2 ≡ piece) × (is_loose z.loose 2 ≡ false)) (KeepsNames names) c.contents
    (settled 2 piece size a b r disk room w put q c s done)
    (λ z h. record { kept = h.1; names = names_is z.bytes ∙ ap names_in h.0 ∙ is }))

-- READING IT

-- a mark disk with fewer than three sectors
pub no_names_at : (d : DiskState) → IsDisk d → d.sectors ≤ 2 → IfSome d.contents (λ (c : Contents). Some (record { one = None; two = None }) ≡ names_at c.bytes)
no_names_at d disk few = if_mono (HasShape d.sectors) (λ (c : Contents). Some (record { one = None; two = None }) ≡ names_at c.bytes) d.contents disk.shape
    (λ c shape. sym (names_is c.bytes ∙ ap names_in (sector_past c.bytes d.sectors 2 shape.bytes few) ∙ no_names))

pub names_read : (d e : DiskState) (q : Answer) (out : List ℕ) → is_err q ≡ false → Reads 2 512 q out d e
    → IfSome d.contents (λ (c : Contents). names_in out ≡ names_at c.bytes)
names_read d e q out ok read = if_mono (λ (c : Contents). out ≡ take 512 (drop (512 * 2) c.bytes)) (λ (c : Contents). names_in out ≡ names_at c.bytes)
    d.contents (ok_given q ok read.given) (λ c h. ap names_in h ∙ sym (names_is c.bytes))
