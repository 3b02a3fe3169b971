-- The second sector of a mark disk, which says whether the mirror is clean.
use Rattle.std.proofs.Common.{◌≡◌, ◌≤◌, ◌<◌, ◌*◌, ◌/◌, ◌⊎◌, ℕ, zero, suc, Bool, true, false, not, Option, None, Some, IfOk, IfSome, option_map, List, [], length, take, drop, replicate, Result, Ok, Err, OnOk, is_err, refl, sym, ap, ◌∙◌, subst, inl, inr, arith, eq-eqb, ne_eqb}
use Rattle.std.proofs.lemmas.Bool.{OnTrue_at, both_ways, cases_eq, cases_lt}
use Rattle.std.proofs.lemmas.List.{drop_all, get_or-replicate, length-drop, take_all}
use Rattle.std.specs.Prelude.{slice_set}
use Rattle.aoe_disk.specs.State.{BothTell, Contents, DiskState, HasShape, IsDisk, is_loose, sector}
use Rattle.aoe_disk.specs.Calls.{IsRange, IsRun, Puts, Reads, Syncs, SyncsTo, Writes, WritesTo}
use Rattle.aoe_disk.specs.Sectors.{Calms, IsOutside}
use Rattle.aoe_disk.proofs.Pieces.{is_loose-replicate}
use Rattle.aoe_disk.proofs.Runs.{run_then}
use Rattle.aoe_disk.proofs.Touching.{sector-read, sector-with_sector, settles_kept}
use Rattle.aoe_mirror.specs.Calls.{Answer, CopiesAll, CopiesNext, MarkFailed, MirrorReads, MirrorSyncs, SettlesLead, SyncsAndCopies}
use Rattle.aoe_mirror.specs.Clean.{AreAlike, AreEqual, CrashesTruly, IsClean, IsMarked, KeepsName, KeepsWord, MarksClean, NothingLoose, Says, SaysTruly, TellAlike, clean_at, clean_in}
use Rattle.aoe_mirror.specs.Marks.{count_of}
use Rattle.aoe_mirror.specs.Mirror.{FindsMark, ReadsMark, Sees, first_of, found_in, second_of}
use Rattle.aoe_mirror.specs.Sides.{IsMark, IsMirror, Names, Pair, both, pair_of, seen, shown, side_in}
use Rattle.aoe_mirror.specs.declared.clean.Found.{Found}
use Rattle.aoe_mirror.specs.declared.sides.Sides.{Sides}
use Rattle.aoe_mirror.proofs.Bits.{count_none, next_set, none_count, set_some}
use Rattle.aoe_mirror.proofs.Told.{and_if, if_mono, map_if, told_if, told_mono, told_then, told_with}
use Rattle.aoe_mirror.proofs.Whole.{Fit, seen_at}
use Rattle.aoe_mirror.proofs.Quiet.{none_seen, parts_in, settled_by}
use Rattle.aoe_mirror.proofs.Steps.{Holds, fit_of, holds_of, settled_mirror, synced}
use Rattle.aoe_mirror.proofs.Surviving.{mark_is, named_in, zeros}
use Rattle.aoe_mirror.proofs.Reading.{ok_given}
use Rattle.aoe_mirror.proofs.Syncing.{same_calm, sync_ok, synced_calm, synced_quiet}
use Rattle.aoe_mirror.proofs.Writing.{beside_by, put_by}

-- WHAT THE SECTORS SAY

pub clean_is : (bytes : List ℕ) → clean_at bytes ≡ clean_in (sector bytes 1)
unfolding clean_at
clean_is bytes = refl

pub unclean_in : (n : ℕ) → 0 < n → clean_in (replicate n 0) ≡ Some false
unfolding clean_in
unclean_in zero some = absurd (omega (arith, some))
unclean_in (suc n) some = rw (zeros n) refl

pub is_clean_in : (n : ℕ) → 0 < n → clean_in (slice_set (replicate n 0) 0 0xc3) ≡ Some true
unfolding clean_in
is_clean_in zero some = absurd (omega (arith, some))
is_clean_in (suc n) some = rw (zeros n) refl

pub none_in : clean_in [] ≡ Some false
unfolding clean_in
none_in = refl

-- A CALL OF ANOTHER SECTOR

-- sector t is as it was, and isn't newly loose
abbrev pub Kept : ℕ → Contents → Contents → Type 0
Kept t a b = (sector b.bytes t ≡ sector a.bytes t) × (is_loose a.loose t ≡ false → is_loose b.loose t ≡ false)

kept_calm : (t : ℕ) (a b c : Contents) → Kept t a b → Calms b c → Kept t a c
kept_calm t a b c k m = (ap (λ (l : List ℕ). sector l t) m.bytes ∙ k.0, λ off. m.kept t (k.1 off))

pub says_kept : (clean : Bool) (a b : Contents) → Says clean a → Kept 1 a b → Says clean b
says_kept clean a b s k = record { kept = k.1 s.kept; says = clean_is b.bytes ∙ ap clean_in k.0 ∙ sym (clean_is a.bytes) ∙ s.says }

pub names_kept : (side : ℕ) (a b : Contents) → Names side a → Kept 0 a b → Names side b
names_kept side a b n k =
    let e : side_in (sector b.bytes 0) ≡ Some side = ap side_in k.0 ∙ sym (mark_is a.bytes) ∙ n.whole in
    record { kept = k.1 n.kept; side = (named_in b.bytes side e).0; whole = mark_is b.bytes ∙ e }

module _ (at t : ℕ) (out : IsOutside at 1 t) (piece : List ℕ) (size : length piece ≡ 512) (a b : DiskState) (r : Answer) (disk : IsDisk a)
    (room : at < a.sectors) (w : WritesTo at piece r a b) where
  one : length piece / 512 ≡ 1
  one = omega (arith, size)

  range : IsRange at (length piece) a.sectors
  range = record { some = omega (arith, size); whole = omega (arith, size); within = omega (arith, size, room) }

  kept_write : BothTell (Kept t) a.contents b.contents
  kept_write = told_with (Writes at piece r) (Kept t) (HasShape a.sectors) a.contents b.contents w.contents disk.shape
      (λ x y shape h.
      let beside = rw one at (beside_by at piece r x y a.sectors shape range h) in
      (beside.same t out, λ off. beside.marks.same t out ∙ off))

  kept_sync : (q : Answer) (c : DiskState) → SyncsTo q b c → BothTell (Kept t) a.contents c.contents
  kept_sync q c s = told_then (Kept t) Calms (Kept t) a.contents b.contents c.contents kept_write (synced_calm q b c s) (λ x y z k m. kept_calm t x y z k m)

keeps_word : (a b : DiskState) → BothTell (Kept 1) a.contents b.contents → KeepsWord a b
keeps_word a b kept = λ clean says. told_if (Kept 1) (Says clean) (Says clean) a.contents b.contents kept says (λ x y s k. says_kept clean x y s k)

keeps_name : (a b : DiskState) → BothTell (Kept 0) a.contents b.contents → KeepsName a b
keeps_name a b kept = λ side names. told_if (Kept 0) (Names side) (Names side) a.contents b.contents kept names (λ x y s k. names_kept side x y s k)

module _ (piece : List ℕ) (size : length piece ≡ 512) (a b : DiskState) (r : Answer) (disk : IsDisk a) where
  module _ (room : 0 < a.sectors) (w : WritesTo 0 piece r a b) where
    pub word_written : KeepsWord a b
    word_written = keeps_word a b (kept_write 0 1 (inr (omega arith)) piece size a b r disk room w)

    pub word_synced : (q : Answer) (c : DiskState) → SyncsTo q b c → KeepsWord a c
    word_synced q c s = keeps_word a c (kept_sync 0 1 (inr (omega arith)) piece size a b r disk room w q c s)

  module _ (room : 1 < a.sectors) (w : WritesTo 1 piece r a b) where
    pub name_written : KeepsName a b
    name_written = keeps_name a b (kept_write 1 0 (inl (omega arith)) piece size a b r disk room w)

    pub name_synced : (q : Answer) (c : DiskState) → SyncsTo q b c → KeepsName a c
    name_synced q c s = keeps_name a c (kept_sync 1 0 (inl (omega arith)) piece size a b r disk room w q c s)

    -- the sector that was written

    module _ (clean : Bool) (is : clean_in piece ≡ Some clean) (put : is_err r ≡ false) (q : Answer) (c : DiskState) (s : SyncsTo q b c) where
      second : IfSome b.contents (λ (y : Contents). sector y.bytes 1 ≡ piece)
      second = told_if (Puts 1 piece) (HasShape a.sectors) (λ (y : Contents). sector y.bytes 1 ≡ piece) a.contents b.contents
          (told_mono (Writes 1 piece r) (Puts 1 piece) a.contents b.contents w.contents (λ x y. put_by 1 piece r x y put)) disk.shape
          (λ x y shape p. ap (λ (l : List ℕ). sector l 1) p.bytes
          ∙ sector-with_sector x.bytes piece 1 size (let bytes = shape.bytes in omega (arith, bytes, room)))

      says_done : is_err q ≡ false → IfSome c.contents (Says clean)
      says_done done = told_if (Syncs q) (λ (y : Contents). sector y.bytes 1 ≡ piece) (Says clean) b.contents c.contents s.contents second
          (λ y z h t.
          let settles = settled_by q y z done t in
          record {
            kept = settles_kept y z settles 1;
            says = clean_is z.bytes ∙ ap (λ (l : List ℕ). clean_in (sector l 1)) settles.bytes ∙ ap clean_in h ∙ is;
          })

      pub says_written : OnOk q (IfSome c.contents (Says clean))
      says_written = ok_by q says_done
        where
          ok_by : {T E : Type 0} {P : Type 0} (q : Result T E) → (is_err q ≡ false → P) → OnOk q P
          ok_by (Ok v) h = h refl
          ok_by (Err e) h = tt

-- the mark disk said whether the mirror is clean
pub said_settles : (failed : Bool) (old : Pair) (mark : DiskState) → IsMark old → old.settled ≡ true → IsRun 2 failed old.mark mark → KeepsName old.mark mark
    → SettlesLead failed old (record old { mark = mark })
said_settles failed old mark m settled run name = record {
  is = refl;
  settled = λ _. settled;
  was = λ off. off;
  named = record { disk = run.after; room = rw run.sectors m.room; side = m.side; named = λ is. name old.side (m.named is) };
  mark = record { disk = run.after; sectors = run.sectors; later = run.later };
  unfailed = λ ok. (2, subst (λ (f : Bool). IsRun 2 f old.mark mark) ok run);
  cause = λ bad. OnTrue_at bad run.cause;
}

-- READING

-- a disk with one sector has no second one
past_one : (bytes : List ℕ) → length bytes ≡ 512 * 1 → sector bytes 1 ≡ []
past_one bytes size = ap (take 512) (drop_all 512 bytes (omega (arith, size)))

module _ (b c : DiskState) (q : Answer) (out : List ℕ) (found : Option Found) (side : IfSome found (λ (f : Found). f.side ≤ 1)) (ok : is_err q ≡ false) where
  pub sees_one : IsDisk b → b.sectors ≡ 1 → Reads 0 512 q out b c → found ≡ found_in (side_in out) (clean_in (replicate 512 0)) → Sees found b
  sees_one disk one read is = record {
    side = side;
    room = never found (is ∙ ap (λ (x : Option Bool). found_in (side_in out) x) (unclean_in 512 (omega arith)));
    read = if_mono (λ (x : Contents). HasShape b.sectors x × (out ≡ take 512 (drop (512 * 0) x.bytes)))
        (λ (x : Contents). found ≡ found_in (side_in (sector x.bytes 0)) (clean_in (sector x.bytes 1))) b.contents
        (and_if (HasShape b.sectors) (λ (x : Contents). out ≡ take 512 (drop (512 * 0) x.bytes)) b.contents disk.shape (ok_given q ok read.given))
        (λ x h.
        let none : clean_in (sector x.bytes 1) ≡ Some false = ap clean_in (past_one x.bytes (h.0.bytes ∙ ap (λ n. 512 * n) one)) ∙ none_in in
        rw none (rw h.1 at (is ∙ ap (λ (y : Option Bool). found_in (side_in out) y) (unclean_in 512 (omega arith)))));
  }
    where
      never : (f : Option Found) → f ≡ found_in (side_in out) (Some false) → IfSome f (λ (g : Found). g.is_clean ≡ true → 1 < b.sectors)
      never f e = rw e (by (side_in out))
        where
          by : (x : Option ℕ) → IfSome (found_in x (Some false)) (λ (g : Found). g.is_clean ≡ true → 1 < b.sectors)
          by None = tt
          by (Some k) = λ no. cc

  pub sees_two : 1 < b.sectors → length out ≡ 1024 → Reads 0 1024 q out b c → found ≡ found_in (side_in (take 512 out)) (clean_in (drop 512 out))
      → Sees found b
  sees_two two size read is = record {
    side = side;
    room = always found;
    read = if_mono (λ (x : Contents). out ≡ take 1024 (drop (512 * 0) x.bytes))
        (λ (x : Contents). found ≡ found_in (side_in (sector x.bytes 0)) (clean_in (sector x.bytes 1))) b.contents (ok_given q ok read.given)
        (λ x h.
        let first : take 512 out ≡ sector x.bytes 0 = ap (λ (l : List ℕ). sector l 0) h ∙ sector-read x.bytes 0 1024 0 (omega arith) in
        let second : drop 512 out ≡ sector x.bytes 1 = sym (take_all 512 (drop 512 out) (omega (arith, size, length-drop 512 out))) ∙ ap (λ (l : List ℕ). sector l 1) h
        ∙ sector-read x.bytes 0 1024 1 (omega arith) in
        rw (first, second) at is);
  }
    where
      always : (f : Option Found) → IfSome f (λ (g : Found). g.is_clean ≡ true → 1 < b.sectors)
      always None = tt
      always (Some g) = λ _. two

finds_by : (c : Contents) → NothingLoose c → (x : Option ℕ) (y : Option Bool) → side_in (sector c.bytes 0) ≡ x → clean_in (sector c.bytes 1) ≡ y
    → FindsMark (found_in x y) c
finds_by c quiet None y e f = inl (mark_is c.bytes ∙ e)
finds_by c quiet (Some k) None e f = inr (clean_is c.bytes ∙ f)
finds_by c quiet (Some k) (Some w) e f = (
  record { kept = quiet 0; side = (named_in c.bytes k e).0; whole = mark_is c.bytes ∙ e },
  record { kept = quiet 1; says = clean_is c.bytes ∙ f },
)

module _ (a b c : DiskState) (r : Answer) (sync : SyncsTo r a b) (ok : is_err r ≡ false) (same : c.contents ≡ b.contents) where
  pub looked_calm : BothTell Calms a.contents c.contents
  looked_calm = rw same (synced_calm r a b sync)

  pub looked_quiet : {E : Type 0} (q : Result (Option Found) E) → OnOk q (IfSome c.contents NothingLoose)
  looked_quiet (Ok found) = rw same (synced_quiet r a b ok sync)
  looked_quiet (Err e) = tt

  pub looked_run : (bad : Bool) → IsRun 1 bad b c → IsRun 2 bad a c
  looked_run bad run = run_then 1 1 bad a b c (rw ok at sync.call) run

  pub looked_reads : (found : Option Found) → IsRun 1 false b c → Sees found b → ReadsMark found a c
  looked_reads found run sees = record {
    run = looked_run false run;
    calm = looked_calm;
    side = sees.side;
    room = if_mono (λ (f : Found). f.is_clean ≡ true → 1 < b.sectors) (λ (f : Found). f.is_clean ≡ true → 1 < c.sectors) found sees.room
        (λ f h is. rw run.sectors (h is));
    names = rw same (if_mono (λ (x : Contents). NothingLoose x × (found ≡ found_in (side_in (sector x.bytes 0)) (clean_in (sector x.bytes 1))))
        (FindsMark found) b.contents
        (and_if NothingLoose (λ (x : Contents). found ≡ found_in (side_in (sector x.bytes 0)) (clean_in (sector x.bytes 1))) b.contents
        (synced_quiet r a b ok sync) sees.read)
        (λ x h. subst (λ (f : Option Found). FindsMark f x) (sym h.1)
        (finds_by x h.0 (side_in (sector x.bytes 0)) (clean_in (sector x.bytes 1)) refl refl)));
  }

  pub looked_reads_if : {E : Type 0} (q : Result (Option Found) E) → IsRun 1 (is_err q) b c → IfOk q (λ found. Sees found b)
      → IfOk q (λ found. ReadsMark found a c)
  looked_reads_if (Ok found) run sees = looked_reads found run sees
  looked_reads_if (Err e) run sees = tt

-- MOUNTING

pub none_stale : (n : ℕ) → count_of (replicate n false) ≡ 0
none_stale n = none_count (replicate n false) (λ s. is_loose-replicate n s)

pub sector_past : (bytes : List ℕ) (n s : ℕ) → length bytes ≡ 512 * n → n ≤ s → sector bytes s ≡ []
sector_past bytes n s size past = ap (take 512) (drop_all (512 * s) bytes (omega (arith, size, past)))

-- all is stale
alike_stale : (n : ℕ) (x y : Option Contents) → IfSome x (HasShape n) → IfSome y (HasShape n) → AreAlike (replicate n true) (both x y)
alike_stale n None None h k = tt
alike_stale n None (Some b) h k = tt
alike_stale n (Some a) None h k = tt
alike_stale n (Some a) (Some b) h k = λ s off. elim (cases_lt s n) [
  | inl within ↦ absurd (both_ways _ off (get_or-replicate n s true false within))
  | inr past ↦ sector_past b.bytes n s k.bytes past ∙ sym (sector_past a.bytes n s h.bytes past)
]

-- what was said at the end of the last run
truly_equal : (x y : Option Contents) (sides : Option (Contents × Contents)) → BothTell Calms x y → (x ≡ None → sides ≡ None)
    → IfSome y (λ (c : Contents). clean_at c.bytes ≡ Some true)
    → IfSome x (λ (c : Contents). clean_at c.bytes ≡ Some true → IfSome sides AreEqual) → IfSome sides AreEqual
truly_equal None y sides calm none says truly = rw (none refl) tt
truly_equal (Some c) None sides calm none says truly = absurd calm
truly_equal (Some c) (Some d) sides calm none says truly = truly (sym (ap clean_at calm.bytes) ∙ says)

module _ (one two mark mark' : DiskState) (side : ℕ) (clean : Bool) (reads : ReadsMark (Some (record { side = side; is_clean = clean })) mark mark')
    (truly : SaysTruly one two mark) (alike : TellAlike one two mark) where
  pub mounted_equal : clean ≡ true → IfSome (both one.contents two.contents) AreEqual
  mounted_equal is = truly_equal mark.contents mark'.contents (both one.contents two.contents) reads.calm alike
      (if_mono (FindsMark (Some (record { side = side; is_clean = clean }))) (λ (c : Contents). clean_at c.bytes ≡ Some true) mark'.contents reads.names
      (λ c h. h.1.says ∙ ap Some is)) truly

  pub mounted_alike : (n : ℕ) → IfSome one.contents (HasShape n) → IfSome two.contents (HasShape n)
      → AreAlike (replicate n (not clean)) (both one.contents two.contents)
  mounted_alike n h k = by clean refl
    where
      by : (b : Bool) → clean ≡ b → AreAlike (replicate n (not b)) (both one.contents two.contents)
      by false e = alike_stale n one.contents two.contents h k
      by true e = if_mono AreEqual (λ (x : Contents × Contents). (s : ℕ) → is_loose (replicate n false) s ≡ false → sector x.1.bytes s ≡ sector x.0.bytes s)
          (both one.contents two.contents) (mounted_equal e) (λ x h s _. h.same s)

pub mounted_names : (mark mark' : DiskState) (found : Found) → ReadsMark (Some found) mark mark' → IfSome mark'.contents (Names found.side)
mounted_names mark mark' found reads = if_mono (FindsMark (Some found)) (Names found.side) mark'.contents reads.names (λ c h. h.0)

-- THE SIDES IN THEIR ORDER

equal_swap : (x y : Option Contents) → IfSome (both x y) AreEqual → IfSome (both y x) AreEqual
equal_swap None None h = tt
equal_swap None (Some b) h = tt
equal_swap (Some a) None h = tt
equal_swap (Some a) (Some b) h = record { same = λ s. sym (h.same s); first = h.second; second = h.first }

module _ {D : Type 0} (state : D → DiskState) (s : Sides D) where
  pub equal_in_order : IfSome (both (state s.lead).contents (state s.follower).contents) AreEqual
      → IfSome (both (state (first_of s)).contents (state (second_of s)).contents) AreEqual
  equal_in_order h = elim (cases_eq s.side 1) [
    | inl is ↦ rw (eq-eqb s.side 1 is) (equal_swap (state s.lead).contents (state s.follower).contents h)
    | inr other ↦ rw (ne_eqb s.side 1 other) h
  ]

  equal_as_led : IfSome (both (state (first_of s)).contents (state (second_of s)).contents) AreEqual
      → IfSome (both (state s.lead).contents (state s.follower).contents) AreEqual
  equal_as_led h = elim (cases_eq s.side 1) [
    | inl is ↦ equal_swap (state s.follower).contents (state s.lead).contents (rw (eq-eqb s.side 1 is) at h)
    | inr other ↦ rw (ne_eqb s.side 1 other) at h
  ]

  pub mounted_marked : (one two : D) (mark : DiskState) (clean : Bool) → first_of s ≡ one → second_of s ≡ two → s.settled ≡ true
      → s.stale ≡ replicate (state one).sectors (not clean)
      → ReadsMark (Some (record { side = s.side; is_clean = clean })) mark (state s.mark) → SaysTruly (state one) (state two) mark
      → TellAlike (state one) (state two) mark → IsMarked clean (pair_of state s)
  mounted_marked one two mark clean first second settled stale reads truly alike = record {
    clean = λ is. record {
      settled = settled;
      room = reads.room is;
      fresh = ap count_of stale ∙ ap (λ (b : Bool). count_of (replicate (state one).sectors (not b))) is ∙ none_stale (state one).sectors;
      equal = equal_as_led (rw (first, second) (mounted_equal (state one) (state two) mark (state s.mark) s.side clean reads truly alike is));
    };
    silent = λ is. if_mono (FindsMark (Some (record { side = s.side; is_clean = clean }))) (Says false) (state s.mark).contents reads.names
        (λ c h. subst (λ (b : Bool). Says b c) is h.1);
  }

-- THE MARK THROUGH CALLS

pub marked_same : (clean : Bool) (old new : Pair) → new.mark ≡ old.mark → new.settled ≡ old.settled → new.stale ≡ old.stale
    → new.lead.contents ≡ old.lead.contents → new.follower.contents ≡ old.follower.contents → IsMarked clean old → IsMarked clean new
marked_same clean old new mark settled stale lead follower m = record {
  clean = λ is.
      let c = m.clean is in
      record { settled = settled ∙ c.settled; room = rw mark c.room; fresh = ap count_of stale ∙ c.fresh; equal = rw (lead, follower) c.equal };
  silent = λ is. rw mark (m.silent is);
}

pub marked_read : {T E : Type 0} (clean : Bool) (at n : ℕ) (result : Result T E) (out : List ℕ) (old new : Pair) → IsMarked clean old
    → MirrorReads at n result out old new → IsMarked clean new
marked_read clean at n result out old new m r = marked_same clean old new r.mark r.settled r.stale r.lead r.follower m

pub marked_silent : (clean : Bool) (p : Pair) → clean ≡ false → IfSome p.mark.contents (Says false) → IsMarked clean p
marked_silent clean p isnt silent = record { clean = λ is. absurd (both_ways clean isnt is); silent = λ _. silent }

-- the mark disk couldn't be made to say otherwise
pub marked_unsaid : (word failed : Bool) (old new : Pair) → word ≡ true → IsMarked word old → new ≡ record old { mark = new.mark }
    → SettlesLead failed old new → IsMarked word new
marked_unsaid word failed old new is m same s = record {
  clean = λ _.
      let c = m.clean is in
      subst IsClean (sym same) (record { settled = c.settled; room = rw s.mark.sectors c.room; fresh = c.fresh; equal = c.equal });
  silent = λ isnt. absurd (both_ways word isnt is);
}

-- a mirror whose mark disk doesn't say that it is clean, and goes on so
pub marked_word : (clean : Bool) (old new : Pair) → clean ≡ false → IsMarked clean old → KeepsWord old.mark new.mark → IsMarked clean new
marked_word clean old new isnt m word = marked_silent clean new isnt (word false (m.silent isnt))

-- the mark disk was made to say so before a write
pub marked_written : (mid new : Pair) → IfSome mid.mark.contents (Says false) → KeepsWord mid.mark new.mark → IsMarked false new
marked_written mid new silent word = marked_silent false new refl (word false silent)

pub marked_next : (clean : Bool) (from next : ℕ) (failed : Bool) (old new : Pair) → IsMarked clean old → CopiesNext from next failed old new
    → IsMarked clean new
marked_next clean from next failed old new m (inl none) = subst (IsMarked clean) (sym none.2) m
marked_next clean from next failed old new m (inr x) =
    let run = next_set old.stale from x.0 x.1 x.2 in
    let some : 0 < count_of old.stale = set_some old.stale x.0 (run.set x.0 (omega arith) (omega (arith, run.some))) in
    record {
      clean = λ is. let none = (m.clean is).fresh in absurd (omega (arith, some, none));
      silent = λ isnt. rw x.4.mark (m.silent isnt);
    }

pub marked_all : (clean : Bool) (old new : Pair) → IsMarked clean old → CopiesAll old new → IsMarked clean new
marked_all clean old new m c = record {
  clean = λ is. subst IsClean (sym (c.still (m.clean is).fresh)) (m.clean is);
  silent = λ isnt. rw c.mark (m.silent isnt);
}

-- SAYING SO

equal_if : (p : Pair) (x : Option (Contents × Contents)) → count_of p.stale ≡ 0 → IfSome (option_map (seen p.stale) x) NothingLoose → IfSome x (Holds p)
    → IfSome x AreEqual
equal_if p None none quiet holds = tt
equal_if p (Some sides) none quiet holds =
    let fresh = λ (s : ℕ). count_none p.stale s none in
    let parts = λ (s : ℕ). parts_in (is_loose sides.0.loose s) (is_loose sides.1.loose s) (is_loose p.stale s)
    (sym (seen_at p.lead.sectors p.stale sides s holds.0) ∙ quiet s) in
    record {
      same = λ s. holds.1.same s (fresh s);
      first = λ s. (parts s).0;
      second = λ s. elim (parts s).1 [
        | inl off ↦ off
        | inr on ↦ absurd (both_ways (is_loose p.stale s) (fresh s) on)
      ];
    }

module _ (old new : Pair) (m : IsMirror old) (is : new ≡ record old { mark = new.mark }) (failed : Bool) (s : SettlesLead failed old new)
    (none : count_of old.stale ≡ 0) (settled : old.settled ≡ true) (room : 1 < old.mark.sectors) where
  pub said_clean : IfSome (shown old).contents NothingLoose → IsMarked true new
  said_clean quiet = record {
    clean = λ _. subst IsClean (sym is) (record {
      settled = settled;
      room = rw s.mark.sectors room;
      fresh = none;
      equal = equal_if old (both old.lead.contents old.follower.contents) none quiet (holds_of old m);
    });
    silent = λ e. cc;
  }

  pub said_marks : {T E : Type 0} (q : Result T E) → is_err q ≡ failed → OnOk q (IfSome new.mark.contents (Says true)) → MarksClean old new
  said_marks q by says = record {
    mirror = settled_mirror failed old new m s;
    is = is;
    sectors = s.mark.sectors;
    later = s.mark.later;
    still = λ some. absurd (omega (arith, some, none));
    says = λ _ _ _. said q by says;
  }
    where
      said : {T E : Type 0} (q : Result T E) → is_err q ≡ failed → OnOk q (IfSome new.mark.contents (Says true))
          → IfSome new.mark.contents (Says true) ⊎ MarkFailed old new
      said (Ok v) by says = inl says
      said (Err e) by says = inr (s.cause (sym by))

-- A SYNC OF A CLEAN MIRROR, which calls no disk

clean_quiet : (p : Pair) → IsMirror p → IsClean p → IfSome (shown p).contents NothingLoose
clean_quiet p m c =
    map_if (λ (q : Contents × Contents). Fit p.lead.sectors p.stale q × AreEqual q) NothingLoose (seen p.stale) (both p.lead.contents p.follower.contents)
    (and_if (Fit p.lead.sectors p.stale) AreEqual (both p.lead.contents p.follower.contents) (fit_of p m) c.equal)
    (λ q h. none_seen p.lead.sectors p.stale q (h.0.lead.marks ∙ sym h.0.marks) (h.0.follower.marks ∙ sym h.0.marks) h.1.first
    (λ s _. inl (h.1.second s)))

pub clean_syncs : {T E : Type 0} (v : T) (p : Pair) → IsMirror p → IsClean p → MirrorSyncs {T = T} {E = E} (Ok v) p p
clean_syncs {T = T} {E = E} v p m c = record {
  mirror = m;
  syncs = synced p p m m refl (omega arith) (Ok v)
      (sync_ok {T = T} {E = E} (Ok v) p p m m refl (same_calm (shown p)) (clean_quiet p m c)) (λ e. cc);
  keeps = record { later = omega arith; stale = λ s was now. absurd (both_ways (is_loose p.stale s) was now); lead = inl refl };
  counts = λ k le. omega arith;
  settled = λ _. c.settled;
  cause = λ e. cc;
}

pub clean_copies : (next : ℕ) (p : Pair) → IsMirror p → IsClean p → SyncsAndCopies next next None p p
clean_copies next p m c = record {
  synced = p;
  in_sync = None;
  in_copy = None;
  sync = clean_syncs tt p m c;
  copy = inl (c.fresh, refl, refl);
  told = refl;
  unfailed = λ _. (refl, refl);
  sync_blames = tt;
  copy_blames = tt;
}

-- A CRASH

pub crashes_truly : (clean : Bool) (p : Pair) → IsMarked clean p → CrashesTruly p
crashes_truly true p m = λ sides mark one two three told marked lead follower left says s.
    let e : AreEqual sides = rw told at (m.clean refl).equal in
    follower.kept s (e.second s) ∙ e.same s ∙ sym (lead.kept s (e.first s))
crashes_truly false p m = λ sides mark one two three told marked lead follower left says s.
    let silent : Says false mark = rw marked at (m.silent refl) in
    let no : Some true ≡ Some false = sym says ∙ clean_is three ∙ ap clean_in (left.kept 1 silent.kept) ∙ sym (clean_is mark.bytes) ∙ silent.says in
    absurd cc

-- THE END

if_all : {A : Type 0} (P : A → Type 0) (x : Option A) → ((a : A) → P a) → IfSome x P
if_all P None h = tt
if_all P (Some a) h = h a

pub closed_truly : {D : Type 0} (state : D → DiskState) (s : Sides D) (clean : Bool) → IsMarked clean (pair_of state s)
    → SaysTruly (state (first_of s)) (state (second_of s)) (state s.mark)
closed_truly state s true m =
    if_all (λ (c : Contents). clean_at c.bytes ≡ Some true → IfSome (both (state (first_of s)).contents (state (second_of s)).contents) AreEqual)
    (state s.mark).contents (λ c _. equal_in_order state s (m.clean refl).equal)
closed_truly state s false m =
    if_mono (Says false) (λ (c : Contents). clean_at c.bytes ≡ Some true → IfSome (both (state (first_of s)).contents (state (second_of s)).contents) AreEqual)
    (state s.mark).contents (m.silent refl)
    (λ c silent says. let no : Some true ≡ Some false = sym says ∙ silent.says in absurd cc)
