-- A mirror of which one side covers what fails of the other.
use Rattle.std.proofs.Common.{◌≡◌, ◌≤◌, ◌<◌, ◌+◌, ◌-◌, ◌^◌, ◌&&◌, ◌||◌, ◌⊎◌, ℕ, zero, suc, Bool, true, false, List, Result, is_err, refl, sym, subst, inl, inr, arith, eq-eqb, ne_eqb, lt-ltb, le-ltb, eqb-true}
use Rattle.std.proofs.lemmas.Bool.{OnTrue_at, OnTrue_from, and_from, and_left, and_parts, and_right, cases_Bool, cases_eq, cases_lt}
use Rattle.aoe_base.specs.Faults.{Rose}
use Rattle.aoe_base.proofs.CommonLemmas.{rose-before, rose-later}
use Rattle.aoe_disk.specs.Calls.{IsRun, Reads, SyncsTo}
use Rattle.aoe_disk.specs.State.{is_loose}
use Rattle.aoe_store.specs.Store.{StoresTo}
use Rattle.aoe_mirror.specs.Calls.{Cause, Counts, Keeps, LeadFailed, FollowerFailed, NewFollowerFailed, ReadCause}
use Rattle.aoe_mirror.specs.Marks.{count_of}
use Rattle.aoe_mirror.specs.Sides.{IsMirror, Pair, disk_of, shown, side_of}
use Rattle.aoe_mirror.proofs.Bits.{count_none, set_some, some_set}
use Rattle.aoe_mirror.specs.Covering.{IsRunning, IsSince, first_count, has_held, is_covered, stored}

-- COUNTS

pub held : (faults : ℕ → ℕ) (p : Pair) (k : ℕ) → faults k ≤ (disk_of p k).faults → (Rose (faults k) (disk_of p k).faults → ⊥) → has_held faults p k ≡ true
held faults p k le calm = elim (cases_lt (faults k) (2 ^ 64 - 1)) [
  | inl low ↦ elim (cases_lt (faults k) (disk_of p k).faults) [
    | inl more ↦ absurd (calm (λ _. more))
    | inr most ↦ and_from _ _ (eq-eqb (disk_of p k).faults (faults k) (omega (arith, le, most))) (lt-ltb (faults k) (2 ^ 64 - 1) low)
  ]
  | inr high ↦ absurd (calm (λ low. absurd (omega (arith, high, low))))
]

risen : (faults : ℕ → ℕ) (p : Pair) (k : ℕ) → Rose (faults k) (disk_of p k).faults → has_held faults p k ≡ false
risen faults p k rose = elim (cases_lt (faults k) (2 ^ 64 - 1)) [
  | inl low ↦ let more : faults k < (disk_of p k).faults = rose low in
      and_left _ _ (ne_eqb (disk_of p k).faults (faults k) (λ e. absurd (omega (arith, e, more))))
  | inr high ↦ and_right _ _ (le-ltb (faults k) (2 ^ 64 - 1) high)
]

held_before : (faults : ℕ → ℕ) (old new : Pair) (k : ℕ) → faults k ≤ (disk_of old k).faults → (disk_of old k).faults ≤ (disk_of new k).faults
    → has_held faults new k ≡ true → has_held faults old k ≡ true
held_before faults old new k le more is =
    let both = and_parts _ _ is in
    let same : (disk_of new k).faults ≡ faults k = eqb-true (disk_of new k).faults (faults k) both.0 in
    and_from _ _ (eq-eqb (disk_of old k).faults (faults k) (omega (arith, le, more, same))) both.1

-- the disks by their parts
lead_at : (p : Pair) → p.side ≤ 1 → disk_of p p.side ≡ p.lead
lead_at p le = rw (ne_eqb p.side 2 (λ e. absurd (omega (arith, e, le))), eq-eqb p.side p.side refl) refl

follower_at : (p : Pair) → p.side ≤ 1 → disk_of p (1 - p.side) ≡ p.follower
follower_at p le = rw (ne_eqb (1 - p.side) 2 (λ e. absurd (omega (arith, e, le))), ne_eqb (1 - p.side) p.side (λ e. absurd (omega (arith, e, le)))) refl

side_at : (p : Pair) (k : ℕ) → k ≤ 1 → disk_of p k ≡ side_of p k
side_at p k le = rw (ne_eqb k 2 (λ e. absurd (omega (arith, e, le)))) refl

-- what a mirror shows is no less than what its disks had
least : (faults : ℕ → ℕ) (p : Pair) → IsSince faults p → faults 0 + faults 1 + faults 2 ≤ (shown p).faults
least faults p s =
    let zero_le = s.counts 0 (omega arith) in
    let one_le = s.counts 1 (omega arith) in
    let two_le = s.counts 2 (omega arith) in
    elim (cases_eq p.side 0) [
      | inl is ↦
          let a : faults 0 ≤ p.lead.faults = rw (eq-eqb 0 p.side (sym is)) at zero_le in
          let b : faults 1 ≤ p.follower.faults = rw (ne_eqb 1 p.side (λ e. absurd (omega (arith, e, is)))) at one_le in
          omega (arith, a, b, two_le)
      | inr other ↦
          let le = s.mirror.mark.side in
          let one : 1 ≡ p.side = omega (arith, le, other) in
          let a : faults 0 ≤ p.follower.faults = rw (ne_eqb 0 p.side (λ e. absurd (other (sym e)))) at zero_le in
          let b : faults 1 ≤ p.lead.faults = rw (eq-eqb 1 p.side one) at one_le in
          omega (arith, a, b, two_le)
    ]

-- WHAT IS COVERED

none_held : (w h a b : Bool) → a ≡ false → b ≡ false → (w && h && (a || b)) ≡ false
none_held w h a b ea eb = rw (ea, eb) (go w h)
  where
    go : (w h : Bool) → (w && h && (false || false)) ≡ false
    go true true = refl
    go true false = refl
    go false true = refl
    go false false = refl

none_marked : (w h a : Bool) → h ≡ false → (w && h && a) ≡ false
none_marked w h a eh = rw eh (go w a)
  where
    go : (w a : Bool) → (w && false && a) ≡ false
    go true true = refl
    go true false = refl
    go false true = refl
    go false false = refl

none_whole : (w h a : Bool) → w ≡ false → (w && h && a) ≡ false
none_whole w h a e = rw e refl

both_uncover : (faults : ℕ → ℕ) (whole : Bool) (p : Pair) (k : ℕ) → k ≤ 1 → Rose (faults k) (disk_of p k).faults
    → Rose (faults (1 - k)) (disk_of p (1 - k)).faults
    → is_covered faults whole p ≡ false
unfolding is_covered
both_uncover faults whole p zero le a b = none_held whole (has_held faults p 2) (has_held faults p 0) (has_held faults p 1) (risen faults p 0 a) (risen faults p 1 b)
both_uncover faults whole p (suc zero) le a b = none_held whole (has_held faults p 2) (has_held faults p 0) (has_held faults p 1) (risen faults p 0 b) (risen faults p 1 a)
both_uncover faults whole p (suc (suc k)) le a b = absurd (omega (arith, le))

mark_uncovers : (faults : ℕ → ℕ) (whole : Bool) (p : Pair) → Rose (faults 2) p.mark.faults → is_covered faults whole p ≡ false
unfolding is_covered
mark_uncovers faults whole p rose = none_marked whole (has_held faults p 2) (has_held faults p 0 || has_held faults p 1) (risen faults p 2 rose)

unwhole : (faults : ℕ → ℕ) (whole : Bool) (p : Pair) → whole ≡ false → is_covered faults whole p ≡ false
unfolding is_covered
unwhole faults whole p e = none_whole whole (has_held faults p 2) (has_held faults p 0 || has_held faults p 1) e

pub covered_by : (faults : ℕ → ℕ) (p : Pair) → has_held faults p 2 ≡ true → ((has_held faults p 0 ≡ true) ⊎ (has_held faults p 1 ≡ true))
    → is_covered faults true p ≡ true
unfolding is_covered
covered_by faults p mark one = rw mark (elim one [
  | inl first ↦ rw first refl
  | inr second ↦ or_right _ _ second
])
  where
    or_right : (a b : Bool) → b ≡ true → (a || b) ≡ true
    or_right true b e = refl
    or_right false b e = e

pub covered_before : (faults : ℕ → ℕ) (whole : Bool) (old new : Pair) → IsSince faults old → Counts old new → is_covered faults whole new ≡ true
    → is_covered faults whole old ≡ true
unfolding is_covered
covered_before faults whole old new s counts is = by whole (has_held faults new 2) (has_held faults new 0) (has_held faults new 1) refl refl refl refl is
  where
    back : (k : ℕ) → k ≤ 2 → has_held faults new k ≡ true → has_held faults old k ≡ true
    back k le on = held_before faults old new k (s.counts k le) (counts k le) on

    by : (w h a b : Bool) → whole ≡ w → has_held faults new 2 ≡ h → has_held faults new 0 ≡ a → has_held faults new 1 ≡ b → (w && h && (a || b)) ≡ true
        → (whole && has_held faults old 2 && (has_held faults old 0 || has_held faults old 1)) ≡ true
    by true true true b ew eh ea eb e = rw (ew, back 2 (omega arith) eh, back 0 (omega arith) ea) refl
    by true true false true ew eh ea eb e = rw (ew, back 2 (omega arith) eh, back 1 (omega arith) eb) (go (has_held faults old 0))
      where
        go : (a : Bool) → (true && true && (a || true)) ≡ true
        go true = refl
        go false = refl
    by true true false false ew eh ea eb e = cc
    by true false a b ew eh ea eb e = cc
    by false h a b ew eh ea eb e = cc

-- A MIRROR IN A RUN

module _ (faults : ℕ → ℕ) (old new : Pair) (s : IsSince faults old) (counts : Counts old new) where
  lead_rose : LeadFailed old new → Rose (faults old.side) (disk_of new old.side).faults
  lead_rose failed =
      let one = s.mirror.mark.side in
      let le : faults old.side ≤ old.lead.faults = rw (lead_at old one) at (s.counts old.side (omega (arith, one))) in
      let more : old.lead.faults ≤ (side_of new old.side).faults =
      rw (lead_at old one, side_at new old.side one) at (counts old.side (omega (arith, one))) in
      rw (side_at new old.side one) (rose-later (faults old.side) old.lead.faults (side_of new old.side).faults le more failed)

  other : 1 - old.side ≤ 1
  other = omega arith

  follower_rose : FollowerFailed old new → Rose (faults (1 - old.side)) (disk_of new (1 - old.side)).faults
  follower_rose failed =
      let one = s.mirror.mark.side in
      let le : faults (1 - old.side) ≤ old.follower.faults = rw (follower_at old one) at (s.counts (1 - old.side) (omega arith)) in
      let more : old.follower.faults ≤ (side_of new (1 - old.side)).faults =
      rw (follower_at old one, side_at new (1 - old.side) other) at (counts (1 - old.side) (omega arith)) in
      rw (side_at new (1 - old.side) other) (rose-later (faults (1 - old.side)) old.follower.faults (side_of new (1 - old.side)).faults le more failed)

  still_rose : Rose (faults (1 - old.side)) old.follower.faults → Rose (faults (1 - old.side)) (disk_of new (1 - old.side)).faults
  still_rose rose =
      let one = s.mirror.mark.side in
      let more : old.follower.faults ≤ (disk_of new (1 - old.side)).faults = rw (follower_at old one) at (counts (1 - old.side) (omega arith)) in
      rose-before (faults (1 - old.side)) old.follower.faults (disk_of new (1 - old.side)).faults more rose

  newly_rose : new.side ≤ 1 → NewFollowerFailed old new → Rose (faults (1 - new.side)) new.follower.faults
  newly_rose one failed =
      let within : 1 - new.side ≤ 1 = omega arith in
      let le : faults (1 - new.side) ≤ (side_of old (1 - new.side)).faults =
      rw (side_at old (1 - new.side) within) at (s.counts (1 - new.side) (omega arith)) in
      let more : (side_of old (1 - new.side)).faults ≤ new.follower.faults =
      rw (side_at old (1 - new.side) within, follower_at new one) at (counts (1 - new.side) (omega arith)) in
      rose-later (faults (1 - new.side)) (side_of old (1 - new.side)).faults new.follower.faults le more failed

  -- where both sides failed, the one that follows did
  either_follows : new.side ≤ 1 → Rose (faults old.side) (disk_of new old.side).faults
      → Rose (faults (1 - old.side)) (disk_of new (1 - old.side)).faults → Rose (faults (1 - new.side)) new.follower.faults
  either_follows one a b =
      let was = s.mirror.mark.side in
      let at_disk : Rose (faults (1 - new.side)) (disk_of new (1 - new.side)).faults = elim (cases_eq new.side old.side) [
        | inl same ↦ subst (λ (k : ℕ). Rose (faults (1 - k)) (disk_of new (1 - k)).faults) (sym same) b
        | inr turned ↦ subst (λ (k : ℕ). Rose (faults k) (disk_of new k).faults) (let e : old.side ≡ 1 - new.side = omega (arith, was, one, turned) in e) a
      ] in
      rw (follower_at new one) at at_disk

pub run_then : (faults : ℕ → ℕ) (whole : Bool) (old new : Pair) → IsMirror new → Counts old new → Keeps old new → IsRunning faults whole old
    → IsRunning faults whole new
run_then faults whole old new m counts keeps r = record {
  since = record {
    mirror = m;
    counts = λ k le. let before = r.since.counts k le in let after = counts k le in omega (arith, before, after);
  };
  trails = λ is some.
      let found = some_set new.stale some in
      elim (cases_Bool (is_loose old.stale found.0)) [
        | inl was ↦ behind is (set_some old.stale found.0 was) keeps.lead
        | inr fresh ↦ elim (keeps.stale found.0 fresh found.1) [
          | inl failed ↦ newly_rose faults old new r.since counts m.mark.side failed
          | inr failed ↦ behind is failed.1 (inr failed.0)
        ]
      ];
}
  where
    behind : whole ≡ true → 0 < count_of old.stale → ((new.side ≡ old.side) ⊎ LeadFailed old new) → Rose (faults (1 - new.side)) new.follower.faults
    behind is some (inl same) =
        let rose : Rose (faults (1 - new.side)) (disk_of new (1 - new.side)).faults =
        subst (λ (k : ℕ). Rose (faults (1 - k)) (disk_of new (1 - k)).faults) (sym same)
        (still_rose faults old new r.since counts (r.trails is some)) in
        rw (follower_at new m.mark.side) at rose
    behind is some (inr failed) = either_follows faults old new r.since counts m.mark.side (lead_rose faults old new r.since counts failed)
        (still_rose faults old new r.since counts (r.trails is some))

pub cause_uncovers : (faults : ℕ → ℕ) (whole : Bool) (old new : Pair) → Counts old new → IsRunning faults whole old → Cause old new
    → is_covered faults whole new ≡ false
cause_uncovers faults whole old new counts r cause = elim (cases_Bool whole) [
  | inl is ↦ by is cause
  | inr behind ↦ unwhole faults whole new behind
]
  where
    by : whole ≡ true → Cause old new → is_covered faults whole new ≡ false
    by is (inl lead) = both_uncover faults whole new old.side r.since.mirror.mark.side (lead_rose faults old new r.since counts lead.0)
        (still_rose faults old new r.since counts (r.trails is lead.1))
    by is (inr (inl both)) = both_uncover faults whole new old.side r.since.mirror.mark.side (lead_rose faults old new r.since counts both.0)
        (follower_rose faults old new r.since counts both.1)
    by is (inr (inr mark)) = mark_uncovers faults whole new
        (rose-later (faults 2) old.mark.faults new.mark.faults (r.since.counts 2 (omega arith)) (counts 2 (omega arith)) mark)

pub read_cause : (at n : ℕ) (old new : Pair) → ReadCause at n old new → Cause old new
read_cause at n old new cause = elim cause.follower [
  | inl stale ↦ inl (
    cause.lead,
    elim (cases_lt 0 (count_of old.stale)) [
      | inl some ↦ some
      | inr none ↦ absurd (stale (λ s low high. count_none old.stale s (omega (arith, none))))
    ],
  )
  | inr failed ↦ inr (inl (cause.lead, failed))
]

-- ITS CALLS AS A STORE

stored_later : (faults : ℕ → ℕ) (whole : Bool) (old new : Pair) → IsSince faults old → Counts old new → (shown old).faults ≤ (shown new).faults
    → (stored faults whole old).faults ≤ (stored faults whole new).faults
stored_later faults whole old new s counts later = elim (cases_Bool (is_covered faults whole new)) [
  | inl on ↦ rw (on, covered_before faults whole old new s counts on) (omega arith)
  | inr off ↦ rw off (elim (cases_Bool (is_covered faults whole old)) [
    | inl on ↦ rw on (let le = least faults old s in omega (arith, le, later))
    | inr never ↦ rw never later
  ])
]

pub least_count : (faults : ℕ → ℕ) (whole : Bool) (p : Pair) → IsSince faults p → first_count faults ≤ (stored faults whole p).faults
least_count faults whole p s = elim (cases_Bool (is_covered faults whole p)) [
  | inl on ↦ rw on (omega arith)
  | inr off ↦ rw off (let le = least faults p s in omega (arith, le))
]

pub covered_count : (faults : ℕ → ℕ) (whole : Bool) (p : Pair) → is_covered faults whole p ≡ true → (stored faults whole p).faults ≡ first_count faults
covered_count faults whole p on = rw on refl

stored_rose : (faults : ℕ → ℕ) (whole : Bool) (old new : Pair) → IsSince faults old → (shown old).faults ≤ (shown new).faults
    → is_covered faults whole new ≡ false → Rose (shown old).faults (shown new).faults
    → Rose (stored faults whole old).faults (stored faults whole new).faults
stored_rose faults whole old new s later off rose = rw off (elim (cases_Bool (is_covered faults whole old)) [
  | inl on ↦ rw on (λ low. let le = least faults old s in elim (cases_lt (shown old).faults (2 ^ 64 - 1)) [
    | inl below ↦ let more : (shown old).faults < (shown new).faults = rose below in omega (arith, le, more)
    | inr high ↦ omega (arith, later, high)
  ])
  | inr never ↦ rw never rose
])

module _ (faults : ℕ → ℕ) (whole : Bool) (old new : Pair) (r : IsRunning faults whole old) (counts : Counts old new) where
  stored_run : (failed : Bool) → (failed ≡ true → Cause old new) → IsRun 1 failed (shown old) (shown new)
      → IsRun 1 failed (stored faults whole old) (stored faults whole new)
  stored_run failed cause run = record {
    before = record { bound = run.before.bound; shape = run.before.shape; schedule = tt };
    after = record { bound = run.after.bound; shape = run.after.shape; schedule = tt };
    sectors = run.sectors;
    tells = run.tells;
    later = stored_later faults whole old new r.since counts run.later;
    cause = OnTrue_from failed _ (λ bad. stored_rose faults whole old new r.since run.later
        (cause_uncovers faults whole old new counts r (cause bad)) (OnTrue_at bad run.cause));
    schedule = tt;
  }

  pub stored_reads : {T E : Type 0} (at n : ℕ) (result : Result T E) (out : List ℕ) → (is_err result ≡ true → Cause old new)
      → Reads at n result out (shown old) (shown new) → Reads at n result out (stored faults whole old) (stored faults whole new)
  stored_reads at n result out cause reads = record {
    call = stored_run (is_err result) cause reads.call;
    same = reads.same;
    given = reads.given;
    log = refl;
  }

  pub stored_stores : {T E : Type 0} (at : ℕ) (piece : List ℕ) (result : Result T E) → (is_err result ≡ true → Cause old new)
      → StoresTo at piece result (shown old) (shown new) → StoresTo at piece result (stored faults whole old) (stored faults whole new)
  stored_stores at piece result cause stores = record {
    call = stored_run (is_err result) cause stores.call;
    contents = stores.contents;
    log = refl;
  }

  pub stored_syncs : {T E : Type 0} (result : Result T E) → (is_err result ≡ true → Cause old new) → SyncsTo result (shown old) (shown new)
      → SyncsTo result (stored faults whole old) (stored faults whole new)
  stored_syncs result cause syncs = record {
    call = stored_run (is_err result) cause syncs.call;
    contents = syncs.contents;
    log = refl;
  }
