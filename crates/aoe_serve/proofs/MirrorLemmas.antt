-- A mirror as the slot of a shelf.
use Rattle.std.proofs.Common.{◌≡◌, ◌≤◌, ◌+◌, ◌-◌, ◌^◌, ◌==◌, ◌⊎◌, ℕ, min, zero, suc, Bool, true, false, List, [], ◌∷◌, ◌++◌, length, length-append, Option, Some, None, IfSome, Result, Ok, Err, is_err, is_some, refl, sym, ap, subst, ◌∙◌, inl, inr, arith, eq-eqb, ne_eqb, get_or}
use Rattle.std.proofs.lemmas.Bool.{both_ways, cases_eq, cases_lt}
use Rattle.std.proofs.lemmas.Option.{same_Some}
use Rattle.std.specs.Prelude.{IfErr, IfOk, IsSome, OnErr, slice_get}
use Rattle.std.specs.Option.{option_map}
use Rattle.aoe_base.specs.Faults.{Rose}
use Rattle.aoe_base.specs.declared.failure.Failed.{Failed}
use Rattle.aoe_base.proofs.CommonLemmas.{rose-later}
use Rattle.aoe_disk.specs.Calls.{Syncs, SyncsTo}
use Rattle.aoe_disk.specs.Sectors.{Calms}
use Rattle.aoe_disk.specs.State.{BothTell, Contents, DiskState, is_loose}
use Rattle.aoe_disk.proofs.Touching.{settles_calm, settles_kept}
use Rattle.aoe_keep.specs.Found.{AlwaysFinds}
use Rattle.aoe_keep.specs.Keep.{HasMounted, Kept}
use Rattle.aoe_mirror.specs.Calls.{Answer, Blames, CopiesAll, Counts, MirrorSyncs, SideFailed}
use Rattle.aoe_mirror.specs.Clean.{AreEqual, CrashesTruly, MarksClean, SaysTruly}
use Rattle.aoe_mirror.specs.Covering.{IsRunning, IsSince, first_count, has_held, is_covered, stored}
use Rattle.aoe_mirror.specs.Marks.{count_of}
use Rattle.aoe_mirror.specs.Mirror.{Mirrored, Mounts, first_of, pair, second_of, state_of}
use Rattle.aoe_mirror.specs.Sides.{IsMirror, Pair, both, disk_of, pair_of, seen, shown, side_of}
use Rattle.aoe_mirror.specs.Watching.{TellsChanges, standing_of}
use Rattle.aoe_mirror.specs.declared.sides.Sides.{Sides}
use Rattle.aoe_mirror.specs.declared.watch.MirrorEvent.{MirrorEvent}
use Rattle.aoe_mirror.specs.declared.watch.Standing.{Standing}
use Rattle.aoe_mirror.proofs.Telling.{tells_then}
use Rattle.aoe_mirror.proofs.Bits.{count_none}
use Rattle.aoe_mirror.proofs.Passing.{side_from, side_to}
use Rattle.aoe_mirror.proofs.Quiet.{calm_then, parts_in}
use Rattle.aoe_mirror.proofs.Steps.{Holds, counts_same, counts_then, holds_of, synced}
use Rattle.aoe_mirror.proofs.Surviving.{survives}
use Rattle.aoe_mirror.proofs.Syncing.{Quiet, sync_ok, synced_quiet}
use Rattle.aoe_mirror.proofs.Told.{told_if, told_mono, told_then, told_to}
use Rattle.aoe_mirror.proofs.Whole.{seen_at}
use Rattle.aoe_serve.specs.Arrivals.{at_slot}
use Rattle.aoe_serve.specs.Exporting.{AtFirst, FindsAll, HasRun, Outside, SyncsSlot, Tells, arrivals_in, first_failed}
use Rattle.aoe_serve.specs.Mirroring.{AreEqualBut, AreOf, EndsMirror, HasFailed, HasToldSince, IsBegun, IsLeftStale, IsMirrored, IsOf, LeavesAlone, RanCopied, RanMirror, Stops, TellsOf, TellsSince, faults_of, has_ended, whole_under}
use Rattle.aoe_serve.specs.Slots.{EachSlot, IsServed, Slot, slot_of, slots_of}
use Rattle.aoe_serve.specs.declared.over_mirror.MirrorDisks.{MirrorDisks}
use Rattle.aoe_serve.specs.declared.over_mirror.MirrorEnd.{MirrorEnd}
use Rattle.aoe_serve.specs.declared.over_mirror.MirrorStop.{MirrorStop}
use Rattle.aoe_serve.specs.declared.over_mirror.MirrorStop.TheVariants as stop
use Rattle.aoe_serve.specs.declared.plan.Plan.{Plan}
use Rattle.aoe_serve.specs.declared.plan.RunEnd.{RunEnd}
use Rattle.aoe_mirror.proofs.Covering.{cause_uncovers, covered_before, covered_by, covered_count, held, least_count, stored_syncs}
use Rattle.aoe_serve.proofs.EndLemmas.{run_ends, served_in}
use Rattle.aoe_shelf.specs.Calls.{TakesLast}
use Rattle.aoe_target.specs.History.{count_failed, store_failed}
use Rattle.aoe_target.specs.Mounted.{Mounted}
use Rattle.aoe_target.specs.declared.station.Station.{Station}

-- Since the disks were handed in.

-- the disks by their numbers
module _ {D : Type 0} (state : D → DiskState) (s : Sides D) (one : s.side ≤ 1) where
  pub first_side : state (first_of s) ≡ side_of (pair_of state s) 0
  first_side = elim (cases_eq s.side 1) [
    | inl is ↦ rw (eq-eqb s.side 1 is, ne_eqb 0 s.side (λ e. absurd (omega (arith, e, is)))) refl
    | inr other ↦ rw (ne_eqb s.side 1 other, eq-eqb 0 s.side (omega (arith, other, one))) refl
  ]

  pub second_side : state (second_of s) ≡ side_of (pair_of state s) 1
  second_side = elim (cases_eq s.side 1) [
    | inl is ↦ rw (eq-eqb s.side 1 is, eq-eqb 1 s.side (sym is)) refl
    | inr other ↦ rw (ne_eqb s.side 1 other, ne_eqb 1 s.side (λ e. absurd (other (sym e)))) refl
  ]

  pub is_of : (disks : MirrorDisks D) → disks.one ≡ first_of s → disks.two ≡ second_of s → disks.mark ≡ s.mark → IsOf state disks (pair_of state s)
  is_of disks e f g = record { one = ap state e ∙ first_side; two = ap state f ∙ second_side; mark = ap state g }

-- the counts of faults of these disks
pub counts_of : {D : Type 0} (state : D → DiskState) (disks : MirrorDisks D) (p : Pair) → IsOf state disks p
    → (k : ℕ) → k ≤ 2 → faults_of state disks k ≡ (disk_of p k).faults
counts_of state disks p is zero le = ap (λ (d : DiskState). d.faults) is.one
counts_of state disks p is (suc zero) le = ap (λ (d : DiskState). d.faults) is.two
counts_of state disks p is (suc (suc zero)) le = ap (λ (d : DiskState). d.faults) is.mark
counts_of state disks p is (suc (suc (suc k))) le = absurd (omega (arith, le))

mounted_since : {D : Type 0} (state : D → DiskState) (given : MirrorDisks D) (s : Sides D) → Mounts state given.one given.two given.mark s
    → (k : ℕ) → k ≤ 2 → faults_of state given k ≤ (disk_of (pair_of state s) k).faults
mounted_since state given s m zero le =
    let one = ap (λ (d : _). (state d).faults) m.side_one in
    let same = ap (λ (d : DiskState). d.faults) (first_side state s m.reads.side) in
    omega (arith, one, same)
mounted_since state given s m (suc zero) le =
    let two = ap (λ (d : _). (state d).faults) m.side_two in
    let same = ap (λ (d : DiskState). d.faults) (second_side state s m.reads.side) in
    omega (arith, two, same)
mounted_since state given s m (suc (suc zero)) le = m.reads.run.later
mounted_since state given s m (suc (suc (suc k))) le = absurd (omega (arith, le))

pub handed_since : {D : Type 0} (state : D → DiskState) (given : MirrorDisks D) (s : Sides D) (faults : ℕ → ℕ) → faults ≡ faults_of state given
    → Mounts state given.one given.two given.mark s → IsMirror (pair_of state s) → IsSince faults (pair_of state s)
handed_since state given s faults same m mirror = subst (λ (f : ℕ → ℕ). IsSince f (pair_of state s)) (sym same)
    (record { mirror = mirror; counts = mounted_since state given s m })

pub copied_since : (faults : ℕ → ℕ) (p q : Pair) → IsSince faults p → CopiesAll p q → IsSince faults q
copied_since faults p q s c = record {
  mirror = c.mirror;
  counts = λ k le. let before = s.counts k le in let after = c.counts k le in omega (arith, before, after);
}

-- a run that begins as `faults` and `whole` say
pub run_begun : (faults given : ℕ → ℕ) (whole : Bool) (p : Pair) → faults ≡ given → (whole ≡ true → count_of p.stale ≡ 0) → IsSince given p
    → IsRunning faults whole p
run_begun faults given whole p same none s = record {
  since = subst (λ (f : ℕ → ℕ). IsSince f p) (sym same) s;
  trails = λ is some. let e = none is in absurd (omega (arith, e, some));
}

-- The last sync.

pub ends_failed : (well : Bool) (failed : Option ℕ) (r : Answer) (old new : Pair) → is_err r ≡ true → MirrorSyncs r old new → OnErr r (IsSome failed)
    → Blames failed old new → EndsMirror well failed old new
ends_failed well failed (Ok v) old new bad s some blames = cc
ends_failed well failed (Err e) old new bad s some blames = record {
  answer = Err e;
  told = some;
  syncs = s.syncs;
  mirror = s.mirror;
  counts = s.counts;
  cause = λ _. s.cause refl;
  blames = blames;
  whole = λ _ none. let no : false ≡ true = rw none at some in cc;
  marked = λ none. let no : false ≡ true = rw none at some in cc;
}

-- a mirror whose last sync was Ok, and which may have been copied then
pub record Rests (well : Bool) (old mid : Pair) : Type 0 where
  pub mirror : IsMirror mid
  pub sectors : mid.lead.sectors ≡ old.lead.sectors
  pub later : (shown old).faults ≤ (shown mid).faults
  pub calm : BothTell Calms (shown old).contents (shown mid).contents
  pub quiet : IfSome (shown mid).contents Quiet
  pub counts : Counts old mid
  pub settled : mid.settled ≡ true
  pub whole : well ≡ true → (count_of mid.stale ≡ 0) ⊎ SideFailed old mid

pub rests_synced : (well : Bool) (r : Answer) (old mid : Pair) → well ≡ false → is_err r ≡ false → MirrorSyncs r old mid → Rests well old mid
rests_synced well (Err e) old mid not ok s = cc
rests_synced well (Ok v) old mid not ok s = record {
  mirror = s.mirror;
  sectors = s.syncs.call.sectors;
  later = s.syncs.call.later;
  calm = told_mono (Syncs {T = Unit {0}} {E = Failed} (Ok v)) Calms (shown old).contents (shown mid).contents s.syncs.contents (λ a b t. settles_calm a b t);
  quiet = told_to (Syncs {T = Unit {0}} {E = Failed} (Ok v)) Quiet (shown old).contents (shown mid).contents s.syncs.contents (λ a b t. settles_kept a b t);
  counts = s.counts;
  settled = s.settled refl;
  whole = λ is. absurd (both_ways well not is);
}

pub rests_copied : (well : Bool) (r : Answer) (old mid new : Pair) → is_err r ≡ false → MirrorSyncs r old mid → CopiesAll mid new → Rests well old new
rests_copied well (Err e) old mid new ok s c = cc
rests_copied well (Ok v) old mid new ok s c = record {
  mirror = c.mirror;
  sectors = c.sectors ∙ s.syncs.call.sectors;
  later = let a = s.syncs.call.later in let b = c.later in omega (arith, a, b);
  calm = told_then Calms Calms Calms (shown old).contents (shown mid).contents (shown new).contents
      (told_mono (Syncs {T = Unit {0}} {E = Failed} (Ok v)) Calms (shown old).contents (shown mid).contents s.syncs.contents (λ a b t. settles_calm a b t))
      c.calm calm_then;
  quiet = told_if Calms Quiet Quiet (shown mid).contents (shown new).contents c.calm
      (told_to (Syncs {T = Unit {0}} {E = Failed} (Ok v)) Quiet (shown old).contents (shown mid).contents s.syncs.contents (λ a b t. settles_kept a b t))
      (λ a b h t k. t.kept k (h k));
  counts = counts_then old mid new s.counts c.counts;
  settled = c.settled ∙ s.settled refl;
  whole = λ _. elim (cases_lt 0 c.fails) [
    | inl some ↦ inr (side_from old mid new s.counts c.counts (c.cause some))
    | inr none ↦ inl (omega (arith, none, c.left))
  ];
}

module _ (old mid new : Pair) (before : IsMirror old) (marks : MarksClean mid new) where
  side_marked : new.side ≡ mid.side
  side_marked = ap (λ (p : Pair). p.side) marks.is

  lead_marked : new.lead ≡ mid.lead
  lead_marked = ap (λ (p : Pair). p.lead) marks.is

  follower_marked : new.follower ≡ mid.follower
  follower_marked = ap (λ (p : Pair). p.follower) marks.is

  stale_marked : new.stale ≡ mid.stale
  stale_marked = ap (λ (p : Pair). p.stale) marks.is

  seen_marked : (shown new).contents ≡ (shown mid).contents
  seen_marked = ap (λ (p : Pair). (shown p).contents) marks.is

  counts_marked : Counts mid new
  counts_marked = counts_same mid new side_marked (let e = ap (λ (d : DiskState). d.faults) lead_marked in omega (arith, e))
      (let e = ap (λ (d : DiskState). d.faults) follower_marked in omega (arith, e)) marks.later

  later_marked : (shown mid).faults ≤ (shown new).faults
  later_marked =
      let e = ap (λ (d : DiskState). d.faults) lead_marked in
      let f = ap (λ (d : DiskState). d.faults) follower_marked in
      omega (arith, e, f, marks.later)

  whole_marked : (well : Bool) → Rests well old mid → well ≡ true → (count_of new.stale ≡ 0) ⊎ SideFailed old new
  whole_marked well r is = elim (r.whole is) [
    | inl none ↦ inl (ap count_of stale_marked ∙ none)
    | inr side ↦ inr (side_to old mid new counts_marked side)
  ]

  -- and whose mark disk may say then that it is clean
  pub ends_marked : (well : Bool) → Rests well old mid → EndsMirror well None old new
  ends_marked well r =
      let calm : BothTell Calms (shown old).contents (shown new).contents = rw seen_marked r.calm in
      let quiet : IfSome (shown new).contents Quiet = rw seen_marked r.quiet in
      record {
        answer = Ok tt;
        told = refl;
        syncs = synced old new before marks.mirror (ap (λ (d : DiskState). d.sectors) lead_marked ∙ r.sectors)
            (let a = r.later in let b = later_marked in omega (arith, a, b)) (Ok tt)
            (sync_ok {T = Unit {0}} {E = Failed} (Ok tt) old new before marks.mirror refl calm quiet) (λ e. absurd (both_ways false refl e));
        mirror = marks.mirror;
        counts = counts_then old mid new r.counts counts_marked;
        cause = λ e. absurd (both_ways false refl e);
        blames = tt;
        whole = λ is _. whole_marked well r is;
        marked = λ _ none room. elim (marks.says (sym (ap count_of stale_marked) ∙ none) r.settled (rw marks.sectors at room)) [
          | inl says ↦ inl says
          | inr failed ↦ inr (rose-later old.mark.faults mid.mark.faults new.mark.faults (r.counts 2 (omega arith)) marks.later failed)
        ];
      }

-- The only slot of a shelf.

alone : {X : Type 0} (after targets : List X) (t : X) → targets ≡ after ++ t ∷ [] → length targets ≡ 1 → targets ≡ t ∷ []
alone [] targets t e one = e
alone (x ∷ after) targets t e one = absurd (omega (arith, ap length e, one, length-append after (t ∷ [])))

pub leaves_alone : {D : Type 0} (given : Mirrored D × Kept D) (targets after : List (Mounted (Mirrored D) D)) → length targets ≡ 1
    → TakesLast (Some given) targets after → LeavesAlone given.0 given.1 targets
leaves_alone given targets after one takes = record {
  target = takes.0;
  only = alone after targets takes.0 takes.1 one;
  store = ap (λ (x : _ × _). x.0) takes.2;
  kept = ap (λ (x : _ × _). x.1) takes.2;
}

told_first : (unsynced : Option ℕ) (answer : Result (Unit {0}) Failed) → is_some unsynced ≡ is_err answer
    → option_map (λ _. 0) unsynced ≡ first_failed (answer ∷ [])
told_first None (Ok v) e = refl
told_first None (Err f) e = cc
told_first (Some k) (Ok v) e = cc
told_first (Some k) (Err f) e = refl

-- R of the only slot
each_one : (R : ℕ → Slot → Slot → Type 0) (x y : Slot) → R 0 x y → EachSlot R (x ∷ []) (y ∷ [])
each_one R x y r = record { count = refl; each = at }
  where
    at : (i : ℕ) (a b : Slot) → slice_get (x ∷ []) i ≡ Some a → slice_get (y ∷ []) i ≡ Some b → R i a b
    at zero a b ea eb = subst (λ (s : Slot). R 0 s b) (same_Some x a ea) (subst (λ (s : Slot). R 0 x s) (same_Some y b eb) r)
    at (suc i) a b ea eb = absurd cc

-- The mirror and the keep of the only slot: as they left it, with the mirror as its last sync and copying left it, and their disks as they
-- were given back.
pub record IsEnded {D : Type 0} (state : D → DiskState) (faults : ℕ → ℕ) (whole : Bool) (e : MirrorEnd) (back : MirrorDisks D)
    (targets : List (Mounted (Mirrored D) D)) : Type 0 where
  pub left : Mirrored D
  pub keep : Kept D
  pub alone : LeavesAlone left keep targets
  pub running : IsRunning faults whole (pair state left)
  pub ended : Mirrored D
  pub ends : EndsMirror (has_ended e.end) e.unsynced (pair state left) (pair state ended)
  pub told : IsLeftStale e (pair state ended)
  pub crash : CrashesTruly (pair state ended)
  pub disks : IsOf state back (pair state ended)
  pub kept : back.keep ≡ keep.disk
  pub truly : SaysTruly (state back.one) (state back.two) (state back.mark)

-- the mirror as the store of a slot
abbrev pub store_of : {D : Type 0} → (D → DiskState) → (ℕ → ℕ) → Bool → Mirrored D → DiskState
store_of state faults whole m = stored faults whole (pair state m)

unsynced_none : (unsynced : Option ℕ) (failed : Bool) → is_some unsynced ≡ failed → (failed ≡ true → ⊥) → unsynced ≡ None
unsynced_none None failed e ok = refl
unsynced_none (Some k) failed e ok = absurd (ok (sym e))

uncounted : (shown n sum after : ℕ) → after ≡ min sum (2 ^ 64 - 2) → min sum (2 ^ 64 - 2) ≤ shown → min (shown + n) (2 ^ 64 - 1) ≤ after → n ≡ 0
uncounted shown n sum after is least most = omega (arith, is, least, most)

pub ran_mirror : {D S K L : Type 0} (state : D → DiskState) (name : ℕ → Station) (faults : ℕ → ℕ) (whole : Bool) (t : Tells S K L) (p : Plan) (e : MirrorEnd)
    (a b : Outside S K L) (mirror : Mirrored D) (kept : Kept D) (back : MirrorDisks D) (targets targets' : List (Mounted (Mirrored D) D))
    → IsRunning faults whole (pair state mirror)
    → targets ≡ record { station = name (state_of state mirror).sectors; keep = kept; store = mirror } ∷ []
    → HasRun t p e.end a b (slots_of false (store_of state faults whole) state targets) (slots_of false (store_of state faults whole) state targets')
    → IsEnded state faults whole e back targets' → RanMirror state name faults whole t p e a b (pair state mirror) kept back
ran_mirror {D} state name faults whole t p e a b mirror kept back targets targets' begins seated run x =
    let first : Slot = record {
      station = name (state_of state mirror).sectors;
      lasts = false;
      device = record { lists = kept.lists; keep = state kept.disk; store = store_of state faults whole mirror };
    } in
    let mid : Slot = slot_of false (store_of state faults whole) state x.alone.target in
    let last : Slot = record mid { device = record mid.device { store = store_of state faults whole x.ended } } in
    let ran : HasRun t p e.end a b (first ∷ []) (mid ∷ []) = rw (seated, x.alone.only) at run in
    let syncs : SyncsTo x.ends.answer mid.device.store (store_of state faults whole x.ended) =
    subst (λ (m : Mirrored D). SyncsTo x.ends.answer (store_of state faults whole m) (store_of state faults whole x.ended)) x.alone.store
    (stored_syncs faults whole (pair state x.left) (pair state x.ended) x.running x.ends.counts x.ends.answer x.ends.cause x.ends.syncs) in
    let served : IsServed first mid (at_slot 0 (arrivals_in t p e.end a b (first ∷ []) (mid ∷ []) ran)) =
    (served_in t p e.end a b (first ∷ []) (mid ∷ []) ran).slots.each 0 first mid refl refl in
    record {
      first = first;
      last = last;
      station = refl;
      store = refl;
      keep = refl;
      lists = refl;
      middle = pair state x.left;
      running = x.running;
      ended = pair state x.ended;
      ends = x.ends;
      left = x.told;
      crash = x.crash;
      store_back = refl;
      disks_back = x.disks;
      truly = x.truly;
      keep_back = ap state x.kept ∙ ap (λ (k : Kept D). state k.disk) x.alone.kept;
      run = record {
        middle = mid ∷ [];
        ran = ran;
        results = x.ends.answer ∷ [];
        synced = record {
          count = refl;
          slots = each_one (λ i y z. SyncsSlot (get_or (x.ends.answer ∷ []) i (Ok tt)) y z) mid last (record { syncs = syncs; rest = refl });
        };
        unsynced = told_first e.unsynced x.ends.answer x.ends.told;
      };
      covered = λ on.
          let before : is_covered faults whole (pair state x.left) ≡ true =
          covered_before faults whole (pair state x.left) (pair state x.ended) x.running.since x.ends.counts on in
          let count : mid.device.store.faults ≡ first_count faults =
          subst (λ (m : Mirrored D). (store_of state faults whole m).faults ≡ first_count faults) x.alone.store
          (covered_count faults whole (pair state x.left) before) in (
            uncounted first.device.store.faults (count_failed store_failed (at_slot 0 (arrivals_in t p e.end a b (first ∷ []) (mid ∷ []) ran)))
                (faults 0 + faults 1 + faults 2) mid.device.store.faults count
                (least_count faults whole (pair state mirror) begins.since) served.store_faults,
            unsynced_none e.unsynced (is_err x.ends.answer) x.ends.told
                (λ bad. both_ways _ (cause_uncovers faults whole (pair state x.left) (pair state x.ended) x.ends.counts x.running (x.ends.cause bad)) on),
          );
    }

-- What the watch was told of the run.

pub tells_on : (lead : ℕ) (old new : Pair) (was now : Standing) (x y z : Option (List MirrorEvent)) → HasToldSince lead old was x y
    → TellsChanges was now y z → now ≡ standing_of new → HasToldSince lead new now x z
tells_on lead old new was now x y z h tells is = record { now = is; tells = tells_then (whole_under lead) was now x y z h.tells tells }

pub tells_still : (lead : ℕ) (old new : Pair) (standing : Standing) (x y : Option (List MirrorEvent)) → HasToldSince lead old standing x y
    → new.side ≡ old.side → new.stale ≡ old.stale → HasToldSince lead new standing x y
tells_still lead old new standing x y h side stale = record { now = rw (side, stale) h.now; tells = h.tells }

pub tells_side : (lead : ℕ) (p : Pair) (standing : Standing) (x y : Option (List MirrorEvent)) → HasToldSince lead p standing x y → p.side ≤ 1
    → standing.lead ≤ 1
tells_side lead p standing x y h le = rw h.now le

pub run_told : (lead : ℕ) (end : RunEnd) (unsynced : Option ℕ) (middle ended : Pair) (was now : Standing) (given old x y : Option (List MirrorEvent))
    → given ≡ old → ended.side ≤ 1 → HasToldSince lead middle was given x → TellsChanges was now x y → now ≡ standing_of ended
    → TellsOf lead (record { end = end; unsynced = unsynced; stale = count_of ended.stale; follower = 1 - ended.side }) old y
run_told lead end unsynced middle ended was now given old x y same le h t is =
    let all : TellsChanges (whole_under lead) now old y = subst (λ (o : Option (List MirrorEvent)). TellsChanges (whole_under lead) now o y) same
    (tells_then (whole_under lead) was now given x y h.tells t) in
    let then : TellsChanges (whole_under lead) (standing_of ended) old y = subst (λ (s : Standing). TellsChanges (whole_under lead) s old y) is all in
    let back : 1 - (1 - ended.side) ≡ ended.side = omega (arith, le) in
    rw back then

-- Sides that are equal where nothing is stale.

swap_equal : (stale : List Bool) (x y : Option Contents) → IfSome (both x y) (AreEqualBut stale) → IfSome (both y x) (AreEqualBut stale)
swap_equal stale None None h = tt
swap_equal stale None (Some b) h = tt
swap_equal stale (Some a) None h = tt
swap_equal stale (Some a) (Some b) h = record { same = λ s off. sym (h.same s off); first = h.second; second = h.first }

equal_if : (p : Pair) (x : Option (Contents × Contents)) → IfSome (option_map (seen p.stale) x) Quiet → IfSome x (Holds p)
    → IfSome x (AreEqualBut p.stale)
equal_if p None quiet holds = tt
equal_if p (Some sides) quiet holds =
    let parts = λ (s : ℕ). parts_in (is_loose sides.0.loose s) (is_loose sides.1.loose s) (is_loose p.stale s)
    (sym (seen_at p.lead.sectors p.stale sides s holds.0) ∙ quiet s) in
    record {
      same = λ s fresh. holds.1.same s fresh;
      first = λ s fresh. (parts s).0;
      second = λ s fresh. elim (parts s).1 [
        | inl off ↦ off
        | inr on ↦ absurd (both_ways (is_loose p.stale s) fresh on)
      ];
    }

equal_sides : {D : Type 0} (state : D → DiskState) (back : MirrorDisks D) (p : Pair) → IsMirror p → IfSome (shown p).contents Quiet → IsOf state back p
    → IfSome (both (state back.one).contents (state back.two).contents) (AreEqualBut p.stale)
equal_sides state back p m quiet is =
    let equal : IfSome (both p.lead.contents p.follower.contents) (AreEqualBut p.stale) =
    equal_if p (both p.lead.contents p.follower.contents) quiet (holds_of p m) in
    let so : IfSome (both (side_of p 0).contents (side_of p 1).contents) (AreEqualBut p.stale) = elim (cases_eq p.side 1) [
      | inl one ↦ rw (ne_eqb 0 p.side (λ e. absurd (omega (arith, e, one))), eq-eqb 1 p.side (sym one))
          (swap_equal p.stale p.lead.contents p.follower.contents equal)
      | inr other ↦ rw (eq-eqb 0 p.side (let le = m.mark.side in omega (arith, other, le)), ne_eqb 1 p.side (λ e. absurd (other (sym e)))) equal
    ] in
    rw (is.one, is.two) so

-- where nothing is stale, everywhere
equal_all : (stale : List Bool) (x : Option (Contents × Contents)) → count_of stale ≡ 0 → IfSome x (AreEqualBut stale) → IfSome x AreEqual
equal_all stale None whole h = tt
equal_all stale (Some sides) whole h =
    let fresh = λ (s : ℕ). count_none stale s whole in
    record { same = λ s. h.same s (fresh s); first = λ s. h.first s (fresh s); second = λ s. h.second s (fresh s) }

-- A run from the mounting to the giving back.

finds_one : (s : Slot) → AlwaysFinds s.device.keep s.device.lists → FindsAll (s ∷ [])
finds_one s finds zero x e = subst (λ (y : Slot). AlwaysFinds y.device.keep y.device.lists) (same_Some s x e) finds
finds_one s finds (suc i) x e = absurd cc

module _ {D : Type 0} (state : D → DiskState) (given back : MirrorDisks D) (middle ended : Pair) (since : IsSince (faults_of state given) middle)
    (counts : Counts middle ended) (is : IsOf state back ended) where
  has_failed : (k : ℕ) → k ≤ 2 → Rose (disk_of middle k).faults (disk_of ended k).faults → HasFailed state given back k
  has_failed k le rose = rw (counts_of state back ended is k le)
      (rose-later (faults_of state given k) (disk_of middle k).faults (disk_of ended k).faults (since.counts k le) (counts k le) rose)

  blamed_one : (unsynced : Option ℕ) → Blames unsynced middle ended → IfSome unsynced (λ k. (k ≤ 2) × HasFailed state given back k)
  blamed_one None blames = tt
  blamed_one (Some k) blames = (blames.0, has_failed k blames.0 blames.1)

  failed_side : SideFailed middle ended → HasFailed state given back 0 ⊎ HasFailed state given back 1
  failed_side (inl first) = inl (has_failed 0 (omega arith) first)
  failed_side (inr second) = inr (has_failed 1 (omega arith) second)

no_error : (unsynced : Option ℕ) (b : Bool) → is_some unsynced ≡ b → unsynced ≡ None → b ≡ false
no_error None b e none = sym e
no_error (Some k) b e none = cc

-- a side that didn't fail, by its counts at the end
calm_held : {D : Type 0} (state : D → DiskState) (given back : MirrorDisks D) (middle ended : Pair) → IsSince (faults_of state given) middle
    → Counts middle ended → IsOf state back ended → (k : ℕ) → k ≤ 2 → (HasFailed state given back k → ⊥)
    → has_held (faults_of state given) ended k ≡ true
calm_held state given back middle ended since counts is k le calm =
    let before = since.counts k le in
    let after = counts k le in
    held (faults_of state given) ended k (omega (arith, before, after)) (λ rose. calm (rw (counts_of state back ended is k le) rose))

mirrored_since : {D S K L : Type 0} (state : D → DiskState) (name : ℕ → Station) (t : Tells S K L) (p : Plan) (e : MirrorEnd)
    (a b : Outside S K L) (given back : MirrorDisks D) (begun : Pair) (kept : Kept D) → IsBegun state given kept begun
    → RanMirror state name (faults_of state given) (count_of begun.stale == 0) t p e a b begun kept back → IsMirrored state name t p e a b given back
mirrored_since {D} state name t p e a b given back begun kept begins r =
    let since : IsSince (faults_of state given) r.middle = r.running.since in
    let calm = calm_held state given back r.middle r.ended since r.ends.counts r.disks_back in
    let finds : AlwaysFinds r.first.device.keep r.first.device.lists = rw (r.keep, r.lists) begins.keep.finds in
    let apart : e.unsynced ≡ None → IfSome (both (state back.one).contents (state back.two).contents) (AreEqualBut r.ended.stale) = λ none.
    equal_sides state back r.ended r.ends.mirror
    (synced_quiet r.ends.answer (shown r.middle) (shown r.ended) (no_error e.unsynced (is_err r.ends.answer) r.ends.told none) r.ends.syncs) r.disks_back in
    record {
      first = r.first;
      last = r.last;
      over = record {
        kept = kept;
        begun = begun;
        begins = begins;
        station = r.station;
        store = r.store;
        keep = r.keep;
        lists = r.lists;
        ended = r.ended;
        mirror = r.ends.mirror;
        survives = survives r.ended r.ends.mirror;
        truly = r.crash;
        store_back = r.store_back;
        disks_back = r.disks_back;
        keep_back = r.keep_back;
      };
      run = r.run;
      ends = run_ends t p e.end a b (r.first ∷ []) r.run.middle (r.last ∷ []) r.run.results r.run.ran (finds_one r.first finds) r.run.synced;
      covered = λ none mark one. r.covered
          (let w : (count_of begun.stale == 0) ≡ true = eq-eqb (count_of begun.stale) 0 none in
          rw w (covered_by (faults_of state given) r.ended (calm 2 (omega arith) mark) (elim one [
            | inl first ↦ inl (calm 0 (omega arith) first)
            | inr second ↦ inr (calm 1 (omega arith) second)
          ])));
      blames = blamed_one state given back r.middle r.ended since r.ends.counts r.disks_back e.unsynced r.ends.blames;
      left = r.left;
      apart = apart;
      equal = λ none whole. equal_all r.ended.stale (both (state back.one).contents (state back.two).contents) (sym r.left.stale ∙ whole) (apart none);
      marked = λ none fresh room. elim (r.ends.marked none (sym r.left.stale ∙ fresh) (rw r.disks_back.mark at room)) [
        | inl says ↦ inl (rw r.disks_back.mark says)
        | inr failed ↦ inr (has_failed state given back r.middle r.ended since r.ends.counts r.disks_back 2 (omega arith) failed)
      ];
      truly = r.truly;
      copied = λ well none some. elim (r.ends.whole well none) [
        | inl whole ↦ let told = r.left.stale in absurd (omega (arith, whole, told, some))
        | inr side ↦ failed_side state given back r.middle r.ended since r.ends.counts r.disks_back side
      ];
    }

-- where the run began as `faults` and `whole` say
pub ran_copied : {D S K L : Type 0} (state : D → DiskState) (name : ℕ → Station) (faults given : ℕ → ℕ) (whole : Bool) (t : Tells S K L) (p : Plan)
    (e : MirrorEnd) (a b : Outside S K L) (mounted begun : Pair) (kept : Kept D) (back : MirrorDisks D) → faults ≡ given
    → whole ≡ (count_of begun.stale == 0) → CopiesAll mounted begun → RanMirror state name faults whole t p e a b begun kept back
    → RanCopied state name given t p e a b mounted kept back
ran_copied state name faults given whole t p e a b mounted begun kept back same is copies ran = record {
  begun = begun;
  copies = copies;
  ran = subst (λ (w : Bool). RanMirror state name given w t p e a b begun kept back) is
      (subst (λ (f : ℕ → ℕ). RanMirror state name f whole t p e a b begun kept back) same ran);
}

-- these disks, of which the sides and the keep were mounted
module _ {D : Type 0} (state : D → DiskState) (given back : MirrorDisks D) (s : Sides D) (kept : Kept D) (mounts : Mounts state given.one given.two given.mark s)
    (keep : HasMounted (state given.keep) (state kept.disk) kept.lists) where
  pub mirrored : {S K L : Type 0} (name : ℕ → Station) (faults : ℕ → ℕ) (t : Tells S K L) (p : Plan) (a b : Outside S K L)
      (r : Result MirrorEnd MirrorStop) → faults ≡ faults_of state given
      → IfOk r (λ e. RanCopied state name faults t p e a b (pair_of state s) kept back) → IfOk r (λ e. IsMirrored state name t p e a b given back)
  mirrored name faults t p a b (Err why) same r = tt
  mirrored name faults t p a b (Ok e) same r =
      mirrored_since state name t p e a b given back r.begun kept (record { sides = s; mounts = mounts; copies = r.copies; keep = keep })
      (subst (λ (f : ℕ → ℕ). RanMirror state name f (count_of r.begun.stale == 0) t p e a b r.begun kept back) same r.ran)

  pub closed : (r : Result MirrorEnd MirrorStop) → IfErr r (λ why. (why ≡ stop.NoMemory) × AreOf s kept back)
      → IfErr r (λ why. Stops state why given back)
  closed (Ok e) x = tt
  closed (Err why) x = rw x.0 (record {
    sides = s;
    mounts = mounts;
    kept = kept;
    keep = keep;
    same = (x.1.one ∙ mounts.side_one, x.1.two ∙ mounts.side_two);
    mark = x.1.mark;
    keep_back = x.1.keep;
  })

pub tells_since : {D : Type 0} (state : D → DiskState) (given : MirrorDisks D) (s : Sides D) (old new : Option (List MirrorEvent))
    (r : Result MirrorEnd MirrorStop) → Mounts state given.one given.two given.mark s → IfOk r (λ e. TellsOf s.side e old new)
    → IfOk r (λ e. TellsSince state given e old new)
tells_since state given s old new (Err why) mounts tells = tt
tells_since state given s old new (Ok e) mounts tells = record { sides = s; mounts = mounts; tells = tells }

-- the first of links that were left as they are
pub same_first : {X : Type 0} (R : X → X → Type 0) (xs : List X) → ((x : X) → R x x) → AtFirst R xs xs
same_first R [] same = tt
same_first R (x ∷ xs) same = (same x, refl)
