-- All runs of stale sectors, each copied once.
use Rattle.std.proofs.Common.{◌≡◌, ◌≤◌, ◌<◌, ◌+◌, ◌*◌, ◌⊎◌, ℕ, suc, Bool, true, false, length, refl, sym, ap, ◌∙◌, inl, inr, arith}
use Rattle.std.proofs.lemmas.Bool.{OnTrue_at, cases_eq}
use Rattle.aoe_base.specs.Faults.{Rose}
use Rattle.aoe_base.proofs.CommonLemmas.{rose-later}
use Rattle.aoe_disk.specs.State.{BothTell}
use Rattle.aoe_disk.specs.Sectors.{Calms}
use Rattle.aoe_mirror.specs.Marks.{IsClear, IsFirstRun, count_of}
use Rattle.aoe_mirror.specs.Sides.{IsMirror, Pair, disk_of, shown}
use Rattle.aoe_mirror.specs.Calls.{Copies, CopiesAll, Counts, FollowerFailed, LeadFailed, RoseBy, SideFailed}
use Rattle.aoe_mirror.proofs.Bits.{below, below_all, below_cleared, below_none, below_stays, clear_rest, set_some}
use Rattle.aoe_mirror.proofs.Quiet.{calm_then}
use Rattle.aoe_mirror.proofs.Steps.{counts_then}
use Rattle.aoe_mirror.proofs.Syncing.{blame_follower, blame_lead, same_calm}
use Rattle.aoe_mirror.proofs.Told.{told_then}

-- WHICH SIDE FAILED

pub side_failed : (old new : Pair) → old.side ≤ 1 → LeadFailed old new ⊎ FollowerFailed old new → SideFailed old new
side_failed old new le (inl lead) = elim (cases_eq old.side 1) [
  | inl one ↦ inr (blame_lead old new 1 le (sym one) lead).1
  | inr other ↦ inl (blame_lead old new 0 le (omega (arith, other, le)) lead).1
]
side_failed old new le (inr follower) = elim (cases_eq old.side 1) [
  | inl one ↦ inl (blame_follower old new 0 le (omega (arith, one)) follower).1
  | inr other ↦ inr (blame_follower old new 1 le (omega (arith, other, le)) follower).1
]

-- a fault of a part is one of the whole

pub side_from : (old mid new : Pair) → Counts old mid → Counts mid new → SideFailed mid new → SideFailed old new
side_from old mid new before after (inl first) =
    inl (rose-later (disk_of old 0).faults (disk_of mid 0).faults (disk_of new 0).faults (before 0 (omega arith)) (after 0 (omega arith)) first)
side_from old mid new before after (inr second) =
    inr (rose-later (disk_of old 1).faults (disk_of mid 1).faults (disk_of new 1).faults (before 1 (omega arith)) (after 1 (omega arith)) second)

rose_to : (a b c : ℕ) → Rose a b → b ≤ c → Rose a c
rose_to a b c rose le = λ low. let more : a < b = rose low in omega (arith, more, le)

pub side_to : (old mid new : Pair) → Counts mid new → SideFailed old mid → SideFailed old new
side_to old mid new after (inl first) = inl (rose_to (disk_of old 0).faults (disk_of mid 0).faults (disk_of new 0).faults first (after 0 (omega arith)))
side_to old mid new after (inr second) = inr (rose_to (disk_of old 1).faults (disk_of mid 1).faults (disk_of new 1).faults second (after 1 (omega arith)))

rose_more : (n a b c : ℕ) → RoseBy n a b → Rose b c → b ≤ c → RoseBy (suc n) a c
rose_more n a b c rose then le = λ low. let x : a + n ≤ b = rose (omega (arith, low, le)) in let y : b < c = then (omega (arith, low, le)) in omega (arith, x, y)

rose_on : (n a b c : ℕ) → RoseBy n a b → b ≤ c → RoseBy n a c
rose_on n a b c rose le = λ low. let x : a + n ≤ b = rose (omega (arith, low, le)) in omega (arith, x, le)

-- THE RUNS BELOW A SECTOR WERE COPIED

pub record Passes (from : ℕ) (old new : Pair) : Type 0 where
  pub mirror : IsMirror new
  pub sectors : new.lead.sectors ≡ old.lead.sectors
  pub calm : BothTell Calms (shown old).contents (shown new).contents
  pub later : (shown old).faults ≤ (shown new).faults
  pub side : new.side ≡ old.side
  pub mark : new.mark ≡ old.mark
  pub counts : Counts old new
  pub settled : new.settled ≡ old.settled
  pub still : count_of old.stale ≡ 0 → new ≡ old
  pub fails : ℕ
  pub left : below from new.stale ≤ 64 * fails
  pub rose : RoseBy fails (shown old).faults (shown new).faults
  pub cause : 0 < fails → SideFailed old new

pub passes_begun : (p : Pair) → IsMirror p → Passes 0 p p
passes_begun p m = record {
  mirror = m;
  sectors = refl;
  calm = same_calm (shown p);
  later = omega arith;
  side = refl;
  mark = refl;
  counts = λ k le. omega arith;
  settled = refl;
  still = λ _. refl;
  fails = 0;
  left = omega (arith, below_none p.stale);
  rose = λ low. omega arith;
  cause = λ some. absurd (omega (arith, some));
}

module _ (from at n : ℕ) (old mid new : Pair) (run : IsFirstRun mid.stale from at n) (p : Passes from old mid) where
  some_stale : count_of old.stale ≡ 0 → ⊥
  some_stale none =
      let some : 0 < count_of mid.stale = set_some mid.stale at (run.run.set at (omega arith) (omega (arith, run.run.some))) in
      let same : count_of mid.stale ≡ count_of old.stale = ap (λ (p : Pair). count_of p.stale) (p.still none) in
      omega (arith, some, same, none)

  passes_by : (failed : Bool) (fails : ℕ) → Copies at n failed mid new → below (at + n) new.stale ≤ 64 * fails
      → RoseBy fails (shown old).faults (shown new).faults → (0 < fails → SideFailed old new) → Passes (at + n) old new
  passes_by failed fails c left rose cause = record {
    mirror = c.mirror;
    sectors = c.run.sectors ∙ p.sectors;
    calm = told_then Calms Calms Calms (shown old).contents (shown mid).contents (shown new).contents p.calm c.calm calm_then;
    later = let before = p.later in let after = c.run.later in omega (arith, before, after);
    side = c.side ∙ p.side;
    mark = c.mark ∙ p.mark;
    counts = counts_then old mid new p.counts c.counts;
    settled = c.settled ∙ p.settled;
    still = λ none. absurd (some_stale none);
    fails = fails;
    left = left;
    rose = rose;
    cause = cause;
  }

  pub passes_next : (failed : Bool) → Copies at n failed mid new → Passes (at + n) old new
  passes_next true c =
      let stays = below_stays mid.stale from at n run in
      passes_by true (suc p.fails) c (rw (c.stays refl) (omega (arith, stays, p.left, run.run.most)))
      (rose_more p.fails (shown old).faults (shown mid).faults (shown new).faults p.rose (OnTrue_at refl c.run.cause) c.run.later)
      (λ _. side_from old mid new p.counts c.counts (side_failed mid new p.mirror.mark.side (c.cause refl)))
  passes_next false c =
      let cleared = below_cleared mid.stale from at n run in
      passes_by false p.fails c (rw (c.done refl) (omega (arith, cleared, p.left)))
      (rose_on p.fails (shown old).faults (shown mid).faults (shown new).faults p.rose c.run.later) (λ some. side_to old mid new c.counts (p.cause some))

pub passes_done : (from : ℕ) (old new : Pair) → IsClear new.stale from (length new.stale) → Passes from old new → CopiesAll old new
passes_done from old new clear p = record {
  mirror = p.mirror;
  sectors = p.sectors;
  calm = p.calm;
  later = p.later;
  side = p.side;
  mark = p.mark;
  counts = p.counts;
  settled = p.settled;
  still = p.still;
  fails = p.fails;
  left = let all : count_of new.stale ≡ below from new.stale = below_all new.stale from (clear_rest new.stale from clear) in omega (arith, all, p.left);
  rose = p.rose;
  cause = p.cause;
}
