-- Syncs of a mirror.
use Rattle.std.proofs.Common.{◌≡◌, ◌≤◌, ◌<◌, ◌+◌, ◌-◌, ◌⊎◌, ℕ, Bool, true, false, Option, Some, None, IfSome, IfErr, is_some, min, List, length, replicate, Result, Ok, Err, is_err, if◌then◌else◌, refl, sym, ap, ◌∙◌, subst, inl, inr, arith, eq-eqb, ne_eqb}
use Rattle.std.proofs.lemmas.Bool.{OnTrue_at, both_ways, cases_Bool, cases_lt}
use Rattle.std.proofs.lemmas.List.{get_or-replicate, length-replicate}
use Rattle.aoe_base.specs.Faults.{Rose}
use Rattle.aoe_base.proofs.CommonLemmas.{rose-later}
use Rattle.aoe_disk.specs.State.{Contents, DiskState, HasShape, IsDisk, BothTell, is_loose}
use Rattle.aoe_disk.specs.Calls.{Syncs, SyncsTo}
use Rattle.aoe_disk.specs.Sectors.{Calms}
use Rattle.aoe_disk.proofs.Touching.{calm_refl, settles_calm, settles_kept}
use Rattle.aoe_mirror.specs.Marks.{AreSet, count_of}
use Rattle.aoe_mirror.specs.Sides.{Agree, IsMirror, Pair, both, disk_of, seen, shown, turned}
use Rattle.aoe_mirror.specs.Calls.{Answer, Blames, Copies, CopiesNext, Counts, DiskFailed, FollowerFailed, FollowerSyncs, Later, LeadFailed, Leads, MarkFailed, MirrorSyncs, NewFollowerFailed, SettlesLead, StaysLead, StaysWhole, TakesLead, lowest}
use Rattle.aoe_mirror.proofs.Told.{and_if, both_if, if_any, map_if, told_both, told_ends, told_if, told_map, told_mono, told_same, told_then, told_to}
use Rattle.aoe_mirror.proofs.Bits.{next_set, with_each_inside, with_each_outside}
use Rattle.aoe_mirror.proofs.Whole.{Fit, cases_range}
use Rattle.aoe_mirror.proofs.Quiet.{Grows, agree_calm, calm_by, calm_may, calm_settles, calm_then, grows_all, grows_if, grows_refl, none_seen, seen_calm, settled_by}
use Rattle.aoe_mirror.proofs.Steps.{Holds, counts_moved, counts_same, counts_then, fit_of, lead_later, newly_later, newly_moved, newly_same, settled_counts, follower_moved, follower_same, holds_of, lead_moved, lead_same, rose_part, settled_faults, settled_mirror, settled_sectors, settled_shown, settled_side, settled_stale, shown_if, synced, turned_mirror, turned_shown}

abbrev pub Quiet : Contents → Type 0
Quiet c = (s : ℕ) → is_loose c.loose s ≡ false

-- A SYNC BY WHAT IT LEAVES

pub sync_ok : {T E : Type 0} (result : Result T E) (old new : Pair) → IsMirror old → IsMirror new → is_err result ≡ false
    → BothTell Calms (shown old).contents (shown new).contents → IfSome (shown new).contents Quiet
    → BothTell (Syncs result) (shown old).contents (shown new).contents
sync_ok {T = T} {E = E} (Ok v) old new m n ok told quiet = told_ends Calms (Syncs {T = T} {E = E} (Ok v))
    (λ (a : Contents). HasShape old.lead.sectors a × (a.settled ≡ None)) (λ (b : Contents). Quiet b × (HasShape new.lead.sectors b × (b.settled ≡ None)))
    (shown old).contents (shown new).contents told (shown_if old m)
    (and_if Quiet (λ (b : Contents). HasShape new.lead.sectors b × (b.settled ≡ None)) (shown new).contents quiet (shown_if new n))
    (λ a b h k t. calm_settles a b h.1 k.1.1 t k.0)
sync_ok (Err e) old new m n ok told quiet = cc

pub sync_err : {T E : Type 0} (result : Result T E) (old new : Pair) → IsMirror old → IsMirror new → is_err result ≡ true
    → BothTell Calms (shown old).contents (shown new).contents → BothTell (Syncs result) (shown old).contents (shown new).contents
sync_err (Ok v) old new m n bad told = cc
sync_err {T = T} {E = E} (Err e) old new m n bad told = told_ends Calms (Syncs {T = T} {E = E} (Err e))
    (λ (a : Contents). HasShape old.lead.sectors a × (a.settled ≡ None)) (λ (b : Contents). HasShape new.lead.sectors b × (b.settled ≡ None))
    (shown old).contents (shown new).contents told (shown_if old m) (shown_if new n) (λ a b h k t. calm_may a b h.1 k.1 t)

-- CALLS THAT CHANGE NO BYTE

pub synced_calm : (r : Answer) (a b : DiskState) → SyncsTo r a b → BothTell Calms a.contents b.contents
synced_calm r a b s = told_mono (Syncs r) Calms a.contents b.contents s.contents (calm_by r)

pub synced_quiet : (r : Answer) (a b : DiskState) → is_err r ≡ false → SyncsTo r a b → IfSome b.contents Quiet
synced_quiet r a b ok s = told_to (Syncs r) Quiet a.contents b.contents s.contents (λ x y t. settles_kept x y (settled_by r x y ok t))

pub same_calm : (a : DiskState) → BothTell Calms a.contents a.contents
same_calm a = told_mono (λ (x y : Contents). y ≡ x) Calms a.contents a.contents (told_same a.contents) (λ x y e. rw e (calm_refl x))

pub synced_later : (r : Answer) (a b : DiskState) → SyncsTo r a b → Later a b
synced_later r a b s = record { disk = s.call.after; sectors = s.call.sectors; later = s.call.later }

pub same_later : (a : DiskState) → IsDisk a → Later a a
same_later a d = record { disk = d; sectors = refl; later = omega arith }

module _ (old : Pair) (m : IsMirror old) (settled : old.settled ≡ true) (lead follower : DiskState) (stale : List Bool) (l : Later old.lead lead)
    (f : Later old.follower follower) (grows : Grows old.stale stale)
    (calm_lead : BothTell Calms old.lead.contents lead.contents) (calm_follower : BothTell Calms old.follower.contents follower.contents) where
  abbrev pub calmed : Pair
  calmed = record { lead = lead; follower = follower; mark = old.mark; side = old.side; stale = stale; settled = old.settled }

  abbrev Calm : Contents × Contents → Contents × Contents → Type 0
  Calm p q = Calms p.0 q.0 × Calms p.1 q.1

  told_calm : BothTell Calm (both old.lead.contents old.follower.contents) (both lead.contents follower.contents)
  told_calm = told_both Calms Calms old.lead.contents lead.contents old.follower.contents follower.contents calm_lead calm_follower

  pub calmed_mirror : IsMirror calmed
  calmed_mirror = record {
    lead = l.disk;
    follower = f.disk;
    size = f.sectors ∙ m.size ∙ sym l.sectors;
    mark = record { disk = m.mark.disk; room = m.mark.room; side = m.mark.side; named = m.mark.named };
    marks = grows.size ∙ m.marks ∙ sym l.sectors;
    agree = told_if Calm (Holds old) (Agree old.settled stale) (both old.lead.contents old.follower.contents)
        (both lead.contents follower.contents) told_calm (holds_of old m)
        (λ p q h t. agree_calm old.lead.sectors old.stale stale p q h.0 t.0 t.1 grows old.settled settled h.1);
  }

  pub calmed_calm : BothTell Calms (shown old).contents (shown calmed).contents
  calmed_calm = told_map Calm Calms (Holds old) (seen old.stale) (seen stale) (both old.lead.contents old.follower.contents)
      (both lead.contents follower.contents) told_calm (holds_of old m) (λ p q h t. seen_calm old.lead.sectors old.stale stale p q h.0 t.0 t.1 grows)

  pub calmed_quiet : IfSome lead.contents Quiet → (IfSome follower.contents Quiet ⊎ ((s : ℕ) → s < length stale → is_loose stale s ≡ true))
      → IfSome (shown calmed).contents Quiet
  calmed_quiet quiet which = elim which [
    | inl other ↦ map_if (λ (q : Contents × Contents). Fit lead.sectors stale q × (Quiet q.0 × Quiet q.1)) Quiet (seen stale)
        (both lead.contents follower.contents)
        (and_if (Fit lead.sectors stale) (λ (q : Contents × Contents). Quiet q.0 × Quiet q.1) (both lead.contents follower.contents)
        (fit_of calmed calmed_mirror) (both_if Quiet Quiet lead.contents follower.contents quiet other))
        (λ q h. none_seen lead.sectors stale q (h.0.lead.marks ∙ sym h.0.marks) (h.0.follower.marks ∙ sym h.0.marks) h.1.0 (λ s _. inl (h.1.1 s)))
    | inr all ↦ map_if (λ (q : Contents × Contents). Fit lead.sectors stale q × (Quiet q.0 × Unit {0})) Quiet (seen stale)
        (both lead.contents follower.contents)
        (and_if (Fit lead.sectors stale) (λ (q : Contents × Contents). Quiet q.0 × Unit {0}) (both lead.contents follower.contents)
        (fit_of calmed calmed_mirror) (both_if Quiet (λ _. Unit {0}) lead.contents follower.contents quiet (if_any follower.contents)))
        (λ q h. none_seen lead.sectors stale q (h.0.lead.marks ∙ sym h.0.marks) (h.0.follower.marks ∙ sym h.0.marks) h.1.0 (λ s lt. inr (all s lt)))
  ]

-- WHO IS TOLD

pub blame_lead : (old new : Pair) (k : ℕ) → old.side ≤ 1 → k ≡ old.side → LeadFailed old new → Blames (Some k) old new
blame_lead old new k le is failed = rw is (omega arith, rw (ne_eqb old.side 2 (λ e. absurd (omega arith)), eq-eqb old.side old.side refl) failed)

pub blame_follower : (old new : Pair) (k : ℕ) → old.side ≤ 1 → k ≡ 1 - old.side → FollowerFailed old new → Blames (Some k) old new
blame_follower old new k le is failed = rw is
    (omega arith, rw (ne_eqb (1 - old.side) 2 (λ e. absurd (omega arith)), ne_eqb (1 - old.side) old.side (λ e. absurd (omega arith))) failed)

pub blame_lowest : (old new : Pair) (k : ℕ) → old.side ≤ 1 → k ≡ 0 → LeadFailed old new → FollowerFailed old new → Blames (Some k) old new
blame_lowest old new k le is lead follower = elim (cases_lt 0 old.side) [
  | inl some ↦ blame_follower old new k le (omega arith) follower
  | inr none ↦ blame_lead old new k le (omega arith) lead
]

-- THE LEAD WAS SYNCED

if_told : (b : Bool) (x : Option ℕ) (k : ℕ) (P : ℕ → Type 0) → x ≡ (if b then Some k else None) → (b ≡ true → P k) → IfSome x P
if_told true x k P e h = rw e (h refl)
if_told false x k P e h = rw e tt

newly_if : (b : Bool) (stale : List Bool) (s : ℕ) → is_loose stale s ≡ false → is_loose (if b then replicate (length stale) true else stale) s ≡ true → b ≡ true
newly_if true stale s was now = refl
newly_if false stale s was now = absurd (both_ways _ was now)

all_if : (b : Bool) (stale : List Bool) → b ≡ true → (s : ℕ) → s < length (if b then replicate (length stale) true else stale)
    → is_loose (if b then replicate (length stale) true else stale) s ≡ true
all_if true stale e s lt = get_or-replicate (length stale) s true false (omega (arith, length-replicate (length stale) true))
all_if false stale e s lt = cc

module _ (old : Pair) (m : IsMirror old) (settled : old.settled ≡ true) (lead : DiskState) (r : Answer) (sync : SyncsTo r old.lead lead) where
  module _ (ok : is_err r ≡ false) (blamed : Option ℕ) (new : Pair) (f : FollowerSyncs blamed (record old { lead = lead }) new) where
    abbrev through_stale : List Bool
    through_stale = if is_err f.answer then replicate (length old.stale) true else old.stale

    abbrev through_pair : Pair
    through_pair = calmed old m settled lead f.synced through_stale (synced_later r old.lead lead sync) (synced_later f.answer old.follower f.synced f.sync)
        (grows_if (is_err f.answer) old.stale) (synced_calm r old.lead lead sync) (synced_calm f.answer old.follower f.synced f.sync)

    through_is_mirror : IsMirror through_pair
    through_is_mirror = calmed_mirror old m settled lead f.synced through_stale (synced_later r old.lead lead sync)
        (synced_later f.answer old.follower f.synced f.sync) (grows_if (is_err f.answer) old.stale) (synced_calm r old.lead lead sync)
        (synced_calm f.answer old.follower f.synced f.sync)

    through_is_calm : BothTell Calms (shown old).contents (shown through_pair).contents
    through_is_calm = calmed_calm old m settled lead f.synced through_stale (synced_later r old.lead lead sync)
        (synced_later f.answer old.follower f.synced f.sync) (grows_if (is_err f.answer) old.stale) (synced_calm r old.lead lead sync)
        (synced_calm f.answer old.follower f.synced f.sync)

    other_quiet : (b : Bool) → is_err f.answer ≡ b → IfSome f.synced.contents Quiet ⊎ ((s : ℕ) → s < length through_stale → is_loose through_stale s ≡ true)
    other_quiet true is = inr (all_if (is_err f.answer) old.stale is)
    other_quiet false is = inl (synced_quiet f.answer old.follower f.synced is f.sync)

    through_is_quiet : IfSome (shown through_pair).contents Quiet
    through_is_quiet = calmed_quiet old m settled lead f.synced through_stale (synced_later r old.lead lead sync)
        (synced_later f.answer old.follower f.synced f.sync) (grows_if (is_err f.answer) old.stale) (synced_calm r old.lead lead sync)
        (synced_calm f.answer old.follower f.synced f.sync)
        (synced_quiet r old.lead lead ok sync) (other_quiet (is_err f.answer) refl)

    follower_fell : is_err f.answer ≡ true → FollowerFailed old through_pair
    follower_fell bad = follower_same old through_pair m.mark.side refl (OnTrue_at bad f.sync.call.cause)

    through_by : {T E : Type 0} (result : Result T E) → is_err result ≡ false → MirrorSyncs result old through_pair
    through_by result done = record {
      mirror = through_is_mirror;
      syncs = synced old through_pair m through_is_mirror sync.call.sectors (omega (arith, sync.call.later, f.sync.call.later)) result
          (sync_ok result old through_pair m through_is_mirror done through_is_calm through_is_quiet) (λ bad. absurd (both_ways (is_err result) done bad));
      keeps = record {
        later = omega arith;
        stale = λ s was now. inl (newly_same old through_pair m.mark.side refl
            (OnTrue_at (newly_if (is_err f.answer) old.stale s was now) f.sync.call.cause));
        lead = inl refl;
      };
      counts = counts_same old through_pair refl sync.call.later f.sync.call.later (omega arith);
      settled = λ _. settled;
      cause = λ bad. absurd (both_ways (is_err result) done bad);
    }

    pub through_syncs : {T E : Type 0} (result : Result T E) → is_err result ≡ false → MirrorSyncs result old new
    through_syncs result done = subst (MirrorSyncs result old) (sym f.is) (through_by result done)

    pub through_blames : Blames blamed old new
    through_blames = subst (Blames blamed old) (sym f.is)
        (if_told (is_err f.answer) blamed (1 - old.side) (λ k. (k ≤ 2) × DiskFailed old through_pair k) f.told
        (λ bad. blame_follower old through_pair (1 - old.side) m.mark.side refl (follower_fell bad)))

  -- THE LEAD FAILED

  module _ (bad : is_err r ≡ true) where
    fell : Rose old.lead.faults lead.faults
    fell = OnTrue_at bad sync.call.cause

    abbrev eased : Pair
    eased = calmed old m settled lead old.follower old.stale (synced_later r old.lead lead sync) (same_later old.follower m.follower) (grows_refl old.stale)
        (synced_calm r old.lead lead sync) (same_calm old.follower)

    eased_mirror : IsMirror eased
    eased_mirror = calmed_mirror old m settled lead old.follower old.stale (synced_later r old.lead lead sync) (same_later old.follower m.follower)
        (grows_refl old.stale) (synced_calm r old.lead lead sync) (same_calm old.follower)

    eased_calm : BothTell Calms (shown old).contents (shown eased).contents
    eased_calm = calmed_calm old m settled lead old.follower old.stale (synced_later r old.lead lead sync) (same_later old.follower m.follower)
        (grows_refl old.stale) (synced_calm r old.lead lead sync) (same_calm old.follower)

    -- and leads on

    stays_failed : LeadFailed old eased
    stays_failed = lead_same old eased refl fell

    stays_by : {T E : Type 0} (result : Result T E) → is_err result ≡ true → 0 < count_of old.stale → MirrorSyncs result old eased
    stays_by result failed stale = record {
      mirror = eased_mirror;
      syncs = synced old eased m eased_mirror sync.call.sectors (omega (arith, sync.call.later)) result
          (sync_err result old eased m eased_mirror failed eased_calm)
          (λ _. rose_part old.lead.faults lead.faults (shown old).faults (shown eased).faults fell (omega arith) (omega arith));
      keeps = record { later = omega arith; stale = λ s was now. absurd (both_ways (is_loose old.stale s) was now); lead = inl refl };
      counts = counts_same old eased refl sync.call.later (omega arith) (omega arith);
      settled = λ ok. absurd (both_ways (is_err result) ok failed);
      cause = λ _. inl (stays_failed, stale);
    }

    pub stays_syncs : {S T E : Type 0} (reply : Result S ℕ) (result : Result T E) (new : Pair) → StaysLead reply (record old { lead = lead }) new
        → is_err result ≡ true → MirrorSyncs result old new
    stays_syncs reply result new s failed = subst (MirrorSyncs result old) (sym s.is) (stays_by result failed s.stale)

    pub stays_blames : {S : Type 0} (reply : Result S ℕ) (new : Pair) (k : ℕ) → StaysLead reply (record old { lead = lead }) new → k ≡ old.side
        → Blames (Some k) old new
    stays_blames reply new k s is = subst (Blames (Some k) old) (sym s.is) (blame_lead old eased k m.mark.side is stays_failed)

    -- and the follower leads from then on

    module _ {S : Type 0} (reply : Result S ℕ) (new : Pair) (t : TakesLead reply (record old { lead = lead }) new) where
      mid_mirror : IsMirror t.mid
      mid_mirror = settled_mirror t.fails (turned eased) t.mid (turned_mirror eased eased_mirror t.whole) t.settles

      mid_calm : BothTell Calms (shown old).contents (shown t.mid).contents
      mid_calm = rw (settled_shown t.fails (turned eased) t.mid t.settles, turned_shown eased eased_mirror t.whole) eased_calm

      mid_side : t.mid.side ≡ 1 - old.side
      mid_side = settled_side t.fails (turned eased) t.mid t.settles

      mid_lead : t.mid.lead ≡ old.follower
      mid_lead = ap (λ (p : Pair). p.lead) t.settles.is

      mid_follower : t.mid.follower ≡ lead
      mid_follower = ap (λ (p : Pair). p.follower) t.settles.is

      mid_failed : LeadFailed old t.mid
      mid_failed = lead_moved old t.mid m.mark.side mid_side (rw mid_follower fell)

      mid_trails : NewFollowerFailed old t.mid
      mid_trails = newly_moved old t.mid m.mark.side mid_side (rw mid_follower fell)

      mid_by : {T E : Type 0} (result : Result T E) → is_err result ≡ true → t.fails ≡ true → MirrorSyncs result old t.mid
      mid_by result failed e =
          let faults = settled_faults t.fails (turned eased) t.mid t.settles in
          let later = t.settles.mark.later in
          record {
            mirror = mid_mirror;
            syncs = synced old t.mid m mid_mirror (ap (λ (d : DiskState). d.sectors) mid_lead ∙ m.size)
                (omega (arith, faults, later, sync.call.later)) result (sync_err result old t.mid m mid_mirror failed mid_calm)
                (λ _. rose_part old.lead.faults lead.faults (shown old).faults (shown t.mid).faults fell (omega arith) (omega (arith, faults, later)));
            keeps = record { later = later; stale = λ _ was now. inl mid_trails; lead = inr mid_failed };
            counts = counts_moved old t.mid m.mark.side mid_side (rw mid_follower sync.call.later) (rw mid_lead (omega arith)) later;
            settled = λ ok. absurd (both_ways (is_err result) ok failed);
            cause = λ _. inr (inr (t.settles.cause e));
          }

      module _ (settled_mid : t.mid.settled ≡ true) (x : Leads reply t.mid new) where
        abbrev last_stale : List Bool
        last_stale = replicate (length t.mid.stale) true

        abbrev last : Pair
        last = calmed t.mid mid_mirror settled_mid x.synced t.mid.follower last_stale (synced_later x.answer t.mid.lead x.synced x.sync)
            (same_later t.mid.follower mid_mirror.follower) (grows_all t.mid.stale) (synced_calm x.answer t.mid.lead x.synced x.sync)
            (same_calm t.mid.follower)

        last_mirror : IsMirror last
        last_mirror = calmed_mirror t.mid mid_mirror settled_mid x.synced t.mid.follower last_stale (synced_later x.answer t.mid.lead x.synced x.sync)
            (same_later t.mid.follower mid_mirror.follower) (grows_all t.mid.stale) (synced_calm x.answer t.mid.lead x.synced x.sync)
            (same_calm t.mid.follower)

        last_calm : BothTell Calms (shown old).contents (shown last).contents
        last_calm = told_then Calms Calms Calms (shown old).contents (shown t.mid).contents (shown last).contents mid_calm
            (calmed_calm t.mid mid_mirror settled_mid x.synced t.mid.follower last_stale (synced_later x.answer t.mid.lead x.synced x.sync)
            (same_later t.mid.follower mid_mirror.follower) (grows_all t.mid.stale) (synced_calm x.answer t.mid.lead x.synced x.sync)
            (same_calm t.mid.follower)) calm_then

        last_quiet : is_err x.answer ≡ false → IfSome (shown last).contents Quiet
        last_quiet ok = calmed_quiet t.mid mid_mirror settled_mid x.synced t.mid.follower last_stale (synced_later x.answer t.mid.lead x.synced x.sync)
            (same_later t.mid.follower mid_mirror.follower) (grows_all t.mid.stale) (synced_calm x.answer t.mid.lead x.synced x.sync)
            (same_calm t.mid.follower)
            (synced_quiet x.answer t.mid.lead x.synced ok x.sync)
            (inr (λ s lt. get_or-replicate (length t.mid.stale) s true false (omega (arith, length-replicate (length t.mid.stale) true))))

        last_lead_failed : LeadFailed old last
        last_lead_failed = lead_moved old last m.mark.side mid_side (rw mid_follower fell)

        last_trails : NewFollowerFailed old last
        last_trails = newly_moved old last m.mark.side mid_side (rw mid_follower fell)

        last_follower_failed : is_err x.answer ≡ true → FollowerFailed old last
        last_follower_failed failed = follower_moved old last mid_side (rw mid_lead at (OnTrue_at failed x.sync.call.cause))

        last_syncs : {T E : Type 0} (result : Result T E) → (b : Bool) → is_err x.answer ≡ b → is_err result ≡ b
            → BothTell (Syncs result) (shown old).contents (shown last).contents
        last_syncs result true e is = sync_err result old last m last_mirror is last_calm
        last_syncs result false e is = sync_ok result old last m last_mirror is last_calm (last_quiet e)

        last_by : {T E : Type 0} (result : Result T E) → is_err result ≡ is_err x.answer → MirrorSyncs result old last
        last_by result is =
            let later = t.settles.mark.later in
            let one = x.sync.call.later in
            let two = ap (λ (d : DiskState). d.faults) mid_lead in
            let three = ap (λ (d : DiskState). d.faults) mid_follower in
            record {
              mirror = last_mirror;
              syncs = synced old last m last_mirror (x.sync.call.sectors ∙ ap (λ (d : DiskState). d.sectors) mid_lead ∙ m.size)
                  (omega (arith, later, one, two, three, sync.call.later)) result (last_syncs result (is_err x.answer) refl is)
                  (λ _. rose_part old.lead.faults lead.faults (shown old).faults (shown last).faults fell (omega arith)
                  (omega (arith, later, one, two, three)));
              keeps = record { later = later; stale = λ _ was now. inl last_trails; lead = inr last_lead_failed };
              counts = counts_moved old last m.mark.side mid_side (rw mid_follower sync.call.later) (rw mid_lead at one) later;
              settled = λ _. settled_mid;
              cause = λ failed. inr (inl (last_lead_failed, last_follower_failed (sym is ∙ failed)));
            }

      pub takes_syncs : {T E : Type 0} (result : Result T E) → is_err result ≡ is_err reply → MirrorSyncs result old new
      takes_syncs result is = elim t.rest [
        | inl halt ↦ subst (MirrorSyncs result old) (sym halt.1) (mid_by result (is ∙ halt.2) halt.0)
        | inr goes ↦ let x = goes.1 in subst (MirrorSyncs result old) (sym x.is) (last_by (t.settles.settled goes.0) x result (is ∙ x.told))
      ]

      -- the lead is told, where the call is Ok
      pub takes_failed : LeadFailed old new
      takes_failed = elim t.rest [
        | inl halt ↦ subst (LeadFailed old) (sym halt.1) mid_failed
        | inr goes ↦ let x = goes.1 in subst (LeadFailed old) (sym x.is) (last_lead_failed (t.settles.settled goes.0) x)
      ]

      pub takes_blames : (k : ℕ) → is_err reply ≡ true → (k ≡ old.side → Blames (Some k) old new) × (IfErr reply (λ j. j ≡ k)) → Blames (Some k) old new
      takes_blames k failed h = elim t.rest [
        | inl halt ↦ h.0 (same_err reply k old.side failed h.1 halt.3)
        | inr goes ↦ let x = goes.1 in
            subst (Blames (Some k) old) (sym x.is)
            (blame_lowest old (last (t.settles.settled goes.0) x) k m.mark.side (same_err reply k 0 failed h.1 x.blamed)
            (last_lead_failed (t.settles.settled goes.0) x) (last_follower_failed (t.settles.settled goes.0) x (sym x.told ∙ failed)))
      ]
        where
          same_err : (q : Result S ℕ) (k j : ℕ) → is_err q ≡ true → IfErr q (λ i. i ≡ k) → IfErr q (λ i. i ≡ j) → k ≡ j
          same_err (Ok v) k j e a b = cc
          same_err (Err i) k j e a b = sym a ∙ b

-- A LEAD THAT WASN'T SETTLED

same_syncs : {T E : Type 0} (result : Result T E) (old mid : Pair) → IsMirror old → IsMirror mid → is_err result ≡ true
    → (shown mid).contents ≡ (shown old).contents → BothTell (Syncs result) (shown old).contents (shown mid).contents
same_syncs result old mid m n bad e =
    sync_err result old mid m n bad
    (rw e (told_mono (λ (x y : Contents). y ≡ x) Calms (shown old).contents (shown old).contents (told_same (shown old).contents)
    (λ x y q. rw q (calm_refl x))))

pub unsettled_syncs : {T E : Type 0} (e : E) (old mid : Pair) (m : IsMirror old) → SettlesLead true old mid → MirrorSyncs {T = T} {E = E} (Err e) old mid
unsettled_syncs {T = T} {E = E} e old mid m s =
    let mirror = settled_mirror true old mid m s in
    let faults = settled_faults true old mid s in
    record {
      mirror = mirror;
      syncs = synced old mid m mirror (settled_sectors true old mid s) (omega (arith, faults, s.mark.later)) (Err e)
          (same_syncs {T = T} {E = E} (Err e) old mid m mirror refl (settled_shown true old mid s))
          (λ _. rose_part old.mark.faults mid.mark.faults (shown old).faults (shown mid).faults (s.cause refl) (omega arith) (omega (arith, faults)));
      keeps = record {
        later = s.mark.later;
        stale = λ k was is. let same = settled_stale true old mid s in
            absurd (both_ways (is_loose old.stale k) was (rw same at is));
        lead = inl (settled_side true old mid s);
      };
      counts = settled_counts true old mid s;
      settled = λ ok. cc;
      cause = λ _. inr (inr (s.cause refl));
    }

pub settled_syncs : {T E : Type 0} (result : Result T E) (old mid new : Pair) (m : IsMirror old) → SettlesLead false old mid → MirrorSyncs result mid new
    → MirrorSyncs result old new
settled_syncs result old mid new m s syncs =
    let w : MirrorSyncs result (record old { mark = mid.mark; settled = mid.settled }) new = subst (λ (p : Pair). MirrorSyncs result p new) s.is syncs in
    let mark : MarkFailed mid new → MarkFailed old new = rose-later old.mark.faults mid.mark.faults new.mark.faults s.mark.later w.keeps.later in
    let later : (shown old).faults ≤ (shown new).faults = let c = w.syncs.call.later in omega (arith, c, s.mark.later) in
    record {
      mirror = w.mirror;
      syncs = synced old new m w.mirror w.syncs.call.sectors later result w.syncs.contents
          (λ bad. rose-later (shown old).faults (old.lead.faults + old.follower.faults + mid.mark.faults) (shown new).faults
          (omega (arith, s.mark.later)) w.syncs.call.later (OnTrue_at bad w.syncs.call.cause));
      keeps = record { later = omega (arith, s.mark.later, w.keeps.later); stale = w.keeps.stale; lead = w.keeps.lead };
      counts = counts_then old mid new (settled_counts false old mid s) syncs.counts;
      settled = w.settled;
      cause = λ bad. elim (w.cause bad) [
        | inl a ↦ inl a
        | inr b ↦ elim b [
          | inl c ↦ inr (inl c)
          | inr d ↦ inr (inr (mark d))
        ]
      ];
    }

pub blames_then : (failed : Option ℕ) (old mid new : Pair) → Counts old mid → Counts mid new → Blames failed mid new → Blames failed old new
blames_then None old mid new a b h = tt
blames_then (Some k) old mid new a b h = (h.0, rose-later (disk_of old k).faults (disk_of mid k).faults (disk_of new k).faults (a k h.0) (b k h.0) h.1)

pub blames_before : (failed : Option ℕ) (old mid new : Pair) → Counts mid new → Blames failed old mid → Blames failed old new
blames_before None old mid new b h = tt
blames_before (Some k) old mid new b h = (h.0, λ low. let more : (disk_of old k).faults < (disk_of mid k).faults = h.1 low in let le = b k h.0 in omega arith)

-- another value for the same
pub ok_syncs : {T E S F : Type 0} (v : T) (w : S) (old new : Pair) → MirrorSyncs {T = S} {E = F} (Ok w) old new → MirrorSyncs {T = T} {E = E} (Ok v) old new
ok_syncs {T = T} {E = E} {S = S} {F = F} v w old new s = record {
  mirror = s.mirror;
  syncs = record {
    call = s.syncs.call;
    contents = told_mono (Syncs {T = S} {E = F} (Ok w)) (Syncs {T = T} {E = E} (Ok v)) (shown old).contents (shown new).contents s.syncs.contents
        (λ a b t. t);
    log = s.syncs.log;
  };
  keeps = s.keeps;
  counts = s.counts;
  settled = s.settled;
  cause = s.cause;
}

-- A COPY BEHIND A SYNC

module _ (at n : ℕ) (failed : Bool) (mid new : Pair) (run : AreSet mid.stale at n) (c : Copies at n failed mid new) where
  stale_before : (s : ℕ) → is_loose mid.stale s ≡ false → is_loose new.stale s ≡ false
  stale_before s off = elim (cases_Bool failed) [
    | inl bad ↦ rw (c.stays bad) off
    | inr fine ↦ rw (c.done fine) (elim (cases_range at n s) [
      | inl out ↦ with_each_outside mid.stale at n false run.within s out ∙ off
      | inr in_run ↦ with_each_inside mid.stale at n false run.within s in_run.0 in_run.1
    ])
  ]

run_syncs : {T E S F : Type 0} (v : T) (w : S) (at n : ℕ) (failed : Bool) (old mid new : Pair) (m : IsMirror old) → MirrorSyncs {T = S} {E = F} (Ok w) old mid
    → AreSet mid.stale at n → Copies at n failed mid new → MirrorSyncs {T = T} {E = E} (Ok v) old new
run_syncs {T = T} {E = E} {S = S} {F = F} v w at n failed old mid new m s run c =
    let later : (shown old).faults ≤ (shown new).faults = let a = s.syncs.call.later in let b = c.run.later in omega arith in
    let calm : BothTell Calms (shown old).contents (shown new).contents = told_then Calms Calms Calms (shown old).contents (shown mid).contents
    (shown new).contents
    (told_mono (Syncs {T = S} {E = F} (Ok w)) Calms (shown old).contents (shown mid).contents s.syncs.contents (λ a b t. settles_calm a b t)) c.calm
    calm_then in
    let quiet : IfSome (shown new).contents Quiet = told_if Calms Quiet Quiet (shown mid).contents (shown new).contents c.calm
    (told_to (Syncs {T = S} {E = F} (Ok w)) Quiet (shown old).contents (shown mid).contents s.syncs.contents (λ a b t. settles_kept a b t))
    (λ a b h t k. t.kept k (h k)) in
    record {
      mirror = c.mirror;
      syncs = synced old new m c.mirror (c.run.sectors ∙ s.syncs.call.sectors) later (Ok v)
          (sync_ok {T = T} {E = E} (Ok v) old new m c.mirror refl calm quiet) (λ e. cc);
      keeps = record {
        later = let a = s.keeps.later in let b = c.counts 2 (omega arith) in omega arith;
        stale = λ k was now. elim (cases_Bool (is_loose mid.stale k)) [
          | inl on ↦ elim (s.keeps.stale k was on) [
            | inl f ↦ inl (newly_later old mid new s.mirror.mark.side c.side c.counts f)
            | inr l ↦ inr (lead_later old mid new m.mark.side c.counts l.0, l.1)
          ]
          | inr off ↦ absurd (both_ways _ (stale_before at n failed mid new run c k off) now)
        ];
        lead = elim s.keeps.lead [
          | inl same ↦ inl (c.side ∙ same)
          | inr l ↦ inr (lead_later old mid new m.mark.side c.counts l)
        ];
      };
      counts = counts_then old mid new s.counts c.counts;
      settled = λ _. c.settled ∙ s.settled refl;
      cause = λ e. cc;
    }

-- another error for the same
pub err_syncs : {T E S F : Type 0} (d : F) (e : E) (old new : Pair) → MirrorSyncs {T = S} {E = F} (Err d) old new → MirrorSyncs {T = T} {E = E} (Err e) old new
err_syncs {T = T} {E = E} {S = S} {F = F} d e old new s = record {
  mirror = s.mirror;
  syncs = record {
    call = s.syncs.call;
    contents = told_mono (Syncs {T = S} {E = F} (Err d)) (Syncs {T = T} {E = E} (Err e)) (shown old).contents (shown new).contents s.syncs.contents
        (λ a b t. t);
    log = s.syncs.log;
  };
  keeps = s.keeps;
  counts = s.counts;
  settled = s.settled;
  cause = s.cause;
}

pub copied_syncs : {T E S F : Type 0} (v : T) (w : S) (from next : ℕ) (failed : Bool) (old mid new : Pair) (m : IsMirror old)
    → MirrorSyncs {T = S} {E = F} (Ok w) old mid → CopiesNext from next failed mid new → MirrorSyncs {T = T} {E = E} (Ok v) old new
copied_syncs {T = T} {E = E} {S = S} {F = F} v w from next failed old mid new m s (inl none) =
    rw none.2 (ok_syncs {T = T} {E = E} {S = S} {F = F} v w old mid s)
copied_syncs {T = T} {E = E} {S = S} {F = F} v w from next failed old mid new m s (inr x) =
    run_syncs {T = T} {E = E} {S = S} {F = F} v w x.0 x.1 failed old mid new m s (next_set mid.stale from x.0 x.1 x.2) x.4

pub next_counts : (from next : ℕ) (failed : Bool) (mid new : Pair) → CopiesNext from next failed mid new → Counts mid new
next_counts from next failed mid new (inl none) = rw none.2 (λ k le. omega arith)
next_counts from next failed mid new (inr x) = x.4.counts

-- the lower of the disks that are told of a sync and of the copy behind it
pub lowest_blames : (j k : Option ℕ) (old new : Pair) → Blames j old new → Blames k old new → Blames (lowest j k) old new
lowest_blames None None old new b c = tt
lowest_blames (Some j) None old new b c = b
lowest_blames None (Some k) old new b c = c
lowest_blames (Some j) (Some k) old new b c = elim (cases_lt j k) [
  | inl lt ↦ let e : min j k ≡ j = omega (arith, lt) in rw e b
  | inr le ↦ let e : min j k ≡ k = omega (arith, le) in rw e c
]

-- where the follower didn't fail, nothing is newly stale
pub follower_stays : (blamed : Option ℕ) (old new : Pair) → FollowerSyncs blamed old new → blamed ≡ None → StaysWhole old new
follower_stays blamed old new f none = elim (cases_Bool (is_err f.answer)) [
  | inl bad ↦ let e : blamed ≡ Some (1 - old.side) = rw bad at f.told in
      let no : true ≡ false = ap is_some (sym e ∙ none) in cc
  | inr ok ↦ let e : new.stale ≡ (if is_err f.answer then replicate (length old.stale) true else old.stale) = ap (λ (p : Pair). p.stale) f.is in
      (ap (λ (p : Pair). p.side) f.is, rw ok at e)
]

pub stays_then : (failed : Bool) (old mid new : Pair) → SettlesLead failed old mid → StaysWhole mid new → StaysWhole old new
stays_then failed old mid new s w = (w.0 ∙ settled_side failed old mid s, w.1 ∙ settled_stale failed old mid s)
