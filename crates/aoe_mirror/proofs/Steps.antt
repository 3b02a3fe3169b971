-- A mirror as a store, and whose faults are whose.
use Rattle.std.proofs.Common.{◌≡◌, ◌≤◌, ◌<◌, ◌+◌, ◌-◌, ℕ, Bool, true, false, Option, Some, None, IfSome, is_some, option_map, List, Result, is_err, refl, sym, ap, ◌∙◌, subst, inl, inr, arith, eq-eqb, ne_eqb}
use Rattle.std.proofs.lemmas.Bool.{OnTrue_from, cases_eq}
use Rattle.aoe_base.specs.Faults.{Rose}
use Rattle.aoe_disk.specs.State.{Contents, HasShape, IsDisk, BothTell}
use Rattle.aoe_disk.specs.Calls.{IsRun, Syncs, SyncsTo}
use Rattle.aoe_store.specs.Store.{Stores, StoresTo}
use Rattle.aoe_mirror.specs.Sides.{Agree, IsMark, IsMirror, Pair, both, seen, shown, side_of, turned}
use Rattle.aoe_mirror.specs.Calls.{Counts, FollowerFailed, LeadFailed, NewFollowerFailed, SettlesLead}
use Rattle.aoe_mirror.proofs.Told.{and_if, both_swap, both_if, if_mono, map_if, told_tells}
use Rattle.aoe_mirror.proofs.Whole.{Fit, agree_swapped, seen_shape, seen_swapped}
use Rattle.aoe_mirror.specs.Marks.{count_of}
use Rattle.aoe_mirror.proofs.Bits.{count_none}

-- WHAT HOLDS OF THE TWO SIDES

pub fit_of : (p : Pair) → IsMirror p → IfSome (both p.lead.contents p.follower.contents) (Fit p.lead.sectors p.stale)
fit_of p m =
    let follower : IfSome p.follower.contents (HasShape p.lead.sectors) = rw m.size at m.follower.shape in
    if_mono (λ sides. HasShape p.lead.sectors sides.0 × HasShape p.lead.sectors sides.1) (Fit p.lead.sectors p.stale) (both p.lead.contents p.follower.contents)
    (both_if (HasShape p.lead.sectors) (HasShape p.lead.sectors) p.lead.contents p.follower.contents m.lead.shape follower)
    (λ sides h. record { lead = h.0; follower = h.1; marks = m.marks })

abbrev pub Holds : Pair → Contents × Contents → Type 0
Holds p sides = Fit p.lead.sectors p.stale sides × Agree p.settled p.stale sides

pub holds_of : (p : Pair) → IsMirror p → IfSome (both p.lead.contents p.follower.contents) (Holds p)
holds_of p m = and_if (Fit p.lead.sectors p.stale) (Agree p.settled p.stale) (both p.lead.contents p.follower.contents) (fit_of p m) m.agree

pub shown_disk : (p : Pair) → IsMirror p → IsDisk (shown p)
shown_disk p m = record {
  bound = m.lead.bound;
  shape = map_if (Fit p.lead.sectors p.stale) (HasShape p.lead.sectors) (seen p.stale) (both p.lead.contents p.follower.contents) (fit_of p m)
      (seen_shape p.lead.sectors p.stale);
  schedule = tt;
}

-- FAULTS

-- one count of a sum rose
pub rose_part : (x x' s s' : ℕ) → Rose x x' → x ≤ s → s + x' ≤ s' + x → Rose s s'
rose_part x x' s s' rose le more = λ low. let h : x < x' = rose (omega arith) in omega arith

-- the sides as they were
pub lead_same : (old new : Pair) → new.side ≡ old.side → Rose old.lead.faults new.lead.faults → LeadFailed old new
lead_same old new e rose = rw (eq-eqb old.side new.side (sym e)) rose

pub follower_same : (old new : Pair) → old.side ≤ 1 → new.side ≡ old.side → Rose old.follower.faults new.follower.faults → FollowerFailed old new
follower_same old new le e rose = rw (ne_eqb (1 - old.side) new.side (λ q. absurd (omega arith))) rose

-- the sides in the other order
pub lead_moved : (old new : Pair) → old.side ≤ 1 → new.side ≡ 1 - old.side → Rose old.lead.faults new.follower.faults → LeadFailed old new
lead_moved old new le e rose = rw (ne_eqb old.side new.side (λ q. absurd (omega arith))) rose

pub follower_moved : (old new : Pair) → new.side ≡ 1 - old.side → Rose old.follower.faults new.lead.faults → FollowerFailed old new
follower_moved old new e rose = rw (eq-eqb (1 - old.side) new.side (sym e)) rose

-- the side that follows from then on
pub newly_same : (old new : Pair) → old.side ≤ 1 → new.side ≡ old.side → Rose old.follower.faults new.follower.faults → NewFollowerFailed old new
newly_same old new le e rose = rw (ne_eqb (1 - new.side) old.side (λ q. absurd (omega arith))) rose

pub newly_moved : (old new : Pair) → old.side ≤ 1 → new.side ≡ 1 - old.side → Rose old.lead.faults new.follower.faults → NewFollowerFailed old new
newly_moved old new le e rose = rw (eq-eqb (1 - new.side) old.side (omega arith)) rose

-- A MIRROR AS A STORE

module _ (old new : Pair) (mold : IsMirror old) (mnew : IsMirror new) (sectors : new.lead.sectors ≡ old.lead.sectors)
    (later : (shown old).faults ≤ (shown new).faults) where
  pub run_shown : (failed : Bool) → is_some (shown new).contents ≡ is_some (shown old).contents → (failed ≡ true → Rose (shown old).faults (shown new).faults)
      → IsRun 1 failed (shown old) (shown new)
  run_shown failed tells cause = record {
    before = shown_disk old mold;
    after = shown_disk new mnew;
    sectors = sectors;
    tells = tells;
    later = later;
    cause = OnTrue_from failed _ cause;
    schedule = tt;
  }

  pub stored : {T E : Type 0} (at : ℕ) (piece : List ℕ) (result : Result T E) → BothTell (Stores at piece result) (shown old).contents (shown new).contents
      → (is_err result ≡ true → Rose (shown old).faults (shown new).faults) → StoresTo at piece result (shown old) (shown new)
  stored at piece result told cause =
      record {
        call = run_shown (is_err result) (told_tells (Stores at piece result) (shown old).contents (shown new).contents told) cause;
        contents = told;
        log = refl;
      }

  pub synced : {T E : Type 0} (result : Result T E) → BothTell (Syncs result) (shown old).contents (shown new).contents
      → (is_err result ≡ true → Rose (shown old).faults (shown new).faults) → SyncsTo result (shown old) (shown new)
  synced result told cause = record {
    call = run_shown (is_err result) (told_tells (Syncs result) (shown old).contents (shown new).contents told) cause;
    contents = told;
    log = refl;
  }

-- SETTLING

pub settled_mirror : (failed : Bool) (old new : Pair) → IsMirror old → SettlesLead failed old new → IsMirror new
settled_mirror failed old new m s =
    subst IsMirror (sym s.is) (record {
      lead = m.lead;
      follower = m.follower;
      size = m.size;
      mark = subst IsMark s.is s.named;
      marks = m.marks;
      agree = if_mono (Agree old.settled old.stale) (Agree new.settled old.stale) (both old.lead.contents old.follower.contents) m.agree
          (λ sides a. record { same = a.same; unsettled = λ off. a.unsettled (s.was off) });
    })

-- what settling leaves of what is seen
pub settled_shown : (failed : Bool) (old new : Pair) → SettlesLead failed old new → (shown new).contents ≡ (shown old).contents
settled_shown failed old new s = ap (λ (p : Pair). (shown p).contents) s.is

pub settled_faults : (failed : Bool) (old new : Pair) → SettlesLead failed old new
    → (shown new).faults ≡ old.lead.faults + old.follower.faults + new.mark.faults
settled_faults failed old new s = ap (λ (p : Pair). (shown p).faults) s.is

pub settled_sectors : (failed : Bool) (old new : Pair) → SettlesLead failed old new → new.lead.sectors ≡ old.lead.sectors
settled_sectors failed old new s = ap (λ (p : Pair). p.lead.sectors) s.is

pub settled_side : (failed : Bool) (old new : Pair) → SettlesLead failed old new → new.side ≡ old.side
settled_side failed old new s = ap (λ (p : Pair). p.side) s.is

pub settled_stale : (failed : Bool) (old new : Pair) → SettlesLead failed old new → new.stale ≡ old.stale
settled_stale failed old new s = ap (λ (p : Pair). p.stale) s.is

-- EITHER SIDE CAN LEAD WHERE NOTHING IS STALE

map_turned : {A B : Type 0} (H : A → Type 0) (g : A → B) (f : A → A) (x : Option A) → IfSome x H → ((a : A) → H a → g (f a) ≡ g a)
    → option_map g (option_map f x) ≡ option_map g x
map_turned H g f None h same = refl
map_turned H g f (Some a) h same = ap Some (same a h)

pub turned_mirror : (p : Pair) → IsMirror p → count_of p.stale ≡ 0 → IsMirror (turned p)
turned_mirror p m whole = record {
  lead = m.follower;
  follower = m.lead;
  size = sym m.size;
  mark = record { disk = m.mark.disk; room = m.mark.room; side = omega arith; named = λ e. cc };
  marks = m.marks ∙ sym m.size;
  agree = rw (both_swap p.lead.contents p.follower.contents)
      (map_if (Holds p) (Agree false p.stale) (λ (s : Contents × Contents). (s.1, s.0)) (both p.lead.contents p.follower.contents) (holds_of p m)
      (λ sides h. agree_swapped p.lead.sectors p.stale sides h.0 (λ s. count_none p.stale s whole) p.settled false h.1));
}

pub turned_shown : (p : Pair) → IsMirror p → count_of p.stale ≡ 0 → (shown (turned p)).contents ≡ (shown p).contents
turned_shown p m whole = rw (both_swap p.lead.contents p.follower.contents)
    (map_turned (Holds p) (seen p.stale) (λ (s : Contents × Contents). (s.1, s.0)) (both p.lead.contents p.follower.contents) (holds_of p m)
    (λ sides h. seen_swapped p.lead.sectors p.stale sides h.0 (λ s. count_none p.stale s whole) p.settled h.1))

pub shown_if : (p : Pair) → IsMirror p → IfSome (shown p).contents (λ (c : Contents). HasShape p.lead.sectors c × (c.settled ≡ None))
shown_if p m = map_if (Fit p.lead.sectors p.stale) (λ (c : Contents). HasShape p.lead.sectors c × (c.settled ≡ None)) (seen p.stale)
    (both p.lead.contents p.follower.contents) (fit_of p m) (λ sides f. (seen_shape p.lead.sectors p.stale sides f, refl))

-- NO COUNT FALLS

pub counts_same : (old new : Pair) → new.side ≡ old.side → old.lead.faults ≤ new.lead.faults → old.follower.faults ≤ new.follower.faults
    → old.mark.faults ≤ new.mark.faults → Counts old new
counts_same old new e lead follower mark = λ k le. elim (cases_eq k 2) [
  | inl is ↦ rw (eq-eqb k 2 is) mark
  | inr other ↦ rw (ne_eqb k 2 other) (elim (cases_eq k old.side) [
    | inl leads ↦ rw (eq-eqb k old.side leads, eq-eqb k new.side (leads ∙ sym e)) lead
    | inr follows ↦ rw (ne_eqb k old.side follows, ne_eqb k new.side (λ q. absurd (follows (q ∙ e)))) follower
  ])
]

pub counts_moved : (old new : Pair) → old.side ≤ 1 → new.side ≡ 1 - old.side → old.lead.faults ≤ new.follower.faults → old.follower.faults ≤ new.lead.faults
    → old.mark.faults ≤ new.mark.faults → Counts old new
counts_moved old new one e lead follower mark = λ k le. elim (cases_eq k 2) [
  | inl is ↦ rw (eq-eqb k 2 is) mark
  | inr other ↦ rw (ne_eqb k 2 other) (elim (cases_eq k old.side) [
    | inl leads ↦ rw (eq-eqb k old.side leads, ne_eqb k new.side (λ q. absurd (omega arith))) lead
    | inr follows ↦ rw (ne_eqb k old.side follows, eq-eqb k new.side (omega arith)) follower
  ])
]

pub counts_then : (a b c : Pair) → Counts a b → Counts b c → Counts a c
counts_then a b c t u = λ k le. let x = t k le in let y = u k le in omega arith

pub settled_counts : (failed : Bool) (old new : Pair) → SettlesLead failed old new → Counts old new
settled_counts failed old new s = counts_same old new (settled_side failed old new s)
    (let e : new.lead.faults ≡ old.lead.faults = ap (λ (p : Pair). p.lead.faults) s.is in omega arith)
    (let e : new.follower.faults ≡ old.follower.faults = ap (λ (p : Pair). p.follower.faults) s.is in omega arith) s.mark.later

-- what failed before failed after
pub lead_later : (old mid new : Pair) → old.side ≤ 1 → Counts mid new → LeadFailed old mid → LeadFailed old new
lead_later old mid new le counts failed = λ low.
    let more : old.lead.faults < (side_of mid old.side).faults = failed low in
    let h : (side_of mid old.side).faults ≤ (side_of new old.side).faults =
    rw (ne_eqb old.side 2 (λ e. absurd (omega arith))) at (counts old.side (omega arith)) in
    omega arith

pub follower_later : (old mid new : Pair) → old.side ≤ 1 → Counts mid new → FollowerFailed old mid → FollowerFailed old new
follower_later old mid new le counts failed = λ low.
    let more : old.follower.faults < (side_of mid (1 - old.side)).faults = failed low in
    let h : (side_of mid (1 - old.side)).faults ≤ (side_of new (1 - old.side)).faults =
    rw (ne_eqb (1 - old.side) 2 (λ e. absurd (omega arith))) at (counts (1 - old.side) (omega arith)) in
    omega arith

pub newly_later : (old mid new : Pair) → mid.side ≤ 1 → new.side ≡ mid.side → Counts mid new → NewFollowerFailed old mid → NewFollowerFailed old new
newly_later old mid new le same counts failed =
    let h : mid.follower.faults ≤ new.follower.faults =
    rw (
      ne_eqb (1 - mid.side) 2 (λ e. absurd (omega arith)),
      ne_eqb (1 - mid.side) mid.side (λ e. absurd (omega arith)),
      same,
      ne_eqb (1 - mid.side) mid.side (λ e. absurd (omega arith)),
    ) at (counts (1 - mid.side) (omega arith)) in
    rw same (λ low. let more : (side_of old (1 - mid.side)).faults < mid.follower.faults = failed low in omega arith)
