-- The lowest disk that failed is told: no call failed of those below it.
use Rattle.std.proofs.Common.{◌≡◌, ◌≤◌, ◌<◌, ◌+◌, ◌-◌, ℕ, Bool, true, false, Option, Some, None, IfErr, List, length, replicate, if◌then◌else◌, Result, Ok, Err, is_err, refl, sym, ap, ◌∙◌, subst, inl, inr, arith, eq-eqb, ne_eqb}
use Rattle.std.proofs.lemmas.Bool.{both_ways, cases_Bool, cases_eq}
use Rattle.aoe_disk.specs.State.{DiskState, IsDisk}
use Rattle.aoe_disk.specs.Calls.{IsRun, SyncsTo}
use Rattle.aoe_disk.proofs.Runs.{run_none, run_then}
use Rattle.aoe_mirror.specs.Sides.{IsMirror, Pair, disk_of}
use Rattle.aoe_mirror.specs.Calls.{Answer, Blames, CopiesRun, FollowerSyncs, IsLowest, SettlesLead, StaysLead, TakesLead, Unfailed, WritesCopy, copy_blamed, lowest}

-- CALLS OF A DISK

pub still : (d : DiskState) → IsDisk d → Unfailed d d
still d is = (0, run_none d is)

pub one_call : (failed : Bool) (a b : DiskState) → failed ≡ false → IsRun 1 failed a b → Unfailed a b
one_call failed a b ok run = (1, subst (λ (f : Bool). IsRun 1 f a b) ok run)

unfailed_then : (a b c : DiskState) → Unfailed a b → Unfailed b c → Unfailed a c
unfailed_then a b c x y = (x.0 + y.0, run_then x.0 y.0 false a b c x.1 y.1)

-- DISKS BY THEIR NUMBERS

-- the sides as they were
each_same : (old new : Pair) → new.side ≡ old.side → (k : ℕ) → (k ≡ old.side → Unfailed old.lead new.lead)
    → ((k ≡ old.side → ⊥) → Unfailed old.follower new.follower) → (k ≡ 2 → Unfailed old.mark new.mark) → Unfailed (disk_of old k) (disk_of new k)
each_same old new e k lead follower mark = elim (cases_eq k 2) [
  | inl is ↦ rw (eq-eqb k 2 is) (mark is)
  | inr other ↦ rw (ne_eqb k 2 other) (elim (cases_eq k old.side) [
    | inl leads ↦ rw (eq-eqb k old.side leads, eq-eqb k new.side (leads ∙ sym e)) (lead leads)
    | inr follows ↦ rw (ne_eqb k old.side follows, ne_eqb k new.side (λ q. absurd (follows (q ∙ e)))) (follower follows)
  ])
]

pub all_same : (old new : Pair) → new.side ≡ old.side → Unfailed old.lead new.lead → Unfailed old.follower new.follower → Unfailed old.mark new.mark
    → IsLowest None old new
all_same old new e lead follower mark = λ k lt. each_same old new e k (λ _. lead) (λ _. follower) (λ _. mark)

-- the mark disk failed, and no side
mark_lowest : (old new : Pair) → new.side ≡ old.side → Unfailed old.lead new.lead → Unfailed old.follower new.follower → IsLowest (Some 2) old new
mark_lowest old new e lead follower = λ k lt. each_same old new e k (λ _. lead) (λ _. follower) (λ is. absurd (omega (arith, lt, is)))

-- the follower failed, and not the lead
follower_lowest : (old new : Pair) → old.side ≤ 1 → new.side ≡ old.side → Unfailed old.lead new.lead → IsLowest (Some (1 - old.side)) old new
follower_lowest old new le e lead = λ k lt.
    each_same old new e k (λ _. lead) (λ other. absurd (other (omega (arith, lt, le)))) (λ is. absurd (omega (arith, lt, is)))

-- the lead failed, and not the other side, which follows still
stays_lead : (old new : Pair) → old.side ≤ 1 → new.side ≡ old.side → Unfailed old.follower new.follower → IsLowest (Some old.side) old new
stays_lead old new le e follower = λ k lt.
    each_same old new e k (λ is. absurd (omega (arith, lt, is))) (λ _. follower) (λ is. absurd (omega (arith, lt, le, is)))

-- or leads
gives_way : (old new : Pair) → old.side ≤ 1 → new.side ≡ 1 - old.side → Unfailed old.follower new.lead → IsLowest (Some old.side) old new
gives_way old new le e follower = λ k lt.
    rw (
      ne_eqb k 2 (λ q. absurd (omega (arith, lt, le, q))),
      ne_eqb k old.side (λ q. absurd (omega (arith, lt, q))),
      eq-eqb k new.side (omega (arith, lt, le, e)),
    ) follower

-- A LEAD THAT MAY NOT BE NAMED YET

pub unsettled_lowest : (failed : Bool) (old mid : Pair) → IsMirror old → SettlesLead failed old mid → IsLowest (Some 2) old mid
unsettled_lowest failed old mid m s = subst (IsLowest (Some 2) old) (sym s.is)
    (mark_lowest old (record old { mark = mid.mark; settled = mid.settled }) refl (still old.lead m.lead) (still old.follower m.follower))

pub settled_lowest : (old mid : Pair) → IsMirror old → SettlesLead false old mid → IsLowest None old mid
settled_lowest old mid m s = subst (IsLowest None old) (sym s.is)
    (all_same old (record old { mark = mid.mark; settled = mid.settled }) refl (still old.lead m.lead) (still old.follower m.follower) (s.unfailed refl))

-- TWO CALLS OF A MIRROR

pub lowest_after : (failed : Option ℕ) (old mid new : Pair) → IsLowest None old mid → Blames failed mid new → IsLowest failed mid new → IsLowest failed old new
lowest_after None old mid new x b y = λ k lt. unfailed_then (disk_of old k) (disk_of mid k) (disk_of new k) (x k lt) (y k lt)
lowest_after (Some j) old mid new x b y = λ k lt.
    let few = b.0 in unfailed_then (disk_of old k) (disk_of mid k) (disk_of new k) (x k (omega (arith, few, lt))) (y k lt)

pub lowest_then : (i j : Option ℕ) (old mid new : Pair) → Blames i old mid → IsLowest i old mid → Blames j mid new → IsLowest j mid new
    → IsLowest (lowest i j) old new
lowest_then None j old mid new a x b y = by_second j b y
  where
    by_second : (j : Option ℕ) → Blames j mid new → IsLowest j mid new → IsLowest (lowest None j) old new
    by_second None b y = lowest_after None old mid new x b y
    by_second (Some j) b y = lowest_after (Some j) old mid new x b y
lowest_then (Some i) None old mid new a x b y = λ k lt.
    let few = a.0 in unfailed_then (disk_of old k) (disk_of mid k) (disk_of new k) (x k lt) (y k (omega (arith, few, lt)))
lowest_then (Some i) (Some j) old mid new a x b y = λ k lt.
    let one : k < i = omega (arith, lt) in
    let two : k < j = omega (arith, lt) in
    unfailed_then (disk_of old k) (disk_of mid k) (disk_of new k) (x k one) (y k two)

-- A SYNC OF THE SIDES

same_err : {S : Type 0} (q : Result S ℕ) (k j : ℕ) → is_err q ≡ true → IfErr q (λ i. i ≡ k) → IfErr q (λ i. i ≡ j) → k ≡ j
same_err (Ok v) k j e a b = cc
same_err (Err i) k j e a b = sym a ∙ b

module _ (old : Pair) (m : IsMirror old) (lead : DiskState) (r : Answer) (sync : SyncsTo r old.lead lead) where
  module _ (ok : is_err r ≡ false) (blamed : Option ℕ) (new : Pair) (f : FollowerSyncs blamed (record old { lead = lead }) new) where
    abbrev through : Pair
    through = record old {
      lead = lead;
      follower = f.synced;
      stale = if is_err f.answer then replicate (length old.stale) true else old.stale;
    }

    led : Unfailed old.lead lead
    led = one_call (is_err r) old.lead lead ok sync.call

    through_is : IsLowest blamed old through
    through_is = elim (cases_Bool (is_err f.answer)) [
      | inl bad ↦ let e : blamed ≡ Some (1 - old.side) = rw bad at f.told in rw e (follower_lowest old through m.mark.side refl led)
      | inr fine ↦ let e : blamed ≡ None = rw fine at f.told in
          rw e (all_same old through refl led (one_call (is_err f.answer) old.follower f.synced fine f.sync.call) (still old.mark m.mark.disk))
    ]

    pub through_lowest : IsLowest blamed old new
    through_lowest = subst (IsLowest blamed old) (sym f.is) through_is

  module _ {S : Type 0} (reply : Result S ℕ) (new : Pair) where
    pub stays_lowest : StaysLead reply (record old { lead = lead }) new → IsLowest (Some old.side) old new
    stays_lowest s = subst (IsLowest (Some old.side) old) (sym s.is)
        (stays_lead old (record old { lead = lead }) m.mark.side refl (still old.follower m.follower))

    module _ (t : TakesLead reply (record old { lead = lead }) new) where
      mid_side : t.mid.side ≡ 1 - old.side
      mid_side = ap (λ (p : Pair). p.side) t.settles.is

      mid_lead : t.mid.lead ≡ old.follower
      mid_lead = ap (λ (p : Pair). p.lead) t.settles.is

      -- the other side leads, and was synced
      pub leads_lowest : is_err reply ≡ false → IsLowest (Some old.side) old new
      leads_lowest ok = elim t.rest [
        | inl halt ↦ absurd (both_ways (is_err reply) ok halt.2)
        | inr goes ↦ let x = goes.1 in
            subst (IsLowest (Some old.side) old) (sym x.is)
            (gives_way old (record t.mid { lead = x.synced; stale = replicate (length t.mid.stale) true }) m.mark.side mid_side
            (one_call (is_err x.answer) old.follower x.synced (sym x.told ∙ ok)
            (subst (λ (d : DiskState). IsRun 1 (is_err x.answer) d x.synced) mid_lead x.sync.call)))
      ]

      -- it leads, and failed too; or the mark disk couldn't be made to say so
      pub fails_lowest : (k : ℕ) → is_err reply ≡ true → IfErr reply (λ j. j ≡ k) → IsLowest (Some k) old new
      fails_lowest k bad is = elim t.rest [
        | inl halt ↦ let e : k ≡ old.side = same_err reply k old.side bad is halt.3 in
            rw e (subst (IsLowest (Some old.side) old) (sym halt.1)
            (gives_way old t.mid m.mark.side mid_side (subst (Unfailed old.follower) (sym mid_lead) (still old.follower m.follower))))
        | inr goes ↦ let e : k ≡ 0 = same_err reply k 0 bad is goes.1.blamed in λ i lt. absurd (omega (arith, lt, e))
      ]

-- A COPY OF A RUN

module _ {T : Type 0} (old : Pair) (m : IsMirror old) (at n : ℕ) (new : Pair) where
  module _ (piece : List ℕ) (looked : DiskState) (led : Unfailed old.lead looked) where
    copy_done : (v : T) → WritesCopy at piece (let r : Result T ℕ = Ok v in r) (record old { lead = looked }) new → IsLowest None old new
    copy_done v w = elim w.rest [
      | inl bad ↦ absurd (let no : false ≡ true = bad.1 in cc)
      | inr x ↦ subst (IsLowest None old) (sym x.4)
          (all_same old (record old { lead = looked; follower = new.follower }) refl led
          (unfailed_then old.follower w.written new.follower (one_call (is_err w.answer) old.follower w.written x.0 w.write.call)
          (one_call (is_err x.1) w.written new.follower (sym x.2) x.3.call)) (still old.mark m.mark.disk))
    ]

    copy_failed : (k : ℕ) → WritesCopy at piece (let r : Result T ℕ = Err k in r) (record old { lead = looked }) new → IsLowest (Some k) old new
    copy_failed k w = let e : k ≡ 1 - old.side = w.blamed in
        rw e (elim w.rest [
          | inl bad ↦ subst (IsLowest (Some (1 - old.side)) old) (sym bad.2)
              (follower_lowest old (record old { lead = looked; follower = w.written }) m.mark.side refl led)
          | inr x ↦ subst (IsLowest (Some (1 - old.side)) old) (sym x.4)
              (follower_lowest old (record old { lead = looked; follower = new.follower }) m.mark.side refl led)
        ])

  pub copied_lowest : (result : Result T ℕ) → CopiesRun at n result old new → IsLowest (copy_blamed result) old new
  copied_lowest (Ok v) c = elim c.rest [
    | inl bad ↦ absurd (let no : false ≡ true = bad.1 in cc)
    | inr x ↦ copy_done c.piece c.looked (one_call (is_err c.answer) old.lead c.looked x.0 c.read.call) v x.1
  ]
  copied_lowest (Err k) c = elim c.rest [
    | inl bad ↦ let e : k ≡ old.side = bad.2 in
        rw e (subst (IsLowest (Some old.side) old) (sym bad.3)
        (stays_lead old (record old { lead = c.looked }) m.mark.side refl (still old.follower m.follower)))
    | inr x ↦ copy_failed c.piece c.looked (one_call (is_err c.answer) old.lead c.looked x.0 c.read.call) k x.1
  ]
