-- A comparison of two sides, by its status.
use Rattle.std.proofs.Common.{◌≡◌, ◌≢◌, ◌≤◌, ◌<◌, ◌⊎◌, ℕ, zero, suc, Bool, true, false, List, Option, Some, None, IfSome, Result, Ok, Err, length, refl, sym, ap, subst, ◌∙◌, inl, inr, arith, eq-eqb, ne_eqb}
use Rattle.std.proofs.lemmas.Bool.{OnTrue_at, cases_Bool, cases_eq}
use Rattle.std.specs.Prelude.{◌↔◌, All, IfErr, IsSome}
use Rattle.aoe_base.specs.Faults.{Rose}
use Rattle.aoe_disk.specs.State.{Contents, DiskState}
use Rattle.aoe_mirror.specs.Mirror.{ReadsMark}
use Rattle.aoe_mirror.specs.Sides.{both}
use Rattle.aoe_upkeep.specs.Comparing.{AreEqual, Refuses, Reports, count_of, differs, is_refused}
use Rattle.aoe_upkeep.specs.declared.stop.CompareStop.{CompareStop}
use Rattle.aoe_upkeep.specs.declared.stop.CompareStop.TheVariants as stop
use Rattle.aoe.specs.Comparing.{DifferIn, DifferNowhere, IsUncompared, RunsCompare, SameSectors, compared_as, count_at, differ_or_ok, is_compare_status, seen, three_of}
use Rattle.aoe.specs.Mirror.{HasSides}
use Rattle.aoe.specs.declared.compare.Compared.{Compared}
use Rattle.aoe.specs.declared.status.Status.{Status}
use Rattle.aoe.specs.declared.status.Status.TheVariants as status

-- What a status tells of how it ended.

-- so many sectors differ
abbrev Differing : ℕ → Type 0
Differing sectors = ((sectors ≡ 0) × (differ_or_ok sectors ≡ status.Ok)) ⊎ ((sectors ≢ 0) × (differ_or_ok sectors ≡ status.Differ sectors))

differing : (sectors : ℕ) → Differing sectors
differing sectors = elim (cases_eq sectors 0) [
  | inl none ↦ inl (none, rw (eq-eqb sectors 0 none) refl)
  | inr some ↦ inr (some, rw (ne_eqb sectors 0 some) refl)
]

-- that is told as no other status
ended-other : (sectors : ℕ) (s : Status) → s ≢ status.Ok → ((n : ℕ) → s ≢ status.Differ n) → differ_or_ok sectors ≢ s
ended-other sectors s ok differ e = elim (differing sectors) [
  | inl none ↦ ok (sym e ∙ none.1)
  | inr some ↦ differ sectors (sym e ∙ some.1)
]

ended-well : (sectors : ℕ) → differ_or_ok sectors ≡ status.Ok → sectors ≡ 0
ended-well sectors e = elim (differing sectors) [
  | inl none ↦ none.0
  | inr some ↦ let no : status.Differ sectors ≡ status.Ok = sym some.1 ∙ e in absurd cc
]

ended-differ : (sectors n : ℕ) → differ_or_ok sectors ≡ status.Differ n → (sectors ≡ n) × (0 < n)
ended-differ sectors n e = elim (differing sectors) [
  | inl none ↦ let no : status.Ok ≡ status.Differ n = sym none.1 ∙ e in absurd cc
  | inr some ↦
      let is : status.Differ sectors ≡ status.Differ n = sym some.1 ∙ e in
      let same : sectors ≡ n = cc in
      let more = some.0 in
      (same, omega (arith, same, more))
]

pub compare-status : (r : Result ℕ CompareStop) → is_compare_status (compared_as r) ≡ true
compare-status (Ok sectors) = elim (differing sectors) [
  | inl none ↦ rw none.1 refl
  | inr some ↦ rw some.1 refl
]
compare-status (Err (stop.Unequal first second)) = refl
compare-status (Err stop.NoMark) = refl
compare-status (Err stop.NotMark) = refl
compare-status (Err stop.MarkFailed) = refl
compare-status (Err stop.FirstFailed) = refl
compare-status (Err stop.SecondFailed) = refl
compare-status (Err stop.SinkFault) = refl
compare-status (Err stop.NoMemory) = refl

told-sink : (r : Result ℕ CompareStop) → compared_as r ≡ status.SinkFault → r ≡ Err stop.SinkFault
told-sink (Ok sectors) e = absurd (ended-other sectors status.SinkFault (λ x. cc) (λ n x. cc) e)
told-sink (Err (stop.Unequal first second)) e = absurd cc
told-sink (Err stop.NoMark) e = absurd cc
told-sink (Err stop.NotMark) e = absurd cc
told-sink (Err stop.MarkFailed) e = absurd cc
told-sink (Err stop.FirstFailed) e = absurd cc
told-sink (Err stop.SecondFailed) e = absurd cc
told-sink (Err stop.SinkFault) e = refl
told-sink (Err stop.NoMemory) e = absurd cc

pub compared-sink : (s : Status) (r : Result ℕ CompareStop) → s ≡ compared_as r → (s ≡ status.SinkFault) ↔ (r ≡ Err stop.SinkFault)
compared-sink s r is = (λ told. told-sink r (sym is ∙ told), λ e. is ∙ ap compared_as e)

-- where there was no memory nothing was written
pub compared-memory : {P : Type 0} (r : Result ℕ CompareStop) → (is_refused r ≡ true → P) → compared_as r ≡ status.NoMemory → P
compared-memory (Ok sectors) p e = absurd (ended-other sectors status.NoMemory (λ x. cc) (λ n x. cc) e)
compared-memory (Err (stop.Unequal first second)) p e = absurd cc
compared-memory (Err stop.NoMark) p e = absurd cc
compared-memory (Err stop.NotMark) p e = absurd cc
compared-memory (Err stop.MarkFailed) p e = absurd cc
compared-memory (Err stop.FirstFailed) p e = absurd cc
compared-memory (Err stop.SecondFailed) p e = absurd cc
compared-memory (Err stop.SinkFault) p e = absurd cc
compared-memory (Err stop.NoMemory) p e = p refl

-- The three disks.

pub all-three : {D : Type 0} (d : Compared D) → All IsSome (three_of d)
all-three d zero x below = refl
all-three d (suc zero) x below = refl
all-three d (suc (suc zero)) x below = refl
all-three d (suc (suc (suc k))) x below = absurd (omega (arith, below))

-- Where no sector differs.

count-none : (unlike : ℕ → Bool) (n : ℕ) → count_of unlike n ≡ 0 → AreEqual unlike 0 n
unfolding count_of
count-none unlike zero e s above below = absurd (omega (arith, below))
count-none unlike (suc n) e s above below = elim (cases_Bool (unlike n)) [
  | inl unlike_last ↦ absurd (let more : suc (count_of unlike n) ≡ 0 = rw unlike_last at e in cc)
  | inr like_last ↦
      let less : count_of unlike n ≡ 0 = rw like_last at e in
      elim (cases_eq s n) [
        | inl last ↦ subst (λ (k : ℕ). unlike k ≡ false) (sym last) like_last
        | inr before ↦ count-none unlike n less s above (omega (arith, below, before))
      ]
]

-- What a comparison leaves.

module _ {D : Type 0} (state : D → DiskState) (given back : Compared D) (held held' : Option (List ℕ)) where
  abbrev pub Law : Result ℕ CompareStop → Type 0
  Law r = (is_refused r ≡ false → Reports r (state given.mark) (state back.mark) (seen state given held) (seen state back held'))
      × IfErr r (λ why. is_refused r ≡ true → IsUncompared state why given back held held')

  stays : (why : CompareStop) → IsUncompared state why given back held held' → SameSectors state given back
  stays why u = record { one = ap (λ d. (state d).contents) u.one; two = ap (λ d. (state d).contents) u.two }

  same : (r : Result ℕ CompareStop) → Law r → SameSectors state given back
  same (Ok sectors) law = let t = (law.0 refl).tells in record { one = t.one.same; two = t.two.same }
  same (Err stop.FirstFailed) law = let t = (law.0 refl).tells in record { one = t.one.same; two = t.two.same }
  same (Err stop.SecondFailed) law = let t = (law.0 refl).tells in record { one = t.one.same; two = t.two.same }
  same (Err stop.SinkFault) law = let t = (law.0 refl).tells in record { one = t.one.same; two = t.two.same }
  same (Err (stop.Unequal first second)) law = stays _ (law.1 refl)
  same (Err stop.NoMark) law = stays _ (law.1 refl)
  same (Err stop.NotMark) law = stays _ (law.1 refl)
  same (Err stop.MarkFailed) law = stays _ (law.1 refl)
  same (Err stop.NoMemory) law = stays _ (law.1 refl)

  counted : (sides : Option (Contents × Contents)) (sectors n : ℕ) (P : Contents × Contents → Type 0)
      → IfSome sides (λ (x : Contents × Contents). P x × (sectors ≡ count_of (differs x) n)) → IfSome sides (λ (x : Contents × Contents). sectors ≡ count_of (differs x) n)
  counted None sectors n P are = tt
  counted (Some x) sectors n P are = are.1

  nowhere : (sides : Option (Contents × Contents)) (sectors n : ℕ) → sectors ≡ 0
      → IfSome sides (λ (x : Contents × Contents). sectors ≡ count_of (differs x) n) → IfSome sides (λ (x : Contents × Contents). AreEqual (differs x) 0 n)
  nowhere None sectors n none are = tt
  nowhere (Some x) sectors n none are = count-none (differs x) n (sym are ∙ none)

  differ-in : (sectors : ℕ) → Law (Ok sectors) → DifferIn state given sectors
  differ-in sectors law =
      let t = (law.0 refl).tells in
      counted (both (state given.one).contents (state given.two).contents) sectors (state given.one).sectors _ t.is.exact

  equal : (r : Result ℕ CompareStop) → Law r → compared_as r ≡ status.Ok → DifferNowhere state given
  equal (Ok sectors) law e =
      nowhere (both (state given.one).contents (state given.two).contents) sectors (state given.one).sectors (ended-well sectors e) (differ-in sectors law)
  equal (Err (stop.Unequal first second)) law e = absurd cc
  equal (Err stop.NoMark) law e = absurd cc
  equal (Err stop.NotMark) law e = absurd cc
  equal (Err stop.MarkFailed) law e = absurd cc
  equal (Err stop.FirstFailed) law e = absurd cc
  equal (Err stop.SecondFailed) law e = absurd cc
  equal (Err stop.SinkFault) law e = absurd cc
  equal (Err stop.NoMemory) law e = absurd cc

  differ : (r : Result ℕ CompareStop) → Law r → (n : ℕ) → compared_as r ≡ status.Differ n → (0 < n) × DifferIn state given n
  differ (Ok sectors) law n e = let d = ended-differ sectors n e in (d.1, subst (λ (k : ℕ). DifferIn state given k) d.0 (differ-in sectors law))
  differ (Err (stop.Unequal first second)) law n e = absurd cc
  differ (Err stop.NoMark) law n e = absurd cc
  differ (Err stop.NotMark) law n e = absurd cc
  differ (Err stop.MarkFailed) law n e = absurd cc
  differ (Err stop.FirstFailed) law n e = absurd cc
  differ (Err stop.SecondFailed) law n e = absurd cc
  differ (Err stop.SinkFault) law n e = absurd cc
  differ (Err stop.NoMemory) law n e = absurd cc

  not-sides : (r : Result ℕ CompareStop) (first second : ℕ) → compared_as r ≢ status.MirrorSides first second
      → (state given.two).sectors ≡ (state given.one).sectors
      → (compared_as r ≡ status.MirrorSides first second) ↔ HasSides (state given.one) (state given.two) first second
  not-sides r first second untold size = (λ told. absurd (untold told), λ is. absurd (is.2 (is.0 ∙ sym size ∙ sym is.1)))

  unequal : (r : Result ℕ CompareStop) → Law r → (first second : ℕ)
      → (compared_as r ≡ status.MirrorSides first second) ↔ HasSides (state given.one) (state given.two) first second
  unequal (Ok sectors) law first second = not-sides (Ok sectors) first second (ended-other sectors _ (λ x. cc) (λ n x. cc)) (law.0 refl).finds.size
  unequal (Err stop.FirstFailed) law first second = not-sides (Err stop.FirstFailed) first second (λ x. cc) (law.0 refl).finds.size
  unequal (Err stop.SecondFailed) law first second = not-sides (Err stop.SecondFailed) first second (λ x. cc) (law.0 refl).finds.size
  unequal (Err stop.SinkFault) law first second = not-sides (Err stop.SinkFault) first second (λ x. cc) (law.0 refl).finds.size
  unequal (Err (stop.Unequal one two)) law first second =
      let u = (law.1 refl).refuses in (
        λ told.
            let same : one ≡ first = cc in
            let same' : two ≡ second = cc in
            (sym same ∙ u.0, sym same' ∙ u.1, λ e. u.2 (same ∙ e ∙ sym same')),
        λ is. rw (u.0, u.1, is.0, is.1) refl,
      )
  unequal (Err stop.NoMark) law first second = not-sides (Err stop.NoMark) first second (λ x. cc) (law.1 refl).refuses.0
  unequal (Err stop.NotMark) law first second = not-sides (Err stop.NotMark) first second (λ x. cc) (law.1 refl).refuses.size
  unequal (Err stop.MarkFailed) law first second = not-sides (Err stop.MarkFailed) first second (λ x. cc) (law.1 refl).refuses.0
  unequal (Err stop.NoMemory) law first second = not-sides (Err stop.NoMemory) first second (λ x. cc) (law.1 refl).refuses.1.size

  abbrev Unmarked : Type 0
  Unmarked = ((state given.two).sectors ≡ (state given.one).sectors) × ((state given.mark).sectors ≡ 0)

  not-unmarked : (r : Result ℕ CompareStop) → compared_as r ≢ status.MirrorMark → 0 < (state given.mark).sectors → (compared_as r ≡ status.MirrorMark) ↔ Unmarked
  not-unmarked r untold room = (λ told. absurd (untold told), λ is. absurd (omega (arith, room, is.1)))

  unmarked : (r : Result ℕ CompareStop) → Law r → (compared_as r ≡ status.MirrorMark) ↔ Unmarked
  unmarked (Ok sectors) law = not-unmarked (Ok sectors) (ended-other sectors _ (λ x. cc) (λ n x. cc)) (law.0 refl).finds.room
  unmarked (Err stop.FirstFailed) law = not-unmarked (Err stop.FirstFailed) (λ x. cc) (law.0 refl).finds.room
  unmarked (Err stop.SecondFailed) law = not-unmarked (Err stop.SecondFailed) (λ x. cc) (law.0 refl).finds.room
  unmarked (Err stop.SinkFault) law = not-unmarked (Err stop.SinkFault) (λ x. cc) (law.0 refl).finds.room
  unmarked (Err (stop.Unequal one two)) law =
      let u = (law.1 refl).refuses in
      (λ told. absurd cc, λ is. absurd (u.2 (u.0 ∙ sym is.0 ∙ sym u.1)))
  unmarked (Err stop.NoMark) law = let u = (law.1 refl).refuses in (λ told. (u.0, u.1), λ is. refl)
  unmarked (Err stop.NotMark) law = not-unmarked (Err stop.NotMark) (λ x. cc) (law.1 refl).refuses.room
  unmarked (Err stop.MarkFailed) law = not-unmarked (Err stop.MarkFailed) (λ x. cc) (law.1 refl).refuses.1
  unmarked (Err stop.NoMemory) law = not-unmarked (Err stop.NoMemory) (λ x. cc) (law.1 refl).refuses.1.room

  other : (r : Result ℕ CompareStop) → Law r → compared_as r ≡ status.NotMark → ReadsMark None (state given.mark) (state back.mark)
  other (Ok sectors) law e = absurd (ended-other sectors status.NotMark (λ x. cc) (λ n x. cc) e)
  other (Err (stop.Unequal first second)) law e = absurd cc
  other (Err stop.NoMark) law e = absurd cc
  other (Err stop.NotMark) law e = (law.1 refl).refuses.reads
  other (Err stop.MarkFailed) law e = absurd cc
  other (Err stop.FirstFailed) law e = absurd cc
  other (Err stop.SecondFailed) law e = absurd cc
  other (Err stop.SinkFault) law e = absurd cc
  other (Err stop.NoMemory) law e = absurd cc

  abbrev Failed : ℕ → Type 0
  Failed disk = (disk ≤ 2) × Rose (count_at state given disk) (count_at state back disk)

  blames : (r : Result ℕ CompareStop) → Law r → (disk : ℕ) → compared_as r ≡ status.DiskFault disk → Failed disk
  blames (Ok sectors) law disk e = absurd (ended-other sectors (status.DiskFault disk) (λ x. cc) (λ n x. cc) e)
  blames (Err (stop.Unequal first second)) law disk e = absurd cc
  blames (Err stop.NoMark) law disk e = absurd cc
  blames (Err stop.NotMark) law disk e = absurd cc
  blames (Err stop.FirstFailed) law disk e =
      let is : 0 ≡ disk = cc in
      subst (λ (k : ℕ). Failed k) is (omega arith, OnTrue_at refl (law.0 refl).tells.one.run.cause)
  blames (Err stop.SecondFailed) law disk e =
      let is : 1 ≡ disk = cc in
      subst (λ (k : ℕ). Failed k) is (omega arith, OnTrue_at refl (law.0 refl).tells.two.run.cause)
  blames (Err stop.MarkFailed) law disk e =
      let is : 2 ≡ disk = cc in
      subst (λ (k : ℕ). Failed k) is (omega arith, OnTrue_at refl (law.1 refl).refuses.2.cause)
  blames (Err stop.SinkFault) law disk e = absurd cc
  blames (Err stop.NoMemory) law disk e = absurd cc

  pub runs-compare : (s : Status) (disks disks' : List (Option D)) (r : Result ℕ CompareStop) → s ≡ compared_as r → disks ≡ three_of given
      → disks' ≡ three_of back → Law r → RunsCompare state s held held' disks disks'
  runs-compare s disks disks' r is were are law = rw is (record {
    given = given;
    back = back;
    were = were;
    are = are;
    ended = r;
    ends = refl;
    reports = law.0;
    refuses = law.1;
    same = same r law;
    equal = equal r law;
    differ = differ r law;
    unequal = unequal r law;
    unmarked = unmarked r law;
    other = other r law;
    blames = blames r law;
  })

-- how a comparison that wasn't begun leaves disks and sink
pub uncompared : {D : Type 0} (state : D → DiskState) (given back : Compared D) (held held' : Option (List ℕ)) (r : Result ℕ CompareStop)
    → IfErr r (λ why. is_refused r ≡ true → Refuses why (state given.one) (state given.two) (state given.mark) (state back.mark))
    → (is_refused r ≡ true → (back.one ≡ given.one) × (back.two ≡ given.two)) → (is_refused r ≡ true → held' ≡ held)
    → IfErr r (λ why. is_refused r ≡ true → IsUncompared state why given back held held')
uncompared state given back held held' (Ok sectors) refuses unread unwritten = tt
uncompared state given back held held' (Err why) refuses unread unwritten = λ refused.
    record { refuses = refuses refused; one = (unread refused).0; two = (unread refused).1; unwritten = unwritten refused }

pub within-three : {D : Type 0} (state : D → DiskState) (s : Status) (held held' : Option (List ℕ)) (disks disks' : List (Option D))
    → RunsCompare state s held held' disks disks' → (disk : ℕ) → s ≡ status.DiskFault disk → disk < length disks
within-three state s held held' disks disks' r disk e = let few = (r.blames disk e).0 in omega (arith, few, ap length r.were)
