-- What is known and was told when pieces of two sides are compared.
use Rattle.std.proofs.Common.{◌≡◌, ◌≤◌, ◌<◌, ◌+◌, ◌-◌, ◌*◌, ◌/◌, ◌∙◌, ◌++◌, ℕ, Bool, true, false, List, [], Option, Some, None, IfSome, Result, Ok, Err, ap, arith, drop, inl, inr, length, refl, subst, sym, take}
use Rattle.std.proofs.lemmas.Bool.{cases_lt}
use Rattle.std.proofs.lemmas.List.{drop_all}
use Rattle.aoe_base.specs.declared.failure.Failed.{Failed}
use Rattle.aoe_disk.specs.State.{Contents, DiskState, HasShape, IsDisk, sector}
use Rattle.aoe_disk.specs.Calls.{Reads}
use Rattle.aoe_disk.proofs.Runs.{run_none, run_then}
use Rattle.aoe_disk.proofs.Touching.{sector-read}
use Rattle.aoe_io.specs.Bytes.{Took}
use Rattle.aoe_io.proofs.BytesLemmas.{Took-nothing}
use Rattle.aoe_mirror.specs.Sides.{both}
use Rattle.aoe_upkeep.specs.Comparing.{AreRuns, IsRead, Run, Scene, count_of, differs, pieces_of}
use Rattle.aoe_upkeep.specs.Scanning.{Agree, ClosesOn, ComparesOn, Goes, GoesOn, Knows, Passes, PassesOn, RunsAll, RunsPart, SidesPass, TookFront, closing, lines}
use Rattle.aoe_upkeep.specs.declared.scan.Scan.{Scan}
use Rattle.aoe_upkeep.specs.declared.stop.CompareStop.{CompareStop}
use Rattle.aoe_upkeep.specs.declared.stop.CompareStop.TheVariants as stop
use Rattle.aoe_upkeep.proofs.RunLemmas.{at-end, finished}
use Rattle.aoe_upkeep.proofs.ScanLemmas.{front-after, front-all, front-longer, lines-then, took-then}

-- ---- what two sides tell

-- behind the end of two sides nothing differs
past-end : (sides : Contents × Contents) (sectors : ℕ) → HasShape sectors sides.0 → HasShape sectors sides.1 → (s : ℕ) → sectors ≤ s → differs sides s ≡ false
past-end sides sectors one two s past =
    let first : sector sides.0.bytes s ≡ [] = rw (drop_all (512 * s) sides.0.bytes (omega (arith, one.bytes, past))) refl in
    let second : sector sides.1.bytes s ≡ [] = rw (drop_all (512 * s) sides.1.bytes (omega (arith, two.bytes, past))) refl in
    rw (first, second) refl

abbrev pub EndAt : ℕ → Option (Contents × Contents) → Type 0
EndAt sectors told = IfSome told (λ (sides : Contents × Contents). (s : ℕ) → sectors ≤ s → differs sides s ≡ false)

pub end-of : (sectors : ℕ) (one two : Option Contents) → IfSome one (HasShape sectors) → IfSome two (HasShape sectors) → EndAt sectors (both one two)
end-of sectors None None f s = tt
end-of sectors None (Some b) f s = tt
end-of sectors (Some a) None f s = tt
end-of sectors (Some a) (Some b) f s = past-end (a, b) sectors f s

abbrev pub KnowsOf : Option (Contents × Contents) → Scan → List Run → Type 0
KnowsOf told scan runs = IfSome told (λ (sides : Contents × Contents). Knows (differs sides) scan runs)

abbrev pub PassesOf : Option (Contents × Contents) → Scan → Scan → List Run → Type 0
PassesOf told scan scan' more = IfSome told (λ (sides : Contents × Contents). Passes (differs sides) scan scan' more)

knows-on : (told : Option (Contents × Contents)) (scan scan' : Scan) (runs more : List Run) → KnowsOf told scan runs → PassesOf told scan scan' more
    → KnowsOf told scan' (runs ++ more)
knows-on None scan scan' runs more knows passes = tt
knows-on (Some sides) scan scan' runs more knows passes = passes runs knows

-- what is known of a front of two sides is the front of what is so
abbrev pub Whole : ℕ → Option (Contents × Contents) → ℕ → List Run → Type 0
Whole sectors told count runs =
    IfSome told (λ (sides : Contents × Contents). AreRuns (differs sides) 0 sectors runs × (count ≡ count_of (differs sides) sectors))

pub whole-of : (sectors : ℕ) (told : Option (Contents × Contents)) (scan : Scan) (runs : List Run) → EndAt sectors told → KnowsOf told scan runs
    → scan.at ≤ sectors → (count : ℕ) × (rest : List Run) × Whole sectors told count (runs ++ rest)
whole-of sectors None scan runs end knows le = (0, [], tt)
whole-of sectors (Some sides) scan runs end knows le =
    let f = finished (differs sides) sectors end scan runs knows le in
    (count_of (differs sides) sectors, f.0, (f.1, refl))

-- all of two sides is known
whole-at : (sectors : ℕ) (told : Option (Contents × Contents)) (scan : Scan) (runs : List Run) → EndAt sectors told → KnowsOf told scan runs
    → scan.at ≡ sectors → Whole sectors told scan.count (runs ++ closing scan)
whole-at sectors None scan runs end knows e = tt
whole-at sectors (Some sides) scan runs end knows e =
    (at-end (differs sides) sectors end scan runs knows e, knows.count ∙ ap (count_of (differs sides)) e)

-- ---- a piece

-- two pieces that were read have the next sectors
agree-read : (one two : Option Contents) (at n : ℕ) (first second : List ℕ) → length first ≡ n → IfSome one (λ c. first ≡ take n (drop (512 * at) c.bytes))
    → IfSome two (λ c. second ≡ take n (drop (512 * at) c.bytes)) → 512 * (n / 512) ≡ n
    → IfSome (both one two) (λ (sides : Contents × Contents). Agree (differs sides) at first second)
agree-read None None at n first second size f s whole = tt
agree-read None (Some b) at n first second size f s whole = tt
agree-read (Some a) None at n first second size f s whole = tt
agree-read (Some a) (Some b) at n first second size f s whole = λ k inside.
    let fits : 512 * k + 512 ≤ n = omega (arith, inside, size, whole) in
    rw (f, s, sector-read a.bytes at n k fits, sector-read b.bytes at n k fits) refl

pub passes-of : (told : Option (Contents × Contents)) (first second : List ℕ) (scan scan' : Scan) (more : List Run)
    → IfSome told (λ (sides : Contents × Contents). Agree (differs sides) scan.at first second) → Goes first second scan scan' more
    → PassesOf told scan scan' more
passes-of None first second scan scan' more agree goes = tt
passes-of (Some sides) first second scan scan' more agree goes = goes.passes (differs sides) agree

abbrev done : Unit {0} → Result (Unit {0}) Failed
done u = Ok u

-- a piece of each side was read
module _ (scan : Scan) (n : ℕ) (first second : List ℕ) (u v : Unit {0}) (one one' two two' : DiskState) (held held' : Option (List ℕ))
    (whole : 512 * (n / 512) ≡ n)
    (size : length first ≡ n)
    (read-one : Reads scan.at n (done u) first one one')
    (read-two : Reads scan.at n (done v) second two two')
  where
    told-alike : IfSome (both one.contents two.contents) (λ (sides : Contents × Contents). Agree (differs sides) scan.at first second)
    told-alike = agree-read one.contents two.contents scan.at n first second size read-one.given read-two.given whole

    read-whole : IsRead 1 false one one' × IsRead 1 false two two'
    read-whole = (record { run = read-one.call; same = read-one.same }, record { run = read-two.call; same = read-two.same })

    pub passed : (scan' : Scan) → GoesOn (Ok tt) first second scan scan' held held'
        → PassesOn (Ok tt) (n / 512) scan scan' (record { one = one; two = two; held = held }) (record { one = one'; two = two'; held = held' })
    passed scan' goes =
        (read-whole.0, read-whole.1, (goes.0, passes-of (both one.contents two.contents) first second scan scan' goes.0 told-alike goes.1, goes.2))

    pub unpassed : (failed : Failed) (scan' : Scan) → GoesOn (Err failed) first second scan scan' held held'
        → PassesOn (Err stop.SinkFault) (n / 512) scan scan' (record { one = one; two = two; held = held }) (record { one = one'; two = two'; held = held' })
    unpassed failed scan' goes = (
      read-whole.0,
      read-whole.1,
      (
        goes.0,
        goes.1,
        omega (arith, goes.2, size),
        passes-of (both one.contents two.contents) first second scan goes.1 goes.0 told-alike goes.3,
        goes.4,
      ),
    )

-- ---- all pieces

read-on : (m n : ℕ) (failed : Bool) (a b c : DiskState) → IsRead m false a b → IsRead n failed b c → IsRead (m + n) failed a c
read-on m n failed a b c one two = record { run = run_then m n failed a b c one.run two.run; same = two.same ∙ one.same }

-- the sectors before the next one were read by these calls, and their runs were told
pub record HasRead (scan : Scan) (old new : Scene) : Type 0 where
  pub calls : ℕ
  pub few : 64 * calls < scan.at + 64
  pub all : scan.at ≤ 64 * calls
  pub whole : scan.at < old.one.sectors → scan.at ≡ 64 * calls
  pub within : scan.at ≤ old.one.sectors
  pub size : old.two.sectors ≡ old.one.sectors
  pub one : IsRead calls false old.one new.one
  pub two : IsRead calls false old.two new.two
  pub runs : List Run
  pub knows : KnowsOf (both old.one.contents old.two.contents) scan runs
  pub took : Took old.held new.held (lines runs)

none : (unlike : ℕ → Bool) → 0 ≡ count_of unlike 0
unfolding count_of
none unlike = refl

-- nothing was read
pub knows-nothing : (told : Option (Contents × Contents)) → KnowsOf told (record { at = 0; start = 0; count = 0 }) []
knows-nothing None = tt
knows-nothing (Some sides) = record {
  is = record { start = omega arith; count = omega arith };
  ended = (omega arith, λ s low high. absurd (omega (arith, high)));
  open_run = λ s low high. absurd (omega (arith, high));
  count = none (differs sides);
}

pub has-none : (old : Scene) → IsDisk old.one → IsDisk old.two → old.two.sectors ≡ old.one.sectors
    → HasRead (record { at = 0; start = 0; count = 0 }) old old
has-none old one two size = record {
  calls = 0;
  few = omega arith;
  all = omega arith;
  whole = λ lt. refl;
  within = omega arith;
  size = size;
  one = record { run = run_none old.one one; same = refl };
  two = record { run = run_none old.two two; same = refl };
  runs = [];
  knows = knows-nothing (both old.one.contents old.two.contents);
  took = Took-nothing old.held;
}

module _ (scan : Scan) (old mid : Scene) (has : HasRead scan old mid) where
  told-same : both mid.one.contents mid.two.contents ≡ both old.one.contents old.two.contents
  told-same = rw (has.one.same, has.two.same) refl

  ends : EndAt old.one.sectors (both old.one.contents old.two.contents)
  ends = end-of old.one.sectors old.one.contents old.two.contents has.one.run.before.shape (rw has.size at has.two.run.before.shape)

  passes-old : (scan' : Scan) (more : List Run) → SidesPass mid scan scan' more → PassesOf (both old.one.contents old.two.contents) scan scan' more
  passes-old scan' more passes = rw told-same at passes

  -- a further piece
  pub has-more : (scan' : Scan) (n : ℕ) (new : Scene) → scan.at < old.one.sectors → 0 < n → n ≤ 64 → n ≤ old.one.sectors - scan.at
      → (n < 64 → n ≡ old.one.sectors - scan.at) → scan'.at ≡ scan.at + n → PassesOn (Ok tt) n scan scan' mid new → HasRead scan' old new
  has-more scan' n new lt some most fits last at passes =
      let start = has.whole lt in
      record {
        calls = has.calls + 1;
        few = omega (arith, at, start, some);
        all = omega (arith, at, start, most);
        whole = λ more. elim (cases_lt n 64) [
          | inl short ↦ absurd (omega (arith, last short, at, more, lt))
          | inr full ↦ omega (arith, at, start, most, full)
        ];
        within = omega (arith, at, fits, lt);
        size = has.size;
        one = read-on has.calls 1 false old.one mid.one new.one has.one passes.0;
        two = read-on has.calls 1 false old.two mid.two new.two has.two passes.1;
        runs = has.runs ++ passes.2.0;
        knows = knows-on (both old.one.contents old.two.contents) scan scan' has.runs passes.2.0 has.knows (passes-old scan' passes.2.0 passes.2.1);
        took = took-then old.held mid.held new.held has.runs passes.2.0 has.took passes.2.2;
      }

  -- all of both sides was read
  pub has-all : (new : Scene) → old.one.sectors ≤ scan.at → new.one ≡ mid.one → new.two ≡ mid.two → ClosesOn (Ok tt) scan mid.held new.held
      → RunsAll scan.count old new
  has-all new end same-one same-two closes =
      let at : scan.at ≡ old.one.sectors = omega (arith, end, has.within) in
      let calls : has.calls ≡ pieces_of old.one.sectors = omega (arith, has.few, has.all, at) in
      record {
        one = rw (same-one, ← calls) has.one;
        two = rw (same-two, ← calls) has.two;
        runs = has.runs ++ closing scan;
        exact = whole-at old.one.sectors (both old.one.contents old.two.contents) scan has.runs ends has.knows at;
        took = took-then old.held mid.held new.held has.runs (closing scan) has.took closes;
      }

  -- a part of what is so was told
  part-of : (one_failed two_failed : Bool) (scan' : Scan) (runs : List Run) (new : Scene) (m k : ℕ) → m ≤ pieces_of old.one.sectors
      → k ≤ pieces_of old.one.sectors → IsRead m one_failed old.one new.one → IsRead k two_failed old.two new.two
      → KnowsOf (both old.one.contents old.two.contents) scan' runs → scan'.at ≤ old.one.sectors → TookFront old.held new.held (lines runs)
      → RunsPart one_failed two_failed old new
  part-of one_failed two_failed scan' runs new m k few_one few_two one two knows le took =
      let w = whole-of old.one.sectors (both old.one.contents old.two.contents) scan' runs ends knows le in
      record {
        one_calls = m;
        two_calls = k;
        one_few = few_one;
        two_few = few_two;
        one = one;
        two = two;
        count = w.0;
        runs = runs ++ w.1;
        exact = w.2;
        took = let P : List ℕ → Type 0 = λ text. TookFront old.held new.held text in
            subst P (sym (lines-then runs w.1)) (front-longer old.held new.held (lines runs) (lines w.1) took);
      }

  some-calls : has.calls ≤ pieces_of old.one.sectors
  some-calls = omega (arith, has.few, has.within)

  -- a call failed
  pub has-failed : (why : CompareStop) (scan' : Scan) (n : ℕ) (new : Scene) → scan.at < old.one.sectors → n ≤ old.one.sectors - scan.at
      → PassesOn (Err why) n scan scan' mid new → ComparesOn (Err why) old new
  has-failed stop.FirstFailed scan' n new lt fits passes =
      let more : has.calls + 1 ≤ pieces_of old.one.sectors = omega (arith, has.whole lt, lt) in
      part-of true false scan has.runs new (has.calls + 1) has.calls more some-calls (read-on has.calls 1 true old.one mid.one new.one has.one passes.0)
      (rw passes.1 has.two) has.knows has.within (rw passes.2 (front-all old.held mid.held (lines has.runs) has.took))
  has-failed stop.SecondFailed scan' n new lt fits passes =
      let more : has.calls + 1 ≤ pieces_of old.one.sectors = omega (arith, has.whole lt, lt) in
      part-of false true scan has.runs new (has.calls + 1) (has.calls + 1) more more (read-on has.calls 1 false old.one mid.one new.one has.one passes.0)
      (read-on has.calls 1 true old.two mid.two new.two has.two passes.1) has.knows has.within
      (rw passes.2 (front-all old.held mid.held (lines has.runs) has.took))
  has-failed stop.SinkFault scan' n new lt fits passes =
      let more : has.calls + 1 ≤ pieces_of old.one.sectors = omega (arith, has.whole lt, lt) in
      let p = passes.2 in
      part-of false false p.1 (has.runs ++ p.0) new (has.calls + 1) (has.calls + 1) more more
      (read-on has.calls 1 false old.one mid.one new.one has.one passes.0) (read-on has.calls 1 false old.two mid.two new.two has.two passes.1)
      (knows-on (both old.one.contents old.two.contents) scan p.1 has.runs p.0 has.knows (passes-old p.1 p.0 p.3)) (omega (arith, p.2, fits, lt))
      (front-after old.held mid.held new.held has.runs p.0 has.took p.4)
  has-failed (stop.Unequal a b) scan' n new lt fits passes = absurd passes
  has-failed stop.NoMark scan' n new lt fits passes = absurd passes
  has-failed stop.NotMark scan' n new lt fits passes = absurd passes
  has-failed stop.MarkFailed scan' n new lt fits passes = absurd passes
  has-failed stop.NoMemory scan' n new lt fits passes = absurd passes

  -- the last run wasn't told
  pub has-cut : (failed : Failed) (new : Scene) → old.one.sectors ≤ scan.at → new.one ≡ mid.one → new.two ≡ mid.two
      → ClosesOn (Err failed) scan mid.held new.held → RunsPart false false old new
  has-cut failed new end same-one same-two closes =
      let at : scan.at ≡ old.one.sectors = omega (arith, end, has.within) in
      record {
        one_calls = has.calls;
        two_calls = has.calls;
        one_few = some-calls;
        two_few = some-calls;
        one = rw same-one has.one;
        two = rw same-two has.two;
        count = scan.count;
        runs = has.runs ++ closing scan;
        exact = whole-at old.one.sectors (both old.one.contents old.two.contents) scan has.runs ends has.knows at;
        took = front-after old.held mid.held new.held has.runs (closing scan) has.took closes;
      }
