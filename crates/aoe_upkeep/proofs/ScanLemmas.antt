-- What is known and was told when sectors are passed.
use Rattle.std.proofs.Common.{◌≡◌, ◌≤◌, ◌<◌, ◌+◌, ◌-◌, ◌*◌, ◌/◌, ◌∙◌, ◌++◌, ℕ, Bool, true, false, not, List, [], Option, Result, Ok, Err, ap, arith, drop, length, length-append, refl, subst, sym, take}
use Rattle.std.specs.Str.{bytes_eq}
use Rattle.std.proofs.Math.Seq.{take-append-add, take-length}
use Rattle.std.proofs.lemmas.Grind.{flat_map-append}
use Rattle.std.proofs.lemmas.List.{append-nil, append_assoc, length-take, take-append-le, take-take, take_all}
use Rattle.std.proofs.lemmas.Slice.Eq.{bytes_eq-Decides}
use Rattle.aoe_base.specs.declared.failure.Failed.{Failed}
use Rattle.aoe_disk.specs.State.{sector}
use Rattle.aoe_io.specs.Bytes.{Took, TookSome}
use Rattle.aoe_io.proofs.BytesLemmas.{Took-then}
use Rattle.aoe_upkeep.specs.Comparing.{Run, differs_in, run_line}
use Rattle.aoe_upkeep.specs.Scanning.{Agree, ClosesOn, Goes, GoesOn, TookFront, closing, lines}
use Rattle.aoe_upkeep.specs.declared.scan.Scan.{Scan}
use Rattle.aoe_upkeep.proofs.RunLemmas.{differ-knows, equal-knows}

-- ---- what a sink took

pub front-some : (a b : Option (List ℕ)) (p : List ℕ) → TookSome a b p → TookFront a b p
front-some a b p some = (some.0, omega (arith, some.1), some.2)

pub front-all : (a b : Option (List ℕ)) (p : List ℕ) → Took a b p → TookFront a b p
front-all a b p all = let P : List ℕ → Type 0 = λ xs. Took a b xs in (length p, omega arith, subst P (sym (take-length p)) all)

pub front-then : (a b c : Option (List ℕ)) (p q : List ℕ) → Took a b p → TookFront b c q → TookFront a c (p ++ q)
front-then a b c p q all some =
    let P : List ℕ → Type 0 = λ xs. Took a c xs in
    (length p + some.0, omega (arith, some.1, length-append p q), subst P (sym (take-append-add p q some.0)) (Took-then a b c p (take some.0 q) all some.2))

pub front-longer : (a b : Option (List ℕ)) (p q : List ℕ) → TookFront a b p → TookFront a b (p ++ q)
front-longer a b p q some =
    let P : List ℕ → Type 0 = λ xs. Took a b xs in
    (some.0, omega (arith, some.1, length-append p q), subst P (sym (take-append-le some.0 p q some.1)) some.2)

pub lines-then : (xs ys : List Run) → lines (xs ++ ys) ≡ lines xs ++ lines ys
lines-then xs ys = flat_map-append run_line xs ys

-- ---- pieces

same-sector : (xs : List ℕ) → not (bytes_eq xs xs) ≡ false
same-sector xs = ap not ((bytes_eq-Decides xs xs).1 refl)

-- equal pieces
pub goes-equal : (one two : List ℕ) (scan : Scan) (n : ℕ) → one ≡ two → length one ≡ 512 * n → 0 < n
    → Goes one two scan (record { at = scan.at + n; start = scan.at + n; count = scan.count }) (closing scan)
goes-equal one two scan n e size some = record {
  passes = λ unlike agree runs knows. equal-knows unlike scan runs n knows some (λ s low high.
      let k : s ≡ scan.at + (s - scan.at) = omega (arith, low) in
      ap unlike k ∙ agree (s - scan.at) (omega (arith, size, low, high)) ∙ rw (← e) (same-sector (sector one (s - scan.at))));
}

-- and the run that ended before them was told
pub goes-on-equal : (result : Result (Unit {0}) Failed) (one two : List ℕ) (scan : Scan) (n : ℕ) (held held' : Option (List ℕ)) → one ≡ two
    → length one ≡ 512 * n → 0 < n → ClosesOn result scan held held'
    → GoesOn result one two scan (record { at = scan.at + n; start = scan.at + n; count = scan.count }) held held'
goes-on-equal (Ok done) one two scan n held held' e size some told = (closing scan, goes-equal one two scan n e size some, told)
goes-on-equal (Err failed) one two scan n held held' e size some told = (
  closing scan,
  record { at = scan.at + n; start = scan.at + n; count = scan.count },
  omega (arith, size),
  goes-equal one two scan n e size some,
  told,
)

-- two sectors that aren't equal
pub goes-differ : (one two : List ℕ) (scan : Scan) → bytes_eq one two ≡ false → length one ≡ 512 → length two ≡ 512
    → Goes one two scan (record { at = scan.at + 1; start = scan.start; count = scan.count + 1 }) []
goes-differ one two scan e size-one size-two = record {
  passes = λ unlike agree runs knows.
      let first : sector one 0 ≡ one = take_all 512 one (omega (arith, size-one)) in
      let second : sector two 0 ≡ two = take_all 512 two (omega (arith, size-two)) in
      let here : scan.at ≡ scan.at + 0 = omega arith in
      let other : differs_in one two 0 ≡ true = rw (first, second, e) refl in
      rw (append-nil runs) (differ-knows unlike scan runs knows (ap unlike here ∙ agree 0 (omega (arith, size-one)) ∙ other));
}

-- nothing was passed yet
pub goes-none : (one two : List ℕ) (scan : Scan) → Goes one two scan scan []
goes-none one two scan = record { passes = λ unlike agree runs knows. rw (append-nil runs) knows }

-- the sector of two pieces that comes next
agree-next : (unlike : ℕ → Bool) (at k : ℕ) (one two first second : List ℕ) → first ≡ sector one k → second ≡ sector two k
    → 512 * k < length one → Agree unlike at one two → Agree unlike (at + k) first second
agree-next unlike at k one two first second e f within agree j inside =
    let short : length first ≤ 512 = rw e (omega (arith, length-take 512 (drop (512 * k) one))) in
    let none : j ≡ 0 = omega (arith, inside, short) in
    let here : at + k + j ≡ at + k = omega (arith, none) in
    let whole : (xs ys : List ℕ) → ys ≡ sector xs k → sector ys 0 ≡ sector xs k = λ xs ys g. rw g (take-take 512 512 (drop (512 * k) xs) (omega arith)) in
    ap unlike here ∙ agree k within ∙ rw (none, whole one first e, whole two second f) refl

pub goes-then : (one two first second : List ℕ) (k : ℕ) (a b c : Scan) (more further : List Run) → first ≡ sector one k → second ≡ sector two k
    → 512 * k < length one → b.at ≡ a.at + k → Goes one two a b more → Goes first second b c further → Goes one two a c (more ++ further)
goes-then one two first second k a b c more further e f within at before after = record {
  passes = λ unlike agree runs knows.
      let next = agree-next unlike a.at k one two first second e f within agree in
      rw (← append_assoc runs more further)
      (after.passes unlike (rw at next) (runs ++ more) (before.passes unlike agree runs knows));
}

pub took-then : (a b c : Option (List ℕ)) (xs ys : List Run) → Took a b (lines xs) → Took b c (lines ys) → Took a c (lines (xs ++ ys))
took-then a b c xs ys before after =
    let P : List ℕ → Type 0 = λ text. Took a c text in subst P (sym (lines-then xs ys)) (Took-then a b c (lines xs) (lines ys) before after)

pub front-after : (a b c : Option (List ℕ)) (xs ys : List Run) → Took a b (lines xs) → TookFront b c (lines ys) → TookFront a c (lines (xs ++ ys))
front-after a b c xs ys before after =
    let P : List ℕ → Type 0 = λ text. TookFront a c text in subst P (sym (lines-then xs ys)) (front-then a b c (lines xs) (lines ys) before after)

-- a sector of two pieces, as it is cut out of one
pub cut-sector : (xs : List ℕ) (k : ℕ) → take (512 * k + 512 - 512 * k) (drop (512 * k) xs) ≡ sector xs k
cut-sector xs k = let size : 512 * k + 512 - 512 * k ≡ 512 = omega arith in ap (λ (n : ℕ). take n (drop (512 * k) xs)) size

module _ (one two first second : List ℕ) (k : ℕ) (a b c : Scan) (start held held' : Option (List ℕ)) (cut-one : first ≡ sector one k)
    (cut-two : second ≡ sector two k)
    (within : 512 * k < length one)
    (at : b.at ≡ a.at + k)
    (before : GoesOn (Ok tt) one two a b start held)
  where
    pub goes-on : GoesOn (Ok tt) first second b c held held' → GoesOn (Ok tt) one two a c start held'
    goes-on after = (
      before.0 ++ after.0,
      goes-then one two first second k a b c before.0 after.0 cut-one cut-two within at before.1 after.1,
      took-then start held held' before.0 after.0 before.2 after.2,
    )

    pub goes-off : (failed : Failed) (last : Scan) → k < length one / 512 → GoesOn (Err failed) first second b c held held'
        → GoesOn (Err failed) one two a last start held'
    goes-off failed last few after = (
      before.0 ++ after.0,
      after.1,
      (let size : length first ≤ 512 = rw cut-one (omega (arith, length-take 512 (drop (512 * k) one))) in omega (arith, after.2, at, few, size)),
      goes-then one two first second k a b after.1 before.0 after.0 cut-one cut-two within at before.1 after.3,
      front-after start held held' before.0 after.0 before.2 after.4,
    )
