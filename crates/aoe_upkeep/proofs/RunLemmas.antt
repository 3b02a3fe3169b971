-- Runs of sectors that differ, while sectors are passed.
use Rattle.std.proofs.Common.{◌≡◌, ◌≤◌, ◌<◌, ◌+◌, ◌-◌, ◌∙◌, ◌++◌, ℕ, suc, zero, Bool, true, false, List, [], ◌∷◌, ap, arith, inl, inr, refl, sym}
use Rattle.std.proofs.lemmas.Bool.{cases_Bool, cases_lt, ne_eqb}
use Rattle.std.proofs.lemmas.List.{append-nil, append_assoc}
use Rattle.aoe_upkeep.specs.Comparing.{AreEqual, AreRuns, Differ, Run, count_of}
use Rattle.aoe_upkeep.specs.Scanning.{Knows, closing}
use Rattle.aoe_upkeep.specs.declared.scan.Scan.{Scan}

pub closing-none : (scan : Scan) → scan.start ≡ scan.at → closing scan ≡ []
closing-none scan e = rw e (grind arith)

pub closing-one : (scan : Scan) → scan.start < scan.at → closing scan ≡ record { at = scan.start; end = scan.at } ∷ []
closing-one scan lt = rw (ne_eqb scan.start scan.at (λ e. absurd (omega (arith, lt, e)))) refl

module _ (unlike : ℕ → Bool) where
  -- further sectors are equal
  longer : (runs : List Run) (from start to : ℕ) → AreRuns unlike from start runs → start ≤ to → AreEqual unlike start to → AreRuns unlike from to runs
  longer [] from start to h le equal = (
    omega (arith, h.0, le),
    λ s low high. elim (cases_lt s start) [
      | inl below ↦ h.1 s low below
      | inr above ↦ equal s above high
    ],
  )
  longer (run ∷ runs) from start to h le equal = (h.0, h.1, h.2, longer runs run.end start to h.3 le equal)

  -- a run ends
  with-run : (runs : List Run) (from start at to : ℕ) → AreRuns unlike from start runs → start < at → Differ unlike start at → unlike at ≡ false → at ≤ to
      → AreEqual unlike at to → AreRuns unlike from to (runs ++ record { at = start; end = at } ∷ [])
  with-run [] from start at to h some differ longest le equal =
      (h.0, h.1, record { some = some; differ = differ; longest = longest }, (le, equal))
  with-run (run ∷ runs) from start at to h some differ longest le equal = (h.0, h.1, h.2, with-run runs run.end start at to h.3 some differ longest le equal)

  -- an equal sector stands behind those that were passed, and maybe more
  pub closes : (scan : Scan) (runs : List Run) (to : ℕ) → Knows unlike scan runs → unlike scan.at ≡ false → scan.at ≤ to → AreEqual unlike scan.at to
      → AreRuns unlike 0 to (runs ++ closing scan)
  closes scan runs to knows longest le equal = elim (cases_lt scan.start scan.at) [
    | inl below ↦ rw (closing-one scan below) (with-run runs 0 scan.start scan.at to knows.ended below knows.open_run longest le equal)
    | inr same ↦
        let e : scan.start ≡ scan.at = omega (arith, same, knows.is.start) in
        rw (closing-none scan e, append-nil runs) (longer runs 0 scan.start to knows.ended (omega (arith, le, e)) (rw e equal))
  ]

  count-same : (n : ℕ) → unlike n ≡ false → count_of unlike (suc n) ≡ count_of unlike n
  unfolding count_of
  count-same n e = rw e refl

  count-more : (n : ℕ) → unlike n ≡ true → count_of unlike (suc n) ≡ suc (count_of unlike n)
  unfolding count_of
  count-more n e = rw e refl

  count-equal : (at n : ℕ) → AreEqual unlike at (at + n) → count_of unlike (at + n) ≡ count_of unlike at
  count-equal at zero equal = ap (count_of unlike) (omega arith)
  count-equal at (suc n) equal =
      let next : at + suc n ≡ suc (at + n) = omega arith in
      rw next (count-same (at + n) (equal (at + n) (omega arith) (omega arith)) ∙ count-equal at n (λ s low high. equal s low (omega (arith, high))))

  -- equal sectors are passed
  pub equal-knows : (scan : Scan) (runs : List Run) (n : ℕ) → Knows unlike scan runs → 0 < n → AreEqual unlike scan.at (scan.at + n)
      → Knows unlike (record { at = scan.at + n; start = scan.at + n; count = scan.count }) (runs ++ closing scan)
  equal-knows scan runs n knows some equal = record {
    is = record { start = omega arith; count = omega (arith, knows.is.count) };
    ended = closes scan runs (scan.at + n) knows (equal scan.at (omega arith) (omega (arith, some))) (omega arith) equal;
    open_run = λ s low high. absurd (omega (arith, low, high));
    count = knows.count ∙ sym (count-equal scan.at n equal);
  }

  count-differ : (at : ℕ) → unlike at ≡ true → count_of unlike (at + 1) ≡ count_of unlike at + 1
  count-differ at e =
      let next : at + 1 ≡ suc at = omega arith in
      let more : suc (count_of unlike at) ≡ count_of unlike at + 1 = omega arith in
      ap (count_of unlike) next ∙ count-more at e ∙ more

  -- a sector is passed that differs
  pub differ-knows : (scan : Scan) (runs : List Run) → Knows unlike scan runs → unlike scan.at ≡ true
      → Knows unlike (record { at = scan.at + 1; start = scan.start; count = scan.count + 1 }) runs
  differ-knows scan runs knows e = record {
    is = record { start = omega (arith, knows.is.start); count = omega (arith, knows.is.count) };
    ended = knows.ended;
    open_run = λ s low high. elim (cases_lt s scan.at) [
      | inl below ↦ knows.open_run s low below
      | inr above ↦ let same : s ≡ scan.at = omega (arith, above, high) in rw same e
    ];
    count = ap (λ n. n + 1) knows.count ∙ sym (count-differ scan.at e);
  }

  -- what is known of some sectors is the front of what is so
  module _ (sectors : ℕ) (past : (s : ℕ) → sectors ≤ s → unlike s ≡ false) where
    -- behind the last sector nothing differs
    pub at-end : (scan : Scan) (runs : List Run) → Knows unlike scan runs → scan.at ≡ sectors → AreRuns unlike 0 sectors (runs ++ closing scan)
    at-end scan runs knows e =
        closes scan runs sectors knows (past scan.at (omega (arith, e))) (omega (arith, e)) (λ s low high. absurd (omega (arith, e, low, high)))

    finishes : (k : ℕ) (scan : Scan) (runs : List Run) → Knows unlike scan runs → scan.at + k ≡ sectors
        → (rest : List Run) × AreRuns unlike 0 sectors (runs ++ rest)
    finishes zero scan runs knows e = (closing scan, at-end scan runs knows (omega (arith, e)))
    finishes (suc k) scan runs knows e = elim (cases_Bool (unlike scan.at)) [
      | inl differ ↦
          finishes k (record { at = scan.at + 1; start = scan.start; count = scan.count + 1 }) runs (differ-knows scan runs knows differ) (omega (arith, e))
      | inr equal ↦
          let one : AreEqual unlike scan.at (scan.at + 1) = λ s low high. let same : s ≡ scan.at = omega (arith, low, high) in rw same equal in
          let f = finishes k (record { at = scan.at + 1; start = scan.at + 1; count = scan.count }) (runs ++ closing scan)
          (equal-knows scan runs 1 knows (omega arith) one) (omega (arith, e)) in
          (closing scan ++ f.0, rw (← append_assoc runs (closing scan) f.0) f.1)
    ]

    pub finished : (scan : Scan) (runs : List Run) → Knows unlike scan runs → scan.at ≤ sectors → (rest : List Run) × AreRuns unlike 0 sectors (runs ++ rest)
    finished scan runs knows le = finishes (sectors - scan.at) scan runs knows (omega (arith, le))
