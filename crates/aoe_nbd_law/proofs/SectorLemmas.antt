-- The sectors of a request by its parts.
use Rattle.std.proofs.Common.{ℕ, ◌≡◌, ◌<◌, ◌≤◌, ◌+◌, ◌-◌, ◌*◌, ◌/◌, Bool, true, false, List, [], ◌∷◌, ◌++◌, length, take, drop, refl, sym, ap, ◌∙◌, arith, inl, inr}
use Rattle.std.specs.List.{list_all, All}
use Rattle.std.proofs.Math.Nat.{mul-div_cancel_left}
use Rattle.std.proofs.Math.Seq.{drop-append-add}
use Rattle.std.proofs.lemmas.Bool.{and_parts, cases_lt, eqb-true}
use Rattle.std.proofs.lemmas.Bool.Decides.{nat_tests}
use Rattle.std.proofs.lemmas.List.{drop-append-le, length-append, length-drop, take-append-le}
use Rattle.std.proofs.lemmas.List.Elements.{All-head, All-tail}
use Rattle.aoe_base.specs.declared.counted.Ticket.{Ticket}
use Rattle.aoe_base.specs.declared.sectors.Span.{Span}
use Rattle.aoe_block.specs.declared.stage.Stage.{Stage}
use Rattle.aoe_block.specs.declared.stage.Stage.TheVariants.{Pending, Handed, Ended, Failed}
use Rattle.aoe_block.specs.Calls.{bytes_after, is_success}
use Rattle.aoe_block.specs.Parts.{joined, AreAdjacent, Part}
use Rattle.aoe_block.specs.Stages.{is_ended}
use Rattle.aoe_desk.specs.Runs.{Call}
use Rattle.aoe_disk.specs.State.{sector}
use Rattle.aoe_initiator.specs.declared.op.Op.TheVariants as op
use Rattle.aoe_initiator.specs.declared.outcome.Outcome.{Outcome}
use Rattle.aoe_initiator.specs.declared.outcome.Outcome.TheVariants as outcome
use Rattle.aoe_initiator.specs.Op.{span_of}
use Rattle.aoe_target.specs.Sectors.{in_span, value_in}
use Rattle.aoe_nbd_law.specs.Requests.{IsCarriedOut}
use Rattle.aoe_nbd_law.proofs.TraceLemmas.{PartEnds, PartsFrom, StageFrom}

-- PIECES

within-piece : (n i c : ℕ) → n ≡ 512 * c → i < c → (512 * i ≤ n) × (512 ≤ n - 512 * i)
within-piece n i c e lt = (omega (arith, e, lt), omega (arith, e, lt))

-- a sector of the first piece, and one of the others
piece-first : (xs ys : List ℕ) (i c : ℕ) → length xs ≡ 512 * c → i < c → sector (xs ++ ys) i ≡ sector xs i
piece-first xs ys i c len lt =
    let w = within-piece (length xs) i c len lt in
    let a = drop-append-le (512 * i) xs ys w.0 in
    let n = length-drop (512 * i) xs in
    let b = take-append-le 512 (drop (512 * i) xs) ys (let le = w.1 in omega (arith, le, n)) in
    ap (take 512) a ∙ b

piece-rest : (xs ys : List ℕ) (i c : ℕ) → length xs ≡ 512 * c → sector (xs ++ ys) (c + i) ≡ sector ys i
piece-rest xs ys i c len =
    let n : 512 * (c + i) ≡ length xs + 512 * i = omega (arith, len) in
    ap (λ k. take 512 (drop k (xs ++ ys))) n ∙ ap (take 512) (drop-append-add xs ys (512 * i))

rest-value : (xs ys : List ℕ) (at c s : ℕ) → length xs ≡ 512 * c → at + c ≤ s → sector (xs ++ ys) (s - at) ≡ sector ys (s - (at + c))
rest-value xs ys at c s len ge =
    let n : s - at ≡ c + (s - (at + c)) = omega (arith, ge) in
    ap (sector (xs ++ ys)) n ∙ piece-rest xs ys (s - (at + c)) c len

abbrev pub counts : List Part → ℕ
counts [] = 0
counts (p ∷ ps) = p.count + counts ps

pub joined-length : (ps : List Part) → All (λ p. length p.bytes ≡ 512 * p.count) ps → length (joined ps) ≡ 512 * counts ps
joined-length [] all = refl
joined-length (p ∷ ps) all =
    let own : length p.bytes ≡ 512 * p.count = All-head (λ (q : Part). length q.bytes ≡ 512 * q.count) p ps all in
    let rest = joined-length ps (All-tail (λ (q : Part). length q.bytes ≡ 512 * q.count) p ps all) in
    let both = length-append p.bytes (joined ps) in
    omega (arith, own, rest, both)

pub sectors-of : (n : ℕ) → 512 * n / 512 ≡ n
sectors-of n = mul-div_cancel_left n (omega arith)

pub inside-span : (at count s : ℕ) → at ≤ s → s < at + count → in_span (record { at = at; count = count }) s ≡ true
inside-span at count s ge lt = grind (arith, nat_tests)

pub span-bounds : (at count s : ℕ) → in_span (record { at = at; count = count }) s ≡ true → (at ≤ s) × (s < at + count)
span-bounds at count s inside = grind (arith, nat_tests)

-- SECTORS OF PARTS

read-success : (count : ℕ) (says : Outcome) (before : List ℕ) → is_success false count says ≡ true
    → (says ≡ outcome.Read (bytes_after says before)) × (length (bytes_after says before) ≡ 512 * count)
read-success count (outcome.Read bytes) before well = (refl, eqb-true (length bytes) (512 * count) well)
read-success count outcome.Written before well = absurd (cc)
read-success count outcome.Flushed before well = absurd (cc)
read-success count (outcome.Told args) before well = absurd (cc)
read-success count (outcome.AtaError status error) before well = absurd (cc)
read-success count (outcome.AoeError error) before well = absurd (cc)
read-success count (outcome.GaveUp first now) before well = absurd (cc)

write-success : (count : ℕ) (says : Outcome) → is_success true count says ≡ true → says ≡ outcome.Written
write-success count outcome.Written well = refl
write-success count (outcome.Read bytes) well = absurd (cc)
write-success count outcome.Flushed well = absurd (cc)
write-success count (outcome.Told args) well = absurd (cc)
write-success count (outcome.AtaError status error) well = absurd (cc)
write-success count (outcome.AoeError error) well = absurd (cc)
write-success count (outcome.GaveUp first now) well = absurd (cc)

module _ (total max : ℕ) (calls : List Call) (since : ℕ → Type 0) where
  part-ends : (w : Bool) (p q : Part) (s : Stage) → is_ended s ≡ true → StageFrom total max calls since w p q s → PartEnds total max calls since w p q
  part-ends w p q Ended is x = x
  part-ends w p q Pending is x = absurd (cc)
  part-ends w p q (Handed ticket) is x = absurd (cc)
  part-ends w p q Failed is x = absurd (cc)

  -- a sector was read, with this value
  pub record SectorRead (s : ℕ) (v : List ℕ) : Type 0 where
    pub ticket : Ticket
    pub span : Span
    pub bytes : List ℕ
    pub behind : since ticket.0
    pub out : IsCarriedOut total max calls ticket (op.Read span) (outcome.Read bytes)
    pub inside : in_span span s ≡ true
    pub value : v ≡ value_in span bytes s

  -- a sector was written, with this value
  pub record SectorWritten (s : ℕ) (v : List ℕ) : Type 0 where
    pub ticket : Ticket
    pub at : ℕ
    pub bytes : List ℕ
    pub behind : since ticket.0
    pub out : IsCarriedOut total max calls ticket (op.Write at bytes) outcome.Written
    pub inside : in_span (span_of (op.Write at bytes)) s ≡ true
    pub value : v ≡ value_in (span_of (op.Write at bytes)) bytes s

  moved-read : (s : ℕ) (v u : List ℕ) → v ≡ u → SectorRead s u → SectorRead s v
  moved-read s v u e r = record {
    ticket = r.ticket;
    span = r.span;
    bytes = r.bytes;
    behind = r.behind;
    out = r.out;
    inside = r.inside;
    value = e ∙ r.value;
  }

  moved-written : (s : ℕ) (v u : List ℕ) → v ≡ u → SectorWritten s u → SectorWritten s v
  moved-written s v u e r = record {
    ticket = r.ticket;
    at = r.at;
    bytes = r.bytes;
    behind = r.behind;
    out = r.out;
    inside = r.inside;
    value = e ∙ r.value;
  }

  part-read : (p q : Part) (ys : List ℕ) (s : ℕ) → PartEnds total max calls since false p q → p.at ≤ s → s < p.at + p.count
      → SectorRead s (sector (q.bytes ++ ys) (s - p.at))
  part-read p q ys s x ge lt =
      let good = read-success p.count x.says p.bytes x.well in
      let len : length q.bytes ≡ 512 * p.count = ap length x.bytes_are ∙ good.1 in
      let says : x.says ≡ outcome.Read q.bytes = good.0 ∙ ap outcome.Read (sym x.bytes_are) in
      record {
        ticket = x.carried.ticket;
        span = record { at = p.at; count = p.count };
        bytes = q.bytes;
        behind = x.carried.behind;
        out = rw says at x.carried.out;
        inside = inside-span p.at p.count s ge lt;
        value = piece-first q.bytes ys (s - p.at) p.count len (omega (arith, ge, lt));
      }

  part-bytes : (p q : Part) → PartEnds total max calls since false p q → length q.bytes ≡ 512 * p.count
  part-bytes p q x = ap length x.bytes_are ∙ (read-success p.count x.says p.bytes x.well).1

  abbrev ends : Part → Bool
  ends p = is_ended p.stage

  pub parts-read : (at : ℕ) (ps qs : List Part) (s : ℕ) → AreAdjacent at ps → PartsFrom total max calls since false ps qs → list_all ends qs ≡ true
      → at ≤ s → s < at + counts ps → SectorRead s (sector (joined qs) (s - at))
  parts-read at [] [] s adjacent x over ge lt = absurd (omega (arith, ge, lt))
  parts-read at [] (q ∷ qs) s adjacent x over ge lt = absurd x
  parts-read at (p ∷ ps) [] s adjacent x over ge lt = absurd x
  parts-read at (p ∷ ps) (q ∷ qs) s adjacent x over ge lt =
      let both = and_parts (ends q) (list_all ends qs) over in
      let its = part-ends false p q q.stage both.0 x.0.stage_from in
      let place = adjacent.0 in
      elim (cases_lt s (at + p.count)) [
        | inl here ↦ (
            let r = part-read p q (joined qs) s its (omega (arith, place, ge)) (omega (arith, place, here)) in
            rw place at r)
        | inr behind ↦ (
            let r = parts-read (at + p.count) ps qs s adjacent.1 x.1 both.1 (omega (arith, behind)) (omega (arith, lt)) in
            let e : sector (joined (q ∷ qs)) (s - at) ≡ sector (joined qs) (s - (at + p.count))
            = rest-value q.bytes (joined qs) at p.count s (part-bytes p q its) (omega (arith, behind)) in
            moved-read s _ _ e r)
      ]

  part-written : (p q : Part) (ys : List ℕ) (s : ℕ) → PartEnds total max calls since true p q → length p.bytes ≡ 512 * p.count → p.at ≤ s → s < p.at + p.count
      → SectorWritten s (sector (p.bytes ++ ys) (s - p.at))
  part-written p q ys s x len ge lt =
      let says = write-success p.count x.says x.well in
      let n : length p.bytes / 512 ≡ p.count = ap (λ k. k / 512) len ∙ sectors-of p.count in
      record {
        ticket = x.carried.ticket;
        at = p.at;
        bytes = p.bytes;
        behind = x.carried.behind;
        out = rw says at x.carried.out;
        inside = rw n (inside-span p.at p.count s ge lt);
        value = piece-first p.bytes ys (s - p.at) p.count len (omega (arith, ge, lt));
      }

  pub parts-written : (at : ℕ) (ps qs : List Part) (s : ℕ) → AreAdjacent at ps → All (λ p. length p.bytes ≡ 512 * p.count) ps
      → PartsFrom total max calls since true ps qs → list_all ends qs ≡ true
      → at ≤ s → s < at + counts ps → SectorWritten s (sector (joined ps) (s - at))
  parts-written at [] [] s adjacent whole x over ge lt = absurd (omega (arith, ge, lt))
  parts-written at [] (q ∷ qs) s adjacent whole x over ge lt = absurd x
  parts-written at (p ∷ ps) [] s adjacent whole x over ge lt = absurd x
  parts-written at (p ∷ ps) (q ∷ qs) s adjacent whole x over ge lt =
      let both = and_parts (ends q) (list_all ends qs) over in
      let its = part-ends true p q q.stage both.0 x.0.stage_from in
      let place = adjacent.0 in
      let len : length p.bytes ≡ 512 * p.count = All-head (λ (r : Part). length r.bytes ≡ 512 * r.count) p ps whole in
      elim (cases_lt s (at + p.count)) [
        | inl here ↦ (
            let r = part-written p q (joined ps) s its len (omega (arith, place, ge)) (omega (arith, place, here)) in
            rw place at r)
        | inr behind ↦ (
            let r = parts-written (at + p.count) ps qs s adjacent.1 (All-tail (λ (r : Part). length r.bytes ≡ 512 * r.count) p ps whole) x.1 both.1
            (omega (arith, behind)) (omega (arith, lt)) in
            let e : sector (joined (p ∷ ps)) (s - at) ≡ sector (joined ps) (s - (at + p.count))
            = rest-value p.bytes (joined ps) at p.count s len (omega (arith, behind)) in
            moved-written s _ _ e r)
      ]
