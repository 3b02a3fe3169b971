use Rattle.std.proofs.Common.{◌≡◌, ◌+◌, ℕ, length, false, ap, arith, inl, inr}
use Rattle.std.proofs.lemmas.Bool.{both_ways, cases_lt}
use Rattle.std.proofs.lemmas.List.{get_or_past}
use Rattle.aoe_disk.specs.State.{is_loose}
use Rattle.aoe_mirror.proofs.Bits.{length-bits_of}
use Rattle.aoe_mirror.proofs.marks.Marks.first_run.Goals as goal

pub first_from-at-requires : goal.first_from-at-requires
first_from-at-requires c = omega (
  arith,
  ap length c.self.view_is,
  length-bits_of c.self.inside.words.items c.self.inside.len,
  c.self.invariant.low,
  c.max.ensures,
  c.min.ensures,
)

pub returns-then-at-self : goal.returns-then-at-self
returns-then-at-self c = λ s low high.
    let size : length c.args.self.now ≡ c.self.inside.len =
    omega (arith, ap length c.self.view_is, length-bits_of c.self.inside.words.items c.self.inside.len) in
    elim (cases_lt s c.self.inside.lowest) [
      | inl below ↦ (rw c.self.view_is at c.self.invariant.lowest) s (omega arith) (omega (arith, below))
      | inr past ↦ elim (cases_lt s c.self.inside.len) [
        | inl within ↦ c.first_from-at.ensures.clear s (omega (arith, past, low, c.max.ensures, c.min.ensures))
            (omega (arith, within, c.if-at-self.true, c.max.ensures, c.min.ensures, c.first_from-at.ensures.from))
        | inr out ↦ get_or_past c.args.self.now s false (omega (arith, out, size))
      ]
    ]

pub returns : goal.returns
returns c =
    let at : ℕ = c.first_from-at.result in
    let n : ℕ = c.run_from.result in
    let size : length c.args.self.now ≡ c.self.inside.len =
    omega (arith, ap length c.self.view_is, length-bits_of c.self.inside.words.items c.self.inside.len) in
    let set = c.first_from-at.ensures.set (omega (arith, c.first_from-at.ensures.within, c.if-at-self.false)) in
    let e : at + 0 ≡ at = omega arith in
    record {
      run = record {
        some = elim (cases_lt 0 n) [
          | inl some ↦ some
          | inr none ↦ let z : n ≡ 0 = omega arith in
              absurd (both_ways (is_loose c.args.self.now at) (rw (z, e) at (c.run_from.ensures.longest (omega arith))) set)
        ];
        most = c.run_from.ensures.most;
        within = c.run_from.ensures.within;
        set = c.run_from.ensures.set;
      };
      low = omega (arith, c.first_from-at.ensures.from, c.first_from-at.ensures.within, c.if-at-self.false, size, c.max.ensures, c.min.ensures);
      first = λ s low high. elim (cases_lt s c.self.inside.lowest) [
        | inl below ↦ (rw c.self.view_is at c.self.invariant.lowest) s (omega arith) (omega (arith, below))
        | inr past ↦ c.first_from-at.ensures.clear s (omega (arith, past, low, c.max.ensures, c.min.ensures))
            (omega (arith, high, c.first_from-at.ensures.from))
      ];
      longest = c.run_from.ensures.longest;
    }
