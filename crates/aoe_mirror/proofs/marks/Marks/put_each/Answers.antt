use Rattle.std.proofs.Common.{◌≡◌, ◌+◌, ◌-◌, ◌∙◌, ℕ, Bool, List, false, length, set, ap, sym, arith, inl, inr}
use Rattle.std.proofs.lemmas.Bool.{cases_lt}
use Rattle.aoe_mirror.specs.Marks.{bits_of, with_each}
use Rattle.aoe_mirror.proofs.Bits.{clear_through, each_more, length-bits_of, length-with_each, marks_from}
use Rattle.aoe_mirror.proofs.marks.Marks.put_each.Goals as goal

pub each-preserved : goal.each-preserved
each-preserved c =
    let k : ℕ = c.each.s - c.args.at in
    let here : c.args.at + k ≡ c.each.s = omega arith in
    let next : c.each.s + 1 - c.args.at ≡ k + 1 = omega arith in
    c.put.ensures ∙ ap (λ (l : List Bool). set l c.each.s c.args.value) c.each.invariant
    ∙ ap (λ (i : ℕ). set (with_each c.args.self.now c.args.at k c.args.value) i c.args.value) (sym here)
    ∙ each_more c.args.self.now c.args.at k c.args.value (omega arith)
    ∙ ap (λ (m : ℕ). with_each c.args.self.now c.args.at m c.args.value) (sym next)

pub invariant_of-self : goal.invariant_of-self
invariant_of-self c =
    let m = c.self.inside in
    let n : ℕ = c.args.n in
    let whole : c.each.s - c.args.at ≡ n = omega arith in
    let off : c.args.value ≡ false = c.if-not-value.true in
    let is : bits_of m.words.items m.len ≡ with_each c.args.self.now c.args.at n false =
    c.self.view_is ∙ c.each.invariant ∙ ap (λ (k : ℕ). with_each c.args.self.now c.args.at k c.args.value) whole
    ∙ ap (λ (v : Bool). with_each c.args.self.now c.args.at n v) off in
    let size = length-with_each c.args.self.now c.args.at n false c.requires.within in
    let long = length-bits_of m.words.items m.len in
    let same = ap length is in
    marks_from m.words.items m.len m.count m.lowest _ c.self.invariant (omega (arith, c.max-self-inside.ensures, c.self.invariant.low, c.requires.within))
    (rw is (clear_through c.args.self.now c.args.at n m.lowest c.max-self-inside.result c.requires.within (rw is at c.self.invariant.lowest) c.if-at-self.true
    (elim (cases_lt m.lowest (c.args.at + n)) [
      | inl below ↦ inr (omega (arith, c.max-self-inside.ensures))
      | inr past ↦ inl (omega (arith, c.max-self-inside.ensures))
    ])))
