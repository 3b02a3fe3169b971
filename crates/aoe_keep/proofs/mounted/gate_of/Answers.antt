use Rattle.std.proofs.Common.{◌≡◌, ◌∷◌, ℕ, Bool, replicate, if◌then◌else◌}
use Rattle.aoe_keep.specs.Calls.{gate}
use Rattle.aoe_keep.proofs.mounted.gate_of.Goals as goal
use Rattle.aoe_keep.proofs.mounted.gate_of.Goals.{then-opens, else-opens}

first : (x : ℕ) (opens : Bool) → x ≡ (if opens then 0xa7 else 0) → x ∷ replicate 511 0 ≡ gate opens
unfolding gate
first x opens e = λ i. e i ∷ replicate 511 0

pub returns-clause-bytes : goal.returns-clause-bytes
returns-clause-bytes c = elim c.if-opens.branch [
  | then-opens w ↦ first c.if-opens.gate c.args.opens (rw w.if-opens.true w.gate-is)
  | else-opens w ↦ first c.if-opens.gate c.args.opens (rw w.if-opens.false w.gate-is)
]
