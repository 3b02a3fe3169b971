use Rattle.std.proofs.Common.{◌≡◌, length, map}
use Rattle.aoe_script.specs.Tables.{listed}
use Rattle.aoe_script.proofs.listed.listed.Given as goal

abbrev pub invariant-rows : goal.invariant-rows
invariant-rows g l = listed l.word (map (λ row. (row.0.now, row.1)) l.table) ≡ listed l.word (map (λ row. (row.0.now, row.1)) l.fn.table)

abbrev pub decreases-rows : goal.decreases-rows
decreases-rows g l = length l.table
