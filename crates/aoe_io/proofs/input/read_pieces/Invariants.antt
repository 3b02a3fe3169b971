use Rattle.std.proofs.Common.{◌≡◌, ◌+◌, ◌-◌, length}
use Rattle.aoe_io.proofs.InputLemmas.{IsBegun}
use Rattle.aoe_io.proofs.input.read_pieces.Given as goal

abbrev pub invariant-pieces : goal.invariant-pieces
invariant-pieces g l = record {
  so_far : IsBegun l.initial.most (g.S.Source.left l.initial.source) (g.S.Source.left l.source) l.input.items;
  count : g.S.Source.faults l.source ≡ g.S.Source.faults l.initial.source;
}

abbrev pub decreases-pieces : goal.decreases-pieces
decreases-pieces g l = l.initial.most + 1 - length l.input.items
