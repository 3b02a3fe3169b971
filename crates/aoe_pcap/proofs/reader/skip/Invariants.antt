use Rattle.std.proofs.Common.{◌≡◌, ◌+◌, ℕ, List, length}
use Rattle.aoe_io.specs.Bytes.{Gave}
use Rattle.aoe_pcap.proofs.reader.skip.Given as goal

abbrev pub invariant-pieces : goal.invariant-pieces
invariant-pieces g l = record {
  so_far : (bytes : List ℕ) × (length bytes + l.missing ≡ l.initial.missing) × Gave (g.S.Source.left l.initial.source) (g.S.Source.left l.source) bytes;
  count : g.S.Source.faults l.source ≡ g.S.Source.faults l.initial.source;
}

abbrev pub decreases-pieces : goal.decreases-pieces
decreases-pieces g l = l.missing
