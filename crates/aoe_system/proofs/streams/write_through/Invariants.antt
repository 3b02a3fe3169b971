use Rattle.std.specs.Io.KnownBytes.{Keeps}
use Rattle.aoe_system.proofs.streams.write_through.Given as goal

-- what was interrupted took nothing
abbrev pub invariant-tries : goal.invariant-tries
invariant-tries g l = Keeps (g.W.Write.contents l.initial.writer) (g.W.Write.contents l.writer)
