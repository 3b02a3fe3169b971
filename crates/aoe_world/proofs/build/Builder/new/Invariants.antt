use Rattle.aoe_world.proofs.BuildStations.{IsBegun}
use Rattle.aoe_world.proofs.build.Builder.new.Given as goal

-- the stations of the lines before are built
abbrev pub invariant-lines : goal.invariant-lines
invariant-lines l = IsBegun l.script l.builder.script.now l.i l.builder.sim l.builder.places.items
