use Rattle.std.proofs.Common.{◌≡◌, drop}
use Rattle.aoe_live.specs.Frames.{newest}
use Rattle.aoe_live.proofs.frames.newest.Given as goal

abbrev pub invariant-entries : goal.invariant-entries
invariant-entries l = newest l.sender 2000 l.history l.frame ≡ newest l.sender l.left (drop l.back l.history) l.frame
