use Rattle.std.proofs.Common.{◌≡◌, ◌≤◌, ◌<◌, ◌-◌, length, take, true}
use Rattle.aoe_system.specs.Named.{are_zeros}
use Rattle.aoe_system.proofs.holes.front_of.Given as goal

-- what was looked at is alike
abbrev pub invariant-sectors : goal.invariant-sectors
invariant-sectors l = record {
  within : l.len ≤ length l.piece;
  some : 0 < length l.piece → 0 < l.len;
  hole : l.is_hole ≡ true → are_zeros (take l.len l.piece) ≡ true;
}

abbrev pub decreases-sectors : goal.decreases-sectors
decreases-sectors l = length l.piece - l.len
