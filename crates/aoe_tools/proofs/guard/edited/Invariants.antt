use Rattle.std.proofs.Common.{◌≡◌, ◌≤◌, ◌+◌, drop, length}
use Rattle.aoe_tools.specs.Guard.{edited, masks_in}
use Rattle.aoe_tools.proofs.guard.edited.Given as goal

-- the directives that are left make of the list what all of them make of the one that was read
abbrev pub invariant-dirs : goal.invariant-dirs
invariant-dirs l = record {
  rest : edited l.list.items (drop l.dir-index l.fn.dirs) ≡ edited (masks_in l.fn.args.items) l.fn.dirs;
  few : length l.list.items ≤ 256 + l.dir-index;
}
