use Rattle.std.proofs.Common.{◌≡◌, true, drop, map}
use Rattle.aoe_base.specs.Addresses.{all_unique}
use Rattle.aoe_lists.specs.Masks.{directive_of, after_directives}
use Rattle.aoe_lists.proofs.masks.edit.Given as goal

-- the directives that are left make of the list what all of them make of the first one; no address stands twice in it
abbrev pub invariant-loop-bytes : goal.invariant-loop-bytes
invariant-loop-bytes l = (after_directives l.masks.items (map directive_of (drop l.bytes-index l.directives)) ≡ after_directives l.fn.masks.items
    (map directive_of l.directives)) × (all_unique l.masks.items ≡ true)
