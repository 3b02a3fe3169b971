use Rattle.std.proofs.Common.{◌≡◌, length}
use Rattle.aoe.proofs.open_links.Given as goal

abbrev pub invariant-ends : goal.invariant-ends
invariant-ends l = length l.links.items ≡ l.words-index
