use Rattle.std.proofs.Common.{◌≡◌, ◌≤◌, ◌++◌, length, map}
use Rattle.aoe_script.specs.Words.{words}
use Rattle.aoe_script.proofs.words.Words.of.Given as goal

abbrev pub invariant-words : goal.invariant-words
invariant-words l = record {
  few : length l.list.items ≤ 7;
  so_far : words l.fn.line ≡ map (λ word. word.now) l.list.items ++ words l.rest;
}

abbrev pub decreases-words : goal.decreases-words
decreases-words l = length l.rest
