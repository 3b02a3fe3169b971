use Rattle.std.proofs.Common.{◌≡◌, ◌++◌, take}
use Rattle.aoe_script.specs.Spelling.{words_text}
use Rattle.aoe_script.proofs.print.put_rest.Given as goal

abbrev pub invariant-words : goal.invariant-words
invariant-words l = l.out.items ≡ l.initial.out.items ++ words_text (take l.word-index l.words)
