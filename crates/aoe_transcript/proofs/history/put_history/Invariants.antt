use Rattle.std.proofs.Common.{◌≡◌, ◌++◌, reverse, take}
use Rattle.std.specs.List.{flat_map}
use Rattle.aoe_transcript.specs.Print.{entry_text}
use Rattle.aoe_transcript.proofs.history.put_history.Given as goal

abbrev pub invariant-entries : goal.invariant-entries
invariant-entries l = l.out.items ≡ l.initial.out.items ++ flat_map entry_text (take l.i (reverse l.history))
