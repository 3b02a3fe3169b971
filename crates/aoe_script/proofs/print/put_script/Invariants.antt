use Rattle.std.proofs.Common.{◌≡◌, ◌++◌, take}
use Rattle.std.specs.List.{flat_map}
use Rattle.aoe_script.specs.Print.{event_words, line_text, setup_words}
use Rattle.aoe_script.proofs.print.put_script.Given as goal

abbrev pub invariant-setups : goal.invariant-setups
invariant-setups l = l.out.items ≡ l.initial.out.items ++ flat_map (λ setup. line_text (setup_words setup)) (take l.i l.script.setups)

abbrev pub invariant-events : goal.invariant-events
invariant-events l = l.out.items ≡ l.initial.out.items ++ flat_map (λ event. line_text (event_words event)) (take l.i l.script.events)
