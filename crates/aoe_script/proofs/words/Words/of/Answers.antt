use Rattle.std.proofs.Common.{rules, map}
use Rattle.std.proofs.lemmas.List.{length-map}
use Rattle.aoe_script.proofs.WordLemmas.{full_list, ended_list}
use Rattle.aoe_script.proofs.words.Words.of.Goals as goal
use Rattle.aoe_script.proofs.words.Words.of.Goals.{in-Some+then-is_full, in_default}

pub returns : goal.returns
returns c =
    elim c.match-next_word.branch [
      | in-Some+then-is_full w ↦ full_list c.args.line.now (map (λ word. word.now) c.words.list.items) _ c.words.invariant.so_far (search (rules, length-map))
      | in_default w ↦ ended_list c.args.line.now (map (λ word. word.now) c.words.list.items) _ c.words.invariant.so_far (search rules)
          (search (rules, length-map))
    ]
