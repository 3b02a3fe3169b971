use Rattle.std.proofs.Common.{ℕ, ◌≡◌, List, [], ◌∷◌, ◌++◌, ap, ◌∙◌}
use Rattle.aoe_sim_tests.proofs.hosts.name.Goals as goal
use Rattle.aoe_script.specs.Classes.{is_name}

pub returns : goal.returns
unfolding is_name
returns c =
    let is : c.push.new.self.items ≡ 97 ∷ [] = c.push.ensures.items ∙ ap (λ (l : List ℕ). l ++ 97 ∷ []) c.new-name.ensures in
    ap (λ (l : List ℕ). is_name (record { items = l })) is
