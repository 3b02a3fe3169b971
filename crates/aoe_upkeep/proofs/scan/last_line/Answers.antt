use Rattle.std.proofs.Common.{◌++◌, ◌∷◌, [], List, codes, decimal, sym, ℕ}
use Rattle.std.proofs.lemmas.List.{append_assoc}
use Rattle.aoe_upkeep.proofs.scan.last_line.Goals as goal

pub returns : goal.returns
returns c =
    let all : List ℕ = decimal c.args.count ++ codes " of " ++ decimal c.args.sectors in
    let end : List ℕ = 10 ∷ [] in
    rw (c.append-2.ensures, c.put_number-2.ensures.put, c.append.ensures, c.put_number.ensures.put, c.new-out.ensures)
    (sym (append_assoc all (codes " sectors differ") end))
