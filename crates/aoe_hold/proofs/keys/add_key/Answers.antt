use Rattle.std.proofs.Common.{◌≡◌, false, rules}
use Rattle.std.specs.Result.{is_err}
use Rattle.aoe_hold.proofs.KeyLemmas.{given-ok, key-more, key-only}
use Rattle.aoe_hold.proofs.keys.add_key.Goals as goal

pub returns-clause-more : goal.returns-clause-more
returns-clause-more c = λ key has.
    let done : is_err c.insert.result ≡ false = search rules in
    key-more c.args.keys.now c.insert.new.self c.of.result key ((given-ok c.insert.result _ done c.insert.ensures.updates).0 key) has

pub returns-clause-only : goal.returns-clause-only
returns-clause-only c =
    let done : is_err c.insert.result ≡ false = search rules in
    λ key has. key-only c.args.keys.now c.insert.new.self c.of.result key c.args.command.now
    ((given-ok c.insert.result _ done c.insert.ensures.updates).0 key) c.of.ensures has
