use Rattle.std.proofs.Common.{◌≡◌, length, arith}
use Rattle.aoe_lists.proofs.ReadLemmas.{read_of_empty}
use Rattle.aoe_lists.proofs.config.empty_config_args.Goals as goal

pub returns-clause-args : goal.returns-clause-args
returns-clause-args c =
    let none : length c.args.lists.now.config ≡ 0 = grind arith in
    read_of_empty c.args.lists.now c.args.facts.now c.args.bytes.now c.front.result none (omega arith) (omega arith) c.front.ensures
