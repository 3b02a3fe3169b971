use Rattle.std.proofs.Common.{◌≡◌, rules, arith}
use Rattle.std.proofs.lemmas.Grind.{common_steps}
use Rattle.aoe_base.specs.Names.{device_text}
use Rattle.aoe_ata.proofs.SerialLemmas.{filled-by}
use Rattle.aoe_ata.proofs.serial.serial_number.Goals as goal

pub returns : goal.returns
returns c =
    let name : c.append-4.new.name.items ≡ device_text c.args.id = grind (arith, common_steps) in
    filled-by (device_text c.args.id) c.copy_from_slice.new.self c.append-4.new.name.items c.len.result name (search rules) c.len.ensures.value
