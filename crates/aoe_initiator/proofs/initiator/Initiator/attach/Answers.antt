use Rattle.std.proofs.Common.{◌≡◌, ◌<◌, ◌∷◌, ◌++◌, [], length, refl, arith, rules}
use Rattle.aoe_paths.specs.PathTable.{new_paths}
use Rattle.aoe_hold.specs.HoldTable.{no_commands}
use Rattle.aoe_initiator.specs.declared.device.Device.{Device}
use Rattle.aoe_initiator.proofs.MatchLemmas.{matches-attached}
use Rattle.aoe_initiator.proofs.SoundLemmas.{sound-attached}
use Rattle.aoe_initiator.proofs.initiator.Initiator.attach.Goals as goal

pub invariant_of-self-2 : goal.invariant_of-self-2
invariant_of-self-2 c =
    let d : Device = record {
      about = record { id = c.args.id; remotes = c.copy_of.result; total = c.args.total; max = c.args.max; flush = c.args.flush };
      holds = no_commands c.self.inside.life.requests.0;
      paths = new_paths c.self.inside.ports.items c.copy_of.result.items;
    } in
    let pushed : c.push_reserved.new.self.items ≡ c.self.inside.devices.items ++ d ∷ [] = rw (← c.in-Ok.ensures) (search rules) in
    let some : 0 < length c.copy_of.result.items = search rules in
    rw pushed (sound-attached c.self.invariant d
    (record { port = some; total = c.requires.total; max = c.requires.max; time = omega arith; ticket = λ g at. absurd cc }))

pub returns-clause-matches : goal.returns-clause-matches
returns-clause-matches c = λ log m.
    let d : Device = record {
      about = record { id = c.args.id; remotes = c.copy_of.result; total = c.args.total; max = c.args.max; flush = c.args.flush };
      holds = no_commands c.self.inside.life.requests.0;
      paths = new_paths c.self.inside.ports.items c.copy_of.result.items;
    } in
    let pushed : c.push_reserved.new.self.items ≡ c.self.inside.devices.items ++ d ∷ [] = rw (← c.in-Ok.ensures) (search rules) in
    matches-attached log _ _ d (rw (← c.self.view_is) at m) refl refl (rw pushed refl)
