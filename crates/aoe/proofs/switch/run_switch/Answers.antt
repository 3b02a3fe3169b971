-- The run that `run` gives, by the laws of the definition.
use Rattle.std.proofs.Common.{[]}
use Rattle.aoe.proofs.Switched.{switches}
use Rattle.aoe.proofs.switch.run_switch.Goals as goal

pub returns-clause-run : goal.returns-clause-run
returns-clause-run g c some_memory =
    switches c.runs_follow_one_another.ensures.first _ _ _ _ _ _ _ _ _ c.in-Ok.ensures.ports
    (λ inputs. record {
      each = λ vid. c.vlans_are_independent.ensures _ vid inputs;
      access = λ port vid is. c.a_port_gives_frames_of_its_vlan.ensures _ port vid inputs is;
    })
    c.switched_as.ensures (c.run-end.ensures.run [] c.in-Ok.ensures.nothing)
