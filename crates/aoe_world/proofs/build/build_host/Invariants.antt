use Rattle.std.specs.Prelude.{unwrap_or}
use Rattle.aoe_initiator.specs.Defaults.{default_dead, default_room}
use Rattle.aoe_sim_setup.specs.Layout.{setup_of}
use Rattle.aoe_world.proofs.BuildHost.{HostSoFar}
use Rattle.aoe_world.proofs.build.build_host.Given as goal

-- the host is attached to the devices of the lines before
abbrev pub invariant-lines : goal.invariant-lines
invariant-lines l =
    HostSoFar l.script.setups l.line.name l.line.ports (setup_of l.script.setups).life (unwrap_or l.line.room default_room)
    (unwrap_or l.line.dead default_dead) l.i l.host
