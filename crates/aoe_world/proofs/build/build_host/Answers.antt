use Rattle.std.proofs.Common.{arith}
use Rattle.aoe_world.proofs.BuildHost.{device-can, host-begun, host-built, host-more, ranges, words-of}
use Rattle.aoe_world.proofs.build.build_host.Goals as goal

pub overflow_cast-room : goal.overflow_cast-room
overflow_cast-room c = let words = words-of c.setups-count.ensures.script c.requires.0 c.requires.1 in
    omega (arith, words.room, rw c.from.ensures at c.unwrap_or-room.ensures)

pub new-requires : goal.new-requires
new-requires c =
    let words = words-of c.setups-count.ensures.script c.requires.0 c.requires.1 in
    record {
      port = words.ports.some;
      differ = words.ports.distinct;
      requests = rw c.life_of-life.ensures (ranges c.setups-count.ensures.script).requests;
      responses = rw c.life_of-life.ensures (ranges c.setups-count.ensures.script).responses;
      some_room = rw (c.unwrap_or-room.ensures, c.from.ensures) words.some_room;
      room = rw (c.unwrap_or-room.ensures, c.from.ensures) words.room;
      dead = rw c.unwrap_or.ensures words.some_time;
    }

pub lines-init : goal.lines-init
lines-init c =
    host-begun (rw (c.copy_of.ensures, c.life_of-life.ensures, c.unwrap_or-room.ensures, c.from.ensures, c.unwrap_or.ensures) at c.in_ok-host.ensures.value)
    c.in_ok-host.ensures.matches

pub attach-requires : goal.attach-requires
attach-requires c = record {
  can = device-can c.setups-count.ensures.script c.requires.0 c.requires.1 c.setup.ensures.setup c.lines.invariant c.attached_to.result c.attached_to.ensures;
}

pub lines-preserved : goal.lines-preserved
lines-preserved c =
    host-more c.setup.ensures.setup c.lines.invariant c.attached_to.ensures
    c.in_ok-attach.ensures.devices c.in_ok-attach.ensures.rest c.in_ok-attach.ensures.matches

pub returns : goal.returns
returns c =
    host-built c.setups-count.ensures.script c.requires.0 c.requires.1
    (omega (arith, c.lines.auto.i-end, c.lines-test.false, c.setups-count.ensures.count)) c.lines.invariant
