-- The list was read, and what holds the edit back is what the definition says.
use Rattle.std.proofs.Common.{refl}
use Rattle.std.specs.Prelude.{Ok}
use Rattle.aoe_tools.proofs.lists.edit_guarded.Goals as goal

pub returns-in-Some-clause-run : goal.returns-in-Some-clause-run
returns-in-Some-clause-run g c = record {
  mid = record { turns = g.L.Link.turns c.ask_masks.new.link; given = g.L.Link.given c.ask_masks.new.link; taken = g.L.Link.taken c.ask_masks.new.link };
  list = Ok c.in-Ok.list;
  reads = c.in-Ok.ensures.run;
  edits = rw (← c.in-Some.ensures) (refl, refl);
}

pub returns-in-None-clause-run : goal.returns-in-None-clause-run
returns-in-None-clause-run g c = record {
  mid = record { turns = g.L.Link.turns c.ask_masks.new.link; given = g.L.Link.given c.ask_masks.new.link; taken = g.L.Link.taken c.ask_masks.new.link };
  list = Ok c.in-Ok.list;
  reads = c.in-Ok.ensures.run;
  edits = rw (← c.in-None.ensures) c.ask_masks-in-None.ensures.run;
}
