use Rattle.std.proofs.Common.{◌≤◌, length}
use Rattle.aoe_base.specs.Names.{mac_of}
use Rattle.aoe_script.proofs.CommaLemmas.{commas}
use Rattle.aoe_base.proofs.EachLemmas.{AreRead}
use Rattle.aoe_script.proofs.parts.macs_of.Given as goal

abbrev pub invariant-parts : goal.invariant-parts
invariant-parts l = record {
  can : (goal.iterator-parts).can_next l.part-iterator;
  ends : (goal.iterator-parts).is_finite l.part-iterator;
  few : length l.macs.items ≤ 64;
  so_far : AreRead mac_of (commas l.fn.text) (length l.yielded) l.macs.items;
}
