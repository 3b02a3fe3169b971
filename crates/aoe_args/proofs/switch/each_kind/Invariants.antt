use Rattle.std.proofs.Common.{◌≡◌, map, true}
use Rattle.std.specs.List.{list_all}
use Rattle.aoe_base.proofs.EachLemmas.{AreRead}
use Rattle.aoe_vlan.specs.Tag.{is_numbered}
use Rattle.aoe_args.specs.Switching.{kind_of}
use Rattle.aoe_args.proofs.switch.each_kind.Given as goal

abbrev pub invariant-words : goal.invariant-words
invariant-words l = record {
  so_far : AreRead kind_of (map (λ word. word.now) l.words) l.word-index l.kinds.items;
  numbers : list_all is_numbered l.kinds.items ≡ true;
}
