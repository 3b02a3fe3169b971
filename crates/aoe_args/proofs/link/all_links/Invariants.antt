use Rattle.std.proofs.Common.{◌≡◌, map, take}
use Rattle.aoe_args.specs.Values.{words_of}
use Rattle.aoe_args.proofs.link.all_links.Given as goal

abbrev pub invariant-links : goal.invariant-links
invariant-links l = l.words.items ≡ map words_of (take l.link-index l.links)
