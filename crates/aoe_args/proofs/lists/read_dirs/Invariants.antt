use Rattle.std.proofs.Common.{map}
use Rattle.aoe_args.specs.Tools.{dir_of}
use Rattle.aoe_base.proofs.EachLemmas.{AreRead}
use Rattle.aoe_args.proofs.lists.read_dirs.Given as goal

abbrev pub invariant-words : goal.invariant-words
invariant-words l = AreRead dir_of (map (λ word. word.now) l.words) l.word-index l.dirs.items
