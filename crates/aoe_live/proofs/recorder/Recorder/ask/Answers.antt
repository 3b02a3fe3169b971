use Rattle.std.proofs.Common.{ap, ◌∙◌, subst, sym}
use Rattle.aoe_script.specs.Rules.{event_why}
use Rattle.aoe_live.specs.Recorder.{IsShort}
use Rattle.aoe_live.specs.Stations.{stations}
use Rattle.aoe_live.proofs.GoodLemmas.{command-good}
use Rattle.aoe_live.proofs.TextLemmas.{command-short}
use Rattle.aoe_live.proofs.recorder.Recorder.ask.Goals as goal

pub line-requires-clause-good : goal.line-requires-clause-good
line-requires-clause-good g c =
    let f = c.requires.kept.follows in
    ap (event_why (stations c.args.self.now.sectors)) c.command.ensures
    ∙ command-good c.args.self.now.sectors c.args.self.now.commands c.args.self.now.tally.begun f.some f.most

pub line-requires-clause-short : goal.line-requires-clause-short
line-requires-clause-short g c =
    let f = c.requires.kept.follows in
    subst IsShort (sym c.command.ensures) (command-short c.args.self.now.sectors c.args.self.now.commands c.args.self.now.tally.begun f.some f.most)
