use Rattle.std.proofs.Common.{◌≡◌, ◌∙◌, List, Some, reverse, ap, subst}
use Rattle.std.specs.Prelude.{slice_get}
use Rattle.aoe_history.specs.declared.entry.Entry.{Entry}
use Rattle.aoe_live.specs.declared.recorder.Recorder.{Recorder}
use Rattle.aoe_live.proofs.EntryLemmas.{entry-at}
use Rattle.aoe_live.proofs.PassLemmas.{passed-one}
use Rattle.aoe_live.proofs.recorder.Recorder.pass_on.Goals as goal

pub entries-preserved : goal.entries-preserved
entries-preserved g c =
    let before = c.entries.invariant in
    let h : List Entry = c.args.self.now.world.entries in
    let P : List Entry → Type 0 = λ l. slice_get (reverse l) c.entries.i ≡ Some c.entry-entry.result.now in
    let here = subst P (c.history-in-entries.ensures.history ∙ ap (λ (r : Recorder). r.world.entries) before.rest) c.entry-entry.ensures in
    record {
      passing = passed-one h c.args.self.now.told c.entries.i c.entry-entry.result.now c.entries.self.tally c.note.new.self _ _ _ _ _ _
          (entry-at h c.entries.i c.entry-entry.result.now here) before.passing c.note.ensures c.in-Ok.ensures.took c.in-Ok-send_of.ensures.took;
      rest = ap (λ (r : Recorder). record r { tally = c.note.new.self }) before.rest;
      given_one = c.in-Ok.ensures.given ∙ before.given_one;
      given_two = c.in-Ok-send_of.ensures.given ∙ before.given_two;
      turns_one = c.in-Ok.ensures.turns ∙ before.turns_one;
      turns_two = c.in-Ok-send_of.ensures.turns ∙ before.turns_two;
      faults_one = c.in-Ok.ensures.no_fault ∙ before.faults_one;
      faults_two = c.in-Ok-send_of.ensures.no_fault ∙ before.faults_two;
    }
