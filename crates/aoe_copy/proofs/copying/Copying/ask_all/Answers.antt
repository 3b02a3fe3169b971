use Rattle.std.proofs.Common.{refl, sym, ◌∙◌}
use Rattle.aoe_copy.proofs.StepLemmas.{asked-self, asks-more, asks-none, filled}
use Rattle.aoe_copy.proofs.copying.Copying.ask_all.Goals as goal

pub commands-init : goal.commands-init
commands-init c = record {
  fit = c.requires.fit;
  more = c.requires.more;
  waiting = refl;
  asked = λ s seen steps stands keeps well ticked. asked-self stands keeps ticked;
}

pub returns-in-Err-clause-asks : goal.returns-in-Err-clause-asks
returns-in-Err-clause-asks c = λ s seen steps stands keeps well ticked.
    let i = c.commands.invariant in
    asks-none (i.asked s seen steps stands keeps well ticked) well i.fit (sym c.may_ask.ensures ∙ c.commands-test.true)

pub commands-preserved : goal.commands-preserved
commands-preserved c =
    let i = c.commands.invariant in
    record {
      fit = c.in-Ok.ensures.fit;
      more = c.in-Ok.ensures.more;
      waiting = c.in-Ok.ensures.asks.waiting ∙ i.waiting;
      asked = λ s seen steps stands keeps well ticked.
          asks-more (i.asked s seen steps stands keeps well ticked) well i.fit (sym c.may_ask.ensures ∙ c.commands-test.true) c.in-Ok.ensures.asks;
    }

pub returns-clause-asks : goal.returns-clause-asks
returns-clause-asks c = λ s seen steps stands keeps well ticked.
    let i = c.commands.invariant in
    let w = i.asked s seen steps stands keeps well ticked in
    (w, filled w.keeps i.fit (sym c.may_ask.ensures ∙ c.commands-test.false))
