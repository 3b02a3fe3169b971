use Rattle.std.proofs.Common.{ℕ, List, length, sym, ap, ◌∙◌, nat_lt}
use Rattle.aoe_hold.proofs.HoldLemmas.{index-clear}
use Rattle.aoe_hold.proofs.TableLemmas.{clear-recalls, time-of}
use Rattle.aoe_hold.proofs.WaitLemmas.{none-ready, some-ready}
use Rattle.aoe_hold.proofs.holds.Holds.clear_from.Goals as goal

pub returns-in-Some-clause-time : goal.returns-in-Some-clause-time
returns-in-Some-clause-time g c = λ entered recalls now later small.
    ap (λ (l : List ℕ). nat_lt 0 (length l)) (sym (clear-recalls c.self.view_is now later entered recalls))
    ∙ ap (λ (n : ℕ). nat_lt 0 n) (index-clear now (time-of c.self.view_is now later) c.self.invariant.1)
    ∙ some-ready _ now c.self.inside.ready.items c.in-Some.field-0.now c.in-Some.ensures.value

pub returns-in-None-clause-time : goal.returns-in-None-clause-time
returns-in-None-clause-time g c = λ entered recalls now later small.
    ap (λ (l : List ℕ). nat_lt 0 (length l)) (sym (clear-recalls c.self.view_is now later entered recalls))
    ∙ ap (λ (n : ℕ). nat_lt 0 n) (index-clear now (time-of c.self.view_is now later) c.self.invariant.1
    ∙ none-ready _ c.self.inside.ready.items c.in-None.ensures.value)
    ∙ c.first_time.ensures.time now small
