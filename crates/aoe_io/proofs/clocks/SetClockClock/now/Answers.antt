use Rattle.std.proofs.Common.{◌≡◌, ◌+◌, ◌-◌, ◌^◌, ◌∙◌, ap, arith, min}
use Rattle.aoe_io.specs.Ticking.{ticked}
use Rattle.aoe_io.specs.contracts.clocks.SetClock.{the_view}
use Rattle.aoe_io.proofs.ClockLemmas.{ticked-is, told-next}
use Rattle.aoe_io.proofs.clocks.SetClockClock.now.Goals as goal

pub returns-clause-ticked : goal.returns-clause-ticked
returns-clause-ticked c =
    let clock = c.self.inside in
    let coming_is : c.saturating_add-self-inside.result ≡ min (clock.coming + clock.step) (2 ^ 64 - 1) = omega arith in
    let count_is : c.saturating_add-self-inside-2.result ≡ min (clock.count + 1) (2 ^ 64 - 1) = omega arith in
    rw (count_is) (
    ticked-is (the_view clock) _ _ coming_is (told-next clock.start clock.step clock.count clock.coming c.self.invariant)
    ∙ ap ticked c.self.view_is
    )
