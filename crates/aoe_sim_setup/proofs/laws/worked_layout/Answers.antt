use Rattle.std.proofs.Common.{ℕ, suc, ◌≡◌, ◌<◌, false, [], ◌∷◌, take, All, None, refl, arith}
use Rattle.std.specs.Prelude.{slice_get, IfSome}
use Rattle.std.proofs.lemmas.List.Elements.{All-cons, All-from_recursion, All-nil}
use Rattle.aoe_history.specs.Example.{port}
use Rattle.aoe_script.specs.Classes.{is_name}
use Rattle.aoe_script.specs.Rules.{are_ports, setup_why}
use Rattle.aoe_script.specs.Types.{FitsEvent, FitsSetup, IsAddress, IsByte}
use Rattle.aoe_sim_setup.specs.Example.{lines}
use Rattle.aoe_sim_setup.proofs.laws.worked_layout.Goals as goal

each-good : (k : ℕ) → IfSome (slice_get lines k) (λ line. setup_why (take k lines) false line ≡ None)
unfolding setup_why are_ports is_name
each-good (suc (suc (suc (suc (suc (suc k)))))) = tt
each-good _ = refl

one-fits : (n : ℕ) → n < 256 → All IsAddress (port n ∷ [])
one-fits n small =
    All-cons IsAddress (port n) []
    record { six = refl; bytes = All-from_recursion IsByte (port n).0 (omega arith, (omega arith, (omega arith, (omega arith, (omega arith, (small, tt)))))) }
    (All-nil IsAddress)

pub returns-clause-script : goal.returns-clause-script
returns-clause-script c = record {
  setups = each-good;
  events = λ k. tt;
  few_setups = omega arith;
  few_events = omega arith;
  setups_fit = All-from_recursion FitsSetup lines (one-fits 11 (omega arith), (one-fits 1 (omega arith), (tt, (tt, (one-fits 10 (omega arith), (tt, tt))))));
  events_fit = All-nil FitsEvent;
}
