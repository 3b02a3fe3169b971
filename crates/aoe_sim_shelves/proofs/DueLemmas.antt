-- Which call of an armed disk fails, in calls of the disk and in frames of the slot.
use Rattle.std.proofs.Common.{◌≡◌, ℕ, Bool, true, Option, None, is_none, arith}
use Rattle.std.proofs.lemmas.Bool.Decides.{nat_tests}
use Rattle.std.specs.Prelude.{MatchBool}
use Rattle.std.specs.Option.{option_map}
use Rattle.aoe_cache.specs.Any.{any_state, any_under}
use Rattle.aoe_cache.specs.declared.any.AnyStore.{AnyStore}
use Rattle.aoe_disk.specs.Calls.{IsRun, MovesOn}
use Rattle.aoe_disk.specs.Memory.{state_of, Memory}
use Rattle.aoe_disk.specs.State.{BothTell, Schedule}
use Rattle.aoe_store.specs.Under.{CallsUnder}
use Rattle.aoe_history.specs.declared.entry.Fate.{Fate}
use Rattle.aoe_history.specs.ShelfLaw.{one_more, IsStrike, IsStruckInTurn, IsStruckOnce, Stretch}
use Rattle.aoe_history.specs.Slots.{is_struck, Slot}
use Rattle.aoe_script.specs.declared.event.Which.{Which}
use Rattle.aoe_script.specs.declared.event.Which.TheVariants.{Store}
use Rattle.aoe_sim_shelves.specs.Shelf.{calls_per, stop_in, IsDue, IsStoreDue, HasCache}

-- where a call failed, the power was lost in it just where the disk is armed for that
abbrev pub Strikes : Bool → Option Stretch → Fate → Type 0
Strikes failed x fate = failed ≡ true → (z : Stretch) → z.mode ≡ stop_in x → IsStrike z fate

-- a disk that is called as often by each frame: the calls fail where they are to, and it is armed as after one frame more, unless its
-- stop was reached
module _ (which : Which) {failed : Bool} {before after : ℕ} {d e : Schedule} (run : MovesOn (calls_per which) failed before after d e)
    (x : Option Stretch) (due : IsDue which x d) (fate : Fate) where
  pub struck-in-turn : is_struck fate ≡ failed → Strikes failed x fate → IsStruckInTurn which x fate
  struck-in-turn is strikes = grind (arith, nat_tests, run.due)

  pub due-then : (failed ≡ true → stop_in x ≡ None) → IsDue which (option_map (one_more fate) x) e
  due-then running = grind (arith, nat_tests, run.due, run.kind)

-- either store: the disk of one with a cache may be called any number of times, and one call at most fails after an arming
module _ (x : Option Stretch) (fate : Fate) (failed : Bool) (is : is_struck fate ≡ failed) where
  pub struck-store : (n : ℕ) (z : Slot) (cache : Option ℕ) (s t : AnyStore Memory) → HasCache n cache z (any_under state_of s) → IsStoreDue x s
      → IsRun 1 failed (any_state state_of s) (any_state state_of t) → BothTell (CallsUnder failed) (any_under state_of s) (any_under state_of t)
      → Strikes failed x fate → MatchBool (is_none cache) (IsStruckInTurn Store x fate) (IsStruckOnce x fate)
  struck-store n z cache s t u due run calls strikes = grind (arith, nat_tests, run.schedule, calls)

  pub due-store-then : (s t : AnyStore Memory) → IsStoreDue x s → IsRun 1 failed (any_state state_of s) (any_state state_of t)
      → BothTell (CallsUnder failed) (any_under state_of s) (any_under state_of t) → (failed ≡ true → stop_in x ≡ None)
      → IsStoreDue (option_map (one_more fate) x) t
  due-store-then s t due run calls running = grind (arith, nat_tests, run.schedule, calls)
