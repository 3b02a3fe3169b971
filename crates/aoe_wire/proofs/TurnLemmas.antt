-- The calls of a turn, one after the other.
use Rattle.std.proofs.Common.{ℕ, ◌≡◌, ◌+◌, ◌-◌, ◌^◌, List, [], ◌∷◌, ◌++◌, length, Option, Some, None, Result, Ok, refl, sym, arith, inl, inr}
use Rattle.std.specs.Prelude.{IsSome}
use Rattle.aoe_base.specs.declared.failure.Failed.{Failed}
use Rattle.aoe_io.specs.declared.links.Got.{Got}
use Rattle.aoe_io.specs.declared.links.Got.TheVariants as got
use Rattle.aoe_io.specs.Link.{Added}
use Rattle.aoe_io.proofs.LinkLemmas.{Added-then}
use Rattle.aoe_wire.specs.Calls.{Taking}
use Rattle.aoe_wire.specs.Turns.{answer_of, goes_on, GoesOn, IsTurn}
use Rattle.aoe_wire.specs.declared.medium.Taken.{Taken}
use Rattle.aoe_wire.specs.declared.medium.Taken.TheVariants as taken

-- after so many calls of a turn, none of which ended it
pub record Going (before after : Option (List Taking)) (begun : Option ℕ) (calls : ℕ) : Type 0 where
  pub takings : List Taking
  pub added : Added before after takings
  pub goes : GoesOn begun takings
  pub count : length takings ≡ calls

added-nothing : (a : Option (List Taking)) → Added a a []
added-nothing None = refl
added-nothing (Some l) = refl

pub begins : (a : Option (List Taking)) → Going a a None 0
begins a = record { takings = []; added = added-nothing a; goes = refl; count = refl }

module _ (a b c : Option (List Taking)) (begun : Option ℕ) (calls : ℕ) (frame : List ℕ) (g : Going a b begun calls) where
  -- something was dropped, and the turn goes on
  pub goes-on : (at begun' : Option ℕ) → Added b c (record { what = taken.Dropped at; frame = frame } ∷ []) → begun' ≡ goes_on begun at → IsSome begun'
      → Going a c begun' (calls + 1)
  goes-on at begun' more e some = record {
    takings = record { what = taken.Dropped at; frame = frame } ∷ g.takings;
    added = Added-then a b c g.takings (record { what = taken.Dropped at; frame = frame } ∷ []) g.added more;
    goes = (begun, at, g.goes, refl, e, some);
    count = omega (arith, g.count);
  }

  -- a call ended it
  pub ended : (what : Taken) (result : Result Got Failed) → Added b c (record { what = what; frame = frame } ∷ []) → answer_of begun what ≡ Some result
      → (takings : List Taking) × Added a c takings × IsTurn result frame takings
  ended what result more e = (
    record { what = what; frame = frame } ∷ g.takings,
    Added-then a b c g.takings (record { what = what; frame = frame } ∷ []) g.added more,
    (begun, g.goes, record { answer = inl e; same = λ _. refl }),
  )

  -- something was dropped, and the turn is over
  pub over : (at : Option ℕ) → Added b c (record { what = taken.Dropped at; frame = frame } ∷ []) → None ≡ goes_on begun at
      → (takings : List Taking) × Added a c takings × IsTurn (Ok got.Quiet) frame takings
  over at more e = ended (taken.Dropped at) (Ok got.Quiet) more (rw (sym e) refl)

-- it has had as many calls as it may
pub exhausted : (a b : Option (List Taking)) (begun : Option ℕ) (calls : ℕ) (frame : List ℕ) → calls ≡ 2 ^ 64 - 1 → Going a b begun calls
    → (takings : List Taking) × Added a b takings × IsTurn (Ok got.Quiet) frame takings
exhausted a b begun calls frame all g = (g.takings, g.added, go g.takings g.goes g.count)
  where
    go : (takings : List Taking) → GoesOn begun takings → length takings ≡ calls → IsTurn (Ok got.Quiet) frame takings
    go [] goes count = let none : 0 ≡ 2 ^ 64 - 1 = omega (arith, count, all) in cc
    go (latest ∷ takings) goes count = (goes.0, goes.2, record { answer = inr (refl, omega (arith, count, all)); same = λ e. cc })
