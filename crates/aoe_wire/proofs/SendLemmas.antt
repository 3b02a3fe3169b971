-- The calls by which a frame is given to peers, one after the other.
use Rattle.std.proofs.Common.{ℕ, zero, suc, ◌≡◌, ◌<◌, ◌+◌, ◌-◌, ◌^◌, List, [], ◌∷◌, ◌++◌, length, Option, Some, None, Result, Ok, Err, refl, arith, inl, inr, add-one, subst, sym}
use Rattle.aoe_base.specs.declared.failure.Failed.{Failed}
use Rattle.aoe_io.specs.Link.{Added}
use Rattle.aoe_io.proofs.LinkLemmas.{Added-then}
use Rattle.aoe_wire.specs.Calls.{Giving}
use Rattle.aoe_wire.specs.Sends.{AreInterrupted, answer_of, GaveFirst, GivesEach, GivesOne}
use Rattle.aoe_wire.specs.declared.medium.Given.{Given}
use Rattle.aoe_wire.specs.declared.medium.Given.TheVariants as given

added-nothing : (a : Option (List Giving)) → Added a a []
added-nothing None = refl
added-nothing (Some l) = refl

-- so many calls that give a peer a frame were interrupted
pub record Interrupted (before after : Option (List Giving)) (peer : ℕ) (bytes : List ℕ) (calls : ℕ) : Type 0 where
  pub givings : List Giving
  pub added : Added before after givings
  pub each : AreInterrupted peer bytes givings
  pub count : length givings ≡ calls

pub begins : (a : Option (List Giving)) (peer : ℕ) (bytes : List ℕ) → Interrupted a a peer bytes 0
begins a peer bytes = record { givings = []; added = added-nothing a; each = tt; count = refl }

module _ (a b c : Option (List Giving)) (peer : ℕ) (bytes : List ℕ) (calls : ℕ) (i : Interrupted a b peer bytes calls) where
  pub again : Added b c (record { peer = peer; frame = bytes; came = given.Interrupted } ∷ []) → Interrupted a c peer bytes (calls + 1)
  again more = record {
    givings = record { peer = peer; frame = bytes; came = given.Interrupted } ∷ i.givings;
    added = Added-then a b c i.givings (record { peer = peer; frame = bytes; came = given.Interrupted } ∷ []) i.added more;
    each = (refl, i.each);
    count = omega (arith, i.count);
  }

  pub ended : (came : Given) (result : Result Unit Failed) → Added b c (record { peer = peer; frame = bytes; came = came } ∷ [])
      → answer_of came ≡ Some result → (givings : List Giving) × Added a c givings × GivesOne peer bytes result givings
  ended came result more e = (
    record { peer = peer; frame = bytes; came = came } ∷ i.givings,
    Added-then a b c i.givings (record { peer = peer; frame = bytes; came = came } ∷ []) i.added more,
    (refl, refl, i.each, inl e),
  )

pub exhausted : (a b : Option (List Giving)) (peer : ℕ) (bytes : List ℕ) (calls : ℕ) → calls ≡ 2 ^ 64 - 1 → Interrupted a b peer bytes calls
    → (givings : List Giving) × Added a b givings × GivesOne peer bytes (Err record {}) givings
exhausted a b peer bytes calls all i = (i.givings, i.added, go i.givings i.each i.count)
  where
    go : (givings : List Giving) → AreInterrupted peer bytes givings → length givings ≡ calls → GivesOne peer bytes (Err record {}) givings
    go [] each count = let none : 0 ≡ 2 ^ 64 - 1 = omega (arith, count, all) in cc
    go (latest ∷ givings) each count =
        rw each.0 (refl, refl, each.1, inr (refl, omega (arith, count, all)))

-- each of the first so many peers was given the frame
pub record SoFar (before after : Option (List Giving)) (bytes : List ℕ) (peers : ℕ) : Type 0 where
  pub givings : List Giving
  pub added : Added before after givings
  pub gave : GaveFirst peers bytes givings

pub starts : (a : Option (List Giving)) (bytes : List ℕ) → SoFar a a bytes 0
starts a bytes = record { givings = []; added = added-nothing a; gave = refl }

module _ (a b c : Option (List Giving)) (bytes : List ℕ) (peer : ℕ) (s : SoFar a b bytes peer) where
  pub one-more : ((givings : List Giving) × Added b c givings × GivesOne peer bytes (Ok record {}) givings) → SoFar a c bytes (peer + 1)
  one-more one = record {
    givings = one.0 ++ s.givings;
    added = Added-then a b c s.givings one.0 s.added one.1;
    gave = rw add-one (one.0, s.givings, refl, one.2, s.gave);
  }

  pub fails : (peers : ℕ) → peer < peers → ((givings : List Giving) × Added b c givings × GivesOne peer bytes (Err record {}) givings)
      → (givings : List Giving) × Added a c givings × GivesEach peers bytes (Err record {}) givings
  fails peers below one =
      (one.0 ++ s.givings, Added-then a b c s.givings one.0 s.added one.1, (peer, below, one.0, s.givings, refl, one.2, s.gave))

pub gave-all : (a b : Option (List Giving)) (bytes : List ℕ) (peer peers : ℕ) → peer ≡ peers → SoFar a b bytes peer
    → (givings : List Giving) × Added a b givings × GivesEach peers bytes (Ok record {}) givings
gave-all a b bytes peer peers e s = (s.givings, s.added, subst (λ n. GaveFirst n bytes s.givings) e s.gave)
