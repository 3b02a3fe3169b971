-- A frame that is sent to each peer.
use Rattle.std.specs.Prelude.{ℕ, zero, suc, ◌≡◌, ◌<◌, ◌-◌, ◌^◌, ◌⊎◌, List, [], ◌∷◌, ◌++◌, length, Option, Some, None, Result, Ok, Err}
use Rattle.aoe_base.specs.declared.failure.Failed.{Failed}
use Rattle.aoe_wire.specs.Calls.{Giving}
use Rattle.aoe_wire.specs.declared.medium.Given.{Given}
use Rattle.aoe_wire.specs.declared.medium.Given.TheVariants as given

-- what a call answers that is the last to a peer; one that was interrupted is made again
abbrev pub answer_of : Given → Option (Result Unit Failed)
answer_of given.Sent = Some (Ok record {})
answer_of given.Lost = Some (Ok record {})
answer_of given.Fault = Some (Err record {})
answer_of given.Interrupted = None

-- these calls gave a peer a frame, and were interrupted
abbrev pub AreInterrupted : ℕ → List ℕ → List Giving → Type 0
AreInterrupted peer frame [] = Unit
AreInterrupted peer frame (giving ∷ givings) =
    (giving ≡ record { peer = peer; frame = frame; came = given.Interrupted }) × AreInterrupted peer frame givings

-- a frame was given to a peer, by these calls, the latest first: by one, before which calls were interrupted. Where it is
-- interrupted as often as it may be, that is a fault
abbrev pub GivesOne : ℕ → List ℕ → Result Unit Failed → List Giving → Type 0
GivesOne peer frame result [] = ⊥
GivesOne peer frame result (latest ∷ givings) =
    (latest.peer ≡ peer) × (latest.frame ≡ frame) × AreInterrupted peer frame givings
    × ((answer_of latest.came ≡ Some result) ⊎ ((result ≡ Err record {}) × (length (latest ∷ givings) ≡ 2 ^ 64 - 1)))

-- a frame was given to each of the first so many peers, in their order, once
abbrev pub GaveFirst : ℕ → List ℕ → List Giving → Type 0
GaveFirst zero frame givings = givings ≡ []
GaveFirst (suc peer) frame givings =
    (latest before : List Giving) × (givings ≡ latest ++ before) × GivesOne peer frame (Ok record {}) latest × GaveFirst peer frame before

-- a frame was given to each of so many peers, in their order, once; or until the medium failed
abbrev pub GivesEach : ℕ → List ℕ → Result Unit Failed → List Giving → Type 0
GivesEach peers frame (Ok done) givings = GaveFirst peers frame givings
GivesEach peers frame (Err failed) givings =
    (peer : ℕ) × (peer < peers) × (latest before : List Giving) × (givings ≡ latest ++ before) × GivesOne peer frame (Err record {}) latest
    × GaveFirst peer frame before
