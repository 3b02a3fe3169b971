-- What a failed device call says of the frame that made it, and what the loss of power in it leaves.
use Rattle.std.proofs.Common.{◌≡◌, ◌≢◌, ◌⊎◌, true, false, ℕ, List, ◌||◌, Some, None, arith}
use Rattle.aoe_disk.specs.declared.loss.Loss.{Loss}
use Rattle.aoe_target.specs.declared.heard.Heard.{Heard}
use Rattle.aoe_target.specs.declared.station.Station.{Station}
use Rattle.aoe_target.specs.declared.verdict.Verdict.{Verdict}
use Rattle.aoe_target.specs.Device.{State}
use Rattle.aoe_target.specs.Law.{after, cut, Allows}
use Rattle.aoe_target.specs.Receive.{calls_store, edits, fate_of, is_faulty, is_unkept}
use Rattle.aoe_history.specs.declared.entry.Fate.TheVariants.{Cut}
use Rattle.aoe_history.specs.Slots.{fate_at, is_struck}
use Rattle.aoe_sim_shelves.specs.declared.shelf.Stops.{Stops}
use Rattle.aoe_history.specs.ShelfLaw.{IsStrike, Stretch}
use Rattle.aoe_sim_shelves.specs.Arrival.{noted, stop_at}

-- A FAILED CALL

module _ (station : Station) (k : State) (f : List ℕ) (v : Verdict) where
  -- no frame makes a slot call both disks
  pub one-disk : calls_store v ≡ true → edits station k.lists f v ≡ false
  one-disk c = grind arith

  module _ (x : Heard) (r : List ℕ) (p : Allows station k f v (fate_of x r)) where
    -- it was a command on sectors, or a change of the lists
    pub faulty-calls : is_faulty x ≡ true → calls_store v ≡ true
    faulty-calls fault = grind arith

    pub unkept-calls : is_unkept x ≡ true → edits station k.lists f v ≡ true
    unkept-calls fault = grind arith

    pub called-kept : calls_store v ≡ true → is_unkept x ≡ false
    called-kept c = grind arith

    pub edited-done : edits station k.lists f v ≡ true → is_faulty x ≡ false
    edited-done c = grind arith

    -- the power was lost in a call of a disk: the law allows that, and it leaves what the failed call left
    pub record IsLoss : Type 0 where
      pub allowed : Allows station k f v cut
      pub left : after station f v (fate_of x r) k ≡ after station f v cut k

    pub loss-of : (is_faulty x || is_unkept x) ≡ true → IsLoss
    loss-of fault = record { allowed = grind arith; left = grind arith }

-- THE ENTRY OF A FRAME

-- why the power is lost: a failed call of the store or of the keep, in a stop
pub stop-of : (stops : Stops) (how : Loss) (x : Heard) → stop_at stops x ≡ Some how
    → ((is_faulty x ≡ true) × (stops.store ≡ Some how)) ⊎ ((is_unkept x ≡ true) × (stops.keep ≡ Some how))
stop-of stops how x p = grind arith

-- no call failed in a stop
pub record Runs (stops : Stops) (x : Heard) : Type 0 where
  pub store : is_faulty x ≡ true → stops.store ≡ None
  pub keep : is_unkept x ≡ true → stops.keep ≡ None

pub runs-on : (stops : Stops) (x : Heard) → stop_at stops x ≡ None → Runs stops x
runs-on stops x p = record { store = λ f. grind arith; keep = λ f. grind arith }

-- what the history has of a frame after which the slot goes on is what the target did
module _ (x : Heard) (number : ℕ) (out : List ℕ) where
  pub noted-fate : fate_at (noted None x number out) ≡ fate_of x out
  noted-fate = grind arith

  pub noted-faulty : is_unkept x ≡ false → is_struck (noted None x number out) ≡ is_faulty x
  noted-faulty kept = grind arith

  pub noted-unkept : is_faulty x ≡ false → is_struck (noted None x number out) ≡ is_unkept x
  noted-unkept done = grind arith

  pub noted-strike : (z : Stretch) → z.mode ≡ None → IsStrike z (noted None x number out)
  noted-strike z is = grind arith

  pub noted-uncut : noted None x number out ≢ Cut
  noted-uncut = grind arith
