-- One frame that a host sends, and one turn of a link.
use Rattle.std.specs.Prelude.{ℕ, ◌≡◌, Bool, true, false, List, length, Option, Result, Ok, Err}
use Rattle.aoe_base.specs.declared.failure.Failed.{Failed}
use Rattle.aoe_block.specs.Exchange.{HearsOne, Sends}
use Rattle.aoe_initiator.specs.Host.{Host}
use Rattle.aoe_io.specs.Link.{ended, Turn}
use Rattle.aoe_io.specs.declared.links.Got.{Got}
use Rattle.aoe_io.specs.declared.links.Got.TheVariants as got_as

-- how many frames these are
abbrev pub one_if : Bool → ℕ
one_if true = 1
one_if false = 0

-- one frame was sent, or none; where the link failed none was
abbrev pub SendsOne : Result Bool Failed → Host → Host → Option (List (List ℕ)) → Option (List (List ℕ)) → Type 0
SendsOne (Ok is_sent) host host' before after = (s : Sends host host' before after) × (length s.sent ≡ one_if is_sent)
SendsOne (Err failed) host host' before after = after ≡ before

-- what one turn of the link brought
pub record HearsTurn (got : Got) (host host' : Host) (turned turned' : ℕ) (given given' : Option (List Turn)) : Type 0 where
  pub finished : Bool
  pub one : HearsOne finished host host' turned turned' given given'
  pub is : got ≡ got_as.Ended → one.brought ≡ ended
