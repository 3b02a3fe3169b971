-- What a host does in the second part of a turn: frames go out, and one may come.
use Rattle.std.specs.Prelude.{ℕ, ◌≡◌, ◌≤◌, ◌⊎◌, Bool, true, false, List, [], ◌∷◌, ◌++◌, length, map, Option, Some, None, Result, Ok, Err}
use Rattle.aoe_base.specs.declared.failure.Failed.{Failed}
use Rattle.aoe_initiator.specs.Host.{Host, IsSame, Matches}
use Rattle.aoe_initiator.specs.HostLog.{Event}
use Rattle.aoe_io.specs.Link.{Added, Turn, Turned}
use Rattle.aoe_block.specs.Turns.{after_frames, after_heard, told_by, AreSent, AreTagged, Heard, Hears, IsSilent, Outgoing}

-- what stays of a host while frames go and come
pub record IsHeld (host host' : Host) : Type 0 where
  pub same : IsSame host host'
  pub last : host'.last_ticket ≡ host.last_ticket

-- these frames were sent, and the link took them
pub record Sends (host host' : Host) (before after : Option (List (List ℕ))) : Type 0 where
  pub sent : List Outgoing
  pub took : Added before after (map (λ o. o.frame) sent)
  pub law : (base : Host) (log : List Event) → IsSame base host → Matches log host → AreTagged host.flight.last_tag log
      → AreSent base log sent × Matches (after_frames sent log) host' × AreTagged host'.flight.last_tag (after_frames sent log)
  pub held : IsHeld host host'
  pub waiting : host'.waiting ≡ host.waiting

-- as many as may be sent, but no more than a number
pub record SendsAll (most : ℕ) (host host' : Host) (before after : Option (List (List ℕ))) : Type 0 where
  pub sends : Sends host host' before after
  pub few : length sends.sent ≤ most
  pub all : (base : Host) (log : List Event) → IsSame base host → Matches log host → AreTagged host.flight.last_tag log
      → IsSilent base (after_frames sends.sent log) ⊎ (most ≤ length sends.sent)

abbrev pub is_heard : Option Heard → Bool
is_heard None = false
is_heard (Some h) = true

-- what one turn of the link brought
pub record HearsOne (finished : Bool) (host host' : Host) (turned turned' : ℕ) (given given' : Option (List Turn)) : Type 0 where
  pub brought : Turn
  pub turned_by : Turned turned turned' given given' (brought ∷ [])
  pub hears : (base : Host) (log : List Event) → IsSame base host → Matches log host
      → (heard : Option Heard) × Hears base log brought heard × Matches (after_heard heard log) host'
      × (host'.waiting ≡ host.waiting ++ told_by heard) × (finished ≡ is_heard heard)
  pub held : IsHeld host host'
  pub tag : host'.flight.last_tag ≡ host.flight.last_tag

-- nothing passed over the link
pub record IsUnused (turned turned' : ℕ) (given given' : Option (List Turn)) : Type 0 where
  pub turns : turned' ≡ turned
  pub given_is : given' ≡ given

-- frames were sent, as many as may be; where the link failed, some of them
abbrev pub SendsSome : Result Unit Failed → ℕ → Host → Host → Option (List (List ℕ)) → Option (List (List ℕ)) → Type 0
SendsSome (Ok done) most host host' before after = SendsAll most host host' before after
SendsSome (Err failed) most host host' before after = (mid : Host) × Sends host mid before after

-- frames were sent, as many as may be, and then a turn brought a frame or nothing; where the link failed, some were, and nothing came
abbrev pub Exchanges : Result Bool Failed → ℕ → Host → Host → ℕ → ℕ → Option (List Turn) → Option (List Turn) → Option (List (List ℕ)) → Option (List (List ℕ))
    → Type 0
Exchanges (Ok finished) most host host' turned turned' given given' before after =
    (mid : Host) × SendsAll most host mid before after × HearsOne finished mid host' turned turned' given given'
Exchanges (Err failed) most host host' turned turned' given given' before after =
    (mid : Host) × Sends host mid before after × IsUnused turned turned' given given'
