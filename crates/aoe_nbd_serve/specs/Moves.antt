-- Bytes that pass between the program and the client that is there.
use Rattle.std.specs.Prelude.{ℕ, ◌≡◌, ◌+◌, ◌<◌, List, [], ◌∷◌, ◌++◌, drop, length, Option}
use Rattle.aoe_clients.specs.declared.clients.Moved.{Moved}
use Rattle.aoe_clients.specs.declared.clients.Moved.TheVariants as moved
use Rattle.aoe_clients.specs.Clients.{ClientEvent, received, sent, left}
use Rattle.aoe_io.specs.Link.{Added}

-- what passes where these bytes are moved
abbrev pub passed : (List ℕ → ClientEvent) → Moved → List ℕ → List ClientEvent
passed event (moved.Bytes n) bytes = event bytes ∷ []
passed event moved.Nothing bytes = []
passed event moved.Left bytes = left ∷ []

-- one byte at least was moved, or none
abbrev pub IsMoved : Moved → List ℕ → Type 0
IsMoved (moved.Bytes n) bytes = 0 < length bytes
IsMoved moved.Nothing bytes = bytes ≡ []
IsMoved moved.Left bytes = bytes ≡ []

-- bytes came, behind those that came before
pub record ReadsOn (told told' : Option (List ClientEvent)) (moved : Moved) (before now : List ℕ) : Type 0 where
  pub came : List ℕ
  pub moved_is : IsMoved moved came
  pub tells : Added told told' (passed received moved came)
  pub behind : now ≡ before ++ came

-- bytes were sent, a front of those that were to be sent
pub record SendsOn (told told' : Option (List ClientEvent)) (moved : Moved) (before now : List ℕ) : Type 0 where
  pub went : List ℕ
  pub moved_is : IsMoved moved went
  pub tells : Added told told' (passed sent moved went)
  pub front : before ≡ went ++ now

-- of these bytes, of which so many were sent before, more were sent, the next of them
pub record SendsPiece (told told' : Option (List ClientEvent)) (moved : Moved) (bytes : List ℕ) (before now : ℕ) : Type 0 where
  pub went : List ℕ
  pub rest : List ℕ
  pub moved_is : IsMoved moved went
  pub tells : Added told told' (passed sent moved went)
  pub front : drop before bytes ≡ went ++ rest
  pub now_is : now ≡ before + length went
