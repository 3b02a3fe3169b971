-- What passes between the clients and the program, where they tell it, the latest first.
use Rattle.std.specs.Prelude.{ℕ, Bool, true, false, List, [], ◌∷◌, take, ⊤}
use Rattle.aoe_clients.specs.declared.clients.Moved.{Moved}
use Rattle.aoe_clients.specs.declared.clients.Moved.TheVariants as moved

-- what happens to a connection: it is accepted, bytes of the client are received, bytes are sent to it, the client leaves,
-- or it is closed
pub data ClientEvent : Type 0 where
  accepted : ClientEvent
  received : List ℕ → ClientEvent
  sent : List ℕ → ClientEvent
  left : ClientEvent
  closed : ClientEvent

-- a fact of the count of bytes that a call moved, where it moved some
abbrev pub IfBytes : Moved → (ℕ → Type 0) → Type 0
IfBytes (moved.Bytes n) P = P n
IfBytes moved.Nothing P = ⊤
IfBytes moved.Left P = ⊤

-- the client is there behind a call that answers so
abbrev pub stays : Moved → Bool
stays (moved.Bytes n) = true
stays moved.Nothing = true
stays moved.Left = false

-- what a call that accepts adds to what passed
abbrev pub accepted_of : Bool → List ClientEvent
accepted_of true = accepted ∷ []
accepted_of false = []

-- what a call that reads adds, with the bytes that it was handed room for
abbrev pub received_of : Moved → List ℕ → List ClientEvent
received_of (moved.Bytes n) out = received (take n out) ∷ []
received_of moved.Nothing out = []
received_of moved.Left out = left ∷ []

-- what a call that writes these bytes adds: a front of them was sent
abbrev pub sent_of : Moved → List ℕ → List ClientEvent
sent_of (moved.Bytes n) piece = sent (take n piece) ∷ []
sent_of moved.Nothing piece = []
sent_of moved.Left piece = left ∷ []

-- the bytes that a call moved, a front of these
abbrev pub front_of : Moved → List ℕ → List ℕ
front_of (moved.Bytes n) bytes = take n bytes
front_of moved.Nothing bytes = []
front_of moved.Left bytes = []
