-- How long a request waits for its response, and when it is sent again.
use Rattle.std.specs.Prelude.{ℕ, suc, ◌+◌, ◌/◌, ◌%◌, ◌<◌, Bool, true, ◌&&◌, nat_eq, nat_lt, List, [], ◌∷◌, ◌++◌, Option, if◌then◌else◌, ◌⊎◌}
use Rattle.aoe_io.specs.Link.{Added, Turn, came, quiet, ended}

-- so many frames are as much as one turn without a frame; this program's own choice
abbrev pub frames_per_turn : ℕ
frames_per_turn = 64

-- how many of these turns of a link brought a frame, whether it counts or not
abbrev pub frames_in : List Turn → ℕ
frames_in [] = 0
frames_in (came frame ∷ turns) = suc (frames_in turns)
frames_in (quiet ∷ turns) = frames_in turns
frames_in (ended ∷ turns) = frames_in turns

-- how many brought none
abbrev pub silences_in : List Turn → ℕ
silences_in [] = 0
silences_in (came frame ∷ turns) = silences_in turns
silences_in (quiet ∷ turns) = suc (silences_in turns)
silences_in (ended ∷ turns) = suc (silences_in turns)

-- how many turns a request has waited: one for each turn of the link that brought no frame, and one for each 64 that brought one
abbrev pub waited : List Turn → ℕ
waited turns = silences_in turns + frames_in turns / frames_per_turn

-- before the last of these turns it hadn't waited for so many, nor before the others
abbrev pub Lasts : ℕ → List Turn → Type 0
Lasts limit [] = Unit {0}
Lasts limit (t ∷ turns) = waited turns < limit

-- it is sent before the next turn: before the first, and whenever it has just waited for 10, 20, 30 and so on
abbrev pub is_due : List Turn → Bool
is_due [] = true
is_due (t ∷ turns) = nat_lt (waited turns) (waited (t ∷ turns)) && nat_eq (waited (t ∷ turns) % 10) 0

-- what is sent before the next turn
abbrev pub asked_at : List ℕ → List Turn → List (List ℕ)
asked_at request turns = if is_due turns then request ∷ [] else []

-- what is sent in these turns, the latest first
abbrev pub asked : List ℕ → List Turn → List (List ℕ)
asked request [] = []
asked request (t ∷ turns) = asked_at request turns ++ asked request turns

-- the link took what was sent; where it failed, perhaps also what is sent before the next turn
abbrev pub TookFront : List (List ℕ) → List (List ℕ) → Option (List (List ℕ)) → Option (List (List ℕ)) → Type 0
TookFront next sent before after = Added before after sent ⊎ Added before after (next ++ sent)

-- the same of a request in these turns
abbrev pub TookSome : List ℕ → List Turn → Option (List (List ℕ)) → Option (List (List ℕ)) → Type 0
TookSome request turns before after = TookFront (asked_at request turns) (asked request turns) before after
