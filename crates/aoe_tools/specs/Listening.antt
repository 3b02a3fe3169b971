-- The turns that a request waits for its next response, as the loop sees them.
use Rattle.std.specs.Prelude.{ℕ, ◌≡◌, ◌+◌, ◌-◌, ◌*◌, ◌%◌, ◌<◌, ◌⊎◌, true, false, nat_eq, nat_lt, List, [], ◌∷◌, ◌++◌, drop, Option, Some, None, Result, Ok, Err, if◌then◌else◌}
use Rattle.aoe_base.specs.declared.failure.Failed.{Failed}
use Rattle.aoe_io.specs.Link.{Added, Turn, Turned, came, quiet, ended}
use Rattle.aoe_tools.specs.Asking.{brought, responses}
use Rattle.aoe_tools.specs.Waiting.{TookFront}
use Rattle.aoe_tools.specs.declared.question.Question.{Question}
use Rattle.aoe_tools.specs.declared.question.Reply.{Reply}
use Rattle.aoe_tools.specs.declared.wait.Wait.{Wait}

-- nothing was sent yet
abbrev pub begun : Wait
begun = record { turns = 0; frames = 0; is_due = true }

-- it has just waited for so many turns, and so many frames came that aren't counted as one
abbrev pub longer : ℕ → ℕ → Wait
longer turns frames = record { turns = turns; frames = frames; is_due = nat_eq (turns % 10) 0 }

abbrev pub after_silence : Wait → Wait
after_silence w = longer (w.turns + 1) w.frames

abbrev pub after_frame : Wait → Wait
after_frame w = if nat_lt w.frames 63 then record { turns = w.turns; frames = w.frames + 1; is_due = false } else longer (w.turns + 1) 0

abbrev pub after_turn : Wait → Turn → Wait
after_turn w (came frame) = after_frame w
after_turn w quiet = after_silence w
after_turn w ended = after_silence w

abbrev pub after_turns : Wait → List Turn → Wait
after_turns w [] = w
after_turns w (t ∷ turns) = after_turn (after_turns w turns) t

-- no more turns of the link than so many are left to it
abbrev pub left : ℕ → Wait → ℕ
left limit w = 64 * (limit - w.turns) + (63 - w.frames)

-- what is sent before its next turn
abbrev pub asked_by : List ℕ → Wait → List (List ℕ)
asked_by request w = if w.is_due then request ∷ [] else []

-- what is sent in these turns
abbrev pub asked_from : List ℕ → Wait → List Turn → List (List ℕ)
asked_from request from [] = []
asked_from request from (t ∷ turns) = asked_by request (after_turns from turns) ++ asked_from request from turns

-- one turn brought this, and the link took what is sent before it; where it failed, perhaps
abbrev pub Brings : Result (Option Reply) Failed → Question → List ℕ → Wait → Wait → List ℕ → List Turn → Option (List (List ℕ)) → Option (List (List ℕ)) → Type 0
Brings (Ok None) q request from now frame turns before after =
    (t : Turn) × (turns ≡ t ∷ []) × (brought q t ≡ None) × (now ≡ after_turn from t) × Added before after (asked_by request from)
Brings (Ok (Some r)) q request from now frame turns before after =
    (t : Turn) × (turns ≡ t ∷ []) × (brought q t ≡ Some record { reply = r; args = drop 24 frame }) × (now ≡ after_turn from t)
    × Added before after (asked_by request from)
Brings (Err failed) q request from now frame turns before after = (turns ≡ []) × (now ≡ from) × ((after ≡ before) ⊎ Added before after (asked_by request from))

-- a turn of a request that has waited so
pub record TakesTurn (result : Result (Option Reply) Failed) (q : Question) (request : List ℕ) (from now : Wait) (frame : List ℕ) (start turned' : ℕ) (given given' : Option (List Turn)) (taken taken' : Option (List (List ℕ))) : Type 0 where
  pub turns : List Turn
  pub turned : Turned start turned' given given' turns
  pub brings : Brings result q request from now frame turns taken taken'

-- before the last of these turns it hadn't waited for as many as it may
abbrev pub LastsFrom : ℕ → Wait → List Turn → Type 0
LastsFrom limit from [] = Unit {0}
LastsFrom limit from (t ∷ turns) = (after_turns from turns).turns < limit

-- the turns brought no response but the last one, which brought this; or there are no more turns; or the link failed
abbrev pub Waits : Result (Option Reply) Failed → Question → List ℕ → ℕ → Wait → Wait → List ℕ → List Turn → Option (List (List ℕ)) → Option (List (List ℕ)) → Type 0
Waits (Ok None) q request limit from now frame turns before after =
    (responses q turns ≡ []) × (now.turns ≡ limit) × Added before after (asked_from request from turns)
Waits (Ok (Some r)) q request limit from now frame [] before after = ⊥
Waits (Ok (Some r)) q request limit from now frame (t ∷ turns) before after =
    (brought q t ≡ Some record { reply = r; args = drop 24 frame }) × (responses q turns ≡ []) × (left limit now < left limit from)
    × Added before after (asked_from request from (t ∷ turns))
Waits (Err failed) q request limit from now frame turns before after =
    (responses q turns ≡ []) × (now.turns < limit) × TookFront (asked_by request now) (asked_from request from turns) before after

-- a request has waited so, and then for its next response
pub record Listens (result : Result (Option Reply) Failed) (q : Question) (request : List ℕ) (limit : ℕ) (from now : Wait) (frame : List ℕ) (start turned' : ℕ) (given given' : Option (List Turn)) (taken taken' : Option (List (List ℕ))) : Type 0 where
  pub turns : List Turn
  pub turned : Turned start turned' given given' turns
  pub passed : now ≡ after_turns from turns
  pub lasts : LastsFrom limit from turns
  pub waits : Waits result q request limit from now frame turns taken taken'
