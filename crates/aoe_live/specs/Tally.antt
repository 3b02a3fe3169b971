-- How far a host is with its commands.
use Rattle.std.specs.Prelude.{ℕ, Bool, true, false, ◌||◌, ◌&&◌, ◌==◌, nat_lt, List, [], ◌∷◌, not}
use Rattle.aoe_initiator.specs.declared.outcome.Outcome.{Outcome}
use Rattle.aoe_initiator.specs.declared.outcome.Outcome.TheVariants.{GaveUp}
use Rattle.aoe_io.specs.Memory.{counted}
use Rattle.aoe_history.specs.declared.entry.Entry.{Entry}
use Rattle.aoe_history.specs.declared.entry.Entry.TheVariants.{Submitted, Done}
use Rattle.aoe_history.specs.Commands.{Submission}
use Rattle.aoe_live.specs.declared.tally.Tally.{Tally}

abbrev pub is_given_up : Outcome → Bool
is_given_up (GaveUp first now) = true
is_given_up outcome = false

abbrev pub no_commands : Tally
no_commands = record { begun = 0; ended = 0; gave_up = false }

-- after an entry
abbrev pub noted : Entry → Tally → Tally
noted (Submitted host ticket dev op) t = record t { begun = counted t.begun }
noted (Done host ticket outcome) t = record t { ended = ticket; gave_up = t.gave_up || is_given_up outcome }
noted entry t = t

-- after a history: how many commands were submitted, the ticket of the one whose outcome came last, and whether one was given up
abbrev pub tally_of : List Entry → Tally
tally_of [] = no_commands
tally_of (e ∷ h) = noted e (tally_of h)

-- what was submitted, the latest first
abbrev pub submissions : List Entry → List Submission
submissions [] = []
submissions (Submitted host ticket dev op ∷ h) = record { dev = dev; op = op } ∷ submissions h
submissions (_ ∷ h) = submissions h

-- each of the commands and the flush behind them has its outcome, and none was given up
abbrev pub is_over : ℕ → Tally → Bool
is_over count t = (not t.gave_up && (t.ended == t.begun)) && nat_lt count t.begun
