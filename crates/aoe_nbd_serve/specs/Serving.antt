-- What a server keeps while it runs, and what that is true of.
use Rattle.std.specs.Prelude.{ℕ, ◌≡◌, ◌+◌, ◌*◌, ◌≤◌, Bool, List, ◌∷◌, ◌++◌, length, reverse, Option, Some, None, is_some, IfSome, Result, Ok, Err}
use Rattle.aoe_base.specs.declared.counted.Ticket.{Ticket}
use Rattle.aoe_base.specs.declared.failure.Failed.{Failed}
use Rattle.aoe_block.specs.Steps.{answers_of, asked, outcomes, owns, turns_of, Drives}
use Rattle.aoe_clients.specs.Clients.{ClientEvent}
use Rattle.aoe_desk.specs.Runs.{IsRun}
use Rattle.aoe_io.specs.Link.{Turn}
use Rattle.aoe_nbd_serve.specs.Account.{first_of, sent_in, AreServed, HasServed, IsOver, LastEnded, ServeSeen, ServeStep, Setting}
use Rattle.aoe_nbd_serve.specs.Deeds.{calls_of, desk_of, handed, has_written, idle_waits, last_of, settled, talk_of, why_of, Deed}
use Rattle.aoe_nbd_serve.specs.Ends.{AreCounted, HasEnded, IsServed}
use Rattle.aoe_io.specs.declared.links.Got.{Got}
use Rattle.aoe_io.specs.declared.links.Got.TheVariants as got
use Rattle.aoe_nbd_serve.specs.declared.serving.Serving.{Serving}
use Rattle.aoe_nbd_serve.specs.declared.serving.Settled.{Settled}
use Rattle.aoe_nbd_serve.specs.declared.serving.Settled.TheVariants as settled_as
use Rattle.aoe_nbd_serve.specs.declared.terms.Asked.{Asked}
use Rattle.aoe_nbd_serve.specs.declared.terms.ServeEnd.{ServeEnd}

-- how many commands are the last flush
abbrev pub flushes_in : Option Ticket → ℕ
flushes_in None = 0
flushes_in (Some ticket) = 1

-- its numbers fit one another: there is one device, each command is the desk's or the last flush, and the export lies on the desk's device
pub record IsFit (x : Serving) : Type 0 where
  pub attached : length x.host.devices ≡ 1
  pub tickets : x.host.last_ticket ≡ x.served.commands + flushes_in x.last
  pub low : x.desk.last ≤ x.host.last_ticket
  pub size : x.terms.now.export.size ≡ 512 * x.desk.total
  pub lies : IfSome x.conversation (λ t. t.export.size ≤ 512 * x.desk.total)

-- what the clock said first and last
pub record IsLook (first now : ℕ) (answers : List ℕ) : Type 0 where
  pub earlier : List ℕ
  pub order : answers ≡ now ∷ earlier
  pub first_is : first_of now earlier ≡ first

-- what it keeps beside its host is true of these deeds
pub record Keeps (c : Setting) (deeds : List Deed) (x : Serving) : Type 0 where
  pub terms_is : x.terms.now ≡ c.terms
  pub desk_is : x.desk ≡ desk_of c.terms.total c.terms.max deeds
  pub run : IsRun c.terms.total c.terms.max (calls_of deeds)
  pub written_is : x.has_written ≡ has_written (settled deeds)
  pub asked_is : x.asked ≡ why_of deeds
  pub talk_is : x.conversation ≡ talk_of c.terms.export deeds
  pub last_is : x.last ≡ last_of deeds
  pub over : (ticket : Ticket) → last_of deeds ≡ Some ticket → (why : Asked) × IsOver c.terms why deeds
  pub counted : AreCounted x.served deeds
  pub waits : x.waits ≤ idle_waits deeds

-- the steps so far, with no more frames since the last turn of the link than this
pub record Serves (c : Setting) (seen : ServeSeen) (most : ℕ) (x : Serving) : Type 0 where
  pub new : c.start.host.last_ticket ≡ 0
  pub steps : List ServeStep
  pub are : AreServed c steps
  pub seen_is : HasServed c.before seen steps
  pub few : sent_in steps ≤ most
  pub drives : Drives c.start steps x.host
  pub order : outcomes steps ≡ reverse x.host.waiting ++ settled (owns steps)
  pub look : IsLook x.first.0 x.time.0 (answers_of steps)
  pub all : last_of (owns steps) ≡ None → asked steps ≡ handed (owns steps)
  pub keeps : Keeps c (owns steps) x

-- what was done where the server ends
pub record Went (c : Setting) (seen : ServeSeen) (x : Serving) : Type 0 where
  pub steps : List ServeStep
  pub are : AreServed c steps
  pub run : IsRun c.terms.total c.terms.max (calls_of (owns steps))
  pub seen_is : HasServed c.before seen steps
  pub counted : AreCounted x.served (owns steps)
  pub here_is : is_some x.conversation ≡ is_some (talk_of c.terms.export (owns steps))

-- it goes on, or has ended
abbrev pub GoesOn : {A : Type 0} → Result A ServeEnd → Setting → ServeSeen → ℕ → Serving → Type 0
GoesOn (Ok did) c seen most x = Serves c seen most x
GoesOn (Err end) c seen most x = IsServed end x.served (is_some x.conversation) c seen

-- what came of the next outcome
abbrev pub IsSettled : Settled → Setting → ServeSeen → ℕ → Serving → Type 0
IsSettled settled_as.Nothing c seen most x = Serves c seen most x
IsSettled settled_as.Operation c seen most x = Serves c seen most x
IsSettled (settled_as.Last says) c seen most x = (s : Serves c seen most x) × LastEnded (owns s.steps) says

-- frames were sent, or the link failed
abbrev pub IsSent : {A : Type 0} → Result A Failed → Setting → ServeSeen → ℕ → Serving → Type 0
IsSent (Ok did) c seen most x = Serves c seen most x
IsSent (Err failed) c seen most x = Went c seen x

-- a turn of the link passed, or it failed
abbrev pub IsHeard : Result Got Failed → Setting → ServeSeen → ℕ → Serving → Type 0
IsHeard (Ok got.Frame) c seen most x = Serves c seen most x
IsHeard (Ok got.Quiet) c seen most x = Serves c seen most x
IsHeard (Ok got.Ended) c seen most x = (s : Serves c seen most x) × HasEnded (turns_of s.steps)
IsHeard (Err failed) c seen most x = Went c seen x

abbrev pub at_link : ServeSeen → ℕ → Option (List Turn) → Option (List (List ℕ)) → ServeSeen
at_link seen turned given taken = record seen { link = record seen.link { turns = turned; given = given; taken = taken } }

abbrev pub seen_by : ℕ → Option (List Turn) → Option (List (List ℕ)) → Option (List ℕ) → Option (List ClientEvent) → Option (List ℕ) → Option (List Bool) → ServeSeen
seen_by turned given taken answers told waits asked =
    record { link = record { turns = turned; given = given; taken = taken; answers = answers }; told = told; waits = waits; asked = asked }
