-- The account of a server: its steps, the latest first, which of them may come, and what link, clock, clients, bell and whoever asks for the
-- end tell of them.
use Rattle.std.specs.Prelude.{ℕ, suc, ◌≡◌, ◌≢◌, ◌+◌, ◌<◌, ◌≤◌, ◌⊎◌, Bool, true, ◌&&◌, List, [], ◌∷◌, ◌++◌, Option, Some, None, Result, Err, length}
use Rattle.aoe_base.specs.declared.counted.Ticket.{Ticket}
use Rattle.aoe_block.specs.Steps.{answers_of, asked, log_of, outcomes, owns, ticket_at, HasSeen, Seen, Start, Step, Told}
use Rattle.aoe_block.specs.Steps.Step.{hears, own, sends, submits, ticks}
use Rattle.aoe_block.specs.Turns.{GivesUp, Hears, MaySend}
use Rattle.aoe_clients.specs.Clients.{ClientEvent}
use Rattle.aoe_desk.specs.Desks.{next_op, DeskState}
use Rattle.aoe_initiator.specs.declared.op.Op.{Op}
use Rattle.aoe_initiator.specs.declared.op.Op.TheVariants as op
use Rattle.aoe_initiator.specs.declared.outcome.Done.{Done}
use Rattle.aoe_initiator.specs.declared.outcome.Outcome.{Outcome}
use Rattle.aoe_io.specs.Link.{Added}
use Rattle.aoe_nbd_serve.specs.declared.terms.Asked.{Asked}
use Rattle.aoe_nbd_serve.specs.declared.terms.Asked.TheVariants as cause
use Rattle.aoe_nbd_serve.specs.declared.terms.Terms.{Terms}
use Rattle.aoe_nbd_serve.specs.declared.phase.Ended.{Ended}
use Rattle.aoe_nbd_serve.specs.declared.phase.Ended.TheVariants.{Closed}
use Rattle.aoe_nbd_serve.specs.Conversations.{end_of, end_told, phase_ended, timed, Act, AreActs, ConversationState}
use Rattle.aoe_nbd_serve.specs.Deeds.{asked_of, desk_of, handed, has_written, idle_waits, last_of, settled, talk_of, told_of, waits_of, why_of, Deed}
use Rattle.aoe_nbd_serve.specs.Deeds.Deed.{accepts, asks, closes, ends, flushes, gives_up, hands, leaves, settles, talks, waits}

abbrev pub ServeStep : Type 0
ServeStep = Step Deed

-- what link, clock, clients, bell and whoever asks for the end tell
pub record ServeSeen : Type 0 where
  pub link : Seen
  pub told : Option (List ClientEvent)
  pub waits : Option (List ℕ)
  pub asked : Option (List Bool)

-- where a server begins, what it serves, and what was told before
pub record Setting : Type 0 where
  pub start : Start
  pub terms : Terms
  pub before : ServeSeen

-- what they tell now is what they told before, and these steps
pub record HasServed (before now : ServeSeen) (steps : List ServeStep) : Type 0 where
  pub seen_is : HasSeen before.link now.link steps
  pub told_is : Added before.told now.told (told_of (owns steps))
  pub waits_is : Told before.waits now.waits (waits_of (owns steps))
  pub asked_is : Added before.asked now.asked (asked_of (owns steps))

-- the first of these answers of the clock, the latest of which is `now`
abbrev pub first_of : ℕ → List ℕ → ℕ
first_of now [] = now
first_of now (answer ∷ earlier) = first_of answer earlier

-- the latest answer of the clock is so much later than the first
abbrev pub IsRested : ℕ → List ℕ → Type 0
IsRested quarantine [] = ⊥
IsRested quarantine (now ∷ earlier) = first_of now earlier + quarantine ≤ now

-- the end was asked for, no client is there, and each operation of each request has its outcome
pub record IsOver (t : Terms) (why : Asked) (deeds : List Deed) : Type 0 where
  pub asked_is : why_of deeds ≡ Some why
  pub nobody : talk_of t.export deeds ≡ None
  pub nothing_open : (desk_of t.total t.max deeds).open_requests ≡ []

-- a flush is wanted at the end: flushes are announced, and a write was acknowledged
abbrev pub is_flush_wanted : Terms → List Deed → Bool
is_flush_wanted t deeds = t.export.flushes && has_written (settled deeds)

-- a command is the last flush: one is wanted, and all else is over
pub record IsLast (t : Terms) (deeds : List Deed) (o : Op) : Type 0 where
  pub flush : o ≡ op.Flush
  pub wanted : is_flush_wanted t deeds ≡ true
  pub why : Asked
  pub over : IsOver t why deeds

-- A command may be submitted: each one before was handed by the desk, the last flush isn't under way, and no frame of an earlier run can
-- arrive any more. It is the desk's next operation, or the last flush.
pub record MaySubmit (c : Setting) (steps : List ServeStep) (o : Op) : Type 0 where
  pub all_handed : asked steps ≡ handed (owns steps)
  pub not_flushed : last_of (owns steps) ≡ None
  pub rested : IsRested c.terms.quarantine.0 (answers_of steps)
  pub next_is : (next_op (desk_of c.terms.total c.terms.max (owns steps)) ≡ Some o) ⊎ IsLast c.terms (owns steps) o

-- the command that was submitted just now has this ticket, and was such
pub record IsJust (c : Setting) (steps : List ServeStep) (ticket : Ticket) (IsSuch : List Deed → Op → Type 0) : Type 0 where
  pub op_is : Op
  pub earlier : List ServeStep
  pub order : steps ≡ submits op_is ∷ earlier
  pub ticket_is : ticket ≡ ticket_at c.start (asked earlier)
  pub such : IsSuch (owns earlier) op_is

-- the next outcome that wasn't taken, in the order in which they came
pub record IsNextOutcome (steps : List ServeStep) (done : Done) : Type 0 where
  pub later : List Done
  pub order : outcomes steps ≡ later ++ done ∷ settled (owns steps)

-- a client that came through its handshake has gone just now
pub record HasGone (deeds : List Deed) : Type 0 where
  pub now : ℕ
  pub acts : List Act
  pub ended : Ended
  pub talk : ConversationState
  pub earlier : List Deed
  pub order : deeds ≡ leaves ∷ talks now acts (Err ended) talk ∷ earlier
  pub through : talk.is_through ≡ true

-- Why the end is asked for: whoever is asked just said so; or no client is there, and there were so many waits since one was; or one has just
-- gone.
abbrev pub IsWanted : Terms → List Deed → Asked → Type 0
IsWanted t deeds cause.Stop = (earlier : List Deed) × (deeds ≡ asks true ∷ earlier)
IsWanted t deeds cause.Idle = (talk_of t.export deeds ≡ None) × (0 < t.idle) × (t.idle ≤ idle_waits deeds)
IsWanted t deeds cause.Once = (t.once ≡ true) × HasGone deeds

-- nothing will be answered by a desk any more of what it was asked for
abbrev pub IsAnswered : DeskState → Type 0
IsAnswered d = (length d.open_requests ≡ d.gone) × (d.replies ≡ [])

-- the clock said this last
abbrev pub IsLatest : ℕ → List ℕ → Type 0
IsLatest now answers = (earlier : List ℕ) × (answers ≡ now ∷ earlier)

-- a client may be accepted: none is there, the end isn't asked for, and nothing that an earlier one asked for will be answered
pub record MayAccept (t : Terms) (steps : List ServeStep) (now : ℕ) : Type 0 where
  pub at : IsLatest now (answers_of steps)
  pub nobody : talk_of t.export (owns steps) ≡ None
  pub goes_on : why_of (owns steps) ≡ None
  pub answered : IsAnswered (desk_of t.total t.max (owns steps))

-- once the end is asked for nothing more is read of the client
abbrev pub begins_as : Option Asked → ConversationState → ConversationState
begins_as None t = t
begins_as (Some why) t = record t { phase = phase_ended t.phase }

-- a turn of the conversation with the client that is there: its acts lead on, to this desk, and it ends as it says
pub record MayTalk (t : Terms) (steps : List ServeStep) (now : ℕ) (acts : List Act) (result : Result Bool Ended) (talk : ConversationState) (desk : DeskState) : Type 0 where
  pub at : IsLatest now (answers_of steps)
  pub before : ConversationState
  pub here : talk_of t.export (owns steps) ≡ Some before
  pub leads :
      let d = desk_of t.total t.max (owns steps) in
      AreActs acts (timed now d (begins_as (why_of (owns steps)) before)) d talk desk
  pub ended : result ≢ Err Closed → end_told result ≡ end_of now desk talk

-- a step of its own may come
abbrev pub MayDo : Setting → List ServeStep → Deed → Type 0
MayDo c steps (accepts now) = MayAccept c.terms steps now
MayDo c steps closes = (deeds : List Deed) × (now : ℕ) × (owns steps ≡ accepts now ∷ deeds)
MayDo c steps (talks now acts result talk) =
    MayTalk c.terms steps now acts result talk (desk_of c.terms.total c.terms.max (talks now acts result talk ∷ owns steps))
MayDo c steps (hands ticket) = IsJust c steps ticket (λ deeds o. next_op (desk_of c.terms.total c.terms.max deeds) ≡ Some o)
MayDo c steps gives_up = last_of (owns steps) ≡ None
MayDo c steps (settles done) = IsNextOutcome steps done
MayDo c steps leaves = talk_of c.terms.export (owns steps) ≡ None
MayDo c steps (asks answer) = why_of (owns steps) ≡ None
MayDo c steps (ends why) = (why_of (owns steps) ≡ None) × IsWanted c.terms (owns steps) why
MayDo c steps (flushes ticket) = IsJust c steps ticket (λ deeds o. IsLast c.terms deeds o)
MayDo c steps (waits most) = most ≤ 100

-- how many frames were sent since the last look at the clock
abbrev pub sent_in : List ServeStep → ℕ
sent_in [] = 0
sent_in (ticks answer gave_up ∷ steps) = 0
sent_in (submits o ∷ steps) = sent_in steps
sent_in (own deed ∷ steps) = sent_in steps
sent_in (sends o ∷ steps) = suc (sent_in steps)
sent_in (hears turn heard ∷ steps) = sent_in steps

-- A step may come after others. In a turn, from one look at the clock to the next, at most 128 frames are sent.
abbrev pub MayCome : Setting → List ServeStep → ServeStep → Type 0
MayCome c steps (ticks answer gave_up) = GivesUp c.start.host (log_of c.start steps) answer gave_up
MayCome c steps (submits o) = MaySubmit c steps o
MayCome c steps (own deed) = MayDo c steps deed
MayCome c steps (sends o) = (sent_in steps < 128) × MaySend c.start.host (log_of c.start steps) o
MayCome c steps (hears turn heard) = Hears c.start.host (log_of c.start steps) turn heard

-- steps of a server, each of which might come
abbrev pub AreServed : Setting → List ServeStep → Type 0
AreServed c [] = Unit {0}
AreServed c (step ∷ steps) = AreServed c steps × MayCome c steps step

-- the last flush had this outcome, behind those of all other commands
pub record LastEnded (deeds : List Deed) (outcome : Outcome) : Type 0 where
  pub ticket : Ticket
  pub under_way : last_of deeds ≡ Some ticket
  pub earlier : List Done
  pub ended : settled deeds ≡ record { ticket = ticket; outcome = outcome } ∷ earlier
