-- What the steps of a server say of its host's commands.
use Rattle.std.proofs.Common.{ℕ, ◌≡◌, ◌⊎◌, List, [], ◌∷◌, ◌++◌, Option, Some, None, sym, ap, ◌∙◌, inl, inr}
use Rattle.aoe_base.specs.declared.counted.Ticket.{Ticket}
use Rattle.aoe_block.specs.Steps.{log_of, outcomes, owns}
use Rattle.aoe_block.specs.Steps.Step.{hears, own, sends, submits, ticks}
use Rattle.aoe_block.specs.Turns.{after_heard, told_by, Heard}
use Rattle.aoe_desk.specs.Desks.{next_op, DeskState}
use Rattle.aoe_desk.specs.Runs.{Call}
use Rattle.aoe_desk.specs.Runs.Call.{Takes, Refuses, Hands, GivesUp, Settles, Writes, Leaves}
use Rattle.aoe_initiator.specs.declared.op.Op.{Op}
use Rattle.aoe_initiator.specs.declared.outcome.Done.{Done}
use Rattle.aoe_initiator.specs.HostLaw.{ended}
use Rattle.aoe_initiator.specs.HostLog.{Event}
use Rattle.aoe_initiator.specs.HostLog.Event.{Submits}
use Rattle.aoe_nbd.specs.declared.transmission.Event as nbd
use Rattle.aoe_nbd.specs.declared.transmission.Event.TheVariants as events
use Rattle.aoe_nbd_serve.specs.Account.{AreServed, IsJust, IsNextOutcome, ServeStep, Setting}
use Rattle.aoe_nbd_serve.specs.Conversations.{calls_of as calls_in, with_call, Act, AreActs, ConversationState, IsHandedIn}
use Rattle.aoe_nbd_serve.specs.Conversations.Act.{Receives, Answers, Replies, Finishes, Hears, Asks, GivesUp as GivesUpWrite}
use Rattle.aoe_nbd_serve.specs.Deeds.{calls_of, desk_of}
use Rattle.aoe_nbd_serve.specs.Deeds.Deed.{accepts, asks, closes, ends, flushes, gives_up, hands, leaves, settles, talks, waits}
use Rattle.aoe_nbd_law.specs.Requests.{IsHanded, IsSettled}

-- a log has a command with this ticket, which asks this
abbrev pub InLog : List Event → Ticket → Op → Type 0
InLog [] t o = ⊥
InLog (Submits ticket device op ∷ log) t o = ((ticket ≡ t) × (op ≡ o)) ⊎ InLog log t o
InLog (_ ∷ log) t o = InLog log t o

-- an outcome is one of these
abbrev pub Among : List Done → Done → Type 0
Among [] done = ⊥
Among (d ∷ dones) done = (d ≡ done) ⊎ Among dones done

among-behind : (xs ys : List Done) (done : Done) → Among ys done → Among (xs ++ ys) done
among-behind [] ys done x = x
among-behind (y ∷ xs) ys done x = inr (among-behind xs ys done x)

-- CALLS OF A CONVERSATION

not-hands : (max : ℕ) (event : nbd.Event) (bytes : List ℕ) (ticket : Ticket) → IsHandedIn max event bytes (Some (Hands ticket)) → ⊥
not-hands max (events.Came request) bytes ticket x = x
not-hands max (events.Refused error handle) bytes ticket x = cc
not-hands max events.More bytes ticket x = cc
not-hands max (events.Begins request) bytes ticket x = cc
not-hands max events.Data bytes ticket x = cc
not-hands max events.Skipped bytes ticket x = cc
not-hands max events.Disconnected bytes ticket x = cc
not-hands max events.BadMagic bytes ticket x = cc
not-hands max events.Ended bytes ticket x = cc

not-settles : (max : ℕ) (event : nbd.Event) (bytes : List ℕ) (done : Done) → IsHandedIn max event bytes (Some (Settles done)) → ⊥
not-settles max (events.Came request) bytes done x = x
not-settles max (events.Refused error handle) bytes done x = cc
not-settles max events.More bytes done x = cc
not-settles max (events.Begins request) bytes done x = cc
not-settles max events.Data bytes done x = cc
not-settles max events.Skipped bytes done x = cc
not-settles max events.Disconnected bytes done x = cc
not-settles max events.BadMagic bytes done x = cc
not-settles max events.Ended bytes done x = cc

module _ (total max : ℕ) (ticket : Ticket) (o : Op) where
  acts-hand : (acts : List Act) (t t' : ConversationState) (d d' : DeskState) (calls : List Call) → AreActs acts t d t' d'
      → IsHanded total max (calls_in acts ++ calls) ticket o → IsHanded total max calls ticket o
  acts-hand [] t t' d d' calls are x = x
  acts-hand (Receives bytes ∷ acts) t t' d d' calls are x = acts-hand acts t are.0 d are.1 calls are.2 x
  acts-hand (Answers bytes ∷ acts) t t' d d' calls are x = acts-hand acts t are.0 d are.1 calls are.2 x
  acts-hand (Replies bytes ∷ acts) t t' d d' calls are x = acts-hand acts t are.0 d are.1 calls are.2 x
  acts-hand (Finishes ∷ acts) t t' d d' calls are x = acts-hand acts t are.0 d are.1 calls are.2 x
  acts-hand (Hears len event ∷ acts) t t' d d' calls are x = acts-hand acts t are.0 d are.1 calls are.2 x
  acts-hand (Asks len event call ∷ acts) t t' d d' calls are x =
      acts-hand acts t are.0 d are.1 calls are.2 (by call _ _ are.3.handed x)
    where
      by : (call : Option Call) (most : ℕ) (bytes : List ℕ) → IsHandedIn most event bytes call → IsHanded total max (with_call call (calls_in acts) ++ calls) ticket o
          → IsHanded total max (calls_in acts ++ calls) ticket o
      by None most bytes may y = y
      by (Some (Hands mine)) most bytes may y = absurd (not-hands most event bytes mine may)
      by (Some (Takes r)) most bytes may y = y
      by (Some (Refuses handle error)) most bytes may y = y
      by (Some GivesUp) most bytes may y = y
      by (Some (Settles done)) most bytes may y = y
      by (Some Writes) most bytes may y = y
      by (Some Leaves) most bytes may y = y
  acts-hand (GivesUpWrite ∷ acts) t t' d d' calls are x = acts-hand acts t are.0 d are.1 calls are.2 x

module _ (done : Done) where
  acts-settle : (acts : List Act) (t t' : ConversationState) (d d' : DeskState) (calls : List Call) → AreActs acts t d t' d'
      → IsSettled (calls_in acts ++ calls) done → IsSettled calls done
  acts-settle [] t t' d d' calls are x = x
  acts-settle (Receives bytes ∷ acts) t t' d d' calls are x = acts-settle acts t are.0 d are.1 calls are.2 x
  acts-settle (Answers bytes ∷ acts) t t' d d' calls are x = acts-settle acts t are.0 d are.1 calls are.2 x
  acts-settle (Replies bytes ∷ acts) t t' d d' calls are x = acts-settle acts t are.0 d are.1 calls are.2 x
  acts-settle (Finishes ∷ acts) t t' d d' calls are x = acts-settle acts t are.0 d are.1 calls are.2 x
  acts-settle (Hears len event ∷ acts) t t' d d' calls are x = acts-settle acts t are.0 d are.1 calls are.2 x
  acts-settle (Asks len event call ∷ acts) t t' d d' calls are x =
      acts-settle acts t are.0 d are.1 calls are.2 (by call _ _ are.3.handed x)
    where
      by : (call : Option Call) (most : ℕ) (bytes : List ℕ) → IsHandedIn most event bytes call → IsSettled (with_call call (calls_in acts) ++ calls) done
          → IsSettled (calls_in acts ++ calls) done
      by None most bytes may y = y
      by (Some (Settles mine)) most bytes may y = absurd (not-settles most event bytes mine may)
      by (Some (Takes r)) most bytes may y = y
      by (Some (Refuses handle error)) most bytes may y = y
      by (Some GivesUp) most bytes may y = y
      by (Some (Hands ticket)) most bytes may y = y
      by (Some Writes) most bytes may y = y
      by (Some Leaves) most bytes may y = y
  acts-settle (GivesUpWrite ∷ acts) t t' d d' calls are x = acts-settle acts t are.0 d are.1 calls are.2 x

-- STEPS

in-ends : (gave_up : List Done) (log : List Event) (t : Ticket) (o : Op) → InLog log t o → InLog (ended gave_up log) t o
in-ends [] log t o x = x
in-ends (d ∷ gave_up) log t o x = in-ends gave_up log t o x

in-heard : (heard : Option Heard) (log : List Event) (t : Ticket) (o : Op) → InLog log t o → InLog (after_heard heard log) t o
in-heard None log t o x = x
in-heard (Some h) log t o x = x

some-same : (a b : Op) → Some a ≡ Some b → a ≡ b
some-same a b e = cc

module _ (c : Setting) (t : Ticket) (o : Op) where
  just-log : (steps : List ServeStep) (ticket : Ticket) → ticket ≡ t → next_op (desk_of c.terms.total c.terms.max (owns steps)) ≡ Some o
      → IsJust c steps ticket (λ deeds op. next_op (desk_of c.terms.total c.terms.max deeds) ≡ Some op) → InLog (log_of c.start steps) t o
  just-log steps ticket same next x =
      let is : next_op (desk_of c.terms.total c.terms.max (owns x.earlier)) ≡ Some o
      = ap (λ l. next_op (desk_of c.terms.total c.terms.max (owns l))) (sym x.order) ∙ next in
      let op_same = some-same x.op_is o (sym x.such ∙ is) in
      rw x.order (inl (sym x.ticket_is ∙ same, op_same))

  pub handed-log : (steps : List ServeStep) → AreServed c steps → IsHanded c.terms.total c.terms.max (calls_of (owns steps)) t o
      → InLog (log_of c.start steps) t o
  handed-log [] are x = absurd x
  handed-log (ticks answer gave_up ∷ steps) are x = in-ends gave_up _ t o (handed-log steps are.0 x)
  handed-log (submits op ∷ steps) are x = inr (handed-log steps are.0 x)
  handed-log (sends out ∷ steps) are x = handed-log steps are.0 x
  handed-log (hears turn heard ∷ steps) are x = in-heard heard _ t o (handed-log steps are.0 x)
  handed-log (own (hands ticket) ∷ steps) are (inl y) = just-log steps ticket y.0 y.1 are.1
  handed-log (own (hands ticket) ∷ steps) are (inr y) = handed-log steps are.0 y
  handed-log (own (talks now acts result talk) ∷ steps) are x =
      let m = are.1 in handed-log steps are.0 (acts-hand c.terms.total c.terms.max t o acts _ talk _ _ (calls_of (owns steps)) m.leads x)
  handed-log (own (accepts now) ∷ steps) are x = handed-log steps are.0 x
  handed-log (own closes ∷ steps) are x = handed-log steps are.0 x
  handed-log (own gives_up ∷ steps) are x = handed-log steps are.0 x
  handed-log (own (settles done) ∷ steps) are x = handed-log steps are.0 x
  handed-log (own leaves ∷ steps) are x = handed-log steps are.0 x
  handed-log (own (asks answer) ∷ steps) are x = handed-log steps are.0 x
  handed-log (own (ends why) ∷ steps) are x = handed-log steps are.0 x
  handed-log (own (flushes ticket) ∷ steps) are x = handed-log steps are.0 x
  handed-log (own (waits most) ∷ steps) are x = handed-log steps are.0 x

module _ (c : Setting) (done : Done) where
  next-among : (steps : List ServeStep) (d : Done) → d ≡ done → IsNextOutcome steps d → Among (outcomes steps) done
  next-among steps d same x = rw x.order (among-behind x.later _ done (inl same))

  pub settled-among : (steps : List ServeStep) → AreServed c steps → IsSettled (calls_of (owns steps)) done → Among (outcomes steps) done
  settled-among [] are x = absurd x
  settled-among (ticks answer gave_up ∷ steps) are x = among-behind gave_up _ done (settled-among steps are.0 x)
  settled-among (submits op ∷ steps) are x = settled-among steps are.0 x
  settled-among (sends out ∷ steps) are x = settled-among steps are.0 x
  settled-among (hears turn heard ∷ steps) are x = among-behind (told_by heard) _ done (settled-among steps are.0 x)
  settled-among (own (settles d) ∷ steps) are (inl y) = next-among steps d y are.1
  settled-among (own (settles d) ∷ steps) are (inr y) = settled-among steps are.0 y
  settled-among (own (talks now acts result talk) ∷ steps) are x =
      let m = are.1 in settled-among steps are.0 (acts-settle done acts _ talk _ _ (calls_of (owns steps)) m.leads x)
  settled-among (own (accepts now) ∷ steps) are x = settled-among steps are.0 x
  settled-among (own closes ∷ steps) are x = settled-among steps are.0 x
  settled-among (own gives_up ∷ steps) are x = settled-among steps are.0 x
  settled-among (own (hands ticket) ∷ steps) are x = settled-among steps are.0 x
  settled-among (own leaves ∷ steps) are x = settled-among steps are.0 x
  settled-among (own (asks answer) ∷ steps) are x = settled-among steps are.0 x
  settled-among (own (ends why) ∷ steps) are x = settled-among steps are.0 x
  settled-among (own (flushes ticket) ∷ steps) are x = settled-among steps are.0 x
  settled-among (own (waits most) ∷ steps) are x = settled-among steps are.0 x
