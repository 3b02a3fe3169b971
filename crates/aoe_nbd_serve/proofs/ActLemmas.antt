-- What happens in a conversation, one behind the other, and what it comes to at the desk.
use Rattle.std.proofs.Common.{◌≡◌, List, [], ◌∷◌, ◌++◌, Option, Some, None, refl, ap, ◌∙◌}
use Rattle.aoe_desk.specs.Desks.{DeskState}
use Rattle.aoe_desk.specs.Runs.{after, Call}
use Rattle.aoe_desk.specs.Runs.Call.{Writes}
use Rattle.aoe_nbd_serve.specs.Conversations.{calls_of, called, events_of, with_call, Act, AreActs, CanCallAll, ConversationState, Does, MayAct}
use Rattle.aoe_nbd_serve.specs.Conversations.Act.{Receives, Answers, Replies, Finishes, Hears, Asks, GivesUp}

-- nothing happens
pub acts-none : (t : ConversationState) (d : DeskState) → AreActs [] t d t d
acts-none t d = (refl, refl)

-- one thing happens
pub acts-one : (act : Act) (t : ConversationState) (d : DeskState) (t' : ConversationState) (d' : DeskState) → MayAct act t d t' d' → AreActs (act ∷ []) t d t' d'
acts-one act t d t' d' m = (t, d, (refl, refl), m)

-- some, and then others
pub acts-then : (more acts : List Act) (t : ConversationState) (d : DeskState) (u : ConversationState) (e : DeskState) (t' : ConversationState) (d' : DeskState)
    → AreActs acts t d u e → AreActs more u e t' d' → AreActs (more ++ acts) t d t' d'
acts-then [] acts t d u e t' d' first (is, desk) = rw is (rw desk first)
acts-then (act ∷ more) acts t d u e t' d' first (v, f, behind, m) = (v, f, acts-then more acts t d u e v f first behind, m)

pub events-then : (more acts : List Act) → events_of (more ++ acts) ≡ events_of more ++ events_of acts
events-then [] acts = refl
events-then (Receives bytes ∷ more) acts = rw (events-then more acts) refl
events-then (Answers bytes ∷ more) acts = rw (events-then more acts) refl
events-then (Replies bytes ∷ more) acts = rw (events-then more acts) refl
events-then (Finishes ∷ more) acts = events-then more acts
events-then (Hears len event ∷ more) acts = events-then more acts
events-then (Asks len event call ∷ more) acts = events-then more acts
events-then (GivesUp ∷ more) acts = events-then more acts

-- what calls come to at a desk
pub record Made (calls : List Call) (d d' : DeskState) : Type 0 where
  pub could : CanCallAll calls d
  pub desk : d' ≡ called calls d

made-more : (call : Option Call) (calls : List Call) (d e d' : DeskState) → Made calls d e → Does call e d' → Made (with_call call calls) d d'
made-more None calls d e d' m is = record { could = m.could; desk = is ∙ m.desk }
made-more (Some call) calls d e d' m (can, is) = record { could = (m.could, rw m.desk at can); desk = is ∙ ap (after call) m.desk }

pub acts-desk : (acts : List Act) (t : ConversationState) (d : DeskState) (t' : ConversationState) (d' : DeskState) → AreActs acts t d t' d' → Made (calls_of acts) d d'
acts-desk [] t d t' d' (is, desk) = record { could = tt; desk = desk }
acts-desk (Receives bytes ∷ acts) t d t' d' (u, e, before, (reading, some, is, desk)) = made-more None (calls_of acts) d e d' (acts-desk acts t d u e before) desk
acts-desk (Answers bytes ∷ acts) t d t' d' (u, e, before, m) = made-more None (calls_of acts) d e d' (acts-desk acts t d u e before) m.desk
acts-desk (Replies bytes ∷ acts) t d t' d' (u, e, before, m) = made-more None (calls_of acts) d e d' (acts-desk acts t d u e before) m.desk
acts-desk (Finishes ∷ acts) t d t' d' (u, e, before, m) = made-more (Some Writes) (calls_of acts) d e d' (acts-desk acts t d u e before) (tt, m.desk)
acts-desk (Hears len event ∷ acts) t d t' d' (u, e, before, m) = made-more None (calls_of acts) d e d' (acts-desk acts t d u e before) m.desk
acts-desk (Asks len event call ∷ acts) t d t' d' (u, e, before, m) = made-more call (calls_of acts) d e d' (acts-desk acts t d u e before) m.desk
acts-desk (GivesUp ∷ acts) t d t' d' (u, e, before, (stage, phase, is, desk)) = made-more None (calls_of acts) d e d' (acts-desk acts t d u e before) desk
