-- An entry that says nothing of a host leaves what the history says of it.
use Rattle.std.proofs.Common.{ℕ, ◌≡◌, true, List, ◌∷◌, Some, refl}
use Rattle.std.proofs.lemmas.Bool.{not-true}
use Rattle.aoe_base.specs.declared.counted.Lifetimes.{Lifetimes}
use Rattle.aoe_net.specs.Network.{fresh_bytes, numbered, SentFrame}
use Rattle.aoe_history.specs.declared.entry.Entry.{Entry}
use Rattle.aoe_history.specs.declared.entry.Entry.TheVariants.{Submitted, Sent, Injected, Arrived, Took, Done, Ticked}
use Rattle.aoe_history.specs.declared.entry.Fate.TheVariants.{Replied}
use Rattle.aoe_history.specs.Commands.{last_response, log_of, path_ended, submission, tickets}
use Rattle.aoe_history.specs.Frames.{arriving, clock, frames, network}
use Rattle.aoe_history.specs.Setup.{HostSetup}
use Rattle.aoe_history.proofs.FrameLemmas.{numbered-later}
use Rattle.aoe_sim_hosts.specs.Host.{is_apart}
use Rattle.aoe_initiator.specs.declared.outcome.Outcome.{Outcome}
use Rattle.aoe_initiator.specs.declared.outcome.Outcome.TheVariants.{GaveUp}
use Rattle.aoe_history.proofs.LogicLemmas.{some-then}

pub record Leaves (host : HostSetup) (h n : List Entry) : Type 0 where
  pub count : tickets host n ≡ tickets host h
  pub time : clock n ≡ clock h
  pub log : log_of host n ≡ log_of host h
  pub submissions : (c : ℕ) → submission host n c ≡ submission host h c
  pub response : last_response host n ≡ last_response host h
  pub arrives : (life : Lifetimes) (k : ℕ) (f : List ℕ) → arriving life h k ≡ Some f → arriving life n k ≡ Some f

-- ---- frames that can be handed over

-- a frame more leaves those that are there
arrives-later : (h n : List Entry) (g : SentFrame) → frames n ≡ g ∷ frames h → clock n ≡ clock h → (life : Lifetimes) (k : ℕ) (f : List ℕ)
    → arriving life h k ≡ Some f
    → arriving life n k ≡ Some f
arrives-later h n g more time life k f e =
    let x = some-then (fresh_bytes (network life h) (clock h)) (numbered (frames h) k) f e in
    rw (more, numbered-later g (frames h) k x.0 x.1, time) x.2

-- ---- the path of a response

pub path-left : (host : HostSetup) (h n : List Entry) (t : ℕ) (o : Outcome) → submission host n t ≡ submission host h t
    → last_response host n ≡ last_response host h → path_ended host n t o ≡ path_ended host h t o
path-left host h n t (GaveUp first now) a b = refl
path-left host h n t _ a b = cc

-- ---- entries of others

module _ (host : HostSetup) (h : List Entry) where
  count-left : (e : Entry) → is_apart host e ≡ true → tickets host (e ∷ h) ≡ tickets host h
  count-left (Submitted name t dev op) away = rw (not-true _ away)
  count-left _ away = refl

  time-left : (e : Entry) → is_apart host e ≡ true → clock (e ∷ h) ≡ clock h
  time-left (Ticked ms) away = absurd cc
  time-left _ away = refl

  log-left : (e : Entry) → is_apart host e ≡ true → log_of host (e ∷ h) ≡ log_of host h
  log-left (Submitted name t dev op) away = rw (not-true _ away)
  log-left (Sent name t number bytes) away = rw (not-true _ away)
  log-left (Done name t outcome) away = rw (not-true _ away)
  log-left (Ticked ms) away = absurd cc
  log-left _ away = refl

  submissions-left : (e : Entry) → is_apart host e ≡ true → (c : ℕ) → submission host (e ∷ h) c ≡ submission host h c
  submissions-left (Submitted name t dev op) away c = rw (not-true _ away)
  submissions-left _ away c = refl

  response-left : (e : Entry) → is_apart host e ≡ true → last_response host (e ∷ h) ≡ last_response host h
  response-left (Took name number stale) away = rw (not-true _ away)
  response-left _ away = refl

  arrives-left : (e : Entry) → is_apart host e ≡ true → (life : Lifetimes) (k : ℕ) (f : List ℕ) → arriving life h k ≡ Some f → arriving life (e ∷ h) k ≡ Some f
  arrives-left (Sent name t number bytes) away = arrives-later h (Sent name t number bytes ∷ h) (record { bytes = bytes; birth = clock h }) refl refl
  arrives-left (Injected number bytes) away = arrives-later h (Injected number bytes ∷ h) (record { bytes = bytes; birth = clock h }) refl refl
  arrives-left (Arrived dev frame (Replied effect number bytes)) away =
      arrives-later h (Arrived dev frame (Replied effect number bytes) ∷ h) (record { bytes = bytes; birth = clock h }) refl refl
  arrives-left (Ticked ms) away = absurd cc
  arrives-left _ away = λ life k f e. e

  pub leaves : (e : Entry) → is_apart host e ≡ true → Leaves host h (e ∷ h)
  leaves e away = record {
    count = count-left e away;
    time = time-left e away;
    log = log-left e away;
    submissions = submissions-left e away;
    response = response-left e away;
    arrives = arrives-left e away;
  }
