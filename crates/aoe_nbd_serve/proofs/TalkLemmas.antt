-- What the parts of a turn come to, one behind the other.
use Rattle.std.proofs.Common.{ℕ, ◌≡◌, ◌≢◌, ◌*◌, ◌<◌, ◌≤◌, ◌⊎◌, Bool, true, false, ◌||◌, List, [], ◌∷◌, ◌++◌, length, drop, Option, Some, None, refl, sym, ap, subst, ◌∙◌, append_assoc, append-nil, inl, inr, arith}
use Rattle.std.specs.Prelude.{Result, Ok, Err, slice_get, ◌==◌, if◌then◌else◌}
use Rattle.std.proofs.lemmas.Bool.Decides.{nat_tests}
use Rattle.aoe_clients.specs.declared.clients.Moved.{Moved}
use Rattle.aoe_clients.specs.declared.clients.Moved.TheVariants as moved
use Rattle.aoe_clients.specs.Clients.{ClientEvent, closed}
use Rattle.aoe_desk.specs.declared.reply.Reply.{Reply}
use Rattle.aoe_desk.specs.Desks.{DeskState}
use Rattle.aoe_desk.specs.Runs.{Call}
use Rattle.aoe_desk.specs.Runs.Call.{Takes as TakesCall, Refuses, Hands, GivesUp as GivesUpNext, Settles, Writes, Leaves}
use Rattle.aoe_io.proofs.LinkLemmas.{Added-then}
use Rattle.aoe_io.specs.Link.{Added}
use Rattle.aoe_nbd.specs.declared.export.Export.{Export}
use Rattle.aoe_nbd.specs.declared.handshake.HandshakeEvent.{HandshakeEvent}
use Rattle.aoe_nbd.specs.declared.handshake.HandshakeEvent.TheVariants as heard
use Rattle.aoe_nbd.specs.declared.handshake.HandshakeStage.{HandshakeStage}
use Rattle.aoe_nbd.specs.declared.transmission.Event.{Event}
use Rattle.aoe_nbd.specs.declared.transmission.Event.TheVariants as events
use Rattle.aoe_nbd.specs.declared.transmission.Stage.{Stage}
use Rattle.aoe_nbd.specs.Handshakes.{LeadsTo, Proceeds, Talk}
use Rattle.aoe_nbd.specs.Steps.{given_up}
use Rattle.aoe_nbd.specs.Streams.{nothing_past}
use Rattle.aoe_nbd_serve.specs.declared.phase.Ended.{Ended}
use Rattle.aoe_nbd_serve.specs.declared.phase.Ended.TheVariants.{Done, Closed, BadRequest as BadRequestEnd, BadOption as BadOptionEnd, Late}
use Rattle.aoe_nbd_serve.specs.declared.phase.Phase.{Phase}
use Rattle.aoe_nbd_serve.specs.declared.phase.Phase.TheVariants.{Handshake, Transmission, Leaving, BadOption, BadRequest}
use Rattle.aoe_nbd_serve.specs.declared.requests.Coming.{Coming}
use Rattle.aoe_nbd_serve.specs.Asking.{IsKept, IsKeptIn, Takes}
use Rattle.aoe_nbd_serve.specs.Conversations.{begins, bytes_of, end_in, ends_with, events_of, phase_behind, phase_past, is_reading, is_timed, later, timed, end_of, Act, AreActs, ConversationState, Converses, Does, IsHandedIn, Leads, LeadsOn, MayAct, Turns}
use Rattle.aoe_nbd_serve.specs.Conversations.Act.{Receives, Answers, Replies, Finishes, Hears, Asks, GivesUp}
use Rattle.aoe_nbd_serve.specs.Moves.{ReadsOn, SendsOn, SendsPiece}
use Rattle.aoe_nbd_serve.proofs.ActLemmas.{acts-none, acts-one, acts-then, events-then}

added-nothing : (a : Option (List ClientEvent)) → Added a a []
added-nothing None = refl
added-nothing (Some l) = refl

-- what stays, whatever happens
pub record Same (t : ConversationState) (d : DeskState) (t' : ConversationState) (d' : DeskState) : Type 0 where
  pub export : t'.export ≡ t.export
  pub last : d'.last ≡ d.last
  pub total : d'.total ≡ d.total
  pub max : d'.max ≡ d.max

same-then : (t : ConversationState) (d : DeskState) (u : ConversationState) (e : DeskState) (t' : ConversationState) (d' : DeskState) → Same t d u e → Same u e t' d' → Same t d t' d'
same-then t d u e t' d' a b = record { export = b.export ∙ a.export; last = b.last ∙ a.last; total = b.total ∙ a.total; max = b.max ∙ a.max }

same-by : (t : ConversationState) (d : DeskState) (t' : ConversationState) (d' e : DeskState) → t'.export ≡ t.export → d' ≡ e → e.last ≡ d.last → e.total ≡ d.total → e.max ≡ d.max → Same t d t' d'
same-by t d t' d' e export is last total max = record {
  export = export;
  last = ap (λ (x : DeskState). x.last) is ∙ last;
  total = ap (λ (x : DeskState). x.total) is ∙ total;
  max = ap (λ (x : DeskState). x.max) is ∙ max;
}

-- a call that takes or refuses a request, or none
abbrev IsTaking : Option Call → Type 0
IsTaking None = Unit {0}
IsTaking (Some (TakesCall r)) = Unit {0}
IsTaking (Some (Refuses handle error)) = Unit {0}
IsTaking (Some (Hands ticket)) = ⊥
IsTaking (Some GivesUpNext) = ⊥
IsTaking (Some (Settles done)) = ⊥
IsTaking (Some Writes) = ⊥
IsTaking (Some Leaves) = ⊥

none-taking : (call : Option Call) → call ≡ None → IsTaking call
none-taking call is = subst IsTaking (sym is) tt

taking : (max : ℕ) (event : Event) (bytes : List ℕ) (call : Option Call) → IsHandedIn max event bytes call → IsTaking call
taking max (events.Came request) bytes None h = absurd h
taking max (events.Came request) bytes (Some (TakesCall r)) h = tt
taking max (events.Came request) bytes (Some (Refuses handle error)) h = tt
taking max (events.Came request) bytes (Some (Hands ticket)) h = absurd h
taking max (events.Came request) bytes (Some GivesUpNext) h = absurd h
taking max (events.Came request) bytes (Some (Settles done)) h = absurd h
taking max (events.Came request) bytes (Some Writes) h = absurd h
taking max (events.Came request) bytes (Some Leaves) h = absurd h
taking max (events.Refused error handle) bytes call h = subst IsTaking (sym h) tt
taking max events.More bytes call h = none-taking call h
taking max (events.Begins request) bytes call h = none-taking call h
taking max events.Data bytes call h = none-taking call h
taking max events.Skipped bytes call h = none-taking call h
taking max events.Disconnected bytes call h = none-taking call h
taking max events.BadMagic bytes call h = none-taking call h
taking max events.Ended bytes call h = none-taking call h

same-does : (t : ConversationState) (d : DeskState) (t' : ConversationState) (d' : DeskState) (call : Option Call) → IsTaking call → Does call d d' → t'.export ≡ t.export → Same t d t' d'
same-does t d t' d' None is does export = same-by t d t' d' d export does refl refl refl
same-does t d t' d' (Some (TakesCall r)) is (can, does) export = same-by t d t' d' _ export does refl refl refl
same-does t d t' d' (Some (Refuses handle error)) is (can, does) export = same-by t d t' d' _ export does refl refl refl
same-does t d t' d' (Some (Hands ticket)) is does export = absurd is
same-does t d t' d' (Some GivesUpNext) is does export = absurd is
same-does t d t' d' (Some (Settles done)) is does export = absurd is
same-does t d t' d' (Some Writes) is does export = absurd is
same-does t d t' d' (Some Leaves) is does export = absurd is

export-of : (t t' u : ConversationState) → t' ≡ u → u.export ≡ t.export → t'.export ≡ t.export
export-of t t' u is same = ap (λ (x : ConversationState). x.export) is ∙ same

may-same : (act : Act) (t : ConversationState) (d : DeskState) (t' : ConversationState) (d' : DeskState) → MayAct act t d t' d' → Same t d t' d'
may-same (Receives bytes) t d t' d' (reading, some, is, desk) = same-by t d t' d' d (export-of t t' _ is refl) desk refl refl refl
may-same (Answers bytes) t d t' d' m = same-by t d t' d' d (export-of t t' _ m.same refl) m.desk refl refl refl
may-same (Replies bytes) t d t' d' m = same-by t d t' d' d (export-of t t' _ m.same refl) m.desk refl refl refl
may-same Finishes t d t' d' m = same-by t d t' d' _ (export-of t t' _ m.same refl) m.desk refl refl refl
may-same (Hears len event) t d t' d' m = same-by t d t' d' d (export-of t t' _ m.same refl) m.desk refl refl refl
may-same (Asks len event call) t d t' d' m = same-does t d t' d' call (taking d.max event _ call m.handed) m.desk (export-of t t' _ m.same refl)
may-same GivesUp t d t' d' (stage, phase, is, desk) = same-by t d t' d' d (export-of t t' _ is refl) desk refl refl refl

pub acts-same : (acts : List Act) (t : ConversationState) (d : DeskState) (t' : ConversationState) (d' : DeskState) → AreActs acts t d t' d' → Same t d t' d'
acts-same [] t d t' d' (is, desk) = same-by t d t' d' d (ap (λ (x : ConversationState). x.export) is) desk refl refl refl
acts-same (act ∷ acts) t d t' d' (u, e, before, m) = same-then t d u e t' d' (acts-same acts t d u e before) (may-same act u e t' d' m)

-- what was done so far, and what the client told of it
pub record Goes (told told' : Option (List ClientEvent)) (t : ConversationState) (d : DeskState) (t' : ConversationState) (d' : DeskState) : Type 0 where
  pub acts : List Act
  pub leads : AreActs acts t d t' d'
  pub tells : Added told told' (events_of acts)

pub goes-self : (told : Option (List ClientEvent)) (t : ConversationState) (d : DeskState) → Goes told told t d t d
goes-self told t d = record { acts = []; leads = acts-none t d; tells = added-nothing told }

tells-then : (a b c : Option (List ClientEvent)) (ends : List ClientEvent) (acts more : List Act) → Added a b (events_of acts) → Added b c (ends ++ events_of more)
    → Added a c (ends ++ events_of (more ++ acts))
tells-then a b c ends acts more first behind =
    let all : (ends ++ events_of more) ++ events_of acts ≡ ends ++ events_of (more ++ acts) =
    append_assoc ends (events_of more) (events_of acts) ∙ ap (λ (x : List ClientEvent). ends ++ x) (sym (events-then more acts)) in
    subst (λ (x : List ClientEvent). Added a c x) all (Added-then a b c (events_of acts) (ends ++ events_of more) first behind)

pub goes-then : (a b c : Option (List ClientEvent)) (t : ConversationState) (d : DeskState) (u : ConversationState) (e : DeskState) (t' : ConversationState) (d' : DeskState)
    → Goes a b t d u e → Goes b c u e t' d' → Goes a c t d t' d'
goes-then a b c t d u e t' d' g h = record {
  acts = h.acts ++ g.acts;
  leads = acts-then h.acts g.acts t d u e t' d' g.leads h.leads;
  tells = tells-then a b c [] g.acts h.acts g.tells h.tells;
}

pub goes-turn : (a b c : Option (List ClientEvent)) (result : Result Bool Ended) (t : ConversationState) (d : DeskState) (u : ConversationState) (e : DeskState) (t' : ConversationState) (d' : DeskState)
    → Goes a b t d u e → Turns b c result u e t' d' → Turns a c result t d t' d'
goes-turn a b c result t d u e t' d' g h = record {
  acts = h.acts ++ g.acts;
  leads = acts-then h.acts g.acts t d u e t' d' g.leads h.leads;
  tells = tells-then a b c (ends_with result) g.acts h.acts g.tells h.tells;
}

-- a call that moved bytes, or none, or told that the client left
pub goes-on : (a b : Option (List ClientEvent)) (n : ℕ) (t : ConversationState) (d : DeskState) (t' : ConversationState) (d' : DeskState) → Leads a b (moved.Bytes n) t d t' d' → Goes a b t d t' d'
goes-on a b n t d t' d' l = record { acts = l.acts; leads = l.leads; tells = l.tells }

pub goes-nothing : (a b : Option (List ClientEvent)) (t : ConversationState) (d : DeskState) (t' : ConversationState) (d' : DeskState) → Leads a b moved.Nothing t d t' d' → Goes a b t d t' d'
goes-nothing a b t d t' d' l = record { acts = l.acts; leads = l.leads; tells = l.tells }

pub leaves : (a b : Option (List ClientEvent)) (t : ConversationState) (d : DeskState) (t' : ConversationState) (d' : DeskState) → Leads a b moved.Left t d t' d' → Turns a b (Err Closed) t d t' d'
leaves a b t d t' d' l = record { acts = l.acts; leads = l.leads; tells = l.tells }

pub turned : (a b : Option (List ClientEvent)) (x : Bool) (t : ConversationState) (d : DeskState) (t' : ConversationState) (d' : DeskState) → Goes a b t d t' d' → Turns a b (Ok x) t d t' d'
turned a b x t d t' d' g = record { acts = g.acts; leads = g.leads; tells = g.tells }

pub turn-goes : (a b : Option (List ClientEvent)) (x : Bool) (t : ConversationState) (d : DeskState) (t' : ConversationState) (d' : DeskState) → Turns a b (Ok x) t d t' d' → Goes a b t d t' d'
turn-goes a b x t d t' d' g = record { acts = g.acts; leads = g.leads; tells = g.tells }

pub silent-goes : (a : Option (List ClientEvent)) (t : ConversationState) (d : DeskState) (t' : ConversationState) (d' : DeskState) → LeadsOn t d t' d' → Goes a a t d t' d'
silent-goes a t d t' d' l = record { acts = l.acts; leads = l.leads; tells = subst (λ (x : List ClientEvent). Added a a x) (sym l.silent) (added-nothing a) }

pub on-none : (t : ConversationState) (d : DeskState) → LeadsOn t d t d
on-none t d = record { acts = []; leads = acts-none t d; silent = refl }

pub on-then : (t : ConversationState) (d : DeskState) (u : ConversationState) (e : DeskState) (t' : ConversationState) (d' : DeskState) → LeadsOn t d u e → LeadsOn u e t' d' → LeadsOn t d t' d'
on-then t d u e t' d' g h = record {
  acts = h.acts ++ g.acts;
  leads = acts-then h.acts g.acts t d u e t' d' g.leads h.leads;
  silent = events-then h.acts g.acts ∙ ap (λ (x : List ClientEvent). x ++ events_of g.acts) h.silent ∙ g.silent;
}

pub on-same : (t : ConversationState) (d : DeskState) (t' : ConversationState) (d' : DeskState) → LeadsOn t d t' d' → Same t d t' d'
on-same t d t' d' l = acts-same l.acts t d t' d' l.leads

-- some of what is left of the answer was sent
answer-by : (a b : Option (List ClientEvent)) (m : Moved) (t : ConversationState) (rest : List ℕ) (d : DeskState) → SendsOn a b m t.unsent rest → Leads a b m t d (record t { unsent = rest }) d
answer-by a b (moved.Bytes n) t rest d s = record {
  acts = Answers s.went ∷ [];
  leads = acts-one (Answers s.went) t d _ d (record { some = s.moved_is; next_bytes = s.front; same = refl; desk = refl });
  tells = s.tells;
}
answer-by a b moved.Nothing t rest d s =
    let none : rest ≡ t.unsent = ap (λ (x : List ℕ). x ++ rest) (sym s.moved_is) ∙ sym s.front in
    record { acts = []; leads = (ap (λ (x : List ℕ). record t { unsent = x }) none, refl); tells = s.tells }
answer-by a b moved.Left t rest d s =
    let none : rest ≡ t.unsent = ap (λ (x : List ℕ). x ++ rest) (sym s.moved_is) ∙ sym s.front in
    record { acts = []; leads = (ap (λ (x : List ℕ). record t { unsent = x }) none, refl); tells = s.tells }

pub answer-sent : (a b : Option (List ClientEvent)) (m : Moved) (t whole : ConversationState) (rest : List ℕ) (d : DeskState) → t ≡ whole → SendsOn a b m t.unsent rest
    → Leads a b m whole d (record t { unsent = rest }) d
answer-sent a b m t whole rest d is s = subst (λ (w : ConversationState). Leads a b m w d (record t { unsent = rest }) d) is (answer-by a b m t rest d s)

-- some of what is left of the first reply was sent
reply-by : (a b : Option (List ClientEvent)) (m : Moved) (t : ConversationState) (r : Reply) (n : ℕ) (d : DeskState) → slice_get d.replies 0 ≡ Some r → t.unsent ≡ []
    → SendsPiece a b m (bytes_of r) t.replied n → Leads a b m t d (record t { replied = n }) d
reply-by a b (moved.Bytes k) t r n d first behind s = record {
  acts = Replies s.went ∷ [];
  leads = acts-one (Replies s.went) t d _ d (record {
    reply = r;
    rest = s.rest;
    first = first;
    some = s.moved_is;
    behind = behind;
    next_bytes = s.front;
    same = ap (λ (x : ℕ). record t { replied = x }) s.now_is;
    desk = refl;
  });
  tells = s.tells;
}
reply-by a b moved.Nothing t r n d first behind s =
    let none : n ≡ t.replied = omega (arith, s.now_is, ap length s.moved_is) in
    record { acts = []; leads = (ap (λ (x : ℕ). record t { replied = x }) none, refl); tells = s.tells }
reply-by a b moved.Left t r n d first behind s =
    let none : n ≡ t.replied = omega (arith, s.now_is, ap length s.moved_is) in
    record { acts = []; leads = (ap (λ (x : ℕ). record t { replied = x }) none, refl); tells = s.tells }

pub reply-sent : (a b : Option (List ClientEvent)) (m : Moved) (t whole : ConversationState) (r : Reply) (n : ℕ) (d : DeskState) → t ≡ whole → slice_get d.replies 0 ≡ Some r → whole.unsent ≡ []
    → SendsPiece a b m (bytes_of r) t.replied n → Leads a b m whole d (record t { replied = n }) d
reply-sent a b m t whole r n d is first behind s =
    subst (λ (w : ConversationState). Leads a b m w d (record t { replied = n }) d) is
    (reply-by a b m t r n d first (ap (λ (x : ConversationState). x.unsent) is ∙ behind) s)

-- and that was its last byte
pub reply-ended : (a b : Option (List ClientEvent)) (m : Moved) (t whole : ConversationState) (r : Reply) (n : ℕ) (d d' : DeskState) → t ≡ whole → slice_get d.replies 0 ≡ Some r → whole.unsent ≡ []
    → SendsPiece a b m (bytes_of r) t.replied n → length (bytes_of r) ≤ n → d' ≡ record d { replies = drop 1 d.replies } → Leads a b m whole d (record t { replied = 0 }) d'
reply-ended a b m t whole r n d d' is first behind s done desk =
    let l = reply-sent a b m t whole r n d is first behind s in
    record {
      acts = Finishes ∷ l.acts;
      leads = (record t { replied = n }, d, l.leads, record { reply = r; first = first; whole = done; same = refl; desk = desk });
      tells = l.tells;
    }

-- nothing was sent of it, and all of it was before
pub none-left : (xs : List ℕ) → (length xs == 0) ≡ true → xs ≡ []
none-left [] e = refl
none-left (x ∷ xs) e = absurd (grind (arith, nat_tests))

pub some-left : (xs : List ℕ) → (length xs == 0) ≡ false → 0 < length xs
some-left [] e = absurd (grind (arith, nat_tests))
some-left (x ∷ xs) e = omega arith

-- an option was taken
pub heard-on : (t whole : ConversationState) (stage stage' : HandshakeStage) (len : ℕ) (event : HandshakeEvent) (phase' : Phase) (unread' unsent' : List ℕ) (through : Bool) (d : DeskState)
    → t ≡ whole → t.phase ≡ Handshake stage → t.unsent ≡ []
    → ((talk : Talk) → LeadsTo t.export talk stage → Proceeds t.export talk stage t.unread len event unsent' stage')
    → phase' ≡ phase_behind event (Handshake stage') → unread' ≡ drop len t.unread → through ≡ (t.is_through || begins event)
    → LeadsOn whole d (record t { phase = phase'; unread = unread'; unsent = unsent'; is_through = through }) d
heard-on t whole stage stage' len event phase' unread' unsent' through d is in_phase none proceeds phase_is unread_is through_is =
    let to : Phase → List ℕ → Bool → ConversationState = λ p u b. record t { phase = p; unread = u; unsent = unsent'; is_through = b } in
    let same : to phase' unread' through ≡ to (phase_behind event (Handshake stage')) (drop len t.unread) (t.is_through || begins event) = rw (phase_is, unread_is, through_is) refl in
    subst (λ (w : ConversationState). LeadsOn w d (to phase' unread' through) d) is (record {
      acts = Hears len event ∷ [];
      leads = acts-one (Hears len event) t d _ d (record {
        stage = stage;
        stage' = stage';
        phase = in_phase;
        answered = none;
        proceeds = proceeds;
        same = same;
        desk = refl;
      });
      silent = refl;
    })

-- what is kept of requests fits the phase behind an option
pub kept-behind : (e : Export) (event : HandshakeEvent) (stage stage' : HandshakeStage) (c : Coming) → IsKeptIn e (Handshake stage) c → IsKeptIn e (phase_behind event (Handshake stage')) c
kept-behind e heard.More stage stage' c k = k
kept-behind e heard.Flags stage stage' c k = k
kept-behind e heard.Answered stage stage' c k = k
kept-behind e heard.Begins stage stage' c k = record { past = nothing_past; stands = record { stream = refl; each = tt; begins = refl }; kept = k }
kept-behind e heard.Leaves stage stage' c k = tt
kept-behind e heard.Unknown stage stage' c k = tt
kept-behind e heard.Broken stage stage' c k = tt
kept-behind e heard.Ended stage stage' c k = tt

-- and behind a request
pub kept-past : (e : Export) (event : Event) (stage : Stage) (c : Coming) → IsKept e stage c → IsKeptIn e (phase_past event (Transmission stage)) c
kept-past e events.More stage c k = k
kept-past e (events.Begins request) stage c k = k
kept-past e events.Data stage c k = k
kept-past e events.Skipped stage c k = k
kept-past e (events.Came request) stage c k = k
kept-past e (events.Refused error handle) stage c k = k
kept-past e events.Disconnected stage c k = tt
kept-past e events.BadMagic stage c k = tt
kept-past e events.Ended stage c k = tt

-- something of requests was taken
asks-one : (t : ConversationState) (event : Event) (stage taken : Stage) (unread' payload' : List ℕ) (phase' : Phase) (d d' : DeskState) (stage' : Stage)
    → t.phase ≡ Transmission stage → (s : Takes t.export event stage stage' t.unread unread' t.payload payload' d d') → phase' ≡ phase_past event (Transmission s.taken)
    → LeadsOn t d (record t { phase = phase'; unread = unread'; payload = payload' }) d'
asks-one t event stage taken unread' payload' phase' d d' stage' in_phase s phase_is =
    let to : Phase → List ℕ → List ℕ → ConversationState = λ p u x. record t { phase = p; unread = u; payload = x } in
    record {
      acts = Asks s.len event s.call ∷ [];
      leads = acts-one (Asks s.len event s.call) t d (to phase' unread' payload') d' (record {
        stage = stage;
        stage' = s.taken;
        phase = in_phase;
        follows = s.follows;
        same = rw (phase_is, s.unread_is, s.payload_is) refl;
        handed = s.handed;
        desk = s.desk;
      });
      silent = refl;
    }

-- and the write was given up that it begins
asks-two : (t : ConversationState) (d : DeskState) (u t' : ConversationState) (d' : DeskState) (stage : Stage) → LeadsOn t d u d' → u.phase ≡ Transmission stage
    → t' ≡ record u { phase = Transmission (given_up stage) } → LeadsOn t d t' d'
asks-two t d u t' d' stage l in_phase is = record {
  acts = GivesUp ∷ l.acts;
  leads = (u, d', l.leads, (stage, in_phase, is, refl));
  silent = l.silent;
}

asks-by : (t : ConversationState) (event : Event) (stage stage' : Stage) (unread' payload' : List ℕ) (phase' : Phase) (d d' : DeskState) → t.phase ≡ Transmission stage
    → (event ≢ events.More → Takes t.export event stage stage' t.unread unread' t.payload payload' d d')
    → (event ≡ events.More → (stage' ≡ stage) × (unread' ≡ t.unread) × (payload' ≡ t.payload) × (d' ≡ d))
    → phase' ≡ phase_past event (Transmission stage') → LeadsOn t d (record t { phase = phase'; unread = unread'; payload = payload' }) d'
asks-by t events.More stage stage' unread' payload' phase' d d' in_phase took more phase_is =
    let m = more refl in
    let to : Phase → List ℕ → List ℕ → ConversationState = λ p u x. record t { phase = p; unread = u; payload = x } in
    let p : phase' ≡ t.phase = phase_is ∙ ap (λ (s : Stage). Transmission s) m.0 ∙ sym in_phase in
    let same : to phase' unread' payload' ≡ to t.phase t.unread t.payload = rw (p, m.1, m.2) refl in
    record { acts = []; leads = (same, m.3); silent = refl }
asks-by t (events.Begins request) stage stage' unread' payload' phase' d d' in_phase took more phase_is =
    let s = took (λ x. absurd cc) in
    begun s s.stage_is
  where
    begun : (s : Takes t.export (events.Begins request) stage stage' t.unread unread' t.payload payload' d d') → (stage' ≡ s.taken) ⊎ (stage' ≡ given_up s.taken)
        → LeadsOn t d (record t { phase = phase'; unread = unread'; payload = payload' }) d'
    begun s (inl is) = asks-one t (events.Begins request) stage s.taken unread' payload' phase' d d' stage' in_phase s (phase_is ∙ ap (λ (x : Stage). Transmission x) is)
    begun s (inr is) =
        asks-two t d (record t { phase = Transmission s.taken; unread = unread'; payload = payload' }) _ d' s.taken
        (asks-one t (events.Begins request) stage s.taken unread' payload' (Transmission s.taken) d d' stage' in_phase s refl) refl
        (ap (λ (x : Phase). record t { phase = x; unread = unread'; payload = payload' }) (phase_is ∙ ap (λ (x : Stage). Transmission x) is))
asks-by t events.Data stage stage' unread' payload' phase' d d' in_phase took more phase_is =
    let s = took (λ x. absurd cc) in asks-one t events.Data stage s.taken unread' payload' phase' d d' stage' in_phase s (phase_is ∙ ap (λ (x : Stage). Transmission x) s.stage_is)
asks-by t events.Skipped stage stage' unread' payload' phase' d d' in_phase took more phase_is =
    let s = took (λ x. absurd cc) in asks-one t events.Skipped stage s.taken unread' payload' phase' d d' stage' in_phase s (phase_is ∙ ap (λ (x : Stage). Transmission x) s.stage_is)
asks-by t (events.Came request) stage stage' unread' payload' phase' d d' in_phase took more phase_is =
    let s = took (λ x. absurd cc) in asks-one t (events.Came request) stage s.taken unread' payload' phase' d d' stage' in_phase s (phase_is ∙ ap (λ (x : Stage). Transmission x) s.stage_is)
asks-by t (events.Refused error handle) stage stage' unread' payload' phase' d d' in_phase took more phase_is =
    let s = took (λ x. absurd cc) in asks-one t (events.Refused error handle) stage s.taken unread' payload' phase' d d' stage' in_phase s (phase_is ∙ ap (λ (x : Stage). Transmission x) s.stage_is)
asks-by t events.Disconnected stage stage' unread' payload' phase' d d' in_phase took more phase_is =
    let s = took (λ x. absurd cc) in asks-one t events.Disconnected stage s.taken unread' payload' phase' d d' stage' in_phase s phase_is
asks-by t events.BadMagic stage stage' unread' payload' phase' d d' in_phase took more phase_is =
    let s = took (λ x. absurd cc) in asks-one t events.BadMagic stage s.taken unread' payload' phase' d d' stage' in_phase s phase_is
asks-by t events.Ended stage stage' unread' payload' phase' d d' in_phase took more phase_is =
    let s = took (λ x. absurd cc) in asks-one t events.Ended stage s.taken unread' payload' phase' d d' stage' in_phase s phase_is

pub asked-on : (t whole : ConversationState) (event : Event) (stage stage' : Stage) (unread' payload' : List ℕ) (phase' : Phase) (d d' : DeskState) → t ≡ whole → t.phase ≡ Transmission stage
    → (event ≢ events.More → Takes t.export event stage stage' t.unread unread' t.payload payload' d d')
    → (event ≡ events.More → (stage' ≡ stage) × (unread' ≡ t.unread) × (payload' ≡ t.payload) × (d' ≡ d))
    → phase' ≡ phase_past event (Transmission stage') → LeadsOn whole d (record t { phase = phase'; unread = unread'; payload = payload' }) d'
asked-on t whole event stage stage' unread' payload' phase' d d' is in_phase took more phase_is =
    subst (λ (w : ConversationState). LeadsOn w d (record t { phase = phase'; unread = unread'; payload = payload' }) d') is
    (asks-by t event stage stage' unread' payload' phase' d d' in_phase took more phase_is)

-- bytes of the client came
reads-by : (a b : Option (List ClientEvent)) (m : Moved) (t : ConversationState) (now : List ℕ) (d : DeskState) → ReadsOn a b m t.unread now → is_reading t.phase ≡ true
    → Leads a b m t d (record t { unread = now }) d
reads-by a b (moved.Bytes n) t now d r on = record {
  acts = Receives r.came ∷ [];
  leads = acts-one (Receives r.came) t d _ d (on, r.moved_is, ap (λ (x : List ℕ). record t { unread = x }) r.behind, refl);
  tells = r.tells;
}
reads-by a b moved.Nothing t now d r on =
    let none : now ≡ t.unread = r.behind ∙ ap (λ (x : List ℕ). t.unread ++ x) r.moved_is ∙ append-nil t.unread in
    record { acts = []; leads = (ap (λ (x : List ℕ). record t { unread = x }) none, refl); tells = r.tells }
reads-by a b moved.Left t now d r on =
    let none : now ≡ t.unread = r.behind ∙ ap (λ (x : List ℕ). t.unread ++ x) r.moved_is ∙ append-nil t.unread in
    record { acts = []; leads = (ap (λ (x : List ℕ). record t { unread = x }) none, refl); tells = r.tells }

pub reads-on : (a b : Option (List ClientEvent)) (m : Moved) (t whole : ConversationState) (now : List ℕ) (d : DeskState) → t ≡ whole → ReadsOn a b m t.unread now → is_reading t.phase ≡ true
    → Leads a b m whole d (record t { unread = now }) d
reads-on a b m t whole now d is r on = subst (λ (w : ConversationState). Leads a b m w d (record t { unread = now }) d) is (reads-by a b m t now d r on)

-- a turn in which the client left
pub converses-left : (now : ℕ) (a b : Option (List ClientEvent)) (t : ConversationState) (d : DeskState) (t' : ConversationState) (d' : DeskState) → Turns a b (Err Closed) (timed now d t) d t' d'
    → Converses now a b t d (Err Closed) t' d'
converses-left now a b t d t' d' l = record { acts = l.acts; leads = l.leads; tells = l.tells; ended = λ other. absurd (other refl) }

-- and one in which it didn't
pub converses-on : (now : ℕ) (a b : Option (List ClientEvent)) (moved : Bool) (t : ConversationState) (d : DeskState) (t' : ConversationState) (d' : DeskState) → Goes a b (timed now d t) d t' d'
    → end_of now d' t' ≡ None → Converses now a b t d (Ok moved) t' d'
converses-on now a b moved t d t' d' g none = record { acts = g.acts; leads = g.leads; tells = g.tells; ended = λ other. sym none }

closes : (phase : Phase) (over late : Bool) (ended : Ended) → end_in phase over late ≡ Some ended → ends_with (Err ended) ≡ closed ∷ []
closes phase over late Done e = refl
closes (Handshake stage) over true Closed e = absurd cc
closes (Handshake stage) over false Closed e = absurd cc
closes (Transmission stage) over late Closed e = absurd cc
closes Leaving true late Closed e = absurd cc
closes Leaving false true Closed e = absurd cc
closes Leaving false false Closed e = absurd cc
closes BadOption over late Closed e = absurd cc
closes BadRequest over late Closed e = absurd cc
closes phase over late BadRequestEnd e = refl
closes phase over late BadOptionEnd e = refl
closes phase over late Late e = refl

-- and one in which it was closed
pub converses-closed : (now : ℕ) (a b c : Option (List ClientEvent)) (ended : Ended) (t : ConversationState) (d : DeskState) (t' : ConversationState) (d' : DeskState) → Goes a b (timed now d t) d t' d'
    → Added b c (closed ∷ []) → end_of now d' t' ≡ Some ended → Converses now a c t d (Err ended) t' d'
converses-closed now a b c ended t d t' d' g close is = record {
  acts = g.acts;
  leads = g.leads;
  tells = subst (λ (x : List ClientEvent). Added a c (x ++ events_of g.acts)) (sym (closes t'.phase _ _ ended is)) (Added-then a b c (events_of g.acts) (closed ∷ []) g.tells close);
  ended = λ other. sym is;
}

-- what is served still lies on the desk's device
pub size-stays : (t : ConversationState) (d : DeskState) (t' : ConversationState) (d' : DeskState) → Same t d t' d' → t.export.size ≤ 512 * d.total → t'.export.size ≤ 512 * d'.total
size-stays t d t' d' same size = omega (arith, size, ap (λ (e : Export). e.size) same.export, same.total)

pub left-turn : (a b : Option (List ClientEvent)) (ended : Ended) (t : ConversationState) (d : DeskState) (t' : ConversationState) (d' : DeskState) → ended ≡ Closed
    → Turns a b (Err ended) t d t' d' → Turns a b (Err Closed) t d t' d'
left-turn a b ended t d t' d' is l = subst (λ (x : Ended). Turns a b (Err x) t d t' d') is l

pub turns-same : (a b : Option (List ClientEvent)) (result : Result Bool Ended) (t : ConversationState) (d : DeskState) (t' : ConversationState) (d' : DeskState) → Turns a b result t d t' d' → Same t d t' d'
turns-same a b result t d t' d' l = acts-same l.acts t d t' d' l.leads

later-export : (b : Bool) (t : ConversationState) (n : ℕ) → (if b then t else record t { limit = n }).export ≡ t.export
later-export true t n = refl
later-export false t n = refl

-- where the limit moved on before
pub stays-export : (a b : Option (List ClientEvent)) (result : Result Bool Ended) (now : ℕ) (t u : ConversationState) (d : DeskState) (t' : ConversationState) (d' : DeskState)
    → u ≡ timed now d t → Turns a b result u d t' d' → t'.export ≡ t.export
stays-export a b result now t u d t' d' is l =
    (turns-same a b result u d t' d' l).export ∙ ap (λ (x : ConversationState). x.export) is ∙ later-export (is_timed t.phase d) t (later now)
