-- What follows from the steps of a job.
use Rattle.std.proofs.Common.{ℕ, suc, ◌≡◌, ◌+◌, ◌≤◌, true, nat_eq, List, [], ◌∷◌, ◌++◌, length, map, Some, None, refl, sym, ap, ◌∙◌, arith, inl, inr, length-append}
use Rattle.std.specs.Prelude.{◌⊎◌, Contains, Option, All}
use Rattle.std.proofs.lemmas.Bool.{cases_Bool}
use Rattle.std.proofs.lemmas.List.{append_assoc, append-nil, map-append}
use Rattle.std.proofs.lemmas.List.Elements.{All-head, All-tail, Contains-append_cases}
use Rattle.aoe_base.specs.declared.counted.Millis.{Millis}
use Rattle.aoe_base.specs.declared.counted.PathNo.{PathNo}
use Rattle.aoe_base.specs.declared.counted.Ticket.{Ticket}
use Rattle.aoe_initiator.proofs.ListLemmas.{Contains-cons_cases, Contains-map}
use Rattle.aoe_initiator.specs.declared.op.Op.{Op}
use Rattle.aoe_initiator.specs.declared.outcome.Done.{Done}
use Rattle.aoe_initiator.specs.declared.outcome.Outcome.{Outcome}
use Rattle.aoe_initiator.specs.HostLaw.{ended, GaveUpInTurn}
use Rattle.aoe_initiator.specs.HostLog.{after_end, after_send, at_ticket, clock, commands, path_log, submitted, Event, HostCommand}
use Rattle.aoe_initiator.specs.HostLog.Event.{Advances}
use Rattle.aoe_io.specs.Link.{came, quiet, ended as over}
use Rattle.aoe_paths.specs.PathLog.{timeout_on}
use Rattle.aoe_block.specs.Answered.{as_asked, submissions, IsStart, IsTold, Submission}
use Rattle.aoe_block.specs.Steps.{asked, is_success, log_of, ops, outcomes, ticket_at, AreSteps, Patience, Start, Step}
use Rattle.aoe_block.specs.Steps.Step.{hears, own, sends, submits, ticks}
use Rattle.aoe_block.specs.Turns.{after_heard, the_device, Heard}

-- as many commands as operations
pub asked-ops : {A : Type 0} (steps : List (Step A)) → asked steps ≡ length (ops steps)
asked-ops [] = refl
asked-ops (ticks answer gave_up ∷ steps) = asked-ops steps
asked-ops (submits o ∷ steps) = ap suc (asked-ops steps)
asked-ops (own a ∷ steps) = asked-ops steps
asked-ops (sends o ∷ steps) = asked-ops steps
asked-ops (hears turn heard ∷ steps) = asked-ops steps

-- a change that leaves what is asked for
pub mapped : (f : HostCommand → HostCommand) → ((c : HostCommand) → as_asked (f c) ≡ as_asked c) → (cs : List HostCommand)
    → map as_asked (map f cs) ≡ map as_asked cs
mapped f same [] = refl
mapped f same (c ∷ cs) = rw (same c, mapped f same cs) refl

pub end-asks : (t : Ticket) (c : HostCommand) → as_asked (at_ticket t after_end c) ≡ as_asked c
end-asks t c = elim (cases_Bool (nat_eq c.ticket.0 t.0)) [ inl own_is ↦ rw own_is refl | inr other ↦ rw other refl ]

pub send-asks : (t : Ticket) (tag : ℕ) (now : Millis) (path : PathNo) (timeouts : ℕ → ℕ) (c : HostCommand)
    → as_asked (at_ticket t (after_send tag now path timeouts) c) ≡ as_asked c
send-asks t tag now path timeouts c = elim (cases_Bool (nat_eq c.ticket.0 t.0)) [ inl own_is ↦ rw own_is refl | inr other ↦ rw other refl ]

pub ended-asks : (dones : List Done) (log : List Event) → map as_asked (commands (ended dones log)) ≡ map as_asked (commands log)
ended-asks [] log = refl
ended-asks (d ∷ dones) log = mapped (at_ticket d.ticket after_end) (end-asks d.ticket) (commands (ended dones log)) ∙ ended-asks dones log

pub heard-asks : (heard : Option Heard) (log : List Event) → map as_asked (commands (after_heard heard log)) ≡ map as_asked (commands log)
heard-asks None log = refl
heard-asks (Some h) log = mapped (at_ticket h.ticket after_end) (end-asks h.ticket) (commands log)

-- the commands are those before, and then the job's in their order
pub asked-law : {A : Type 0} (b : Start) (steps : List (Step A))
    → map as_asked (commands (log_of b steps)) ≡ map as_asked (commands b.log) ++ submissions b (ops steps)
asked-law b [] = sym (append-nil (map as_asked (commands b.log)))
asked-law b (ticks answer gave_up ∷ steps) = ended-asks gave_up (Advances (record { 0 = answer }) ∷ log_of b steps) ∙ asked-law b steps
asked-law b (submits o ∷ steps) =
    let before = map as_asked (commands b.log) in
    let new = submitted (ticket_at b (asked steps)) the_device o in
    let own_is : Submission = record { ticket = ticket_at b (length (ops steps)); op = o } in
    let same : as_asked new ≡ own_is = ap (λ (n : ℕ). record { ticket = ticket_at b n; op = o }) (asked-ops steps) in
    map-append as_asked (commands (log_of b steps)) (new ∷ []) ∙ ap (λ (l : List Submission). l ++ as_asked new ∷ []) (asked-law b steps)
    ∙ ap (λ (s : Submission). (before ++ submissions b (ops steps)) ++ s ∷ []) same
    ∙ append_assoc before (submissions b (ops steps)) (own_is ∷ [])
asked-law b (own a ∷ steps) = asked-law b steps
asked-law b (sends o ∷ steps) =
    let log = log_of b steps in
    let timeouts : ℕ → ℕ = λ n. timeout_on (path_log log n) o.sent.path.0 in
    mapped (at_ticket o.sent.ticket (after_send o.sent.tag (record { 0 = clock log }) o.sent.path timeouts))
    (send-asks o.sent.ticket o.sent.tag (record { 0 = clock log }) o.sent.path timeouts) (commands log) ∙ asked-law b steps
asked-law b (hears turn heard ∷ steps) = heard-asks heard (log_of b steps) ∙ asked-law b steps

-- a command that is given up leaves no success
pub gave-up-none : (dead now : ℕ) (log : List Event) (dones : List Done) (d : Done) → GaveUpInTurn dead now log dones → Contains dones d
    → is_success d.outcome ≡ true → ⊥
gave-up-none dead now log [] d gave there well = absurd (omega (arith, there.1))
gave-up-none dead now log (x ∷ dones) d gave there well = elim (Contains-cons_cases x d dones there) [
  | inl same ↦ absurd (let is = ap (λ (y : Done). is_success y.outcome) (sym gave.1.2 ∙ same) in let no_such = is ∙ well in cc)
  | inr later ↦ gave-up-none dead now log dones d gave.0 later well
]

abbrev pub told-later : {A : Type 0} {b : Start} {steps : List (Step A)} {ticket : Ticket} {says : Outcome} (step : Step A) → IsTold b steps ticket says
    → IsTold b (step ∷ steps) ticket says
told-later {A} step h = record {
  later = step ∷ h.later;
  frame = h.frame;
  heard = h.heard;
  earlier = h.earlier;
  order = ap (λ (l : List (Step A)). step ∷ l) h.order;
  answers = h.answers;
  ticket_is = h.ticket_is;
  says_so = h.says_so;
}

-- the turn that brought an outcome which is a success
pub told-at : {A : Type 0} (law : List (Step A) → Step A → Type 0) (b : Start) (w : Patience) (steps : List (Step A)) (d : Done) → AreSteps law b w steps
    → Contains (outcomes steps) d → is_success d.outcome ≡ true → IsTold b steps d.ticket d.outcome
told-at law b w [] d are there well = absurd (omega (arith, there.1))
told-at law b w (ticks answer gave_up ∷ steps) d are there well = elim (Contains-append_cases gave_up (outcomes steps) d there) [
  | inl gave ↦ absurd (gave-up-none _ _ _ gave_up d are.1.2.in_turn gave well)
  | inr before ↦ told-later (ticks answer gave_up) (told-at law b w steps d are.0 before well)
]
told-at law b w (submits o ∷ steps) d are there well = told-later (submits o) (told-at law b w steps d are.0 there well)
told-at law b w (own a ∷ steps) d are there well = told-later (own a) (told-at law b w steps d are.0 there well)
told-at law b w (sends o ∷ steps) d are there well = told-later (sends o) (told-at law b w steps d are.0 there well)
told-at law b w (hears turn None ∷ steps) d are there well = told-later (hears turn None) (told-at law b w steps d are.0 there well)
told-at law b w (hears (came frame) (Some h) ∷ steps) d are there well =
    elim (Contains-cons_cases (record { ticket = h.ticket; outcome = h.outcome }) d (outcomes steps) there) [
      | inl same ↦ record {
        later = [];
        frame = frame;
        heard = h;
        earlier = steps;
        order = refl;
        answers = are.1.4;
        ticket_is = ap (λ (x : Done). x.ticket) same;
        says_so = ap (λ (x : Done). x.outcome) same;
      }
      | inr before ↦ told-later (hears (came frame) (Some h)) (told-at law b w steps d are.0 before well)
    ]
told-at law b w (hears quiet (Some h) ∷ steps) d are there well = absurd are.1.4
told-at law b w (hears over (Some h) ∷ steps) d are there well = absurd are.1.4

-- what an earlier step followed, it followed by the law
pub are-earlier : {A : Type 0} (law : List (Step A) → Step A → Type 0) (b : Start) (w : Patience) (later earlier : List (Step A))
    → AreSteps law b w (later ++ earlier) → AreSteps law b w earlier
are-earlier law b w [] earlier are = are
are-earlier law b w (step ∷ later) earlier are = are-earlier law b w later earlier are.0

-- as many were submitted before
pub asked-later : {A : Type 0} (later earlier : List (Step A)) → asked earlier ≤ asked (later ++ earlier)
asked-later [] earlier = omega arith
asked-later (ticks answer gave_up ∷ later) earlier = asked-later later earlier
asked-later (submits o ∷ later) earlier = omega (arith, asked-later later earlier)
asked-later (own a ∷ later) earlier = asked-later later earlier
asked-later (sends o ∷ later) earlier = asked-later later earlier
asked-later (hears turn heard ∷ later) earlier = asked-later later earlier

-- a command of the job has its ticket by its place
pub record IsOneOf (b : Start) (os : List Op) (s : Submission) : Type 0 where
  pub later : List Op
  pub earlier : List Op
  pub order : os ≡ later ++ s.op ∷ earlier
  pub ticket : s.ticket ≡ ticket_at b (length earlier)

pub one-of : (b : Start) (os : List Op) (s : Submission) → Contains (submissions b os) s → IsOneOf b os s
one-of b [] s there = absurd (omega (arith, there.1))
one-of b (o ∷ os) s there =
    let last : Submission = record { ticket = ticket_at b (length os); op = o } in
    elim (Contains-append_cases (submissions b os) (last ∷ []) s there) [
      | inl before ↦
          let i = one-of b os s before in
          record { later = o ∷ i.later; earlier = i.earlier; order = ap (λ (l : List Op). o ∷ l) i.order; ticket = i.ticket }
      | inr at_end ↦ elim (Contains-cons_cases last s [] at_end) [
        | inl same ↦ record {
          later = [];
          earlier = os;
          order = ap (λ (x : Submission). x.op ∷ os) same;
          ticket = ap (λ (x : Submission). x.ticket) (sym same);
        }
        | inr none ↦ absurd (omega (arith, none.1))
      ]
    ]

-- a command is one from before, or one of the job's
pub old-or-own : {A : Type 0} (b : Start) (steps : List (Step A)) (c : HostCommand) → Contains (commands (log_of b steps)) c
    → Contains (map as_asked (commands b.log)) (as_asked c) ⊎ IsOneOf b (ops steps) (as_asked c)
old-or-own b steps c there =
    let inside = rw (asked-law b steps) at (Contains-map as_asked (commands (log_of b steps)) c there) in
    elim (Contains-append_cases (map as_asked (commands b.log)) (submissions b (ops steps)) (as_asked c) inside) [
      | inl before ↦ inl before
      | inr mine ↦ inr (one-of b (ops steps) (as_asked c) mine)
    ]

-- what was submitted before has a ticket from before
old-ticket : (b : Start) → IsStart b → (s : Submission) → Contains (map as_asked (commands b.log)) s → s.ticket.0 ≤ b.host.last_ticket
old-ticket b start s there = at (commands b.log) start.matches.last there
  where
    at : (cs : List HostCommand) → All (λ c. c.ticket.0 ≤ b.host.last_ticket) cs → Contains (map as_asked cs) s → s.ticket.0 ≤ b.host.last_ticket
    at [] all inside = absurd (omega (arith, inside.1))
    at (c ∷ cs) all inside = elim (Contains-cons_cases (as_asked c) s (map as_asked cs) inside) [
      | inl same ↦ omega (arith, All-head (λ x. x.ticket.0 ≤ b.host.last_ticket) c cs all, ap (λ (x : Submission). x.ticket.0) same)
      | inr later ↦ at cs (All-tail (λ x. x.ticket.0 ≤ b.host.last_ticket) c cs all) later
    ]

-- a command with a ticket of the job is the job's
pub own-op : {A : Type 0} (b : Start) → IsStart b → (steps : List (Step A)) (c : HostCommand) (k : ℕ) → Contains (commands (log_of b steps)) c
    → c.ticket ≡ ticket_at b k → (i : IsOneOf b (ops steps) (as_asked c)) × (length i.earlier ≡ k)
own-op b start steps c k there is = elim (old-or-own b steps c there) [
  | inl before ↦ absurd (omega (arith, old-ticket b start (as_asked c) before, ap (λ (t : Ticket). t.0) is))
  | inr mine ↦ (mine, omega (arith, ap (λ (t : Ticket). t.0) mine.ticket, ap (λ (t : Ticket). t.0) is))
]

-- no ticket is past the last
pub ticket-most : {A : Type 0} (b : Start) → IsStart b → (steps : List (Step A)) (c : HostCommand) → Contains (commands (log_of b steps)) c
    → c.ticket.0 ≤ b.host.last_ticket + asked steps
ticket-most b start steps c there = elim (old-or-own b steps c there) [
  | inl before ↦ omega (arith, old-ticket b start (as_asked c) before)
  | inr mine ↦
      let long = ap (λ (l : List Op). length l) mine.order in
      omega (arith, ap (λ (t : Ticket). t.0) mine.ticket, asked-ops steps, long, length-append mine.later (c.op ∷ mine.earlier))
]

pub told-ticket : {A : Type 0} (b : Start) → IsStart b → (steps : List (Step A)) (ticket : Ticket) (says : Outcome) → IsTold b steps ticket says
    → ticket.0 ≤ b.host.last_ticket + asked steps
told-ticket {A} b start steps ticket says t =
    omega (
      arith,
      ticket-most b start t.earlier t.answers.command t.answers.there,
      ap (λ (x : Ticket). x.0) (t.answers.ticket ∙ t.ticket_is),
      asked-later t.later (hears (came t.frame) (Some t.heard) ∷ t.earlier),
      ap (λ (l : List (Step A)). asked l) t.order,
    )
