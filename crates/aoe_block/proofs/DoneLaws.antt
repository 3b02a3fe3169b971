-- Each command of a new host that has its outcome, while the job goes on, was answered by a frame, and with a success.
use Rattle.std.proofs.Common.{ℕ, ◌≡◌, true, false, nat_eq, List, [], ◌∷◌, ◌++◌, length, Some, None, refl, sym, ap, ◌∙◌, arith, inl, inr, length-append}
use Rattle.std.specs.Prelude.{◌⊎◌, All, Contains}
use Rattle.std.proofs.lemmas.Bool.{cases_Bool, eqb-true}
use Rattle.std.proofs.lemmas.List.Elements.{All-head, All-tail, Contains-append_cases}
use Rattle.aoe_base.specs.declared.counted.Millis.{Millis}
use Rattle.aoe_base.specs.declared.counted.PathNo.{PathNo}
use Rattle.aoe_base.specs.declared.counted.Ticket.{Ticket}
use Rattle.aoe_initiator.proofs.ListLemmas.{Contains-cons_cases, Contains-map_from}
use Rattle.aoe_initiator.specs.declared.op.Op.{Op}
use Rattle.aoe_initiator.specs.declared.outcome.Done.{Done}
use Rattle.aoe_initiator.specs.Host.{Host}
use Rattle.aoe_initiator.specs.HostLaw.{GaveUpInTurn}
use Rattle.aoe_initiator.specs.HostLog.{after_end, after_send, at_ticket, clock, commands, path_log, submitted, Event, HostCommand}
use Rattle.aoe_io.specs.Link.{came, quiet, ended as over}
use Rattle.aoe_paths.specs.PathLog.{timeout_on}
use Rattle.aoe_block.specs.Answered.{as_asked, IsDone, Submission}
use Rattle.aoe_block.specs.Steps.{asked, is_success, log_of, new_start, ops, outcomes, ticket_at, AreSteps, GoesOn, IsWell, Patience, Start, Step}
use Rattle.aoe_block.specs.Steps.Step.{hears, own, sends, submits, ticks}
use Rattle.aoe_block.specs.Turns.{the_device}
use Rattle.aoe_block.proofs.StepLaws.{end-asks, old-or-own, send-asks, IsOneOf}

done-later : {A : Type 0} {b : Start} {steps : List (Step A)} {c c' : HostCommand} (step : Step A) → IsDone b steps c → as_asked c' ≡ as_asked c
    → IsDone b (step ∷ steps) c'
done-later {b = b} step h same =
    let ticket : _ = ap (λ (s : Submission). s.ticket) (sym same) in
    record {
      says = h.says;
      told = record {
        later = step ∷ h.told.later;
        frame = h.told.frame;
        heard = h.told.heard;
        earlier = h.told.earlier;
        order = ap (λ l. step ∷ l) h.told.order;
        answers = h.told.answers;
        ticket_is = h.told.ticket_is ∙ ticket;
        says_so = h.told.says_so;
      };
      asks = h.asks ∙ ap (λ (s : Submission). s.op) (sym same);
      well = h.well;
    }

-- where the job goes on, nothing was given up
gave-none : (dead now : ℕ) (log : List Event) (gave_up outs : List Done) → GaveUpInTurn dead now log gave_up → All IsWell (gave_up ++ outs) → gave_up ≡ []
gave-none dead now log [] outs gave well = refl
gave-none dead now log (d ∷ dones) outs gave well =
    absurd (let is : is_success d.outcome ≡ true = All-head IsWell d (dones ++ outs) well in let up = rw (ap (λ (x : Done). x.outcome) gave.1.2) at is in cc)

sent-done : (t : Ticket) (tag : ℕ) (now : Millis) (path : PathNo) (timeouts : ℕ → ℕ) (c : HostCommand)
    → (at_ticket t (after_send tag now path timeouts) c).done ≡ c.done
sent-done t tag now path timeouts c = elim (cases_Bool (nat_eq c.ticket.0 t.0)) [ inl own_is ↦ rw own_is refl | inr other ↦ rw other refl ]

-- a command that a response ended was done before, or is the response's own
ended-now : (t : Ticket) (c : HostCommand) → (at_ticket t after_end c).done ≡ true → (c.done ≡ true) ⊎ (c.ticket.0 ≡ t.0)
ended-now t c is = elim (cases_Bool (nat_eq c.ticket.0 t.0)) [ inl own_is ↦ inr (eqb-true c.ticket.0 t.0 own_is) | inr other ↦ inl (rw other at is) ]

-- what stands at one place of a list is one thing
one-place : (later later' earlier earlier' : List Op) (o o' : Op) → later ++ o ∷ earlier ≡ later' ++ o' ∷ earlier' → length earlier ≡ length earlier' → o ≡ o'
one-place [] [] earlier earlier' o o' is same = cc
one-place [] (x ∷ later') earlier earlier' o o' is same =
    let rest : earlier ≡ later' ++ o' ∷ earlier' = cc in
    absurd (omega (arith, same, ap (λ (l : List Op). length l) rest, length-append later' (o' ∷ earlier')))
one-place (x ∷ later) [] earlier earlier' o o' is same =
    let rest : later ++ o ∷ earlier ≡ earlier' = cc in
    absurd (omega (arith, same, ap (λ (l : List Op). length l) rest, length-append later (o ∷ earlier)))
one-place (x ∷ later) (x' ∷ later') earlier earlier' o o' is same =
    let rest : later ++ o ∷ earlier ≡ later' ++ o' ∷ earlier' = cc in one-place later later' earlier earlier' o o' rest same

-- commands with one ticket ask for one thing
one-of-all : {A : Type 0} (host : Host) (steps : List (Step A)) (c : HostCommand) → Contains (commands (log_of (new_start host) steps)) c
    → IsOneOf (new_start host) (ops steps) (as_asked c)
one-of-all host steps c there = elim (old-or-own (new_start host) steps c there) [ inl none ↦ absurd (omega (arith, none.1)) | inr mine ↦ mine ]

one-op : {A : Type 0} (host : Host) (steps : List (Step A)) (c c' : HostCommand) → Contains (commands (log_of (new_start host) steps)) c
    → Contains (commands (log_of (new_start host) steps)) c' → c.ticket.0 ≡ c'.ticket.0 → c.op ≡ c'.op
one-op host steps c c' one two is =
    let i = one-of-all host steps c one in
    let j = one-of-all host steps c' two in
    one-place i.later j.later i.earlier j.earlier c.op c'.op (sym i.order ∙ j.order)
    (omega (arith, is, ap (λ (t : Ticket). t.0) i.ticket, ap (λ (t : Ticket). t.0) j.ticket))

fresh-open : (new c : HostCommand) → new.done ≡ false → c.done ≡ true → Contains (new ∷ []) c → ⊥
fresh-open new c fresh done last = elim (Contains-cons_cases new c [] last) [
  | inl same ↦ absurd (let is : false ≡ true = sym fresh ∙ ap (λ (x : HostCommand). x.done) same ∙ done in cc)
  | inr none ↦ absurd (omega (arith, none.1))
]

-- each command that has its outcome was answered, and with a success
pub done-at : {A : Type 0} (law : List (Step A) → Step A → Type 0) (host : Host) (w : Patience) (steps : List (Step A)) (c : HostCommand)
    → AreSteps law (new_start host) w steps → GoesOn steps → Contains (commands (log_of (new_start host) steps)) c → c.done ≡ true
    → IsDone (new_start host) steps c
done-at law host w [] c are well there done = absurd (omega (arith, there.1))
done-at law host w (ticks answer gave_up ∷ steps) c are well there done =
    let none = gave-none _ _ _ gave_up (outcomes steps) are.1.2.in_turn well in
    done-later (ticks answer gave_up) (done-at law host w steps c are.0 (rw none at well) (rw none at there) done) refl
done-at law host w (submits o ∷ steps) c are well there done =
    let b = new_start host in
    let new = submitted (ticket_at b (asked steps)) the_device o in
    elim (Contains-append_cases (commands (log_of b steps)) (new ∷ []) c there) [
      | inl before ↦ done-later (submits o) (done-at law host w steps c are.0 well before done) refl
      | inr last ↦ absurd (fresh-open new c refl done last)
    ]
done-at law host w (own a ∷ steps) c are well there done = done-later (own a) (done-at law host w steps c are.0 well there done) refl
done-at law host w (sends o ∷ steps) c are well there done =
    let log = log_of (new_start host) steps in
    let timeouts : ℕ → ℕ = λ n. timeout_on (path_log log n) o.sent.path.0 in
    let now : Millis = record { 0 = clock log } in
    let f = at_ticket o.sent.ticket (after_send o.sent.tag now o.sent.path timeouts) in
    let x = Contains-map_from f (commands log) c there in
    let before : x.0.done ≡ true =
    sym (sent-done o.sent.ticket o.sent.tag now o.sent.path timeouts x.0) ∙ ap (λ (y : HostCommand). y.done) x.2 ∙ done in
    done-later (sends o) (done-at law host w steps x.0 are.0 well x.1 before)
    (ap as_asked (sym x.2) ∙ send-asks o.sent.ticket o.sent.tag now o.sent.path timeouts x.0)
done-at law host w (hears turn None ∷ steps) c are well there done = done-later (hears turn None) (done-at law host w steps c are.0 well there done) refl
done-at law host w (hears (came frame) (Some h) ∷ steps) c are well there done =
    let log = log_of (new_start host) steps in
    let x = Contains-map_from (at_ticket h.ticket after_end) (commands log) c there in
    let same : as_asked c ≡ as_asked x.0 = ap as_asked (sym x.2) ∙ end-asks h.ticket x.0 in
    let here : Done = record { ticket = h.ticket; outcome = h.outcome } in
    elim (ended-now h.ticket x.0 (ap (λ (y : HostCommand). y.done) x.2 ∙ done)) [
      | inl before ↦ done-later (hears (came frame) (Some h)) (done-at law host w steps x.0 are.0 (All-tail IsWell here (outcomes steps) well) x.1 before) same
      | inr mine ↦
          let a = are.1.4 in
          let number : a.command.ticket.0 ≡ x.0.ticket.0 = ap (λ (t : Ticket). t.0) a.ticket ∙ sym mine in
          let ticket : h.ticket.0 ≡ c.ticket.0 = sym mine ∙ ap (λ (s : Submission). s.ticket.0) (sym same) in
          record {
            says = h.outcome;
            told = record {
              later = [];
              frame = frame;
              heard = h;
              earlier = steps;
              order = refl;
              answers = a;
              ticket_is = ap (λ (n : ℕ). let t : Ticket = record { 0 = n } in t) ticket;
              says_so = refl;
            };
            asks = one-op host steps a.command x.0 a.there x.1 number ∙ ap (λ (s : Submission). s.op) (sym same);
            well = All-head IsWell here (outcomes steps) well;
          }
    ]
done-at law host w (hears quiet (Some h) ∷ steps) c are well there done = absurd are.1.4
done-at law host w (hears over (Some h) ∷ steps) c are well there done = absurd are.1.4
