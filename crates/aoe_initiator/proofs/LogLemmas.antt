-- The commands of a log after each event, in the words of the tables.
use Rattle.std.proofs.Common.{ℕ, zero, suc, ◌≡◌, ◌≢◌, ◌+◌, ◌*◌, ◌^◌, ◌<◌, ◌≤◌, ◌-◌, ◌&&◌, cond, not, min, Bool, true, false, List, [], ◌∷◌, ◌++◌, length, map, get_or, Option, Some, None, inl, inr, refl, sym, ap, ◌∙◌, arith, nat_eq, append-nil}
use Rattle.std.specs.List.{cons_option, count_by, filter, remove}
use Rattle.std.specs.Prelude.{option_map, All, Contains}
use Rattle.std.proofs.lemmas.Bool.{eq-eqb, eqb-true, ne_eqb, cases_Bool, cases_lt}
use Rattle.std.proofs.lemmas.List.Elements.{All-cons, All-contains, All-head, All-nil, All-tail, All-weaker, filter-append, filter_map-append}
use Rattle.std.proofs.lemmas.List.{map-append}
use Rattle.std.proofs.lemmas.Nat.{mul-le, pow-add, pow_pos}
use Rattle.aoe_base.specs.declared.counted.DeviceNo.{DeviceNo}
use Rattle.aoe_base.specs.declared.counted.Millis.{Millis}
use Rattle.aoe_base.specs.declared.counted.PathNo.{PathNo}
use Rattle.aoe_base.specs.declared.counted.Ticket.{Ticket}
use Rattle.aoe_hold.specs.declared.command.Command.{Command}
use Rattle.aoe_hold.specs.declared.command.Stage.{Stage}
use Rattle.aoe_hold.specs.Commands.{after_stage, stage_finished, stage_sent, with_stage}
use Rattle.aoe_hold.specs.HoldTable.{new_command}
use Rattle.aoe_flight.specs.declared.outstanding.Outstanding.{Outstanding}
use Rattle.aoe_flight.specs.FlightTable.{SameCommands}
use Rattle.aoe_flight.specs.Outstanding.{after_finish, after_repeat, change_of, launched}
use Rattle.aoe_base.proofs.CountLemmas.{count-cons}
use Rattle.aoe_initiator.specs.declared.op.Op.{Op}
use Rattle.aoe_initiator.specs.Host.{unfinished, Ascends, Waiting}
use Rattle.aoe_initiator.specs.HostLog.{after_end, after_send, as_entered, as_sent, at_ticket, entered_at, is_at, one_more, outstanding, sent_of, stage, submitted, wait_of, HostCommand, Sending}
use Rattle.aoe_initiator.specs.Op.{kind_of, span_of}
use Rattle.aoe_initiator.proofs.ListLemmas.{Contains-cons, Contains-cons_cases}

-- ---- tickets

-- a change that leaves ticket, device and operation
pub record Keeps (change : HostCommand → HostCommand) : Type 0 where
  pub ticket : (c : HostCommand) → (change c).ticket ≡ c.ticket
  pub device : (c : HostCommand) → (change c).device ≡ c.device
  pub op : (c : HostCommand) → (change c).op ≡ c.op

pub send-keeps : (tag : ℕ) (now : Millis) (path : PathNo) (ts : ℕ → ℕ) → Keeps (after_send tag now path ts)
send-keeps tag now path ts = record { ticket = λ c. refl; device = λ c. refl; op = λ c. refl }

pub end-keeps : Keeps after_end
end-keeps = record { ticket = λ c. refl; device = λ c. refl; op = λ c. refl }

kept : {X : Type 0} (part : HostCommand → X) (t : Ticket) (change : HostCommand → HostCommand) (c : HostCommand) → part (change c) ≡ part c
    → part (at_ticket t change c) ≡ part c
kept part t change c same = elim (cases_Bool (nat_eq c.ticket.0 t.0)) [
  | inl here ↦ rw here same
  | inr other ↦ rw other refl
]

pub kept-ticket : (t : Ticket) (change : HostCommand → HostCommand) (c : HostCommand) → Keeps change → (at_ticket t change c).ticket ≡ c.ticket
kept-ticket t change c keeps = kept (λ d. d.ticket) t change c (keeps.ticket c)

pub kept-device : (t : Ticket) (change : HostCommand → HostCommand) (c : HostCommand) → Keeps change → (at_ticket t change c).device ≡ c.device
kept-device t change c keeps = kept (λ d. d.device) t change c (keeps.device c)

pub ascends-kept : (n : ℕ) (t : Ticket) (change : HostCommand → HostCommand) (cs : List HostCommand) → Keeps change → Ascends n cs
    → Ascends n (map (at_ticket t change) cs)
ascends-kept n t change [] keeps up = up
ascends-kept n t change (c ∷ cs) keeps up =
    let same : (at_ticket t change c).ticket.0 ≡ c.ticket.0 = ap (λ (u : Ticket). u.0) (kept-ticket t change c keeps) in
    rw same (up.0, ascends-kept c.ticket.0 t change cs keeps up.1)

pub ascends-push : (n : ℕ) (cs : List HostCommand) (c : HostCommand) → Ascends n cs → n < c.ticket.0 → All (λ x. x.ticket.0 < c.ticket.0) cs
    → Ascends n (cs ++ c ∷ [])
ascends-push n [] c up above all = (above, tt)
ascends-push n (x ∷ cs) c up above all =
    (up.0, ascends-push x.ticket.0 cs c up.1 (All-head (λ y. y.ticket.0 < c.ticket.0) x cs all) (All-tail (λ y. y.ticket.0 < c.ticket.0) x cs all))

pub ascends-all : (n : ℕ) (cs : List HostCommand) → Ascends n cs → All (λ x. n < x.ticket.0) cs
ascends-all n [] up = All-nil (λ x. n < x.ticket.0)
ascends-all n (c ∷ cs) up =
    All-cons (λ x. n < x.ticket.0) c cs up.0
    (All-weaker (λ x. c.ticket.0 < x.ticket.0) (λ x. n < x.ticket.0) (λ x above. omega (arith, above, up.0)) cs (ascends-all c.ticket.0 cs up.1))

-- the command is the only one with its ticket
abbrev pub Only : HostCommand → List HostCommand → Type 0
Only c cs = All (λ x. x.ticket.0 ≡ c.ticket.0 → x ≡ c) cs

pub only : (n : ℕ) (cs : List HostCommand) (c : HostCommand) → Ascends n cs → Contains cs c → Only c cs
only n [] c up there = absurd (omega (arith, there.1))
only n (d ∷ cs) c up there = elim (Contains-cons_cases d c cs there) [
  | inl same ↦
      All-cons (λ x. x.ticket.0 ≡ c.ticket.0 → x ≡ c) d cs (λ _. same)
      (All-weaker (λ x. d.ticket.0 < x.ticket.0) (λ x. x.ticket.0 ≡ c.ticket.0 → x ≡ c)
      (λ x above equal. absurd (omega (arith, above, equal, ap (λ (e : HostCommand). e.ticket.0) same))) cs (ascends-all d.ticket.0 cs up.1))
  | inr behind ↦
      let above : d.ticket.0 < c.ticket.0 = All-contains (λ x. d.ticket.0 < x.ticket.0) cs c (ascends-all d.ticket.0 cs up.1) behind in
      All-cons (λ x. x.ticket.0 ≡ c.ticket.0 → x ≡ c) d cs (λ equal. absurd (omega (arith, above, equal))) (only d.ticket.0 cs c up.1 behind)
]

-- a change of another ticket leaves a list
pub others-same : (t : Ticket) (change : HostCommand → HostCommand) (cs : List HostCommand) → All (λ x. x.ticket.0 ≢ t.0) cs → map (at_ticket t change) cs ≡ cs
others-same t change [] all = refl
others-same t change (c ∷ cs) all =
    let other : nat_eq c.ticket.0 t.0 ≡ false = ne_eqb c.ticket.0 t.0 (All-head (λ x. x.ticket.0 ≢ t.0) c cs all) in
    rw other (ap (λ (l : List HostCommand). c ∷ l) (others-same t change cs (All-tail (λ x. x.ticket.0 ≢ t.0) c cs all)))

above-others : (n : ℕ) (cs : List HostCommand) (t : Ticket) → n ≡ t.0 → Ascends n cs → All (λ x. x.ticket.0 ≢ t.0) cs
above-others n cs t is up =
    All-weaker (λ x. n < x.ticket.0) (λ x. x.ticket.0 ≢ t.0) (λ x above equal. absurd (omega (arith, is, above, equal))) cs (ascends-all n cs up)

-- ---- what was sent

map-cons_option : (f : Outstanding → Outstanding) (o : Option Outstanding) (xs : List Outstanding)
    → map f (cons_option o xs) ≡ cons_option (option_map f o) (map f xs)
map-cons_option f None xs = refl
map-cons_option f (Some o) xs = refl

-- where each command is changed as its sends are
sent-mapped : (change : HostCommand → HostCommand) (f : Outstanding → Outstanding) (cs : List HostCommand)
    → All (λ c. as_sent (change c) ≡ option_map f (as_sent c)) cs → sent_of (map change cs) ≡ map f (sent_of cs)
sent-mapped change f [] all = refl
sent-mapped change f (c ∷ cs) all =
    rw (
      All-head (λ x. as_sent (change x) ≡ option_map f (as_sent x)) c cs all,
      sent-mapped change f cs
          (All-tail (λ x. as_sent (change x) ≡ option_map f (as_sent x)) c cs all),
    )
    (sym (map-cons_option f (as_sent c) (sent_of cs)))

made : Ticket → DeviceNo → Op → Option Sending → Bool → HostCommand
made ticket device op sends done = record { ticket = ticket; device = device; op = op; sends = sends; done = done }

never : {X : Type 0} (b : Bool) (x y : X) → cond (b && false) x y ≡ y
never true x y = refl
never false x y = refl

sent-ended-one : (t ticket : Ticket) (device : DeviceNo) (op : Op) (sends : Option Sending) (done : Bool)
    → as_sent (at_ticket t after_end (made ticket device op sends done)) ≡ option_map (change_of t.0 after_finish) (as_sent (made ticket device op sends done))
unfolding made
sent-ended-one t ticket device op None done = elim (cases_Bool (nat_eq ticket.0 t.0)) [
  | inl same ↦ rw same refl
  | inr other ↦ rw other refl
]
sent-ended-one t ticket device op (Some s) done = elim (cases_Bool (nat_eq ticket.0 t.0)) [
  | inl same ↦ rw same (ended done)
  | inr other ↦ rw other (ap (λ (o : Outstanding). Some o) (sym (never (not done) _ _)))
]
  where
    ended : (d : Bool) → Some (outstanding (record { ticket = ticket; device = device; op = op; sends = Some s; done = true }) s)
        ≡ Some (cond (not d && true) (after_finish (outstanding (record { ticket = ticket; device = device; op = op; sends = Some s; done = d }) s))
        (outstanding (record { ticket = ticket; device = device; op = op; sends = Some s; done = d }) s))
    ended true = refl
    ended false = refl

pub sent-ended : (t : Ticket) (cs : List HostCommand) → sent_of (map (at_ticket t after_end) cs) ≡ map (change_of t.0 after_finish) (sent_of cs)
unfolding made
sent-ended t cs = sent-mapped (at_ticket t after_end) (change_of t.0 after_finish) cs
    (λ k d below. sent-ended-one t (get_or cs k d).ticket (get_or cs k d).device (get_or cs k d).op (get_or cs k d).sends (get_or cs k d).done)

sent-repeated-one : (t : Ticket) (tag : ℕ) (now : Millis) (path : PathNo) (ts : ℕ → ℕ) (s : Sending) (device : DeviceNo) (op : Op)
    → as_sent (after_send tag now path ts (made t device op (Some s) false))
    ≡ option_map (change_of t.0 (after_repeat now path (record { 0 = wait_of (ts device.0) (s.count + 1) }))) (as_sent (made t device op (Some s) false))
unfolding made
sent-repeated-one t tag now path ts s device op =
    let same : nat_eq t.0 t.0 ≡ true = eq-eqb t.0 t.0 refl in
    let count : min (min s.count 32 + 1) 32 ≡ min (s.count + 1) 32 = omega arith in
    rw (same, count) refl

others-sent : (t : Ticket) (f : Outstanding → Outstanding) (x : HostCommand) → nat_eq x.ticket.0 t.0 ≡ false
    → as_sent x ≡ option_map (change_of t.0 f) (as_sent x)
others-sent t f x other = at x.sends
  where
    at : (o : Option Sending) → option_map (outstanding x) o ≡ option_map (change_of t.0 f) (option_map (outstanding x) o)
    at None = refl
    at (Some s) = rw other (ap (λ (o : Outstanding). Some o) (sym (never (not x.done) (f (outstanding x s)) (outstanding x s))))

-- the flying command with a ticket is sent again
pub sent-repeated : (c : HostCommand) (s : Sending) (tag : ℕ) (now : Millis) (path : PathNo) (ts : ℕ → ℕ) (cs : List HostCommand) → c.sends ≡ Some s
    → c.done ≡ false → Only c cs
    → sent_of (map (at_ticket c.ticket (after_send tag now path ts)) cs) ≡ map
    (change_of c.ticket.0 (after_repeat now path (record { 0 = wait_of (ts c.device.0) (s.count + 1) }))) (sent_of cs)
unfolding made
sent-repeated c s tag now path ts cs sends flying alone =
    sent-mapped (at_ticket c.ticket (after_send tag now path ts)) (change_of c.ticket.0 f) cs
    (All-weaker (λ x. x.ticket.0 ≡ c.ticket.0 → x ≡ c)
    (λ x. as_sent (at_ticket c.ticket (after_send tag now path ts) x) ≡ option_map (change_of c.ticket.0 f) (as_sent x)) each cs alone)
  where
    f : Outstanding → Outstanding
    f = after_repeat now path (record { 0 = wait_of (ts c.device.0) (s.count + 1) })

    here : as_sent (after_send tag now path ts c)
        ≡ option_map (change_of c.ticket.0 (after_repeat now path (record { 0 = wait_of (ts c.device.0) (s.count + 1) }))) (as_sent c)
    here =
        let is : c ≡ made c.ticket c.device c.op (Some s) false = rw (← sends, ← flying) refl in
        rw is (sent-repeated-one c.ticket tag now path ts s c.device c.op)

    each : (x : HostCommand) → (x.ticket.0 ≡ c.ticket.0 → x ≡ c) → as_sent (at_ticket c.ticket (after_send tag now path ts) x)
        ≡ option_map (change_of c.ticket.0 (after_repeat now path (record { 0 = wait_of (ts c.device.0) (s.count + 1) }))) (as_sent x)
    each x is_c = elim (cases_Bool (nat_eq x.ticket.0 c.ticket.0)) [
      | inl same ↦
          rw same (rw (is_c (eqb-true x.ticket.0 c.ticket.0 same)) here)
      | inr other ↦
          rw other (others-sent c.ticket (after_repeat now path (record { 0 = wait_of (ts c.device.0) (s.count + 1) })) x other)
    ]

count-swap : (test : Outstanding → Bool) (a b : Outstanding) (xs ys : List Outstanding) → count_by test (a ∷ xs) ≡ count_by test ys
    → count_by test (a ∷ b ∷ xs) ≡ count_by test (b ∷ ys)
count-swap test a b xs ys same = omega (arith, count-cons test a xs, count-cons test a (b ∷ xs), count-cons test b xs, count-cons test b ys, same)

-- a command is sent for the first time
pub sent-started : (n : ℕ) (c : HostCommand) (tag : ℕ) (now : Millis) (path : PathNo) (ts : ℕ → ℕ) (cs : List HostCommand) → Ascends n cs → Contains cs c
    → c.sends ≡ None → c.done ≡ false
    → SameCommands (launched c.ticket tag now path (record { 0 = wait_of (ts c.device.0) 1 }) ∷ sent_of cs)
    (sent_of (map (at_ticket c.ticket (after_send tag now path ts)) cs))
sent-started n c tag now path ts [] up there fresh waits = absurd (omega (arith, there.1))
sent-started n c tag now path ts (x ∷ cs) up there fresh waits = elim (Contains-cons_cases x c cs there) [
  | inl same ↦
      let is_ticket : nat_eq x.ticket.0 c.ticket.0 ≡ true = eq-eqb x.ticket.0 c.ticket.0 (ap (λ (e : HostCommand). e.ticket.0) same) in
      let rest : map (at_ticket c.ticket (after_send tag now path ts)) cs ≡ cs =
      others-same c.ticket (after_send tag now path ts) cs (above-others x.ticket.0 cs c.ticket (ap (λ (e : HostCommand). e.ticket.0) same) up.1) in
      let none : x.sends ≡ None = ap (λ (e : HostCommand). e.sends) same ∙ fresh in
      let open_ : x.done ≡ false = ap (λ (e : HostCommand). e.done) same ∙ waits in
      let ticket : x.ticket ≡ c.ticket = ap (λ (e : HostCommand). e.ticket) same in
      let device : x.device ≡ c.device = ap (λ (e : HostCommand). e.device) same in
      rw (is_ticket, rest, none, open_, ticket, device) (λ test. refl)
  | inr behind ↦
      let above : x.ticket.0 < c.ticket.0 = All-contains (λ y. x.ticket.0 < y.ticket.0) cs c (ascends-all x.ticket.0 cs up.1) behind in
      let other : nat_eq x.ticket.0 c.ticket.0 ≡ false = ne_eqb x.ticket.0 c.ticket.0 (λ equal. absurd (omega (arith, above, equal))) in
      let rest = sent-started x.ticket.0 c tag now path ts cs up.1 behind fresh waits in
      rw other (with_front (as_sent x) rest)
]
  where
    with_front : (o : Option Outstanding) → SameCommands (launched c.ticket tag now path (record { 0 = wait_of (ts c.device.0) 1 }) ∷ sent_of cs)
        (sent_of (map (at_ticket c.ticket (after_send tag now path ts)) cs))
        → SameCommands (launched c.ticket tag now path (record { 0 = wait_of (ts c.device.0) 1 }) ∷ cons_option o (sent_of cs))
        (cons_option o (sent_of (map (at_ticket c.ticket (after_send tag now path ts)) cs)))
    with_front None rest = rest
    with_front (Some o) rest = λ test. count-swap test (launched c.ticket tag now path (record { 0 = wait_of (ts c.device.0) 1 })) o (sent_of cs)
        (sent_of (map (at_ticket c.ticket (after_send tag now path ts)) cs)) (rest test)

pub sent-submitted : (cs : List HostCommand) (t : Ticket) (device : DeviceNo) (op : Op) → sent_of (cs ++ submitted t device op ∷ []) ≡ sent_of cs
sent-submitted cs t device op = filter_map-append as_sent cs (submitted t device op ∷ []) ∙ append-nil (sent_of cs)

-- ---- what was submitted to a device

at-kept : (n : ℕ) (t : Ticket) (change : HostCommand → HostCommand) (c : HostCommand) → Keeps change → is_at n (at_ticket t change c) ≡ is_at n c
at-kept n t change c keeps = ap (λ (d : DeviceNo). nat_eq d.0 n) (kept-device t change c keeps)

-- where each command of a device changes as its stage does
entered-mapped : (n : ℕ) (t : Ticket) (change : HostCommand → HostCommand) (f : Command → Command) (cs : List HostCommand) → Keeps change
    → All (λ c. is_at n c ≡ true → as_entered (at_ticket t change c) ≡ f (as_entered c)) cs
    → entered_at n (map (at_ticket t change) cs) ≡ map f (entered_at n cs)
entered-mapped n t change f [] keeps all = refl
entered-mapped n t change f (c ∷ cs) keeps all =
    rw (at-kept n t change c keeps)
    (at (is_at n c) (All-head (λ x. is_at n x ≡ true → as_entered (at_ticket t change x) ≡ f (as_entered x)) c cs all)
    (entered-mapped n t change f cs keeps (All-tail (λ x. is_at n x ≡ true → as_entered (at_ticket t change x) ≡ f (as_entered x)) c cs all)))
  where
    at : (b : Bool) → (b ≡ true → as_entered (at_ticket t change c) ≡ f (as_entered c)) → entered_at n (map (at_ticket t change) cs) ≡ map f (entered_at n cs)
        → map as_entered (cond b (at_ticket t change c ∷ filter (is_at n) (map (at_ticket t change) cs)) (filter (is_at n) (map (at_ticket t change) cs)))
        ≡ map f (map as_entered (cond b (c ∷ filter (is_at n) cs) (filter (is_at n) cs)))
    at true here rest = rw (here refl, rest) refl
    at false here rest = rest

-- a device at which no command has the ticket
pub entered-others : (n : ℕ) (t : Ticket) (change : HostCommand → HostCommand) (cs : List HostCommand) → Keeps change
    → All (λ x. x.ticket.0 ≡ t.0 → x.device.0 ≢ n) cs
    → entered_at n (map (at_ticket t change) cs) ≡ entered_at n cs
entered-others n t change [] keeps all = refl
entered-others n t change (c ∷ cs) keeps all =
    rw (at-kept n t change c keeps)
    (at (is_at n c) refl (All-head (λ x. x.ticket.0 ≡ t.0 → x.device.0 ≢ n) c cs all)
    (entered-others n t change cs keeps (All-tail (λ x. x.ticket.0 ≡ t.0 → x.device.0 ≢ n) c cs all)))
  where
    same : is_at n c ≡ true → (c.ticket.0 ≡ t.0 → c.device.0 ≢ n) → at_ticket t change c ≡ c
    same here elsewhere =
        let other : nat_eq c.ticket.0 t.0 ≡ false = ne_eqb c.ticket.0 t.0 (λ equal. elsewhere equal (eqb-true c.device.0 n here)) in
        rw other refl

    at : (b : Bool) → is_at n c ≡ b → (c.ticket.0 ≡ t.0 → c.device.0 ≢ n) → entered_at n (map (at_ticket t change) cs) ≡ entered_at n cs
        → map as_entered (cond b (at_ticket t change c ∷ filter (is_at n) (map (at_ticket t change) cs)) (filter (is_at n) (map (at_ticket t change) cs)))
        ≡ map as_entered (cond b (c ∷ filter (is_at n) cs) (filter (is_at n) cs))
    at true here elsewhere rest =
        let is : at_ticket t change c ≡ c = same here elsewhere in
        rw (ap as_entered is, rest) refl
    at false here elsewhere rest = rest

stage-sent-one : (now : Millis) (tag : ℕ) (path : PathNo) (timeout : ℕ) (sends : Option Sending)
    → stage (Some (one_more tag now path timeout sends)) false ≡ stage_sent now (stage sends false)
stage-sent-one now tag path timeout None = refl
stage-sent-one now tag path timeout (Some s) = refl

stage-ended-one : (sends : Option Sending) (done : Bool) → stage sends true ≡ stage_finished (stage sends done)
stage-ended-one None done = refl
stage-ended-one (Some s) true = refl
stage-ended-one (Some s) false = refl

pub entered-sent : (n : ℕ) (t : Ticket) (tag : ℕ) (now : Millis) (path : PathNo) (ts : ℕ → ℕ) (cs : List HostCommand)
    → All (λ x. x.ticket.0 ≡ t.0 → x.done ≡ false) cs
    → entered_at n (map (at_ticket t (after_send tag now path ts)) cs) ≡ after_stage t.0 (stage_sent now) (entered_at n cs)
entered-sent n t tag now path ts cs waits =
    entered-mapped n t (after_send tag now path ts) (with_stage t.0 (stage_sent now)) cs (send-keeps tag now path ts)
    (All-weaker (λ x. x.ticket.0 ≡ t.0 → x.done ≡ false)
    (λ x. is_at n x ≡ true → as_entered (at_ticket t (after_send tag now path ts) x) ≡ with_stage t.0 (stage_sent now) (as_entered x))
    (λ x open_ _. each x open_) cs waits)
  where
    each : (x : HostCommand) → (x.ticket.0 ≡ t.0 → x.done ≡ false) → as_entered (at_ticket t (after_send tag now path ts) x)
        ≡ with_stage t.0 (stage_sent now) (as_entered x)
    each x open_ = elim (cases_Bool (nat_eq x.ticket.0 t.0)) [
      | inl same ↦
          let waits_still : x.done ≡ false = open_ (eqb-true x.ticket.0 t.0 same) in
          rw (same, waits_still) (ap (λ (g : Stage). record { ticket = x.ticket; kind = kind_of x.op; span = span_of x.op; stage = g })
          (stage-sent-one now tag path (ts x.device.0) x.sends))
      | inr other ↦ rw other refl
    ]

pub entered-ended : (n : ℕ) (t : Ticket) (cs : List HostCommand) → entered_at n (map (at_ticket t after_end) cs)
    ≡ after_stage t.0 stage_finished (entered_at n cs)
entered-ended n t cs = entered-mapped n t after_end (with_stage t.0 stage_finished) cs end-keeps (λ k d below _. each (get_or cs k d))
  where
    each : (x : HostCommand) → as_entered (at_ticket t after_end x) ≡ with_stage t.0 stage_finished (as_entered x)
    each x = elim (cases_Bool (nat_eq x.ticket.0 t.0)) [
      | inl same ↦ rw same (ap (λ (g : Stage). record { ticket = x.ticket; kind = kind_of x.op; span = span_of x.op; stage = g })
          (stage-ended-one x.sends x.done))
      | inr other ↦ rw other refl
    ]

pub entered-submitted : (n : ℕ) (cs : List HostCommand) (t : Ticket) (device : DeviceNo) (op : Op) → device.0 ≡ n
    → entered_at n (cs ++ submitted t device op ∷ []) ≡ entered_at n cs ++ new_command t (kind_of op) (span_of op) ∷ []
entered-submitted n cs t device op is =
    let here : nat_eq device.0 n ≡ true = eq-eqb device.0 n is in
    let parts : filter (is_at n) (cs ++ submitted t device op ∷ []) ≡ filter (is_at n) cs ++ submitted t device op ∷ [] =
    filter-append (is_at n) cs (submitted t device op ∷ []) ∙ rw here refl in
    ap (map as_entered) parts ∙ map-append as_entered (filter (is_at n) cs) (submitted t device op ∷ [])

pub entered-elsewhere : (n : ℕ) (cs : List HostCommand) (t : Ticket) (device : DeviceNo) (op : Op) → device.0 ≢ n
    → entered_at n (cs ++ submitted t device op ∷ []) ≡ entered_at n cs
entered-elsewhere n cs t device op elsewhere =
    let away : nat_eq device.0 n ≡ false = ne_eqb device.0 n elsewhere in
    let parts : filter (is_at n) (cs ++ submitted t device op ∷ []) ≡ filter (is_at n) cs =
    filter-append (is_at n) cs (submitted t device op ∷ []) ∙ rw away (append-nil (filter (is_at n) cs)) in
    ap (map as_entered) parts

-- ---- what has no outcome

pub unfinished-sent : (t : Ticket) (tag : ℕ) (now : Millis) (path : PathNo) (ts : ℕ → ℕ) (cs : List HostCommand)
    → unfinished (map (at_ticket t (after_send tag now path ts)) cs) ≡ unfinished cs
unfinished-sent t tag now path ts [] = refl
unfinished-sent t tag now path ts (c ∷ cs) = at (nat_eq c.ticket.0 t.0) c.done (unfinished-sent t tag now path ts cs)
  where
    at : (b d : Bool) → unfinished (map (at_ticket t (after_send tag now path ts)) cs) ≡ unfinished cs
        → unfinished (cond b (record {
          ticket = c.ticket;
          device = c.device;
          op = c.op;
          sends = Some (one_more tag now path (ts c.device.0) c.sends);
          done = d;
        }) (record { ticket = c.ticket; device = c.device; op = c.op; sends = c.sends; done = d }) ∷ map
        (at_ticket t (after_send tag now path ts)) cs)
        ≡ unfinished (record { ticket = c.ticket; device = c.device; op = c.op; sends = c.sends; done = d } ∷ cs)
    at true true rest = rest
    at false true rest = rest
    at true false rest = rw rest refl
    at false false rest = rw rest refl

pub unfinished-submitted : (cs : List HostCommand) (t : Ticket) (device : DeviceNo) (op : Op)
    → unfinished (cs ++ submitted t device op ∷ []) ≡ unfinished cs ++ record { ticket = t; device = device; op = op } ∷ []
unfinished-submitted cs t device op =
    ap (map (λ c. record { ticket = c.ticket; device = c.device; op = c.op })) (filter-append (λ c. not c.done) cs (submitted t device op ∷ []))
    ∙ map-append (λ c. record { ticket = c.ticket; device = c.device; op = c.op }) (filter (λ c. not c.done) cs) (submitted t device op ∷ [])

-- a command without an outcome is among those that wait
pub unfinished-there : (cs : List HostCommand) (c : HostCommand) → Contains cs c → c.done ≡ false
    → Contains {X = Waiting} (unfinished cs) (record { ticket = c.ticket; device = c.device; op = c.op })
unfinished-there [] c there open_ = absurd (omega (arith, there.1))
unfinished-there (x ∷ cs) c there open_ = elim (Contains-cons_cases x c cs there) [
  | inl same ↦
      let waits_still : x.done ≡ false = ap (λ (e : HostCommand). e.done) same ∙ open_ in
      rw waits_still (0, omega arith, ap (λ (e : HostCommand). record { ticket = e.ticket; device = e.device; op = e.op }) same)
  | inr behind ↦ elim (cases_Bool x.done) [
    | inl done ↦ rw done (unfinished-there cs c behind open_)
    | inr open_x ↦ rw open_x (Contains-cons _ _ (unfinished cs) (unfinished-there cs c behind open_))
  ]
]

-- what waits is a command without an outcome
pub unfinished-from : (cs : List HostCommand) (w : Waiting) → Contains (unfinished cs) w
    → (c : HostCommand) × Contains cs c × (c.done ≡ false) × (w ≡ record { ticket = c.ticket; device = c.device; op = c.op })
unfinished-from [] w there = absurd (omega (arith, there.1))
unfinished-from (x ∷ cs) w there = elim (cases_Bool x.done) [
  | inl done ↦ let found = unfinished-from cs w (rw done at there) in (found.0, Contains-cons x found.0 cs found.1, found.2, found.3)
  | inr open_ ↦ elim (Contains-cons_cases (record { ticket = x.ticket; device = x.device; op = x.op }) w (unfinished cs) (rw open_ at there)) [
    | inl same ↦ (x, (0, omega arith, refl), open_, sym same)
    | inr behind ↦ let found = unfinished-from cs w behind in (found.0, Contains-cons x found.0 cs found.1, found.2, found.3)
  ]
]

above-waits : (n : ℕ) (cs : List HostCommand) → Ascends n cs → All {X = Waiting} (λ w. n < w.ticket.0) (unfinished cs)
above-waits n [] up = All-nil (λ w. n < w.ticket.0)
above-waits n (c ∷ cs) up =
    let rest =
    All-weaker (λ w. c.ticket.0 < w.ticket.0) (λ w. n < w.ticket.0) (λ w above. omega (arith, above, up.0)) (unfinished cs) (above-waits c.ticket.0 cs up.1) in
    elim (cases_Bool c.done) [
      | inl done ↦ rw done rest
      | inr open_ ↦ rw open_ (All-cons (λ w. n < w.ticket.0) (record { ticket = c.ticket; device = c.device; op = c.op }) (unfinished cs) up.0 rest)
    ]

skip : (x : HostCommand) (xs : List HostCommand) → x.done ≡ true → unfinished (x ∷ xs) ≡ unfinished xs
skip x xs is = rw is refl

keep : (x : HostCommand) (xs : List HostCommand) → x.done ≡ false → unfinished (x ∷ xs)
    ≡ record { ticket = x.ticket; device = x.device; op = x.op } ∷ unfinished xs
keep x xs is = rw is refl

done-still : (t : Ticket) (c : HostCommand) → c.done ≡ true → (at_ticket t after_end c).done ≡ true
done-still t c is = elim (cases_Bool (nat_eq c.ticket.0 t.0)) [
  | inl same ↦ rw same refl
  | inr other ↦ rw other is
]

-- a command ends: what waits at its place goes
pub unfinished-ended : (n : ℕ) (t : Ticket) (cs : List HostCommand) (at : ℕ) (d : Waiting) → Ascends n cs → at < length (unfinished cs)
    → (get_or (unfinished cs) at d).ticket.0 ≡ t.0
    → remove (unfinished cs) at ≡ unfinished (map (at_ticket t after_end) cs)
unfinished-ended n t [] at d up inside is = absurd (omega (arith, inside))
unfinished-ended n t (c ∷ cs) at d up inside is = by_done c.done refl at inside is (λ k within there. unfinished-ended c.ticket.0 t cs k d up.1 within there)
  where
    by_done : (b : Bool) → c.done ≡ b → (k : ℕ)
        → k < length {A = Waiting}
        (map (λ e. record { ticket = e.ticket; device = e.device; op = e.op }) (cond (not b) (c ∷ filter (λ e. not e.done) cs) (filter (λ e. not e.done) cs)))
        → (get_or {A = Waiting} (map (λ e. record { ticket = e.ticket; device = e.device; op = e.op })
        (cond (not b) (c ∷ filter (λ e. not e.done) cs) (filter (λ e. not e.done) cs))) k d).ticket.0 ≡ t.0
        → ((j : ℕ) → j < length (unfinished cs) → (get_or (unfinished cs) j d).ticket.0 ≡ t.0
        → remove (unfinished cs) j ≡ unfinished (map (at_ticket t after_end) cs))
        → remove {X = Waiting}
        (map (λ e. record { ticket = e.ticket; device = e.device; op = e.op }) (cond (not b) (c ∷ filter (λ e. not e.done) cs) (filter (λ e. not e.done) cs))) k
        ≡ unfinished (map (at_ticket t after_end) (c ∷ cs))
    by_done true done k within there rest =
        rest k within there ∙ sym (skip (at_ticket t after_end c) (map (at_ticket t after_end) cs) (done-still t c done))
    by_done false open_ zero within there rest =
        let same : nat_eq c.ticket.0 t.0 ≡ true = eq-eqb c.ticket.0 t.0 there in
        let ended : (at_ticket t after_end c).done ≡ true = rw same refl in
        let others : map (at_ticket t after_end) cs ≡ cs = others-same t after_end cs (above-others c.ticket.0 cs t there up.1) in
        sym (skip (at_ticket t after_end c) (map (at_ticket t after_end) cs) ended ∙ ap unfinished others)
    by_done false open_ (suc k) within there rest =
        let inside_rest : k < length (unfinished cs) = omega (arith, within) in
        let above : c.ticket.0 < (get_or (unfinished cs) k d).ticket.0 = above-waits c.ticket.0 cs up.1 k d inside_rest in
        let other : nat_eq c.ticket.0 t.0 ≡ false = ne_eqb c.ticket.0 t.0 (λ equal. absurd (omega (arith, above, there, equal))) in
        let stays : at_ticket t after_end c ≡ c = rw other refl in
        let kept : unfinished (at_ticket t after_end c ∷ map (at_ticket t after_end) cs)
        ≡ record { ticket = c.ticket; device = c.device; op = c.op } ∷ unfinished (map (at_ticket t after_end) cs) =
        ap (λ (x : HostCommand). unfinished (x ∷ map (at_ticket t after_end) cs)) stays ∙ keep c (map (at_ticket t after_end) cs) open_ in
        ap (λ (l : List Waiting). record { ticket = c.ticket; device = c.device; op = c.op } ∷ l) (rest k inside_rest there) ∙ sym kept

-- ---- waits

-- a minute is reached long before
capped : (timeout more : ℕ) → 0 < more → min 60000 (timeout * 2 ^ 32) ≡ min 60000 (timeout * (2 ^ 32 * more))
capped zero more some = omega arith
capped (suc t) more some =
    let low : 60000 ≤ suc t * 2 ^ 32 = omega arith in
    let enough : 60000 ≤ 2 ^ 32 * more = omega (arith, some) in
    let high : 60000 ≤ suc t * (2 ^ 32 * more) = omega (arith, mul-le 1 60000 (suc t) (2 ^ 32 * more) (omega arith) enough) in
    omega (arith, low, high)

-- the wait is the same where the sends aren't counted on

pub wait-capped : (timeout n : ℕ) → wait_of timeout (min n 32 + 1) ≡ wait_of timeout (n + 1)
wait-capped timeout n = elim (cases_lt 32 n) [
  | inl more ↦
      let many : min n 32 ≡ 32 = omega (arith, more) in
      let split : n + 1 - 1 ≡ 32 + (n - 32) = omega (arith, more) in
      let power : 2 ^ (n + 1 - 1) ≡ 2 ^ 32 * 2 ^ (n - 32) = ap (λ (k : ℕ). 2 ^ k) split ∙ pow-add 2 32 (n - 32) in
      rw (many, power) (capped timeout (2 ^ (n - 32)) (pow_pos (n - 32)))
  | inr few ↦
      let same : min n 32 ≡ n = omega (arith, few) in
      rw same refl
]
