-- A host tells its outcomes: that of the response, then the commands that it gives up.
use Rattle.std.proofs.Common.{ℕ, ◌≡◌, ◌≤◌, ◌⊎◌, inl, inr, max, true, false, List, [], ◌∷◌, ◌++◌, length, reverse, Option, Some, None, refl, sym, ap, ◌∙◌, arith, append_assoc}
use Rattle.std.specs.Prelude.{All, IfSome}
use Rattle.std.proofs.lemmas.Bool.{cases_Bool}
use Rattle.std.proofs.lemmas.List.{reverse-append, reverse-reverse, length-append, nil_from_length}
use Rattle.arrayvec.specs.ArrayVec.{ArrayVec}
use Rattle.aoe_base.specs.declared.counted.Millis.{Millis}
use Rattle.aoe_flight.specs.Outstanding.{is_expired}
use Rattle.aoe_initiator.specs.declared.outcome.Done.{Done}
use Rattle.aoe_initiator.specs.Host.{Host, IsSame, Matches}
use Rattle.aoe_initiator.specs.HostLaw.{ended, given_up, GaveUpInTurn}
use Rattle.aoe_initiator.specs.HostLog.{commands, sent_of, Event}
use Rattle.aoe_initiator.specs.HostLog.Event.{Advances}
use Rattle.aoe_history.specs.declared.entry.Entry.{Entry}
use Rattle.aoe_history.specs.declared.entry.Entry.TheVariants.{Done as Finished}
use Rattle.aoe_history.specs.Commands.{commands_of, log_of, tickets}
use Rattle.aoe_history.specs.Frames.{clock}
use Rattle.aoe_history.specs.Groups.{told, Got, GivesUp}
use Rattle.aoe_history.specs.Groups.GivesUp.{gives_none, gives_one}
use Rattle.aoe_history.specs.HostLaw.{IsAnswered, IsDone}
use Rattle.aoe_history.specs.Lawful.{IsLawful}
use Rattle.aoe_history.specs.Setup.{host_called, is_called, HostSetup, Setup}
use Rattle.aoe_sim_hosts.specs.Host.{is_told, log_with, told_of, Awaits, SimHost, TellsSame}
use Rattle.aoe_sim_hosts.specs.Turns.{noted, HasBegun, HasTold, Notes}
use Rattle.aoe_sim_hosts.proofs.Called.{is-called}
use Rattle.aoe_sim_hosts.proofs.Same.{host-same, matches-same}
use Rattle.aoe_initiator.proofs.MatchLemmas.{matches-taken}

-- LOGS

tells-ended : (a b : List Event) (dones : List Done) → TellsSame a b → TellsSame (ended dones a) (ended dones b)
tells-ended a b [] same = same
tells-ended a b (d ∷ dones) same = let x = tells-ended a b dones same in record {
  time = x.time;
  commands_are = rw x.commands_are;
  paths = λ n. rw (x.time, x.commands_are, x.paths n);
}

-- a host took down some outcomes: the history is lawful, no time went by, no ticket was given, and this is what the host did
pub record Tells (s : Setup) (host : HostSetup) (h m : List Entry) (log : List Event) : Type 0 where
  pub lawful : IsLawful s m
  pub log_is : log_of host m ≡ log
  pub time : clock m ≡ clock h
  pub tickets_are : tickets host m ≡ tickets host h

module _ (s : Setup) (host : HostSetup) (name : ArrayVec ℕ) (called : host_called s name ≡ Some host) (h : List Entry) (lawful : IsLawful s h) where
  own : is_called host name ≡ true
  own = is-called s name host called

  -- commands were given up in turn
  gave-up : (log : List Event) (now : ℕ) → now ≡ clock h → TellsSame log (log_of host h) → (dones : List Done) → GaveUpInTurn host.dead now log dones
      → GivesUp name h (noted name dones h) × Tells s host h (noted name dones h) (ended dones (log_of host h))
  gave-up log now time same [] given = (gives_none, record { lawful = lawful; log_is = refl; time = refl; tickets_are = refl })
  gave-up log now time same (d ∷ dones) given =
      let (gives, before) = gave-up log now time same dones given.0 in
      let m : List Entry = noted name dones h in
      let o = given.1.0 in
      let is : d ≡ given_up now o = given.1.2 in
      let sames : commands (ended dones log) ≡ commands_of host m
      = (tells-ended log (log_of host h) dones same).commands_are ∙ ap commands (sym before.log_is) in
      let still : now ≡ clock m = time ∙ sym before.time in
      let may : IsDone s host m d.ticket.0 d.outcome
      = inr (record { command = o; late = rw (sames, still) at given.1.1; ticket_is = rw is; gives = rw (is, still) }) in (
        rw is (gives_one o.ticket.0 o.flying.first (record { 0 = now }) gives),
        record { lawful = (rw called may, before.lawful); log_is = rw (is, own, before.log_is); time = before.time; tickets_are = before.tickets_are },
      )

  -- the outcome of a response was told
  told-first : (got : Option Got) → IfSome got (λ x. is_told host x ≡ true → IsAnswered s host h x.ticket x.outcome)
      → Tells s host h (told name host got h) (log_with host got h) × (noted name (told_of host got) h ≡ told name host got h)
  told-first None answered = (record { lawful = lawful; log_is = refl; time = refl; tickets_are = refl }, refl)
  told-first (Some got) answered = elim (cases_Bool (is_told host got)) [
    | inl mine ↦ (record { lawful = rw (mine, called) (inl (answered mine), lawful); log_is = rw (mine, own); time = rw mine; tickets_are = rw mine }, rw mine)
    | inr other ↦ (record { lawful = rw other lawful; log_is = rw other; time = rw other; tickets_are = rw other }, rw other)
  ]

-- LISTS OF OUTCOMES

noted-append : (name : ArrayVec ℕ) (xs ys : List Done) (h : List Entry) → noted name (xs ++ ys) h ≡ noted name xs (noted name ys h)
noted-append name [] ys h = refl
noted-append name (d ∷ xs) ys h = rw (noted-append name xs ys h)

-- a list that another ends with, up to some last elements
pub record IsBehind (xs last ys : List Done) : Type 0 where
  pub before : List Done
  pub rest : List Done
  pub whole : xs ≡ before ++ rest
  pub is : ys ≡ rest ++ last

behind : (xs ys zs last : List Done) → xs ++ ys ≡ zs ++ last → length last ≤ 1 → (ys ≡ []) ⊎ IsBehind zs last ys
behind [] ys zs last same few = inr (record { before = []; rest = zs; whole = refl; is = same })
behind (x ∷ xs) ys [] last same few = inl (nil_from_length ys (omega (arith, simp length-append at (ap length same))))
behind (x ∷ xs) ys (z ∷ zs) last same few = elim (behind xs ys zs last (cc) few) [
  | inl none ↦ inl none
  | inr b ↦ inr (record { before = z ∷ b.before; rest = b.rest; whole = rw b.whole; is = b.is })
]

given-behind : (dead now : ℕ) (log : List Event) (before rest : List Done) → GaveUpInTurn dead now log (before ++ rest) → GaveUpInTurn dead now log rest
given-behind dead now log [] rest given = given
given-behind dead now log (d ∷ before) rest given = given-behind dead now log before rest given.0

-- at most one outcome came of a response
few-told : (host : HostSetup) (got : Option Got) → length (told_of host got) ≤ 1
few-told host None = omega arith
few-told host (Some got) = elim (cases_Bool (is_told host got)) [ inl mine ↦ rw mine (omega arith) | inr other ↦ rw other (omega arith) ]

one-reversed : (xs : List Done) → length xs ≤ 1 → reverse xs ≡ xs
one-reversed (x ∷ y ∷ xs) few = absurd (omega arith)
one-reversed _ few = refl

-- what was told of the outcomes that waited, the latest first
turned : (told given dones rest : List Done) → length told ≤ 1 → told ++ reverse given ≡ reverse dones ++ rest → reverse rest ++ dones ≡ given ++ told
turned told given dones rest few same = sym (rw (one-reversed told few) at (simp (reverse-append, reverse-reverse) at (ap reverse same)))

-- WHAT IS TOLD

-- the core of a host after its clock went on: some commands were given up
pub record Advanced (x : SimHost) (h : List Entry) (core : Host) : Type 0 where
  pub now : Millis
  pub at : now.0 ≡ clock h
  pub time : core.clock ≡ max x.core.clock now.0
  pub dones : List Done
  pub waiting : core.waiting ≡ x.core.waiting ++ reverse dones
  pub gave : (log : List Event) → Matches log x.core
      → GaveUpInTurn x.core.dead core.clock (Advances now ∷ log) dones
      × All (λ o. is_expired x.core.dead core.clock o ≡ false) (sent_of (commands (ended dones (Advances now ∷ log))))
      × Matches (ended dones (Advances now ∷ log)) core
  pub same : IsSame x.core core
  pub last : core.last_ticket ≡ x.core.last_ticket

module _ (s : Setup) (host : HostSetup) (got : Option Got) (h : List Entry) (x : SimHost) (a : Awaits s host got h x)
    (lawful : IsLawful s h) (core : Host) (went : Advanced x h core) where
  abbrev mid : List Entry
  mid = told x.name host got h

  abbrev log : List Event
  log = Advances went.now ∷ a.log

  first : Tells s host h mid (log_with host got h) × (noted x.name (told_of host got) h ≡ mid)
  first = told-first s host x.name a.is.called h lawful got a.response

  time : core.clock ≡ clock h
  time = omega (arith, a.past, went.at, went.time)

  same : TellsSame log (log_of host mid)
  same = rw first.0.log_is (rw (← went.at) at a.same)

  -- some of the commands were given up in turn
  noted-some : (before rest : List Done) → went.dones ≡ before ++ rest
      → GivesUp x.name mid (noted x.name rest mid) × Tells s host mid (noted x.name rest mid) (ended rest (log_of host mid))
  noted-some before rest whole =
      let given = rw (a.is.dead, whole) at (went.gave a.log a.matches).0 in
      gave-up s host x.name a.is.called mid first.0.lawful log core.clock (time ∙ sym first.0.time) same rest
      (given-behind host.dead core.clock log before rest given)

  noted-is : (dones rest : List Done) → dones ≡ rest ++ told_of host got → noted x.name dones h ≡ noted x.name rest mid
  noted-is dones rest is = rw (is, noted-append x.name rest (told_of host got) h, first.1)

  reversed : (dones rest : List Done) → core.waiting ≡ reverse dones ++ rest → reverse rest ++ dones ≡ went.dones ++ told_of host got
  reversed dones rest waited = turned (told_of host got) went.dones dones rest (few-told host got) (rw (went.waiting, a.waiting) at waited)

  -- not all outcomes were told
  pub begun : (m : List Entry) (rest : List Done) → Notes x.name core.waiting rest h m → HasBegun s host got x.name h m
  begun m rest notes = elim (behind (reverse rest) notes.dones went.dones (told_of host got) (reversed notes.dones rest notes.waited) (few-told host got)) [
    | inl none ↦ rw (notes.is, none) (record { begun = inl refl; lawful = lawful })
    | inr b ↦
        let (gives, n) = noted-some b.before b.rest b.whole in
        rw (notes.is, noted-is notes.dones b.rest b.is) (record { begun = inr gives; lawful = n.lawful })
  ]

  -- all outcomes were told
  pub told-all : (m : List Entry) (y : SimHost) → Notes x.name core.waiting [] h m → y ≡ record { name = x.name; core = record core { waiting = [] } }
      → HasTold s host got h m y
  told-all m y notes is_y =
      let (gives, n) = noted-some [] went.dones refl in
      let e : List Entry = noted x.name went.dones mid in
      let gave = went.gave a.log a.matches in
      let now : core.clock ≡ clock e = time ∙ sym (n.time ∙ first.0.time) in
      let sames = tells-ended log (log_of host mid) went.dones same in
      let w = went.same in
      let kept : IsSame x.core (record core { waiting = [] }) = record { ports = w.ports; life = w.life; room = w.room; dead = w.dead; devices = w.devices } in
      rw (notes.is, noted-is notes.dones went.dones (reversed notes.dones [] notes.waited), is_y) (record {
        gives_up = gives;
        none_late = rw (a.is.dead, now, sames.commands_are, ← n.log_is) at gave.1;
        lawful = n.lawful;
        settled = record {
          is = host-same s host x _ refl kept a.is;
          last = went.last ∙ a.last ∙ sym (n.tickets_are ∙ first.0.tickets_are);
          time = now;
          matches = matches-taken (log_of host e) core [] (rw (← n.log_is) at (matches-same _ _ core sames gave.2));
          waiting = refl;
        };
      })

-- one outcome more is taken down
pub noted-more : (name : ArrayVec ℕ) (waiting left rest : List Done) (d : Done) (h m n : List Entry) → Notes name waiting left h m → left ≡ d ∷ rest
    → n ≡ Finished name d.ticket.0 d.outcome ∷ m → Notes name waiting rest h n
noted-more name waiting left rest d h m n notes is more = record {
  dones = d ∷ notes.dones;
  waited = notes.waited ∙ rw (is, reverse-append (d ∷ []) notes.dones, append_assoc);
  is = rw (more, notes.is);
}

-- and nothing else changes
pub told-same : (before x : SimHost) (name : ArrayVec ℕ) (core new : Host) → (let z : SimHost = record { name = name; core = core } in z) ≡ x
    → x ≡ record before { core = record before.core { waiting = x.core.waiting } } → new ≡ record core { waiting = new.waiting }
    → (let z : SimHost = record { name = name; core = new } in z) ≡ record before { core = record before.core { waiting = new.waiting } }
told-same before x name core new is same step =
    ap (λ (c : Host). let z : SimHost = record { name = name; core = c } in z) step
    ∙ ap (λ (v : SimHost). let z : SimHost = record { name = v.name; core = record v.core { waiting = new.waiting } } in z) (is ∙ same)
