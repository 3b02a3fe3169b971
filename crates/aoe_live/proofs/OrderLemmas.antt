-- The commands of a run in their order, and its time.
use Rattle.std.proofs.Common.{ℕ, zero, suc, ◌≡◌, ◌+◌, ◌-◌, ◌*◌, ◌/◌, ◌%◌, ◌^◌, ◌≤◌, ◌<◌, ◌⊎◌, not, Bool, true, false, nat_lt, List, [], ◌∷◌, ◌++◌, length, replicate, Option, Some, None, append_assoc, refl, sym, ap, subst, ◌∙◌, arith, inl, inr, rules}
use Rattle.std.specs.Prelude.{◌==◌, ◌&&◌, ◌||◌, if◌then◌else◌}
use Rattle.std.proofs.Math.Nat.{div-add-mod}
use Rattle.std.proofs.lemmas.Bool.{and_parts, cases_lt}
use Rattle.std.proofs.lemmas.Bool.Decides.{nat_tests}
use Rattle.aoe_base.specs.declared.address.TargetId.{TargetId}
use Rattle.aoe_initiator.specs.declared.op.Op.{Op}
use Rattle.aoe_history.specs.declared.entry.Entry.{Entry}
use Rattle.aoe_history.specs.declared.entry.Entry.TheVariants.{Submitted, Done, Ticked}
use Rattle.aoe_history.specs.Asks.{submission_in}
use Rattle.aoe_history.specs.Commands.{Submission}
use Rattle.aoe_history.specs.Frames.{clock}
use Rattle.aoe_history.specs.Setup.{Setup}
use Rattle.aoe_io.specs.Link.{Turn, came}
use Rattle.aoe_script.specs.declared.event.Event.{Event}
use Rattle.aoe_script.specs.declared.event.Event.TheVariants.{Read, Write, Flush, Tick, Deliver}
use Rattle.aoe_script.specs.declared.setup.Setup.{Setup as Line}
use Rattle.aoe_sim_setup.specs.Layout.{setup_of}
use Rattle.aoe_world.specs.Replay.{Plays}
use Rattle.aoe_world.specs.Schedule.{Comes}
use Rattle.aoe_live.specs.declared.frames.Sender.{Sender}
use Rattle.aoe_live.specs.declared.frames.Sender.TheVariants as sender
use Rattle.aoe_live.specs.declared.tally.Tally.{Tally}
use Rattle.aoe_live.specs.Lines.{asking, delivery, handing, ticks, LinesCome}
use Rattle.aoe_live.specs.Frames.{newest}
use Rattle.aoe_live.specs.Rounds.{IsTurn}
use Rattle.aoe_live.specs.Stations.{command, device, host_a, stations}
use Rattle.aoe_live.specs.Order.{has_outcome, AreAsked, InOrder}
use Rattle.aoe_live.specs.Tally.{is_over, submissions, tally_of}
use Rattle.aoe_live.proofs.GrownLemmas.{aside-clock, aside-submissions, aside-tail, asked as entered_as, handed, tail-behind, ticked, Asked}

equal : (n : ℕ) → (n == n) ≡ true
equal n = search rules

-- THE TALLY

-- as many were begun as were submitted
pub begun-is : (h : List Entry) → length (submissions h) < 2 ^ 64 - 1 → (tally_of h).begun ≡ length (submissions h)
begun-is [] small = refl
begun-is (Submitted host ticket dev op ∷ h) small = let b = begun-is h (omega (arith, small)) in omega (arith, b, small)
begun-is (_ ∷ h) small = begun-is h small

-- the one that ended last has its outcome
ended-has : (h : List Entry) (n : ℕ) → (tally_of h).ended ≡ n → 1 ≤ n → has_outcome n h ≡ true
ended-has [] n is some = absurd (none_yet (omega (arith, is, some)))
  where
    none_yet : 1 ≤ 0 → ⊥
    none_yet x = omega (arith, x)
ended-has (Done host ticket outcome ∷ h) n is some = let same : (ticket == n) ≡ true = ap (λ x. x == n) is ∙ equal n in rw same refl
ended-has (_ ∷ h) n is some = ended-has h n is some

has-more : (new h : List Entry) (n : ℕ) → has_outcome n h ≡ true → has_outcome n (new ++ h) ≡ true
has-more [] h n is = is
has-more (Done host ticket outcome ∷ new) h n is = go (ticket == n) (has-more new h n is)
  where
    go : (b : Bool) → has_outcome n (new ++ h) ≡ true → (b || has_outcome n (new ++ h)) ≡ true
    go true e = refl
    go false e = e
has-more (_ ∷ new) h n is = has-more new h n is

-- LINES THAT SUBMIT NOTHING

-- so much time went by, and nothing was submitted
record Keeps (ms : ℕ) (h m : List Entry) : Type 0 where
  same : submissions m ≡ submissions h
  new : List Entry
  tail : m ≡ new ++ h
  time : clock m ≡ clock h + ms

keeps-none : (h m : List Entry) → m ≡ h → Keeps 0 h m
keeps-none h m is = record { same = ap submissions is; new = []; tail = is; time = let e : clock m ≡ clock h = ap clock is in omega (arith, e) }

keeps-then : (a b : ℕ) (h m n : List Entry) → Keeps a h m → Keeps b m n → Keeps (a + b) h n
keeps-then a b h m n x y = record {
  same = y.same ∙ x.same;
  new = y.new ++ x.new;
  tail = y.tail ∙ ap (λ l. y.new ++ l) x.tail ∙ sym (append_assoc y.new x.new h);
  time = omega (arith, x.time, y.time);
}

abbrev is_passive : Event → Bool
is_passive (Tick ms) = true
is_passive (Deliver frame name) = true
is_passive event = false

abbrev takes : Event → ℕ
takes (Tick ms) = ms
takes event = 0

abbrev times : List Event → ℕ
times [] = 0
times (e ∷ es) = takes e + times es

abbrev ArePassive : List Event → Type 0
ArePassive [] = Unit {0}
ArePassive (e ∷ es) = (is_passive e ≡ true) × ArePassive es

one-keeps : (s : Setup) (lines : List Line) (e : Event) (a b : ℕ) (h m : List Entry) → is_passive e ≡ true → Comes s lines e a h b m → Keeps (takes e) h m
one-keeps s lines (Tick ms) a b h m t comes =
    let x = ticked s ms h m comes.1 in
    let tail = tail-behind (Ticked ms) h m x in
    record { same = aside-submissions (Ticked ms ∷ h) m x; new = tail.0; tail = tail.1; time = aside-clock (Ticked ms ∷ h) m x }
one-keeps s lines (Deliver frame name) a b h m t comes =
    let x = handed s frame _ h m comes.1 in
    let tail = aside-tail h m x in
    record { same = aside-submissions h m x; new = tail.0; tail = tail.1; time = let e = aside-clock h m x in omega (arith, e) }
one-keeps s lines _ a b h m t comes = absurd cc

plays-keep : (s : Setup) (lines : List Line) (es : List Event) (a b : ℕ) (h m : List Entry) → ArePassive es → Plays s lines es a h b m → Keeps (times es) h m
plays-keep s lines [] a b h m p x = keeps-none h m x.1
plays-keep s lines (e ∷ es) a b h m p x = keeps-then (takes e) (times es) h x.1 m (one-keeps s lines e a x.0 h x.1 p.0 x.2)
    (plays-keep s lines es x.0 b x.1 m p.1 x.3)

passive-append : (xs ys : List Event) → ArePassive xs → ArePassive ys → ArePassive (xs ++ ys)
passive-append [] ys p q = q
passive-append (x ∷ xs) ys p q = (p.0, passive-append xs ys p.1 q)

times-append : (xs ys : List Event) → times (xs ++ ys) ≡ times xs + times ys
times-append [] ys = omega arith
times-append (x ∷ xs) ys = omega (arith, times-append xs ys)

passive-whole : (n k : ℕ) → ArePassive (replicate n (Tick k))
passive-whole zero k = tt
passive-whole (suc n) k = (refl, passive-whole n k)

times-whole : (n : ℕ) → times (replicate n (Tick 10000000)) ≡ 10000000 * n
times-whole zero = refl
times-whole (suc n) = let e = times-whole n in omega (arith, e)

passive-ticks : (ms : ℕ) → ArePassive (ticks ms)
passive-ticks ms = passive-append (replicate (ms / 10000000) (Tick 10000000)) _ (passive-whole (ms / 10000000) 10000000) (go (ms % 10000000 == 0))
  where
    go : (b : Bool) → ArePassive (if b then [] else Tick (ms % 10000000) ∷ [])
    go true = tt
    go false = (refl, tt)

times-ticks : (ms : ℕ) → times (ticks ms) ≡ ms
times-ticks ms = times-append (replicate (ms / 10000000) (Tick 10000000)) _ ∙ all
  where
    rest : (b : Bool) → (ms % 10000000 == 0) ≡ b → times (if b then [] else Tick (ms % 10000000) ∷ []) ≡ ms % 10000000
    rest true none = let e : ms % 10000000 ≡ 0 = grind (arith, nat_tests, none) in omega (arith, e)
    rest false some = omega arith

    all : times (replicate (ms / 10000000) (Tick 10000000)) + times (if ms % 10000000 == 0 then [] else Tick (ms % 10000000) ∷ []) ≡ ms
    all = ap (λ x. x + times (if ms % 10000000 == 0 then [] else Tick (ms % 10000000) ∷ [])) (times-whole (ms / 10000000))
        ∙ ap (λ x. 10000000 * (ms / 10000000) + x) (rest (ms % 10000000 == 0) refl) ∙ div-add-mod ms 10000000

delivery-keeps : (s : Sender) (o : Option ℕ) → ArePassive (delivery s o) × (times (delivery s o) ≡ 0)
delivery-keeps s None = (tt, refl)
delivery-keeps s (Some number) = ((refl, tt), refl)

handing-keeps : (s : Sender) (t : Turn) (h : List Entry) → ArePassive (handing s t h) × (times (handing s t h) ≡ 0)
handing-keeps s (came bytes) h = delivery-keeps s (newest s 2000 h bytes)
handing-keeps s _ h = (tt, refl)

-- A LINE THAT ASKS

-- it was submitted, or refused
record Asks (e : Event) (h m : List Entry) : Type 0 where
  new : List Entry
  tail : m ≡ new ++ h
  time : clock m ≡ clock h
  what : (submissions m ≡ submissions h) ⊎ ((x : Submission) × (submission_in e ≡ Some x) × (submissions m ≡ x ∷ submissions h))

asks-of : (e : Event) (dev : TargetId) (op : Op) (h m : List Entry) → submission_in e ≡ Some (record { dev = dev; op = op }) → Asked dev op h m → Asks e h m
asks-of e dev op h m is a =
    let tail = tail-behind a.entry h m a.aside in
    let subs = aside-submissions (a.entry ∷ h) m a.aside in
    let time = aside-clock (a.entry ∷ h) m a.aside in
    elim a.is [
      | inl (name, ticket, same) ↦
          record {
            new = tail.0;
            tail = tail.1;
            time = time ∙ ap (λ x. clock (x ∷ h)) same;
            what = inr (record { dev = dev; op = op }, is, subs ∙ ap (λ x. submissions (x ∷ h)) same);
          }
      | inr (name, refusal, same) ↦ record {
        new = tail.0;
        tail = tail.1;
        time = time ∙ ap (λ x. clock (x ∷ h)) same;
        what = inl (subs ∙ ap (λ x. submissions (x ∷ h)) same);
      }
    ]

command-asks : (s : Setup) (lines : List Line) (sectors count i a b : ℕ) (h m : List Entry) → Comes s lines (command sectors count i) a h b m
    → Asks (command sectors count i) h m
command-asks s lines sectors count i a b h m = go (i == count) (i % 2 == 0)
  where
    go : (last write : Bool) → Comes s lines
        (if last then Flush host_a device else if write then Write host_a device (i % sectors) 1 (i % 256) else Read host_a device ((i - 1) % sectors) 1) a h b
        m
        → Asks (if last then Flush host_a device else if write then Write host_a device (i % sectors) 1 (i % 256) else Read host_a device ((i - 1) % sectors) 1)
        h m
    go true write comes = asks-of (Flush host_a device) device _ h m refl (entered_as s host_a device _ h m comes.1)
    go false true comes = asks-of (Write host_a device (i % sectors) 1 (i % 256)) device _ h m refl (entered_as s host_a device _ h m comes.1)
    go false false comes = asks-of (Read host_a device ((i - 1) % sectors) 1) device _ h m refl (entered_as s host_a device _ h m comes.1)

-- ALL OF THEM

pub order-none : (sectors count : ℕ) → InOrder sectors count []
order-none sectors count = record { asked = tt; few = omega arith; each_done = λ ticket some below. absurd (never ticket below) }
  where
    never : (ticket : ℕ) → ticket < 0 → ⊥
    never ticket x = omega (arith, x)

module _ (sectors count : ℕ) (h m : List Entry) (o : InOrder sectors count h) where
  order-keeps : (ms : ℕ) → Keeps ms h m → InOrder sectors count m
  order-keeps ms k =
      let P : List Submission → Type 0 = λ l. AreAsked sectors count l in
      let n : length (submissions m) ≡ length (submissions h) = ap length k.same in
      record {
        asked = subst P (sym k.same) o.asked;
        few = omega (arith, n, o.few);
        each_done = λ ticket some below. ap (has_outcome ticket) k.tail ∙ has-more k.new h ticket (o.each_done ticket some (omega (arith, n, below)));
      }

  order-asks : count < 2 ^ 32 → ((tally_of h).ended == (tally_of h).begun) ≡ true → (tally_of h).begun ≤ count
      → Asks (command sectors count (tally_of h).begun) h m → InOrder sectors count m
  order-asks small over next a =
      let begun = begun-is h (omega (arith, o.few, small)) in
      let same : (tally_of h).ended ≡ (tally_of h).begun = grind (arith, nat_tests, over) in
      elim a.what [
        | inl subs ↦ order-keeps 0 (record { same = subs; new = a.new; tail = a.tail; time = let e = a.time in omega (arith, e) })
        | inr (x, is, subs) ↦
            let P : List Submission → Type 0 = λ l. AreAsked sectors count l in
            let n : length (submissions m) ≡ suc (length (submissions h)) = ap length subs in
            let this : submission_in (command sectors count (length (submissions h))) ≡ Some x =
            ap (λ i. submission_in (command sectors count i)) (sym begun) ∙ is in
            record {
              asked = subst P (sym subs) (this, o.asked);
              few = omega (arith, n, begun, next);
              each_done = λ ticket some below. ap (has_outcome ticket) a.tail
                  ∙ has-more a.new h ticket (earlier ticket some (omega (arith, n, below)) begun same);
            }
      ]
    where
      earlier : (ticket : ℕ) → 1 ≤ ticket → ticket ≤ length (submissions h) → (tally_of h).begun ≡ length (submissions h)
          → (tally_of h).ended ≡ (tally_of h).begun → has_outcome ticket h ≡ true
      earlier ticket some most begun same = elim (cases_lt ticket (length (submissions h))) [
        | inl below ↦ o.each_done ticket some below
        | inr over ↦ ended-has h ticket (omega (arith, most, over, begun, same)) some
      ]

-- of the last part of a turn
asking-order : (sectors count : ℕ) (h m : List Entry) → count < 2 ^ 32 → InOrder sectors count h → LinesCome sectors (asking sectors count (tally_of h)) h m
    → InOrder sectors count m × (clock m ≡ clock h)
asking-order sectors count h m small o = go (((tally_of h).ended == (tally_of h).begun) && not (nat_lt count (tally_of h).begun)) refl
  where
    go : (b : Bool) → (((tally_of h).ended == (tally_of h).begun) && not (nat_lt count (tally_of h).begun)) ≡ b
        → LinesCome sectors (if b then command sectors count (tally_of h).begun ∷ [] else []) h m → InOrder sectors count m × (clock m ≡ clock h)
    go false held x =
        let P : List Entry → Type 0 = λ l. InOrder sectors count l in
        (subst P (sym x.1) o, ap clock x.1)
    go true may x =
        let both = and_parts ((tally_of h).ended == (tally_of h).begun) (not (nat_lt count (tally_of h).begun)) may in
        let next : (tally_of h).begun ≤ count = grind (arith, nat_tests, both.1) in
        let a = command-asks (setup_of (stations sectors)) (stations sectors) sectors count (tally_of h).begun 1 x.0 h x.1 x.2 in
        let P : List Entry → Type 0 = λ l. InOrder sectors count l in
        (subst P (sym x.3.1) (order-asks sectors count h x.1 o small both.0 next a), ap clock x.3.1 ∙ a.time)

-- a turn keeps the order, and takes its time
pub turn-keeps : (sectors count ms : ℕ) (one two : Turn) (h m : List Entry) (lines : List Event) → count < 2 ^ 32 → IsTurn sectors count ms one two h m lines
    → InOrder sectors count h
    → InOrder sectors count m × (clock m ≡ clock h + ms)
turn-keeps sectors count ms one two h m lines small t o =
    let s = setup_of (stations sectors) in
    let first = plays-keep s (stations sectors) (ticks ms) 1 1 h t.passed (passive-ticks ms) t.time in
    let to_shelf = handing-keeps sender.Host one t.passed in
    let second = plays-keep s (stations sectors) (handing sender.Host one t.passed) 1 1 t.passed t.asked to_shelf.0 t.to_shelf in
    let to_host = handing-keeps sender.Shelf two t.asked in
    let third = plays-keep s (stations sectors) (handing sender.Shelf two t.asked) 1 1 t.asked t.answered to_host.0 t.to_host in
    let all = keeps-then _ _ h t.asked t.answered (keeps-then _ _ h t.passed t.asked first second) third in
    let last = asking-order sectors count t.answered m small (order-keeps sectors count h t.answered o _ all) t.asks in
    (last.0, omega (arith, last.1, all.time, times-ticks ms, to_shelf.1, to_host.1))

over-parts : (count : ℕ) (t : Tally) → is_over count t ≡ true → ((t.ended == t.begun) ≡ true) × (nat_lt count t.begun ≡ true)
over-parts count t over =
    let all = and_parts (not t.gave_up && (t.ended == t.begun)) (nat_lt count t.begun) over in
    ((and_parts (not t.gave_up) (t.ended == t.begun) all.0).1, all.1)

-- at the end each was submitted, and has its outcome
pub all-submitted : (sectors count : ℕ) (h : List Entry) → count < 2 ^ 32 → InOrder sectors count h → is_over count (tally_of h) ≡ true
    → length (submissions h) ≡ count + 1
all-submitted sectors count h small o over =
    let both = over-parts count (tally_of h) over in
    let begun = begun-is h (omega (arith, o.few, small)) in
    let more : count < (tally_of h).begun = grind (arith, nat_tests, both.1) in
    omega (arith, begun, more, o.few)

pub all-done : (sectors count : ℕ) (h : List Entry) → count < 2 ^ 32 → InOrder sectors count h → is_over count (tally_of h) ≡ true → (ticket : ℕ) → 1 ≤ ticket
    → ticket ≤ count + 1 → has_outcome ticket h ≡ true
all-done sectors count h small o over ticket some most =
    let both = over-parts count (tally_of h) over in
    let begun = begun-is h (omega (arith, o.few, small)) in
    let all = all-submitted sectors count h small o over in
    let same : (tally_of h).ended ≡ (tally_of h).begun = grind (arith, nat_tests, both.0) in
    elim (cases_lt ticket (length (submissions h))) [
      | inl below ↦ o.each_done ticket some below
      | inr past ↦ ended-has h ticket (omega (arith, past, most, all, begun, same)) some
    ]
