-- The turns of a run, one after another, and how many there can be.
use Rattle.std.proofs.Common.{ℕ, ◌≡◌, ◌+◌, ◌-◌, ◌*◌, ◌^◌, ◌≤◌, ◌<◌, not, Bool, true, false, List, [], ◌∷◌, ◌++◌, length, length-append, map, Option, Some, None, refl, sym, ap, subst, ◌∙◌, arith, inl, inr, rules}
use Rattle.std.specs.Prelude.{◌==◌, nat_lt, Err, IfSome}
use Rattle.std.proofs.Math.Nat.{mul-le-mul_left}
use Rattle.std.proofs.lemmas.Bool.{le-ltb}
use Rattle.aoe_history.specs.declared.entry.Entry.{Entry}
use Rattle.aoe_history.specs.Frames.{clock}
use Rattle.aoe_io.proofs.LinkLemmas.{Added-then, turned-nothing, turned-then}
use Rattle.aoe_io.specs.Link.{Added, Turn}
use Rattle.aoe_script.specs.declared.event.Event.{Event}
use Rattle.aoe_sim_setup.specs.Layout.{setup_of}
use Rattle.aoe_world.specs.Replay.{IsSound}
use Rattle.aoe_live.specs.declared.frames.Sender.{Sender}
use Rattle.aoe_live.specs.declared.frames.Sender.TheVariants as sender
use Rattle.aoe_live.specs.declared.refusal.LiveRefusal.{LiveRefusal}
use Rattle.aoe_live.specs.declared.refusal.LiveRefusal.TheVariants as live
use Rattle.aoe_live.specs.declared.tally.Tally.{Tally}
use Rattle.aoe_live.specs.Frames.{frames_by}
use Rattle.aoe_live.specs.Lines.{asking, handing, ticks, LinesCome}
use Rattle.aoe_live.specs.Order.{InOrder}
use Rattle.aoe_live.specs.Rounds.{last_now, or_now, quiet_by, quiet_turns, IsTurn, Round, Taken, TurnEnds, Wire}
use Rattle.aoe_live.specs.Stations.{stations}
use Rattle.aoe_live.specs.Tally.{is_over, tally_of}
use Rattle.aoe_live.specs.Whole.{Came, Finished, Lives, Outside, Unfinished}
use Rattle.aoe_live.proofs.LineLemmas.{come-then}
use Rattle.aoe_live.proofs.OrderLemmas.{all-done, all-submitted, order-none, turn-keeps}

abbrev Told : Type 0
Told = Option (List (List ℕ))

told-nothing : (a : Option (List ℕ)) → IfSome a (λ all. Added a a [])
told-nothing None = tt
told-nothing (Some l) = refl

told-then : (a b c : Option (List ℕ)) (xs : List ℕ) (n : ℕ) → IfSome b (λ all. Added a b xs) → IfSome c (λ all. Added b c (n ∷ []))
    → IfSome c (λ all. Added a c (n ∷ xs))
told-then a b None xs n first second = tt
told-then a None (Some l) xs n first second = absurd cc
told-then a (Some k) (Some l) xs n first second = Added-then a (Some k) (Some l) xs (n ∷ []) first second

took-nothing : (s : Sender) (a : Told) → Added a a (frames_by s [])
took-nothing s None = refl
took-nothing s (Some l) = refl

-- whole turns came, the latest consecutive ones of which finished no command
pub record Going (sectors count turns quiet : ℕ) (last : Option ℕ) (h : List Entry) (events : List Event) (old now : Outside) : Type 0 where
  pub rounds : List Round
  pub came : Came sectors count turns rounds h events old now
  pub quiet_is : quiet ≡ quiet_turns rounds
  pub last_is : (n : ℕ) → or_now last n ≡ last_now rounds n
  pub goes_on : is_over count (tally_of h) ≡ false

pub begun : {sectors count turns : ℕ} {h : List Entry} {events : List Event} {old : Outside} → h ≡ [] → events ≡ [] → IsSound (setup_of (stations sectors)) h
    → Going sectors count turns 0 None h events old old
begun {sectors} {count} {turns} {h} {events} {old} no_entries no_lines sound =
    let P : List Entry → Type 0 = λ l. Added old.one.taken old.one.taken (frames_by sender.Shelf l) in
    let Q : List Entry → Type 0 = λ l. Added old.two.taken old.two.taken (frames_by sender.Host l) in
    let R : List Entry → Type 0 = λ l. InOrder sectors count l in
    let none_asked : nat_lt count 0 ≡ false = le-ltb count 0 (omega arith) in
    record {
      rounds = [];
      came = record {
        are = (no_entries, no_lines);
        sound = sound;
        turned_one = turned-nothing old.one.turns old.one.given;
        turned_two = turned-nothing old.two.turns old.two.given;
        took_one = subst P (sym no_entries) (took-nothing sender.Shelf old.one.taken);
        took_two = subst Q (sym no_entries) (took-nothing sender.Host old.two.taken);
        told = told-nothing old.answers;
        time = λ n. let none : clock h ≡ 0 = ap clock no_entries in omega (arith, none);
        order = subst R (sym no_entries) (order-none sectors count);
      };
      quiet_is = refl;
      last_is = λ n. refl;
      goes_on = ap (λ l. is_over count (tally_of l)) no_entries ∙ none_asked;
    }

-- of the same stations and commands
pub ends-as : (s s' c c' turns ms : ℕ) (r : LiveRefusal) (before : List Event) (h k : List Entry) (one one' two two' : Wire) → s ≡ s' → c ≡ c'
    → TurnEnds s c turns ms r before h k one one' two two' → TurnEnds s' c' turns ms r before h k one one' two two'
ends-as s s' c c' turns ms r before h k one one' two two' same same_count x =
    let P : ℕ → Type 0 = λ n. TurnEnds n c turns ms r before h k one one' two two' in
    let Q : ℕ → Type 0 = λ n. TurnEnds s' n turns ms r before h k one one' two two' in
    subst Q same_count (subst P same x)

pub taken-as : {sectors sectors' count count' ms : ℕ} {finishes : Bool} {h m : List Entry} {before events : List Event} {one one' two two' : Wire}
    → sectors ≡ sectors' → count ≡ count'
    → Taken sectors count ms finishes h m before events one one' two two' → Taken sectors' count' ms finishes h m before events one one' two two'
taken-as {sectors} {sectors'} {count} {count'} {ms} {finishes} {h} {m} {before} {events} {one} {one'} {two} {two'} same same_count t =
    let P : ℕ → Type 0 = λ n. Taken n count ms finishes h m before events one one' two two' in
    let Q : ℕ → Type 0 = λ n. Taken sectors' n ms finishes h m before events one one' two two' in
    subst Q same_count (subst P same t)

pub sound-as : {sectors sectors' : ℕ} {h : List Entry} → sectors ≡ sectors' → IsSound (setup_of (stations sectors)) h → IsSound (setup_of (stations sectors')) h
sound-as {h = h} same x = let P : ℕ → Type 0 = λ n. IsSound (setup_of (stations n)) h in subst P same x

pub over-as : (count count' : ℕ) (t t' : Tally) (result : Bool) → result ≡ is_over count t → count ≡ count' → t ≡ t' → is_over count' t' ≡ result
over-as count count' t t' result is same same_tally = sym (is ∙ ap (λ n. is_over n t) same ∙ ap (is_over count') same_tally)

pub not-before : (last : Option ℕ) (least now : ℕ) → IfSome last (λ l. l ≤ least) → least ≤ now → or_now last now ≤ now
not-before None least now before later = omega arith
not-before (Some l) least now before later = omega (arith, before, later)

pub quiet-within : (quiet turns quiet' : ℕ) (finishes : Bool) → quiet < turns → quiet' ≡ quiet_by finishes quiet → quiet' ≤ turns
quiet-within quiet turns quiet' true below is = omega (arith, is)
quiet-within quiet turns quiet' false below is = omega (arith, is, below)

module _ {sectors count turns quiet : ℕ} {last : Option ℕ} {h : List Entry} {events : List Event} {old mid : Outside} (new : Outside)
    (g : Going sectors count turns quiet last h events old mid) (below : quiet < turns)
    (now : ℕ) (asked : IfSome new.answers (λ all. Added mid.answers new.answers (now ∷ []))) where
  module _ (ms : ℕ) (ms_is : ms ≡ now - or_now last now) (finishes : Bool) (m : List Entry) (later : List Event)
      (t : Taken sectors count ms finishes h m events later mid.one new.one mid.two new.two)
      (sound : IsSound (setup_of (stations sectors)) m) (small : count < 2 ^ 32) (not_before : or_now last now ≤ now) where
    abbrev round : Round
    round = record { now = now; one = t.first; two = t.second; finishes = finishes }

    came-on : Came sectors count turns (round ∷ g.rounds) m later old new
    came-on =
        let P : ℕ → Type 0 = λ k. IsTurn sectors count k t.first t.second h m t.lines in
        let Q : ℕ → Type 0 = λ q. q < turns in
        let R : ℕ → Type 0 = λ k. k ≤ now in
        let kept = turn-keeps sectors count ms t.first t.second h m t.lines small t.turn g.came.order in
        record {
          are = (
            h,
            events,
            g.came.are,
            subst Q g.quiet_is below,
            subst R (g.last_is now) not_before,
            g.goes_on,
            record { lines = t.lines; turn = subst P (ms_is ∙ ap (λ k. now - k) (g.last_is now)) t.turn; events_are = t.lines_are; finishes = t.finishes_is },
          );
          sound = sound;
          turned_one = turned-then old.one.turns mid.one.turns new.one.turns old.one.given mid.one.given new.one.given (map (λ (r : Round). r.one) g.rounds)
              (t.first ∷ []) g.came.turned_one t.over.turned_one;
          turned_two = turned-then old.two.turns mid.two.turns new.two.turns old.two.given mid.two.given new.two.given (map (λ (r : Round). r.two) g.rounds)
              (t.second ∷ []) g.came.turned_two t.over.turned_two;
          took_one = t.over.carries_one old.one.taken g.came.took_one;
          took_two = t.over.carries_two old.two.taken g.came.took_two;
          told = told-then old.answers mid.answers new.answers (map (λ (r : Round). r.now) g.rounds) now g.came.told asked;
          time = λ n. omega (arith, kept.1, ms_is, g.came.time now, g.last_is now, not_before);
          order = kept.0;
        }

    pub goes-on : (quiet' : ℕ) → quiet' ≡ quiet_by finishes quiet → is_over count (tally_of m) ≡ false
        → Going sectors count turns quiet' (Some now) m later old new
    goes-on quiet' is more = record {
      rounds = round ∷ g.rounds;
      came = came-on;
      quiet_is = is ∙ ap (quiet_by finishes) g.quiet_is;
      last_is = λ n. refl;
      goes_on = more;
    }

    -- each command has its outcome
    pub is-finished : is_over count (tally_of m) ≡ true → Finished sectors count turns later old new
    is-finished over = record {
      rounds = round ∷ g.rounds;
      entries = m;
      came = came-on;
      over = over;
      all_asked = all-submitted sectors count m small came-on.order over;
      all_done = all-done sectors count m small came-on.order over;
    }

  -- or it broke off in the next turn
  pub is-refused : (ms : ℕ) → ms ≡ now - or_now last now → or_now last now ≤ now → (r : LiveRefusal) (k : List Entry)
      → TurnEnds sectors count turns ms r events h k mid.one new.one mid.two new.two
      → Lives sectors count turns (Err r) old new
  is-refused ms ms_is not_before r k ends =
      let P : ℕ → Type 0 = λ n. TurnEnds sectors count turns n r events h k mid.one new.one mid.two new.two in
      at r (subst P (ms_is ∙ ap (λ l. now - l) (g.last_is now)) ends)
    where
      unfinished : {Breaks : List Round → ℕ → List Event → List Entry → List Entry → Outside → Type 0} → Breaks g.rounds now events h k mid
          → Unfinished sectors count turns Breaks old new
      unfinished x = record {
        rounds = g.rounds;
        entries = h;
        events = events;
        mid = mid;
        came = g.came;
        goes_on = g.goes_on;
        few_quiet = let P : ℕ → Type 0 = λ q. q < turns in subst P g.quiet_is below;
        now = now;
        later = let P : ℕ → Type 0 = λ n. n ≤ now in subst P (g.last_is now) not_before;
        told = asked;
        last = k;
        breaks = x;
      }

      at : (r : LiveRefusal) → TurnEnds sectors count turns (now - last_now g.rounds now) r events h k mid.one new.one mid.two new.two
          → Lives sectors count turns (Err r) old new
      at (live.Unanswered t) x = (x.0, inr (unfinished x.1))
      at (live.LinkFault link) x = x
      at live.NoMemory x = inr (inl (unfinished x))
      at _ x = unfinished x

-- HOW MANY TURNS THERE CAN BE

turn-comes : (sectors count ms : ℕ) (one two : Turn) (h m : List Entry) (lines : List Event) → IsTurn sectors count ms one two h m lines
    → LinesCome sectors lines h m
turn-comes sectors count ms one two h m lines t =
    let xs = ticks ms in
    let ys = handing sender.Host one t.passed in
    let zs = handing sender.Shelf two t.asked in
    let ws = asking sectors count (tally_of t.answered) in
    let P : List Event → Type 0 = λ es. LinesCome sectors es h m in
    subst P (sym t.lines_are) (come-then sectors xs ((ys ++ zs) ++ ws) h t.passed m t.time
    (come-then sectors (ys ++ zs) ws t.passed t.answered m (come-then sectors ys zs t.passed t.asked t.answered t.to_shelf t.to_host) t.asks))

-- a turn that finished a command has a line
some-line : (sectors : ℕ) (lines : List Event) (h m : List Entry) → LinesCome sectors lines h m → true ≡ not ((tally_of m).ended == (tally_of h).ended)
    → 1 ≤ length lines
some-line sectors [] h m come finishes =
    let same : ((tally_of m).ended == (tally_of h).ended) ≡ true = ap (λ l. (tally_of l).ended == (tally_of h).ended) come.1 ∙ equal (tally_of h).ended in
    absurd (no_more (finishes ∙ ap not same))
  where
    equal : (n : ℕ) → (n == n) ≡ true
    equal n = search rules

    no_more : true ≡ false → ⊥
    no_more e = absurd cc
some-line sectors (e ∷ lines) h m come finishes = omega arith

answered-smaller : (turns before after quiet : ℕ) → after + 1 ≤ before → after * (turns + 1) + (turns - 0) < before * (turns + 1) + (turns - quiet)
answered-smaller turns before after quiet less =
    let more : (turns + 1) * (after + 1) ≤ (turns + 1) * before = mul-le-mul_left (turns + 1) less in
    grind (arith, more)

quiet-smaller : (turns before after quiet : ℕ) → after ≤ before → quiet < turns
    → after * (turns + 1) + (turns - (quiet + 1)) < before * (turns + 1) + (turns - quiet)
quiet-smaller turns before after quiet less below =
    let more : (turns + 1) * after ≤ (turns + 1) * before = mul-le-mul_left (turns + 1) less in
    grind (arith, more)

-- so there are fewer lines to come, or fewer turns that may finish none
pub turn-smaller : {sectors count turns quiet ms : ℕ} {finishes : Bool} {h m : List Entry} {events later : List Event} {one one' two two' : Wire}
    → Taken sectors count ms finishes h m events later one one' two two'
    → length later ≤ 50000 → quiet < turns → (quiet' : ℕ) → quiet' ≡ quiet_by finishes quiet
    → (50000 - length later) * (turns + 1) + (turns - quiet') < (50000 - length events) * (turns + 1) + (turns - quiet)
turn-smaller {sectors} {count} {turns} {quiet} {ms} {finishes} {h} {m} {events} {later} {one} {one'} {two} {two'} t few below quiet' is =
    let P : ℕ → Type 0 = λ q. (50000 - length later) * (turns + 1) + (turns - q) < (50000 - length events) * (turns + 1) + (turns - quiet) in
    subst P (sym is) (go finishes t.finishes_is)
  where
    count_is : length later ≡ length events + length t.lines
    count_is = ap length t.lines_are ∙ length-append events t.lines

    go : (b : Bool) → b ≡ not ((tally_of m).ended == (tally_of h).ended) → (50000 - length later) * (turns + 1) + (turns - quiet_by b quiet) <
        (50000 - length events) * (turns + 1) + (turns - quiet)
    go true finishes_is =
        let some = some-line sectors t.lines h m (turn-comes sectors count ms t.first t.second h m t.lines t.turn) finishes_is in
        answered-smaller turns (50000 - length events) (50000 - length later) quiet (omega (arith, count_is, few, some))
    go false finishes_is = quiet-smaller turns (50000 - length events) (50000 - length later) quiet (omega (arith, count_is)) below
