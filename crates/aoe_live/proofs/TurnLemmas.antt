-- A turn from its four parts.
use Rattle.std.proofs.Common.{ℕ, ◌≡◌, ◌≤◌, not, Bool, true, false, List, [], ◌∷◌, ◌++◌, Option, None, Some, length, append_assoc, append-nil, refl, sym, ap, subst, ◌∙◌, arith, inl, inr, if◌then◌else◌}
use Rattle.std.specs.Prelude.{◌==◌, ◌&&◌, nat_lt, Result, Err}
use Rattle.aoe_history.specs.declared.entry.Entry.{Entry}
use Rattle.aoe_io.proofs.LinkLemmas.{turned-by, turned-nothing}
use Rattle.aoe_io.specs.Link.{came, turn_of, GaveTurns, Turn}
use Rattle.aoe_io.specs.Memory.{counted}
use Rattle.aoe_io.specs.declared.links.Got.{Got}
use Rattle.aoe_io.specs.declared.links.Got.TheVariants as got
use Rattle.aoe_script.specs.declared.event.Event.{Event}
use Rattle.aoe_live.specs.declared.frames.Sender.{Sender}
use Rattle.aoe_live.specs.declared.frames.Sender.TheVariants as sender
use Rattle.aoe_live.specs.declared.recorder.Recorder.{Recorder}
use Rattle.aoe_live.specs.declared.refusal.LiveRefusal.{LiveRefusal}
use Rattle.aoe_live.specs.declared.refusal.LiveRefusal.TheVariants as live
use Rattle.aoe_live.specs.declared.tally.Tally.{Tally}
use Rattle.aoe_live.specs.Frames.{newest}
use Rattle.aoe_live.specs.Lines.{asking, delivery, handing, ticks, Carries, LinesCome}
use Rattle.aoe_live.specs.Recorder.{is_unrecorded}
use Rattle.aoe_live.specs.Rounds.{InTurn, IsExchange, OverLinks, Stopped, Taken, TurnEnds, Wire}
use Rattle.aoe_live.specs.Stations.{command}
use Rattle.aoe_live.specs.Steps.{is_of_line, Among, Does, Exchanged, Exchanges, InExchange, Links, Recorded, Steps}
use Rattle.aoe_live.specs.Tally.{tally_of}
use Rattle.aoe_live.proofs.PassLemmas.{carries-none}
use Rattle.aoe_live.proofs.StepLemmas.{alone, does-behind, fails-behind, recorded-asked, recorded-asks, recorded-then, Moves}

-- THE LINES OF A PART

-- what comes of a frame that a link brought
pub handing-frame : (s : Sender) (g : Got) (bytes : List ℕ) (h : List Entry) (number : Option ℕ) → g ≡ got.Frame → number ≡ newest s 2000 h bytes
    → handing s (turn_of g bytes) h ≡ delivery s number
handing-frame s g bytes h number is found = ap (λ x. handing s (turn_of x bytes) h) is ∙ ap (delivery s) (sym found)

delivery-short : (s : Sender) (number : Option ℕ) → length (delivery s number) ≤ 1
delivery-short s None = omega arith
delivery-short s (Some number) = omega arith

handing-short : (s : Sender) (turn : Turn) (h : List Entry) → length (handing s turn h) ≤ 1
handing-short s (came bytes) h = delivery-short s (newest s 2000 h bytes)
handing-short s _ h = omega arith

one-short : (b : Bool) (e : Event) → length (if b then e ∷ [] else []) ≤ 1
one-short true e = omega arith
one-short false e = omega arith

asking-short : (sectors count : ℕ) (t : Tally) → length (asking sectors count t) ≤ 1
asking-short sectors count t = one-short ((t.ended == t.begun) && not (nat_lt count t.begun)) (command sectors count t.begun)

-- THE TWO PARTS IN THE MIDDLE

abbrev Told : Type 0
Told = Option (List (List ℕ))

-- a link that is asked, which takes nothing by it
module _ (h : List Entry) (a b w : Wire) (t : Turn) (gave : GaveTurns b.turns a.given b.given (t ∷ [])) (later : a.turns ≤ b.turns)
    (turns : b.turns ≡ counted a.turns) (taken : b.taken ≡ a.taken) where
  pub asked-one : OverLinks (t ∷ []) [] h h a b w w
  asked-one =
      let P : Told → Type 0 = λ x. Carries sender.Shelf h h a.taken x in
      record {
        turned_one = turned-by a.turns b.turns a.given b.given t gave later turns;
        turned_two = turned-nothing w.turns w.given;
        carries_one = subst P (sym taken) (carries-none sender.Shelf h a.taken);
        carries_two = carries-none sender.Host h w.taken;
      }

  pub asked-two : OverLinks [] (t ∷ []) h h w w a b
  asked-two =
      let P : Told → Type 0 = λ x. Carries sender.Host h h a.taken x in
      record {
        turned_one = turned-nothing w.turns w.given;
        turned_two = turned-by a.turns b.turns a.given b.given t gave later turns;
        carries_one = carries-none sender.Shelf h w.taken;
        carries_two = subst P (sym taken) (carries-none sender.Host h a.taken);
      }

-- the frame of the shelf's link found no room
first-moves : (sectors : ℕ) (one : Turn) (h : List Entry) → Moves sectors (Among (handing sender.Host one h)) (InExchange sectors h) (one ∷ []) [] [] h
first-moves sectors one h [] [] n lines next come s =
    let x = alone sectors (handing sender.Host one h) (handing-short sender.Host one h) lines next h n come s in
    (x.here, x.no_lines, ap (handing sender.Host one) x.here ∙ x.part_is)
first-moves sectors one h _ _ n lines next come s = absurd s

-- or that of the host's link
second-moves : (sectors : ℕ) (one two : Turn) (h m : List Entry) → LinesCome sectors (handing sender.Host one h) h m
    → Moves sectors (Among (handing sender.Shelf two m)) (InExchange sectors h) (one ∷ []) (two ∷ []) (handing sender.Host one h) m
second-moves sectors one two h m before [] [] n lines next come s =
    let x = alone sectors (handing sender.Shelf two m) (handing-short sender.Shelf two m) lines next m n come s in
    let P : List Entry → Type 0 = λ l. LinesCome sectors (handing sender.Host one h) h l in (
      subst P (sym x.here) before,
      ap (λ l. handing sender.Host one h ++ l) x.no_lines ∙ append-nil (handing sender.Host one h),
      ap (handing sender.Shelf two) x.here ∙ x.part_is,
    )
second-moves sectors one two h m before _ _ n lines next come s = absurd s

module _ (p q : Recorder) (k k' l : Links) (first : Turn) (asked : OverLinks (first ∷ []) [] p.world.entries p.world.entries k.one k'.one k.two k'.two) where
  pub exchange-fails-first : {T U : Type 0} (x : LiveRefusal) → Steps {T = T} (handing sender.Host first p.world.entries) (Err x) p q k' l
      → Exchanges {T = U} (Err x) p q k l
  exchange-fails-first x d =
      fails-behind (Among (handing sender.Host first p.world.entries)) (InExchange p.sectors p.world.entries) (first ∷ []) [] [] p p q k k' l refl refl
      (recorded-asked p k k' (first ∷ []) [] asked)
      (first-moves p.sectors first p.world.entries) _ _ x d

  module _ (one : Recorded [] [] (handing sender.Host first p.world.entries) p q k' l) (same : q.sectors ≡ p.sectors) (same_count : q.commands ≡ p.commands)
      (r : Recorder) (l' m : Links) (second : Turn)
      (asked' : OverLinks [] (second ∷ []) q.world.entries q.world.entries l.one l'.one l.two l'.two) where
    abbrev to_shelf : List Event
    to_shelf = handing sender.Host first p.world.entries

    abbrev to_host : List Event
    to_host = handing sender.Shelf second q.world.entries

    so-far : Recorded (first ∷ []) (second ∷ []) to_shelf p q k l'
    so-far =
        recorded-asks (first ∷ []) [] [] (second ∷ []) to_shelf p q k l l'
        (recorded-then (first ∷ []) [] [] [] [] to_shelf p p q k k' l refl (recorded-asked p k k' (first ∷ []) [] asked) one) asked'

    whole : Recorded [] [] to_host q r l' m → Exchanged p r k m
    whole two =
        let P : ℕ → Type 0 = λ n. LinesCome n to_host q.world.entries r.world.entries in
        record {
          first = first;
          second = second;
          lines = to_shelf ++ to_host;
          exchange = record { asked = q.world.entries; to_shelf = one.come; to_host = subst P same two.come; lines_are = refl };
          recorded = recorded-then (first ∷ []) (second ∷ []) [] [] to_shelf to_host p q r k l' m same so-far two;
        }

    pub exchange-does : {T : Type 0} (result : Result T LiveRefusal) → Steps to_host result q r l' m → Exchanges result p r k m
    exchange-does result d =
        does-behind (Among to_host) (InExchange p.sectors p.world.entries) (first ∷ []) (second ∷ []) to_shelf p q r k l' m same same_count so-far
        (second-moves p.sectors first second p.world.entries q.world.entries one.come) _ _ result whole d

-- A WHOLE TURN, OR A PART OF ONE

-- how a turn ends by such a refusal
ends-by : (sectors count turns ms : ℕ) (r : LiveRefusal) (before : List Event) (h k : List Entry) (a b a2 b2 : Wire) → is_of_line r ≡ true
    → (is_unrecorded r ≡ true → Stopped sectors (InTurn sectors count ms h) r before h k a b a2 b2) → TurnEnds sectors count turns ms r before h k a b a2 b2
ends-by sectors count turns ms (live.Unanswered t) before h k a b a2 b2 why stops = absurd cc
ends-by sectors count turns ms (live.LinkFault link) before h k a b a2 b2 why stops = why
ends-by sectors count turns ms _ before h k a b a2 b2 why stops = stops refl

module _ (sectors sectors' count ms : ℕ) (same : sectors' ≡ sectors) (h m : List Entry) (time : LinesCome sectors (ticks ms) h m)
    (goes_on : (tally_of m).gave_up ≡ false) where
  exchange-moves : Moves sectors (InExchange sectors' m) (InTurn sectors count ms h) [] [] (ticks ms) m
  exchange-moves (one ∷ []) [] n lines next come (here, none, hands) =
      let P : List Entry → Type 0 = λ l. LinesCome sectors (ticks ms) h l in
      record {
        time = subst P (sym here) time;
        goes_on = ap (λ l. (tally_of l).gave_up) here ∙ goes_on;
        lines_are = ap (λ l. ticks ms ++ l) none ∙ append-nil (ticks ms);
        hands = hands;
      }
  exchange-moves (one ∷ []) (two ∷ []) n lines next come (to_shelf, is, hands) =
      let P : ℕ → Type 0 = λ s. LinesCome s (handing sender.Host one m) m n in
      inl (record { passed = m; time = time; goes_on = goes_on; to_shelf = subst P same to_shelf; lines_are = ap (λ l. ticks ms ++ l) is; hands = hands })
  exchange-moves _ _ n lines next come s = absurd s

  module _ (one two : Turn) (handed : List Event) (a : List Entry) (exchange : IsExchange sectors one two m a handed) (part : List Event)
      (part_is : part ≡ asking sectors count (tally_of a)) where
    asking-moves : Moves sectors (Among part) (InTurn sectors count ms h) (one ∷ []) (two ∷ []) (ticks ms ++ handed) a
    asking-moves [] [] n lines next come s =
        let few : length part ≤ 1 = ask-few in
        let x = alone sectors part few lines next a n come s in
        let P : List Entry → Type 0 = λ l. IsExchange sectors one two m l handed in
        inr (record {
          passed = m;
          handed = handed;
          time = time;
          goes_on = goes_on;
          exchange = subst P (sym x.here) exchange;
          lines_are = ap (λ l. (ticks ms ++ handed) ++ l) x.no_lines ∙ append-nil (ticks ms ++ handed);
          asks = ap (λ l. asking sectors count (tally_of l)) x.here ∙ sym part_is ∙ x.part_is;
        })
      where
        ask-few : length part ≤ 1
        ask-few = let P : List Event → Type 0 = λ l. length l ≤ 1 in subst P (sym part_is) (asking-short sectors count (tally_of a))
    asking-moves _ _ n lines next come s = absurd s

-- of the same stations, commands and outcomes
asking-as : (s s' count count' : ℕ) (t t' : Tally) → s ≡ s' → count ≡ count' → t ≡ t' → asking s count t ≡ asking s' count' t'
asking-as s s' count count' t t' same same_count same_tally = ap (λ n. asking n count t) same ∙ ap (λ n. asking s' n t) same_count
    ∙ ap (asking s' count') same_tally

module _ (turns ms : ℕ) (a b : Recorder) (k l : Links) where
  abbrev Ends : LiveRefusal → Recorder → Links → Type 0
  Ends x r m = TurnEnds a.sectors a.commands turns ms x a.script.events a.world.entries r.world.entries k.one m.one k.two m.two

  module _ (time : Recorded [] [] (ticks ms) a b k l) (same : b.sectors ≡ a.sectors) (same_count : b.commands ≡ a.commands)
      (tally_is : b.tally ≡ tally_of b.world.entries) where
    module _ (goes_on' : b.tally.gave_up ≡ false) (c : Recorder) (m : Links) where
      goes_on : (tally_of b.world.entries).gave_up ≡ false
      goes_on = ap (λ (t : Tally). t.gave_up) (sym tally_is) ∙ goes_on'

      -- in the two in the middle
      pub exchange-fails : {T : Type 0} (x : LiveRefusal) → Exchanges {T = T} (Err x) b c l m → Ends x c m
      exchange-fails {T} x d =
          let e : Does {T = T} (Unit {0}) (InTurn a.sectors a.commands ms a.world.entries) (Err x) a c k m =
          fails-behind (InExchange b.sectors b.world.entries) (InTurn a.sectors a.commands ms a.world.entries) [] [] (ticks ms) a b c k l m same same_count time
          (exchange-moves a.sectors b.sectors a.commands ms same a.world.entries b.world.entries time.come goes_on) _ _ x d in
          ends-by a.sectors a.commands turns ms x a.script.events a.world.entries c.world.entries k.one m.one k.two m.two e.why e.stops

      module _ (x : Exchanged b c l m) (same' : c.sectors ≡ b.sectors) (same_count' : c.commands ≡ b.commands) (tally_is' : c.tally ≡ tally_of c.world.entries)
          (d : Recorder) (n : Links) where
        exchange : IsExchange a.sectors x.first x.second b.world.entries c.world.entries x.lines
        exchange = let P : ℕ → Type 0 = λ s. IsExchange s x.first x.second b.world.entries c.world.entries x.lines in subst P same x.exchange

        abbrev part : List Event
        part = asking c.sectors c.commands c.tally

        part-is : part ≡ asking a.sectors a.commands (tally_of c.world.entries)
        part-is = asking-as c.sectors a.sectors c.commands a.commands c.tally (tally_of c.world.entries) (same' ∙ same) (same_count' ∙ same_count) tally_is'

        behind-exchange : Recorded (x.first ∷ []) (x.second ∷ []) (ticks ms ++ x.lines) a c k m
        behind-exchange = recorded-then [] [] (x.first ∷ []) (x.second ∷ []) (ticks ms) x.lines a b c k l m same time x.recorded

        -- in the last one
        pub ask-fails : {T : Type 0} (r : LiveRefusal) → Steps {T = T} part (Err r) c d m n → Ends r d n
        ask-fails {T} r s =
            let e : Does {T = T} (Unit {0}) (InTurn a.sectors a.commands ms a.world.entries) (Err r) a d k n =
            fails-behind (Among part) (InTurn a.sectors a.commands ms a.world.entries) (x.first ∷ []) (x.second ∷ []) (ticks ms ++ x.lines) a c d k m n
            (same' ∙ same) (same_count' ∙ same_count) behind-exchange
            (asking-moves a.sectors b.sectors a.commands ms same a.world.entries b.world.entries time.come goes_on x.first x.second x.lines c.world.entries
            exchange part part-is) _ _ r s in
            ends-by a.sectors a.commands turns ms r a.script.events a.world.entries d.world.entries k.one n.one k.two n.two e.why e.stops

        -- in none of them
        pub is-taken : Recorded [] [] part c d m n → (finishes : Bool) → finishes ≡ not ((tally_of d.world.entries).ended == (tally_of a.world.entries).ended)
            → Taken a.sectors a.commands ms finishes a.world.entries d.world.entries a.script.events d.script.events k.one n.one k.two n.two
        is-taken asks finishes finishes_is =
            let P : List Event → Type 0 = λ es. LinesCome a.sectors es c.world.entries d.world.entries in
            let Q : ℕ → Type 0 = λ s. LinesCome s part c.world.entries d.world.entries in
            let all = recorded-then (x.first ∷ []) (x.second ∷ []) [] [] (ticks ms ++ x.lines) part a c d k m n (same' ∙ same) behind-exchange asks in
            record {
              first = x.first;
              second = x.second;
              lines = (ticks ms ++ x.lines) ++ part;
              turn = record {
                passed = b.world.entries;
                asked = exchange.asked;
                answered = c.world.entries;
                time = time.come;
                goes_on = goes_on;
                to_shelf = exchange.to_shelf;
                to_host = exchange.to_host;
                asks = subst P part-is (subst Q (same' ∙ same) asks.come);
                lines_are = append_assoc (ticks ms) x.lines part ∙ ap (λ l. ticks ms ++ (l ++ part)) exchange.lines_are
                    ∙ ap (λ l. ticks ms ++ ((handing sender.Host x.first b.world.entries ++ handing sender.Shelf x.second exchange.asked) ++ l)) part-is;
              };
              lines_are = all.lines_are;
              finishes_is = finishes_is;
              over = all.over;
            }
