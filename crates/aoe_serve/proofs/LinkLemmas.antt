-- Rounds over a link make runs. What a link gave and took stands latest first.
use Rattle.std.proofs.Common.{◌≡◌, ◌≤◌, ◌<◌, ◌+◌, ℕ, zero, suc, List, [], ◌∷◌, ◌++◌, length, length-append, take, replicate, Option, Bool, true, false, ◌||◌, refl, sym, ap, subst, ◌∙◌, arith, inl, inr}
use Rattle.std.proofs.lemmas.Bool.{eq-eqb, eqb-true}
use Rattle.std.proofs.lemmas.List.{reverse-append}
use Rattle.std.specs.Prelude.{reverse, Result, Ok, Err, nat_eq}
use Rattle.aoe_base.specs.declared.failure.Failed.{Failed}
use Rattle.aoe_io.proofs.LinkLemmas.{Added-then, turned-nothing, turned-then}
use Rattle.aoe_io.specs.Link.{Added, Turn, Turned, came, quiet, ended}
use Rattle.aoe_target.specs.Law.{Fate}
use Rattle.aoe_serve.specs.Arrivals.{Arrived, AreServed, frames, replies, replies_of}
use Rattle.aoe_io.specs.declared.links.Got.{Got}
use Rattle.aoe_io.specs.declared.links.Got.TheVariants.{Frame, Quiet, Ended}
use Rattle.aoe_serve.specs.Rounds.{LinkTook, Outcome, Round}
use Rattle.aoe_serve.specs.Serving.{Waited, GoesOn, Sends, Served, came_in, has_ended, is_over, quiet_since}
use Rattle.aoe_serve.specs.Slots.{Slot}
use Rattle.aoe_serve.specs.declared.over_link.ServeEnd.TheVariants as end
use Rattle.aoe_serve.specs.OutletLaws.{Frames, added_nothing, sends_more}
use Rattle.aoe_serve.proofs.RunLemmas.{served_begun, served_then}

-- Turns.

came_quiet : (n : ℕ) (turns : List Turn) → came_in (replicate n quiet ++ turns) ≡ came_in turns
came_quiet zero turns = refl
came_quiet (suc n) turns = came_quiet n turns

quiet_count : (n : ℕ) (turns : List Turn) → quiet_since turns ≡ 0 → quiet_since (replicate n quiet ++ turns) ≡ n
quiet_count zero turns e = e
quiet_count (suc n) turns e = omega (arith, quiet_count n turns e)

not_ended : (n : ℕ) (turns : List Turn) → has_ended turns ≡ false → has_ended (replicate n quiet ++ turns) ≡ false
not_ended zero turns e = e
not_ended (suc n) turns e = refl

less_not_equal : (a b : ℕ) → a < b → nat_eq a b ≡ false
less_not_equal a b less = at (nat_eq a b) refl
  where
    at : (t : Bool) → nat_eq a b ≡ t → nat_eq a b ≡ false
    at true e = absurd (omega (arith, eqb-true a b e, less))
    at false e = e

none_of : (a b c : Bool) → a ≡ false → b ≡ false → c ≡ false → (a || b || c) ≡ false
none_of false false false x y z = refl
none_of true b c x y z = absurd (let no : true ≡ false → ⊥ = λ q. (cc) in no x)
none_of false true c x y z = absurd (let no : true ≡ false → ⊥ = λ q. (cc) in no y)
none_of false false true x y z = absurd (let no : true ≡ false → ⊥ = λ q. (cc) in no z)

second_of : (a b c : Bool) → b ≡ true → (a || b || c) ≡ true
second_of true b c e = refl
second_of false true c e = refl
second_of false false c e = absurd (let no : false ≡ true → ⊥ = λ q. (cc) in no e)

third_of : (a b c : Bool) → c ≡ true → (a || b || c) ≡ true
third_of true b c e = refl
third_of false true c e = refl
third_of false false c e = e

-- a run so far, of so many frames, whose last turn brought a frame
pub record SoFar (limit idle start now : ℕ) (given given' : Option (List Turn)) (taken taken' : Option Frames) (old new : List Slot) (count : ℕ) : Type 0 where
  pub turns : List Turn
  pub arrivals : List Arrived
  pub frames_are : frames arrivals ≡ came_in turns
  pub served : AreServed old new arrivals
  pub turned : Turned start now given given' turns
  pub sends : Added taken taken' (reverse (replies arrivals))
  pub goes_on : GoesOn limit idle turns
  pub counted : length (came_in turns) ≡ count
  pub loud : quiet_since turns ≡ 0
  pub going : has_ended turns ≡ false

pub begun : (limit idle start : ℕ) (given : Option (List Turn)) (taken : Option Frames) (old : List Slot)
    → SoFar limit idle start start given given taken taken old old 0
begun limit idle start given taken old = record {
  turns = [];
  arrivals = [];
  frames_are = refl;
  served = served_begun old;
  turned = turned-nothing start given;
  sends = added_nothing taken;
  goes_on = tt;
  counted = refl;
  loud = refl;
  going = refl;
}

module _ (limit idle : ℕ) (turns : List Turn) (count : ℕ) (counted : length (came_in turns) ≡ count) (few : count < limit) (loud : quiet_since turns ≡ 0)
    (going : has_ended turns ≡ false) where
  -- while it waits
  waits : (n : ℕ) → n < idle → is_over limit idle (replicate n quiet ++ turns) ≡ false
  waits n short =
      none_of (nat_eq (length (came_in (replicate n quiet ++ turns))) limit) (nat_eq (quiet_since (replicate n quiet ++ turns)) idle)
      (has_ended (replicate n quiet ++ turns))
      (less_not_equal (length (came_in (replicate n quiet ++ turns))) limit (omega (arith, ap length (came_quiet n turns), counted, few)))
      (less_not_equal (quiet_since (replicate n quiet ++ turns)) idle (omega (arith, quiet_count n turns loud, short)))
      (not_ended n turns going)

  waited : (n : ℕ) → n ≤ idle → GoesOn limit idle turns → GoesOn limit idle (replicate n quiet ++ turns)
  waited zero short on = on
  waited (suc n) short on = (waits n (omega (arith, short)), waited n (omega (arith, short)) on)

-- the link took nothing meanwhile
pub still : {limit idle start now : ℕ} {given0 given : Option (List Turn)} {taken0 taken waiting : Option Frames} {old mid : List Slot} {count : ℕ}
    → SoFar limit idle start now given0 given taken0 taken old mid count → waiting ≡ taken
    → SoFar limit idle start now given0 given taken0 waiting old mid count
still {limit} {idle} {start} {now} {given0} {given} {taken0} {old = old} {mid} {count} s same =
    subst (λ (o : Option Frames). SoFar limit idle start now given0 given taken0 o old mid count) (sym same) s

-- what was sent of a round
pub sent : {result o : Outcome} {waiting taken' : Option Frames} {given given' : Option (List Turn)} {later last m n : ℕ} {f : List ℕ} {mid new : List Slot}
    → Round (LinkTook result waiting taken' given given' later last m n) f mid new → result ≡ o → Round (Sends o waiting taken') f mid new
sent {waiting = waiting} {taken'} r is = record {
  fates = r.fates;
  meets = r.meets;
  took = subst (λ (o : Outcome). Sends o waiting taken' (replies_of r.fates)) is r.took.sends;
}

-- what a wait said
abbrev pub AfterWait : Result Got Failed → ℕ → List ℕ → ℕ → ℕ → Option (List Turn) → Option (List Turn) → Type 0
AfterWait r idle f now later given given' = (turns : List Turn) × Waited r idle f turns × Turned now later given given' turns

module _ {limit idle start now : ℕ} {given0 given : Option (List Turn)} {taken0 taken : Option Frames} {old mid : List Slot} {count : ℕ} (few : count < limit)
    (s : SoFar limit idle start now given0 given taken0 taken old mid count) where
  -- a frame came after so many quiet turns, and the link took all replies, or some
  module _ (later : ℕ) (given' : Option (List Turn)) (f : List ℕ) (w : AfterWait (Ok Frame) idle f now later given given') where
    abbrev n : ℕ
    n = w.1.0

    abbrev turns' : List Turn
    turns' = came f ∷ (replicate n quiet ++ s.turns)

    on' : GoesOn limit idle turns'
    on' = (
      waits limit idle s.turns count s.counted few s.loud s.going n w.1.1,
      waited limit idle s.turns count s.counted few s.loud s.going n
          (omega (arith, w.1.1)) s.goes_on,
    )

    came' : came_in turns' ≡ came_in s.turns ++ f ∷ []
    came' = ap (λ (l : Frames). l ++ f ∷ []) (came_quiet n s.turns)

    turned' : Turned start later given0 given' turns'
    turned' =
        let t : Turned now later given given' (came f ∷ replicate n quiet) = subst (λ (l : List Turn). Turned now later given given' l) w.1.2 w.2 in
        turned-then start now later given0 given given' s.turns (came f ∷ replicate n quiet) s.turned t

    frames' : (fates : List Fate) → frames (record { frame = f; fates = fates } ∷ s.arrivals) ≡ came_in turns'
    frames' fates = ap (λ (l : Frames). l ++ f ∷ []) s.frames_are ∙ sym came'

    pub goes_on : {taken' : Option Frames} {new : List Slot} → Round (Sends {T = Unit {0}} {E = Failed} (Ok tt) taken taken') f mid new
        → SoFar limit idle start later given0 given' taken0 taken' old new (count + 1)
    goes_on {taken'} {new} r = record {
      turns = turns';
      arrivals = record { frame = f; fates = r.fates } ∷ s.arrivals;
      frames_are = frames' r.fates;
      served = served_then old mid new f r.fates s.arrivals s.served r.meets;
      turned = turned';
      sends = sends_more (Ok tt) taken0 taken taken' (replies s.arrivals) (replies_of r.fates) s.sends r.took;
      goes_on = on';
      counted = omega (arith, ap length came', length-append (came_in s.turns) (f ∷ []), s.counted);
      loud = refl;
      going = refl;
    }

    -- the link failed to take a reply
    pub breaks : {taken' : Option Frames} {new : List Slot} (e : Failed) → Round (Sends {T = Unit {0}} (Err e) taken taken') f mid new
        → Served end.LinkFault limit idle start later given0 given' taken0 taken' old new
    breaks {taken'} {new} e r =
        let before : Frames = replies s.arrivals in
        let some = r.took.0 in
        let last : Frames = take some (replies_of r.fates) in
        record {
          turns = turns';
          arrivals = record { frame = f; fates = r.fates } ∷ s.arrivals;
          frames_are = frames' r.fates;
          served = served_then old mid new f r.fates s.arrivals s.served r.meets;
          turned = turned';
          goes_on = on';
          finishes = inr (
            some,
            r.took.1,
            subst (λ (l : Frames). Added taken0 taken' l) (sym (reverse-append before last))
                (Added-then taken0 taken taken' (reverse before) (reverse last) s.sends r.took.2),
          );
        }

  -- no frame came in so many turns
  pub falls_silent : {later : ℕ} {given' : Option (List Turn)} (f : List ℕ) → AfterWait (Ok Quiet) idle f now later given given'
      → Served end.Ended limit idle start later given0 given' taken0 taken old mid
  falls_silent {later} {given'} f w =
      let turns = replicate idle quiet ++ s.turns in
      let t : Turned now later given given' (replicate idle quiet) = subst (λ (l : List Turn). Turned now later given given' l) w.1 w.2 in
      record {
        turns = turns;
        arrivals = s.arrivals;
        frames_are = s.frames_are ∙ sym (came_quiet idle s.turns);
        served = s.served;
        turned = turned-then start now later given0 given given' s.turns (replicate idle quiet) s.turned t;
        goes_on = waited limit idle s.turns count s.counted few s.loud s.going idle (omega arith) s.goes_on;
        finishes = (
          second_of (nat_eq (length (came_in turns)) limit) (nat_eq (quiet_since turns) idle) (has_ended turns)
              (eq-eqb (quiet_since turns) idle (quiet_count idle s.turns s.loud)),
          s.sends,
        );
      }

  -- the link ended after so many quiet turns
  pub link_ends : {later : ℕ} {given' : Option (List Turn)} (f : List ℕ) → AfterWait (Ok Ended) idle f now later given given'
      → Served end.Ended limit idle start later given0 given' taken0 taken old mid
  link_ends {later} {given'} f w =
      let n = w.1.0 in
      let turns = ended ∷ (replicate n quiet ++ s.turns) in
      let t : Turned now later given given' (ended ∷ replicate n quiet) = subst (λ (l : List Turn). Turned now later given given' l) w.1.2 w.2 in
      record {
        turns = turns;
        arrivals = s.arrivals;
        frames_are = s.frames_are ∙ sym (came_quiet n s.turns);
        served = s.served;
        turned = turned-then start now later given0 given given' s.turns (ended ∷ replicate n quiet) s.turned t;
        goes_on = (
          waits limit idle s.turns count s.counted few s.loud s.going n w.1.1,
          waited limit idle s.turns count s.counted few s.loud s.going n
              (omega (arith, w.1.1)) s.goes_on,
        );
        finishes = (third_of (nat_eq (length (came_in turns)) limit) (nat_eq (quiet_since turns) idle) (has_ended turns) refl, s.sends);
      }

  -- the link failed after so many quiet turns
  pub link_fails : {later : ℕ} {given' : Option (List Turn)} (f : List ℕ) (e : Failed) → AfterWait (Err e) idle f now later given given'
      → Served end.LinkFault limit idle start later given0 given' taken0 taken old mid
  link_fails {later} {given'} f e w =
      let n = w.1.0 in
      let t : Turned now later given given' (replicate n quiet) = subst (λ (l : List Turn). Turned now later given given' l) w.1.2 w.2 in
      record {
        turns = replicate n quiet ++ s.turns;
        arrivals = s.arrivals;
        frames_are = s.frames_are ∙ sym (came_quiet n s.turns);
        served = s.served;
        turned = turned-then start now later given0 given given' s.turns (replicate n quiet) s.turned t;
        goes_on = waited limit idle s.turns count s.counted few s.loud s.going n (omega (arith, w.1.1)) s.goes_on;
        finishes = inl (waits limit idle s.turns count s.counted few s.loud s.going n w.1.1, s.sends);
      }
