-- Scripts that grow by a line, and texts that are read line by line.
use Rattle.std.proofs.Common.{◌≡◌, ◌∙◌, ◌+◌, ◌<◌, ◌≤◌, ◌⊎◌, inl, inr, ℕ, zero, suc, Bool, true, false, not, List, [], ◌∷◌, ◌++◌, length, take, drop, map, Option, Some, None, nat_lt, refl, sym, ap, subst, arith, zero-add, ◌-◌}
use Rattle.std.specs.Prelude.{All, IfSome, slice_get, option_and_then, Err}
use Rattle.std.specs.Option.{option_or}
use Rattle.std.specs.Str.Lines.{lines}
use Rattle.std.proofs.lemmas.Bool.{lt-ltb}
use Rattle.std.proofs.lemmas.List.{drop-map, length-append, length-map, append-nil, take_all}
use Rattle.std.proofs.lemmas.Bool.Decides.{nat_tests}
use Rattle.std.proofs.lemmas.List.Elements.{All-push, filter_map-append}
use Rattle.aoe_script.specs.declared.event.Event.{Event}
use Rattle.aoe_script.specs.declared.line.Line.{Line}
use Rattle.aoe_script.specs.declared.line.Line.TheVariants.{Blank, Declares, Asks, Bad}
use Rattle.aoe_script.specs.declared.refusal.Why.{Why}
use Rattle.aoe_script.specs.declared.refusal.Why.TheVariants.{Value, Place}
use Rattle.aoe_script.specs.declared.refusal.ScriptRefusal.{ScriptRefusal}
use Rattle.aoe_script.specs.declared.refusal.ScriptRefusal.TheVariants.{NoMemory, BadLine, TooMany, TooLong}
use Rattle.aoe_script.specs.declared.setup.Setup.{Setup}
use Rattle.aoe_script.specs.Forms.{line_of, takes_memory}
use Rattle.aoe_script.specs.Lines.{FailsFor, IsScript, IsWanting, ScriptLines, asked, declared, first_refusal, line_refusal, lines_of, refusal, refusal_at, said_by, script_of, with_line}
use Rattle.aoe_script.specs.Rules.{declared_why, event_why, is_setup, setup_why, unless}
use Rattle.aoe_script.specs.Types.{FitsEvent, FitsSetup}
use Rattle.aoe_script.specs.Words.{few_words}
use Rattle.aoe_script.proofs.KeptLemmas.{both}

-- what holds of each element behind those before it, with one more at the end
pub each_pushed : {X : Type 0} (P : List X → X → Type 0) (xs : List X) (y : X) → ((k : ℕ) → IfSome (slice_get xs k) (λ x. P (take k xs) x)) → P xs y
    → (k : ℕ) → IfSome (slice_get (xs ++ y ∷ []) k) (λ x. P (take k (xs ++ y ∷ [])) x)
each_pushed P [] y h new zero = new
each_pushed P [] y h new (suc k) = tt
each_pushed P (x ∷ xs) y h new zero = h zero
each_pushed P (x ∷ xs) y h new (suc k) = each_pushed (λ before z. P (x ∷ before) z) xs y (λ k. h (suc k)) new k

-- where nothing is wrong with a setup line no event stands before it
not_behind : (setups : List Setup) (behind : Bool) (setup : Setup) → setup_why setups behind setup ≡ None
    → (behind ≡ false) × (setup_why setups false setup ≡ None)
unfolding setup_why
not_behind setups behind setup e = go (not (is_setup setup)) behind (declared_why setups setup) e
  where
    go : (a b : Bool) (rest : Option Why) → unless a Value (unless b Place rest) ≡ None → (b ≡ false) × (unless a Value rest ≡ None)
    go true b rest e = absurd cc
    go false true rest e = absurd cc
    go false false rest e = (refl, e)

pub declared_more : (setups new : List Setup) (events : List Event) (setup : Setup) → IsScript (record { setups = setups; events = events })
    → setup_why setups (nat_lt 0 (length events)) setup ≡ None → length setups < 16777216 → FitsSetup setup → new ≡ setups ++ setup ∷ []
    → IsScript (record { setups = new; events = events })
declared_more setups new events setup h e room fits is =
    let P : List Setup → Type 0 = λ s. IsScript (record { setups = s; events = events }) in
    subst P (sym is) (go events h.events h.few_events h.events_fit (not_behind setups (nat_lt 0 (length events)) setup e))
  where
    go : (events : List Event) → ((k : ℕ) → IfSome (slice_get events k) (λ event. event_why setups event ≡ None)) → length events ≤ 50000 → All FitsEvent events
        → (nat_lt 0 (length events) ≡ false) × (setup_why setups false setup ≡ None)
        → IsScript (record { setups = setups ++ setup ∷ []; events = events })
    go [] each few fit good = record {
      setups = each_pushed (λ before s. setup_why before false s ≡ None) setups setup h.setups good.1;
      events = λ k. tt;
      few_setups = omega (arith, room, length-append setups (setup ∷ []));
      few_events = few;
      setups_fit = All-push FitsSetup setups setup h.setups_fit fits;
      events_fit = fit;
    }
    go (event ∷ events) each few fit good =
        let some : nat_lt 0 (length (event ∷ events)) ≡ true = lt-ltb 0 (length (event ∷ events)) (omega arith) in
        let none = good.0 in
        absurd cc

pub asked_more : (setups : List Setup) (events new : List Event) (event : Event) → IsScript (record { setups = setups; events = events })
    → event_why setups event ≡ None → length events < 50000 → FitsEvent event → new ≡ events ++ event ∷ []
    → IsScript (record { setups = setups; events = new })
asked_more setups events new event h e room fits is =
    let P : List Event → Type 0 = λ x. IsScript (record { setups = setups; events = x }) in
    subst P (sym is) record {
      setups = h.setups;
      events = each_pushed (λ before x. event_why setups x ≡ None) events event h.events e;
      few_setups = h.few_setups;
      few_events = omega (arith, room, length-append events (event ∷ []));
      setups_fit = h.setups_fit;
      events_fit = All-push FitsEvent events event h.events_fit fits;
    }

-- ---- a script with one line more

line_more : (before : List Line) (line : Line) → lines_of (before ++ line ∷ []) ≡ with_line (lines_of before) line
line_more before Blank = both _ _ _ _ (filter_map-append declared before (Blank ∷ []) ∙ append-nil _)
    (filter_map-append asked before (Blank ∷ []) ∙ append-nil _)
line_more before (Declares setup) = both _ _ _ _ (filter_map-append declared before (Declares setup ∷ []))
    (filter_map-append asked before (Declares setup ∷ []) ∙ append-nil _)
line_more before (Asks event) = both _ _ _ _ (filter_map-append declared before (Asks event ∷ []) ∙ append-nil _)
    (filter_map-append asked before (Asks event ∷ []))
line_more before (Bad why) = both _ _ _ _ (filter_map-append declared before (Bad why ∷ []) ∙ append-nil _)
    (filter_map-append asked before (Bad why ∷ []) ∙ append-nil _)

setups_more : (before : ScriptLines) (line : Line) → length (with_line before line).setups ≤ length before.setups + 1
setups_more before Blank = omega arith
setups_more before (Declares setup) = omega (arith, length-append before.setups (setup ∷ []))
setups_more before (Asks event) = omega arith
setups_more before (Bad why) = omega arith

-- ---- a text that is read line by line

-- one line more of a list, from the front
taken_more : {X : Type 0} → (xs rest : List X) (x : X) (k : ℕ) → drop k xs ≡ x ∷ rest
    → (take (k + 1) xs ≡ take k xs ++ x ∷ []) × (drop (k + 1) xs ≡ rest) × (slice_get xs k ≡ Some x) × (k < length xs)
taken_more [] rest x zero e = absurd cc
taken_more [] rest x (suc k) e = absurd cc
taken_more (y ∷ xs) rest x zero e = (ap (λ z. z ∷ []) cc, cc, ap Some cc, omega arith)
taken_more (y ∷ xs) rest x (suc k) e =
    let h = taken_more xs rest x k e in
    let one : suc k + 1 ≡ suc (k + 1) = omega arith in
    (rw one (ap (λ t. y ∷ t) h.0), rw one h.1, h.2, omega (arith, h.3))

-- once it is refused it stays so
stays : (said : List Line) (e : ScriptRefusal) (k m : ℕ) → first_refusal said k ≡ Some e → first_refusal said (m + k) ≡ Some e
stays said e k zero h = rw (zero-add k) h
stays said e k (suc m) h =
    let one : suc m + k ≡ suc (m + k) = omega arith in
    rw (one, stays said e k m h) refl

-- what isn't refused by then wasn't before
none_before : (a b : Option ScriptRefusal) → option_or a b ≡ None → a ≡ None
none_before None b e = refl
none_before (Some x) b e = absurd cc

earlier_by : (said : List Line) (n m : ℕ) → first_refusal said (m + n) ≡ None → first_refusal said n ≡ None
earlier_by said n zero e = rw (zero-add n) at e
earlier_by said n (suc m) e =
    let one : suc m + n ≡ suc (m + n) = omega arith in
    earlier_by said n m (none_before (first_refusal said (m + n)) (refusal_at said (m + n)) (rw one at e))

earlier : (said : List Line) (number n : ℕ) → n ≤ number → first_refusal said number ≡ None → first_refusal said n ≡ None
earlier said number n le e =
    let m : ℕ = number - n in
    let sum : number ≡ m + n = omega (arith, le) in
    earlier_by said n m (ap (first_refusal said) (sym sum) ∙ e)

dropped_all : {X : Type 0} → (xs : List X) (n : ℕ) → drop n xs ≡ [] → length xs ≤ n
dropped_all [] n e = omega arith
dropped_all (x ∷ xs) zero e = absurd cc
dropped_all (x ∷ xs) (suc n) e = omega (arith, dropped_all xs n e)

-- so many lines were read, of which none is refused, and these are left
pub record AreRead (text rest : List ℕ) (number : ℕ) (script : ScriptLines) : Type 0 where
  pub ends : number + length rest ≤ length text
  pub few : length script.setups ≤ number
  pub left : drop number (lines text) ≡ lines rest
  pub good : first_refusal (said_by text) number ≡ None
  pub held : script ≡ lines_of (take number (said_by text))

pub none_read : (text : List ℕ) (script : ScriptLines) → script ≡ lines_of [] → AreRead text text 0 script
none_read text script is = record {
  ends = omega arith;
  few = omega (arith, ap (λ s. length s.setups) is);
  left = refl;
  good = refl;
  held = is;
}

-- the next line
module _ (text rest line next : List ℕ) (number : ℕ) (script : ScriptLines) (h : AreRead text rest number script) (is : lines rest ≡ line ∷ lines next) where
  said_next : drop number (said_by text) ≡ line_of line ∷ map line_of (lines next)
  unfolding said_by
  said_next = drop-map line_of number (lines text) ∙ ap (map line_of) (h.left ∙ is)

  pub room : length next < length rest → length text ≤ 16777216 → length script.setups < 16777216
  room shorter short = omega (arith, shorter, short, h.ends, h.few)

  at_next : refusal_at (said_by text) number ≡ line_refusal (number + 1) script (line_of line)
  at_next =
      let t = taken_more (said_by text) _ (line_of line) number said_next in
      ap (option_and_then (line_refusal (number + 1) (lines_of (take number (said_by text))))) t.2
      ∙ ap (λ s. line_refusal (number + 1) s (line_of line)) (sym h.held)

  first_next : first_refusal (said_by text) (number + 1) ≡ line_refusal (number + 1) script (line_of line)
  first_next =
      let one : number + 1 ≡ suc number = omega arith in
      rw one (ap (λ o. option_or o (refusal_at (said_by text) number)) h.good ∙ at_next ∙ ap (λ n. line_refusal n script (line_of line)) one)

  pub one_more : (new : ScriptLines) → length next < length rest → line_refusal (number + 1) script (line_of line) ≡ None
      → new ≡ with_line script (line_of line)
      → AreRead text next (number + 1) new
  one_more new shorter fine new_is =
      let t = taken_more (said_by text) _ (line_of line) number said_next in
      let l = taken_more (lines text) (lines next) line number (h.left ∙ is) in
      record {
        ends = omega (arith, shorter, h.ends);
        few = omega (arith, ap (λ s. length s.setups) new_is, setups_more script (line_of line), h.few);
        left = l.1;
        good = first_next ∙ fine;
        held =
            new_is ∙ ap (λ s. with_line s (line_of line)) h.held ∙ sym (line_more (take number (said_by text)) (line_of line))
            ∙ ap lines_of (sym t.0);
      }

  -- it is refused for this line
  refused : (e : ScriptRefusal) → length text ≤ 16777216 → line_refusal (number + 1) script (line_of line) ≡ Some e → refusal text ≡ Some e
  unfolding refusal
  refused e short bad =
      let t = taken_more (said_by text) _ (line_of line) number said_next in
      let fits : nat_lt 16777216 (length text) ≡ false = grind (arith, nat_tests) in
      let m : ℕ = length (said_by text) - (number + 1) in
      let all : m + (number + 1) ≡ length (said_by text) = omega (arith, t.3) in
      rw fits (ap (first_refusal (said_by text)) (sym all) ∙ stays (said_by text) e (number + 1) m (first_next ∙ bad))

  pub fails : (T U : Type 0) (e : ScriptRefusal) → length text ≤ 16777216 → FailsFor {T = T} (line_refusal (number + 1) script (line_of line)) (Err e)
      → FailsFor {T = U} (refusal text) (Err e)
  fails T U NoMemory short f = tt
  fails T U (BadLine line why) short f = refused (BadLine line why) short f
  fails T U TooMany short f = refused TooMany short f
  fails T U TooLong short f = refused TooLong short f

  -- there was no memory for it
  pub wanting : length text ≤ 16777216 → (line_refusal (number + 1) script (line_of line) ≡ None) ⊎ (takes_memory (few_words line) ≡ true) → IsWanting text
  wanting short wants =
      let l = taken_more (lines text) (lines next) line number (h.left ∙ is) in
      record {
        short = short;
        place = number;
        line = line;
        is_next = l.2;
        good = h.good;
        wants = also wants;
      }
    where
      also : (line_refusal (number + 1) script (line_of line) ≡ None) ⊎ (takes_memory (few_words line) ≡ true)
          → (refusal_at (said_by text) number ≡ None) ⊎ (takes_memory (few_words line) ≡ true)
      also (inl good) = inl (at_next ∙ good)
      also (inr bytes) = inr bytes

-- all lines
module _ (text rest : List ℕ) (number : ℕ) (script : ScriptLines) (h : AreRead text rest number script) (end : lines rest ≡ []) where
  all_said : (length (said_by text) ≤ number) × (take number (said_by text) ≡ said_by text)
  unfolding said_by
  all_said =
      let none : drop number (lines text) ≡ [] = h.left ∙ end in
      let long : length (lines text) ≤ number = dropped_all (lines text) number none in
      let same : length (map line_of (lines text)) ≡ length (lines text) = length-map (lines text) line_of in
      let most : length (map line_of (lines text)) ≤ number = omega (arith, long, same) in
      (most, take_all number _ most)

  pub script_read : script ≡ script_of text
  script_read = h.held ∙ ap lines_of all_said.1

  pub not_refused : length text ≤ 16777216 → refusal text ≡ None
  unfolding refusal
  not_refused short =
      let fits : nat_lt 16777216 (length text) ≡ false = grind (arith, nat_tests) in
      rw fits (earlier (said_by text) number (length (said_by text)) (all_said.0) h.good)

pub too_long : (text : List ℕ) → 16777216 < length text → refusal text ≡ Some TooLong
unfolding refusal
too_long text long =
    let test : nat_lt 16777216 (length text) ≡ true = lt-ltb 16777216 (length text) long in
    rw test refl
