-- The text of a script is read as the script.
use Rattle.std.proofs.Common.{◌≡◌, ◌∙◌, ◌≤◌, ℕ, suc, Bool, true, false, not, List, [], ◌∷◌, ◌++◌, length, take, map, Option, None, nat_lt, refl, sym, ap, arith}
use Rattle.std.specs.Prelude.{IfSome, slice_get}
use Rattle.std.specs.List.{AllByRecursion, flat_map, list_all}
use Rattle.std.specs.Str.Lines.{lines}
use Rattle.std.proofs.lemmas.Bool.Decides.{nat_tests}
use Rattle.std.proofs.lemmas.List.{append-nil}
use Rattle.std.proofs.lemmas.List.Elements.{recursion_from_All}
use Rattle.aoe_script.specs.declared.event.Event.{Event}
use Rattle.aoe_script.specs.declared.line.Line.{Line}
use Rattle.aoe_script.specs.declared.line.Line.TheVariants.{Asks, Declares}
use Rattle.aoe_script.specs.declared.refusal.Why.{Why}
use Rattle.aoe_script.specs.declared.refusal.Why.TheVariants.{Value}
use Rattle.aoe_script.specs.declared.setup.Setup.{Setup}
use Rattle.aoe_script.specs.Forms.{line_of}
use Rattle.aoe_script.specs.Lines.{IsScript, ScriptLines, first_refusal, lines_of, refusal, said_by, script_of}
use Rattle.aoe_script.specs.Print.{event_words, line_text, script_text, setup_words, spelled}
use Rattle.aoe_script.specs.Rules.{event_why, is_event, is_setup, setup_why, unless}
use Rattle.aoe_script.specs.Types.{FitsEvent, FitsSetup}
use Rattle.aoe_script.specs.Words.{Text}
use Rattle.aoe_script.proofs.EventBack.{event_is}
use Rattle.aoe_script.proofs.ListedLemmas.{AddressLaw}
use Rattle.aoe_script.proofs.NamedLemmas.{DeviceLaw}
use Rattle.aoe_script.proofs.PlainLemmas.{all_tested, is_word}
use Rattle.aoe_script.proofs.SetupBack.{setup_is}
use Rattle.aoe_script.proofs.SpelledLemmas.{lines_back}
use Rattle.aoe_script.proofs.AcceptedLemmas.{first_none, none_refused}
use Rattle.aoe_script.proofs.KeptLemmas.{lines_kept}
use Rattle.aoe_script.proofs.SaidLemmas.{IsSaid, are_words, line_is}

good : (b : Bool) (rest : Option Why) → unless (not b) Value rest ≡ None → b ≡ true
good true rest e = refl
good false rest e = absurd cc

setup_good : (before : List Setup) (setup : Setup) → setup_why before false setup ≡ None → is_setup setup ≡ true
unfolding setup_why
setup_good before setup e = good (is_setup setup) _ e

event_good : (setups : List Setup) (event : Event) → event_why setups event ≡ None → is_event event ≡ true
unfolding event_why
event_good setups event e = good (is_event event) _ e

-- ---- all of them

each_of : {X : Type 0} (P : List X → X → Type 0) (Q R : X → Type 0) → ((before : List X) (x : X) → P before x → Q x → R x)
    → (xs : List X) → ((k : ℕ) → IfSome (slice_get xs k) (λ x. P (take k xs) x)) → AllByRecursion Q xs → AllByRecursion R xs
each_of P Q R weaker [] h q = tt
each_of P Q R weaker (x ∷ xs) h q =
    (weaker [] x (h 0) q.0, each_of (λ before y. P (x ∷ before) y) Q R (λ before y. weaker (x ∷ before) y) xs (λ k. h (suc k)) q.1)

module _ {X : Type 0} (ws : X → List Text) (line : X → Line) where
  lines_are : (xs : List X) (rest : List Text) → AllByRecursion (λ x. IsSaid (ws x) (line x)) xs
      → map line_of (map (λ x. spelled (ws x)) xs ++ rest) ≡ map line xs ++ map line_of rest
  lines_are [] rest h = refl
  lines_are (x ∷ xs) rest h = rw (line_is (ws x) (line x) h.0, lines_are xs rest h.1) refl

  -- the lines at the front of a text
  said_first : (xs : List X) (rest : Text) → AllByRecursion (λ x. IsSaid (ws x) (line x)) xs
      → said_by (flat_map (λ x. line_text (ws x)) xs ++ rest) ≡ map line xs ++ said_by rest
  unfolding said_by
  said_first xs rest h = ap (map line_of)
      (lines_back ws xs rest (all_tested (λ x. IsSaid (ws x) (line x)) (λ x. list_all is_word (ws x)) (λ x said. are_words (ws x) (line x) said) xs h))
      ∙ lines_are xs (lines rest) h

no_lines : said_by [] ≡ []
unfolding said_by
no_lines = refl

-- ---- the text

module _ (law : AddressLaw) (devices : DeviceLaw) where
  pub setup_back : (setup : Setup) → is_setup setup ≡ true → FitsSetup setup → line_of (spelled (setup_words setup)) ≡ Declares setup
  setup_back setup is fits = line_is (setup_words setup) (Declares setup) (setup_is law setup is fits)

  pub event_back : (event : Event) → is_event event ≡ true → FitsEvent event → line_of (spelled (event_words event)) ≡ Asks event
  event_back event is fits = line_is (event_words event) (Asks event) (event_is law devices event is fits)

  text_said : (setups : List Setup) (events : List Event) → IsScript (record { setups = setups; events = events })
      → said_by (script_text (record { setups = setups; events = events })) ≡ map Declares setups ++ map Asks events
  text_said setups events h =
      let first = each_of (λ before s. setup_why before false s ≡ None) FitsSetup (λ s. IsSaid (setup_words s) (Declares s))
      (λ before s e fits. setup_is law s (setup_good before s e) fits) setups h.setups (recursion_from_All FitsSetup setups h.setups_fit) in
      let second = each_of (λ before x. event_why setups x ≡ None) FitsEvent (λ x. IsSaid (event_words x) (Asks x))
      (λ before x e fits. event_is law devices x (event_good setups x e) fits) events h.events (recursion_from_All FitsEvent events h.events_fit) in
      let text : Text = flat_map (λ x. line_text (event_words x)) events in
      said_first setup_words Declares setups text first
      ∙ ap (λ t. map Declares setups ++ said_by t) (sym (append-nil text))
      ∙ ap (λ t. map Declares setups ++ t)
      (said_first event_words Asks events [] second ∙ ap (λ t. map Asks events ++ t) no_lines ∙ append-nil (map Asks events))

  pub script_back : (script : ScriptLines) → IsScript script → script_of (script_text script) ≡ script
  script_back script h = ap lines_of (text_said script.setups script.events h) ∙ lines_kept script.setups script.events

  pub script_accepted : (script : ScriptLines) → IsScript script → length (script_text script) ≤ 16777216 → refusal (script_text script) ≡ None
  unfolding refusal
  script_accepted script h short =
      let fits : nat_lt 16777216 (length (script_text script)) ≡ false = grind (arith, nat_tests) in
      let none = first_none (map Declares script.setups ++ map Asks script.events) (none_refused script.setups script.events h) in
      rw fits (ap (λ t. first_refusal t (length t)) (text_said script.setups script.events h)
      ∙ none (length (map Declares script.setups ++ map Asks script.events)))
