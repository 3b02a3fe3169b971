-- Setup lines that are taken in one after the other.
use Rattle.std.proofs.Common.{◌≡◌, ◌∙◌, ◌<◌, ◌≤◌, ℕ, suc, false, List, [], ◌∷◌, ◌++◌, length, Option, Some, None, Err, refl, sym, ap, subst, arith, append_assoc, length-append}
use Rattle.std.specs.Prelude.{slice_get}
use Rattle.std.proofs.Math.Seq.{take-append_seam}
use Rattle.aoe_script.specs.declared.line.Line.TheVariants.{Declares}
use Rattle.aoe_script.specs.declared.setup.Setup.{Setup}
use Rattle.aoe_script.specs.declared.refusal.ScriptRefusal.{ScriptRefusal}
use Rattle.aoe_script.specs.declared.refusal.ScriptRefusal.TheVariants.{NoMemory, BadLine, TooMany, TooLong}
use Rattle.aoe_script.specs.Lines.{AreGood, FailsFor, ScriptLines, line_refusal, with_line}
use Rattle.aoe_script.specs.Rules.{setup_why}

-- so far the first of these setup lines were taken in, and these are left
pub record AreDeclared (now : ScriptLines) (all left : List Setup) : Type 0 where
  pub setups : now.setups ++ left ≡ all
  pub events : now.events ≡ []

-- a line stands behind those before it
at-length : (before rest : List Setup) (setup : Setup) → slice_get (before ++ setup ∷ rest) (length before) ≡ Some setup
at-length [] rest setup = refl
at-length (first ∷ before) rest setup = at-length before rest setup

good-there : (before rest : List Setup) (setup : Setup) → AreGood (before ++ setup ∷ rest) → setup_why before false setup ≡ None
good-there before rest setup good = rw (at-length before rest setup, take-append_seam before (setup ∷ rest)) at (good (length before))

module _ (now : ScriptLines) (all left rest : List Setup) (setup : Setup) (h : AreDeclared now all left) (is : left ≡ setup ∷ rest) where
  pub room : (most : ℕ) → length all ≤ most → length now.setups < most
  room most few =
      let whole : length (now.setups ++ left) ≡ length all = ap length h.setups in
      let one : length left ≡ suc (length rest) = ap length is in
      omega (arith, whole, one, few, length-append now.setups left)

  pub unrefused : (number : ℕ) → AreGood all → line_refusal number now (Declares setup) ≡ None
  unrefused number good =
      let here : setup_why now.setups false setup ≡ None =
      good-there now.setups rest setup (subst AreGood (sym h.setups ∙ ap (λ l. now.setups ++ l) is) good) in
      rw (h.events, here) refl

  pub one-declared : (new : ScriptLines) → new ≡ with_line now (Declares setup) → AreDeclared new all rest
  one-declared new added = record {
    setups =
        ap (λ s. s.setups ++ rest) added ∙ append_assoc now.setups (setup ∷ []) rest ∙ ap (λ l. now.setups ++ l) (sym is) ∙ h.setups;
    events = ap (λ s. s.events) added ∙ h.events;
  }

-- what fails for no cause is out of memory
pub memory-alone : (cause : Option ScriptRefusal) (refusal : ScriptRefusal) → cause ≡ None → FailsFor {T = Unit {0}} cause (Err refusal)
    → FailsFor {T = ScriptLines} None (Err refusal)
memory-alone cause NoMemory none fails = tt
memory-alone cause (BadLine line why) none fails = sym none ∙ fails
memory-alone cause TooMany none fails = sym none ∙ fails
memory-alone cause TooLong none fails = sym none ∙ fails
