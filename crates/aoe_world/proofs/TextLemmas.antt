-- What the refusal of a text says of its length.
use Rattle.std.proofs.Common.{◌≡◌, ◌<◌, ◌≤◌, ℕ, zero, suc, Bool, true, false, List, length, Option, Some, None, Err, nat_lt, refl, sym}
use Rattle.std.specs.Prelude.{if◌then◌else◌, option_and_then}
use Rattle.std.specs.Option.{option_or}
use Rattle.std.proofs.lemmas.Bool.{ltb-false, ltb-true}
use Rattle.aoe_script.specs.declared.line.Line.{Line}
use Rattle.aoe_script.specs.declared.refusal.Why.{Why}
use Rattle.aoe_script.specs.declared.refusal.ScriptRefusal.{ScriptRefusal}
use Rattle.aoe_script.specs.declared.refusal.ScriptRefusal.TheVariants.{NoMemory, BadLine, TooMany, TooLong}
use Rattle.aoe_script.specs.Lines.{FailsFor, IsWanting, ScriptLines, first_refusal, line_refusal, refusal, refusal_at, refused_for, said_by}
use Rattle.aoe_world.specs.Replay.{refused_as, IsRefusedAs}

never_long_line : (number : ℕ) (w : Option Why) (over : Bool) → refused_for number w over ≡ Some TooLong → ⊥
never_long_line number None true e = cc
never_long_line number _ _ e = cc

never_long_first : (said : List Line) (n : ℕ) → first_refusal said n ≡ Some TooLong → ⊥
never_long_first said zero e = cc
never_long_first said (suc k) e = either (first_refusal said k) (refusal_at said k) (never_long_first said k) (each _ _ _) e
  where
    either : (a b : Option ScriptRefusal) → (a ≡ Some TooLong → ⊥) → (b ≡ Some TooLong → ⊥) → option_or a b ≡ Some TooLong → ⊥
    either None b f g e = g e
    either (Some x) b f g e = f e

    each : (number : ℕ) (before : ScriptLines) (line : Option Line) → option_and_then (line_refusal number before) line ≡ Some TooLong → ⊥
    each number before None e = cc
    each number before (Some line) e = never_long_line number _ _ e

pub long_text : (text : List ℕ) → refusal text ≡ Some TooLong → 16777216 < length text
unfolding refusal
long_text text e = go (nat_lt 16777216 (length text)) refl e
  where
    go : (b : Bool) → nat_lt 16777216 (length text) ≡ b → (if b then Some TooLong else first_refusal (said_by text) (length (said_by text))) ≡ Some TooLong
        → 16777216 < length text
    go true is e = ltb-true 16777216 (length text) is
    go false is e = absurd (never_long_first (said_by text) (length (said_by text)) e)

-- what isn't refused for its length is short
pub short_text : {cause : Option ScriptRefusal} (text : List ℕ) → refusal text ≡ cause → (cause ≡ Some TooLong → ⊥) → length text ≤ 16777216
unfolding refusal
short_text {cause} text e other = go (nat_lt 16777216 (length text)) refl e
  where
    go : (b : Bool) → nat_lt 16777216 (length text) ≡ b → (if b then Some TooLong else first_refusal (said_by text) (length (said_by text))) ≡ cause
        → length text ≤ 16777216
    go true is e = absurd (other (sym e))
    go false is e = ltb-false 16777216 (length text) is

-- why a text is refused that has a cause, or for which there was no memory
pub refused_text : (text : List ℕ) (r : ScriptRefusal) → FailsFor {T = ScriptLines} (refusal text) (Err r) → (r ≡ NoMemory → IsWanting text)
    → IsRefusedAs (refused_as r) text
refused_text text NoMemory cause memory = memory refl
refused_text text (BadLine line why) cause memory = (short_text text cause (λ f. cc), cause)
refused_text text TooMany cause memory = (short_text text cause (λ f. cc), cause)
refused_text text TooLong cause memory = long_text text cause

pub short_none : (text : List ℕ) → refusal text ≡ None → length text ≤ 16777216
short_none text e = short_text text e (λ f. cc)
