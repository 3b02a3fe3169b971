-- The commands one after the other, and how many lines they have.
use Rattle.std.proofs.Common.{◌≡◌, ◌∙◌, ◌+◌, ◌*◌, ◌/◌, ◌%◌, ◌≢◌, ℕ, suc, Bool, true, false, List, [], ◌∷◌, ◌++◌, length, nat_lt, refl, sym, ap, arith, append-nil, length-append}
use Rattle.std.specs.Prelude.{◌==◌, if◌then◌else◌}
use Rattle.std.specs.List.{flat_map, range_with_len}
use Rattle.std.proofs.lemmas.Bool.Decides.{nat_tests}
use Rattle.std.proofs.lemmas.Grind.{flat_map-append}
use Rattle.aoe_base.proofs.CommonLemmas.{range-more}
use Rattle.aoe_script.specs.declared.event.Event.{Event}
use Rattle.aoe_script.specs.Lines.{ScriptLines}
use Rattle.aoe_soak.specs.Adds.{with_events}
use Rattle.aoe_soak.specs.Soak.{before, command, commands, following, stations}

commands_more : (seed count i : ℕ) → commands seed count (suc i) ≡ commands seed count i ++ command seed count i
commands_more seed count i =
    ap (flat_map (command seed count)) (range-more 0 i ∙ ap (λ x. range_with_len 0 i ++ x ∷ []) (let e : 0 + i ≡ i = omega arith in e))
    ∙ flat_map-append (command seed count) (range_with_len 0 i) (i ∷ [])
    ∙ ap (λ t. commands seed count i ++ t) (append-nil (command seed count i))

-- two lines for each command, three more for each lost answer, two more for each repeated request
abbrev pub lines_of : ℕ → ℕ
lines_of i = 2 * i + 3 * ((i + 6) / 10) + 2 * ((i + 3) / 10)

-- and six where the crash stands before the last of them
abbrev pub crash_lines : ℕ → ℕ → ℕ
crash_lines count i = if nat_lt (count / 2) i then 6 else 0

following_lines : (i : ℕ) → lines_of i + 1 + length (following i) ≡ lines_of (suc i)
following_lines i = go (i % 10 == 3) refl (i % 10 == 6) refl
  where
    go : (lost : Bool) → (i % 10 == 3) ≡ lost → (repeated : Bool) → (i % 10 == 6) ≡ repeated → lines_of i + 1 + length (following i) ≡ lines_of (suc i)
    go true e repeated f = let at : i % 10 ≡ 3 = grind (arith, nat_tests) in rw (e) (omega (arith, at))
    go false e true f = let at : i % 10 ≡ 6 = grind (arith, nat_tests) in rw (e, f) (omega (arith, at))
    go false e false f =
        let lost : i % 10 ≢ 3 = grind (arith, nat_tests) in
        let repeated : i % 10 ≢ 6 = grind (arith, nat_tests) in
        rw (e, f) (omega (arith, lost, repeated))

before_lines : (count i : ℕ) → crash_lines count i + length (before count i) ≡ crash_lines count (suc i)
before_lines count i = go (i == count / 2) refl
  where
    go : (b : Bool) → (i == count / 2) ≡ b → crash_lines count i + length (before count i) ≡ crash_lines count (suc i)
    go true e =
        let at : i ≡ count / 2 = grind (arith, nat_tests) in
        let low : nat_lt (count / 2) i ≡ false = grind (arith, nat_tests) in
        let high : nat_lt (count / 2) (suc i) ≡ true = grind (arith, nat_tests) in
        rw (e, low, high) refl
    go false e =
        let off : i ≢ count / 2 = grind (arith, nat_tests) in
        let same : nat_lt (count / 2) (suc i) ≡ nat_lt (count / 2) i = grind (arith, nat_tests) in
        rw (e, same) (omega arith)

-- the script so far, behind i commands
pub record IsSoaked (seed count i : ℕ) (script : ScriptLines) : Type 0 where
  pub script_is : script ≡ record { setups = stations; events = commands seed count i }
  pub lines : length script.events ≡ lines_of i + crash_lines count i

one_soaked : (seed count i : ℕ) (old new : ScriptLines) → IsSoaked seed count i old → new ≡ with_events old (command seed count i)
    → IsSoaked seed count (suc i) new
one_soaked seed count i old new h is = record {
  script_is =
      is ∙ ap (λ s. with_events s (command seed count i)) h.script_is
      ∙ ap (λ (es : List Event). let s : ScriptLines = record { setups = stations; events = es } in s) (sym (commands_more seed count i));
  lines =
      let added : length new.events ≡ length (old.events ++ command seed count i) = ap (λ s. length s.events) is in
      let parts : length (command seed count i) ≡ length (before count i) + suc (length (following i)) = length-append (before count i) _ in
      omega (arith, added, parts, length-append old.events (command seed count i), h.lines, following_lines i, before_lines count i);
}

pub next_soaked : (seed count i : ℕ) (old new : ScriptLines) → IsSoaked seed count i old → new ≡ with_events old (command seed count i)
    → IsSoaked seed count (i + 1) new
next_soaked seed count i old new h is = let one : i + 1 ≡ suc i = omega arith in rw one (one_soaked seed count i old new h is)
