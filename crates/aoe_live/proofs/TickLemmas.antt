-- Time that goes by in lines of at most 10,000,000 milliseconds.
use Rattle.std.proofs.Common.{ℕ, zero, suc, ◌≡◌, ◌/◌, ◌%◌, ◌<◌, false, List, [], ◌∷◌, ◌++◌, append_assoc, replicate, refl, ap, ◌∙◌, arith, if◌then◌else◌}
use Rattle.std.specs.Prelude.{◌==◌}
use Rattle.std.proofs.lemmas.Bool.Decides.{nat_tests}
use Rattle.aoe_script.specs.declared.event.Event.{Event}
use Rattle.aoe_script.specs.declared.event.Event.TheVariants.{Tick}
use Rattle.aoe_live.specs.Lines.{ticks}

-- so many whole lines
abbrev pub whole : ℕ → List Event
whole n = replicate n (Tick 10000000)

-- one of them stands behind the ones before it
pub whole-at : (n q : ℕ) → n < q → (rest : List Event) × (whole q ≡ whole n ++ Tick 10000000 ∷ rest)
whole-at n zero below = absurd (omega (arith, below))
whole-at zero (suc q) below = (whole q, refl)
whole-at (suc n) (suc q) below = let behind = whole-at n q (omega (arith, below)) in (behind.0, ap (λ l. Tick 10000000 ∷ l) behind.1)

end-some : (n rest : ℕ) → (rest ≡ 0 → ⊥) → whole n ++ (if rest == 0 then [] else Tick rest ∷ []) ≡ whole n ++ Tick rest ∷ []
end-some n rest some =
    let test : (rest == 0) ≡ false = grind (arith, nat_tests, some) in
    ap (λ b. whole n ++ (if b then [] else Tick rest ∷ [])) test

pub ticks-some : (ms : ℕ) → (ms % 10000000 ≡ 0 → ⊥) → ticks ms ≡ whole (ms / 10000000) ++ (Tick (ms % 10000000) ∷ [] ++ [])
ticks-some ms some = end-some (ms / 10000000) (ms % 10000000) some

pub ticks-at : (ms n : ℕ) → n < ms / 10000000 → (rest : List Event) × (ticks ms ≡ whole n ++ (Tick 10000000 ∷ [] ++ rest))
ticks-at ms n below =
    let behind = whole-at n (ms / 10000000) below in
    let end : List Event = if ms % 10000000 == 0 then [] else Tick (ms % 10000000) ∷ [] in
    (behind.0 ++ end, ap (λ l. l ++ end) behind.1 ∙ append_assoc (whole n) (Tick 10000000 ∷ behind.0) end)
