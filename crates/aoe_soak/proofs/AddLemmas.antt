-- Events that are added one after the other.
use Rattle.std.proofs.Common.{◌≡◌, ◌∙◌, ◌+◌, ◌<◌, ◌≤◌, ℕ, suc, List, [], ◌∷◌, ◌++◌, All, length, sym, ap, subst, arith, append_assoc, length-append}
use Rattle.aoe_script.specs.declared.event.Event.{Event}
use Rattle.aoe_script.specs.Lines.{ScriptLines}
use Rattle.aoe_soak.specs.Adds.{Takes, with_events}

-- so far the first of these events were added, and these are left
pub record AreAdded (old now : ScriptLines) (all left : List Event) : Type 0 where
  pub setups : now.setups ≡ old.setups
  pub events : now.events ++ left ≡ old.events ++ all
  pub good : All (Takes old) left

pub room : (old now : ScriptLines) (all left rest : List Event) (event : Event) (most : ℕ) → AreAdded old now all left → left ≡ event ∷ rest
    → length old.events + length all ≤ most
    → length now.events < most
room old now all left rest event most h is few =
    let whole : length (now.events ++ left) ≡ length (old.events ++ all) = ap length h.events in
    let one : length left ≡ suc (length rest) = ap length is in
    omega (arith, whole, one, few, length-append now.events left, length-append old.events all)

pub one_added : (old now new : ScriptLines) (all left rest : List Event) (event : Event) → AreAdded old now all left → left ≡ event ∷ rest
    → new ≡ with_events now (event ∷ []) → AreAdded old new all rest
one_added old now new all left rest event h is added = record {
  setups = ap (λ s. s.setups) added ∙ h.setups;
  events =
      ap (λ s. s.events ++ rest) added ∙ append_assoc now.events (event ∷ []) rest ∙ ap (λ t. now.events ++ t) (sym is) ∙ h.events;
  good = λ k d below. (let P : List Event → Type 0 = λ l. All (Takes old) l in subst P is h.good) (suc k) d (omega (arith, below));
}
