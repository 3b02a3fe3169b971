-- A text in a place that was full of spaces.
use Rattle.std.proofs.Common.{◌≡◌, ℕ, ◌-◌, List, ◌++◌, drop, length, replicate, ap, ◌∙◌}
use Rattle.std.proofs.lemmas.List.{drop-replicate}
use Rattle.aoe_ata.specs.Serial.{filled}

pub filled-by : (text copied held : List ℕ) (n : ℕ) → held ≡ text → copied ≡ held → n ≡ length held → copied ++ drop n (replicate 20 32) ≡ filled 20 text
filled-by text copied held n held-is copied-is long =
    ap (λ (l : List ℕ). l ++ drop n (replicate 20 32)) (copied-is ∙ held-is)
    ∙ ap (λ (l : List ℕ). text ++ l) (drop-replicate n 20 32 ∙ ap (λ (k : ℕ). replicate (20 - k) 32) (long ∙ ap length held-is))
