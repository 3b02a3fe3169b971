-- What a crash finds after a replacement that failed, for those who know what a crash found before.
use Rattle.std.proofs.Common.{◌≡◌, ◌⊎◌, ◌∙◌, Option, Some, None, IfSome, Result, Ok, ℕ, sym, inl, inr}
use Rattle.aoe_lists.specs.Settings.{Settings}
use Rattle.aoe_disk.specs.State.{Contents, DiskState, BothTell}
use Rattle.aoe_keep.specs.Found.{Finds, IsOffered, FindsOffered}

module _ (P : Settings → Type 0) (old next : Settings) where
  -- lists that a crash could find before have what every crash found
  offer : (c : Contents) (l : Settings) → Finds P c → IsOffered old next c l → (l ≡ old) ⊎ ((l ≡ next) ⊎ P l)
  offer c l finds (inl e) = inl e
  offer c l finds (inr (inl e)) = inr (inl e)
  offer c l finds (inr (inr can)) =
      let f = finds can.image can.left in
      let same : f.0 ≡ l = (let ok : (let r : Result Settings ℕ = Ok f.0 in r) ≡ Ok l = sym f.1 ∙ can.is in cc) in
      inr (inr (rw same at f.2))

  finds_told : (a b : Option Contents) → IfSome a (Finds P) → BothTell (λ x y. Finds (IsOffered old next x) y) a b
      → IfSome b (Finds (λ l. (l ≡ old) ⊎ ((l ≡ next) ⊎ P l)))
  finds_told a None p told = tt
  finds_told None (Some y) p told = absurd told
  finds_told (Some x) (Some y) p told = λ image left. let f = told image left in (f.0, f.1, offer x f.0 p f.2)

  -- a replacement failed: every crash finds the old lists, the next ones, or lists that have what every crash found before
  pub finds_offered : (before after : DiskState) → IfSome before.contents (Finds P) → FindsOffered before after old next
      → IfSome after.contents (Finds (λ l. (l ≡ old) ⊎ ((l ≡ next) ⊎ P l)))
  finds_offered before after p told = finds_told before.contents after.contents p told
