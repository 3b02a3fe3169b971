-- A block as contracts see it: its parts.
use Rattle.std.specs.Prelude.{ℕ, ◌≡◌, ◌+◌, ◌*◌, ◌<◌, ◌≤◌, Bool, List, [], ◌∷◌, length, map, All}
use Rattle.std.specs.List.{concat}
use Rattle.aoe_block.specs.declared.stage.Stage.{Stage}
use Rattle.aoe_block.specs.declared.stage.Stage.TheVariants.{Pending}

-- a part: its first sector, how many it has, their bytes, and how far it is. The bytes are those to be
-- written, or those that were read, and zeros until they have come
pub record Part : Type 0 where
  pub at : ℕ
  pub count : ℕ
  pub bytes : List ℕ
  pub stage : Stage

-- a block: whether it is written, how many sectors its device has and takes in one command, and its parts in order
pub record BlockState : Type 0 where
  pub write : Bool
  pub total : ℕ
  pub max : ℕ
  pub parts : List Part

-- the bytes of all parts, one after another
abbrev pub joined : List Part → List ℕ
joined parts = concat (map (λ p. p.bytes) parts)

-- the first part begins at a sector, and each other one where the one before it ends
abbrev pub AreAdjacent : ℕ → List Part → Type 0
AreAdjacent at [] = Unit {0}
AreAdjacent at (p ∷ parts) = (p.at ≡ at) × AreAdjacent (at + p.count) parts

-- each part has `max` sectors, but for the last, which has at least one and no more than that
abbrev pub AreFull : ℕ → List Part → Type 0
AreFull max [] = Unit {0}
AreFull max (p ∷ []) = (0 < p.count) × (p.count ≤ max)
AreFull max (p ∷ q ∷ parts) = (p.count ≡ max) × AreFull max (q ∷ parts)

-- the parts of the sectors from `at` on that have these bytes, before any was handed
pub record IsCut (at max : ℕ) (bytes : List ℕ) (parts : List Part) : Type 0 where
  pub adjacent : AreAdjacent at parts
  pub full : AreFull max parts
  pub whole : All (λ p. length p.bytes ≡ 512 * p.count) parts
  pub together : joined parts ≡ bytes
  pub pending : All (λ p. p.stage ≡ Pending) parts
