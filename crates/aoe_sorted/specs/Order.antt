-- Things in the order of their ranks.
use Rattle.std.specs.Prelude.{ℕ, ◌≡◌, ◌≤◌, ◌&&◌, ◌||◌, Bool, false, List, [], ◌∷◌, nat_lt, nat_eq, ⊤, All}
use Rattle.aoe_sorted.specs.declared.rank.Rank.{Rank}

-- for how many there is room, and those that stand there, in order
pub record SortedTable (T : Type 0) : Type 0 where
  pub room : ℕ
  pub items : List T

abbrev pub nothing : {T : Type 0} → ℕ → SortedTable T
nothing room = record { room = room; items = [] }

-- one rank stands before the other
abbrev pub before : Rank → Rank → Bool
before a b = nat_lt a.at b.at || (nat_eq a.at b.at && (nat_lt a.tie b.tie || (nat_eq a.tie b.tie && nat_lt a.rest b.rest)))

-- none stands behind one that its rank stands before
abbrev pub AreInOrder : {T : Type 0} → (T → Rank) → List T → Type 0
AreInOrder rank [] = ⊤
AreInOrder rank (x ∷ xs) = All (λ later. before (rank later) (rank x) ≡ false) xs × AreInOrder rank xs

-- all stand in order, and there is memory for as many as there is room for
pub record IsInRoom {T : Type 0} (rank : T → Rank) (room capacity : ℕ) (items : List T) : Type 0 where
  pub order : AreInOrder rank items
  pub reserved : room ≤ capacity
