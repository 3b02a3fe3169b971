-- The absolute name of a file.
use Rattle.std.specs.Prelude.{Bool, List, ℕ, [], ◌∷◌, ◌++◌, ◌==◌, length, not, if◌then◌else◌, slice_index_or}
use Rattle.std.specs.List.{flat_map, slice_split}

-- whether a part of a name says something: it isn't empty, and not `.` (46)
abbrev pub is_part : List ℕ → Bool
is_part part = if length part == 1 then not (slice_index_or part 0 0 == 46) else not (length part == 0)

-- a part that says something, behind a `/` (47)
abbrev pub behind_slash : List ℕ → List ℕ
behind_slash part = if is_part part then 47 ∷ part else []

-- the parts of a name
abbrev pub parts : List ℕ → List ℕ
parts name = flat_map behind_slash (slice_split (λ c. c == 47) name)

-- the name of a file in a folder, which an absolute name doesn't need
abbrev pub absolute : List ℕ → List ℕ → List ℕ
absolute folder name = if slice_index_or name 0 0 == 47 then parts name else parts folder ++ parts name
