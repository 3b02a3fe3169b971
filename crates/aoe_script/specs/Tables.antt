-- Words that stand in tables.
use Rattle.std.specs.Prelude.{List, [], ◌∷◌, Option, Some, None, if◌then◌else◌}
use Rattle.std.specs.Str.{bytes_eq}
use Rattle.aoe_script.specs.Words.{Text}

-- what a table says of a word
abbrev pub listed : {T : Type 0} → Text → List (Text × T) → Option T
listed word [] = None
listed word (row ∷ rows) = if bytes_eq word row.0 then Some row.1 else listed word rows
