-- The words of a line.
use Rattle.std.specs.Prelude.{ℕ, ◌==◌, List, [], length, nat_lt, filter, take, slice_index_or}
use Rattle.std.specs.List.{slice_split}

abbrev pub Text : Type 0
Text = List ℕ

-- the words of a line are what stands between spaces (32)
unfoldable pub words : Text → List Text
words line = filter (λ word. nat_lt 0 (length word)) (slice_split (λ c. c == 32) line)

-- those that the grammar looks at: no line of it has more than six words
abbrev pub few_words : Text → List Text
few_words line = take 7 (words line)

-- the word at a place, from 0; none is an empty one
abbrev pub word_at : List Text → ℕ → Text
word_at ws i = slice_index_or ws i []
