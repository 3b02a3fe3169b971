-- Words that are a line of the grammar: what a line of them says.
use Rattle.std.proofs.Common.{◌≡◌, ◌∙◌, ◌^◌, ◌<◌, ◌≤◌, ℕ, Bool, true, ◌&&◌, List, length, take, nat_le, ap, arith}
use Rattle.std.specs.List.{list_all}
use Rattle.std.proofs.lemmas.Bool.{and_parts}
use Rattle.std.proofs.lemmas.Bool.Decides.{nat_tests}
use Rattle.std.proofs.lemmas.List.{take_all}
use Rattle.aoe_script.specs.declared.line.Line.{Line}
use Rattle.aoe_script.specs.Forms.{line_of, said}
use Rattle.aoe_script.specs.Print.{spelled}
use Rattle.aoe_script.specs.Rules.{is_within}
use Rattle.aoe_script.specs.Words.{Text}
use Rattle.aoe_script.proofs.PlainLemmas.{is_word}
use Rattle.aoe_script.proofs.SpelledLemmas.{words_back}

-- what words say, and whether each is one and there are no more than seven
abbrev pub told : List Text → Line × Bool
told ws = (said ws, list_all is_word ws && nat_le (length ws) 7)

abbrev pub IsSaid : List Text → Line → Type 0
IsSaid ws line = told ws ≡ (line, true)

-- they are words
all_fit : (ws : List Text) (line : Line) → IsSaid ws line → (list_all is_word ws ≡ true) × (nat_le (length ws) 7 ≡ true)
all_fit ws line h = and_parts (list_all is_word ws) (nat_le (length ws) 7) (ap (λ (t : Line × Bool). t.1) h)

pub are_words : (ws : List Text) (line : Line) → IsSaid ws line → list_all is_word ws ≡ true
are_words ws line h = (all_fit ws line h).0

pub line_is : (ws : List Text) (line : Line) → IsSaid ws line → line_of (spelled ws) ≡ line
line_is ws line h =
    let few : length ws ≤ 7 = let fit = (all_fit ws line h).1 in grind (arith, nat_tests) in
    ap said (ap (take 7) (words_back ws (are_words ws line h)) ∙ take_all 7 ws few) ∙ ap (λ (t : Line × Bool). t.0) h

-- a number in its range has 64 bits
pub small_of : (most n : ℕ) → most < 2 ^ 64 → nat_le n most ≡ true → n < 2 ^ 64
small_of most n fits e = let le : n ≤ most = grind (arith, nat_tests) in omega (arith, fits, le)

pub most_of : (least most n : ℕ) → most < 2 ^ 64 → is_within least most n ≡ true → n < 2 ^ 64
most_of least most n fits e = small_of most n fits (and_parts (nat_le least n) (nat_le n most) e).1
