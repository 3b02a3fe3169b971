-- The lines of a text, one after the other.
use Rattle.std.proofs.Common.{◌≡◌, ◌∙◌, ◌+◌, ◌<◌, ◌≤◌, ◌==◌, ℕ, suc, Bool, true, false, cond, List, [], ◌∷◌, length, take, drop, get_or, sym, ap, arith, drop-cons}
use Rattle.std.specs.List.{slice_split, position_or_len}
use Rattle.std.specs.Str.Lines.{lines, lines_of_parts, strip_carriage_return}
use Rattle.std.proofs.lemmas.Bool.{eqb-true}
use Rattle.std.proofs.lemmas.List.{take_all, drop_all}
use Rattle.std.proofs.lemmas.List.Sums.{passes_at_first}
use Rattle.aoe_script.proofs.SplitLemmas.{cut}

tail_is : (x y : List ℕ) (xs ys : List (List ℕ)) → x ∷ xs ≡ y ∷ ys → xs ≡ ys
tail_is x y xs ys e = cc

-- a last line without a line feed
pub last_line : (text rest : List ℕ) (end : ℕ) → end ≡ position_or_len (λ c. c == 10) text → end ≡ length text → (length text == 0) ≡ false
    → rest ≡ drop end text
    → lines text ≡ text ∷ lines rest
last_line text rest end place all some rest_is =
    let c = cut (λ c. c == 10) text in
    let long : length text ≤ position_or_len (λ c. c == 10) text = omega (arith, place, all) in
    let whole : take (position_or_len (λ c. c == 10) text) text ≡ text = take_all _ text long in
    let none : drop (position_or_len (λ c. c == 10) text) text ≡ [] = drop_all _ text long in
    let parts : [] ≡ c.parts = tail_is [] [] [] c.parts (sym (ap (slice_split (λ c. c == 10)) none) ∙ c.behind) in
    let split : slice_split (λ c. c == 10) text ≡ text ∷ [] = c.whole ∙ ap (λ t. t ∷ c.parts) whole ∙ ap (λ p. text ∷ p) (sym parts) in
    let empty : rest ≡ [] = rest_is ∙ drop_all end text (omega (arith, all)) in
    ap lines_of_parts split ∙ ap (λ b. cond b [] (text ∷ [])) some ∙ sym (ap (λ t. text ∷ lines t) empty)

-- the parts of a list are never none
pub more_parts : (first : List ℕ) (text : List ℕ) → lines_of_parts (first ∷ slice_split (λ c. c == 10) text) ≡ strip_carriage_return first ∷ lines text
more_parts first text =
    let c = cut (λ c. c == 10) text in
    ap (λ p. lines_of_parts (first ∷ p)) c.whole ∙ ap (λ p. strip_carriage_return first ∷ lines_of_parts p) (sym c.whole)

-- a line with a line feed
pub first_line : (text line rest : List ℕ) (end : ℕ) → end ≡ position_or_len (λ c. c == 10) text → end < length text
    → line ≡ strip_carriage_return (take end text) → rest ≡ drop (end + 1) text → lines text ≡ line ∷ lines rest
first_line text line rest end place within line_is rest_is =
    let p : ℕ → Bool = λ c. c == 10 in
    let c = cut (λ c. c == 10) text in
    let inside : position_or_len (λ c. c == 10) text < length text = omega (arith, place, within) in
    let passes : (get_or text (position_or_len (λ c. c == 10) text) 0 == 10) ≡ true = passes_at_first (λ c. c == 10) text 0 inside in
    let feed : get_or text end 0 ≡ 10 = ap (λ i. get_or text i 0) place ∙ eqb-true _ 10 passes in
    let one : suc end ≡ end + 1 = omega arith in
    let behind : drop end text ≡ 10 ∷ drop (end + 1) text =
    drop-cons text end 0 within ∙ ap (λ (b : ℕ). b ∷ drop (suc end) text) feed ∙ ap (λ i. 10 ∷ drop i text) one in
    let split : slice_split (λ c. c == 10) (10 ∷ drop (end + 1) text) ≡ [] ∷ c.parts = sym (ap (slice_split (λ c. c == 10)) behind)
    ∙ ap (λ i. slice_split (λ c. c == 10) (drop i text)) place ∙ c.behind in
    let parts : slice_split (λ c. c == 10) (drop (end + 1) text) ≡ c.parts = tail_is [] [] _ c.parts split in
    ap lines_of_parts (c.whole ∙ ap (λ i. take i text ∷ c.parts) (sym place) ∙ ap (λ q. take end text ∷ q) (sym parts))
    ∙ more_parts (take end text) (drop (end + 1) text)
    ∙ ap (λ l. l ∷ lines (drop (end + 1) text)) (sym line_is) ∙ ap (λ r. line ∷ lines r) (sym rest_is)
