-- Words that begin with no hyphen, as clap reads them.
use Rattle.std.proofs.Common.{◌≡◌, ◌∙◌, ◌==◌, ℕ, Bool, true, false, List, [], ◌∷◌, Some, None, refl, sym, ap, subst, codes, is_some}
use Rattle.std.specs.List.{list_all, list_any}
use Rattle.clap.specs.Faults.{check_fault, defaults_fault, entered_fault, level_fault, settle_fault, step_fault, walk_fault}
use Rattle.clap.specs.Kinds.{Kinds, or_else}
use Rattle.clap.specs.Simple.{Shape, built, built_leaf, entered, names_of}
use Rattle.clap.specs.Words.{fault_of, subcommand_of}
use Rattle.clap.specs.Walk.{Held, Names, Row, Rule, Text, Waiting, Walk, arg_by_index, finished, idle, nothing_held, positional, rows_after, settled, to_positional, value, walk, walk_from, walked}
use Rattle.aoe_args.specs.Apps.{answer_app, aoe_app}
use Rattle.aoe_args.specs.Words.{are_words, is_hyphen, is_word, parsed}

-- between two words, none of which was an option
abbrev between : Held → Waiting → ℕ → Walk
between h waiting p = record { held = h; waiting = waiting; position = p; is_trailing = false; stopped = None }

module _ (c : List Rule) (h : Held) (p x : ℕ) (xs : Text) (plain : (x == 45) ≡ false) where
  pub walked_idle : walked c [] (between h idle p) (x ∷ xs) ≡ to_positional c (arg_by_index c p) (x ∷ xs) (between h idle p) h
  unfolding walked
  walked_idle = simp plain refl

  pub walked_positional : walked c [] (between h positional p) (x ∷ xs) ≡ to_positional c (arg_by_index c p) (x ∷ xs) (between h positional p) h
  unfolding walked
  walked_positional = simp plain refl

-- a walk over plain words meets no fault but at their places
module _ (s : Shape) (h : Held) (p x : ℕ) (xs : Text) (rest : List Text) (plain : (x == 45) ≡ false) where
  pub fault_idle : walk_fault s [] (between h idle p) ((x ∷ xs) ∷ rest) ≡ or_else (step_fault s p h value)
      (walk_fault s [] (walked s.rules [] (between h idle p) (x ∷ xs)) rest)
  unfolding walk_fault
  fault_idle = simp plain refl

  pub fault_positional : walk_fault s [] (between h positional p) ((x ∷ xs) ∷ rest)
      ≡ or_else (step_fault s p h value) (walk_fault s [] (walked s.rules [] (between h positional p) (x ∷ xs)) rest)
  unfolding walk_fault
  fault_positional = simp plain refl

-- a level of a parse at which nothing fails
level_clean : (s : Shape) (names : Names) (h : Held) (words : List Text) (has : Bool) (below : Kinds) (w : Walk)
    → walk s.rules names h words ≡ w → walk_fault s names (walk_from h) words ≡ [] → below ≡ []
    → settle_fault s.rules s.args_override_self w.held ≡ [] → defaults_fault (settled s.rules w.held).rows s.rules ≡ []
    → check_fault s (finished s.rules w.held) has ≡ [] → level_fault s names h words has below ≡ []
level_clean s names h words has below w e f b st d c =
    let P : Held → Type 0 = λ end. or_else (settle_fault s.rules s.args_override_self end)
    (or_else (defaults_fault (settled s.rules end).rows s.rules) (check_fault s (finished s.rules end) has)) ≡ [] in
    let rest : P w.held = rw (st, d) c in
    let here : P (walk s.rules names h words).held = subst (λ (v : Walk). P v.held) (sym e) rest in
    rw (f, b) here

-- words behind the name of `answer`, none of which is one hyphen
answer_words : (words : List Text) → list_all is_word words ≡ true → list_any is_hyphen words ≡ false → are_words (codes "answer" ∷ words) ≡ true
answer_words words all none = rw (all, none) refl

-- words that can stand there, and in which clap finds no fault
parsed_by : (words : List Text) (found : Text × List Row) → are_words words ≡ true → fault_of aoe_app words ≡ []
    → subcommand_of aoe_app words ≡ Some found → parsed words ≡ Some found
unfolding parsed
parsed_by words found can clean met = rw (can, clean) met

-- `answer`, as clap has it once it is built
abbrev pub leaf : Shape
leaf = built_leaf (record (answer_app (codes "answer")).top { no_binary_name = true; disable_help_subcommand = true })

pub enters : (words : List Text) → entered (built aoe_app) (Some (codes "answer", words)) ≡ Some (codes "answer", rows_after leaf.rules [] words)
unfolding aoe_app
enters words = refl

pub enters_fault : (words : List Text) → entered_fault (built aoe_app) (Some (codes "answer", words)) ≡ level_fault leaf [] nothing_held words false []
unfolding aoe_app
enters_fault words = refl

pub top_walk : (w1 w2 w3 w4 : Text) → walk (built aoe_app).top.rules (names_of (built aoe_app)) nothing_held (codes "answer" ∷ w1 ∷ w2 ∷ w3 ∷ w4 ∷ [])
    ≡ record (walk_from nothing_held) { stopped = Some (codes "answer", w1 ∷ w2 ∷ w3 ∷ w4 ∷ []) }
unfolding aoe_app walked
top_walk w1 w2 w3 w4 = refl

pub top_walk_fault : (w1 w2 w3 w4 : Text) → walk_fault (built aoe_app).top (names_of (built aoe_app)) (walk_from nothing_held)
    (codes "answer" ∷ w1 ∷ w2 ∷ w3 ∷ w4 ∷ []) ≡ []
unfolding aoe_app walked walk_fault
top_walk_fault w1 w2 w3 w4 = refl

module _ (x1 x2 x3 x4 : ℕ) (t1 t2 t3 t4 : Text) (p1 : (x1 == 45) ≡ false) (p2 : (x2 == 45) ≡ false) (p3 : (x3 == 45) ≡ false) (p4 : (x4 == 45) ≡ false) where
  abbrev words : List Text
  words = (x1 ∷ t1) ∷ (x2 ∷ t2) ∷ (x3 ∷ t3) ∷ (x4 ∷ t4) ∷ []

  -- where the walk stands after each word
  abbrev after1 : Walk
  after1 = to_positional leaf.rules (arg_by_index leaf.rules 1) (x1 ∷ t1) (between nothing_held idle 1) nothing_held

  abbrev after2 : Walk
  after2 = to_positional leaf.rules (arg_by_index leaf.rules 2) (x2 ∷ t2) (between after1.held idle 2) after1.held

  abbrev after3 : Walk
  after3 = to_positional leaf.rules (arg_by_index leaf.rules 3) (x3 ∷ t3) (between after2.held idle 3) after2.held

  abbrev after4 : Walk
  after4 = to_positional leaf.rules (arg_by_index leaf.rules 3) (x4 ∷ t4) (between after3.held positional 3) after3.held

  step1 : walked leaf.rules [] (walk_from nothing_held) (x1 ∷ t1) ≡ after1
  step1 = walked_idle leaf.rules nothing_held 1 x1 t1 p1

  step2 : walked leaf.rules [] after1 (x2 ∷ t2) ≡ after2
  step2 = walked_idle leaf.rules after1.held 2 x2 t2 p2

  step3 : walked leaf.rules [] after2 (x3 ∷ t3) ≡ after3
  step3 = walked_idle leaf.rules after2.held 3 x3 t3 p3

  step4 : walked leaf.rules [] after3 (x4 ∷ t4) ≡ after4
  step4 = walked_positional leaf.rules after3.held 3 x4 t4 p4

  pub leaf_walk : walk leaf.rules [] nothing_held words ≡ after4
  leaf_walk =
      ap (λ w. walked leaf.rules [] (walked leaf.rules [] (walked leaf.rules [] w (x2 ∷ t2)) (x3 ∷ t3)) (x4 ∷ t4)) step1
      ∙ ap (λ w. walked leaf.rules [] (walked leaf.rules [] w (x3 ∷ t3)) (x4 ∷ t4)) step2
      ∙ ap (λ w. walked leaf.rules [] w (x4 ∷ t4)) step3 ∙ step4

  fault4 : walk_fault leaf [] after3 ((x4 ∷ t4) ∷ []) ≡ []
  unfolding walk_fault
  fault4 = fault_positional leaf after3.held 3 x4 t4 [] p4

  fault3 : walk_fault leaf [] after2 ((x3 ∷ t3) ∷ (x4 ∷ t4) ∷ []) ≡ []
  fault3 = fault_idle leaf after2.held 3 x3 t3 ((x4 ∷ t4) ∷ []) p3 ∙ ap (λ w. walk_fault leaf [] w ((x4 ∷ t4) ∷ [])) step3 ∙ fault4

  fault2 : walk_fault leaf [] after1 ((x2 ∷ t2) ∷ (x3 ∷ t3) ∷ (x4 ∷ t4) ∷ []) ≡ []
  fault2 = fault_idle leaf after1.held 2 x2 t2 ((x3 ∷ t3) ∷ (x4 ∷ t4) ∷ []) p2 ∙ ap (λ w. walk_fault leaf [] w ((x3 ∷ t3) ∷ (x4 ∷ t4) ∷ [])) step2 ∙ fault3

  pub leaf_walk_fault : walk_fault leaf [] (walk_from nothing_held) words ≡ []
  leaf_walk_fault =
      fault_idle leaf nothing_held 1 x1 t1 ((x2 ∷ t2) ∷ (x3 ∷ t3) ∷ (x4 ∷ t4) ∷ []) p1
      ∙ ap (λ w. walk_fault leaf [] w ((x2 ∷ t2) ∷ (x3 ∷ t3) ∷ (x4 ∷ t4) ∷ [])) step1 ∙ fault2

  abbrev pub found : List Row
  found = finished leaf.rules after4.held

  leaf_clean : level_fault leaf [] nothing_held words false [] ≡ []
  unfolding defaults_fault
  leaf_clean = level_clean leaf [] nothing_held words false [] after4 leaf_walk leaf_walk_fault refl refl refl refl

  top_clean : fault_of aoe_app (codes "answer" ∷ words) ≡ []
  unfolding aoe_app defaults_fault
  top_clean =
      level_clean (built aoe_app).top (names_of (built aoe_app)) nothing_held (codes "answer" ∷ words) _ _ _
      (top_walk (x1 ∷ t1) (x2 ∷ t2) (x3 ∷ t3) (x4 ∷ t4)) (top_walk_fault (x1 ∷ t1) (x2 ∷ t2) (x3 ∷ t3) (x4 ∷ t4))
      (ap (λ (w : Walk). entered_fault (built aoe_app) w.stopped) (top_walk (x1 ∷ t1) (x2 ∷ t2) (x3 ∷ t3) (x4 ∷ t4)) ∙ enters_fault words ∙ leaf_clean)
      refl refl
      (ap (λ (w : Walk). check_fault (built aoe_app).top [] (is_some (entered (built aoe_app) w.stopped))) (top_walk (x1 ∷ t1) (x2 ∷ t2) (x3 ∷ t3) (x4 ∷ t4)))

  met : subcommand_of aoe_app (codes "answer" ∷ words) ≡ Some (codes "answer", found)
  unfolding aoe_app
  met =
      ap (λ (w : Walk). entered (built aoe_app) w.stopped) (top_walk (x1 ∷ t1) (x2 ∷ t2) (x3 ∷ t3) (x4 ∷ t4)) ∙ enters words
      ∙ ap (λ (w : Walk). Some (codes "answer", finished leaf.rules w.held)) leaf_walk

  pub plain_parsed : list_all is_word words ≡ true → list_any is_hyphen words ≡ false → parsed (codes "answer" ∷ words) ≡ Some (codes "answer", found)
  plain_parsed all none = parsed_by (codes "answer" ∷ words) (codes "answer", found) (answer_words words all none) top_clean met
