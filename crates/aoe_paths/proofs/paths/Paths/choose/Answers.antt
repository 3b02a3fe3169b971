use Rattle.std.proofs.Common.{ℕ, Option, not, length, map, ◌<◌, ◌%◌, ◌+◌, refl, ◌∙◌, ◌≡◌, ap, sym, arith}
use Rattle.std.specs.Prelude.{position, option_map, slice_get, unwrap_or}
use Rattle.std.proofs.lemmas.List.{length-map}
use Rattle.aoe_paths.specs.Path.{PathState}
use Rattle.aoe_paths.specs.PathTable.{PathTable, in_turn, next_path, path_after}
use Rattle.aoe_paths.proofs.ChoiceLemmas.{next-is, next-unmarked}
use Rattle.aoe_paths.proofs.RecallLemmas.{next-recalled, recalls-chosen}
use Rattle.aoe_paths.proofs.paths.Paths.choose.Goals as goal

next : (c : goal.After-self-1) → (c.path_after-start.result + c.unwrap_or-steps.result) % c.len-count.result
    ≡ next_path c.args.self.now.marks c.args.self.now.chosen
next c =
    let steps : c.unwrap_or-steps.result ≡ unwrap_or (position (λ path. not path.missed) (in_turn c.path_after-start.result c.self.inside.paths.items)) 0 =
    rw (← c.deref.ensures.value) (c.unwrap_or-steps.ensures ∙ ap (λ (s : Option ℕ). unwrap_or s 0) c.steps_to_unmarked.ensures.steps) in
    rw (← c.self.view_is)
    (next-is c.self.inside.paths.items (option_map (λ p. p.0) c.self.inside.chosen) c.len-count.result c.path_after-start.result c.unwrap_or-steps.result _
    (c.len-count.ensures ∙ c.self.inside.paths.ok.0) c.path_after-start.ensures.after steps refl)

pub returns-clause-next : goal.returns-clause-next
returns-clause-next c = next c

pub returns-clause-unmarked : goal.returns-clause-unmarked
returns-clause-unmarked c = λ free.
    let marks : length (map (λ (path : PathState). path.missed) c.self.inside.paths.items) ≡ length c.args.self.now.marks =
    ap (λ (table : PathTable). length table.marks) c.self.view_is in
    let count : c.len-count.result ≡ length c.args.self.now.marks =
    c.len-count.ensures ∙ c.self.inside.paths.ok.0 ∙ sym (length-map c.self.inside.paths.items (λ (path : PathState). path.missed)) ∙ marks in
    let chosen : option_map (λ p. p.0) c.self.inside.chosen ≡ c.args.self.now.chosen = ap (λ (table : PathTable). table.chosen) c.self.view_is in
    let start : c.path_after-start.result ≡ path_after (length c.args.self.now.marks) c.args.self.now.chosen =
    rw (← count, ← chosen) c.path_after-start.ensures.after in
    let inside : path_after (length c.args.self.now.marks) c.args.self.now.chosen < length c.args.self.now.marks =
    omega (arith, start, count, c.path_after-start.ensures.within) in
    ap (λ (n : ℕ). slice_get c.args.self.now.marks n) (next c) ∙ next-unmarked c.args.self.now.marks c.args.self.now.chosen inside free

pub returns-clause-next_recalled : goal.returns-clause-next_recalled
returns-clause-next_recalled c = λ log recalls. next c ∙ next-recalled c.args.self.now log recalls

pub returns-clause-recalls : goal.returns-clause-recalls
returns-clause-recalls c = rw (← c.self.view_is) (λ log. recalls-chosen _ log _)
