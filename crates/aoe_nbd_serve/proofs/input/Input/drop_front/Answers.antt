use Rattle.std.proofs.Common.{◌≡◌, ℕ, ◌+◌, List, drop, take, sym, ap, ◌∙◌}
use Rattle.std.specs.Prelude.{slice_range}
use Rattle.std.proofs.lemmas.List.{drop-drop}
use Rattle.std.proofs.lemmas.Slice.{between_is}
use Rattle.aoe_nbd_serve.proofs.input.Input.drop_front.Goals as goal

further : (xs : List ℕ) (b e n : ℕ) → slice_range xs (b + n) e ≡ drop n (slice_range xs b e)
further xs b e n = between_is xs (b + n) e ∙ sym (drop-drop n b (take e xs)) ∙ ap (drop n) (sym (between_is xs b e))

pub returns : goal.returns
returns c = further c.self.inside.bytes.items c.self.inside.begin c.self.inside.end c.args.len ∙ ap (drop c.args.len) c.self.view_is
