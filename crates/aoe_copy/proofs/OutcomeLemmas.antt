-- Outcomes are taken in the order in which they came, up to the first that ends the copy.
use Rattle.std.proofs.Common.{ℕ, ◌≡◌, true, List, [], ◌∷◌, ◌++◌, reverse, Some, None, refl, ap, ◌∙◌, arith, append_assoc, subst, ◌≤◌}
use Rattle.std.specs.Prelude.{All, Contains}
use Rattle.std.proofs.lemmas.List.{reverse-append}
use Rattle.std.proofs.lemmas.List.Elements.{All-cons, Contains-append_right}
use Rattle.aoe_initiator.specs.declared.outcome.Done.{Done}
use Rattle.aoe_initiator.specs.declared.outcome.Outcome.{Outcome}
use Rattle.aoe_initiator.specs.declared.outcome.Outcome.TheVariants as outcome
use Rattle.aoe_block.specs.Steps.{is_success, IsWell}
use Rattle.aoe_tools.specs.declared.end.ToolRefusal.{ToolRefusal}
use Rattle.aoe_copy.specs.Copying.{AreUpTo, InOrder}
use Rattle.aoe_copy.specs.Ending.{failure}
use Rattle.aoe_copy.specs.Steps.{Fails}
use Rattle.aoe_copy.specs.Window.{read_done}

-- an outcome that doesn't end a copy is a success
pub is-well : (turns : ℕ) (o : Outcome) → failure turns o ≡ None → is_success o ≡ true
is-well turns (outcome.Read bytes) e = refl
is-well turns outcome.Written e = refl
is-well turns outcome.Flushed e = refl
is-well turns (outcome.Told args) e = refl
is-well turns (outcome.AtaError status error) e = absurd cc
is-well turns (outcome.AoeError error) e = absurd cc
is-well turns (outcome.GaveUp first now) e = absurd cc

module _ {waiting rest outs : List Done} {d : Done} (o : InOrder waiting outs) (next : waiting ≡ d ∷ rest) where
  laid : outs ≡ reverse rest ++ (d ∷ o.taken)
  laid =
      o.order ∙ ap (λ (l : List Done). reverse l ++ o.taken) next ∙ ap (λ (l : List Done). l ++ o.taken) (reverse-append (d ∷ []) rest)
      ∙ append_assoc (reverse rest) (d ∷ []) o.taken

  -- the next outcome is one of them
  pub next-there : Contains outs d
  next-there = rw laid (Contains-append_right (reverse rest) (d ∷ o.taken) d (0, omega arith, refl))

  -- sectors came only of commands with a ticket up to one
  pub most-of : (last : ℕ) → AreUpTo last outs → (bytes : List ℕ) → d ≡ read_done d.ticket.0 bytes → d.ticket.0 ≤ last
  most-of last most bytes is = most d.ticket.0 bytes (subst (λ (e : Done). Contains outs e) is next-there)

  -- it doesn't end the copy
  pub order-next : (turns : ℕ) → failure turns d.outcome ≡ None → InOrder rest outs
  order-next turns well = record { taken = d ∷ o.taken; order = laid; well = All-cons IsWell d o.taken (is-well turns d.outcome well) o.well }

  -- it does
  pub fails-next : (turns : ℕ) (refusal : ToolRefusal) → failure turns d.outcome ≡ Some refusal → Fails turns outs refusal
  fails-next turns refusal is = record { later = reverse rest; first = d; earlier = o.taken; order = laid; well = o.well; refuses = is }

-- none is left
pub order-over : {waiting outs : List Done} → InOrder waiting outs → waiting ≡ [] → All IsWell outs
order-over {waiting} {outs} o none =
    let is : outs ≡ o.taken = o.order ∙ ap (λ (l : List Done). reverse l ++ o.taken) none in rw is o.well
