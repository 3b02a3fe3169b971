use Rattle.std.proofs.Common.{◌≡◌, ◌∙◌, ◌==◌, refl, ℕ, List, rules, ap, sym, ◌+◌, ◌*◌}
use Rattle.std.specs.Simd.{first_chunks}
use Rattle.std.proofs.lemmas.List.{take_rest}
use Rattle.aoe_lists.specs.Reserves.{addresses}
use Rattle.aoe_lists.specs.Settings.{Settings}
use Rattle.aoe_keep.specs.Body.{fields_of}
use Rattle.aoe_keep.proofs.Reading.{no_sizes, no_masks, no_reserves, no_zeros, all_fields, all_valid}
use Rattle.aoe_keep.proofs.body.read_fields.Goals as goal

pub returns-then-not-are_sizes : goal.returns-then-not-are_sizes
returns-then-not-are_sizes c = no_sizes _ _ _ _ _ _ _ (search rules)

pub returns-in_err-masks : goal.returns-in_err-masks
returns-in_err-masks c = rw c.from_residual.ensures
    (no_masks c.args.format c.args.turn c.args.config c.args.masks c.args.reserves c.args.mark c.args.rest.now _
    (take_rest c.args.rest.now c.args.config) c.in_err-masks.ensures)

pub returns-in_err-reserves : goal.returns-in_err-reserves
returns-in_err-reserves c = rw c.from_residual-in_err-reserves.ensures
    (no_reserves c.args.format c.args.turn c.args.config c.args.masks c.args.reserves c.args.mark c.args.rest.now _
    (take_rest c.args.rest.now (c.args.config + 6 * c.args.masks)) c.in_err-reserves.ensures)

pub returns-then-not-are_zeros : goal.returns-then-not-are_zeros
returns-then-not-are_zeros c = no_zeros c.args.format c.args.turn c.args.config c.args.masks c.args.reserves c.args.mark c.args.rest.now _
    (take_rest c.args.rest.now (c.args.config + 6 * c.args.masks + 6 * c.args.reserves)) (sym c.are_zeros.ensures ∙ c.if-not-are_zeros.true)

pub returns : goal.returns
returns c =
    let s : Settings =
    record {
      config = c.try_extend_from_slice.new.self.items;
      masks = c.in_ok-masks.masks.items;
      reserves = c.in_ok-reserves.reserves.items;
      read_only = c.args.mark == 1;
    } in
    let is : s ≡ fields_of c.args.config c.args.masks c.args.reserves c.args.mark c.args.rest.now =
    all_fields c.args.format c.args.turn c.args.config c.args.masks c.args.reserves c.args.mark c.args.rest.now s (search rules)
    (c.in_ok-masks.ensures.0 ∙ ap (λ (l : List ℕ). addresses (first_chunks 6 c.args.masks l)) (take_rest c.args.rest.now c.args.config))
    (c.in_ok-reserves.ensures.0 ∙ ap (λ (l : List ℕ). addresses (first_chunks 6 c.args.reserves l))
    (take_rest c.args.rest.now (c.args.config + 6 * c.args.masks))) refl in (
      all_valid c.args.format c.args.turn c.args.config c.args.masks c.args.reserves c.args.mark c.args.rest.now s _ is
          (take_rest c.args.rest.now (c.args.config + 6 * c.args.masks + 6 * c.args.reserves)) (search rules) c.in_ok-masks.ensures.1 c.in_ok-reserves.ensures.1
          (sym c.are_zeros.ensures ∙ c.if-not-are_zeros.false),
      is,
    )
