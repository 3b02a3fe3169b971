use Rattle.std.proofs.Common.{option_map, sym, ap, ◌∙◌}
use Rattle.aoe_cache.proofs.Table.{found_held, found_number, not_held}
use Rattle.aoe_cache.proofs.buffer.Buffer.get.Goals as goal

pub returns-in_err-index-clause-held : goal.returns-in_err-index-clause-held
returns-in_err-index-clause-held c =
    ap (option_map (λ p. p.now.bytes)) c.from_residual.ensures ∙ sym (not_held c.args.self.now c.requires c.args.sector (sym c.in_err-index.ensures.found))

pub returns-clause-held : goal.returns-clause-held
returns-clause-held c = sym (found_held c.args.self.now c.requires c.args.sector c.in_ok-index.index c.index.result.now
    (sym c.in_ok-index.ensures.index) c.index.ensures)

pub returns-clause-number : goal.returns-clause-number
returns-clause-number c = found_number c.args.self.now c.requires c.args.sector c.in_ok-index.index c.index.result.now
    (sym c.in_ok-index.ensures.index) c.index.ensures
