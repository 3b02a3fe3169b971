use Rattle.std.proofs.Common.{◌∙◌, sym}
use Rattle.aoe_keep.proofs.Reading.{config_read, decode_otherwise, decode_invalid, decode_valid}
use Rattle.aoe_keep.proofs.body.read_by.Goals as goal

pub returns-then-not-starts_with : goal.returns-then-not-starts_with
returns-then-not-starts_with c = decode_otherwise c.args.format c.args.body.now (sym c.starts_with.ensures.value ∙ c.if-not-starts_with.true)

pub returns-in_err-lists : goal.returns-in_err-lists
returns-in_err-lists c = c.from_residual.ensures
    ∙ decode_invalid c.args.format c.args.body.now _ c.from-config.result c.from-masks.result c.from-reserves.result c.mark_of-mark.result
    (c.from-config.ensures ∙ c.from_be_bytes.ensures ∙ config_read c.args.body.now c.requires.len) c.from-masks.ensures c.from-reserves.ensures
    c.mark_of-mark.ensures c.behind_numbers-rest.ensures.value c.in_err-lists.ensures

pub returns : goal.returns
returns c = decode_valid c.args.format c.args.body.now _ c.from-config.result c.from-masks.result c.from-reserves.result c.mark_of-mark.result
    (c.from-config.ensures ∙ c.from_be_bytes.ensures ∙ config_read c.args.body.now c.requires.len) c.from-masks.ensures c.from-reserves.ensures
    c.mark_of-mark.ensures c.behind_numbers-rest.ensures.value
    c.in_ok-lists.lists (sym c.starts_with.ensures.value ∙ c.if-not-starts_with.false) c.in_ok-lists.ensures.0 c.in_ok-lists.ensures.1
