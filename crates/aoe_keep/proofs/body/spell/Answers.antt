use Rattle.std.proofs.Common.{◌∙◌, ap, refl, rules}
use Rattle.aoe_keep.specs.Body.{decode, format_2}
use Rattle.aoe_keep.proofs.Spelling.{spelled, decodes}
use Rattle.aoe_keep.proofs.body.spell.Goals as goal

pub returns-clause-items : goal.returns-clause-items
returns-clause-items c = spelled format_2 c.args.turn c.args.lists.now c.append_head.new.body.items c.append.new.body.items c.append_addresses.new.body.items
    c.append_addresses-2.new.body.items c.append_zeros.new.body.items
    c.append_head.ensures.items (search rules) (search rules) (search rules) c.append_zeros.ensures.items

pub returns-clause-read : goal.returns-clause-read
returns-clause-read c =
    let spelt = spelled format_2 c.args.turn c.args.lists.now c.append_head.new.body.items c.append.new.body.items c.append_addresses.new.body.items
    c.append_addresses-2.new.body.items c.append_zeros.new.body.items
    c.append_head.ensures.items (search rules) (search rules) (search rules) c.append_zeros.ensures.items in
    ap decode spelt ∙ decodes c.args.turn c.args.lists.now (record {
      known_turn = c.requires;
      config = c.append_head.ensures.config;
      masks = c.append_head.ensures.masks;
      reserves = c.append_head.ensures.reserves;
      six_masks = search rules;
      six_reserves = search rules;
      unique_masks = search rules;
      unique_reserves = search rules;
      mark = λ e. refl;
    })
