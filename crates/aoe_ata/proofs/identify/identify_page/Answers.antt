use Rattle.std.proofs.Common.{rules}
use Rattle.aoe_ata.proofs.PageLemmas.{page-is, declared-page}
use Rattle.aoe_ata.proofs.identify.identify_page.Goals as goal

pub returns-clause-page : goal.returns-clause-page
returns-clause-page c =
    page-is c.args.total c.args.serial.now c.put_text.new.page c.put_text-2.new.page c.put_text-3.new.page c.put.new.page c.put-2.new.page c.put-3.new.page
    c.put-4.new.page c.put-5.new.page
    c.put_text.ensures c.put_text-2.ensures c.put_text-3.ensures (search rules) (search rules) (search rules) (search rules) (search rules)

pub returns-clause-declares : goal.returns-clause-declares
returns-clause-declares c = rw (returns-clause-page c) (declared-page c.args.total c.args.serial.now c.requires (search rules))
