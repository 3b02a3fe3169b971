use Rattle.std.proofs.Common.{refl}
use Rattle.aoe_audit.proofs.AuditLemmas.{heard-start}
use Rattle.aoe_audit.proofs.audit.Audit.new.Goals as goal

pub returns-clause-heard : goal.returns-clause-heard
returns-clause-heard c = heard-start c.args.lists.now _ refl c.new-2.ensures.items c.new.ensures.lists c.new.ensures.known refl refl refl
