use Rattle.std.proofs.Common.{rules}
use Rattle.std.proofs.lemmas.Fn.{filter_same}
use Rattle.aoe_hold.proofs.PastLemmas.{live-all}
use Rattle.aoe_hold.proofs.KeyLemmas.{left-same}
use Rattle.aoe_hold.proofs.held.HeldCommands.forget.Goals as goal

pub returns-clause-live : goal.returns-clause-live
returns-clause-live g c = rw (← c.self.view_is) (filter_same _ _ _ (λ x b f' called. search rules) _ _ c.retain.ensures.filtered)

pub returns-then-from-past_from-clause-live : goal.returns-then-from-past_from-clause-live
returns-then-from-past_from-clause-live g c = live-all c.args.life.0 c.args.past_from c.args.now.0 c.args.self.now.items c.requires (search rules)

pub returns-clause-keys : goal.returns-clause-keys
returns-clause-keys g c = rw (← c.self.view_is, ← c.deref.ensures.value) c.drop_past.ensures.kept

pub returns-clause-left : goal.returns-clause-left
returns-clause-left g c = rw (← c.self.view_is, ← c.deref.ensures.value) c.drop_past.ensures.left

pub returns-then-from-past_from-clause-left : goal.returns-then-from-past_from-clause-left
returns-then-from-past_from-clause-left g c = left-same c.args.life.0 c.args.now.0 c.args.self.now.items c.args.self.now.keys
    (c.requires c.args.now.0 (search rules))
