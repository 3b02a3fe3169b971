use Rattle.std.proofs.Common.{◌≡◌, ◌/◌, List, ℕ, true, false, ap, refl, subst, ◌∙◌, arith, length, drop}
use Rattle.aoe_ata.specs.Decision.{written}
use Rattle.aoe_disk.specs.State.{BothTell}
use Rattle.aoe_store.specs.Under.{SpendsUnder}
use Rattle.aoe_store.proofs.Lasting.{stored_call}
use Rattle.aoe_target.proofs.ReplyLemmas.{failed_leaves, stored_firm, stored_leaves}
use Rattle.aoe_target.proofs.ata.put.Goals as goal

pub returns-in-Ok-clause-leaves : goal.returns-in-Ok-clause-leaves
returns-in-Ok-clause-leaves g c =
    stored_leaves c.args.span _ c.requires.range.some (omega (arith, c.requires.range.end, c.requires.mounted.size)) _ _ g.S.Store.lasts
    c.put_data.result.now (written (drop 24 c.args.frame.now) c.args.span) tt (g.S.Store.state c.args.store.now) (g.S.Store.state c.write.new.self) refl
    (c.put_data.ensures.data ∙ ap (λ (l : List ℕ). written l c.args.span) c.args_of.ensures) c.put_data.ensures.len c.in-Ok.ensures.stores

pub returns-in-Err-clause-leaves : goal.returns-in-Err-clause-leaves
returns-in-Err-clause-leaves g c =
    failed_leaves c.args.span _ c.requires.range.some (omega (arith, c.requires.range.end, c.requires.mounted.size)) _ _ g.S.Store.lasts
    c.put_data.result.now _ (g.S.Store.state c.args.store.now) (g.S.Store.state c.write.new.self) refl c.put_data.ensures.len c.in-Err.ensures.stores

pub returns-in-Ok-clause-firm : goal.returns-in-Ok-clause-firm
returns-in-Ok-clause-firm g c =
    stored_firm _ _ g.S.Store.lasts c.args.span c.put_data.result.now tt (g.S.Store.state c.args.store.now) (g.S.Store.state c.write.new.self)
    c.put_data.ensures.len c.in-Ok.ensures.stores

pub returns-in-Ok-clause-call : goal.returns-in-Ok-clause-call
returns-in-Ok-clause-call g c = stored_call g.S.Store.lasts c.args.span.at c.put_data.result.now _ _ _ c.in-Ok.ensures.stores

pub returns-in-Err-clause-call : goal.returns-in-Err-clause-call
returns-in-Err-clause-call g c = stored_call g.S.Store.lasts c.args.span.at c.put_data.result.now _ _ _ c.in-Err.ensures.stores

pub returns-in-Ok-clause-under : goal.returns-in-Ok-clause-under
returns-in-Ok-clause-under g c =
    let count : length c.put_data.result.now / 512 ≡ c.args.span.count = omega (arith, c.put_data.ensures.len) in
    subst (λ (n : ℕ). BothTell (SpendsUnder n false) (g.S.Store.under c.args.store.now) (g.S.Store.under c.write.new.self)) count c.in-Ok.ensures.under

pub returns-in-Err-clause-under : goal.returns-in-Err-clause-under
returns-in-Err-clause-under g c =
    let count : length c.put_data.result.now / 512 ≡ c.args.span.count = omega (arith, c.put_data.ensures.len) in
    subst (λ (n : ℕ). BothTell (SpendsUnder n true) (g.S.Store.under c.args.store.now) (g.S.Store.under c.write.new.self)) count c.in-Err.ensures.under
