use Rattle.std.proofs.Common.{◌++◌, ◌∷◌, [], List, ℕ, ap, sym, ◌∙◌, subst, is_some, position, nat_eq}
use Rattle.std.specs.Prelude.{IsSome}
use Rattle.aoe_vlan.specs.Tables.{AreBlank, AreKept, Table, stations_of}
use Rattle.aoe_vlan.proofs.TableLemmas.{blank-more, kept-more, there-some, there-more}
use Rattle.aoe_vlan.proofs.switch.add_table.Goals as goal

pub returns-then-is_some-clause-there : goal.returns-then-is_some-clause-there
returns-then-is_some-clause-there c =
    there-some c.args.vid c.args.tables.now.items
    (ap (λ (l : List Table). is_some (position (λ t. nat_eq t.vid c.args.vid) l)) (sym c.deref.ensures.value) ∙ ap is_some (sym c.index_of.ensures)
    ∙ sym c.is_some.ensures ∙ c.if-is_some.true)

pub returns-clause-blank : goal.returns-clause-blank
returns-clause-blank c =
    subst (λ (l : List Table). AreBlank l) (sym c.in_ok-push.ensures.items)
    (blank-more c.args.tables.now.items c.in_ok-new.field-0 c.requires.blank (ap (λ (t : Table). t.stations) c.in_ok-new.ensures))

pub returns-clause-there : goal.returns-clause-there
returns-clause-there c =
    let t = c.in_ok-new.field-0 in
    let there = subst (λ (vid : ℕ). IsSome (stations_of vid (c.args.tables.now.items ++ t ∷ []))) (ap (λ (u : Table). u.vid) c.in_ok-new.ensures)
    (there-more c.args.tables.now.items t) in
    subst (λ (l : List Table). IsSome (stations_of c.args.vid l)) (sym c.in_ok-push.ensures.items) there

pub returns-clause-kept : goal.returns-clause-kept
returns-clause-kept c =
    subst (λ (l : List Table). AreKept c.args.tables.now.items l) (sym c.in_ok-push.ensures.items) (kept-more c.args.tables.now.items c.in_ok-new.field-0)
