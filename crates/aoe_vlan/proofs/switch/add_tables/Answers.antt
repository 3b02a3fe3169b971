use Rattle.std.proofs.Common.{◌∙◌, ℕ, List, ap, sym, subst, refl, nat_eq, get_or}
use Rattle.std.specs.Prelude.{IsSome}
use Rattle.std.specs.List.{list_any}
use Rattle.std.proofs.lemmas.Bool.{eqb-true}
use Rattle.aoe_vlan.specs.Tables.{stations_of}
use Rattle.aoe_vlan.specs.Tag.{carries}
use Rattle.aoe_vlan.proofs.TableLemmas.{covers-all, covers-more, covers-none}
use Rattle.aoe_vlan.proofs.switch.add_tables.Goals as goal

pub numbers-init : goal.numbers-init
numbers-init c = (c.requires.blank, λ vid some. some, covers-none (λ vid n. nat_eq n vid) c.as_slice-vid-items.result.now c.args.tables.now.items)

pub numbers-preserved : goal.numbers-preserved
numbers-preserved c =
    let added = c.in_ok-add_table-in-Trunk.ensures in
    let now = c.add_table-in-numbers.new.tables.items in
    let number = get_or c.as_slice-vid-items.result.now c.numbers.vid-index 0 in (
      added.blank,
      λ vid some. added.kept vid (c.numbers.invariant.1 vid some),
      covers-more (λ vid n. nat_eq n vid) c.as_slice-vid-items.result.now c.numbers.vid-index number 0 c.numbers.tables.items now c.numbers-test.true refl
          added.kept
          (λ vid e. subst (λ v. IsSome (stations_of v now)) (eqb-true number vid e) added.there) c.numbers.invariant.2,
    )

pub returns-after-numbers-clause-there : goal.returns-after-numbers-clause-there
returns-after-numbers-clause-there c = λ vid e.
    covers-all (λ v n. nat_eq n v) c.as_slice-vid-items.result.now c.numbers.vid-index c.numbers.tables.items c.numbers-test.false c.numbers.invariant.2 vid
    (ap (λ (l : List ℕ). list_any (λ n. nat_eq n vid) l) c.as_slice-vid-items.ensures.value ∙ ap (λ k. carries vid k) (sym c.in-Trunk.is) ∙ e)
