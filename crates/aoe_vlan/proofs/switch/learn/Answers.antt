use Rattle.std.proofs.Common.{◌∙◌, List, None, cond, ap, sym, nat_eq, position, slice_set}
use Rattle.aoe_base.specs.Addresses.{is_individual}
use Rattle.aoe_vlan.specs.Tag.{destination_of}
use Rattle.aoe_base.specs.declared.address.Mac.{Mac}
use Rattle.aoe_vlan.specs.Tables.{Table, found_in, moved}
use Rattle.aoe_vlan.proofs.TableLemmas.{has-first, learnt-found, place-found}
use Rattle.aoe_vlan.proofs.switch.learn.Goals as goal

pub unreachable-requires : goal.unreachable-requires
unreachable-requires c =
    let P = λ (l : List Table). position (λ t. nat_eq t.vid c.args.vid) l in
    has-first c.args.vid c.args.tables.now.items c.requires.table (ap P (sym c.deref.ensures.value) ∙ sym c.index_of.ensures ∙ c.in_default.is)

pub returns-clause-tables : goal.returns-clause-tables
returns-clause-tables c =
    let P = λ (l : List Table). position (λ t. nat_eq t.vid c.args.vid) l in
    let first = ap P (sym c.deref.ensures.value) ∙ sym c.index_of.ensures ∙ c.in-Some.is in
    let r = c.index_mut.result.now in
    let learnt = c.learn.ensures ∙ ap (λ (a : Mac). record { vid = r.vid; stations = moved r.stations a c.args.port }) c.source.ensures in
    learnt-found c.args.vid _ c.args.port c.args.tables.now.items c.in-Some.index r c.learn.new.self first c.index_mut.ensures.value learnt

pub returns-then-not-is_individual-clause-tables : goal.returns-then-not-is_individual-clause-tables
returns-then-not-is_individual-clause-tables c =
    let P = λ (l : List Table). position (λ t. nat_eq t.vid c.args.vid) l in
    let first = ap P (sym c.deref.ensures.value) ∙ sym c.index_of.ensures ∙ c.in-Some.is in
    let r = c.index_mut.result.now in
    let learnt = c.learn.ensures ∙ ap (λ (a : Mac). record { vid = r.vid; stations = moved r.stations a c.args.port }) c.source.ensures in
    learnt-found c.args.vid _ c.args.port c.args.tables.now.items c.in-Some.index r c.learn.new.self first c.index_mut.ensures.value learnt

pub returns-clause-place : goal.returns-clause-place
returns-clause-place c =
    let P = λ (l : List Table). position (λ t. nat_eq t.vid c.args.vid) l in
    let first = ap P (sym c.deref.ensures.value) ∙ sym c.index_of.ensures ∙ c.in-Some.is in
    let place =
    c.find.ensures
    ∙ place-found c.args.vid _ c.args.port c.args.tables.now.items c.in-Some.index c.index_mut.result.now c.learn.new.self first c.index_mut.ensures.value
    c.learn.ensures c.index.result.now c.destination-destination.result c.index.ensures
    ∙ ap (λ (a : Mac). found_in c.args.vid (slice_set c.args.tables.now.items c.in-Some.index c.learn.new.self) a) c.destination-destination.ensures in
    let one = ap is_individual (sym c.destination-destination.ensures) ∙ sym c.is_individual.ensures ∙ c.if-not-is_individual.false in
    place ∙ ap (λ t. cond t (found_in c.args.vid (slice_set c.args.tables.now.items c.in-Some.index c.learn.new.self) (destination_of c.args.frame.now)) None)
    (sym one)
