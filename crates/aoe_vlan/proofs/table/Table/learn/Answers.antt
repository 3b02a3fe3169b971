use Rattle.std.proofs.Common.{◌≡◌, ◌∙◌, false, ap, sym, arith, is_some}
use Rattle.std.specs.Map.{keys_of}
use Rattle.std.specs.List.{list_any}
use Rattle.std.proofs.lemmas.Map.Made.{is_some-lookup}
use Rattle.indexmap.specs.Layout.{length-set_value_at}
use Rattle.aoe_base.specs.Addresses.{same_address}
use Rattle.aoe_vlan.specs.Tables.{Table, moved}
use Rattle.aoe_vlan.proofs.TableLemmas.{moved-found, moved-full}
use Rattle.aoe_vlan.proofs.table.Table.learn.Goals as goal

pub invariant_of-self : goal.invariant_of-self
invariant_of-self c = omega (arith, c.self.invariant, length-set_value_at c.self.inside.stations.entries c.in-Some.index c.args.port)

pub returns-in-Some : goal.returns-in-Some
returns-in-Some c =
    let t = c.self.inside in
    (λ i. record {
      vid = t.vid;
      stations = moved-found t.stations.entries c.args.address c.args.port c.in-Some.index
          (sym c.get_index_of.ensures.index ∙ c.in-Some.is) i;
    })
    ∙ ap (λ (u : Table). record { vid = u.vid; stations = moved u.stations c.args.address c.args.port }) c.self.view_is

pub returns-else-len-lt-MAX_STATIONS : goal.returns-else-len-lt-MAX_STATIONS
returns-else-len-lt-MAX_STATIONS c =
    let es = c.self.inside.stations.entries in
    let absent : list_any (same_address c.args.address) (keys_of es) ≡ false =
    sym (is_some-lookup (same_address c.args.address) es) ∙ sym c.get_index_of.ensures.found ∙ ap is_some c.in_default.is in
    sym c.self.view_is
    ∙ (λ i. record {
      vid = c.self.inside.vid;
      stations = moved-full es c.args.address c.args.port (omega (arith, c.if-len-lt-MAX_STATIONS.false, c.len.ensures.len)) absent i;
    })
    ∙ ap (λ (u : Table). record { vid = u.vid; stations = moved u.stations c.args.address c.args.port }) c.self.view_is
