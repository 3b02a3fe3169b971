use Rattle.std.proofs.Common.{◌≡◌, ◌∙◌, ℕ, List, None, ap, sym, subst}
use Rattle.std.specs.Prelude.{OnErr, OnOk}
use Rattle.aoe_io.specs.Bytes.{Took, TookSome}
use Rattle.aoe_io.proofs.BytesLemmas.{Took-nothing}
use Rattle.aoe_vlan.specs.Switched.{passing, vlan_at}
use Rattle.aoe_vlan.proofs.PieceLemmas.{each-given, gives-nothing}
use Rattle.aoe_vlan.proofs.over_stream.give.Goals as goal

pub returns-in_default-clause-all : goal.returns-in_default-clause-all
returns-in_default-clause-all g c = λ before learnt.
    let ports = c.args.switch.now.ports in
    let frame = c.args.frame.now in
    let P : List ℕ → Type 0 = λ xs. Took (g.K.Sink.held c.args.sink.now) (g.K.Sink.held c.args.sink.now) xs in
    let at : vlan_at ports (passing c.args.port frame) ≡ None =
    ap (λ (n : ℕ). vlan_at ports (passing n frame)) (sym c.from.ensures) ∙ sym c.take-going.ensures.vid ∙ c.in_default.is in
    subst P (sym (gives-nothing ports before (passing c.args.port frame) at)) (Took-nothing (g.K.Sink.held c.args.sink.now))

pub returns-clause-all : goal.returns-clause-all
returns-clause-all g c = λ before learnt.
    let P : List ℕ → Type 0 = λ xs. OnOk c.give_each.result (Took (g.K.Sink.held c.args.sink.now) (g.K.Sink.held c.give_each.new.sink) xs) in
    let bytes = each-given c.args.switch.now.ports c.take-going.new.self.ports before c.args.port c.from.result c.in-Some.vid c.take-going.result.vid
    c.args.frame.now c.as_slice.result.now
    c.take-going.result.ports.items c.take-going.ensures.same_ports c.from.ensures c.take-going.ensures.vid c.in-Some.is c.as_slice.ensures.value
    (c.take-going.ensures.ports before learnt) in
    subst P bytes c.give_each.ensures.all

pub returns-clause-some : goal.returns-clause-some
returns-clause-some g c = λ before learnt.
    let P : List ℕ → Type 0 = λ xs. OnErr c.give_each.result (TookSome (g.K.Sink.held c.args.sink.now) (g.K.Sink.held c.give_each.new.sink) xs) in
    let bytes = each-given c.args.switch.now.ports c.take-going.new.self.ports before c.args.port c.from.result c.in-Some.vid c.take-going.result.vid
    c.args.frame.now c.as_slice.result.now
    c.take-going.result.ports.items c.take-going.ensures.same_ports c.from.ensures c.take-going.ensures.vid c.in-Some.is c.as_slice.ensures.value
    (c.take-going.ensures.ports before learnt) in
    subst P bytes c.give_each.ensures.some
