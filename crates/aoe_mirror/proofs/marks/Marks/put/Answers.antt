use Rattle.std.proofs.Common.{◌≡◌, ◌<◌, ◌/◌, ◌∙◌, Bool, List, false, length, set, refl, ap, arith}
use Rattle.std.proofs.lemmas.List.{get_or_read}
use Rattle.std.specs.Int.{bit_at}
use Rattle.aoe_mirror.proofs.Bits.{length-bits_of, set_fits, set_is, set_marks, set_room}
use Rattle.aoe_mirror.proofs.marks.Marks.put.Goals as goal

pub index-requires : goal.index-requires
index-requires c =
    omega (arith, length-bits_of c.self.inside.words.items c.self.inside.len, ap length c.self.view_is, c.self.invariant.room, c.self.inside.words.ok.0)

pub index_mut-requires : goal.index_mut-requires
index_mut-requires c =
    omega (arith, length-bits_of c.self.inside.words.items c.self.inside.len, ap length c.self.view_is, c.self.invariant.room, c.self.inside.words.ok.0)

pub overflow_add-self : goal.overflow_add-self
overflow_add-self c =
    let m = c.self.inside in
    let within : c.args.s < m.len = omega (arith, length-bits_of m.words.items m.len, ap length c.self.view_is) in
    let read = get_or_read m.words.items (c.args.s / 64) _ (omega (arith, c.self.invariant.room)) c.index.ensures 0 in
    let fits = set_fits m.words.items m.len m.count m.lowest c.args.s c.with_bit.result c.args.value c.self.invariant within c.with_bit.ensures.same
    (λ i lt other. c.with_bit.ensures.others i lt other ∙ ap (λ x. bit_at x i) read) in
    omega (arith, c.from.ensures, fits)

pub overflow_sub-self : goal.overflow_sub-self
overflow_sub-self c =
    let m = c.self.inside in
    let within : c.args.s < m.len = omega (arith, length-bits_of m.words.items m.len, ap length c.self.view_is) in
    let read = get_or_read m.words.items (c.args.s / 64) _ (omega (arith, c.self.invariant.room)) c.index.ensures 0 in
    let room = set_room m.words.items m.len m.count m.lowest c.args.s c.with_bit.result c.args.value c.self.invariant within c.with_bit.ensures.same
    (λ i lt other. c.with_bit.ensures.others i lt other ∙ ap (λ x. bit_at x i) read) c.contains-was.result
    (rw (← c.self.view_is) at c.contains-was.ensures) in
    omega (arith, c.from.ensures, c.from-2.ensures, room)

pub invariant_of-self : goal.invariant_of-self
invariant_of-self c =
    let m = c.self.inside in
    let within : c.args.s < m.len = omega (arith, length-bits_of m.words.items m.len, ap length c.self.view_is) in
    let read = get_or_read m.words.items (c.args.s / 64) _ (omega (arith, c.self.invariant.room)) c.index.ensures 0 in
    set_marks m.words.items m.len m.count m.lowest c.args.s c.with_bit.result c.args.value c.self.invariant within c.with_bit.ensures.same
    (λ i lt other. c.with_bit.ensures.others i lt other ∙ ap (λ x. bit_at x i) read)
    c.contains-was.result _ _ (rw (← c.self.view_is) at c.contains-was.ensures) (rw (← c.from.ensures, ← c.from-2.ensures) refl)
    (omega (arith, c.min-self-inside.ensures)) (λ e. omega (arith, c.min-self-inside.ensures))

pub invariant_of-self-else-value : goal.invariant_of-self-else-value
invariant_of-self-else-value c =
    let m = c.self.inside in
    let within : c.args.s < m.len = omega (arith, length-bits_of m.words.items m.len, ap length c.self.view_is) in
    let read = get_or_read m.words.items (c.args.s / 64) _ (omega (arith, c.self.invariant.room)) c.index.ensures 0 in
    set_marks m.words.items m.len m.count m.lowest c.args.s c.with_bit.result c.args.value c.self.invariant within c.with_bit.ensures.same
    (λ i lt other. c.with_bit.ensures.others i lt other ∙ ap (λ x. bit_at x i) read)
    c.contains-was.result _ _ (rw (← c.self.view_is) at c.contains-was.ensures) (rw (← c.from.ensures, ← c.from-2.ensures) refl) (omega arith)
    (λ on. let off : c.args.value ≡ false = c.if-value.false in cc)

pub returns-then-value : goal.returns-then-value
returns-then-value c =
    let m = c.self.inside in
    let within : c.args.s < m.len = omega (arith, length-bits_of m.words.items m.len, ap length c.self.view_is) in
    let read = get_or_read m.words.items (c.args.s / 64) _ (omega (arith, c.self.invariant.room)) c.index.ensures 0 in
    set_is m.words.items m.len m.count m.lowest c.args.s c.with_bit.result c.args.value c.self.invariant within c.with_bit.ensures.same
    (λ i lt other. c.with_bit.ensures.others i lt other ∙ ap (λ x. bit_at x i) read)
    ∙ ap (λ (l : List Bool). set l c.args.s c.args.value) c.self.view_is

pub returns-else-value : goal.returns-else-value
returns-else-value c =
    let m = c.self.inside in
    let within : c.args.s < m.len = omega (arith, length-bits_of m.words.items m.len, ap length c.self.view_is) in
    let read = get_or_read m.words.items (c.args.s / 64) _ (omega (arith, c.self.invariant.room)) c.index.ensures 0 in
    set_is m.words.items m.len m.count m.lowest c.args.s c.with_bit.result c.args.value c.self.invariant within c.with_bit.ensures.same
    (λ i lt other. c.with_bit.ensures.others i lt other ∙ ap (λ x. bit_at x i) read)
    ∙ ap (λ (l : List Bool). set l c.args.s c.args.value) c.self.view_is
