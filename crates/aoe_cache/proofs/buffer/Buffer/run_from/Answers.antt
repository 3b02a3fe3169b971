use Rattle.std.proofs.Common.{◌≡◌, ◌<◌, ◌+◌, ◌-◌, ◌^◌, List, length, drop, get_or, arith, sym, ap, ◌∙◌, length-drop}
use Rattle.std.proofs.lemmas.List.{get_or-drop, length-take-le}
use Rattle.aoe_cache.specs.declared.place.HeldSector.{HeldSector}
use Rattle.aoe_cache.specs.Held.{placed}
use Rattle.aoe_cache.specs.Down.{first_of}
use Rattle.aoe_cache.proofs.Ascending.{below_at}
use Rattle.aoe_cache.proofs.Places.{used_element, used_from, first_of-drop, adjacent_step}
use Rattle.aoe_cache.proofs.buffer.Buffer.run_from.Goals as goal

pub overflow_add-first : goal.overflow_add-first
overflow_add-first c =
    let hs : List HeldSector = placed c.args.self.now in
    let x : HeldSector = c.index.result.now in
    let len = length-take-le (length c.args.self.now.numbers.keys) c.args.self.now.places.items c.requires.order.has.used in
    let is : x ≡ get_or hs c.args.from x =
    used_element c.args.self.now.places.items (length c.args.self.now.numbers.keys) c.args.from x c.requires.some c.index.ensures in
    let below : (get_or (drop c.args.from hs) 0 x).at < 2 ^ 40 =
    below_at (2 ^ 40) (drop c.args.from hs) 0 x c.requires.order.below (omega (arith, len, length-drop c.args.from hs, c.requires.some)) in
    let here : c.args.from + 0 ≡ c.args.from = omega arith in
    let first : (get_or (drop c.args.from hs) 0 x) ≡ x = get_or-drop c.args.from hs 0 x ∙ rw here (sym is) in
    omega (arith, below, ap (λ (h : HeldSector). h.at) first, c.at-first.ensures, c.adjacent.invariant.most)

pub adjacent-preserved : goal.adjacent-preserved
adjacent-preserved c =
    let hs : List HeldSector = drop c.args.from (placed c.args.self.now) in
    let x : HeldSector = c.index-then-from-count.result.now in
    let len = length-take-le (length c.args.self.now.numbers.keys) c.args.self.now.places.items c.requires.order.has.used in
    let is : x ≡ get_or hs c.adjacent.count x = used_from c.args.self.now.places.items (length c.args.self.now.numbers.keys) c.args.from c.adjacent.count x
    (omega (arith, c.len-held.ensures.len, c.if-from-count.true)) c.index-then-from-count.ensures in
    record {
      some = omega arith;
      most = omega arith;
      there = omega arith;
      adjacent = adjacent_step c.at-first.result c.adjacent.count hs x
          (omega (arith, len, length-drop c.args.from (placed c.args.self.now), c.if-from-count.true)) is c.adjacent.invariant.adjacent
          (sym c.at.ensures ∙ c.if-at-first.true);
    }

pub returns-else-at-first : goal.returns-else-at-first
returns-else-at-first c =
    let held : List HeldSector = placed c.args.self.now in
    let hs : List HeldSector = drop c.args.from held in
    let x : HeldSector = c.index.result.now in
    let y : HeldSector = c.index-then-from-count.result.now in
    let len : length held ≡ (length c.args.self.now.numbers.keys) =
    length-take-le (length c.args.self.now.numbers.keys) c.args.self.now.places.items c.requires.order.has.used in
    let lh : length hs ≡ length held - c.args.from = length-drop c.args.from held in
    let is : x ≡ get_or held c.args.from x =
    used_element c.args.self.now.places.items (length c.args.self.now.numbers.keys) c.args.from x c.requires.some c.index.ensures in
    let first : first_of hs ≡ c.at-first.result =
    first_of-drop held c.args.from x (omega (arith, len, c.requires.some)) ∙ (λ i. (sym is i).at) ∙ sym c.at-first.ensures in
    let other : y ≡ get_or hs c.adjacent.count y = used_from c.args.self.now.places.items (length c.args.self.now.numbers.keys) c.args.from c.adjacent.count y
    (omega (arith, c.len-held.ensures.len, c.if-from-count.true)) c.index-then-from-count.ensures in
    let next : first_of (drop c.adjacent.count hs) ≡ c.at.result =
    first_of-drop hs c.adjacent.count y (omega (arith, len, lh, c.if-from-count.true)) ∙ (λ i. (sym other i).at) ∙ sym c.at.ensures in
    record {
      some = c.adjacent.invariant.some;
      most = c.adjacent.invariant.most;
      there = omega (arith, len, lh, c.adjacent.invariant.there);
      adjacent = rw first c.adjacent.invariant.adjacent;
      longest = λ _ _ e. c.if-at-first.false (sym next ∙ e ∙ (λ i. first i + c.adjacent.count));
    }
