use Rattle.std.proofs.Common.{◌≡◌, ◌≤◌, ◌+◌, ◌-◌, ◌++◌, ℕ, List, refl, sym, ap, ◌∙◌, arith, [], length, length-drop, take, drop, append-nil}
use borrow.Rule.Slice.PartMut.{post_of}
use Rattle.std.specs.Prelude.{slice_range}
use Rattle.std.specs.Vec.{with_items}
use Rattle.std.proofs.lemmas.List.{length-take-le, with_items_is}
use Rattle.aoe_nbd_serve.proofs.InputLemmas.{read-more, read-none, room-stays}
use Rattle.aoe_nbd_serve.proofs.input.Input.read_from.Goals as goal

pub returns-in-Bytes-clause-reads : goal.returns-in-Bytes-clause-reads
returns-in-Bytes-clause-reads g c =
    let xs = c.as_mut_slice.result.now in
    let b = c.self.inside.begin in
    let e = c.self.inside.end in
    let rest = post_of e (length xs - e) xs in
    let same : slice_range xs b e ≡ c.args.self.now = ap (λ (xs : List ℕ). slice_range xs b e) c.as_mut_slice.ensures.value ∙ c.self.view_is ∙ c.move_front.ensures in
    let ends : e ≤ length xs = omega (arith, c.self.invariant.1, ap length c.as_mut_slice.ensures.value) in
    let long : length c.read.new.out ≡ length xs - e = omega (arith, c.read.auto.out, ends, length-take-le (length xs - e) (drop e xs) (omega (arith, length-drop e xs)), length-drop e xs) in
    let ws = take e xs ++ (c.read.new.out ++ rest) in
    let items : (with_items c.self.inside.bytes ws).items ≡ ws = with_items_is c.self.inside.bytes ws
    (room-stays xs c.read.new.out e ends long ∙ ap length c.as_mut_slice.ensures.value ∙ sym c.self.inside.bytes.ok.0) in
    let few : c.in-Bytes.n ≤ length c.read.new.out = omega (arith, c.in-Bytes.ensures.within, c.read.auto.out) in
    record {
      came = take c.in-Bytes.n c.read.new.out;
      moved_is = omega (arith, c.in-Bytes.ensures.some, length-take-le c.in-Bytes.n c.read.new.out few);
      tells = c.in-Bytes.ensures.told;
      behind = ap (λ (x : List ℕ). slice_range x b (e + c.in-Bytes.n)) items ∙ read-more xs c.read.new.out rest b e c.in-Bytes.n c.self.invariant.0 ends few
          ∙ ap (λ (x : List ℕ). x ++ take c.in-Bytes.n c.read.new.out) same;
    }

pub returns-in-Nothing-clause-reads : goal.returns-in-Nothing-clause-reads
returns-in-Nothing-clause-reads g c =
    let xs = c.as_mut_slice.result.now in
    let b = c.self.inside.begin in
    let e = c.self.inside.end in
    let rest = post_of e (length xs - e) xs in
    let same : slice_range xs b e ≡ c.args.self.now = ap (λ (xs : List ℕ). slice_range xs b e) c.as_mut_slice.ensures.value ∙ c.self.view_is ∙ c.move_front.ensures in
    let ends : e ≤ length xs = omega (arith, c.self.invariant.1, ap length c.as_mut_slice.ensures.value) in
    let long : length c.read.new.out ≡ length xs - e = omega (arith, c.read.auto.out, ends, length-take-le (length xs - e) (drop e xs) (omega (arith, length-drop e xs)), length-drop e xs) in
    let ws = take e xs ++ (c.read.new.out ++ rest) in
    let items : (with_items c.self.inside.bytes ws).items ≡ ws = with_items_is c.self.inside.bytes ws
    (room-stays xs c.read.new.out e ends long ∙ ap length c.as_mut_slice.ensures.value ∙ sym c.self.inside.bytes.ok.0) in
    record {
      came = [];
      moved_is = refl;
      tells = c.in-Nothing.ensures.told;
      behind = ap (λ (x : List ℕ). slice_range x b e) items ∙ read-none xs c.read.new.out rest b e c.self.invariant.0 ends ∙ same ∙ sym (append-nil c.args.self.now);
    }

pub returns-in-Left-clause-reads : goal.returns-in-Left-clause-reads
returns-in-Left-clause-reads g c =
    let xs = c.as_mut_slice.result.now in
    let b = c.self.inside.begin in
    let e = c.self.inside.end in
    let rest = post_of e (length xs - e) xs in
    let same : slice_range xs b e ≡ c.args.self.now = ap (λ (xs : List ℕ). slice_range xs b e) c.as_mut_slice.ensures.value ∙ c.self.view_is ∙ c.move_front.ensures in
    let ends : e ≤ length xs = omega (arith, c.self.invariant.1, ap length c.as_mut_slice.ensures.value) in
    let long : length c.read.new.out ≡ length xs - e = omega (arith, c.read.auto.out, ends, length-take-le (length xs - e) (drop e xs) (omega (arith, length-drop e xs)), length-drop e xs) in
    let ws = take e xs ++ (c.read.new.out ++ rest) in
    let items : (with_items c.self.inside.bytes ws).items ≡ ws = with_items_is c.self.inside.bytes ws
    (room-stays xs c.read.new.out e ends long ∙ ap length c.as_mut_slice.ensures.value ∙ sym c.self.inside.bytes.ok.0) in
    record {
      came = [];
      moved_is = refl;
      tells = c.in-Left.ensures.told;
      behind = ap (λ (x : List ℕ). slice_range x b e) items ∙ read-none xs c.read.new.out rest b e c.self.invariant.0 ends ∙ same ∙ sym (append-nil c.args.self.now);
    }
