use Rattle.std.proofs.Common.{◌≡◌, ◌+◌, ◌-◌, ◌*◌, ℕ, List, ◌++◌, length, take, drop, sym, ap, subst, ◌∙◌, arith, length-drop}
use Rattle.std.specs.List.{refill}
use Rattle.std.proofs.lemmas.List.{take_rest}
use Rattle.aoe_disk.specs.Calls.{Reads}
use Rattle.aoe_target.proofs.PieceLemmas.{rewritten, front_of, back_of}
use Rattle.aoe_target.proofs.ata.read_into.Goals as goal

module _ (xs vs ys : List ℕ) (n : ℕ) (same : vs ≡ xs) (whole : length xs ≡ 36 + n) (part : length ys ≡ length (take (length vs - 36) (drop 36 vs))) where
  rest : length (take (length vs - 36) (drop 36 vs)) ≡ n
  rest = ap length (take_rest vs 36) ∙ (omega (arith, length-drop 36 vs, ap length same))

  new : refill (length xs) xs (take 36 vs ++ (ys ++ drop (length vs - 36) (drop 36 vs))) ≡ take 36 xs ++ ys
  new = rewritten xs vs ys n same whole (part ∙ rest)

  pub behind : drop 36 (refill (length xs) xs (take 36 vs ++ (ys ++ drop (length vs - 36) (drop 36 vs)))) ≡ ys
  behind = ap (drop 36) new ∙ back_of xs ys (omega arith)

  pub before : take 36 (refill (length xs) xs (take 36 vs ++ (ys ++ drop (length vs - 36) (drop 36 vs)))) ≡ take 36 xs
  before = ap (take 36) new ∙ front_of xs ys (omega arith)

pub returns-clause-reads : goal.returns-clause-reads
returns-clause-reads g c =
    let n : ℕ = 512 * c.args.span.count in
    let old = g.S.Store.state c.args.store.now in
    let new = g.S.Store.state c.read.new.self in
    let out = behind c.args.out.now.items c.as_mut_slice.result.now c.read.new.out n c.as_mut_slice.ensures.value c.requires.len c.read.auto.out in
    let size = rest c.args.out.now.items c.as_mut_slice.result.now c.read.new.out n c.as_mut_slice.ensures.value c.requires.len c.read.auto.out in
    let P : List ℕ → Type 0 = λ l. Reads c.args.span.at n c.read.result l old new in
    let Q : ℕ → Type 0 = λ k. Reads c.args.span.at k c.read.result c.read.new.out old new in
    subst P (sym out) (subst Q size c.read.ensures.reads)

pub returns-clause-front : goal.returns-clause-front
returns-clause-front g c = before c.args.out.now.items c.as_mut_slice.result.now c.read.new.out
    (512 * c.args.span.count) c.as_mut_slice.ensures.value c.requires.len c.read.auto.out
