-- What the table of refusals lets through.
use Rattle.std.proofs.Common.{◌≡◌, ◌+◌, inl, inr, ◌⊎◌, Bool, true, false, Option, Some, None, refl, arith}
use Rattle.std.specs.Prelude.{if◌then◌else◌, ◌==◌, ◌||◌, ◌&&◌, not, nat_lt}
use Rattle.std.proofs.lemmas.Bool.{eqb-true}
use Rattle.std.proofs.lemmas.Bool.Decides.{nat_tests}
use Rattle.aoe_nbd.specs.declared.error.NbdError.{NbdError}
use Rattle.aoe_nbd.specs.declared.error.NbdError.TheVariants.{Invalid, NoSpace, NotPermitted}
use Rattle.aoe_nbd.specs.declared.export.Export.{Export}
use Rattle.aoe_nbd.specs.declared.request.RequestHead.{RequestHead}
use Rattle.aoe_nbd.specs.Refusals.{IsCarriedOut, IsInside, is_aligned, is_known, refusal, wants_flush}

-- a row that doesn't apply leaves it to those behind it
passed : (b : Bool) (error : NbdError) (r : Option NbdError) → (if b then Some error else r) ≡ None → (b ≡ false) × (r ≡ None)
passed true error r e = absurd (cc)
passed false error r e = (refl, e)

passed-some : (b : Bool) (r : Option NbdError) → (if b then None else r) ≡ None → (b ≡ true) ⊎ (r ≡ None)
passed-some true r e = inl refl
passed-some false r e = inr e

inside-by : (e : Export) (h : RequestHead) → not (is_aligned h) ≡ false → nat_lt e.size (h.offset + h.len) ≡ false → IsInside e h
inside-by e h aligned within = record {
  some = grind (arith, nat_tests);
  few = grind (arith, nat_tests);
  starts = grind (arith, nat_tests);
  sectors = grind (arith, nat_tests);
  within = grind (arith, nat_tests);
}

one-of-three : (a b c d : Bool) → not ((a || b || c) && d) ≡ false → (a ≡ true) ⊎ (b ≡ true) ⊎ (c ≡ true)
one-of-three true b c d e = inl refl
one-of-three false true c d e = inr (inl refl)
one-of-three false false true d e = inr (inr refl)
one-of-three false false false d e = absurd (cc)

one-of-two : (k a b : Bool) → not (k && (a || b)) ≡ false → (a ≡ true) ⊎ (b ≡ true)
one-of-two k true b e = inl refl
one-of-two k false true e = inr refl
one-of-two true false false e = absurd (cc)
one-of-two false false false e = absurd (cc)

known-kind : (h : RequestHead) → not (is_known h) ≡ false → (h.kind ≡ 0) ⊎ (h.kind ≡ 1) ⊎ (h.kind ≡ 3)
known-kind h known =
    elim (one-of-three (h.kind == 0) (h.kind == 1) (h.kind == 3) ((h.flags == 0) || (h.flags == 1)) known) [
      | inl t ↦ inl (eqb-true h.kind 0 t)
      | inr (inl t) ↦ inr (inl (eqb-true h.kind 1 t))
      | inr (inr t) ↦ inr (inr (eqb-true h.kind 3 t))
    ]

known-flags : (h : RequestHead) → not (is_known h) ≡ false → (h.flags ≡ 0) ⊎ (h.flags ≡ 1)
known-flags h known =
    elim (one-of-two ((h.kind == 0) || (h.kind == 1) || (h.kind == 3)) (h.flags == 0) (h.flags == 1) known) [
      | inl t ↦ inl (eqb-true h.flags 0 t)
      | inr t ↦ inr (eqb-true h.flags 1 t)
    ]

written-by : (e : Export) (h : RequestHead) → (h.kind == 1) && e.read_only ≡ false → h.kind ≡ 1 → e.read_only ≡ false
written-by e h row is = grind (arith, nat_tests)

flushed-by : (e : Export) (h : RequestHead) → wants_flush h && not e.flushes ≡ false → h.kind ≡ 3 → e.flushes ≡ true
flushed-by e h row is = grind (arith, nat_tests)

lasting-by : (e : Export) (h : RequestHead) → wants_flush h && not e.flushes ≡ false → h.flags ≡ 1 → e.flushes ≡ true
lasting-by e h row is = grind (arith, nat_tests)

pub carried-out : (e : Export) (h : RequestHead) → refusal e h ≡ None → IsCarriedOut e h
carried-out e h is =
    let known = passed (not (is_known h)) Invalid _ is in
    let written = passed ((h.kind == 1) && e.read_only) NotPermitted _ known.1 in
    let flushed = passed (wants_flush h && not e.flushes) Invalid _ written.1 in
    record {
      kind = known-kind h known.0;
      flags = known-flags h known.0;
      inside = λ other. elim (passed-some (h.kind == 3) _ flushed.1) [
        | inl t ↦ absurd (other (eqb-true h.kind 3 t))
        | inr rest ↦
            let aligned = passed (not (is_aligned h)) Invalid _ rest in
            inside-by e h aligned.0 (passed (nat_lt e.size (h.offset + h.len)) (if h.kind == 1 then NoSpace else Invalid) None aligned.1).0
      ];
      written = written-by e h written.0;
      flushed = flushed-by e h flushed.0;
      lasting = lasting-by e h flushed.0;
    }
