use Rattle.std.proofs.Common.{ℕ, ◌≡◌, ◌*◌, List, [], ◌∷◌, length, ap, ◌∙◌, sym, arith, inl, inr, refl}
use Rattle.std.proofs.lemmas.Bool.{eqb-true}
use Rattle.std.proofs.lemmas.List.Elements.{All-cons}
use Rattle.aoe_copy.specs.declared.end.CopyRefusal.TheVariants as copy
use Rattle.aoe_copy.specs.Again.{IsFull}
use Rattle.aoe_copy.specs.Feed.{ahead}
use Rattle.aoe_copy.proofs.AgainLemmas.{full-cut, part-cut, part-ends, part-fed, part-none, part-whole}
use Rattle.aoe_copy.proofs.again.check_next.Goals as goal

pub returns-then-rest-gt0-clause-goes : goal.returns-then-rest-gt0-clause-goes
returns-then-rest-gt0-clause-goes g c = λ b front before s.
    let p = c.in-Ok.ensures.piece in
    record {
      parts = s.parts;
      mid = _;
      last = record { host = c.args.between.host; log = s.log };
      are = s.are;
      ends = inr (
        c.in-Ok.piece.0,
        p.rest,
        ahead c.piece.new.self,
        part-cut s.parts s.fed p (s.full c.requires.more),
        part-fed s.parts s.fed p,
        inl (
          omega (arith, p.rest_is, c.if-rest-gt0.true),
          omega (arith, p.rest_is, p.less),
          ap (λ (n : ℕ). copy.Stream (512 * n)) (rw (c.bytes-bytes.ensures, s.reached_is) refl),
          refl,
        ),
      );
    }

pub returns-then-next-course-clause-goes : goal.returns-then-next-course-clause-goes
returns-then-next-course-clause-goes g c = λ b front before s.
    let p = c.in-Ok.ensures.piece in
    record {
      parts = s.parts;
      mid = _;
      last = record { host = c.args.between.host; log = s.log };
      are = s.are;
      ends = inr (
        c.in-Ok.piece.0,
        p.rest,
        ahead c.piece.new.self,
        part-cut s.parts s.fed p (s.full c.requires.more),
        part-fed s.parts s.fed p,
        inr (inl (omega (arith, c.if-next-course.true, s.reached_is, ap (λ (l : List ℕ). length l) c.bytes-bytes.ensures), refl, refl)),
      );
    }

pub returns-then-reached-gt0-clause-goes : goal.returns-then-reached-gt0-clause-goes
returns-then-reached-gt0-clause-goes g c = λ b front before s.
    let p = c.in-Ok.ensures.piece in
    let none : c.in-Ok.piece.1 ≡ 0 = omega (arith, c.if-rest-gt0.false) in
    let empty : length c.in-Ok.piece.0 ≡ 0 = ap (λ (l : List ℕ). length l) (sym c.bytes-bytes.ensures) ∙ eqb-true (length c.bytes-bytes.result.now) 0 (sym c.if-is_empty.ensures) in
    let end = p.short (omega (arith, none, empty)) in
    record {
      parts = s.parts;
      log = s.log;
      are = s.are;
      begins = s.begins;
      fed = rw end.1 (part-none s.parts s.fed p none empty);
      reached_is = s.reached_is;
      full = λ on. absurd cc;
      over = λ off. (full-cut s.parts (s.full c.requires.more) (omega (arith, c.if-reached-gt0.true, s.reached_is)), end.0, end.1);
    }

pub returns-in-Ok-check_part-clause-goes : goal.returns-in-Ok-check_part-clause-goes
returns-in-Ok-check_part-clause-goes g c = λ b front before s.
    let p = c.in-Ok.ensures.piece in
    let none : c.in-Ok.piece.1 ≡ 0 = omega (arith, c.if-rest-gt0.false) in
    let checked = rw (c.bytes-bytes.ensures, s.reached_is) at (c.in-Ok-check_part.ensures.part s.log s.begins) in
    record {
      parts = c.in-Ok.piece.0 ∷ s.parts;
      log = checked.0;
      are = (_, _, s.are, checked.2);
      begins = checked.1;
      fed = part-whole s.parts s.fed p none;
      reached_is = rw (c.bytes-bytes.ensures, s.reached_is) refl;
      full = λ on. All-cons IsFull c.in-Ok.piece.0 s.parts (eqb-true _ _ (rw c.bytes-bytes.ensures at on)) (s.full c.requires.more);
      over = λ off.
          let end = part-ends s.parts s.fed p none (rw c.bytes-bytes.ensures at off) in
          (part-cut s.parts s.fed p (s.full c.requires.more), end.0, end.1);
    }

pub returns-clause-goes : goal.returns-clause-goes
returns-clause-goes g c = λ b front before s.
    let p = c.in-Ok.ensures.piece in
    let none : c.in-Ok.piece.1 ≡ 0 = omega (arith, c.if-rest-gt0.false) in
    record {
      parts = s.parts;
      mid = _;
      last = record { host = c.args.between.host; log = s.log };
      are = s.are;
      ends = inr (
        c.in-Ok.piece.0,
        [],
        ahead c.piece.new.self,
        part-cut s.parts s.fed p (s.full c.requires.more),
        part-whole s.parts s.fed p none,
        inr (inr (refl, rw (c.bytes-bytes.ensures, s.reached_is) at (c.in-Err-check_part.ensures.part s.log s.begins))),
      );
    }
