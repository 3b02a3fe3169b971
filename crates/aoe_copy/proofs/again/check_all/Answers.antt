use Rattle.std.proofs.Common.{[], append-nil, ◌∙◌, arith, refl}
use Rattle.aoe_io.proofs.BytesLemmas.{Gave-nothing}
use Rattle.aoe_copy.proofs.again.check_all.Goals as goal

pub parts-init : goal.parts-init
parts-init g c = record {
  fit = record { free = c.requires.free; few = λ on. omega arith; within = omega arith; feed = rw c.new.ensures.used (omega arith) };
  so = record {
    parts = [];
    log = [];
    are = (refl, refl);
    begins = c.requires.begins;
    fed = record {
      fed = [];
      gave = Gave-nothing (g.S.Source.left c.args.source.now);
      all = append-nil c.args.front.now ∙ rw (c.new.ensures.used, c.new.ensures.front) refl;
    };
    reached_is = refl;
    full = λ on i part below. absurd (omega (arith, below));
    over = λ off. absurd cc;
  };
  faults = refl;
  source_faults = refl;
}

pub check_next-requires-clause-fit : goal.check_next-requires-clause-fit
check_next-requires-clause-fit g c = c.parts.invariant.fit

pub check_next-requires-clause-begins : goal.check_next-requires-clause-begins
check_next-requires-clause-begins g c = (c.parts.invariant.so.log, c.parts.invariant.so.begins)

pub returns-in-Err-clause-checks : goal.returns-in-Err-clause-checks
returns-in-Err-clause-checks g c = c.in-Err.ensures.goes _ _ _ c.parts.invariant.so

pub parts-smaller : goal.parts-smaller
parts-smaller g c = c.in-Ok.ensures.less

pub parts-preserved : goal.parts-preserved
parts-preserved g c = record {
  fit = c.in-Ok.ensures.fit;
  so = c.in-Ok.ensures.goes _ _ _ c.parts.invariant.so;
  faults = c.in-Ok.ensures.link.no_fault (λ e. absurd cc) ∙ c.parts.invariant.faults;
  source_faults = c.in-Ok.ensures.source.no_fault (λ e. absurd cc) ∙ c.parts.invariant.source_faults;
}

pub returns-clause-checks : goal.returns-clause-checks
returns-clause-checks g c =
    let s = c.parts.invariant.so in
    let over = s.over c.parts-test.false in
    record {
      parts = s.parts;
      mid = _;
      last = _;
      are = s.are;
      ends = (rw over.2 at s.fed, over.1, over.0, refl);
    }
