use Rattle.std.proofs.Common.{arith, ◌++◌, ◌∙◌, ap, Ok, length, length-append, ◌≡◌}
use Rattle.aoe_io.proofs.BytesLemmas.{Gave-then, GaveSome-then}
use Rattle.aoe_pcap.proofs.reader.skip.Goals as goal

pub pieces-preserved : goal.pieces-preserved
pieces-preserved g c =
    let before = c.pieces.invariant.so_far in
    let piece = c.fill_frame.new.out.items in
    let whole = c.in-Ok-true.is ∙ ap Ok c.in-Ok-true.field-0-test in
    let long : length piece ≡ c.min-piece.result = c.fill_frame.ensures.length whole in
    record {
      so_far = (
        before.0 ++ piece,
        omega (arith, before.1, long, length-append before.0 piece),
        Gave-then _ _ _ before.0 piece before.2 (c.fill_frame.ensures.gave whole),
      );
      count = c.in-Ok-true.ensures.no_fault ∙ c.pieces.invariant.count;
    }

pub returns-in-Ok-false-clause-taken : goal.returns-in-Ok-false-clause-taken
returns-in-Ok-false-clause-taken g c = GaveSome-then _ _ _ c.pieces.invariant.so_far.0 c.pieces.invariant.so_far.2 c.in-Ok-false.ensures.taken

pub returns-in-Err-clause-taken : goal.returns-in-Err-clause-taken
returns-in-Err-clause-taken g c = GaveSome-then _ _ _ c.pieces.invariant.so_far.0 c.pieces.invariant.so_far.2 c.in-Err.ensures.taken
