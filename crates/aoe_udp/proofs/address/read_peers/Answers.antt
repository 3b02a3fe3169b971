-- Each turn reads the next piece of the text.
use Rattle.std.proofs.Common.{◌==◌, rules}
use Rattle.std.proofs.lemmas.Iterator.Consumers.{YieldsList-turn, YieldsList-end}
use Rattle.std.proofs.lemmas.Iterator.Splits.{YieldsList-from_slice_split}
use Rattle.std.proofs.lemmas.List.{length_push}
use Rattle.aoe_udp.proofs.AddressLemmas.{none_at, one_more, one_more_read, all_read, read_count, whole_read}
use Rattle.aoe_udp.proofs.address.read_peers.Goals as goal

pub returns-in_default-clause-refused : goal.returns-in_default-clause-refused
returns-in_default-clause-refused c =
    let road = YieldsList-from_slice_split _ (λ c. c == 44) c.args.text.now (search rules) (search rules) (search rules) (λ x b q k. search rules) in
    let t = YieldsList-turn road c.pieces.yielded _ c.pieces.yielded_by _ _ c.in-Some.piece c.in-Some.is c.next.ensures.steps in
    λ e. none_at _ _ _ t (c.in_default.ensures.refused (search rules))

pub pieces-preserved : goal.pieces-preserved
pieces-preserved c =
    let road = YieldsList-from_slice_split _ (λ c. c == 44) c.args.text.now (search rules) (search rules) (search rules) (λ x b q k. search rules) in
    let t = YieldsList-turn road c.pieces.yielded _ c.pieces.yielded_by _ _ c.in-Some.piece c.in-Some.is c.next.ensures.steps in
    record {
      can = search rules;
      ends = search rules;
      read = λ e.
          let kept = c.keep-has_room.ensures e in
          rw (length_push c.pieces.yielded c.in-Some.piece, kept.1)
          (one_more_read _ _ _ _ _ t (c.pieces.invariant.read kept.0) c.in-Some-read_address.ensures.read);
      so_far = rw (length_push c.pieces.yielded c.in-Some.piece) (one_more _ _ _ t c.pieces.invariant.so_far c.in-Some-read_address.ensures.spelled);
    }

pub returns-then-has_room-clause-spelled : goal.returns-then-has_room-clause-spelled
returns-then-has_room-clause-spelled c =
    let road = YieldsList-from_slice_split _ (λ c. c == 44) c.args.text.now (search rules) (search rules) (search rules) (λ x b q k. search rules) in
    let t = YieldsList-end road c.pieces.yielded _ c.pieces.yielded_by _ _ c.in-None.is c.next.ensures.steps in
    all_read _ _ t.1 c.pieces.invariant.so_far

pub returns-else-has_room-clause-memory : goal.returns-else-has_room-clause-memory
returns-else-has_room-clause-memory c =
    let road = YieldsList-from_slice_split _ (λ c. c == 44) c.args.text.now (search rules) (search rules) (search rules) (λ x b q k. search rules) in
    let t = YieldsList-end road c.pieces.yielded _ c.pieces.yielded_by _ _ c.in-None.is c.next.ensures.steps in
    λ _. all_read _ _ t.1 c.pieces.invariant.so_far

pub returns-then-has_room-clause-read : goal.returns-then-has_room-clause-read
returns-then-has_room-clause-read c =
    let road = YieldsList-from_slice_split _ (λ c. c == 44) c.args.text.now (search rules) (search rules) (search rules) (λ x b q k. search rules) in
    let t = YieldsList-end road c.pieces.yielded _ c.pieces.yielded_by _ _ c.in-None.is c.next.ensures.steps in
    whole_read _ _ _ t.1 (c.pieces.invariant.read (search rules))

pub returns-then-has_room-clause-each : goal.returns-then-has_room-clause-each
returns-then-has_room-clause-each c =
    let road = YieldsList-from_slice_split _ (λ c. c == 44) c.args.text.now (search rules) (search rules) (search rules) (λ x b q k. search rules) in
    let t = YieldsList-end road c.pieces.yielded _ c.pieces.yielded_by _ _ c.in-None.is c.next.ensures.steps in
    read_count _ _ (whole_read _ _ _ t.1 (c.pieces.invariant.read (search rules)))
