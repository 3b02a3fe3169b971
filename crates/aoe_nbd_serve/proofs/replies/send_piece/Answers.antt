use Rattle.std.proofs.Common.{◌≡◌, ◌<◌, ℕ, List, ◌++◌, length, take, drop, sym, ap, ◌∙◌, arith}
use Rattle.std.proofs.lemmas.List.{length-take-le}
use Rattle.aoe_nbd_serve.proofs.HandLemmas.{piece-front}
use Rattle.aoe_nbd_serve.specs.Conversations.{bytes_of}
use Rattle.aoe_nbd_serve.proofs.replies.send_piece.Goals as goal

pub overflow_add-sent : goal.overflow_add-sent
overflow_add-sent g c =
    let some : 0 < length c.left_of-left.result.now = omega (arith, c.in-Bytes.ensures.some, c.in-Bytes.ensures.within) in
    omega (arith, c.in-Bytes.ensures.within, c.left_of-left.ensures.within some, c.bytes.type_inv)

pub returns-in-Bytes-clause-sends : goal.returns-in-Bytes-clause-sends
returns-in-Bytes-clause-sends g c =
    let left = c.left_of-left.result.now in
    let n = c.in-Bytes.n in
    let whole : drop c.args.sent.now (bytes_of c.args.reply.now) ≡ left ++ c.left_of-left.ensures.front.0 =
    ap (λ (x : List ℕ). drop c.args.sent.now (x ++ c.args.reply.now.payload)) (sym c.reply_head-head.ensures)
    ∙ ap (λ (x : List ℕ). drop c.args.sent.now (c.reply_head-head.result ++ x)) (sym c.bytes.ensures) ∙ c.left_of-left.ensures.front.1 in
    let long : length (take n left) ≡ n = length-take-le n left c.in-Bytes.ensures.within in
    record {
      went = take n left;
      rest = drop n left ++ c.left_of-left.ensures.front.0;
      moved_is = omega (arith, long, c.in-Bytes.ensures.some);
      tells = c.in-Bytes.ensures.told;
      front = piece-front (drop c.args.sent.now (bytes_of c.args.reply.now)) left c.left_of-left.ensures.front.0 n whole;
      now_is = omega (arith, long);
    }
