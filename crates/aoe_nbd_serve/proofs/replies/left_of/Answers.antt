use Rattle.std.proofs.Common.{◌≡◌, ◌+◌, ◌-◌, ◌≤◌, ℕ, List, [], ◌++◌, length, drop, append-nil, sym, ap, ◌∙◌, arith}
use Rattle.std.proofs.lemmas.List.{drop-append-le}
use Rattle.std.proofs.Math.Seq.{drop-append-add}
use Rattle.aoe_nbd_serve.proofs.HandLemmas.{piece-front}
use Rattle.aoe_nbd_serve.proofs.replies.left_of.Goals as goal

pub returns-then-sent-lt-REPLY_LEN-clause-front : goal.returns-then-sent-lt-REPLY_LEN-clause-front
returns-then-sent-lt-REPLY_LEN-clause-front c = (
  _,
  piece-front (drop c.args.sent (c.args.head.now ++ c.args.payload.now)) (drop c.args.sent c.args.head.now) c.args.payload.now (16 - c.args.sent)
      (drop-append-le c.args.sent c.args.head.now c.args.payload.now (omega (arith, c.if-sent-lt-REPLY_LEN.true))),
)

-- behind the head the payload comes
behind : (head payload : List ℕ) (sent n : ℕ) → length head ≡ 16 → n ≤ sent → sent ≡ n + 16 → drop sent (head ++ payload) ≡ drop n payload
behind head payload sent n long less is =
    let at : sent ≡ length head + n = omega (arith, long, is) in
    ap (λ (k : ℕ). drop k (head ++ payload)) at ∙ drop-append-add head payload n

pub returns-clause-front : goal.returns-clause-front
returns-clause-front c =
    let n = c.args.sent - 16 in
    let left = drop n c.args.payload.now in
    let whole : drop c.args.sent (c.args.head.now ++ c.args.payload.now) ≡ left ++ [] =
    behind c.args.head.now c.args.payload.now c.args.sent n (omega arith) (omega arith) (omega (arith, c.if-sent-lt-REPLY_LEN.false)) ∙ sym (append-nil left) in
    (_, piece-front (drop c.args.sent (c.args.head.now ++ c.args.payload.now)) left [] (length c.args.payload.now - n) whole)
