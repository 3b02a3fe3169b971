use Rattle.std.proofs.Common.{List, ℕ, length, refl, ap, subst, ◌≡◌, ◌+◌, ◌++◌, ◌∙◌}
use Rattle.std.specs.Int.{w32, to_be_bytes}
use Rattle.aoe_nbd.specs.Options.{ack, reply_to}
use Rattle.aoe_nbd.proofs.OptionLemmas.{list-answer}
use Rattle.aoe_nbd.proofs.option.put_list.Goals as goal

pub returns : goal.returns
returns c =
    let P : List ℕ → Type 0 = λ name. c.put_reply.new.out.items ≡ c.args.out.now.items ++ reply_to 3 2 (to_be_bytes w32 (length name) ++ name) ++ ack 3 in
    let name = c.as_slice-name.result.now in
    subst P c.as_slice-name.ensures.value
    (list-answer c.args.out.now.items name c.put_reply_front.new.out.items c.append.new.out.items c.append-2.new.out.items c.put_reply.new.out.items
    (length name) (4 + length name) refl c.put_reply_front.ensures
    (c.append.ensures ∙ ap (λ (x : List ℕ). c.put_reply_front.new.out.items ++ x) c.to_be_bytes.ensures) c.append-2.ensures c.put_reply.ensures refl)
