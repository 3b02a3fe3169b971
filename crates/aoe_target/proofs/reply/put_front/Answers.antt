use Rattle.std.proofs.Common.{◌≡◌, ◌+◌, ◌++◌, ap, sym, take, length, ◌∙◌, append_assoc, length-append}
use Rattle.std.proofs.lemmas.List.{take_at}
use Rattle.aoe_ata.specs.Args.{args_bytes}
use Rattle.aoe_target.proofs.reply.put_front.Goals as goal

pub returns-clause-front : goal.returns-clause-front
returns-clause-front c =
    let head = c.put_head.new.out in
    let registers = c.copy_from_slice.new.self in
    let rest = c.split_at_mut-registers.result.1.now in
    let first : length head ≡ 24 = c.put_head.auto.out ∙ c.split_at_mut-head.ensures.front_len in
    let second : length registers ≡ 12 = c.copy_from_slice.ensures.len ∙ c.split_at_mut-registers.ensures.front_len in
    let both : length (head ++ registers) ≡ 36 = length-append head registers ∙ (λ i. first i + second i) in
    ap (take 36) (sym (append_assoc head registers rest)) ∙ take_at (head ++ registers) rest 36 both
    ∙ (λ i. c.put_head.ensures i ++ (c.copy_from_slice.ensures.after ∙ c.args_array.ensures ∙ ap args_bytes c.reply_args.ensures) i)
