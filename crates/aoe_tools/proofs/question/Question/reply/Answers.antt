use Rattle.std.proofs.Common.{◌∙◌, ap, sym}
use Rattle.std.proofs.lemmas.List.{take_rest}
use Rattle.aoe_tools.proofs.QuestionLemmas.{counted-by}
use Rattle.aoe_tools.specs.Asking.{reply_by}
use Rattle.aoe_tools.proofs.question.Question.reply.Goals as goal

pub returns-then-is_response-clause-value : goal.returns-then-is_response-clause-value
returns-then-is_response-clause-value c =
    c.reply_by.ensures.value
    ∙ ap (reply_by c.args.self.now c.in_ok-header.header) (take_rest c.args.frame.now 24)
    ∙ sym (counted-by c.args.self.now c.args.frame.now c.in_ok-header.header c.in_ok-header.ensures (sym c.is_response.ensures ∙ c.if-is_response.true))
