-- What clap makes of four words behind the command.
use Rattle.aoe_args.proofs.PlainAnswer.{answers_plainly}
use Rattle.aoe_args.proofs.law.plain_words_law.Goals as goal

pub returns-clause-answer : goal.returns-clause-answer
returns-clause-answer c = λ shelf slot file keep p1 p2 p3 p4. (answers_plainly shelf slot file keep p1 p2 p3 p4).0

pub returns-clause-files : goal.returns-clause-files
returns-clause-files c = λ shelf slot file keep p1 p2 p3 p4. (answers_plainly shelf slot file keep p1 p2 p3 p4).1
