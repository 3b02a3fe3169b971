use Rattle.aoe_audit.proofs.judge.tell_ata.Goals as goal

pub returns-in-Give-clause-told : goal.returns-in-Give-clause-told
returns-in-Give-clause-told c = λ k lists known. rw c.in-Give.is (c.tell_read.ensures.told k lists known)

pub returns-in-Give-clause-memory : goal.returns-in-Give-clause-memory
returns-in-Give-clause-memory c = λ k lists known. rw c.in-Give.is (c.tell_read.ensures.memory k lists known)

pub returns-in-Put-clause-told : goal.returns-in-Put-clause-told
returns-in-Put-clause-told c = λ k lists known. rw c.in-Put.is (c.tell_write.ensures.told k lists known)

pub returns-in-Put-clause-memory : goal.returns-in-Put-clause-memory
returns-in-Put-clause-memory c = λ k lists known. rw c.in-Put.is (c.tell_write.ensures.memory k lists known)

pub returns-in_default-clause-told : goal.returns-in_default-clause-told
returns-in_default-clause-told c = λ k lists known. c.tell_plain.ensures k _ known
