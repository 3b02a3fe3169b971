use Rattle.aoe.proofs.Refusals.{copy-not-refused, live-not-refused, not-slot, not-some, served-not-refused, tool-not-refused}
use Rattle.aoe.proofs.top.run_command.Goals as goal

pub returns-in-Live-clause-refused : goal.returns-in-Live-clause-refused
returns-in-Live-clause-refused g c other slot e = absurd (not-slot _ (live-not-refused _ c.run_live.ensures.status) slot e)

pub returns-in-Live-clause-unread : goal.returns-in-Live-clause-unread
returns-in-Live-clause-unread g c other some = absurd (not-some _ (live-not-refused _ c.run_live.ensures.status) some)

pub returns-in-Ask-clause-refused : goal.returns-in-Ask-clause-refused
returns-in-Ask-clause-refused g c other slot e = absurd (not-slot _ (tool-not-refused _ c.run_tool.ensures.status) slot e)

pub returns-in-Ask-clause-unread : goal.returns-in-Ask-clause-unread
returns-in-Ask-clause-unread g c other some = absurd (not-some _ (tool-not-refused _ c.run_tool.ensures.status) some)

pub returns-in-Get-clause-refused : goal.returns-in-Get-clause-refused
returns-in-Get-clause-refused g c other slot e = absurd (not-slot _ (copy-not-refused _ c.run_get.ensures.status) slot e)

pub returns-in-Get-clause-unread : goal.returns-in-Get-clause-unread
returns-in-Get-clause-unread g c other some = absurd (not-some _ (copy-not-refused _ c.run_get.ensures.status) some)

pub returns-in-Put-clause-refused : goal.returns-in-Put-clause-refused
returns-in-Put-clause-refused g c other slot e = absurd (not-slot _ (copy-not-refused _ c.run_put.ensures.status) slot e)

pub returns-in-Put-clause-unread : goal.returns-in-Put-clause-unread
returns-in-Put-clause-unread g c other some = absurd (not-some _ (copy-not-refused _ c.run_put.ensures.status) some)

pub returns-in-Nbd-clause-refused : goal.returns-in-Nbd-clause-refused
returns-in-Nbd-clause-refused g c other slot e = absurd (not-slot _ (served-not-refused _ c.run_nbd.ensures.status) slot e)

pub returns-in-Nbd-clause-unread : goal.returns-in-Nbd-clause-unread
returns-in-Nbd-clause-unread g c other some = absurd (not-some _ (served-not-refused _ c.run_nbd.ensures.status) some)
