-- Kept: `SoFar`, that header and packets were read, that the audit was fed with them, and that
-- number and sum are theirs.
--
-- Read `EndLemmas`; for `captures_pass` `ReplyFields`, `Alike`, `Explaining`, `Beginnings`,
-- `Passing`.
--
-- A stop touches its row in each of the five definitions of specs/Ends, and `Passing`.
mod EndLemmas
mod ReplyFields
mod Alike
mod Beginnings
mod Explaining
mod Passing
