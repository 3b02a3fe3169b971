-- Kept by the loops: so many lines or parts were read, and the rest is the rest (`AreRead`);
-- nothing is wrong with each line after those before it.
--
-- Read, into a script: `SplitLemmas`, `WordLemmas`, `LineLemmas`, `PairLemmas`, `PartLemmas`,
-- `CommaLemmas`, `ScriptLemmas`. Back from its text: `PlainLemmas`, `WrittenLemmas`, `NamedLemmas`,
-- `ListedLemmas`, `SpelledLemmas`, `SaidLemmas`, `SetupBack`, `AskedBack`, `EventBack`,
-- `KeptLemmas`, `AcceptedLemmas`, `ScriptBack`. Printing: `JoinLemmas`, and then the lemmas of
-- `aoe_transcript`.
--
-- A change of a line, or a new one, touches: its word in `keywords` and `Keyword`; its form, and
-- its row of `row_of` in definitions and code; its ranges (`is_setup`, `is_event`); its cause
-- (`setup_why`, `event_why`); its text (`setup_words`, `event_words`); a case in `SetupBack` or
-- `EventBack`.
mod AcceptedLemmas
mod AskedBack
mod CommaLemmas
mod EventBack
pub mod JoinLemmas
mod KeptLemmas
mod LineLemmas
mod ListedLemmas
mod NamedLemmas
mod PairLemmas
mod PartLemmas
mod PlainLemmas
mod SaidLemmas
mod ScriptBack
mod ScriptLemmas
mod SetupBack
mod SetupLemmas
mod SpelledLemmas
mod SplitLemmas
mod WordLemmas
mod WrittenLemmas
