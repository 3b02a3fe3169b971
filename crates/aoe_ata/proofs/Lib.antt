-- Read in this order: LaidLemmas, ArgsLemmas, PageLemmas; SerialLemmas is of the serial number
-- alone.
-- Only the loop of put_text keeps something: so many pairs were laid, they are the text so far, and
-- the rest is as it was.
-- A change of registers touches both definitions (args_of and args_bytes), one-spelling of
-- ArgsLemmas, and then RequestLemmas and ReplyLemmas of aoe_history.
mod ArgsLemmas
mod LaidLemmas
mod PageLemmas
mod SerialLemmas
