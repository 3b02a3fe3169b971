-- Read in this order: PieceLemmas, HeaderLemmas, Padding. No loop keeps anything here: a header is
-- its fields, and they are its bytes.
-- A change of the header touches both definitions (head and header_bytes), one-spelling of
-- HeaderLemmas, and then RequestLemmas and ReplyLemmas of aoe_history.
pub mod HeaderLemmas
mod Padding
pub mod PieceLemmas
