-- Read in this order: NumberLemmas, HeadLemmas, RecordLemmas, CutLemmas.
-- Only loops keep something: so many bytes were read or given, they are the text so far, and the
-- rest is the rest (skip of src/reader.rt).
-- A change of the format touches both definitions (head_bytes or record_head, and BeginsNoHead or
-- IsCut), and one-head, one-record and one-capture.
mod CutLemmas
pub mod HeadLemmas
mod NumberLemmas
pub mod RecordLemmas
