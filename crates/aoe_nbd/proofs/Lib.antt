-- What came so far leads to where a connection stands: StandsAt of requests, LeadsTo of the handshake.
-- Read HeadLemmas, MessageLemmas, StepLemmas; ReplyLemmas and RefusalLemmas; of the handshake
-- OptionLemmas, InfoLemmas, TalkLemmas.
-- A change of a request's bytes touches head_bytes, head_of and HeadLemmas; one of an answer to an
-- option its row of answer_of and the function that appends it.
mod HeadLemmas
mod InfoLemmas
mod MessageLemmas
mod OptionLemmas
mod RefusalLemmas
mod ReplyLemmas
mod StepLemmas
mod TalkLemmas
