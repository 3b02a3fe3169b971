-- The loops keep the calls made so far, the latest first: Going in TurnLemmas (none of them ended
-- the turn), Interrupted in SendLemmas.
-- Read TurnLemmas for recv, SendLemmas for send. A change of Taken or Given touches answer_of of
-- specs/Turns or specs/Sends and both files.
mod SendLemmas
mod TurnLemmas
