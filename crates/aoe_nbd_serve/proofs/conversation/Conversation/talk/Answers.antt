use Rattle.aoe_nbd_serve.proofs.TalkLemmas.{goes-then, goes-turn, left-turn, silent-goes, size-stays, turn-goes, turned, turns-same}
use Rattle.aoe_nbd_serve.proofs.conversation.Conversation.talk.Goals as goal

pub take_some-is_taken-requires : goal.take_some-is_taken-requires
take_some-is_taken-requires g c = size-stays _ _ _ _ (turns-same _ _ _ _ _ _ _ c.in-Ok.ensures.turns) c.requires.size

pub returns-in-Ok-read_some-clause-turns : goal.returns-in-Ok-read_some-clause-turns
returns-in-Ok-read_some-clause-turns g c =
    let before = goes-then _ _ _ _ _ _ _ _ _ (turn-goes _ _ c.in-Ok.is_written _ _ _ _ c.in-Ok.ensures.turns) (silent-goes _ _ _ _ _ c.take_some-is_taken.ensures.leads) in
    turned _ _ _ _ _ _ _ (goes-then _ _ _ _ _ _ _ _ _ before (turn-goes _ _ c.in-Ok-read_some.is_read _ _ _ _ (c.in-Ok-read_some.ensures.turns c.take_some-is_taken.new.desk)))

pub returns-in-Err-read_some-clause-turns : goal.returns-in-Err-read_some-clause-turns
returns-in-Err-read_some-clause-turns g c =
    let before = goes-then _ _ _ _ _ _ _ _ _ (turn-goes _ _ c.in-Ok.is_written _ _ _ _ c.in-Ok.ensures.turns) (silent-goes _ _ _ _ _ c.take_some-is_taken.ensures.leads) in
    goes-turn _ _ _ _ _ _ _ _ _ _ before (left-turn _ _ c.in-Err-read_some.field-0 _ _ _ _ c.in-Err-read_some.ensures.closed (c.in-Err-read_some.ensures.turns c.take_some-is_taken.new.desk))
