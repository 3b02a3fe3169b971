-- A network without room.
use Rattle.std.proofs.Common.{ℕ, List}
use Rattle.aoe_base.specs.declared.counted.Lifetimes.{Lifetimes}
use Rattle.aoe_net.specs.declared.refusal.NetLimit.{NetLimit}
use Rattle.aoe_net.specs.declared.refusal.NetLimit.TheVariants.{Frames, Bytes}
use Rattle.aoe_net.specs.Network.{IsFullBy}
use Rattle.aoe_history.specs.declared.entry.Entry.{Entry}
use Rattle.aoe_history.specs.Frames.{network}
use Rattle.aoe_history.specs.Setup.{Setup}
use Rattle.aoe_history.specs.Run.{MeetsFull}

-- how long frames can be handed over makes no room
pub full-by : (limit : NetLimit) (life other : Lifetimes) (h : List Entry) (bytes : List ℕ) → IsFullBy limit (network life h) bytes
    → IsFullBy limit (network other h) bytes
full-by Frames life other h bytes full = full
full-by Bytes life other h bytes full = full

-- the room that a part of an act lacks, the act lacks
pub full-more : {limit : NetLimit} (s : Setup) (part whole : List Entry → Type 0) (h : List Entry) → ((m : List Entry) → part m → whole m)
    → MeetsFull s part limit h → MeetsFull s whole limit h
full-more s part whole h more full = record {
  entry = full.entry;
  called_for = more _ full.called_for;
  may_come = full.may_come;
  bytes = full.bytes;
  brings = full.brings;
  full = full.full;
}
