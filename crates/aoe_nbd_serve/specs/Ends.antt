-- How a server ends, and what it did until then.
use Rattle.std.specs.Prelude.{◌≡◌, ◌≢◌, ◌-◌, ◌^◌, ◌⊎◌, min, Bool, false, is_some, List, [], ◌∷◌}
use Rattle.aoe_base.specs.declared.address.Mac.{Mac}
use Rattle.aoe_base.specs.declared.address.TargetId.{TargetId}
use Rattle.aoe_base.specs.declared.counted.Lifetimes.{Lifetimes}
use Rattle.aoe_block.specs.Steps.{owns, turns_of}
use Rattle.aoe_block.specs.Turns.{host_of}
use Rattle.aoe_initiator.specs.Host.{Host, Matches}
use Rattle.aoe_initiator.specs.declared.op.FlushCommand.{FlushCommand}
use Rattle.aoe_initiator.specs.declared.outcome.Outcome.TheVariants as outcome
use Rattle.aoe_nbd_serve.specs.Account.{is_flush_wanted, AreServed, HasServed, IsOver, LastEnded, ServeSeen, ServeStep, Setting}
use Rattle.aoe_nbd_serve.specs.Deeds.{accepted_in, calls_of, handed, talk_of, Deed}
use Rattle.aoe_nbd_serve.specs.declared.terms.Asked.{Asked}
use Rattle.aoe_nbd_serve.specs.declared.terms.ServeEnd.{ServeEnd}
use Rattle.aoe_nbd_serve.specs.declared.terms.ServeEnd.TheVariants as serve_end
use Rattle.aoe_nbd_serve.specs.declared.terms.Served.{Served}
use Rattle.aoe_nbd_serve.specs.declared.terms.Terms.{Terms}
use Rattle.aoe_desk.specs.Runs.{IsRun}
use Rattle.aoe_io.specs.Link.{ended, Turn}

-- a host that is attached to the device that is served, and did nothing yet
pub record IsNew (t : Terms) (host : Host) : Type 0 where
  pub port : Mac
  pub life : Lifetimes
  pub id : TargetId
  pub remote : Mac
  pub flush : FlushCommand
  pub is : host ≡ host_of port life id remote t.total t.max flush
  pub matches : Matches [] host

-- the link said last that no frame will come any more
abbrev pub HasEnded : List Turn → Type 0
HasEnded turns = (earlier : List Turn) × (turns ≡ ended ∷ earlier)

-- no flush is wanted, or the last one was acknowledged
abbrev pub IsFlushed : Terms → List Deed → Type 0
IsFlushed t deeds = (is_flush_wanted t deeds ≡ false) ⊎ LastEnded deeds outcome.Flushed

-- How a server ends: as was asked for, with all else over and what was written flushed; or with another outcome of the last flush.
abbrev pub EndsBy : ServeEnd → Terms → List ServeStep → Type 0
EndsBy (serve_end.Ended why) t steps = IsOver t why (owns steps) × IsFlushed t (owns steps)
EndsBy (serve_end.Unflushed says) t steps =
    ((why : Asked) × IsOver t why (owns steps)) × LastEnded (owns steps) says × (says ≢ outcome.Flushed)
EndsBy serve_end.NoMemory t steps = Unit {0}
EndsBy serve_end.LinkFault t steps = Unit {0}
EndsBy serve_end.LinkEnded t steps = HasEnded (turns_of steps)
EndsBy serve_end.ClientFault t steps = Unit {0}

-- how many clients were accepted, where these are fewer than a u64 counts, and commands submitted for them
pub record AreCounted (served : Served) (deeds : List Deed) : Type 0 where
  pub clients_are : served.clients ≡ min (accepted_in deeds) (2 ^ 64 - 1)
  pub commands_are : served.commands ≡ handed deeds

-- What a server did: steps that may come, of which link, clock, clients, bell and whoever asks for the end tell; the calls of its desk are a
-- run of it. `here` is whether a client is there now.
pub record IsServed (end : ServeEnd) (served : Served) (here : Bool) (c : Setting) (now : ServeSeen) : Type 0 where
  pub steps : List ServeStep
  pub are : AreServed c steps
  pub run : IsRun c.terms.total c.terms.max (calls_of (owns steps))
  pub seen_is : HasServed c.before now steps
  pub counted : AreCounted served (owns steps)
  pub here_is : here ≡ is_some (talk_of c.terms.export (owns steps))
  pub ends : EndsBy end c.terms steps
