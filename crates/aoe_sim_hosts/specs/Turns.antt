-- A host's turn in its two parts: what it tells, and what it sends.
use Rattle.std.specs.Prelude.{ℕ, ◌≡◌, ◌⊎◌, false, List, [], ◌∷◌, ◌++◌, reverse, Option, All}
use Rattle.arrayvec.specs.ArrayVec.{ArrayVec}
use Rattle.aoe_flight.specs.Outstanding.{is_expired}
use Rattle.aoe_initiator.specs.declared.outcome.Done.{Done}
use Rattle.aoe_initiator.specs.HostLog.{sent_of}
use Rattle.aoe_history.specs.declared.entry.Entry.{Entry}
use Rattle.aoe_history.specs.declared.entry.Entry.TheVariants.{Done as Finished}
use Rattle.aoe_history.specs.Commands.{commands_of}
use Rattle.aoe_history.specs.Frames.{clock}
use Rattle.aoe_history.specs.Groups.{told, GivesUp, Got, SendsSome}
use Rattle.aoe_history.specs.Lawful.{IsLawful}
use Rattle.aoe_history.specs.Setup.{HostSetup, Setup}
use Rattle.aoe_sim_hosts.specs.Host.{IsSettled, SimHost}

-- outcomes are taken down one after another; the latest stands first
abbrev pub noted : ArrayVec ℕ → List Done → List Entry → List Entry
noted name [] h = h
noted name (d ∷ dones) h = Finished name d.ticket.0 d.outcome ∷ noted name dones h

-- of the outcomes that waited all but the rest are taken down, in their order
pub record Notes (name : ArrayVec ℕ) (waiting rest : List Done) (h m : List Entry) : Type 0 where
  pub dones : List Done
  pub waited : waiting ≡ reverse dones ++ rest
  pub is : m ≡ noted name dones h

-- a host told all that it had to tell, and waits for no command for too long
pub record HasTold (s : Setup) (host : HostSetup) (got : Option Got) (h m : List Entry) (x : SimHost) : Type 0 where
  pub gives_up : GivesUp x.name (told x.name host got h) m
  pub none_late : All (λ o. is_expired host.dead (clock m) o ≡ false) (sent_of (commands_of host m))
  pub lawful : IsLawful s m
  pub settled : IsSettled s host m x

-- a host told some of it
pub record HasBegun (s : Setup) (host : HostSetup) (got : Option Got) (name : ArrayVec ℕ) (h m : List Entry) : Type 0 where
  pub begun : (m ≡ h) ⊎ GivesUp name (told name host got h) m
  pub lawful : IsLawful s m

-- a host sent some frames
pub record HasSent (s : Setup) (name : ArrayVec ℕ) (h m : List Entry) : Type 0 where
  pub sends : SendsSome name h m
  pub lawful : IsLawful s m
