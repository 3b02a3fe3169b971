-- A host in a run: what it keeps is what the history says of it.
use Rattle.std.specs.Prelude.{ℕ, ◌≡◌, ◌≤◌, Bool, true, false, not, List, [], ◌∷◌, map, Option, Some, None, if◌then◌else◌, All, IfSome, length}
use Rattle.std.specs.Str.{bytes_eq}
use Rattle.arrayvec.specs.ArrayVec.{ArrayVec}
use Rattle.aoe_base.specs.declared.address.Mac.{Mac}
use Rattle.aoe_base.specs.Addresses.{IsDistinct}
use Rattle.aoe_initiator.specs.declared.device.Attached.{Attached}
use Rattle.aoe_initiator.specs.declared.device.Device.{Device}
use Rattle.aoe_initiator.specs.declared.outcome.Done.{Done}
use Rattle.aoe_initiator.specs.Host.{Host, Matches}
use Rattle.aoe_initiator.specs.HostLog.{clock as log_clock, commands, path_log, Event}
use Rattle.aoe_initiator.specs.HostLog.Event.{Advances, Ends}
use Rattle.aoe_history.specs.declared.entry.Entry.{Entry}
use Rattle.aoe_history.specs.declared.entry.Entry.TheVariants.{Submitted, Refused, Sent, Took, Done as Finished, Ticked}
use Rattle.aoe_history.specs.Commands.{log_of, path_ended, tickets}
use Rattle.aoe_history.specs.Frames.{clock}
use Rattle.aoe_history.specs.Groups.{Got}
use Rattle.aoe_history.specs.HostLaw.{IsAnswered}
use Rattle.aoe_history.specs.Setup.{host_called, is_called, HostSetup, Setup}

-- a host: its name, and what its core keeps
pub record SimHost : Type 0 where
  pub name : ArrayVec ℕ
  pub core : Host

-- each address has six bytes
abbrev pub AreAddresses : List Mac → Type 0
AreAddresses ports = All (λ (a : Mac). length a.0 ≡ 6) ports

-- what never changes of a host is as the setup says
pub record IsHost (s : Setup) (host : HostSetup) (x : SimHost) : Type 0 where
  pub called : host_called s x.name ≡ Some host
  pub ports : x.core.ports ≡ host.ports
  pub life : x.core.life ≡ s.life
  pub room : x.core.room ≡ host.room
  pub dead : x.core.dead ≡ host.dead
  pub devices : map (λ (d : Device). d.about) x.core.devices ≡ host.devices
  pub distinct : IsDistinct host.ports
  pub remotes : All (λ (d : Attached). IsDistinct d.remotes.items) host.devices
  pub addresses : AreAddresses host.ports
  pub remote_addresses : All (λ (d : Attached). AreAddresses d.remotes.items) host.devices

-- after its turn a host keeps what the history says of it, and has nothing more to tell
pub record IsSettled (s : Setup) (host : HostSetup) (h : List Entry) (x : SimHost) : Type 0 where
  pub is : IsHost s host x
  pub last : x.core.last_ticket ≡ tickets host h
  pub time : x.core.clock ≡ clock h
  pub matches : Matches (log_of host h) x.core
  pub waiting : x.core.waiting ≡ []

-- the response of an act is this host's
abbrev pub is_told : HostSetup → Got → Bool
is_told host got = bytes_eq got.host.name host.name

-- the outcome that a host has from a response, and did not tell yet
abbrev pub told_of : HostSetup → Option Got → List Done
told_of host None = []
told_of host (Some got) = if is_told host got then record { ticket = record { 0 = got.ticket }; outcome = got.outcome } ∷ [] else []

-- what the host did, with the end of the command that the response ended
abbrev pub log_with : HostSetup → Option Got → List Entry → List Event
log_with host None h = log_of host h
log_with host (Some got) h =
    if is_told host got then Ends (record { 0 = got.ticket }) (path_ended host h got.ticket got.outcome) ∷ log_of host h else log_of host h

-- two logs tell the same
pub record TellsSame (a b : List Event) : Type 0 where
  pub time : log_clock a ≡ log_clock b
  pub commands_are : commands a ≡ commands b
  pub paths : (n : ℕ) → path_log a n ≡ path_log b n

-- before its turn: once a host's clock goes on to the time of the history, it keeps what the history says of it, but for the outcome
-- of its response, which waits to be told
pub record Awaits (s : Setup) (host : HostSetup) (got : Option Got) (h : List Entry) (x : SimHost) : Type 0 where
  pub is : IsHost s host x
  pub last : x.core.last_ticket ≡ tickets host h
  pub past : x.core.clock ≤ clock h
  pub log : List Event
  pub matches : Matches log x.core
  pub same : TellsSame (Advances (record { 0 = clock h }) ∷ log) (log_with host got h)
  pub waiting : x.core.waiting ≡ told_of host got
  pub response : IfSome got (λ x. is_told host x ≡ true → IsAnswered s host h x.ticket x.outcome)

-- an entry that says nothing of a host, and in which no time goes by
abbrev pub is_apart : HostSetup → Entry → Bool
is_apart host (Submitted name ticket dev op) = not (is_called host name)
is_apart host (Refused name refusal) = true
is_apart host (Sent name ticket number bytes) = not (is_called host name)
is_apart host (Took name number stale) = not (is_called host name)
is_apart host (Finished name ticket outcome) = not (is_called host name)
is_apart host (Ticked ms) = false
is_apart host entry = true
