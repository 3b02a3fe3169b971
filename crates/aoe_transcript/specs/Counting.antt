-- What stands between the entries that were counted and the counts.
use Rattle.std.specs.Prelude.{ℕ, ◌≡◌, ◌<◌, Bool, ◌&&◌, nat_eq, List}
use Rattle.std.specs.Borrow.{Bor}
use Rattle.std.specs.HashSet.{contains, HashSet}
use Rattle.std.specs.List.{list_any}
use Rattle.std.specs.Str.{bytes_eq}
use Rattle.aoe_history.specs.declared.entry.Entry.{Entry}
use Rattle.aoe_transcript.specs.Counts.{sends}
use Rattle.aoe_transcript.specs.declared.summary.Summary.{Summary}

-- a command: the name of its host, and its ticket
abbrev pub Command : Type 0
Command = Bor (List ℕ) × ℕ

abbrev pub same_command : Command → Command → Bool
same_command a b = bytes_eq a.0.now b.0.now && nat_eq a.1 b.1

-- the set has the commands of which a frame was sent
abbrev pub HasSent : {S : Type 0} → HashSet Command S → List Entry → Type 0
HasSent seen h = (command : Command) → contains same_command seen command ≡ list_any (sends command.0.now command.1) h

-- each count of a history is below this
pub record AreBelow (limit : ℕ) (counts : Summary) : Type 0 where
  pub frames : counts.frames < limit
  pub sent : counts.sent < limit
  pub again : counts.again < limit
  pub arrived : counts.arrived < limit
  pub done : counts.done < limit
  pub lost : counts.lost < limit
  pub crashed : counts.crashed < limit
