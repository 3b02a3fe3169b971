-- What the held commands are at most, and by what each is found.
use Rattle.std.specs.Prelude.{ℕ, ◌≡◌, ◌+◌, ◌-◌, ◌≤◌, ◌&&◌, ◌||◌, ◌⊎◌, Bool, false, true, max, nat_eq, nat_le, nat_lt, not, List, [], ◌∷◌, All}
use Rattle.std.specs.Bool.{beq}
use Rattle.std.specs.Ordering.{bool_cmp, nat_cmp, ordering_then}
use Rattle.std.specs.declared.cmp.Ordering.{Ordering}
use Rattle.std.specs.BTreeMap.{is_at}
use Rattle.std.specs.BTreeSet.{contains, BTreeSet}
use Rattle.std.specs.List.{list_any}
use Rattle.aoe_hold.specs.declared.command.Command.{Command}
use Rattle.aoe_hold.specs.declared.command.Kind.{Kind}
use Rattle.aoe_hold.specs.declared.command.Kind.TheVariants.{Read, Write, Other}
use Rattle.aoe_hold.specs.declared.keys.Key.{Key}
use Rattle.aoe_hold.specs.Commands.{is_flush, is_past, is_write}

-- how far the last sector of a command lies behind its first at most, and whether one may be a flush
pub record Extent : Type 0 where
  pub reach : ℕ
  pub flushes : Bool

-- what a command is found by: whether it writes, its first sector and its ticket
abbrev pub key_of : Command → Key
key_of c = record { writes = is_write c.kind; first = c.span.at; ticket = c.ticket }

-- the order of keys
abbrev pub key_cmp : Key → Key → Ordering
key_cmp a b = ordering_then (bool_cmp a.writes b.writes) (ordering_then (nat_cmp a.first b.first) (nat_cmp a.ticket.0 b.ticket.0))

abbrev pub HasKey : BTreeSet Key → Command → Type 0
HasKey keys c = contains key_cmp keys (key_of c) ≡ true

-- a command has no more sectors than the extent allows; it is no flush where there are none; and it is found by its key
pub record IsWithin (extent : Extent) (keys : BTreeSet Key) (c : Command) : Type 0 where
  pub reached : c.span.count ≤ extent.reach + 1
  pub unflushed : extent.flushes ≡ false → is_flush c.kind ≡ false
  pub keyed : HasKey keys c

abbrev pub Covers : Extent → BTreeSet Key → List Command → Type 0
Covers extent keys commands = All (IsWithin extent keys) commands

-- a key is that of a command
abbrev pub is_key_of : Key → Command → Bool
is_key_of key c = is_at (key_cmp (key_of c)) key

-- a key is of a command that writes, or of one that doesn't, and whose first sector lies from one on and ahead of another
abbrev pub lies_between : Bool → ℕ → ℕ → Key → Bool
lies_between writes first until key = beq key.writes writes && (nat_le first key.first && nat_lt key.first until)

-- each key of the first set is in the second
abbrev pub AreAmong : BTreeSet Key → BTreeSet Key → Type 0
AreAmong few many = (key : Key) → contains key_cmp few key ≡ true → contains key_cmp many key ≡ true

-- each key was there, or is that of a command
abbrev pub AddsOnly : BTreeSet Key → BTreeSet Key → Command → Type 0
AddsOnly old new c = (key : Key) → contains key_cmp new key ≡ true → (contains key_cmp old key ≡ true) ⊎ (is_key_of key c ≡ true)

-- each key is that of a held command
pub record AreKeysOf (keys : BTreeSet Key) (commands : List Command) : Type 0 where
  pub each : (key : Key) → contains key_cmp keys key ≡ true → list_any (is_key_of key) commands ≡ true

-- each key was there, and is none of a command that is past
pub record AreLeft (life now : ℕ) (commands : List Command) (old new : BTreeSet Key) : Type 0 where
  pub there : (key : Key) → contains key_cmp new key ≡ true → contains key_cmp old key ≡ true
  pub gone : (key : Key) → contains key_cmp new key ≡ true → All (λ c. is_past life now c ≡ true → is_key_of key c ≡ false) commands

-- none of the commands that are past has the ticket of this one
abbrev pub IsNonePast : ℕ → ℕ → List Command → Command → Type 0
IsNonePast life now commands c = All (λ e. is_past life now e ≡ true → nat_eq e.ticket.0 c.ticket.0 ≡ false) commands

abbrev pub no_extent : Extent
no_extent = record { reach = 0; flushes = false }

-- the extent of the commands that are still held
abbrev pub kept_extent : Extent → List Command → Extent
kept_extent extent [] = no_extent
kept_extent extent (c ∷ commands) = extent

-- the extent of one command more
abbrev pub widened : Extent → Command → Extent
widened extent c = record {
  reach = max extent.reach (c.span.count - 1);
  flushes = extent.flushes || is_flush c.kind;
}

-- of those within the extent a command of this kind conflicts only with such whose span overlaps its own
abbrev pub goes_by_span : Extent → Kind → Bool
goes_by_span extent Read = true
goes_by_span extent Other = true
goes_by_span extent Write = not extent.flushes
goes_by_span extent _ = false
