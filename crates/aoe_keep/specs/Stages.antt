-- What is known of a keep's disk, after each of the device calls that replace its lists.
use Rattle.std.specs.Prelude.{◌≡◌, ◌≢◌, ◌⊎◌, ◌+◌, ◌-◌, ◌*◌, ◌<◌, ◌≤◌, ℕ, Bool, true, false, Option, None, Some, List, Result, OnOk}
use Rattle.aoe_lists.specs.Settings.{Settings, empty_settings}
use Rattle.aoe_disk.specs.State.{Contents, CanLeave, HasShape, is_loose}
use Rattle.aoe_disk.specs.Sectors.{Touches}
use Rattle.aoe_keep.specs.Body.{decode, format_2}
use Rattle.aoe_keep.specs.Found.{body, is_open, next_turn, format_found, Finds, IsOffered}
use Rattle.aoe_keep.specs.declared.body.Written.{Written}
use Rattle.aoe_keep.specs.declared.place.Place.{Place}

-- none of n sectors from lo on is loose
abbrev pub NoneLoose : Contents → ℕ → ℕ → Type 0
NoneLoose c lo n = (s : ℕ) → lo ≤ s → s < lo + n → is_loose c.loose s ≡ false

-- the gate is closed, and a crash leaves it so
pub record StaysClosed (c : Contents) (k : ℕ) : Type 0 where
  pub gate : is_open c.bytes k ≡ false
  pub kept : NoneLoose c (8 * k) 1

-- the body spells a turn and lists, and a crash leaves it so
pub record StaysBody (c : Contents) (k : ℕ) (b : Written) : Type 0 where
  pub spells : decode (body c.bytes k) ≡ Some b
  pub kept : NoneLoose c (8 * k + 1) 7

-- the gate is open before such a body, and a crash leaves both so
pub record StaysOpen (c : Contents) (k : ℕ) (b : Written) : Type 0 where
  pub gate : is_open c.bytes k ≡ true
  pub kept : NoneLoose c (8 * k) 1
  pub body : StaysBody c k b

-- the slot that the next lists go to: the one that doesn't hold the present lists
abbrev pub spare : Option Place → ℕ
spare None = 0
spare (Some p) = 1 - p.slot

-- the turn that the next lists get
abbrev pub turn_after : Option Place → ℕ
turn_after None = 0
turn_after (Some p) = next_turn p.turn

-- whatever a crash does, the present lists stand; where no slot holds them they are empty, and slot 1 is closed
abbrev pub IsSteady : Option Place → Settings → Contents → Type 0
IsSteady None lists c = (lists ≡ empty_settings) × StaysClosed c 1
IsSteady (Some p) lists c = (p.slot < 2) × (p.turn < 3) × StaysOpen c p.slot (record { format = p.format; turn = p.turn; lists = lists })

-- a turn that isn't the present lists' own
abbrev pub IsOtherTurn : Option Place → ℕ → Type 0
IsOtherTurn None turn = Unit {0}
IsOtherTurn (Some p) turn = (turn < 3) × (turn ≢ p.turn)

-- a body in the spare slot that can be chosen or passed over, and is never bad
pub record IsChoosable (place : Option Place) (c : Contents) (b : Written) : Type 0 where
  pub body : StaysBody c (spare place) b
  pub turn : IsOtherTurn place b.turn

-- the spare slot. Where its gate is known to be closed it is closed now, and a crash leaves it so or opens it before a ready
-- body. Else it has a ready body, behind a gate that is open or that a crash can open
abbrev pub IsSpare : Option Place → Bool → Contents → Type 0
IsSpare place true c = (is_open c.bytes (spare place) ≡ false) × (StaysClosed c (spare place) ⊎ ((b : Written) × IsChoosable place c b))
IsSpare place false c = (b : Written) × IsChoosable place c b × ((is_loose c.loose (8 * spare place) ≡ true) ⊎ (is_open c.bytes (spare place) ≡ true))

-- between two replacements
pub record IsKept (place : Option Place) (is_closed : Bool) (lists : Settings) (c : Contents) : Type 0 where
  pub steady : IsSteady place lists c
  pub spare : IsSpare place is_closed c

-- after the second call: the spare slot stays closed, so nothing that is written behind its gate counts
pub record IsCleared (place : Option Place) (lists : Settings) (c : Contents) : Type 0 where
  pub steady : IsSteady place lists c
  pub closed : StaysClosed c (spare place)

-- the body of the next lists
abbrev pub next_body : Option Place → Settings → Written
next_body place next = record { format = format_2.number; turn = turn_after place; lists = next }

-- after the fourth call: the next lists stand behind the closed gate
pub record IsStaged (place : Option Place) (lists next : Settings) (c : Contents) : Type 0 where
  pub cleared : IsCleared place lists c
  pub body : StaysBody c (spare place) (next_body place next)

-- after the fifth call: the gate is open
pub record IsOpened (place : Option Place) (lists next : Settings) (c : Contents) : Type 0 where
  pub steady : IsSteady place lists c
  pub gate : is_open c.bytes (spare place) ≡ true
  pub body : StaysBody c (spare place) (next_body place next)

-- after the sixth call the other slot is the spare one: its gate is known to be closed where it held nothing
abbrev pub is_unplaced : Option Place → Bool
is_unplaced None = true
is_unplaced (Some p) = false

abbrev pub next_place : Option Place → Option Place
next_place place = Some (record { slot = spare place; turn = turn_after place; format = format_2.number })

pub record IsReplaced (place : Option Place) (next : Settings) (c : Contents) : Type 0 where
  pub kept : IsKept (next_place place) (is_unplaced place) next c
  pub finds : Finds (λ l. l ≡ next) c
  pub format : (image : List ℕ) → CanLeave c image → format_found image ≡ format_2.number

-- after a call that failed
pub record IsInterrupted (place : Option Place) (is_closed : Bool) (lists next : Settings) (before after : Contents) : Type 0 where
  pub kept : IsKept place is_closed lists after
  pub finds : Finds (IsOffered lists next before) after

-- a write of a slot's gate
pub record WritesGate {T E : Type 0} (sectors k : ℕ) (opens : Bool) (result : Result T E) (old new : Contents) : Type 0 where
  pub shape : HasShape sectors old
  pub touches : Touches (8 * k) 1 old new
  pub loose : is_loose new.loose (8 * k) ≡ true
  pub gate : OnOk result (is_open new.bytes k ≡ opens)

-- a write of a slot's body
pub record WritesBody {T E : Type 0} (k : ℕ) (piece : List ℕ) (result : Result T E) (old new : Contents) : Type 0 where
  pub touches : Touches (8 * k + 1) 7 old new
  pub body : OnOk result (body new.bytes k ≡ piece)
