-- Which lists stand in an image, in which format, and which lists a loss of power can leave.
use Rattle.std.specs.Prelude.{◌≡◌, ◌⊎◌, ◌+◌, ◌*◌, ◌%◌, ◌==◌, ℕ, Bool, true, false, Option, None, Some, IfSome, List, take, drop, get_or, Result, Ok, Err, if◌then◌else◌}
use Rattle.aoe_lists.specs.Settings.{Settings, empty_settings}
use Rattle.aoe_disk.specs.State.{Contents, DiskState, CanLeave, BothTell, sector}
use Rattle.aoe_keep.specs.Body.{decode}
use Rattle.aoe_keep.specs.declared.body.Written.{Written}
use Rattle.aoe_keep.specs.declared.place.Place.{Place}

abbrev pub next_turn : ℕ → ℕ
next_turn turn = (turn + 1) % 3

-- slot k has its gate in sector 8k and its body in the seven sectors after it. A gate is open where its first byte is 0xA7
abbrev pub is_open : List ℕ → ℕ → Bool
is_open image k = get_or (sector image (8 * k)) 0 0 == 0xa7

abbrev pub body : List ℕ → ℕ → List ℕ
body image k = take 3584 (drop (512 * (8 * k + 1)) image)

-- what a slot holds: nothing where its gate is closed, else what its body spells
abbrev pub slot : List ℕ → ℕ → Option (Option Written)
slot image k = if is_open image k then Some (decode (body image k)) else None

-- the lists of the two slots: those of the open one, of two open ones those whose turn follows the other's, and of none
-- open ones no lists yet. Or the slot that is bad: open before a body that spells nothing, or the second of two with one turn
abbrev pub choice : Option (Option Written) → Option (Option Written) → Result Settings ℕ
choice None None = Ok empty_settings
choice None (Some None) = Err 1
choice None (Some (Some b)) = Ok b.lists
choice (Some None) other = Err 0
choice (Some (Some a)) None = Ok a.lists
choice (Some (Some a)) (Some None) = Err 1
choice (Some (Some a)) (Some (Some b)) =
    if a.turn == next_turn b.turn then Ok a.lists
    else if b.turn == next_turn a.turn then Ok b.lists
    else Err 1

-- where the lists of two slots stand, and whether the gate of the other slot is closed
abbrev pub placement : Option (Option Written) → Option (Option Written) → Option Place × Bool
placement None (Some (Some b)) = (Some (record { slot = 1; turn = b.turn; format = b.format }), true)
placement (Some (Some a)) None = (Some (record { slot = 0; turn = a.turn; format = a.format }), true)
placement (Some (Some a)) (Some (Some b)) =
    if a.turn == next_turn b.turn
    then (Some (record { slot = 0; turn = a.turn; format = a.format }), false)
    else (Some (record { slot = 1; turn = b.turn; format = b.format }), false)
placement a b = (None, true)

-- the format of the slot that holds the lists, 0 where none does
abbrev pub format_at : Option Place → ℕ
format_at None = 0
format_at (Some p) = p.format

-- the format in which the lists of an image stand
abbrev pub format_found : List ℕ → ℕ
format_found image = format_at (placement (slot image 0) (slot image 1)).0

-- of a disk that tells its contents: every crash finds the lists in this format
abbrev pub AlwaysFindsFormat : DiskState → ℕ → Type 0
AlwaysFindsFormat disk format = IfSome disk.contents (λ c. (image : List ℕ) → CanLeave c image → format_found image ≡ format)

-- the lists that stand in an image, or the slot that is bad
abbrev pub found : List ℕ → Result Settings ℕ
found image = choice (slot image 0) (slot image 1)

-- a crash can leave these lists
pub record CanFind (c : Contents) (lists : Settings) : Type 0 where
  pub image : List ℕ
  pub left : CanLeave c image
  pub is : found image ≡ Ok lists

-- every crash leaves lists, which have P
abbrev pub Finds : (Settings → Type 0) → Contents → Type 0
Finds P c = (image : List ℕ) → CanLeave c image → (lists : Settings) × (found image ≡ Ok lists) × P lists

-- the old lists, the next ones, or lists that a crash could find before
abbrev pub IsOffered : Settings → Settings → Contents → Settings → Type 0
IsOffered old next before lists = (lists ≡ old) ⊎ ((lists ≡ next) ⊎ CanFind before lists)

-- of a disk that tells its contents: every crash finds these lists
abbrev pub AlwaysFinds : DiskState → Settings → Type 0
AlwaysFinds disk lists = IfSome disk.contents (Finds (λ l. l ≡ lists))

-- of a disk that tells its contents: every crash finds the old lists, the next ones, or lists that a crash could find before
abbrev pub FindsOffered : DiskState → DiskState → Settings → Settings → Type 0
FindsOffered before after old next = BothTell (λ a b. Finds (IsOffered old next a) b) before.contents after.contents
