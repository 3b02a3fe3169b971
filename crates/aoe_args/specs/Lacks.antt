-- What is wrong with the words of a command each of which is right by itself: one is missing, or there are too many, or two options exclude each other.
use Rattle.std.specs.Prelude.{ℕ, ◌≡◌, ◌<◌, ◌+◌, ◌%◌, ◌==◌, ◌&&◌, ◌||◌, Bool, true, false, is_some, List, length, Option, Some, None, if◌then◌else◌, codes}
use Rattle.std.specs.Str.{bytes_eq}
use Rattle.clap.specs.Words.{Text}
use Rattle.aoe_args.specs.Places.{Form, argument_behind, is_given, is_plain, needed_count, option_named, plain_before}
use Rattle.aoe_args.specs.Tools.{ccmd_with_text, rcmd_with_list}

-- how many words go by their place
abbrev pub plain_count : Form → List Text → ℕ
plain_count form words = plain_before form words (length words)

-- they are fewer than the command needs, and the next one would go to the argument of this name
pub record IsLacking (form : Form) (words : List Text) (name : Text) : Type 0 where
  pub few : plain_count form words < needed_count form.1
  pub next : argument_behind form.1 (plain_count form words) ≡ Some name

-- the word at this place is the last of them
pub record IsLastPlain (form : Form) (words : List Text) (n : ℕ) : Type 0 where
  pub plain : is_plain form words n ≡ true
  pub last : plain_before form words (n + 1) ≡ plain_count form words

-- what is missing behind so many words of `mirror`: SHELF SLOT FILE FILE MARK KEEP
abbrev pub mirror_follower : ℕ → Option Text
mirror_follower count =
    if count == 3 then Some (codes "files")
    else if count == 4 then Some (codes "mark")
    else if count == 5 then Some (codes "keep")
    else None

-- what is missing behind an action of a command: what it sets, edits or clears
unfoldable pub action_follower : Text → Text → Option Text
action_follower command action =
    if bytes_eq command (codes "cfg") && is_some (ccmd_with_text action) then Some (codes "text")
    else if bytes_eq command (codes "mask") && bytes_eq action (codes "edit") then Some (codes "dirs")
    else if bytes_eq command (codes "reserve") && is_some (rcmd_with_list action) then Some (codes "macs")
    else if bytes_eq command (codes "keep") && bytes_eq action (codes "clear") then Some (codes "list")
    else None

-- what is missing behind so many words, the last of which is this one: each FILE has its KEEP, and each action what it needs
unfoldable pub follower : Text → ℕ → Text → Option Text
follower command count word =
    if bytes_eq command (codes "answer") then (if count == 3 then Some (codes "keep") else None)
    else if bytes_eq command (codes "capture") then (if count == 3 then Some (codes "keep") else None)
    else if bytes_eq command (codes "serve") then (if count % 2 == 0 then Some (codes "keep") else None)
    else if bytes_eq command (codes "mirror") then mirror_follower count
    else if bytes_eq command (codes "switch") then (if count == 1 then Some (codes "ports") else None)
    else if count == 2 then action_follower command word
    else None

-- the most words that a command takes by their place, where that isn't one for each argument: a number and two FILEs for each of 16 slots, 16 ports, a device with an action and 64 addresses
unfoldable pub most_words : Text → Option ℕ
most_words command =
    if bytes_eq command (codes "answer") then Some 4
    else if bytes_eq command (codes "capture") then Some 4
    else if bytes_eq command (codes "serve") then Some 33
    else if bytes_eq command (codes "mirror") then Some 6
    else if bytes_eq command (codes "switch") then Some 16
    else if bytes_eq command (codes "mask") then Some 66
    else if bytes_eq command (codes "reserve") then Some 66
    else None

-- ---- options

-- a command takes one of these two options at most: what is synced at once isn't buffered, and a tap file has no other end and no VXLAN
abbrev pub are_exclusive : Text → Text → Bool
are_exclusive one other =
    bytes_eq one (codes "cache") && bytes_eq other (codes "durable")
    || bytes_eq one (codes "tap") && (bytes_eq other (codes "local") || bytes_eq other (codes "peers") || bytes_eq other (codes "vxlan"))
    || (bytes_eq one (codes "one-tap") || bytes_eq one (codes "two-tap"))
    && (bytes_eq other (codes "one") || bytes_eq other (codes "two") || bytes_eq other (codes "vxlan"))

-- and both are given
pub record AreExclusive (words : List Text) (one other : Text) : Type 0 where
  pub exclusive : are_exclusive one other ≡ true
  pub first : is_given one words ≡ true
  pub second : is_given other words ≡ true

-- the first of these two options names one end of a link, and the second the end that it needs beside it; or the first says which part of a file is read, and the second names the file
abbrev pub needs : Text → Text → Bool
needs one other =
    bytes_eq one (codes "local") && bytes_eq other (codes "peers") || bytes_eq one (codes "peers") && bytes_eq other (codes "local")
    || bytes_eq one (codes "one") && bytes_eq other (codes "two") || bytes_eq one (codes "two") && bytes_eq other (codes "one")
    || bytes_eq one (codes "one-tap") && bytes_eq other (codes "two-tap") || bytes_eq one (codes "two-tap") && bytes_eq other (codes "one-tap")
    || (bytes_eq one (codes "skip") || bytes_eq one (codes "count")) && bytes_eq other (codes "input")

-- and the second isn't given
pub record IsAlone (words : List Text) (one other : Text) : Type 0 where
  pub needed : needs one other ≡ true
  pub first : is_given one words ≡ true
  pub second : is_given other words ≡ false

-- the command is over a link, whose ends these two options name, or this one, and none of the three is given
pub record IsUnlinked (form : Form) (words : List Text) (local peers tap : Text) : Type 0 where
  pub linked : is_some (option_named form.1 tap) ≡ true
  pub first : is_given local words ≡ false
  pub second : is_given peers words ≡ false
  pub third : is_given tap words ≡ false

-- the command has this option, and it isn't given
pub record IsUnset (form : Form) (words : List Text) (name : Text) : Type 0 where
  pub known : is_some (option_named form.1 name) ≡ true
  pub absent : is_given name words ≡ false
