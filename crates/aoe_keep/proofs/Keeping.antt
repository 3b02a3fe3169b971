-- What a keep shows of what it knows.
use Rattle.std.proofs.Common.{◌≡◌, ℕ, Bool, not, Option, Some, None, IfSome, is_some, arith}
use Rattle.std.proofs.lemmas.Option.{IfSome_then}
use Rattle.aoe_lists.specs.Settings.{Settings}
use Rattle.aoe_disk.specs.State.{Contents, DiskState, BothTell}
use Rattle.aoe_keep.specs.Body.{format_2}
use Rattle.aoe_keep.specs.Found.{Finds, FindsOffered, AlwaysFindsFormat}
use Rattle.aoe_keep.specs.Stages.{IsKept, IsInterrupted, IsReplaced, spare, turn_after, is_unplaced}
use Rattle.aoe_keep.specs.declared.place.Place.{Place}
use Rattle.aoe_keep.proofs.Told.{both_map}

pub offered_of : (before after : DiskState) (place : Option Place) (is_closed : Bool) (now old next : Settings) → now ≡ old
    → BothTell (IsInterrupted place is_closed now next) before.contents after.contents → FindsOffered before after old next
offered_of before after place is_closed now old next e told = rw (← e) (both_map _ _ before.contents after.contents (λ x y i. i.finds) told)

-- after a replacement the slot that was spare holds the lists
pub kept_replaced : (place : Option Place) (slot turn format : ℕ) (is_closed : Bool) (lists next : Settings) (c : Option Contents) → slot ≡ spare place
    → turn ≡ turn_after place → format ≡ format_2.number → is_closed ≡ is_unplaced place → lists ≡ next → IfSome c (IsReplaced place next)
    → IfSome c (IsKept (Some (record { slot = slot; turn = turn; format = format })) is_closed lists)
kept_replaced place slot turn format is_closed lists next c es et ef ec el told =
    IfSome_then c told (λ x r. rw (es, et, ef, ec, el) r.kept)

pub unplaced : (place : Option Place) (b : Bool) → is_some place ≡ not b → b ≡ is_unplaced place
unplaced None b e = grind arith
unplaced (Some p) b e = grind arith

pub finds_replaced : (place : Option Place) (next : Settings) (c : Option Contents) → IfSome c (IsReplaced place next) → IfSome c (Finds (λ l. l ≡ next))
finds_replaced place next c told = IfSome_then c told (λ x r. r.finds)

pub formats_replaced : (place : Option Place) (next : Settings) (disk : DiskState) → IfSome disk.contents (IsReplaced place next)
    → AlwaysFindsFormat disk format_2.number
formats_replaced place next disk told = IfSome_then disk.contents told (λ x r. r.format)
