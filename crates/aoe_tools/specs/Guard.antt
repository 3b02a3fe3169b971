-- Which edits of a mask list are sent (AoEr11, "MAC Mask List"): those that leave the station that asks in, and add no group.
use Rattle.std.specs.Prelude.{ℕ, ◌&&◌, not, List, [], ◌∷◌, ◌++◌, drop, find, map, Option, Some, None, if◌then◌else◌, option_map}
use Rattle.std.specs.Option.{option_map_or}
use Rattle.aoe_base.specs.declared.address.Mac.{Mac}
use Rattle.aoe_base.specs.Addresses.{holds, is_individual}
use Rattle.aoe_lists.specs.Addresses.{without}
use Rattle.aoe_lists.specs.Settings.{is_open_to}
use Rattle.aoe_lists.specs.declared.dir.Dir.{Dir}
use Rattle.aoe_lists.specs.declared.masks.Directive.{Directive}
use Rattle.aoe_lists.specs.declared.masks.Directive.TheVariants.{Add, Delete}
use Rattle.aoe_tools.specs.Text.{pieces}
use Rattle.aoe_tools.specs.declared.end.Refusal.{Refusal}
use Rattle.aoe_tools.specs.declared.end.Refusal.TheVariants as refusal

-- a directive has its address behind two bytes
abbrev pub mac_in : List ℕ → Mac
mac_in dir = record { 0 = drop 2 dir }

-- the addresses of a mask list, by the arguments of a response
abbrev pub masks_in : List ℕ → List Mac
masks_in args = map mac_in (pieces 8 4 args)

-- what a directive makes of a list that has room for it
abbrev pub changed : List Mac → Dir → List Mac
changed list d = if d.add then (if holds list d.mac then list else list ++ d.mac ∷ []) else without list d.mac

-- what directives make of it, one after another
abbrev pub edited : List Mac → List Dir → List Mac
edited list [] = list
edited list (d ∷ dirs) = edited (changed list d) dirs

-- a directive, as a shelf reads it
abbrev pub directive_by : Dir → Directive
directive_by d = if d.add then Add d.mac else Delete d.mac

-- the first address of a group that they add (IEEE 802, "individual/group")
abbrev pub added_group : List Dir → Option Mac
added_group dirs = option_map (λ d. d.mac) (find (λ d. d.add && not (is_individual d.mac)) dirs)

-- why they aren't sent from a port: they add a group, or the list that they make shuts the port out
abbrev pub held_back : Mac → List Dir → List Mac → Option Refusal
held_back port dirs list =
    option_map_or (λ group. Some (refusal.Group group.0)) (added_group dirs)
    (if is_open_to (edited list dirs) port then None else Some (refusal.LocksOut port.0))
