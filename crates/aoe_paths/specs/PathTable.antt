-- The paths between a host and a device, and which of them is taken next.
use Rattle.std.specs.Prelude.{ℕ, ◌≡◌, ◌+◌, ◌*◌, ◌/◌, ◌%◌, ◌<◌, ◌≤◌, List, [], ◌++◌, length, take, drop, replicate, position, Bool, false, true, not, Option, Some, None, option_and_then, option_map, unwrap_or, slice_get, slice_index_or, slice_set}
use Rattle.std.specs.Option.{ForSome}
use Rattle.aoe_base.specs.declared.address.Mac.{Mac}
use Rattle.aoe_base.specs.declared.counted.Millis.{Millis}
use Rattle.aoe_base.specs.Addresses.{IsDistinct}
use Rattle.aoe_paths.specs.Path.{PathState, after_trip}

-- the ports at both ends, the path that was chosen last, and for each path whether it is marked as
-- missed and the last trips on it in milliseconds, the latest first
pub record PathTable : Type 0 where
  pub locals : List Mac
  pub remotes : List Mac
  pub chosen : Option ℕ
  pub marks : List Bool
  pub trips : List (List ℕ)

abbrev pub path_count : PathTable → ℕ
path_count table = length table.locals * length table.remotes

-- no path was chosen, none has a mark or a trip
abbrev pub new_paths : List Mac → List Mac → PathTable
new_paths locals remotes = record {
  locals = locals;
  remotes = remotes;
  chosen = None;
  marks = replicate (length locals * length remotes) false;
  trips = replicate (length locals * length remotes) [];
}

-- the local and the remote port of a path, whose number is local * remotes + remote, all counted from 0
abbrev pub pair_at : List Mac → List Mac → ℕ → Option (Mac × Mac)
pair_at locals remotes p =
    option_and_then (λ local. option_map (λ remote. (local, remote)) (slice_get remotes (p % length remotes)))
    (slice_get locals (p / length remotes))

abbrev pub pair_of : PathTable → ℕ → Option (Mac × Mac)
pair_of table p = pair_at table.locals table.remotes p

-- the path after the one chosen last, in cyclic order; path 0 where none was chosen
abbrev pub path_after : ℕ → Option ℕ → ℕ
path_after count None = 0
path_after count (Some chosen) = (chosen + 1) % count

-- what a list has from a place on, in cyclic order
abbrev pub in_turn : {X : Type 0} → ℕ → List X → List X
in_turn start xs = drop start xs ++ take start xs

-- the path that is taken next, by the marks of all paths and the one chosen last: the first without
-- a mark in cyclic order; where all have one, the very next
abbrev pub next_path : List Bool → Option ℕ → ℕ
next_path marks chosen =
    let start = path_after (length marks) chosen in
    (start + unwrap_or (position (λ mark. not mark) (in_turn start marks)) 0) % length marks

abbrev pub trips_of : PathTable → ℕ → List ℕ
trips_of table p = slice_index_or table.trips p []

-- an answer came on path p: it has no mark, and its trip counts where one is given
abbrev pub after_answer : PathTable → ℕ → Option Millis → PathTable
after_answer table p trip = record table {
  marks = slice_set table.marks p false;
  trips = slice_set table.trips p (after_trip (trips_of table p) trip);
}

-- an answer on path p was missed: it has a mark
abbrev pub after_miss : PathTable → ℕ → PathTable
after_miss table p = record table { marks = slice_set table.marks p true }

-- what holds of a table at all times: it has one path for each pair of the ports at both ends, where
-- each end has one to four of them and none twice, and the path that was chosen last is one of them
pub record IsTable (locals remotes : List Mac) (chosen : Option ℕ) (paths : List PathState) : Type 0 where
  pub count : length paths ≡ length locals * length remotes
  pub local : 0 < length locals
  pub remote : 0 < length remotes
  pub few_locals : length locals ≤ 4
  pub few_remotes : length remotes ≤ 4
  pub locals_differ : IsDistinct locals
  pub remotes_differ : IsDistinct remotes
  pub inside : ForSome chosen (λ p. p < length paths)
