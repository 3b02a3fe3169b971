-- How long a history grows by acts of which not all came.
use Rattle.std.proofs.Common.{ℕ, List, [], ◌∷◌, Option, refl, inl, inr}
use Rattle.std.specs.Prelude.{All}
use Rattle.std.proofs.lemmas.List.Elements.{All-head, All-tail}
use Rattle.aoe_disk.specs.declared.loss.Loss.{Loss}
use Rattle.aoe_history.specs.declared.entry.Entry.{Entry}
use Rattle.aoe_history.specs.Frames.{arriving}
use Rattle.aoe_history.specs.Groups.{Act, ArriveAtSome, CrashSome, EntersSome, Got, IsBegun, TurnSome, TurnsSome}
use Rattle.aoe_history.specs.Groups.Act.{Crash, Hand}
use Rattle.aoe_history.specs.Groups.Station.{Shelf as ShelfStation}
use Rattle.aoe_history.specs.Setup.{shelf_of, HostSetup, Setup, SlotSetup}
use Rattle.aoe_world.proofs.AddsLemmas.{adds-more, adds-on, adds-same, either-way, ends, sends, turn-adds, Adds}
use Rattle.aoe_world.proofs.GroupLemmas.{enters-adds, enters-grows, group-aside, group-grows, grows-adds, grows-none, grows-on, is_aside, little, tells-aside, AreOfLine, Grows, GrowsByLine, IsAside, IsOfLine}
use Rattle.aoe_world.specs.Schedule.{FollowsSome}

-- ENTRIES

crash-some : (how : Loss) (slots : List SlotSetup) (h m : List Entry) → CrashSome how slots h m → Adds is_aside h m
crash-some how [] h m is = adds-same is
crash-some how (slot ∷ slots) h m (inl is) = adds-same is
crash-some how (slot ∷ slots) h m (inr (lists, rest)) = adds-on refl (crash-some how slots _ m rest)

arrive-some : (frame : ℕ) (f : List ℕ) (shelf slots : List SlotSetup) (h m : List Entry) → ArriveAtSome frame f shelf slots h m → Adds is_aside h m
arrive-some frame f shelf [] h m is = adds-same is
arrive-some frame f shelf (slot ∷ slots) h m (inl is) = adds-same is
arrive-some frame f shelf (slot ∷ slots) h m (inr (inl (fate, uncut, rest))) = adds-on refl (arrive-some frame f shelf slots _ m rest)
arrive-some frame f shelf (slot ∷ slots) h m (inr (inr (how, stop, rest))) = adds-on refl (crash-some how shelf _ m rest)

enters-some : (s : Setup) (h : List Entry) (act : Act) (m : List Entry) → EntersSome s h act m → Adds is_aside h m
enters-some s h (Crash major how) m x = crash-some how (shelf_of s major) h m x
enters-some s h (Hand frame (ShelfStation major)) m x =
    either-way (arriving s.life h frame) x (λ is. adds-same is) (λ f k. arrive-some frame f (shelf_of s major) (shelf_of s major) h m k)
enters-some s h _ m is = adds-same is

-- TURNS

turn-some : (host : HostSetup) (got : Option Got) (h m : List Entry) → TurnSome host got h m → Adds is_aside h m
turn-some host got h m (name, called, inl is) = adds-same is
turn-some host got h m (name, called, inr (inl g)) = ends (tells-aside {host = host}) name called got g
turn-some host got h m (name, called, inr (inr (mid, g, late, rest))) =
    adds-more _ _ mid _ (ends (tells-aside {host = host}) name called got g) (sends (tells-aside {host = host}) name called rest)

turns-some : (s : Setup) (hosts : List HostSetup) (got : Option Got) (h m : List Entry) → TurnsSome s hosts got h m → Adds is_aside h m
turns-some s [] got h m is = adds-same is
turns-some s (host ∷ hosts) got h m (inl turn) = turn-some host got h m turn
turns-some s (host ∷ hosts) got h m (inr (n, turn, rest)) = adds-more _ _ n _ (turn-adds tells-aside turn) (turns-some s hosts got n m rest)

-- GROUPS

begun-aside : (s : Setup) (h : List Entry) (act : Act) (m : List Entry) → IsAside act → IsBegun s h act m → Grows 0 0 h m
begun-aside s h act m aside (inl some) = grows-adds (enters-some s h act m some)
begun-aside s h act m aside (inr (got, entered, enters, turns)) =
    grows-adds (adds-more _ _ entered _ (enters-adds s h act got entered aside enters) (turns-some s s.hosts got entered m turns))

begun-grows : (s : Setup) (h : List Entry) (act : Act) (m : List Entry) → IsOfLine act → IsBegun s h act m → GrowsByLine h m
begun-grows s h act m of (inl some) = little (grows-adds (enters-some s h act m some))
begun-grows s h act m of (inr (got, entered, enters, turns)) =
    grows-on (enters-grows s h act got entered of enters) (grows-adds (turns-some s s.hosts got entered m turns))

pub some-aside : (s : Setup) (acts : List Act) (h m : List Entry) → All IsAside acts → FollowsSome s acts h m → Grows 0 0 h m
some-aside s [] h m all is = rw is grows-none
some-aside s (act ∷ acts) h m all (inl begun) = begun-aside s h act m (All-head IsAside act acts all) begun
some-aside s (act ∷ acts) h m all (inr (n, group, rest)) =
    grows-on (group-aside (All-head IsAside act acts all) group) (some-aside s acts n m (All-tail IsAside act acts all) rest)

one-some : (s : Setup) (act : Act) (h m : List Entry) → IsOfLine act → FollowsSome s (act ∷ []) h m → GrowsByLine h m
one-some s act h m of (inl begun) = begun-grows s h act m of begun
one-some s act h m of (inr (n, group, is)) = rw is (group-grows of group)

pub some-grows : (s : Setup) (acts : List Act) (h m : List Entry) → AreOfLine acts → FollowsSome s acts h m → GrowsByLine h m
some-grows s acts h m (inl all) some = little (some-aside s acts h m all some)
some-grows s acts h m (inr (act, is, of)) some = one-some s act h m of (rw is at some)
