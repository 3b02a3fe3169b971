-- A frame that is handed to one station after another.
use Rattle.std.proofs.Common.{ℕ, suc, ◌≡◌, ◌≤◌, Bool, true, false, List, [], ◌∷◌, ◌++◌, length, map, take, drop, Option, Some, None, Result, Ok, Err, refl, sym, ap, ◌∙◌, append_assoc, arith, inl, inr}
use Rattle.std.specs.Prelude.{filter, slice_get}
use Rattle.std.specs.Option.{option_map_or}
use Rattle.std.proofs.lemmas.List.{append-nil, map-append, take-append-drop, take_all}
use Rattle.std.proofs.lemmas.List.Elements.{filter-append}
use Rattle.std.proofs.lemmas.Option.{slice_get_within}
use Rattle.aoe_base.specs.declared.address.Mac.{Mac}
use Rattle.aoe_frame.specs.Header.{fields}
use Rattle.aoe_net.specs.declared.refusal.NetRefusal.{NetRefusal}
use Rattle.aoe_history.specs.declared.entry.Entry.{Entry}
use Rattle.aoe_history.specs.Frames.{arriving}
use Rattle.aoe_history.specs.Groups.{Act, Follows, Group, IsBegun, Station}
use Rattle.aoe_history.specs.Groups.Act.{Hand, Lose}
use Rattle.aoe_history.specs.Groups.Station.{Shelf as ShelfStation, Host as HostStation}
use Rattle.aoe_history.specs.Setup.{Setup}
use Rattle.aoe_sim_setup.specs.Layout.{Placed}
use Rattle.aoe_world.specs.declared.act.At.{At}
use Rattle.aoe_world.specs.declared.act.At.TheVariants as at
use Rattle.aoe_world.specs.declared.place.Place.{Place}
use Rattle.aoe_world.specs.declared.sim.Sim.{Sim}
use Rattle.aoe_world.specs.Schedule.{addressees, gets, hand_each, handings, is_for, FollowsSome}
use Rattle.aoe_world.specs.Sim.{ArePlaces, Does, DoesAll, IsAt, IsInside, IsLeft, IsReady}
use Rattle.aoe_world.proofs.ActLemmas.{left-more}
use Rattle.aoe_world.proofs.ListLemmas.{take-next}
use Rattle.aoe_world.proofs.ScheduleKeeps.{hand-fresh}
use Rattle.aoe_initiator.proofs.ListLemmas.{get-there as there}

-- ACTS ONE AFTER ANOTHER

follows-more : {s : Setup} {act : Act} {n m : List Entry} (acts : List Act) (h : List Entry) → Follows s acts h n → Group s n act m
    → Follows s (acts ++ act ∷ []) h m
follows-more {m = m} [] h e g = (m, rw e at g, refl)
follows-more (a ∷ acts) h (k, first, rest) g = (k, first, follows-more acts k rest g)

follows-begun : (s : Setup) (acts : List Act) (act : Act) (more : List Act) (h n m : List Entry) → Follows s acts h n → IsBegun s n act m
    → FollowsSome s (acts ++ act ∷ more) h m
follows-begun s [] act more h n m e b = inl (rw e at b)
follows-begun s (a ∷ acts) act more h n m (k, first, rest) b = inr (k, first, follows-begun s acts act more k n m rest b)

-- one act, of which nothing counts of what was before but the history
pub does-all : {T : Type 0} (r : Result T NetRefusal) (s : Setup) (majors : List ℕ) (act : Act) (old mid new : Sim) → mid.run.entries ≡ old.run.entries
    → Does r s majors act mid new → DoesAll r s majors (act ∷ []) old new
does-all (Ok u) s majors act old mid new e (g, ready) = ((new.run.entries, rw e at g, refl), ready)
does-all (Err refusal) s majors act old mid new e left = left-more (λ m begun. inl begun) (rw e at left)

pub ready-same : {s : Setup} {majors : List ℕ} {old new : Sim} → new ≡ record old { frame = new.frame } → IsReady s majors old → IsReady s majors new
ready-same e ready = rw e (record { life = ready.life; lawful = ready.lawful; hosts_are = ready.hosts_are; shelves_are = ready.shelves_are })

-- PLACES

-- where a station is, one stands
pub at-inside : {s : Setup} {majors : List ℕ} {sim : Sim} → IsReady s majors sim → (place : At) (station : Station) → IsAt s majors place station
    → IsInside place sim
at-inside {s} {majors} ready (at.Shelf i) (ShelfStation major) e = omega (arith, slice_get_within majors i major e, ready.shelves_are.count)
at-inside {s} ready (at.Host i) (HostStation name) (host, e, called) = omega (arith, slice_get_within s.hosts i host e, ready.hosts_are.count)
at-inside ready _ _ e = absurd e

-- the station of a place
pub record StandsAt (s : Setup) (majors : List ℕ) (stations : List Placed) (k : ℕ) (place : Place) : Type 0 where
  pub placed : Placed
  pub there_is : slice_get stations k ≡ Some placed
  pub ports : place.ports.items ≡ placed.ports
  pub at_is : IsAt s majors place.at placed.station

pub stands-at : {s : Setup} {majors : List ℕ} {stations : List Placed} {places : List Place} (k : ℕ) (place : Place) → ArePlaces s majors stations places
    → slice_get places k ≡ Some place → StandsAt s majors stations k place
stands-at {stations = stations} {places = places} k place are e =
    let x = there stations k (omega (arith, slice_get_within places k place e, are.count)) in
    let facts = are.each k x.0 place x.1 e in
    record { placed = x.0; there_is = x.1; ports = facts.1; at_is = facts.2 }

-- ADDRESSEES

addressees-append : (f : List ℕ) (xs ys : List Placed) → addressees (xs ++ ys) f ≡ addressees xs f ++ addressees ys f
addressees-append f xs ys = rw (filter-append (gets f) xs ys, map-append (λ (p : Placed). p.station) (filter (gets f) xs) (filter (gets f) ys))

-- of what can be handed over, the addressees among these stations
abbrev pub among : List Placed → Option (List ℕ) → List Station
among stations o = option_map_or (λ f. addressees stations f) o []

among-append : (o : Option (List ℕ)) (xs ys : List Placed) → among (xs ++ ys) o ≡ among xs o ++ among ys o
among-append None xs ys = refl
among-append (Some f) xs ys = addressees-append f xs ys

-- whether a station with these ports gets it
abbrev pub tests : Option (List ℕ) → List Mac → Bool
tests o ports = option_map_or (λ f. is_for (fields f).dst (fields f).src ports) o false

among-one : (o : Option (List ℕ)) (p : Placed) → tests o p.ports ≡ true → among (p ∷ []) o ≡ p.station ∷ []
among-one None p t = absurd cc
among-one (Some f) p t = rw t

among-none : (o : Option (List ℕ)) (p : Placed) → tests o p.ports ≡ false → among (p ∷ []) o ≡ []
among-none None p t = refl
among-none (Some f) p t = rw t

pub handings-are : (o : Option (List ℕ)) (number : ℕ) (stations : List Placed)
    → option_map_or (λ f. hand_each number (addressees stations f)) o (Lose number ∷ []) ≡ hand_each number (among stations o)
handings-are None number stations = refl
handings-are (Some f) number stations = refl

each-with : (number : ℕ) (done : List Station) (st : Station) (rest : List Station)
    → hand_each number (done ++ st ∷ rest) ≡ map (Hand number) done ++ Hand number st ∷ map (Hand number) rest
each-with number [] st rest = refl
each-with number (x ∷ done) st rest = map-append (Hand number) (x ∷ done) (st ∷ rest)

-- HANDING TO EACH

-- what could be handed over at first
abbrev pub at_first : Setup → ℕ → Sim → Option (List ℕ)
at_first s number old = arriving s.life old.run.entries number

-- its addressees before the k-th station
abbrev pub so_far : Setup → List Placed → ℕ → Sim → ℕ → List Station
so_far s stations number old k = among (take k stations) (at_first s number old)

-- whether there are any
abbrev pub AreAny : ℕ → Bool → List Station → Type 0
AreAny number false stations = stations ≡ []
AreAny number true stations = hand_each number stations ≡ map (Hand number) stations

-- to the addressees before the k-th station the frame was handed, where it could be handed over at first, and it still can
pub record InHand (s : Setup) (majors : List ℕ) (stations : List Placed) (number k : ℕ) (any : Bool) (old now : Sim) : Type 0 where
  pub some : AreAny number any (so_far s stations number old k)
  pub follows : Follows s (map (Hand number) (so_far s stations number old k)) old.run.entries now.run.entries
  pub ready : IsReady s majors now
  pub fresh : arriving s.life now.run.entries number ≡ at_first s number old

pub in-hand-none : {s : Setup} {majors : List ℕ} {old : Sim} (stations : List Placed) (number : ℕ) → IsReady s majors old
    → InHand s majors stations number 0 false old old
in-hand-none {s} {old = old} stations number ready = record { some = none; follows = rw none; ready = ready; fresh = refl }
  where
    go : (o : Option (List ℕ)) → among [] o ≡ []
    go None = refl
    go (Some f) = refl

    none : so_far s stations number old 0 ≡ []
    none = go (at_first s number old)

module _ {s : Setup} {majors : List ℕ} {stations : List Placed} {number k : ℕ} {any : Bool} {old now : Sim}
    (h : InHand s majors stations number k any old now) where
  -- what the code tests
  pub in-hand-test : {ports same_ports : List Mac} {b t : Bool} → ports ≡ same_ports → b ≡ tests (arriving now.run.life now.run.entries number) ports → b ≡ t
      → tests (at_first s number old) same_ports ≡ t
  in-hand-test same is test = sym (rw (h.ready.life, h.fresh, same) at is) ∙ test

  module _ (p : Placed) (at_k : slice_get stations k ≡ Some p) where
    next : so_far s stations number old (suc k) ≡ so_far s stations number old k ++ among (p ∷ []) (at_first s number old)
    next = rw (take-next stations k p at_k) (among-append (at_first s number old) (take k stations) (p ∷ []))

    -- the station doesn't get it
    pub in-hand-same : tests (at_first s number old) p.ports ≡ false → InHand s majors stations number (suc k) any old now
    in-hand-same t = record { some = rw same h.some; follows = rw same h.follows; ready = h.ready; fresh = h.fresh }
      where
        same : so_far s stations number old (suc k) ≡ so_far s stations number old k
        same = next ∙ rw (among-none (at_first s number old) p t) (append-nil (so_far s stations number old k))

    module _ (t : tests (at_first s number old) p.ports ≡ true) where
      more : so_far s stations number old (suc k) ≡ so_far s stations number old k ++ p.station ∷ []
      more = rw (among-one (at_first s number old) p t) at next

      -- it got it
      pub in-hand-next : {later : Sim} → Group s now.run.entries (Hand number p.station) later.run.entries → IsReady s majors later
          → InHand s majors stations number (suc k) true old later
      in-hand-next {later} g ready = record {
        some = rw more (each-with number (so_far s stations number old k) p.station [] ∙ sym (map-append (Hand number) _ (p.station ∷ [])));
        follows = rw (more, map-append (Hand number) (so_far s stations number old k) (p.station ∷ []))
            (follows-more (map (Hand number) (so_far s stations number old k)) old.run.entries h.follows g);
        ready = ready;
        fresh = go (at_first s number old) h.fresh t;
      }
        where
          go : (o : Option (List ℕ)) → arriving s.life now.run.entries number ≡ o → tests o p.ports ≡ true → arriving s.life later.run.entries number ≡ o
          go None e t = absurd cc
          go (Some f) e t = hand-fresh s.life number f g e

      -- it got it in part
      pub in-hand-begun : {refusal : NetRefusal} {m : List Entry} → IsLeft s (IsBegun s now.run.entries (Hand number p.station)) refusal m
          → IsLeft s (FollowsSome s (handings s stations old.run.entries number) old.run.entries) refusal m
      in-hand-begun left =
          left-more
          (λ m b. rw (handings-are (at_first s number old) number stations, whole, each-with number (so_far s stations number old k) p.station rest)
          (follows-begun s _ (Hand number p.station) (map (Hand number) rest) old.run.entries now.run.entries m h.follows b))
          left
        where
          rest : List Station
          rest = among (drop (suc k) stations) (at_first s number old)

          whole : among stations (at_first s number old) ≡ so_far s stations number old k ++ p.station ∷ among (drop (suc k) stations) (at_first s number old)
          whole =
              ap (λ l. among l (at_first s number old)) (sym (take-append-drop (suc k) stations))
              ∙ among-append (at_first s number old) (take (suc k) stations) (drop (suc k) stations)
              ∙ ap (λ l. l ++ rest) more
              ∙ append_assoc (so_far s stations number old k) (p.station ∷ []) rest

-- all places were looked at: the frame was handed to some
pub in-hand-all : {s : Setup} {majors : List ℕ} {stations : List Placed} {number k : ℕ} {old now : Sim} → InHand s majors stations number k true old now
    → length stations ≤ k → Follows s (handings s stations old.run.entries number) old.run.entries now.run.entries
in-hand-all {s} {stations = stations} {number = number} {k = k} {old = old} h last =
    let all = take_all k stations last in
    let some : hand_each number (among stations (at_first s number old)) ≡ map (Hand number) (among stations (at_first s number old)) = rw all at h.some in
    rw (handings-are (at_first s number old) number stations, some) (rw all at h.follows)

-- or to none
pub in-hand-lost : {T : Type 0} (r : Result T NetRefusal) {s : Setup} {majors : List ℕ} {stations : List Placed} {number k : ℕ} {old now : Sim} (new : Sim)
    → InHand s majors stations number k false old now → length stations ≤ k → Does r s majors (Lose number) now new
    → DoesAll r s majors (handings s stations old.run.entries number) old new
in-hand-lost r {s} {majors} {stations} {number} {k} {old} {now} new h last d =
    let some : so_far s stations number old k ≡ [] = h.some in
    rw (handings-are (at_first s number old) number stations, rw (take_all k stations last) at some)
    (does-all r s majors (Lose number) old now new (rw some at h.follows) d)
