-- What an event line says in which nothing is wrong behind good setup lines.
use Rattle.std.proofs.Common.{Contains, ℕ, ◌≡◌, ◌∙◌, Bool, true, false, not, ◌&&◌, ◌==◌, List, length, Some, None, refl, ap, subst}
use Rattle.std.specs.Prelude.{slice_get}
use Rattle.std.specs.List.{list_any}
use Rattle.std.proofs.lemmas.Bool.{and_from, and_parts, both_ways, eq-eqb, eqb-true, false_from_ne_true, not-false, or_from}
use Rattle.arrayvec.specs.ArrayVec.{ArrayVec}
use Rattle.aoe_base.specs.declared.address.Mac.{Mac}
use Rattle.aoe_base.specs.declared.address.TargetId.{TargetId}
use Rattle.aoe_base.specs.Addresses.{holds, source_of}
use Rattle.aoe_initiator.specs.declared.device.Attached.{Attached}
use Rattle.aoe_initiator.specs.HostLaw.{same_id}
use Rattle.aoe_history.specs.Setup.{is_port, shelf_of, slot_of, HostSetup, SlotSetup}
use Rattle.aoe_script.specs.declared.event.Event.{Event}
use Rattle.aoe_script.specs.declared.event.Event.TheVariants.{Read, Write, Flush, Identify, Config, Masks, Reserve, Tick, Deliver, Pass, Skip, Again, Inject, Fail, Stop, Crash}
use Rattle.aoe_script.specs.declared.refusal.Why.TheVariants.{Station, Unknown, Value}
use Rattle.aoe_script.specs.declared.setup.Setup.{Setup as Line}
use Rattle.aoe_script.specs.declared.setup.Setup.TheVariants.{Shelf, Attach}
use Rattle.aoe_script.specs.Rules.{asked_why, attaches, event_why, has_attached, has_device, has_port, is_attached, is_device, is_event, is_known, is_shelf_named, is_slot, known_why, named_why, same, unless}
use Rattle.aoe_sim_setup.specs.Layout.{devices_of, host_of, setup_of}
use Rattle.aoe_sim_setup.specs.Stations.{CanCome, IsAsked, IsShelf, IsThere}
use Rattle.aoe_sim_setup.proofs.GoodLines.{unless-none, within, AreGood}
use Rattle.aoe_sim_setup.proofs.HostLemmas.{device-at, host-called, host-from}
use Rattle.aoe_sim_setup.proofs.LineLemmas.{host-before, same-is, shelf-found, shelf-there, slot-before, slot-line, slot_in, ShelfLine}
use Rattle.aoe_sim_setup.proofs.ListLemmas.{any-passes, none-passes, position-some, Place}
use Rattle.aoe_sim_setup.proofs.SetupLemmas.{in-host, in-slot}
use Rattle.aoe_sim_setup.proofs.SlotLemmas.{number-there, slot-inside, slot-found, slot-from, slot-placed}
use Rattle.aoe_sim_setup.proofs.StationLemmas.{host-station, shelf-station, station-called}

pub why-parts : (lines : List Line) (event : Event) → event_why lines event ≡ None → (is_event event ≡ true) × (named_why lines event ≡ None)
unfolding event_why
why-parts lines event e = let u = unless-none (not (is_event event)) Value (named_why lines event) e in (not-false (is_event event) u.0, u.1)

-- a shelf line with this number that passes a test of names
record ShelfWith (lines : List Line) (major : ℕ) (p : ArrayVec ℕ → Bool) : Type 0 where
  name : ArrayVec ℕ
  line : ShelfLine lines name
  number : line.major ≡ major
  passes : p name ≡ true

attached-shelf : (lines : List Line) (host : ArrayVec ℕ) (dev : TargetId) → is_attached lines host dev ≡ true
    → ShelfWith lines dev.major (λ name. list_any (attaches host name dev.minor) lines)
attached-shelf lines host dev e = let s = any-passes (has_attached lines host dev) lines e in go s.at s.x s.there s.holds
  where
    go : (k : ℕ) (line : Line) → slice_get lines k ≡ Some line → has_attached lines host dev line ≡ true
        → ShelfWith lines dev.major (λ name. list_any (attaches host name dev.minor) lines)
    go k (Shelf name major ports mtu) e t =
        let p = and_parts (major == dev.major) _ t in
        let line : ShelfLine lines name = record { at = k; major = major; ports = ports; mtu = mtu; there = e } in
        record { name = name; line = line; number = eqb-true major dev.major p.0; passes = p.1 }
    go k _ e t = absurd cc

known-shelf : (lines : List Line) (dev : TargetId) → is_known lines dev ≡ true → ShelfWith lines dev.major (λ name. list_any (is_slot name dev.minor) lines)
known-shelf lines dev e = let s = any-passes (has_device lines dev) lines e in go s.at s.x s.there s.holds
  where
    go : (k : ℕ) (line : Line) → slice_get lines k ≡ Some line → has_device lines dev line ≡ true
        → ShelfWith lines dev.major (λ name. list_any (is_slot name dev.minor) lines)
    go k (Shelf name major ports mtu) e t =
        let p = and_parts (major == dev.major) _ t in
        let line : ShelfLine lines name = record { at = k; major = major; ports = ports; mtu = mtu; there = e } in
        record { name = name; line = line; number = eqb-true major dev.major p.0; passes = p.1 }
    go k _ e t = absurd cc

attach-at : (lines : List Line) (host shelf : ArrayVec ℕ) (minor : ℕ) → list_any (attaches host shelf minor) lines ≡ true
    → Place lines (Attach host shelf minor)
attach-at lines host shelf minor e = let s = any-passes (attaches host shelf minor) lines e in go s.at s.x s.there s.holds
  where
    go : (k : ℕ) (line : Line) → slice_get lines k ≡ Some line → attaches host shelf minor line ≡ true → Place lines (Attach host shelf minor)
    go k (Attach a b number) e t =
        let p = and_parts ((number == minor) && same a host) (same b shelf) t in
        let q = and_parts (number == minor) (same a host) p.0 in
        record { at = k; there = rw (same-is a host q.1, same-is b shelf p.1, eqb-true number minor q.0) at e }
    go k _ e t = absurd cc

-- what is known isn't unknown
known : (b : Bool) → unless (not b) Unknown None ≡ None → b ≡ true
known true e = refl
known false e = absurd cc

none-any : {X : Type 0} (p : X → Bool) (xs : List X) → ((i : ℕ) (x : X) → slice_get xs i ≡ Some x → p x ≡ true → ⊥) → list_any p xs ≡ false
none-any p xs never = false_from_ne_true _ (λ any. let s = any-passes p xs any in never s.at s.x s.there s.holds)

module _ (lines : List Line) (good : AreGood lines) where
  -- the shelf line that a slot line stands behind is the one with this name
  one-shelf : {name : ArrayVec ℕ} (x y : ShelfLine lines name) → x.major ≡ y.major
  one-shelf x y = let found = shelf-found lines good x in let same = shelf-found lines good y in cc

  is-asked : (host : ArrayVec ℕ) (dev : TargetId) → asked_why lines host dev ≡ None → IsAsked lines (setup_of lines) host dev
  is-asked host dev e =
      let s = attached-shelf lines host dev (known _ e) in
      let a = attach-at lines host s.name dev.minor s.passes in
      let g = good.attach a.at _ _ _ a.there in
      let h = host-before lines good host a.at g.host_there in
      let x = slot-before lines good s.name dev.minor a.at g.slot_there in
      let p = device-at lines good a.at a.there x in
      record {
        host = host_of lines host h.ports.items h.room h.dead;
        called = host-called lines good h.at host h.ports h.room h.dead h.there;
        device = position-some (λ (z : Attached). same_id z.id dev) (devices_of lines host) p.at _ p.there
            (and_from _ _ (eq-eqb x.shelf.major dev.major (one-shelf x.shelf s.line ∙ s.number)) (eq-eqb dev.minor dev.minor refl));
        station = host-station lines good h;
      }

  is-there : (dev : TargetId) → known_why lines dev ≡ None → IsThere lines (setup_of lines) dev
  is-there dev e =
      let s = known-shelf lines dev (known _ e) in
      let x = slot-line lines good s.name dev.minor s.passes in
      let number : x.shelf.major ≡ dev.major = one-shelf x.shelf s.line ∙ s.number in
      let called : (slot_in x).station.id ≡ dev = ap (λ n. let i : TargetId = record { major = n; minor = dev.minor } in i) number in
      record {
        slot = slot_in x;
        called = called;
        there = subst (λ z. slot_of (setup_of lines) z ≡ Some (slot_in x)) called (slot-found lines good (slot_in x) (slot-placed lines good x));
        number = rw (← s.number) (number-there lines good s.line);
        inside = subst (λ n. Contains (shelf_of (setup_of lines) n) (slot_in x)) number (slot-inside lines good x);
      }

  is-shelf : (name : ArrayVec ℕ) → unless (not (list_any (is_shelf_named name) lines)) Unknown None ≡ None → IsShelf lines name
  is-shelf name e =
      let s = shelf-there lines good name (known _ e) in
      record { at = s.at; major = s.major; ports = s.ports; mtu = s.mtu; there = s.there; found = shelf-station lines good s }

  -- an address of no line is the port of no station
  no-port : (port : Mac) → list_any (has_port port) lines ≡ false → is_port (setup_of lines) port ≡ false
  no-port port none = or_from _ _
      (none-any (λ (host : HostSetup). holds host.ports port) (setup_of lines).hosts
      (λ i host e t. let h = host-from lines i host e in
      both_ways _ (none-passes (has_port port) lines h.line.at _ none h.line.there) (in-host lines good host h port t)))
      (none-any (λ (slot : SlotSetup). holds slot.station.ports.items port) (setup_of lines).slots
      (λ i slot e t. let x = slot-from lines good slot (record { at = i; there = e }) in
      both_ways _ (none-passes (has_port port) lines x.line.shelf.at _ none x.line.shelf.there) (in-slot lines good slot x port t)))

  pub can-come : (event : Event) → (is_event event ≡ true) × (named_why lines event ≡ None) → CanCome lines (setup_of lines) event
  can-come (Read host dev at count) e = is-asked host dev e.1
  can-come (Write host dev at count fill) e = is-asked host dev e.1
  can-come (Flush host dev) e = is-asked host dev e.1
  can-come (Identify host dev) e = is-asked host dev e.1
  can-come (Config host dev ccmd text) e = is-asked host dev e.1
  can-come (Masks host dev edit dirs) e = is-asked host dev e.1
  can-come (Reserve host dev rcmd list) e = is-asked host dev e.1
  can-come (Tick ms) e = within 1 10000000 ms e.0
  can-come (Deliver frame station) e =
      let w = within 1 4294967295 frame (and_parts _ _ e.0).0 in
      (station-called lines good station (known _ e.1), w.0, w.1)
  can-come (Pass n) e = within 1 10000 n e.0
  can-come (Skip n) e = within 1 10000 n e.0
  can-come Again e = tt
  can-come (Inject bytes) e =
      let w = within 14 9018 (length bytes) e.0 in
      (no-port (source_of bytes) (unless-none _ Station None e.1).0, w.0, w.1)
  can-come (Fail dev which k) e = let w = within 1 1000 k (and_parts (is_device dev) _ e.0).1 in (is-there dev e.1, w.0, w.1)
  can-come (Stop dev which k mode) e = let w = within 1 1000 k (and_parts (is_device dev) _ e.0).1 in (is-there dev e.1, w.0, w.1)
  can-come (Crash shelf mode) e = is-shelf shelf e.1
