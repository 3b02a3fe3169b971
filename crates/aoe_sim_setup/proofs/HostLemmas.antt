-- The hosts that good lines declare.
use Rattle.std.proofs.Common.{ℕ, ◌≡◌, ◌∙◌, inl, inr, true, false, List, Option, Some, nat_eq, refl, sym, ap, arith}
use Rattle.std.specs.Prelude.{slice_get, option_map}
use Rattle.std.specs.Str.{bytes_eq}
use Rattle.std.proofs.lemmas.Bool.{and_from, and_parts, both_ways, cases_Bool, cases_eq, eqb-true, false_from_ne_true}
use Rattle.std.proofs.lemmas.Option.{none-some, same_Some}
use Rattle.std.proofs.lemmas.Slice.Eq.{bytes_eq-Decides}
use Rattle.arrayvec.specs.ArrayVec.{ArrayVec}
use Rattle.aoe_base.specs.declared.address.Mac.{Mac}
use Rattle.aoe_base.proofs.CommonLemmas.{bytes-apart}
use Rattle.aoe_initiator.specs.declared.device.Attached.{Attached}
use Rattle.aoe_initiator.specs.HostLaw.{same_id}
use Rattle.aoe_history.specs.Setup.{host_called, is_called, HostSetup}
use Rattle.aoe_script.specs.declared.setup.Setup.{Setup as Line}
use Rattle.aoe_script.specs.declared.setup.Setup.TheVariants.{Host, Attach}
use Rattle.aoe_script.specs.Rules.{attaches, same}
use Rattle.aoe_sim_setup.specs.Layout.{about, attached_to, devices_of, host_in, host_of, setup_of, slot_named}
use Rattle.aoe_sim_setup.specs.Stations.{HasHosts}
use Rattle.aoe_sim_setup.proofs.GoodLines.{AreGood}
use Rattle.aoe_sim_setup.proofs.LineLemmas.{names-behind, same-is, same-self, shelves-differ, slot-before, slot-is, slot_in, HostLine, SlotLine}
use Rattle.aoe_sim_setup.proofs.ListLemmas.{apart-by, filtered-at, find-by, from-filtered, none-before, ordered-filtered, Ordered, Place}

-- ---- host lines

-- a host of the setup, by its line
pub record HostFrom (lines : List Line) (host : HostSetup) : Type 0 where
  pub name : ArrayVec ℕ
  pub line : HostLine lines name
  pub host_is : host_of lines name line.ports.items line.room line.dead ≡ host

pub host-at : (lines : List Line) (k : ℕ) (line : Line) (host : HostSetup) → slice_get lines k ≡ Some line → host_in lines line ≡ Some host
    → (x : HostFrom lines host) × (x.line.at ≡ k)
host-at lines k (Host name ports room dead) host there e =
    (record { name = name; line = record { at = k; ports = ports; room = room; dead = dead; there = there }; host_is = same_Some _ host e }, refl)
host-at lines k _ host there e = absurd (none-some host e)

pub host-from : (lines : List Line) (i : ℕ) (host : HostSetup) → slice_get (setup_of lines).hosts i ≡ Some host → HostFrom lines host
host-from lines i host e = let f = from-filtered (host_in lines) lines i host e in (host-at lines f.at f.x host f.there f.holds).0

-- ---- attach lines

record IsAttachLine (lines : List Line) (host : ArrayVec ℕ) (line : Line) (d : Attached) : Type 0 where
  shelf : ArrayVec ℕ
  minor : ℕ
  line_is : line ≡ Attach host shelf minor
  names : option_map about (slot_named lines shelf minor) ≡ Some d

attach-line : (lines : List Line) (host : ArrayVec ℕ) (line : Line) (d : Attached) → attached_to lines host line ≡ Some d → IsAttachLine lines host line d
attach-line lines host (Attach other shelf minor) d e = elim (cases_Bool (same other host)) [
  | inl is ↦ record { shelf = shelf; minor = minor; line_is = rw (same-is other host is); names = rw is at e }
  | inr is ↦ absurd (none-some d (rw is at e))
]
attach-line lines host _ d e = absurd (none-some d e)

-- a device of a host, by the lines that declare its slot
pub record DeviceFrom (lines : List Line) (d : Attached) : Type 0 where
  pub name : ArrayVec ℕ
  pub minor : ℕ
  pub line : SlotLine lines name minor
  pub device_is : about (slot_in line) ≡ d

module _ (lines : List Line) (good : AreGood lines) where
  device-by : (k : ℕ) {host : ArrayVec ℕ} {line : Line} {d : Attached} → slice_get lines k ≡ Some line → (a : IsAttachLine lines host line d)
      → (x : SlotLine lines a.shelf a.minor) × (about (slot_in x) ≡ d)
  device-by k {d = d} e a =
      let x = slot-before lines good a.shelf a.minor k (good.attach k _ _ _ (e ∙ ap Some a.line_is)).slot_there in
      (x, same_Some _ d (rw (slot-is lines good x) at a.names))

  pub device-from : (host : ArrayVec ℕ) (i : ℕ) (d : Attached) → slice_get (devices_of lines host) i ≡ Some d → DeviceFrom lines d
  device-from host i d e =
      let f = from-filtered (attached_to lines host) lines i d e in
      let a = attach-line lines host f.x d f.holds in
      let x = device-by f.at f.there a in
      record { name = a.shelf; minor = a.minor; line = x.0; device_is = x.1 }

  -- an attach line gives its host a device
  pub device-at : (k : ℕ) {host shelf : ArrayVec ℕ} {minor : ℕ} → slice_get lines k ≡ Some (Attach host shelf minor) → (x : SlotLine lines shelf minor)
      → Place (devices_of lines host) (about (slot_in x))
  device-at k {host} e x = filtered-at (attached_to lines host) lines k _ (about (slot_in x)) e (rw (same-self host, slot-is lines good x))

  -- two slot lines whose shelves have one number have one shelf
  one-name : {name other : ArrayVec ℕ} {m n : ℕ} (x : SlotLine lines name m) (y : SlotLine lines other n) → x.shelf.major ≡ y.shelf.major → name ≡ other
  one-name x y e = elim (cases_eq x.shelf.at y.shelf.at) [
    | inl same ↦ let there = x.shelf.there in let other = y.shelf.there in cc
    | inr differ ↦ absurd (shelves-differ lines good x.shelf.at y.shelf.at x.shelf.there y.shelf.there differ e)
  ]

  -- no two devices of a host have one name
  pub devices-apart : (host : ArrayVec ℕ) → Ordered (λ a b. same_id a.id b.id ≡ false) (devices_of lines host)
  devices-apart host = ordered-filtered _ (attached_to lines host) lines (λ i j a b lt p q c d s t.
      let x = attach-line lines host a c s in
      let y = attach-line lines host b d t in
      let l = device-by i p x in
      let m = device-by j q y in
      let new = none-before (attaches host y.shelf y.minor) lines i j _ lt (p ∙ ap Some x.line_is) (good.attach j _ _ _ (q ∙ ap Some y.line_is)).new in
      rw (← l.1, ← m.1) (false_from_ne_true _ (λ is.
      let id = and_parts (nat_eq l.0.shelf.major m.0.shelf.major) (nat_eq x.minor y.minor) is in
      let name : same x.shelf y.shelf ≡ true = rw (one-name l.0 m.0 (eqb-true _ _ id.0)) (same-self y.shelf) in
      both_ways _ new (and_from _ _ (and_from _ _ id.1 (same-self host)) name))))

  -- ---- names of hosts

  hosts-apart : Ordered (λ a b. bytes_eq a.name b.name ≡ false) (setup_of lines).hosts
  hosts-apart = ordered-filtered _ (host_in lines) lines (λ i j a b lt p q c d s t.
      let x = host-at lines i a c p s in
      let y = host-at lines j b d q t in
      let g = good.host y.0.line.at _ _ _ _ y.0.line.there in
      let new = names-behind lines good x.0.line.at y.0.line.at _ y.0.name (omega arith) x.0.line.there g.new_name in
      rw (← x.0.host_is, ← y.0.host_is) new.1)

  found-host : (i : ℕ) (host : HostSetup) (name : ArrayVec ℕ) → slice_get (setup_of lines).hosts i ≡ Some host → is_called host name ≡ true
      → host_called (setup_of lines) name ≡ Some host
  found-host i host name e called = rw (← (bytes_eq-Decides host.name name.items).0 called)
      (find-by (λ (a b : HostSetup). bytes_eq a.name b.name) (setup_of lines).hosts i host hosts-apart e ((bytes_eq-Decides host.name host.name).1 refl))

  pub host-called : (k : ℕ) (name : ArrayVec ℕ) (ports : ArrayVec Mac) (room dead : Option ℕ) → slice_get lines k ≡ Some (Host name ports room dead)
      → host_called (setup_of lines) name ≡ Some (host_of lines name ports.items room dead)
  host-called k name ports room dead e =
      let p = filtered-at (host_in lines) lines k _ (host_of lines name ports.items room dead) e refl in
      found-host p.at _ name p.there (same-self name)

  pub has-hosts : HasHosts lines (setup_of lines)
  has-hosts = record {
    line_called = host-called;
    called = found-host;
    names = λ i j a b name p q ne called. rw (← (bytes_eq-Decides a.name name.items).0 called)
        (apart-by (λ (x y : HostSetup). bytes_eq x.name y.name) _ (λ x y s. bytes-apart x.name y.name s) hosts-apart j i b a q p (λ s. ne (sym s)));
  }
