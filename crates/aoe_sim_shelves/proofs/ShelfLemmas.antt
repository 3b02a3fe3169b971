-- What holds of the fields of a shelf in a run, after one target changed.
use Rattle.std.proofs.Common.{◌≡◌, inl, inr, ℕ, List, length, Some, refl, sym, ap, ◌∙◌, arith}
use Rattle.std.proofs.lemmas.Option.{get_or_from_slice_get}
use Rattle.std.proofs.Math.Seq.{map-set_same}
use Rattle.std.specs.Prelude.{slice_get}
use Rattle.aoe_cache.specs.Any.{any_state}
use Rattle.aoe_base.specs.declared.address.Mac.{Mac}
use Rattle.aoe_disk.specs.Memory.{state_of}
use Rattle.aoe_shelf.specs.Slot.{ChangesAt}
use Rattle.aoe_shelf.proofs.SlotLemmas.{get-after, length-changed}
use Rattle.aoe_target.specs.Device.{Holds, State}
use Rattle.aoe_target.specs.Law.{after}
use Rattle.aoe_target.specs.Receive.{fate_of}
use Rattle.aoe_target.specs.Turn.{Receives}
use Rattle.aoe_target.specs.Verdict.{verdict}
use Rattle.aoe_target.specs.declared.heard.Heard.{Heard}
use Rattle.aoe_sim_shelves.specs.declared.shelf.Stops.{Stops}
use Rattle.aoe_sim_shelves.specs.Shelf.{AreTargets, IsSimShelf, IsTargetOf}
use Rattle.aoe_sim_shelves.proofs.Apart.{changed-or}
use Rattle.aoe_sim_shelves.proofs.Words.{device, stations, Shelf, Target}

-- a change of an element that is two at once
pub both-changes : {X : Type 0} {i : ℕ} {P Q : X → X → Type 0} {xs ys : List X} → ChangesAt i P xs ys → ChangesAt i Q xs ys
    → ChangesAt i (λ a b. P a b × Q a b) xs ys
both-changes {X} {i} {P} {Q} {xs} {ys} c d =
    let first : c.before ≡ d.before = let p = c.found in let q = d.found in cc in
    let last : c.after ≡ d.after = let p = get-after i P xs ys c in let q = get-after i Q xs ys d in cc in
    record { before = c.before; after = c.after; found = c.found; others = c.others; change = (c.change, rw (first, last) d.change) }

-- a target keeps its name and its size, and something is known of it
pub record IsSameTarget (t u : Target) : Type 0 where
  pub station : u.station ≡ t.station
  pub sectors : (any_state state_of u.store).sectors ≡ (any_state state_of t.store).sectors
  pub room : (state_of u.keep.disk).sectors ≡ (state_of t.keep.disk).sectors
  pub known : (k : State) → Holds (device t) k → (z : State) × Holds (device u) z

target-kept : {major : ℕ} {ports : List Mac} {mtu : ℕ} {t u : Target} → IsSameTarget t u → IsTargetOf major ports mtu t → IsTargetOf major ports mtu u
target-kept same k =
    let known = same.known k.known k.holds in
    record {
      minor = rw same.station k.minor;
      station = rw (same.station, same.sectors) k.station;
      room = rw same.room k.room;
      known = known.0;
      holds = known.1;
    }

module _ {a b : Shelf} {i : ℕ} {Change : Target → Target → Type 0} (k : AreTargets a) (change : ChangesAt i Change a.targets b.targets)
    (rest : b ≡ record a { targets = b.targets }) (same : IsSameTarget change.before change.after) where
  -- each target is one that was there
  was : (j : ℕ) (t : Target) → slice_get b.targets j ≡ Some t → (u : Target) × (slice_get a.targets j ≡ Some u) × IsSameTarget u t
  was j t at = elim (changed-or change j t at) [
    | inl w ↦ (change.before, ap (slice_get a.targets) w.0 ∙ change.found, rw w.1 same)
    | inr w ↦ (t, w.1, record { station = refl; sectors = refl; room = refl; known = λ k h. (k, h) })
  ]

  targets-kept : AreTargets (record a { targets = b.targets })
  targets-kept = record {
    each = λ j t at. let u = was j t at in target-kept u.2 (k.each j u.0 u.1);
    apart = λ j l t u at bt ne.
        let v = was j t at in
        let w = was l u bt in
        rw (v.2.station, w.2.station) (k.apart j l v.0 w.0 v.1 w.1 ne);
  }

  pub shelf-kept : {major : ℕ} {old : List Stops} (new : List Stops) → IsSimShelf major a old → length new ≡ length old → IsSimShelf major b new
  shelf-kept new r count = record {
    number = rw rest r.number;
    count = count ∙ r.count ∙ sym (length-changed i Change a.targets b.targets change);
    targets = rw rest targets-kept;
  }

-- a target that is handed a frame is the same one
pub receives-same : {t u : Target} {f : List ℕ} {w : Heard} {out : List ℕ} → Receives (any_state state_of) state_of t u f w out → IsSameTarget t u
receives-same {t} {u} {f} {w} {out} r = record {
  station = r.station;
  sectors = grind (arith, r.call, r.idle);
  room = grind (arith, r.edit, r.unedited);
  known = λ k h. (after t.station f (verdict t.station k.lists f) (fate_of w out) k, (r.step k h).holds);
}

-- all targets keep what never changes of them
pub stations-kept : {i : ℕ} {Change : Target → Target → Type 0} {a b : List Target} (c : ChangesAt i Change a b) → c.after.station ≡ c.before.station
    → stations b ≡ stations a
stations-kept {i} {Change} {a} {b} c same =
    rw c.others (map-set_same (λ (t : Target). t.station) a i c.after c.before
    (same ∙ ap (λ (t : Target). t.station) (sym (get_or_from_slice_get a i c.before c.before c.found))))
