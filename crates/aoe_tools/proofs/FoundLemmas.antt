-- The list of devices, as the map keeps it.
use Rattle.std.proofs.Common.{ℕ, zero, suc, ◌≡◌, List, [], ◌∷◌, map, Option, Some, None, refl, sym, ap, ◌∙◌, inl, inr}
use Rattle.std.proofs.lemmas.Bool.{cases_Bool, cond_both}
use Rattle.std.proofs.lemmas.Option.{same_Some}
use Rattle.std.specs.Prelude.{slice_get, slice_set}
use Rattle.std.specs.Map.{lookup}
use Rattle.arrayvec.specs.ArrayVec.{ArrayVec}
use Rattle.indexmap.specs.IndexMap.{insert_entry, set_value_at}
use Rattle.aoe_base.specs.declared.address.Mac.{Mac}
use Rattle.aoe_base.specs.declared.address.TargetId.{TargetId}
use Rattle.aoe_initiator.specs.HostLaw.{same_id}
use Rattle.aoe_initiator.proofs.NameLemmas.{same-id}
use Rattle.aoe_tools.specs.Found.{AreNamed, noted, placed, ports_in, seen, with_port}
use Rattle.aoe_tools.specs.declared.found.Seen.{Seen}

abbrev pub Entry : Type 0
Entry = TargetId × Seen

abbrev pub devices : List Entry → List Seen
devices entries = map (λ (x : Entry). x.1) entries

abbrev pub unless_there : Option Seen → List Mac
unless_there None = []
unless_there (Some s) = s.ports.items

inserted : (entries : List Entry) (d : Seen) → AreNamed entries → devices (insert_entry same_id entries d.id d) ≡ placed (devices entries) d
inserted [] d named = refl
inserted (e ∷ entries) d named = elim (cases_Bool (same_id d.id e.0)) [
  | inl same ↦ rw (← named.0, same)
  | inr other ↦ rw (← named.0, other, inserted entries d named.1)
]

pub named-still : (entries : List Entry) (d : Seen) → AreNamed entries → AreNamed (insert_entry same_id entries d.id d)
named-still [] d named = (refl, tt)
named-still (e ∷ entries) d named = cond_both (same_id d.id e.0) ((e.0, d) ∷ entries) (e ∷ insert_entry same_id entries d.id d) AreNamed
    (λ same. (sym (same-id d.id e.0 same), named.1))
    (λ other. (named.0, named-still entries d named.1))

-- the ports that the map finds
ports-found : (entries : List Entry) (id : TargetId) → AreNamed entries → unless_there (lookup (same_id id) entries) ≡ ports_in (devices entries) id
ports-found [] id named = refl
ports-found (e ∷ entries) id named = elim (cases_Bool (same_id id e.0)) [
  | inl same ↦ rw (← named.0, same)
  | inr other ↦ rw (← named.0, other) (ports-found entries id named.1)
]

pub ports-are : (entries : List Entry) (id : TargetId) {list : List Seen} {o : Option Seen} {ports : List Mac} → AreNamed entries → devices entries ≡ list
    → o ≡ lookup (same_id id) entries
    → ports ≡ unless_there o → ports ≡ ports_in list id
ports-are entries id named view found is = is ∙ ap unless_there found ∙ rw view at (ports-found entries id named)

pub noted-is : (entries : List Entry) {entries' : List Entry} {list : List Seen} (id : TargetId) (port : Mac) (args : ArrayVec ℕ) {before ports : ArrayVec Mac}
    → AreNamed entries
    → devices entries ≡ list
    → before.items ≡ ports_in list id → ports.items ≡ with_port before.items port → entries' ≡ insert_entry same_id entries id (seen id ports.items args)
    → devices entries' ≡ noted list id port args
noted-is entries id port args {ports = ports} named view are is inserts =
    let places = rw are at is in
    rw (inserts, inserted entries (seen id ports.items args) named, view, places)

-- a value is written at its place
pub value-set : (entries : List Entry) (i : ℕ) (d : Seen) → devices (set_value_at entries i d) ≡ slice_set (devices entries) i d
value-set [] i d = refl
value-set (e ∷ entries) zero d = refl
value-set (e ∷ entries) (suc i) d = ap (λ l. e.1 ∷ l) (value-set entries i d)

pub named-after : (entries : List Entry) (i : ℕ) (s d : Seen) → slice_get (devices entries) i ≡ Some s → d.id ≡ s.id → AreNamed entries
    → AreNamed (set_value_at entries i d)
named-after [] i s d at same named = tt
named-after (e ∷ entries) zero s d at same named = (rw (same, ← (same_Some e.1 s at)) named.0, named.1)
named-after (e ∷ entries) (suc i) s d at same named = (named.0, named-after entries i s d at same named.1)
