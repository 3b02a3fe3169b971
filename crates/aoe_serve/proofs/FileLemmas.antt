-- Files and their keeps become slots, and leave them.
use Rattle.std.proofs.Common.{◌≡◌, ◌≤◌, ◌<◌, ◌+◌, ℕ, zero, suc, List, [], ◌∷◌, ◌++◌, length, Option, Some, None, Bool, false, refl, sym, ap, subst, ◌∙◌, arith}
use Rattle.std.proofs.lemmas.Bool.{ne_eqb}
use Rattle.std.specs.Prelude.{◌==◌, All, IsSome}
use Rattle.aoe_base.specs.declared.address.Mac.{Mac}
use Rattle.aoe_cache.specs.Any.{any_disk, any_state}
use Rattle.aoe_cache.specs.declared.any.AnyStore.{AnyStore}
use Rattle.aoe_disk.specs.State.{DiskState}
use Rattle.aoe_keep.specs.Keep.{HasMounted, IsRefused}
use Rattle.aoe_keep.specs.declared.refusal.MountRefusal.{MountRefusal}
use Rattle.aoe_serve.specs.Backing.{lasts_of, over_file}
use Rattle.aoe_serve.specs.Slots.{Slot, slot_of, slots_of}
use Rattle.aoe_shelf.specs.Shelf.{has_minor, refusal_of}
use Rattle.aoe_target.specs.Mounted.{Mounted}
use Rattle.aoe_target.specs.declared.station.Station.{Station}
use Rattle.aoe_serve.specs.Exporting.{AtFirst, HasRun, IsExported, HasRunAndSynced, Outside, Tells}
use Rattle.aoe_serve.specs.Files.{AreBack, AreGivenBack, AreSeated, GivesBack, IsLeft, IsSeated, IsSeatedOn, Leaves, OverFiles, named}
use Rattle.aoe_serve.proofs.BackingLemmas.{over-disk, over-sectors, over-state}
use Rattle.aoe_serve.proofs.EndLemmas.{over_finds, run_ends, served_in}
use Rattle.std.proofs.lemmas.List.{length-map}
use Rattle.aoe_serve.specs.declared.plan.RunEnd.{RunEnd}
use Rattle.aoe_serve.specs.declared.plan.ExportRefusal.{ExportRefusal}
use Rattle.aoe_serve.specs.declared.plan.ExportRefusal.TheVariants as why
use Rattle.aoe_serve.specs.declared.plan.Exported.{Exported}
use Rattle.aoe_serve.specs.declared.plan.Plan.{Plan}

-- a slot's disks at the end of a list
abbrev ends_with : {D : Type 0} → List (Option D) → D → D → List (Option D)
ends_with disks file keep = disks ++ Some file ∷ Some keep ∷ []

-- One slot more.

module _ {D : Type 0} (state : D → DiskState) (most : Option ℕ) where
  seated-more : (name : ℕ → ℕ → Station) (minor : ℕ) (disks : List (Option D)) (targets : List (Mounted (AnyStore D) D)) (file keep : D)
      (t : Mounted (AnyStore D) D) → AreSeated state most name minor disks targets
      → IsSeatedOn state (name (minor + length targets)) (over_file most file) keep t
      → AreSeated state most name minor (ends_with disks file keep) (targets ++ t ∷ [])
  seated-more name minor disks [] file keep t none on = (
    file,
    keep,
    [],
    ap (λ (xs : List (Option D)). ends_with xs file keep) none,
    subst (λ (n : ℕ). IsSeatedOn state (name n) (over_file most file) keep t) (let same : minor + 0 ≡ minor = omega arith in same) on,
    refl,
  )
  seated-more name minor disks (u ∷ targets) file keep t (f, k, others, is, s, rest) on = (
    f,
    k,
    ends_with others file keep,
    ap (λ (xs : List (Option D)). ends_with xs file keep) is,
    s,
    seated-more name (minor + 1) others targets file keep t rest
        (subst (λ (n : ℕ). IsSeatedOn state (name n) (over_file most file) keep t)
        (let same : minor + suc (length targets) ≡ minor + 1 + length targets = omega arith in same) on),
  )

  back-more : (disks : List (Option D)) (targets : List (Mounted (AnyStore D) D)) (file keep : D) (t : Mounted (AnyStore D) D)
      → AreBack state most disks targets → IsLeft state most file keep t
      → AreBack state most (ends_with disks file keep) (targets ++ t ∷ [])
  back-more disks [] file keep t none left = (file, keep, [], ap (λ (xs : List (Option D)). ends_with xs file keep) none, left, refl)
  back-more disks (u ∷ targets) file keep t (f, k, others, is, l, rest) left =
      (f, k, ends_with others file keep, ap (λ (xs : List (Option D)). ends_with xs file keep) is, l, back-more others targets file keep t rest left)

  -- the keep behind slots that were added and left again is refused
  refused-last : (name : ℕ → ℕ → Station) (minor : ℕ) (disks disks' : List (Option D)) (targets : List (Mounted (AnyStore D) D)) (refusal : MountRefusal)
      (file file' keep keep' : D)
      → AreSeated state most name minor disks targets → AreBack state most disks' targets → file' ≡ file → IsRefused state keep refusal keep'
      → GivesBack state (length targets) refusal (ends_with disks file keep) (ends_with disks' file' keep')
  refused-last name minor disks disks' [] refusal file file' keep keep' none none' same why =
      let P : List (Option D) → Type 0 = λ xs. GivesBack state 0 refusal (ends_with xs file keep) (ends_with disks' file' keep') in
      let Q : List (Option D) → Type 0 = λ ys. GivesBack state 0 refusal (ends_with [] file keep) (ends_with ys file' keep') in
      subst P (sym none) (subst Q (sym none') (record { file_same = same; why = why }, refl))
  refused-last name minor disks disks' (t ∷ targets) refusal file file' keep keep' (f, k, others, is, s, rest) (f', k', others', is', l, rest') same why =
      let P : List (Option D) → Type 0 = λ xs. GivesBack state (suc (length targets)) refusal (ends_with xs file keep) (ends_with disks' file' keep') in
      let Q : List (Option D) → Type 0 =
      λ ys. GivesBack state (suc (length targets)) refusal (ends_with (Some f ∷ Some k ∷ others) file keep) (ends_with ys file' keep') in
      let M : D → Type 0 = λ d. HasMounted (state k) (state d) t.keep.lists in
      subst P (sym is) (subst Q (sym is') (
        record {
          file_same = l.store ∙ ap (λ (x : AnyStore D). any_disk x) s.store_is ∙ over-disk most f;
          lists = t.keep.lists;
          mounted = subst M (sym l.disk) s.mounted;
        },
        refused-last name (minor + 1) others others' targets refusal file file' keep keep' rest rest' same why,
      ))

-- a keep in front of these disks was refused
refused-front : {D : Type 0} (state : D → DiskState) (n : ℕ) (refusal : MountRefusal) (disks disks' behind : List (Option D))
    → GivesBack state n refusal disks disks' → GivesBack state n refusal (disks ++ behind) (disks' ++ behind)
refused-front state zero refusal (Some f ∷ Some k ∷ disks)
    (Some f' ∷ Some k' ∷ disks') behind back = (back.0, ap (λ (xs : List (Option _)). xs ++ behind) back.1)
refused-front state (suc n) refusal (Some f ∷ Some k ∷ disks)
    (Some f' ∷ Some k' ∷ disks') behind back = (back.0, refused-front state n refusal disks disks' behind back.1)
refused-front state zero refusal (Some f ∷ Some k ∷ disks) (Some f' ∷ None ∷ disks') behind back = absurd back
refused-front state zero refusal (Some f ∷ Some k ∷ disks) (Some f' ∷ []) behind back = absurd back
refused-front state zero refusal (Some f ∷ Some k ∷ disks) (None ∷ disks') behind back = absurd back
refused-front state zero refusal (Some f ∷ Some k ∷ disks) [] behind back = absurd back
refused-front state zero refusal (Some f ∷ None ∷ disks) disks' behind back = absurd back
refused-front state zero refusal (Some f ∷ []) disks' behind back = absurd back
refused-front state zero refusal (None ∷ disks) disks' behind back = absurd back
refused-front state zero refusal [] disks' behind back = absurd back
refused-front state (suc n) refusal (Some f ∷ Some k ∷ disks) (Some f' ∷ None ∷ disks') behind back = absurd back
refused-front state (suc n) refusal (Some f ∷ Some k ∷ disks) (Some f' ∷ []) behind back = absurd back
refused-front state (suc n) refusal (Some f ∷ Some k ∷ disks) (None ∷ disks') behind back = absurd back
refused-front state (suc n) refusal (Some f ∷ Some k ∷ disks) [] behind back = absurd back
refused-front state (suc n) refusal (Some f ∷ None ∷ disks) disks' behind back = absurd back
refused-front state (suc n) refusal (Some f ∷ []) disks' behind back = absurd back
refused-front state (suc n) refusal (None ∷ disks) disks' behind back = absurd back
refused-front state (suc n) refusal [] disks' behind back = absurd back

given-front : {D : Type 0} (state : D → DiskState) (e : ExportRefusal) (disks disks' behind : List (Option D)) → AreGivenBack state e disks disks'
    → AreGivenBack state e (disks ++ behind) (disks' ++ behind)
given-front state why.NoMemory disks disks' behind back = ap (λ (xs : List (Option _)). xs ++ behind) back
given-front state (why.Keep slot refusal) disks disks' behind back = refused-front state slot refusal disks disks' behind back

-- The minor of the next slot.

unused : {D : Type 0} (state : D → DiskState) (most : Option ℕ) (major : ℕ) (ports : List Mac) (mtu minor m : ℕ) (disks : List (Option D))
    (targets : List (Mounted (AnyStore D) D))
    → AreSeated state most (named major ports mtu) minor disks targets → minor + length targets ≤ m → has_minor targets m ≡ false
unused state most major ports mtu minor m disks [] seated above = refl
unused state most major ports mtu minor m disks (t ∷ targets) (f, k, others, is, s, rest) above =
    let at : t.station.id.minor ≡ minor = ap (λ (x : Station). x.id.minor) s.station in
    let other : (t.station.id.minor == m) ≡ false = ne_eqb t.station.id.minor m (λ e. omega (arith, e, at, above)) in
    rw other (unused state most major ports mtu (minor + 1) m others targets rest (omega (arith, above)))

pub free : {D : Type 0} (state : D → DiskState) (most : Option ℕ) (major : ℕ) (ports : List Mac) (mtu minor slot : ℕ) (disks : List (Option D))
    (targets : List (Mounted (AnyStore D) D))
    → AreSeated state most (named major ports mtu) minor disks targets → length targets ≡ slot → slot < 16 → refusal_of targets (minor + slot) ≡ None
free state most major ports mtu minor slot disks targets seated at room =
    let few : (length targets == 16) ≡ false = ne_eqb (length targets) 16 (λ e. omega (arith, e, at, room)) in
    let none : has_minor targets (minor + slot) ≡ false = unused state most major ports mtu minor (minor + slot) disks targets seated (omega (arith, at)) in
    rw few (rw none refl)

-- The disks of the last slot, behind those of the others.

pub last-pair : {D : Type 0} {all : List (Option D)} (others : List (Option D)) {pair : List (Option D)} {file keep : D}
    → all ≡ others ++ pair → pair ≡ Some file ∷ Some keep ∷ [] → all ≡ ends_with others file keep
last-pair {D} others parts pair_is = parts ∙ ap (λ (xs : List (Option D)). others ++ xs) pair_is

-- the disk of a store that was over the file
pub unused-disk : {D : Type 0} (most : Option ℕ) {store : AnyStore D} {file file' : D} → store ≡ over_file most file → file' ≡ any_disk store → file' ≡ file
unused-disk {D} most {store} {file} is closed = closed ∙ ap (λ (x : AnyStore D). any_disk x) is ∙ over-disk most file

module _ {D : Type 0} (state : D → DiskState) {all : List (Option D)} (others : List (Option D)) (file keep : D)
    (joined : all ≡ ends_with others file keep) where
  -- the slot is added behind the others
  pub seated-then : (most : Option ℕ) (name name' : ℕ → ℕ → Station) (minor slot : ℕ) (store : AnyStore D) (middle new : List (Mounted (AnyStore D) D))
      → store ≡ over_file most file → length middle ≡ slot → name' ≡ name
      → AreSeated state most name minor others middle → IsSeated state (name' (minor + slot)) store keep middle new → AreSeated state most name minor all new
  seated-then most name name' minor slot store middle new is at same seated s =
      let P : List (Option D) → Type 0 = λ xs. AreSeated state most name minor xs new in
      let Q : List (Mounted (AnyStore D) D) → Type 0 = λ ts. AreSeated state most name minor (ends_with others file keep) ts in
      let on : IsSeatedOn state (name' (minor + slot)) (over_file most file) keep s.target =
      subst (λ (x : AnyStore D). IsSeatedOn state (name' (minor + slot)) x keep s.target) is s.seated in
      let here : IsSeatedOn state (name' (minor + length middle)) (over_file most file) keep s.target =
      subst (λ (n : ℕ). IsSeatedOn state (name' (minor + n)) (over_file most file) keep s.target) (sym at) on in
      let there : IsSeatedOn state (name (minor + length middle)) (over_file most file) keep s.target =
      subst (λ (n : ℕ → ℕ → Station). IsSeatedOn state (n (minor + length middle)) (over_file most file) keep s.target) same here in
      subst P (sym joined) (subst Q (sym s.added) (seated-more state most name minor others middle file keep s.target seated there))

  -- nothing is run for another cause
  pub given-then : (e : ExportRefusal) (others' : List (Option D)) (file' : D) → file' ≡ file → AreGivenBack state e others others'
      → AreGivenBack state e all (ends_with others' file' keep)
  given-then e others' file' same back =
      let P : List (Option D) → Type 0 = λ xs. AreGivenBack state e xs (ends_with others' file' keep) in
      let Q : D → Type 0 = λ f. AreGivenBack state e (ends_with others file keep) (ends_with others' f keep) in
      subst P (sym joined) (subst Q (sym same) (given-front state e others others' (Some file ∷ Some keep ∷ []) back))

  -- its keep is refused
  pub refused-then : (most : Option ℕ) (name : ℕ → ℕ → Station) (minor : ℕ) (refusal : MountRefusal) (others' : List (Option D))
      (targets : List (Mounted (AnyStore D) D)) (file' keep' : D)
      → AreSeated state most name minor others targets → AreBack state most others' targets → file' ≡ file → IsRefused state keep refusal keep'
      → GivesBack state (length targets) refusal all (ends_with others' file' keep')
  refused-then most name minor refusal others' targets file' keep' seated back same why =
      let P : List (Option D) → Type 0 = λ xs. GivesBack state (length targets) refusal xs (ends_with others' file' keep') in
      subst P (sym joined) (refused-last state most name minor others others' targets refusal file file' keep keep' seated back same why)

pub back-then : {D : Type 0} (state : D → DiskState) (most : Option ℕ) (others' pair' : List (Option D)) (file' keep' : D)
    (old new : List (Mounted (AnyStore D) D))
    → pair' ≡ Some file' ∷ Some keep' ∷ []
    → Leaves state most file' keep' old new → AreBack state most others' new → AreBack state most (others' ++ pair') old
back-then {D} state most others' pair' file' keep' old new is l back =
    let P : List (Option D) → Type 0 = λ xs. AreBack state most (others' ++ xs) old in
    let Q : List (Mounted (AnyStore D) D) → Type 0 = λ ts. AreBack state most (ends_with others' file' keep') ts in
    subst P (sym is) (subst Q (sym l.last) (back-more state most others' new file' keep' l.target back l.left))

pub all-there : {D : Type 0} (others' pair' : List (Option D)) (file' keep' : D) → pair' ≡ Some file' ∷ Some keep' ∷ [] → All IsSome others'
    → All IsSome (others' ++ pair')
all-there others' pair' file' keep' is there = subst (λ (xs : List (Option _)). All IsSome (others' ++ xs)) (sym is) (behind others' there)
  where
    behind : (xs : List (Option _)) → All IsSome xs → All IsSome (ends_with xs file' keep')
    behind [] there zero d below = refl
    behind [] there (suc zero) d below = refl
    behind [] there (suc (suc k)) d below = absurd (omega (arith, below))
    behind (x ∷ xs) there zero d below = there zero d (omega arith)
    behind (x ∷ xs) there (suc k) d below = behind xs (λ j e less. there (suc j) e (omega (arith, less))) k d (omega (arith, below))

-- R of the first before and after, where nothing changed
pub same-first : {X : Type 0} (R : X → X → Type 0) → ((x : X) → R x x) → (xs : List X) → AtFirst R xs xs
same-first R same [] = tt
same-first R same (x ∷ xs) = (same x, refl)

-- From the mounting to the giving back.

over-files : {D : Type 0} (state : D → DiskState) (most : Option ℕ) (name : ℕ → ℕ → Station) (minor : ℕ) (disks disks' : List (Option D))
    (first last : List (Mounted (AnyStore D) D)) → length last ≡ length first
    → AreSeated state most name minor disks first → AreBack state most disks' last
    → OverFiles state most name minor disks disks' (slots_of (lasts_of most) (any_state state) state first)
    (slots_of (lasts_of most) (any_state state) state last)
over-files {D} state most name minor disks disks' [] [] count seated back =
    let P : List (Option D) → Type 0 = λ xs. OverFiles state most name minor xs disks' [] [] in
    let Q : List (Option D) → Type 0 = λ xs. OverFiles state most name minor [] xs [] [] in
    subst P (sym seated) (subst Q (sym back) tt)
over-files state most name minor disks disks' [] (b ∷ last) count seated back = absurd (omega (arith, count))
over-files state most name minor disks disks' (a ∷ first) [] count seated back = absurd (omega (arith, count))
over-files {D} state most name minor disks disks' (a ∷ first) (b ∷ last) count (file, keep, others, is, s, seated) (file', keep', others', is', l, back) =
    let P : List (Option D) → Type 0 =
    λ xs. OverFiles state most name minor xs disks' (slots_of (lasts_of most) (any_state state) state (a ∷ first))
    (slots_of (lasts_of most) (any_state state) state (b ∷ last)) in
    let Q : List (Option D) → Type 0 = λ xs. OverFiles state most name minor (Some file ∷ Some keep ∷ others) xs
    (slots_of (lasts_of most) (any_state state) state (a ∷ first)) (slots_of (lasts_of most) (any_state state) state (b ∷ last)) in
    subst P (sym is) (subst Q (sym is') (
      record {
        station = s.station ∙ ap (name minor) (over-sectors state most file);
        store = ap (any_state state) s.store_is ∙ over-state state most file;
        lasts = refl;
        mounted = s.mounted;
        file_back = l.under;
        keep_back = ap state l.disk;
      },
      over-files state most name (minor + 1) others others' first last (omega (arith, count)) seated back,
    ))

-- a run adds no slot and takes none
pub run-count : {T D S K L : Type 0} (lasts : Bool) (store : T → DiskState) (keep : D → DiskState) (t : Tells S K L) (p : Plan) (e : RunEnd)
    (a b : Outside S K L)
    (old new : List (Mounted T D)) → HasRun t p e a b (slots_of lasts store keep old) (slots_of lasts store keep new) → length new ≡ length old
run-count lasts store keep t p e a b old new ran =
    let f = slot_of lasts store keep in
    sym (length-map new f) ∙ (served_in t p e a b (slots_of lasts store keep old) (slots_of lasts store keep new) ran).slots.count ∙ length-map old f

-- the same where the shelf says of itself how much is held back and how its slots are named
pub files-over : {D : Type 0} (state : D → DiskState) {most most' : Option ℕ} {name name' : ℕ → ℕ → Station} (minor : ℕ) (disks disks' : List (Option D))
    (first last : List (Mounted (AnyStore D) D)) → most' ≡ most → name' ≡ name → length last ≡ length first
    → AreSeated state most' name' minor disks first → AreBack state most' disks' last
    → OverFiles state most name minor disks disks' (slots_of (lasts_of most') (any_state state) state first)
    (slots_of (lasts_of most') (any_state state) state last)
files-over state {most} {most'} {name} {name'} minor disks disks' first last room same count seated back =
    let first_slots = slots_of (lasts_of most') (any_state state) state first in
    let last_slots = slots_of (lasts_of most') (any_state state) state last in
    subst (λ (m : Option ℕ). OverFiles state m name minor disks disks' first_slots last_slots) room
    (subst (λ (n : ℕ → ℕ → Station). OverFiles state most' n minor disks disks' first_slots last_slots) same
    (over-files state most' name' minor disks disks' first last count seated back))

-- a shelf was given these slots, ran, and gave them back
pub exported : {D S K L : Type 0} {state : D → DiskState} {most : Option ℕ} {name : ℕ → ℕ → Station} {minor : ℕ} {t : Tells S K L} {p : Plan}
    {e : Exported} {a b : Outside S K L} {disks disks' : List (Option D)} {first last : List Slot} → OverFiles state most name minor disks disks' first last
    → HasRunAndSynced t p e a b first last → IsExported state most name minor t p e a b disks disks'
exported {state} {most} {name} {minor} {t} {p} {e} {a} {b} {disks} {disks'} {first} {last} over run = record {
  first = first;
  last = last;
  over = over;
  run = run;
  ends = run_ends t p e.end a b first run.middle last run.results run.ran (over_finds state most name minor disks disks' first last over) run.synced;
}
