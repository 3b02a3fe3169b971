-- A keep that was mounted, and what is left of it.
use Rattle.std.proofs.Common.{◌≡◌, ◌⊎◌, ℕ, Bool, true, false, if◌then◌else◌, List, [], ◌∷◌, ◌==◌, length, Option, Some, None, IfSome, OnOk, OnErr, Result, Ok, Err, is_err, ap, inl, inr, refl, sym, subst, ◌∙◌, arith, ne_eqb}
use Rattle.std.proofs.Math.Bool.{beq}
use Rattle.std.proofs.lemmas.Bool.{both_ways, cases_Bool, cases_eq}
use Rattle.aoe_base.specs.Faults.{Rose}
use Rattle.aoe_base.specs.declared.failure.Failed.{Failed}
use Rattle.aoe_base.specs.declared.address.Mac.{Mac}
use Rattle.aoe_base.proofs.CommonLemmas.{rose-later}
use Rattle.aoe_disk.specs.State.{Contents, DiskState, BothTell}
use Rattle.aoe_disk.specs.Calls.{IsRun}
use Rattle.aoe_disk.specs.Sectors.{Touches}
use Rattle.aoe_keep.specs.Found.{AlwaysFinds, AlwaysFindsFormat, Finds, FindsOffered, format_at, format_found, placement, slot}
use Rattle.aoe_keep.specs.Keep.{Kept, KeepsOthers, Mounts}
use Rattle.aoe_keep.specs.declared.place.Place.{Place}
use Rattle.aoe_keep.specs.declared.refusal.MountRefusal.{MountRefusal}
use Rattle.aoe_keep.proofs.Offers.{finds_offered}
use Rattle.aoe_lists.specs.Settings.{Settings, empty_settings, same_settings}
use Rattle.aoe_lists.proofs.ChangeLemmas.{same_settings-Decides}
use Rattle.aoe_upkeep.specs.Upkeep.{Change, Changed, Changes, Holds, IsCaused, Says, Shows, cleared, clearing, ended_by, is_clear, is_disk_fault, line, marked, marking}
use Rattle.aoe_upkeep.specs.declared.change.Part.{Part}
use Rattle.aoe_upkeep.specs.declared.change.Part.TheVariants as part
use Rattle.aoe_upkeep.specs.declared.stop.UpkeepStop.{UpkeepStop}
use Rattle.aoe_upkeep.specs.declared.stop.UpkeepStop.TheVariants as stop
use Rattle.aoe_upkeep.proofs.Causes.{mounted-causes}

-- the format that stands where the lists do
stands-so : (place : Option Place) (is_closed : Bool) (a : Option Contents) → IfSome a (λ c. placement (slot c.bytes 0) (slot c.bytes 1) ≡ (place, is_closed))
    → IfSome a (λ c. format_at place ≡ format_found c.bytes)
stands-so place is_closed None stands = tt
stands-so place is_closed (Some c) stands = sym (ap (λ p. format_at p.0) stands)

pub holds-of : (before after : DiskState) (place : Option Place) (is_closed : Bool) (lists : Settings) → Mounts before after lists → AlwaysFinds after lists
    → AlwaysFindsFormat after (format_at place) → IfSome before.contents (λ c. placement (slot c.bytes 0) (slot c.bytes 1) ≡ (place, is_closed))
    → Holds before after (format_at place) lists
holds-of before after place is_closed lists mounts finds formats stands = record {
  mounts = mounts;
  finds = finds;
  formats = formats;
  stands = stands-so place is_closed before.contents stands;
}

-- ---- what is said of a keep

pub shows-of : {D : Type 0} (state : D → DiskState) (ended : Result Unit UpkeepStop) (held held' : Option (List ℕ)) (disk disk' : D) (format : ℕ)
    (lists : Settings)
    → Holds (state disk) (state disk') format lists → Says ended held held' (line format lists) → Shows state ended held held' disk disk'
shows-of state (Ok done) held held' disk disk' format lists holds says = record { format = format; lists = lists; holds = holds; said = says }
shows-of state (Err stop.SinkFault) held held' disk disk' format lists holds says = record { format = format; lists = lists; holds = holds; said = says }
shows-of state (Err stop.NoMemory) held held' disk disk' format lists holds says = record { format = format; lists = lists; holds = holds; said = says }
shows-of state (Err stop.Failed) held held' disk disk' format lists holds says = says
shows-of state (Err (stop.Keep r)) held held' disk disk' format lists holds says = absurd says

says-in : (ended : Result Unit UpkeepStop) (held held' : Option (List ℕ)) (text : List ℕ) → Says ended held held' text → (r : MountRefusal)
    → ended ≡ Err (stop.Keep r) → ⊥
says-in (Ok done) held held' text says r e = absurd cc
says-in (Err stop.SinkFault) held held' text says r e = absurd cc
says-in (Err stop.NoMemory) held held' text says r e = absurd cc
says-in (Err stop.Failed) held held' text says r e = absurd says
says-in (Err (stop.Keep q)) held held' text says r e = absurd says

says-fine : (ended : Result Unit UpkeepStop) (held held' : Option (List ℕ)) (text : List ℕ) → Says ended held held' text → is_disk_fault ended ≡ true → ⊥
says-fine (Ok done) held held' text says e = absurd cc
says-fine (Err stop.SinkFault) held held' text says e = absurd cc
says-fine (Err stop.NoMemory) held held' text says e = absurd cc
says-fine (Err stop.Failed) held held' text says e = absurd says
says-fine (Err (stop.Keep q)) held held' text says e = absurd says

pub shown-causes : {D : Type 0} (state : D → DiskState) (ended : Result Unit UpkeepStop) (held held' : Option (List ℕ)) (text : List ℕ) (disk disk' : D)
    (m : DiskState)
    (lists : Settings) → Mounts (state disk) m lists → Says ended held held' text → IsCaused state ended disk disk'
shown-causes state ended held held' text disk disk' m lists mounts says =
    mounted-causes state disk disk' ended m lists mounts (says-in ended held held' text says)
    (λ e. absurd (says-fine ended held held' text says e))

-- ---- changes

others-same : (d : DiskState) → KeepsOthers d d
others-same d = record { contents = same d.contents }
  where
    same : (a : Option Contents) → BothTell (Touches 0 16) a a
    same None = tt
    same (Some c) = record { size = refl; marks = refl; same = λ s out. refl; kept = λ s out e. e }

-- what every crash finds after a call that failed
either : (old next : Settings) (a : Option Contents) → IfSome a (Finds (λ l. (l ≡ old) ⊎ ((l ≡ next) ⊎ (l ≡ old))))
    → IfSome a (Finds (λ l. (l ≡ old) ⊎ (l ≡ next)))
either old next None finds = tt
either old next (Some c) finds = λ image left. let f = finds image left in (f.0, f.1, one f.0 f.2)
  where
    one : (l : Settings) → (l ≡ old) ⊎ ((l ≡ next) ⊎ (l ≡ old)) → (l ≡ old) ⊎ (l ≡ next)
    one l (inl e) = inl e
    one l (inr (inl e)) = inr e
    one l (inr (inr e)) = inl e

ended-in : (w : Result Unit Failed) (r : MountRefusal) → ended_by w ≡ Err (stop.Keep r) → ⊥
ended-in (Ok done) r e = absurd cc
ended-in (Err failed) r e = absurd cc

-- a change whose calls ended so. Where Still is so it has nothing to do
module _ {D : Type 0} (state : D → DiskState) (change : Change) (Still : Type 0) (disk : D) (old new : Kept D)
    (holds : Holds (state disk) (state old.disk) (format_at old.place) old.lists)
    (decide : Still ⊎ (Still → ⊥))
  where
    module _ (quiet : Still → (change.lists old.lists ≡ old.lists) × (change.format (format_at old.place) old.lists ≡ format_at old.place))
        (loud : (Still → ⊥) → change.format (format_at old.place) old.lists ≡ 2)
        (apart : (Still → ⊥) → change.lists old.lists ≡ old.lists → change.format (format_at old.place) old.lists ≡ format_at old.place → ⊥)
      where
        quiet-change : Still → new ≡ old → Changed change (state disk) (state new.disk)
        quiet-change still same =
            let q = quiet still in
            let same-disk : state new.disk ≡ state old.disk = ap (λ k. state k.disk) same in
            record {
              mounted = state old.disk;
              format = format_at old.place;
              lists = old.lists;
              holds = holds;
              finds = subst (λ (d : DiskState). AlwaysFinds d (change.lists old.lists)) (sym same-disk)
                  (subst (λ (l : Settings). AlwaysFinds (state old.disk) l) (sym q.0) holds.finds);
              formats = subst (λ (d : DiskState). AlwaysFindsFormat d (change.format (format_at old.place) old.lists)) (sym same-disk)
                  (subst (λ (f : ℕ). AlwaysFindsFormat (state old.disk) f) (sym q.1) holds.formats);
              others = subst (λ (d : DiskState). KeepsOthers (state old.disk) d) (sym same-disk) (others-same (state old.disk));
              still = λ l f. same-disk;
            }

        loud-change : (Still → ⊥) → AlwaysFinds (state new.disk) (change.lists old.lists) × AlwaysFindsFormat (state new.disk) 2
            → KeepsOthers (state old.disk) (state new.disk) → Changed change (state disk) (state new.disk)
        loud-change not finds others = record {
          mounted = state old.disk;
          format = format_at old.place;
          lists = old.lists;
          holds = holds;
          finds = finds.0;
          formats = subst (λ (f : ℕ). AlwaysFindsFormat (state new.disk) f) (sym (loud not)) finds.1;
          others = others;
          still = λ l f. absurd (apart not l f);
        }

        pub changes-of : (w : Result Unit Failed) → (Still → (new ≡ old) × (is_err w ≡ false))
            → ((Still → ⊥) → OnOk w (AlwaysFinds (state new.disk) (change.lists old.lists) × AlwaysFindsFormat (state new.disk) 2))
            → ((Still → ⊥) → OnErr w (FindsOffered (state old.disk) (state new.disk) old.lists (change.lists old.lists)))
            → ((Still → ⊥) → KeepsOthers (state old.disk) (state new.disk))
            → Changes state change (ended_by w) disk new.disk
        changes-of (Ok done) same finds offered others = elim decide [
          | inl still ↦ quiet-change still (same still).0
          | inr not ↦ loud-change not (finds not) (others not)
        ]
        changes-of (Err failed) same finds offered others = elim decide [
          | inl still ↦ absurd (let no : true ≡ false = (same still).1 in cc)
          | inr not ↦ record {
            mounted = state old.disk;
            format = format_at old.place;
            lists = old.lists;
            holds = holds;
            finds = either old.lists (change.lists old.lists) (state new.disk).contents
                (finds_offered (λ l. l ≡ old.lists) old.lists (change.lists old.lists) (state old.disk) (state new.disk) holds.finds (offered not));
            others = others not;
          }
        ]

    rose-in : (w : Result Unit Failed) → (Still → (new ≡ old) × (is_err w ≡ false)) → ((Still → ⊥) → IsRun 6 (is_err w) (state old.disk) (state new.disk))
        → is_disk_fault (ended_by w) ≡ true → Rose (state disk).faults (state new.disk).faults
    rose-in (Ok done) same run e = absurd cc
    rose-in (Err failed) same run e = elim decide [
      | inl still ↦ absurd (let no : true ≡ false = (same still).1 in cc)
      | inr not ↦ let r = run not in rose-later (state disk).faults (state old.disk).faults (state new.disk).faults holds.mounts.run.run.later r.later r.cause
    ]

    pub causes-of : (w : Result Unit Failed) → (Still → (new ≡ old) × (is_err w ≡ false))
        → ((Still → ⊥) → IsRun 6 (is_err w) (state old.disk) (state new.disk)) → IsCaused state (ended_by w) disk new.disk
    causes-of w same run = mounted-causes state disk new.disk (ended_by w) (state old.disk) old.lists holds.mounts (ended-in w) (rose-in w same run)

-- ---- which lists are the same

pub decide-lists : (a b : Settings) → (a ≡ b) ⊎ (a ≡ b → ⊥)
decide-lists a b = let d = same_settings-Decides a b in elim (cases_Bool (same_settings a b)) [
  | inl same ↦ inl (d.0 same)
  | inr other ↦ inr (λ e. both_ways (same_settings a b) other (d.1 e))
]

pub decide-new : (l : Settings) (format : ℕ) → ((l ≡ empty_settings) × (format ≡ 2)) ⊎ ((l ≡ empty_settings) × (format ≡ 2) → ⊥)
decide-new l format = elim (decide-lists l empty_settings) [
  | inl same ↦ elim (cases_eq format 2) [
    | inl is ↦ inl (same, is)
    | inr not ↦ inr (λ e. not e.1)
  ]
  | inr other ↦ inr (λ e. other e.0)
]

-- lists were to stand, and were written where they didn't
module _ {D : Type 0} (state : D → DiskState) (change : Change) (disk : D) (old new : Kept D)
    (holds : Holds (state disk) (state old.disk) (format_at old.place) old.lists) (next : Settings) (is : next ≡ change.lists old.lists)
    (w : Result Unit Failed) (same : old.lists ≡ next → (new ≡ old) × (is_err w ≡ false))
  where
    pub put-changes : (old.lists ≡ change.lists old.lists → change.format (format_at old.place) old.lists ≡ format_at old.place)
        → ((old.lists ≡ change.lists old.lists → ⊥) → change.format (format_at old.place) old.lists ≡ 2)
        → ((old.lists ≡ next → ⊥) → OnOk w (AlwaysFinds (state new.disk) next × AlwaysFindsFormat (state new.disk) 2))
        → ((old.lists ≡ next → ⊥) → OnErr w (FindsOffered (state old.disk) (state new.disk) old.lists next))
        → ((old.lists ≡ next → ⊥) → KeepsOthers (state old.disk) (state new.disk)) → Changes state change (ended_by w) disk new.disk
    put-changes quiet loud finds offered others = changes-of state change (old.lists ≡ next) disk old new holds (decide-lists old.lists next)
        (λ e. (sym is ∙ sym e, quiet (e ∙ is))) (λ not. loud (λ e. not (e ∙ sym is))) (λ not e f. not (sym e ∙ sym is)) w same
        (λ not. subst (λ (l : Settings). OnOk w (AlwaysFinds (state new.disk) l × AlwaysFindsFormat (state new.disk) 2)) is (finds not))
        (λ not. subst (λ (l : Settings). OnErr w (FindsOffered (state old.disk) (state new.disk) old.lists l)) is (offered not)) others

    pub put-causes : ((old.lists ≡ next → ⊥) → IsRun 6 (is_err w) (state old.disk) (state new.disk)) → IsCaused state (ended_by w) disk new.disk
    put-causes run = causes-of state change (old.lists ≡ next) disk old new holds (decide-lists old.lists next) w same run

-- ---- the mark

same-format : (a b : Bool) (f : ℕ) → a ≡ b → (if beq a b then f else 2) ≡ f
same-format true true f e = refl
same-format false false f e = refl
same-format true false f e = absurd cc
same-format false true f e = absurd cc

new-format : (a b : Bool) (f : ℕ) → (a ≡ b → ⊥) → (if beq a b then f else 2) ≡ 2
new-format true true f not = absurd (not refl)
new-format false false f not = absurd (not refl)
new-format true false f not = refl
new-format false true f not = refl

same-lists : (l : Settings) (b : Bool) → l.read_only ≡ b → marked b l ≡ l
same-lists l b e = subst (λ (x : Bool). marked x l ≡ l) e refl

pub quiet-mark : (b : Bool) (f : ℕ) (l : Settings) → l ≡ marked b l → (marking b).format f l ≡ f
quiet-mark b f l e = same-format l.read_only b f (ap (λ (s : Settings). s.read_only) e)

pub loud-mark : (b : Bool) (f : ℕ) (l : Settings) → (l ≡ marked b l → ⊥) → (marking b).format f l ≡ 2
loud-mark b f l not = new-format l.read_only b f (λ e. not (sym (same-lists l b e)))

-- ---- a part that is emptied

is-empty : {A : Type 0} (xs : List A) → (length xs == 0) ≡ true → xs ≡ []
is-empty [] e = refl
is-empty (x ∷ xs) e = absurd (let no : true ≡ false = sym e ∙ ne_eqb (length (x ∷ xs)) 0 (λ z. omega (arith, z)) in cc)

clear-lists : (p : Part) (l : Settings) → is_clear p l ≡ true → cleared p l ≡ l
clear-lists part.Config l e = subst (λ (x : List ℕ). (let s : Settings = record l { config = x } in s) ≡ l) (is-empty l.config e) refl
clear-lists part.Masks l e = subst (λ (x : List Mac). (let s : Settings = record l { masks = x } in s) ≡ l) (is-empty l.masks e) refl
clear-lists part.Reserves l e = subst (λ (x : List Mac). (let s : Settings = record l { reserves = x } in s) ≡ l) (is-empty l.reserves e) refl

clear-is : (p : Part) (l : Settings) → l ≡ cleared p l → is_clear p l ≡ true
clear-is part.Config l e = ap (λ (s : Settings). length s.config == 0) e
clear-is part.Masks l e = ap (λ (s : Settings). length s.masks == 0) e
clear-is part.Reserves l e = ap (λ (s : Settings). length s.reserves == 0) e

pub quiet-clear : (p : Part) (f : ℕ) (l : Settings) → l ≡ cleared p l → (clearing p).format f l ≡ f
quiet-clear p f l e = rw (clear-is p l e) refl

pub loud-clear : (p : Part) (f : ℕ) (l : Settings) → (l ≡ cleared p l → ⊥) → (clearing p).format f l ≡ 2
loud-clear p f l not = full-format (is_clear p l) f (λ e. not (sym (clear-lists p l e)))
  where
    full-format : (a : Bool) (f : ℕ) → (a ≡ true → ⊥) → (if a then f else 2) ≡ 2
    full-format true f not = absurd (not refl)
    full-format false f not = refl
