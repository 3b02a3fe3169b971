-- What a run over the slots of a shelf takes, gives and leaves.
use Rattle.std.specs.Prelude.{ℕ, ◌+◌, ◌/◌, ◌%◌, ◌<◌, ◌≤◌, ◌≡◌, Bool, true, false, List, [], ◌∷◌, length, get_or, slice_get, Option, Some, None, Result, Ok, Err}
use Rattle.std.specs.Option.{option_map}
use Rattle.aoe_base.specs.Sizes.{most_cached}
use Rattle.aoe_base.specs.declared.failure.Failed.{Failed}
use Rattle.aoe_disk.specs.Calls.{SyncsTo}
use Rattle.aoe_disk.specs.State.{DiskState}
use Rattle.aoe_io.specs.Link.{Turn}
use Rattle.aoe_keep.specs.Found.{AlwaysFinds}
use Rattle.aoe_serve.specs.Arrivals.{Arrived, at_slot}
use Rattle.aoe_serve.specs.Answering.{Answered}
use Rattle.aoe_serve.specs.Serving.{Served}
use Rattle.aoe_serve.specs.Slots.{EachSlot, Slot}
use Rattle.aoe_serve.specs.declared.over_link.ServeEnd.{ServeEnd}
use Rattle.aoe_serve.specs.declared.over_stream.AnswerEnd.{AnswerEnd}
use Rattle.aoe_serve.specs.declared.over_stream.Format.{Format}
use Rattle.aoe_serve.specs.Ending.{EndsAfter}
use Rattle.aoe_serve.specs.Files.{OverFiles}
use Rattle.aoe_serve.specs.declared.over_files.ExportOptions.{ExportOptions}
use Rattle.aoe_serve.specs.declared.plan.ExportRefusal.{ExportRefusal}
use Rattle.aoe_serve.specs.declared.plan.Exported.{Exported}
use Rattle.aoe_serve.specs.declared.plan.Plan.{Plan}
use Rattle.aoe_serve.specs.declared.plan.Plan.TheVariants as plan
use Rattle.aoe_serve.specs.declared.plan.RunEnd.{RunEnd}
use Rattle.aoe_serve.specs.declared.plan.RunEnd.TheVariants as end
use Rattle.aoe_target.specs.declared.station.Station.{Station}

-- the objects of the outside
pub record Outside (S K L : Type 0) : Type 0 where
  pub source : S
  pub sink : K
  pub links : List L

-- what they tell: what is left of a source, what a sink holds, and the turns of a link with what it gave and took
pub record Tells (S K L : Type 0) : Type 0 where
  pub left : S → Option (List ℕ)
  pub held : K → Option (List ℕ)
  pub turns : L → ℕ
  pub given : L → Option (List Turn)
  pub taken : L → Option (List (List ℕ))

abbrev pub is_served : Plan → Bool
is_served (plan.Answer format) = false
is_served (plan.Serve frames idle) = true

-- so many files can be exported so, with so many links
pub record CanExport (options : ExportOptions) (p : Plan) (files links : ℕ) : Type 0 where
  pub major : options.first.major < 65535
  pub ports : 1 ≤ length options.ports.items
  pub mtu : (1500 ≤ options.mtu) × (options.mtu ≤ 9000)
  pub cache : options.cache ≤ most_cached
  pub pairs : files % 2 ≡ 0
  pub room : files ≤ 32
  pub minors : options.first.minor + files / 2 ≤ 255
  pub link : is_served p ≡ true → 0 < links

-- files were exported, and their frames ended so
abbrev pub EndsAs : Result Exported ExportRefusal → RunEnd → Type 0
EndsAs (Ok exported) e = exported.end ≡ e
EndsAs (Err refusal) e = ⊥

-- R of the first before and after, where there is one, and the others are as they were
abbrev pub AtFirst : {X : Type 0} → (X → X → Type 0) → List X → List X → Type 0
AtFirst R [] [] = Unit {0}
AtFirst R (x ∷ xs) (y ∷ ys) = R x y × (ys ≡ xs)
AtFirst R _ _ = ⊥

-- the source was answered on the sink
pub record AnswersSource {S K L : Type 0} (t : Tells S K L) (format : Format) (e : AnswerEnd) (a b : Outside S K L) (old new : List Slot) : Type 0 where
  pub answered : Answered format e (t.left a.source) (t.left b.source) (t.held a.sink) (t.held b.sink) old new
  pub links : b.links ≡ a.links

-- the first link was served
pub record ServesFirst {S K L : Type 0} (t : Tells S K L) (frames idle : ℕ) (e : ServeEnd) (a b : Outside S K L) (old new : List Slot) : Type 0 where
  pub before : L
  pub after : L
  pub others : List L
  pub was : a.links ≡ before ∷ others
  pub is : b.links ≡ after ∷ others
  pub served : Served e frames idle (t.turns before) (t.turns after) (t.given before) (t.given after) (t.taken before) (t.taken after) old new
  pub source : b.source ≡ a.source
  pub sink : b.sink ≡ a.sink

-- the plan was run over these slots
abbrev pub HasRun : {S K L : Type 0} → Tells S K L → Plan → RunEnd → Outside S K L → Outside S K L → List Slot → List Slot → Type 0
HasRun t (plan.Answer format) (end.Answered e) a b old new = AnswersSource t format e a b old new
HasRun t (plan.Serve frames idle) (end.Served e) a b old new = ServesFirst t frames idle e a b old new
HasRun t _ _ a b old new = ⊥

-- the frames that came in the run
abbrev pub arrivals_in : {S K L : Type 0} (t : Tells S K L) (p : Plan) (e : RunEnd) (a b : Outside S K L) (old new : List Slot) → HasRun t p e a b old new
    → List Arrived
arrivals_in t (plan.Answer format) (end.Answered e) a b old new ran = ran.answered.arrivals
arrivals_in t (plan.Answer format) (end.Served e) a b old new ran = []
arrivals_in t (plan.Serve frames idle) (end.Answered e) a b old new ran = []
arrivals_in t (plan.Serve frames idle) (end.Served e) a b old new ran = ran.served.arrivals

-- the store of a slot was synced, or the sync failed; all else is as it was
pub record SyncsSlot (result : Result (Unit {0}) Failed) (a b : Slot) : Type 0 where
  pub syncs : SyncsTo result a.device.store b.device.store
  pub rest : b ≡ record a { device = record a.device { store = b.device.store } }

-- the store of each slot was synced, with these results
pub record SyncsEach (results : List (Result (Unit {0}) Failed)) (old new : List Slot) : Type 0 where
  pub count : length results ≡ length old
  pub slots : EachSlot (λ i a b. SyncsSlot (get_or results i (Ok tt)) a b) old new

-- the first of the results that is a failure
abbrev pub first_failed : List (Result (Unit {0}) Failed) → Option ℕ
first_failed [] = None
first_failed (Err failed ∷ results) = Some 0
first_failed (Ok done ∷ results) = option_map (λ slot. slot + 1) (first_failed results)

-- the first failure, with that of this slot, which is behind the others
abbrev pub first_of : Option ℕ → Result (Unit {0}) Failed → ℕ → Option ℕ
first_of None (Err failed) slot = Some slot
first_of first result slot = first

-- the plan was run over these slots, and then each was synced
pub record HasRunAndSynced {S K L : Type 0} (t : Tells S K L) (p : Plan) (e : Exported) (a b : Outside S K L) (old new : List Slot) : Type 0 where
  pub middle : List Slot
  pub ran : HasRun t p e.end a b old middle
  pub results : List (Result (Unit {0}) Failed)
  pub synced : SyncsEach results middle new
  pub unsynced : e.unsynced ≡ first_failed results

-- every crash finds the lists of each slot
abbrev pub FindsAll : List Slot → Type 0
FindsAll slots = (i : ℕ) (s : Slot) → slice_get slots i ≡ Some s → AlwaysFinds s.device.keep s.device.lists

-- The plan was run over these slots, and then each was synced. Where every crash found their lists, each slot holds at the end what is
-- known after the frames that came to it and the sync, and outlives a loss of power.
pub record RanSlots {S K L : Type 0} (t : Tells S K L) (p : Plan) (e : Exported) (a b : Outside S K L) (old new : List Slot) : Type 0 where
  pub run : HasRunAndSynced t p e a b old new
  pub ends : FindsAll old
      → EachSlot (λ i x y. EndsAfter (at_slot i (arrivals_in t p e.end a b old run.middle run.ran)) (get_or run.results i (Ok tt)) x y) old new

-- A run over files and their keeps: each pair was a slot, whose store holds back up to so many sectors, the plan was run over the slots, and
-- then each was synced. At the end each slot holds what is known after the frames that came to it and the sync, and its disks outlive a
-- loss of power.
pub record IsExported {D S K L : Type 0} (state : D → DiskState) (most : Option ℕ) (name : ℕ → ℕ → Station) (minor : ℕ) (t : Tells S K L) (p : Plan) (e : Exported)
    (a b : Outside S K L) (disks disks' : List (Option D)) : Type 0 where
  pub first : List Slot
  pub last : List Slot
  pub over : OverFiles state most name minor disks disks' first last
  pub run : HasRunAndSynced t p e a b first last
  pub ends : EachSlot (λ i x y. EndsAfter (at_slot i (arrivals_in t p e.end a b first run.middle run.ran)) (get_or run.results i (Ok tt)) x y) first last
