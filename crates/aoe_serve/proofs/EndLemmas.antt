-- What a run leaves at its end.
use Rattle.std.proofs.Common.{◌≡◌, ◌<◌, ◌+◌, ℕ, zero, suc, List, [], ◌∷◌, length, Option, Some, None, true, refl, sym, ap, subst, ◌∙◌, arith, get_or}
use Rattle.std.proofs.lemmas.Option.{slice_get_within}
use Rattle.std.specs.Prelude.{IfSome, Result, Ok, Err, slice_get}
use Rattle.std.specs.Option.{option_map}
use Rattle.aoe_base.specs.declared.failure.Failed.{Failed}
use Rattle.aoe_disk.specs.State.{Contents, DiskState, BothTell, sector}
use Rattle.aoe_cache.specs.Free.{KeepsSettled}
use Rattle.aoe_disk.specs.Calls.{SyncsTo, Settles, MaySettle}
use Rattle.aoe_keep.specs.Found.{AlwaysFinds, Finds}
use Rattle.aoe_serve.specs.Arrivals.{Arrived, AreServed, at_slot}
use Rattle.aoe_serve.specs.Slots.{EachSlot, IsServed, Slot}
use Rattle.aoe_target.specs.Device.{Device, State, Holds, MayStand, state_of}
use Rattle.aoe_target.specs.History.{Met, left_by}
use Rattle.aoe_target.specs.Sectors.{Sectors, Agrees, sectors_of, settles}
use Rattle.aoe_target.specs.declared.station.Station.{Station}
use Rattle.aoe_target.proofs.DeviceLemmas.{first_state}
use Rattle.aoe_target.proofs.LawLemmas.{agrees_then, both_then, settles_agree}
use Rattle.aoe_target.proofs.SectorLemmas.{settle_agrees, may_settle_agrees}
use Rattle.aoe_serve.specs.Always.{AlwaysLasts, IsLasting}
use Rattle.aoe_serve.specs.Lasting.{lasting_by}
use Rattle.aoe_serve.specs.Ending.{EndsAfter, LeavesKnown, Outlives, after_last}
use Rattle.aoe_serve.specs.Exporting.{FindsAll, HasRun, Outside, SyncsEach, SyncsSlot, Tells, arrivals_in}
use Rattle.aoe_serve.specs.Files.{OverFiles}
use Rattle.aoe_serve.specs.declared.plan.Plan.{Plan}
use Rattle.aoe_serve.specs.declared.plan.Plan.TheVariants as plan
use Rattle.aoe_serve.specs.declared.plan.RunEnd.{RunEnd}
use Rattle.aoe_serve.specs.declared.plan.RunEnd.TheVariants as end

-- what is known of sectors that were synced
both_settle : (x y z : Option Sectors) → BothTell (λ a b. Agrees a (settles b)) x y → BothTell Agrees y z → BothTell Agrees x (option_map settles z)
both_settle None None None xy yz = tt
both_settle None None (Some c) xy yz = absurd yz
both_settle None (Some b) z xy yz = absurd xy
both_settle (Some a) None z xy yz = absurd xy
both_settle (Some a) (Some b) None xy yz = absurd yz
both_settle (Some a) (Some b) (Some c) xy yz = agrees_then a (settles b) (settles c) xy (settles_agree b c yz)

told_settled : (old new : Option Contents) → BothTell Settles old new → BothTell (λ a b. Agrees a (settles b)) (option_map sectors_of new)
    (option_map sectors_of old)
told_settled None None told = tt
told_settled None (Some y) told = absurd told
told_settled (Some x) None told = absurd told
told_settled (Some x) (Some y) told = settle_agrees x y told

told_unsettled : (old new : Option Contents) → BothTell MaySettle old new → BothTell Agrees (option_map sectors_of new) (option_map sectors_of old)
told_unsettled None None told = tt
told_unsettled None (Some y) told = absurd told
told_unsettled (Some x) None told = absurd told
told_unsettled (Some x) (Some y) told = may_settle_agrees x y told

synced_sectors : (synced : Result (Unit {0}) Failed) (old new : DiskState) (k : State) → SyncsTo synced old new
    → BothTell Agrees (option_map sectors_of old.contents) k.sectors
    → BothTell Agrees (option_map sectors_of new.contents) (after_last synced k).sectors
synced_sectors (Ok done) old new k sync agree = both_settle (option_map sectors_of new.contents) (option_map sectors_of old.contents) k.sectors
    (told_settled old.contents new.contents sync.contents) agree
synced_sectors (Err failed) old new k sync agree = both_then (option_map sectors_of new.contents) (option_map sectors_of old.contents) k.sectors
    (told_unsettled old.contents new.contents sync.contents) agree

same_lists : (synced : Result (Unit {0}) Failed) (k : State) → (after_last synced k).lists ≡ k.lists
same_lists (Ok done) k = refl
same_lists (Err failed) k = refl

same_crash : (synced : Result (Unit {0}) Failed) (k : State) (c : Option Contents) → IfSome c (Finds (MayStand k))
    → IfSome c (Finds (MayStand (after_last synced k)))
same_crash (Ok done) k c f = f
same_crash (Err failed) k c f = f

-- a slot after the last sync
synced_slot : (synced : Result (Unit {0}) Failed) (a b : Slot) (k : State) → SyncsSlot synced a b → Holds a.device k → Holds b.device (after_last synced k)
synced_slot synced a b k s h =
    let lists : b.device.lists ≡ a.device.lists = ap (λ (x : Slot). x.device.lists) s.rest in
    let keep : b.device.keep ≡ a.device.keep = ap (λ (x : Slot). x.device.keep) s.rest in
    let P : DiskState → Type 0 = λ d. IfSome d.contents (Finds (MayStand (after_last synced k))) in
    record {
      lists = lists ∙ h.lists ∙ sym (same_lists synced k);
      crash = subst P (sym keep) (same_crash synced k a.device.keep.contents h.crash);
      sectors = synced_sectors synced a.device.store b.device.store k s.syncs h.sectors;
    }

known_left : (x y : Option (List ℕ)) (w : List ℕ) → IfSome y (λ v. x ≡ Some v) → x ≡ Some w → (image : List ℕ) → image ≡ w → IfSome y (λ v. image ≡ v)
known_left x None w known told image is = tt
known_left x (Some v) w known told image is = let e : w ≡ v = some_same w v (sym told ∙ known) in is ∙ e
  where
    some_same : (a b : List ℕ) → (let o : Option (List ℕ) = Some a in o) ≡ Some b → a ≡ b
    some_same a b e = cc

-- an unmarked sector isn't loose, and is as it is known
leaves_known : (c : Contents) (k : Sectors) → Agrees (sectors_of c) k → LeavesKnown k c
leaves_known c k agree = λ image left s unmarked.
    known_left (Some (sector c.bytes s)) (k.known s) (sector c.bytes s) (agree.known s) refl (sector image s) (left.kept s (agree.marks s unmarked))

both_leave : (x : Option Contents) (y : Option Sectors) → BothTell Agrees (option_map sectors_of x) y
    → IfSome x (λ c. IfSome y (λ sectors. LeavesKnown sectors c))
both_leave None y told = tt
both_leave (Some c) None told = tt
both_leave (Some c) (Some k) told = leaves_known c k told

pub outlived : (d : Device) (k : State) → Holds d k → Outlives d k
outlived d k h = record { file = both_leave d.store.contents k.sectors h.sectors; keep = h.crash }

-- on a disk in the store's place an unmarked sector isn't loose either, and is as it is known
leaves_under : (c d : Contents) (k : Sectors) → Agrees (sectors_of c) k → KeepsSettled c d → LeavesKnown k d
leaves_under c d k agree settled = λ image left s unmarked.
    let both = settled.kept s (agree.marks s unmarked) in
    known_left (Some (sector c.bytes s)) (k.known s) (sector c.bytes s) (agree.known s) refl (sector image s) (left.kept s both.0 ∙ both.1)

both_under : (x y : Option Contents) (z : Option Sectors) → BothTell Agrees (option_map sectors_of x) z → BothTell KeepsSettled x y
    → IfSome y (λ c. IfSome z (λ sectors. LeavesKnown sectors c))
both_under x None z told kept = tt
both_under None (Some d) z told kept = absurd kept
both_under (Some c) (Some d) None told kept = tt
both_under (Some c) (Some d) (Some k) told kept = leaves_under c d k told kept

outlived_under : (d : Device) (k : State) (disk : DiskState) → Holds d k → BothTell KeepsSettled d.store.contents disk.contents
    → Outlives (record d { store = disk }) k
outlived_under d k disk h kept = record { file = both_under d.store.contents disk.contents k.sectors h.sectors kept; keep = h.crash }

-- frames came to a slot, whose lists every crash found before, and then its store was synced
pub always_now : (a b : Slot) (h : List Met) → AlwaysLasts a b h → IsLasting a b h
always_now a b [] always = always
always_now a b (m ∷ h) always = always.0

ends_after : (a m b : Slot) (h : List Met) (synced : Result (Unit {0}) Failed) → AlwaysFinds a.device.keep a.device.lists → IsServed a m h
    → (a.lasts ≡ true → AlwaysLasts a m h) → SyncsSlot synced m b → EndsAfter h synced a b
ends_after a m b h synced finds served always sync =
    let at_end = λ (k : State) (hold : Holds a.device k). synced_slot synced m b (left_by a.station k h) sync (served.holds k hold) in
    record {
      holds = at_end;
      outlives = outlived b.device (after_last synced (left_by a.station (state_of a.device) h)) (at_end (state_of a.device) (first_state a.device finds));
      disk_outlives = λ disk kept. outlived_under b.device (after_last synced (left_by a.station (state_of a.device) h)) disk
          (at_end (state_of a.device) (first_state a.device finds)) kept;
      lasting = λ lasts disk kept. outlived_under b.device (after_last synced (lasting_by a.station (state_of a.device) h)) disk
          (synced_slot synced m b (lasting_by a.station (state_of a.device) h) sync
          ((always_now a m h (always lasts)).holds (state_of a.device) (first_state a.device finds))) kept;
    }

-- the slot that stands at a place
pub record There (slots : List Slot) (i : ℕ) : Type 0 where
  pub slot : Slot
  pub is : slice_get slots i ≡ Some slot

pub there : (slots : List Slot) (i : ℕ) → i < length slots → There slots i
there [] i below = absurd (omega (arith, below))
there (x ∷ slots) zero below = record { slot = x; is = refl }
there (x ∷ slots) (suc i) below = let t = there slots i (omega (arith, below)) in record { slot = t.slot; is = t.is }

pub served_in : {S K L : Type 0} (t : Tells S K L) (p : Plan) (e : RunEnd) (a b : Outside S K L) (old new : List Slot) (ran : HasRun t p e a b old new)
    → AreServed old new (arrivals_in t p e a b old new ran)
served_in t (plan.Answer format) (end.Answered e) a b old new ran = ran.answered.served
served_in t (plan.Answer format) (end.Served e) a b old new ran = absurd ran
served_in t (plan.Serve frames idle) (end.Answered e) a b old new ran = absurd ran
served_in t (plan.Serve frames idle) (end.Served e) a b old new ran = ran.served.served

-- each slot at the end of a run
pub each_ends : (old middle new : List Slot) (arrivals : List Arrived) (results : List (Result (Unit {0}) Failed)) → FindsAll old
    → AreServed old middle arrivals → SyncsEach results middle new
    → EachSlot (λ i x y. EndsAfter (at_slot i arrivals) (get_or results i (Ok tt)) x y) old new
each_ends old middle new arrivals results finds served synced = record {
  count = synced.slots.count ∙ served.slots.count;
  each = λ i a b ea eb.
      let m = there middle i (omega (arith, slice_get_within new i b eb, synced.slots.count)) in
      ends_after a m.slot b (at_slot i arrivals) (get_or results i (Ok tt)) (finds i a ea) (served.slots.each i a m.slot ea m.is)
      (served.lasting.each i a m.slot ea m.is)
      (synced.slots.each i m.slot b m.is eb);
}

pub run_ends : {S K L : Type 0} (t : Tells S K L) (p : Plan) (e : RunEnd) (a b : Outside S K L) (old middle new : List Slot)
    (results : List (Result (Unit {0}) Failed))
    (ran : HasRun t p e a b old middle) → FindsAll old → SyncsEach results middle new
    → EachSlot (λ i x y. EndsAfter (at_slot i (arrivals_in t p e a b old middle ran)) (get_or results i (Ok tt)) x y) old new
run_ends t p e a b old middle new results ran finds synced = each_ends old middle new (arrivals_in t p e a b old middle ran) results finds
    (served_in t p e a b old middle ran) synced

finds_first : (s x : Slot) → AlwaysFinds s.device.keep s.device.lists → (let o : Option Slot = Some s in o) ≡ Some x → AlwaysFinds x.device.keep x.device.lists
finds_first s x finds e = let same : s ≡ x = cc in subst (λ (y : Slot). AlwaysFinds y.device.keep y.device.lists) same finds

-- every crash finds the lists of a slot over a keep that was mounted
pub over_finds : {D : Type 0} (state : D → DiskState) (most : Option ℕ) (name : ℕ → ℕ → Station) (minor : ℕ) (disks disks' : List (Option D))
    (first last : List Slot)
    → OverFiles state most name minor disks disks' first last → FindsAll first
over_finds state most name minor (Some f ∷ Some k ∷ disks) (Some f' ∷ Some k' ∷ disks') (a ∷ first)
    (b ∷ last) over zero s e = finds_first a s over.0.mounted.finds e
over_finds state most name minor (Some f ∷ Some k ∷ disks) (Some f' ∷ Some k' ∷ disks') (a ∷ first) (b ∷ last) over (suc i) s e = over_finds state most name
    (minor + 1) disks disks' first last over.1 i s e
over_finds state most name minor (Some f ∷ Some k ∷ disks) (Some f' ∷ Some k' ∷ disks') (a ∷ first) [] over i s e = absurd over
over_finds state most name minor (Some f ∷ Some k ∷ disks) (Some f' ∷ Some k' ∷ disks') [] last over i s e = absurd over
over_finds state most name minor (Some f ∷ Some k ∷ disks) (Some f' ∷ None ∷ disks') first last over i s e = absurd over
over_finds state most name minor (Some f ∷ Some k ∷ disks) (Some f' ∷ []) first last over i s e = absurd over
over_finds state most name minor (Some f ∷ Some k ∷ disks) (None ∷ disks') first last over i s e = absurd over
over_finds state most name minor (Some f ∷ Some k ∷ disks) [] first last over i s e = absurd over
over_finds state most name minor (Some f ∷ None ∷ disks) disks' first last over i s e = absurd over
over_finds state most name minor (Some f ∷ []) disks' first last over i s e = absurd over
over_finds state most name minor (None ∷ disks) disks' first last over i s e = absurd over
over_finds state most name minor [] [] [] [] over i s e = absurd cc
over_finds state most name minor [] [] [] (b ∷ last) over i s e = absurd over
over_finds state most name minor [] [] (a ∷ first) last over i s e = absurd over
over_finds state most name minor [] (d ∷ disks') first last over i s e = absurd over
