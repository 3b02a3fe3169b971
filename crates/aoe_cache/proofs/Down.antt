-- Writing the buffer down leaves what the store shows as it was.
use Rattle.std.proofs.Common.{◌≡◌, ◌≤◌, ◌<◌, ◌+◌, ◌*◌, ◌/◌, ◌++◌, ℕ, Bool, true, false, List, [], ◌∷◌, Option, Some, None, IfSome, Result, Ok, Err, is_err, length, take, drop, refl, sym, arith, ◌∙◌, ap, append_assoc, inl, inr, nat_lt, if◌then◌else◌, take-append-drop, option_map, min, Vec, Global}
use Rattle.std.specs.Vec.{with_items}
use Rattle.std.proofs.lemmas.Bool.{cases_Bool, cases_lt, lt-ltb, or_parts, or_right}
use Rattle.std.proofs.lemmas.List.{append-nil, drop-drop, length-take, length-take-le, take-take, with_items_is}
use Rattle.std.proofs.lemmas.List.Folds.{list_any-append}
use Rattle.std.proofs.Math.Bool.{or-false}
use Rattle.aoe_disk.specs.State.{Contents, DiskState, HasShape, IsDisk, BothTell, with_marks}
use Rattle.aoe_disk.specs.Calls.{IsRange, IsRun, Puts, Spoils, SameOutside, WritesTo}
use Rattle.aoe_disk.specs.Sectors.{IsOutside}
use Rattle.aoe_disk.proofs.Pieces.{length-with_marks, is_loose-with_marks_outside}
use Rattle.aoe_disk.proofs.Touching.{sector_outside}
use Rattle.aoe_disk.proofs.Runs.{run_none}
use Rattle.aoe_cache.specs.declared.place.HeldSector.{HeldSector}
use Rattle.aoe_cache.specs.declared.buffer.Buffer.{Buffer}
use Rattle.aoe_cache.specs.Held.{AreBelow, IsAscending, held_for, held_of, laid_over, marked, placed, with_written}
use Rattle.aoe_cache.specs.Down.{Empties, IsJoined, Run, WritesDown, WritesRun, WritesRuns, after, any_failed, bytes_of, ended, first_of, unwritten}
use Rattle.aoe_cache.specs.Cache.{HasRoom, IsBuffer, IsIndexed, IsInOrder, seen_contents}
use Rattle.aoe_cache.proofs.Ascending.{AreHeld, ascending_drop, ascending_parts, ascending_short, ascending_take, below_append, below_drop, below_more, below_take}
use Rattle.aoe_cache.proofs.Going.{run_also}
use Rattle.aoe_cache.proofs.Laying.{laid_append}
use Rattle.aoe_cache.proofs.Sectors.{held_written, laid_front, laid_over_same, marked_front, marked_over_same}
use Rattle.aoe_cache.proofs.Runs.{length-bytes_of, adjacent_fits, adjacent_held, laid_run, marked_run}

-- a buffer of a disk is one of any greater disk
pub buffer_more : (low high : ℕ) (b : Buffer) → low ≤ high → IsBuffer low b → IsBuffer high b
buffer_more low high b le is = record { indexed = is.indexed; order = is.order; below = below_more low high (held_of b) le is.below }

pub in_order_more : (low high from : ℕ) (b : Buffer) → low ≤ high → IsInOrder low from b → IsInOrder high from b
in_order_more low high from b le is = record { has = is.has; order = is.order; below = below_more low high (drop from (placed b)) le is.below }

-- a buffer that holds nothing
pub buffer_empty : (sectors : ℕ) (b : Buffer) → IsIndexed b → held_of b ≡ [] → IsBuffer sectors b
buffer_empty sectors b indexed none = record { indexed = indexed; order = rw none tt; below = rw none tt }

-- one whose places were put in order
pub buffer_sorted : {sectors : ℕ} {b new : Buffer} → IsBuffer sectors b → HasRoom new → placed new ≡ held_of b → IsInOrder sectors 0 new
buffer_sorted is has sorted = record { has = has; order = rw sorted is.order; below = rw sorted is.below }

-- a write of whatever type
pub as_ended : {T E : Type 0} (at : ℕ) (piece : List ℕ) (result : Result T E) (failed : Bool) (old new : DiskState) → is_err result ≡ failed
    → WritesTo at piece result old new → WritesTo at piece (ended failed) old new
as_ended at piece (Ok v) true old new is write = cc
as_ended at piece (Ok v) false old new is write = record { call = write.call; contents = write.contents; log = write.log }
as_ended at piece (Err e) true old new is write = record { call = write.call; contents = write.contents; log = write.log }
as_ended at piece (Err e) false old new is write = cc

-- a run as the loop that writes the buffer down makes it
pub run_made : {T E : Type 0} {n : ℕ} {hs left : List HeldSector} {old new : DiskState} (result : Result T E) (failed : Bool)
    → left ≡ hs → is_err result ≡ failed → IsJoined n left
    → WritesTo (first_of left) (bytes_of (take n left)) result old new → WritesRun n (ended failed) hs old new
run_made {n = n} {hs} {old = old} {new} result failed same is joined write = record {
  joined = rw same at joined;
  write = as_ended (first_of hs) (bytes_of (take n hs)) result failed old new is (rw same at write);
}

-- one more run

runs_more : (runs : List Run) (r : Run) (held : List HeldSector) (old mid new : DiskState) → WritesRuns runs held old mid
    → WritesRun r.count (ended r.failed) (after runs held) mid new → WritesRuns (runs ++ r ∷ []) held old new
runs_more [] r held old mid new runs run = (new, rw runs at run, refl)
runs_more (q ∷ qs) r held old mid new runs run = (runs.0, runs.1, runs_more qs r (drop q.count held) runs.0 mid new runs.2 run)

after_more : (runs : List Run) (r : Run) (held : List HeldSector) → after (runs ++ r ∷ []) held ≡ drop r.count (after runs held)
after_more [] r held = refl
after_more (q ∷ qs) r held = after_more qs r (drop q.count held)

abbrev if_failed : Run → List HeldSector → List HeldSector
if_failed r held = if r.failed then take r.count held else []

unwritten_more : (runs : List Run) (r : Run) (held : List HeldSector) → unwritten (runs ++ r ∷ []) held ≡ unwritten runs held ++ if_failed r (after runs held)
unwritten_more [] r held = append-nil (if_failed r held)
unwritten_more (q ∷ qs) r held = ap (λ rest. if_failed q held ++ rest) (unwritten_more qs r (drop q.count held)) ∙ sym (append_assoc (if_failed q held) _ _)

-- the writing down before place `done`, where the sectors of those runs that failed are at the first places
pub record WritesUpTo (done left : ℕ) (held places : List HeldSector) (old new : DiskState) : Type 0 where
  pub runs : List Run
  pub writes : WritesRuns runs held old new
  pub all : after runs held ≡ drop done held
  pub stays : take left places ≡ unwritten runs held
  pub failed : any_failed runs ≡ nat_lt 0 left

-- what is left of the buffer is in order from here on
pub rest_in_order : {sectors done : ℕ} {b old : Buffer} → IsInOrder sectors 0 old → HasRoom b
    → drop done (placed b) ≡ drop done (placed old) → IsInOrder sectors done b
rest_in_order {sectors} {done} {old = old} is has rest = record {
  has = has;
  order = rw rest (ascending_drop 0 done (placed old) is.order);
  below = rw rest (below_drop sectors done (placed old) is.below);
}

pub rest_more : (done n : ℕ) (hs gs : List HeldSector) → drop done hs ≡ drop done gs → drop (done + n) hs ≡ drop (done + n) gs
rest_more done n hs gs same = sym (drop-drop n done hs) ∙ ap (drop n) same ∙ drop-drop n done gs

pub room_kept : {b old : Buffer} → HasRoom old → b.numbers ≡ old.numbers → length b.places.items ≡ length old.places.items → HasRoom b
room_kept has numbers places = record { used = rw (numbers, places) has.used; room = rw (numbers, places) has.room }

pub writes_none : (held : List HeldSector) (d : DiskState) → WritesUpTo 0 0 held held d d
writes_none held d = record { runs = []; writes = refl; all = refl; stays = refl; failed = refl }

module _ {done left n : ℕ} {held places : List HeldSector} {old mid new : DiskState} (up : WritesUpTo done left held places old mid) where
  -- one that was written
  pub writes_one : WritesRun n (ended false) (drop done held) mid new → WritesUpTo (done + n) left held places old new
  writes_one run =
      let r : Run = record { count = n; failed = false } in
      record {
        runs = up.runs ++ r ∷ [];
        writes = runs_more up.runs r held old mid new up.writes (rw up.all run);
        all = after_more up.runs r held ∙ ap (drop n) up.all ∙ drop-drop n done held;
        stays = up.stays ∙ sym (unwritten_more up.runs r held ∙ append-nil _);
        failed = list_any-append (λ (r : Run). r.failed) up.runs (r ∷ []) ∙ rw up.failed (or-false (nat_lt 0 left));
      }

  -- and one that wasn't, whose sectors were moved down
  pub fails_one : (moved : List HeldSector) → 0 < n → take (left + n) moved ≡ take left places ++ take n (drop done held)
      → WritesRun n (ended true) (drop done held) mid new → WritesUpTo (done + n) (left + n) held moved old new
  fails_one moved some is run =
      let r : Run = record { count = n; failed = true } in
      record {
        runs = up.runs ++ r ∷ [];
        writes = runs_more up.runs r held old mid new up.writes (rw up.all run);
        all = after_more up.runs r held ∙ ap (drop n) up.all ∙ drop-drop n done held;
        stays = is ∙ sym (unwritten_more up.runs r held ∙ rw (up.all, ← up.stays) refl);
        failed = list_any-append (λ (r : Run). r.failed) up.runs (r ∷ []) ∙ or_right (any_failed up.runs) true refl
            ∙ sym (lt-ltb 0 (left + n) (omega (arith, some)));
      }

-- what is left, and what comes after the runs, in order

pub ascending_unwritten : (low : ℕ) (runs : List Run) (held : List HeldSector) → IsAscending low held → IsAscending low (unwritten runs held ++ after runs held)
ascending_unwritten low [] held order = order
ascending_unwritten low (r ∷ runs) held order = elim (cases_Bool r.failed) [
  | inl failed ↦ rw (failed, append_assoc (take r.count held) (unwritten runs (drop r.count held)) (after runs (drop r.count held)))
      (ascending_parts low r.count held _ order (λ from rest. ascending_unwritten from runs (drop r.count held) rest))
  | inr written ↦ rw written (ascending_unwritten low runs (drop r.count held) (ascending_drop low r.count held order))
]

pub below_unwritten : (high : ℕ) (runs : List Run) (held : List HeldSector) → AreBelow high held → AreBelow high (unwritten runs held ++ after runs held)
below_unwritten high [] held below = below
below_unwritten high (r ∷ runs) held below =
    let rest = below_unwritten high runs (drop r.count held) (below_drop high r.count held below) in
    elim (cases_Bool r.failed) [
      | inl failed ↦ rw (failed, append_assoc (take r.count held) (unwritten runs (drop r.count held)) (after runs (drop r.count held)))
          (below_append high _ _ (below_take high r.count held below) rest)
      | inr written ↦ rw written rest
    ]

pub unwritten_held : {sectors : ℕ} {held : List HeldSector} (runs : List Run) → AreHeld sectors held → AreHeld sectors (unwritten runs held ++ after runs held)
unwritten_held {sectors} {held} runs is = record { order = ascending_unwritten 0 runs held is.order; below = below_unwritten sectors runs held is.below }

-- what the store shows, as a whole

marked_append : (loose : List Bool) (xs ys : List HeldSector) → marked loose (xs ++ ys) ≡ marked (marked loose xs) ys
marked_append loose [] ys = refl
marked_append loose (x ∷ xs) ys = marked_append (with_marks loose x.at 1) xs ys

module _ {n sectors : ℕ} {hs : List HeldSector} {c : Contents} (shape : HasShape sectors c) (held : AreHeld sectors hs) (joined : IsJoined n hs) where
  run_length : length (take n hs) ≡ n
  run_length = length-take-le n hs joined.there

  run_bytes : length (bytes_of (take n hs)) ≡ 512 * n
  run_bytes = omega (arith, run_length, length-bytes_of 0 (take n hs) (ascending_take 0 n hs held.order))

  run_count : length (bytes_of (take n hs)) / 512 ≡ n
  run_count = omega (arith, run_bytes)

  run_fits : first_of hs + n ≤ sectors
  run_fits =
      let some : 0 < length (take n hs) = omega (arith, run_length, joined.some) in
      omega (arith, run_length, adjacent_fits (first_of hs) sectors (take n hs) some joined.adjacent (below_take sectors n hs held.below))

  -- a run that was written is seen where it was
  run_written : {c' : Contents} → Puts (first_of hs) (bytes_of (take n hs)) c c' → seen_contents (drop n hs) c' ≡ seen_contents hs c
  run_written {c'} puts =
      let room : 512 * first_of hs + 512 * length (take n hs) ≤ length c.bytes = omega (arith, run_length, run_fits, shape.bytes) in
      let bytes : c'.bytes ≡ laid_over c.bytes (take n hs) =
      puts.bytes ∙ sym (laid_run 0 _ c.bytes _ (ascending_take 0 n hs held.order) joined.adjacent room) in
      let count : length (bytes_of (take n hs)) / 512 ≡ length (take n hs) = run_count ∙ sym run_length in
      let loose : c'.loose ≡ marked c.loose (take n hs) =
      puts.loose ∙ rw count (sym (marked_run _ c.loose _ joined.adjacent (omega (arith, run_length, run_fits, shape.marks)))) in
      let all : take n hs ++ drop n hs ≡ hs = take-append-drop n hs in
      let laid : laid_over c'.bytes (drop n hs) ≡ laid_over c.bytes hs =
      rw bytes (sym (laid_append c.bytes (take n hs) (drop n hs)) ∙ ap (laid_over c.bytes) all) in
      let marks : marked c'.loose (drop n hs) ≡ marked c.loose hs = rw loose (sym (marked_append c.loose (take n hs) (drop n hs)) ∙ ap (marked c.loose) all) in
      λ i. record { bytes = laid i; loose = marks i; settled = None }

  -- where nothing is held a run changes nothing
  outside_run : (s : ℕ) → held_for hs s ≡ None → IsOutside (first_of hs) n s
  outside_run s none = elim (cases_lt s (first_of hs)) [
    | inl low ↦ inl low
    | inr ge ↦ elim (cases_lt s (first_of hs + n)) [
      | inl high ↦ absurd (adjacent_held (first_of hs) n s hs joined.adjacent joined.there ge high none)
      | inr past ↦ inr past
    ]
  ]

  -- and a run whose writing failed is still held
  run_spoiled : {c' : Contents} → Spoils (first_of hs) (length (bytes_of (take n hs))) c c' → seen_contents hs c' ≡ seen_contents hs c
  run_spoiled {c'} spoils =
      let same : SameOutside (512 * first_of hs) (512 * n) c.bytes c'.bytes = rw run_bytes at spoils.bytes in
      let loose : c'.loose ≡ with_marks c.loose (first_of hs) n = rw run_count at spoils.loose in
      let fits : first_of hs + n ≤ length c.loose = omega (arith, run_fits, shape.marks) in
      let marks : length c'.loose ≡ sectors = rw loose (length-with_marks c.loose (first_of hs) n fits ∙ shape.marks) in
      let bytes_same = laid_over_same held c'.bytes c.bytes (same.size ∙ shape.bytes) shape.bytes
      (λ s lt none. sector_outside c.bytes c'.bytes _ n s same (outside_run s none)) in
      let loose_same =
      marked_over_same held c'.loose c.loose marks shape.marks (λ s lt none. rw loose (is_loose-with_marks_outside c.loose _ n fits s (outside_run s none))) in
      λ i. record { bytes = bytes_same i; loose = loose_same i; settled = None }

-- the same of a disk that may tell nothing
told_same : {A B : Type 0} (P : A → Type 0) (R : A → A → Type 0) (f g : A → B) (old new : Option A) → ((x y : A) → P x → R x y → g y ≡ f x) → IfSome old P
    → BothTell R old new → option_map g new ≡ option_map f old
told_same P R f g None None same p told = refl
told_same P R f g None (Some y) same p told = absurd told
told_same P R f g (Some x) None same p told = absurd told
told_same P R f g (Some x) (Some y) same p told = ap Some (same x y p told)

-- device calls that leave what the store shows as it was
pub record AsSeen (failed : Bool) (held rest : List HeldSector) (old new : DiskState) : Type 0 where
  pub calls : ℕ
  pub run : IsRun calls failed old new
  pub left : AreHeld old.sectors rest
  pub same : option_map (seen_contents rest) new.contents ≡ option_map (seen_contents held) old.contents

rest_held : (n : ℕ) {sectors : ℕ} {held : List HeldSector} → AreHeld sectors held → AreHeld sectors (drop n held)
rest_held n {sectors} {held} h = record { order = ascending_drop 0 n held h.order; below = below_drop sectors n held h.below }

-- sectors before others that the store shows as it did
front_seen : (xs : List HeldSector) {ys zs : List HeldSector} {sectors : ℕ} → AreHeld sectors (xs ++ ys) → AreHeld sectors (xs ++ zs)
    → AreHeld sectors ys → AreHeld sectors zs → (x y : Option Contents) → IfSome x (HasShape sectors) → IfSome y (HasShape sectors)
    → option_map (seen_contents ys) x ≡ option_map (seen_contents zs) y → option_map (seen_contents (xs ++ ys)) x ≡ option_map (seen_contents (xs ++ zs)) y
front_seen xs one other first second None None sx sy same = refl
front_seen xs one other first second None (Some y) sx sy same = cc
front_seen xs one other first second (Some x) None sx sy same = cc
front_seen xs {ys} {zs} one other first second (Some x) (Some y) sx sy same =
    let shown : seen_contents ys x ≡ seen_contents zs y = cc in
    let bytes = laid_front xs one other first second x.bytes y.bytes sx.bytes sy.bytes (ap (λ (c : Contents). c.bytes) shown) in
    let loose = marked_front xs one other first second x.loose y.loose sx.marks sy.marks (ap (λ (c : Contents). c.loose) shown) in
    λ i. Some (record { bytes = bytes i; loose = loose i; settled = None })

-- a run and then others, where those leave what the store shows as it was
run_then_seen : (r : Run) (runs : List Run) (held : List HeldSector) (old next new : DiskState) → IsDisk old → AreHeld old.sectors held
    → WritesRun r.count (ended r.failed) held old next → IfSome next.contents (HasShape old.sectors) → IfSome new.contents (HasShape old.sectors)
    → option_map (seen_contents (unwritten runs (drop r.count held) ++ after runs (drop r.count held))) new.contents
    ≡ option_map (seen_contents (drop r.count held)) next.contents
    → option_map (seen_contents (unwritten (r ∷ runs) held ++ after (r ∷ runs) held)) new.contents ≡ option_map (seen_contents held) old.contents
run_then_seen r runs held old next new disk h run shape last same =
    let n : ℕ = r.count in
    let first : List HeldSector = take n held in
    let rest : List HeldSector = drop n held in
    let later : List HeldSector = unwritten runs rest ++ after runs rest in
    elim (cases_Bool r.failed) [
      | inl failed ↦
          let spoiled : WritesRun n (ended true) held old next = rw failed at run in
          let kept : option_map (seen_contents held) next.contents ≡ option_map (seen_contents held) old.contents =
          told_same _ _ _ _ old.contents next.contents (λ x y s t. run_spoiled s h run.joined t) disk.shape spoiled.write.contents in
          let whole : first ++ rest ≡ held = take-append-drop n held in
          let joined : (first ++ unwritten runs rest) ++ after runs rest ≡ first ++ later = append_assoc first (unwritten runs rest) (after runs rest) in
          let all : AreHeld old.sectors (first ++ later) = rw (failed, joined) at (unwritten_held (r ∷ runs) h) in
          let second : AreHeld old.sectors rest = rest_held n h in
          let front = front_seen first all (rw whole h) (unwritten_held runs second) second new.contents next.contents last shape same in
          rw (failed, joined) ((rw whole at front) ∙ kept)
      | inr not ↦
          let written : WritesRun n (ended false) held old next = rw not at run in
          rw not (same ∙ told_same _ _ _ _ old.contents next.contents (λ x y s t. run_written s h run.joined t) disk.shape written.write.contents)
    ]

pub runs_seen : (runs : List Run) (held : List HeldSector) (old new : DiskState) → IsDisk old → AreHeld old.sectors held → WritesRuns runs held old new
    → AsSeen (any_failed runs) held (unwritten runs held ++ after runs held) old new
runs_seen [] held old new disk h runs = rw runs (record { calls = 0; run = run_none old disk; left = h; same = refl })
runs_seen (r ∷ runs) held old new disk h writes =
    let n : ℕ = r.count in
    let next : DiskState = writes.0 in
    let call = writes.1.write.call in
    let ok : is_err (ended r.failed) ≡ r.failed = ended_err r.failed in
    let one : IsRun 1 r.failed old next = rw ok at call in
    let later = runs_seen runs (drop n held) next new call.after (rw call.sectors (rest_held n h)) writes.2 in
    record {
      calls = 1 + later.calls;
      run = run_also 1 later.calls r.failed (any_failed runs) old next new one later.run;
      left = unwritten_held (r ∷ runs) h;
      same = run_then_seen r runs held old next new disk h writes.1 (rw call.sectors at call.after.shape)
          (rw (later.run.sectors, call.sectors) at later.run.after.shape) later.same;
    }
  where
    ended_err : (failed : Bool) → is_err (ended failed) ≡ failed
    ended_err true = refl
    ended_err false = refl

-- a writing down, of which some failed or all went well
pub down_seen : (some : Bool) (held left : List HeldSector) (old new : DiskState) → IsDisk old → AreHeld old.sectors held → WritesDown some held left old new
    → AsSeen some held left old new
down_seen some held left old new disk h down =
    let all : unwritten down.runs held ++ after down.runs held ≡ left = rw down.all (append-nil _) ∙ sym down.stays in
    rw (all, down.failed) at (runs_seen down.runs held old new disk h down.writes)

-- the same of a buffer whose places were put in order
pub sorted_down : {b : Buffer} {old : DiskState} (sorted : Buffer) (some : Bool) (left : List HeldSector) (new : DiskState)
    → IsDisk old → IsBuffer old.sectors b → placed sorted ≡ held_of b
    → WritesDown some (placed sorted) left old new → AsSeen some (placed sorted) left old new
sorted_down {old = old} sorted some left new disk is same down =
    down_seen some (placed sorted) left old new disk (record { order = rw same is.order; below = rw same is.below }) down

-- what is left stands at the first places
pub first_placed : (b : Buffer) (left : ℕ) → left ≤ length (placed b) → take left (placed b) ≡ take left b.places.items
first_placed b left le = take-take left (length b.numbers.keys) b.places.items (omega (arith, le, length-take (length b.numbers.keys) b.places.items))

-- nothing is left where none failed
none_left : (held left : List HeldSector) (old new : DiskState) → WritesDown false held left old new → left ≡ []
none_left held left old new down = down.stays ∙ none_unwritten down.runs held down.failed
  where
    none_unwritten : (runs : List Run) (held : List HeldSector) → any_failed runs ≡ false → unwritten runs held ≡ []
    none_unwritten [] held none = refl
    none_unwritten (r ∷ runs) held none = let parts = or_parts r.failed (any_failed runs) none in rw parts.0 (none_unwritten runs (drop r.count held) parts.1)

pub empties : {held left : List HeldSector} {old new : DiskState} → WritesDown false held left old new → Empties held left old new
empties {held} {left} {old} {new} down = record { empty = none_left held left old new down; down = down }

-- what the buffer keeps, and that there is a place for each sector

pub buffer_after : {f : Bool} {held : List HeldSector} {old new : DiskState} (b : Buffer) → IsIndexed b → AsSeen f held (held_of b) old new
    → IsBuffer new.sectors b
buffer_after b indexed stays = record { indexed = indexed; order = stays.left.order; below = rw stays.run.sectors stays.left.below }

pub held_in : {sectors : ℕ} {b : Buffer} → IsBuffer sectors b → AreHeld sectors (held_of b)
held_in is = record { order = is.order; below = is.below }

module _ {at sectors : ℕ} (piece : List ℕ) {b : Buffer} (range : IsRange at (length piece) sectors) (is : IsBuffer sectors b) where
  put_held : AreHeld sectors (with_written at (length piece / 512) piece (held_of b))
  put_held = held_written at _ piece (sym range.whole) range.within (held_in is)

  pub put_buffer : (new : Buffer) → IsIndexed new → held_of new ≡ with_written at (length piece / 512) piece (held_of b) → IsBuffer sectors new
  put_buffer new indexed held = record { indexed = indexed; order = rw held put_held.order; below = rw held put_held.below }

  pub put_room : (room : ℕ) → length b.places.items ≡ min room sectors → length (with_written at (length piece / 512) piece (held_of b)) ≤ room
      → length (with_written at (length piece / 512) piece (held_of b)) ≤ length b.places.items
  put_room room places fits = omega (arith, places, fits, ascending_short 0 sectors _ put_held.order put_held.below)

pub scratch_kept : (v : Vec ℕ Global) (ws : List ℕ) → length v.items ≡ 32768 → length ws ≡ v.len → length (with_items v ws).items ≡ 32768
scratch_kept v ws size same = ap length (with_items_is v ws same) ∙ same ∙ v.ok.0 ∙ size
