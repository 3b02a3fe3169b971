-- The same calls over a disk that may tell nothing.
use Rattle.std.proofs.Common.{◌≡◌, ◌≤◌, ℕ, Bool, true, false, Option, Some, IfSome, is_some, Result, Ok, Err, OnOk, OnErr, is_ok, List}
use Rattle.aoe_lists.specs.Settings.{Settings}
use Rattle.aoe_disk.specs.State.{Contents, BothTell}
use Rattle.aoe_disk.specs.Calls.{Syncs}
use Rattle.aoe_disk.specs.Sectors.{Calms}
use Rattle.aoe_disk.proofs.Touching.{settles_calm, may_settle_calm}
use Rattle.aoe_keep.specs.Body.{decode}
use Rattle.aoe_keep.specs.Found.{body}
use Rattle.aoe_keep.specs.Stages.{spare, next_body, IsKept, IsCleared, IsStaged, IsInterrupted, IsOpened, IsReplaced, WritesGate, WritesBody}
use Rattle.aoe_keep.specs.declared.place.Place.{Place}
use Rattle.aoe_keep.proofs.Told.{told_then, told_both, both_then, told_link, told_last}
use Rattle.aoe_keep.proofs.Replacing.{still_closed, close_failed, close_done, clear_failed, clear_done, cleared_finds, body_touched, cleared_calm, stage_done, open_failed, opened, last_failed, replaced}

pub syncs_calm : {T E : Type 0} (result : Result T E) (c d : Contents) → Syncs result c d → Calms c d
syncs_calm (Ok r) c d s = settles_calm c d s
syncs_calm (Err r) c d s = may_settle_calm c d s

module _ (place : Option Place) (lists next : Settings) where
  -- call 1

  pub close_synced : {T E : Type 0} (is_closed : Bool) (result : Result T E) (a b : Option Contents) → is_closed ≡ true
      → IfSome a (IsKept place is_closed lists) → BothTell (Syncs result) a b
      → BothTell (IsInterrupted place is_closed lists next) a b
  close_synced is_closed result a b e kept syncs =
      rw e (told_both (IsKept place true lists) (Syncs result) _ a b (λ c d k y. still_closed place lists next c d k (syncs_calm result c d y))
      (rw e at kept) syncs)

  closes : {T E : Type 0} (s : ℕ) (result : Result T E) (c d : Contents) → 16 ≤ s → IsKept place false lists c → WritesGate s (spare place) false result c d
      → IsInterrupted place (is_ok result) lists next c d
  closes s (Ok r) c d room kept w = close_done place lists next s room c d w.shape kept w.touches w.gate
  closes s (Err r) c d room kept w = close_failed place lists next s room c d w.shape kept w.touches w.loose

  pub close_wrote : {T E : Type 0} (is_closed closed : Bool) (s k : ℕ) (result : Result T E) (a b : Option Contents) → 16 ≤ s → is_closed ≡ false
      → closed ≡ is_ok result → k ≡ spare place
      → IfSome a (IsKept place is_closed lists) → BothTell (WritesGate s k false result) a b → BothTell (IsInterrupted place closed lists next) a b
  close_wrote is_closed closed s k result a b room e en is kept writes =
      rw en (told_both (IsKept place false lists) (WritesGate s (spare place) false result) _ a b (λ c d kept_ w. closes s result c d room kept_ w)
      (rw e at kept) (rw is at writes))

  -- call 2

  pub cleared_err : {T E : Type 0} (is_closed : Bool) (result : Result T E) (a b c : Option Contents) → is_closed ≡ true
      → BothTell (IsInterrupted place is_closed lists next) a b → BothTell (Syncs result) b c
      → OnErr result (BothTell (IsInterrupted place is_closed lists next) a c)
  cleared_err is_closed (Ok r) a b c closed so_far syncs = tt
  cleared_err {T} {E} is_closed (Err e) a b c closed so_far syncs =
      rw closed (both_then (IsInterrupted place true lists next) (Syncs {T = T} {E = E} (Err e)) _ a b c
      (λ x y z i m. clear_failed place lists next x y z i (may_settle_calm y z m)) (rw closed at so_far) syncs)

  pub cleared_ok : {T E : Type 0} (is_closed : Bool) (result : Result T E) (a b c : Option Contents) → is_closed ≡ true
      → BothTell (IsInterrupted place is_closed lists next) a b → BothTell (Syncs result) b c
      → OnOk result (IfSome c (IsCleared place lists))
  cleared_ok is_closed (Err e) a b c closed so_far syncs = tt
  cleared_ok {T} {E} is_closed (Ok r) a b c closed so_far syncs =
      let kept = told_last (IsInterrupted place true lists next) (IsKept place true lists) a b (λ x y i. i.kept) (rw closed at so_far) in
      told_then (IsKept place true lists) (Syncs {T = T} {E = E} (Ok r)) _ b c (λ y z k m. clear_done place lists next y z k m) kept syncs

  -- calls 3 and 4

  pub body_step : {T E : Type 0} (k : ℕ) (piece : List ℕ) (result : Result T E) (a b : Option Contents) → k ≡ spare place → IfSome a (IsCleared place lists)
      → BothTell (WritesBody k piece result) a b → IfSome b (IsCleared place lists)
  body_step k piece result a b is cleared writes =
      told_then (IsCleared place lists) (WritesBody (spare place) piece result) _ a b (λ c d x w. body_touched place lists next c d x w.touches) cleared
      (rw is at writes)

  pub sync_step : {T E : Type 0} (result : Result T E) (b c : Option Contents) → IfSome b (IsCleared place lists) → BothTell (Syncs result) b c
      → IfSome c (IsCleared place lists)
  sync_step result b c cleared syncs =
      told_then (IsCleared place lists) (Syncs result) _ b c (λ x y k m. cleared_calm place lists next x y k (syncs_calm result x y m)) cleared syncs

  abbrev HasBody : List ℕ → Contents → Type 0
  HasBody piece c = IsCleared place lists c × (body c.bytes (spare place) ≡ piece)

  pub staged_ok : {T E S F : Type 0} (k : ℕ) (piece : List ℕ) (wrote : Result S F) (r : S) (result : Result T E) (a b c : Option Contents) → wrote ≡ Ok r
      → k ≡ spare place → decode piece ≡ Some (next_body place next)
      → IfSome a (IsCleared place lists) → BothTell (WritesBody k piece wrote) a b → BothTell (Syncs result) b c
      → OnOk result (IfSome c (IsStaged place lists next))
  staged_ok k piece wrote r (Err e) a b c ok is reads cleared writes syncs = tt
  staged_ok {T} {E} {S} {F} k piece wrote r (Ok v) a b c ok is reads cleared writes syncs =
      let here = told_then (IsCleared place lists) (WritesBody {T = S} {E = F} (spare place) piece (Ok r)) (HasBody piece) a b
      (λ c d x w. (body_touched place lists next c d x w.touches, w.body)) cleared (rw (ok, is) at writes) in
      told_then (HasBody piece) (Syncs {T = T} {E = E} (Ok v)) _ b c (λ x y h m. stage_done place lists next x y h.0 (rw h.1 reads) m) here syncs

  -- calls 5 and 6

  pub open_err : {T E : Type 0} (s k : ℕ) (result : Result T E) (a b : Option Contents) → k ≡ spare place → IfSome a (IsStaged place lists next)
      → BothTell (WritesGate s k true result) a b
      → OnErr result (IfSome b (λ d. (before : Contents) → IsInterrupted place false lists next before d))
  open_err s k (Ok r) a b is staged writes = tt
  open_err {T} {E} s k (Err e) a b is staged writes =
      told_then (IsStaged place lists next) (WritesGate {T = T} {E = E} s (spare place) true (Err e)) _ a b
      (λ c d x w before. open_failed place lists next c d x w.touches before w.loose) staged (rw is at writes)

  opened_told : {T E : Type 0} (s k : ℕ) (result : Result T E) (r : T) (a b : Option Contents) → result ≡ Ok r → k ≡ spare place
      → IfSome a (IsStaged place lists next) → BothTell (WritesGate s k true result) a b
      → IfSome b (IsOpened place lists next)
  opened_told {T} {E} s k result r a b ok is staged writes =
      told_then (IsStaged place lists next) (WritesGate {T = T} {E = E} s (spare place) true (Ok r)) _ a b
      (λ c d x w. opened place lists next c d x w.touches w.gate) staged (rw (ok, is) at writes)

  pub opened_err : {T E S F : Type 0} (s k : ℕ) (wrote : Result S F) (r : S) (result : Result T E) (a b c : Option Contents) → wrote ≡ Ok r → k ≡ spare place
      → IfSome a (IsStaged place lists next) → BothTell (WritesGate s k true wrote) a b → BothTell (Syncs result) b c
      → IfSome c (λ d. (before : Contents) → IsInterrupted place false lists next before d)
  opened_err s k wrote r result a b c ok at staged writes syncs = told_then (IsOpened place lists next) (Syncs result) _ b c
      (λ y z o m before. last_failed place lists next before y z o (syncs_calm result y z m)) (opened_told s k wrote r a b ok at staged writes) syncs

  pub opened_ok : {T E S F : Type 0} (s k : ℕ) (wrote : Result S F) (r : S) (result : Result T E) (a b c : Option Contents) → wrote ≡ Ok r → k ≡ spare place
      → IfSome a (IsStaged place lists next) → BothTell (WritesGate s k true wrote) a b → BothTell (Syncs result) b c
      → OnOk result (IfSome c (IsReplaced place next))
  opened_ok s k wrote r (Err e) a b c ok is staged writes syncs = tt
  opened_ok {T} {E} s k wrote r (Ok v) a b c ok is staged writes syncs =
      told_then (IsOpened place lists next) (Syncs {T = T} {E = E} (Ok v)) _ b c (λ y z o m. replaced place lists next y z o m)
      (opened_told s k wrote r a b ok is staged writes) syncs

  -- a failure while the spare slot stays closed

  pub stage_interrupted : (is_closed : Bool) (a b : Option Contents) → is_closed ≡ true → is_some b ≡ is_some a → IfSome b (IsCleared place lists)
      → BothTell (IsInterrupted place is_closed lists next) a b
  stage_interrupted is_closed a b e tells cleared = rw e (told_link (IsCleared place lists) _ a b tells (λ x y h. cleared_finds place lists next x y h) cleared)
