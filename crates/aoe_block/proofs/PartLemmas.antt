-- The parts of a block by its fields.
use Rattle.std.proofs.Common.{◌≡◌, ◌≢◌, ◌≤◌, ◌<◌, ◌+◌, ◌-◌, ◌*◌, ℕ, zero, suc, Bool, true, false, List, [], ◌∷◌, Some, None, length, map, take, drop, set, min, replicate, arith, refl, sym, ap, ◌∙◌, length-drop}
use Rattle.std.proofs.lemmas.List.{length-take, length-replicate, drop-drop, take-append-drop, nil_from_length}
use Rattle.std.proofs.lemmas.List.Elements.{All-cons, All-nil}
use Rattle.std.specs.List.{find, list_all, All}
use Rattle.aoe_base.specs.declared.counted.Ticket.{Ticket}
use Rattle.aoe_block.specs.declared.stage.Stage.{Stage}
use Rattle.aoe_block.specs.declared.stage.Stage.TheVariants.{Pending, Handed}
use Rattle.aoe_block.specs.Calls.{are_ended, hand}
use Rattle.aoe_block.specs.Fields.{parts_of, put}
use Rattle.aoe_block.specs.Parts.{joined, AreAdjacent, AreFull, IsCut, Part}
use Rattle.aoe_block.specs.Stages.{is_ended, is_pending, stage_at}
use Rattle.aoe_block.proofs.PlaceLemmas.{drop-put_behind, drop-put_front, take-put_behind, take-put_front}

-- the k-th part
abbrev pub nth : ℕ → ℕ → ℕ → List ℕ → ℕ → Stage → Part
nth max at count bytes zero stage = record { at = at; count = min max count; bytes = take (512 * max) bytes; stage = stage }
nth max at count bytes (suc k) stage = nth max (at + max) (count - max) (drop (512 * max) bytes) k stage

pub find_nth : (test : Stage → Bool) (max at count : ℕ) (stages : List Stage) (bytes : List ℕ) (k : ℕ) → k < length stages
    → ((j : ℕ) → j < k → test (stage_at stages j) ≡ false) → test (stage_at stages k) ≡ true
    → find (λ p. test p.stage) (parts_of max at count stages bytes) ≡ Some (nth max at count bytes k (stage_at stages k))
find_nth test max at count [] bytes k lt before is = absurd (omega arith)
find_nth test max at count (stage ∷ stages) bytes zero lt before is = rw is refl
find_nth test max at count (stage ∷ stages) bytes (suc k) lt before is =
    rw (before 0 (omega arith)) (find_nth test max (at + max) (count - max) stages (drop (512 * max) bytes) k (omega arith)
    (λ j le. before (suc j) (omega arith)) is)

pub find_none : (test : Stage → Bool) (max at count : ℕ) (stages : List Stage) (bytes : List ℕ)
    → ((j : ℕ) → j < length stages → test (stage_at stages j) ≡ false) → find (λ p. test p.stage) (parts_of max at count stages bytes) ≡ None
find_none test max at count [] bytes out = refl
find_none test max at count (stage ∷ stages) bytes out =
    rw (out 0 (omega arith)) (find_none test max (at + max) (count - max) stages (drop (512 * max) bytes) (λ j le. out (suc j) (omega arith)))

pub are_ended-parts_of : (max at count : ℕ) (stages : List Stage) (bytes : List ℕ) → are_ended (parts_of max at count stages bytes) ≡ list_all is_ended stages
are_ended-parts_of max at count [] bytes = refl
are_ended-parts_of max at count (stage ∷ stages) bytes = rw (are_ended-parts_of max (at + max) (count - max) stages (drop (512 * max) bytes)) refl

-- the first that is pending is handed
pub hand-parts_of : (ticket : Ticket) (max at count : ℕ) (stages : List Stage) (bytes : List ℕ) (k : ℕ) → k < length stages
    → ((j : ℕ) → j < k → is_pending (stage_at stages j) ≡ false) → is_pending (stage_at stages k) ≡ true
    → hand ticket (parts_of max at count stages bytes) ≡ parts_of max at count (set stages k (Handed ticket)) bytes
hand-parts_of ticket max at count [] bytes k lt before is = absurd (omega arith)
hand-parts_of ticket max at count (stage ∷ stages) bytes zero lt before is = rw is refl
hand-parts_of ticket max at count (stage ∷ stages) bytes (suc k) lt before is =
    rw (
      before 0 (omega arith),
      hand-parts_of ticket max (at + max) (count - max) stages (drop (512 * max) bytes) k (omega arith)
          (λ j le. before (suc j) (omega arith)) is,
    ) refl

module _ (f : Part → Part) (test : Stage → Bool) (apart : (p : Part) → test p.stage ≡ false → f p ≡ p) where
  -- a change of the parts with a stage that none has
  pub map_none : (max at count : ℕ) (stages : List Stage) (bytes : List ℕ)
      → ((j : ℕ) → j < length stages → test (stage_at stages j) ≡ false) → map f (parts_of max at count stages bytes) ≡ parts_of max at count stages bytes
  map_none max at count [] bytes out = refl
  map_none max at count (stage ∷ stages) bytes out =
      rw (
        apart (nth max at count bytes 0 stage) (out 0 (omega arith)),
        map_none max (at + max) (count - max) stages (drop (512 * max) bytes) (λ j le. out (suc j) (omega arith)),
      ) refl

  -- a change of the one part with that stage, to another stage
  pub map_stage : (new : Stage) (max at count : ℕ) (stages : List Stage) (bytes : List ℕ) (k : ℕ) → k < length stages
      → ((j : ℕ) → j < length stages → j ≢ k → test (stage_at stages j) ≡ false)
      → f (nth max at count bytes k (stage_at stages k)) ≡ nth max at count bytes k new
      → map f (parts_of max at count stages bytes) ≡ parts_of max at count (set stages k new) bytes
  map_stage new max at count [] bytes k lt others here = absurd (omega arith)
  map_stage new max at count (stage ∷ stages) bytes zero lt others here =
      rw (here, map_none max (at + max) (count - max) stages (drop (512 * max) bytes) (λ j le. others (suc j) (omega arith) (λ e. omega arith))) refl
  map_stage new max at count (stage ∷ stages) bytes (suc k) lt others here =
      rw (
        apart (nth max at count bytes 0 stage) (others 0 (omega arith) (λ e. omega arith)),
        map_stage new max (at + max) (count - max) stages (drop (512 * max) bytes) k (omega arith)
            (λ j le differ. others (suc j) (omega arith) (λ e. differ (omega arith))) here,
      ) refl

-- a change of the one part with that stage, to another stage and other bytes, as many
module _ (f : Part → Part) (test : Stage → Bool) (apart : (p : Part) → test p.stage ≡ false → f p ≡ p) (new : Stage) (piece : List ℕ) where
  pub map_piece : (max at count : ℕ) (stages : List Stage) (bytes : List ℕ) (k : ℕ) → k < length stages → k * max < count → length bytes ≡ 512 * count
      → ((j : ℕ) → j < length stages → j ≢ k → test (stage_at stages j) ≡ false)
      → length piece ≡ 512 * (nth max at count bytes k new).count
      → f (nth max at count bytes k (stage_at stages k)) ≡ record (nth max at count bytes k new) { bytes = piece }
      → map f (parts_of max at count stages bytes) ≡ parts_of max at count (set stages k new) (put bytes (512 * max * k) piece)
  map_piece max at count [] bytes k lt in_range size others len here = absurd (omega arith)
  map_piece max at count (stage ∷ stages) bytes zero lt in_range size others len here =
      let e : 512 * max * 0 ≡ 0 = omega arith in
      let fits : length piece ≡ min (512 * max) (length bytes) = omega arith in
      rw (
        here,
        map_none f test apart max (at + max) (count - max) stages (drop (512 * max) bytes) (λ j le. others (suc j) (omega arith) (λ same. omega arith)),
        e,
        take-put_front (512 * max) bytes piece fits,
        drop-put_front (512 * max) bytes piece fits,
      ) refl
  map_piece max at count (stage ∷ stages) bytes (suc k) lt in_range size others len here =
      let e : 512 * max * suc k ≡ 512 * max + 512 * max * k = omega arith in
      let step : suc k * max ≡ max + k * max = omega arith in
      let behind : k * max < count - max = omega arith in
      let wide : 512 * max + 512 * max * k ≤ length bytes = omega arith in
      let rest : length (drop (512 * max) bytes) ≡ 512 * (count - max) = omega (arith, length-drop (512 * max) bytes) in
      rw (
        apart (nth max at count bytes 0 stage) (others 0 (omega arith) (λ same. omega arith)),
        map_piece max (at + max) (count - max) stages (drop (512 * max) bytes) k (omega arith) behind rest
            (λ j le differ. others (suc j) (omega arith) (λ same. differ (omega arith))) len here,
        e,
        take-put_behind (512 * max) (512 * max * k) bytes piece wide,
        drop-put_behind (512 * max) (512 * max * k) bytes piece wide,
      ) refl

abbrev IsWhole : Part → Type 0
IsWhole p = length p.bytes ≡ 512 * p.count

-- together they have the bytes, each as many as it has sectors
pub laid-parts_of : (max at count : ℕ) (stages : List Stage) (bytes : List ℕ) → length bytes ≡ 512 * count → count ≤ length stages * max
    → (joined (parts_of max at count stages bytes) ≡ bytes) × All IsWhole (parts_of max at count stages bytes)
laid-parts_of max at count [] bytes size enough = (sym (nil_from_length bytes (omega arith)), All-nil IsWhole)
laid-parts_of max at count (stage ∷ stages) bytes size enough =
    let len : length (drop (512 * max) bytes) ≡ 512 * (count - max) = omega (arith, length-drop (512 * max) bytes) in
    let here : IsWhole (nth max at count bytes 0 stage) = omega (arith, length-take (512 * max) bytes) in
    let rest = laid-parts_of max (at + max) (count - max) stages (drop (512 * max) bytes) len (omega arith) in
    (rw rest.0 (take-append-drop (512 * max) bytes), All-cons IsWhole _ _ here rest.1)

-- each begins where the one before it ends, and only the last may be short
shape-parts_of : (max at count : ℕ) (stages : List Stage) (bytes : List ℕ) → 0 < max → length stages * max < count + max → count ≤ length stages * max
    → AreAdjacent at (parts_of max at count stages bytes) × AreFull max (parts_of max at count stages bytes)
shape-parts_of max at count [] bytes some needed enough = (tt, tt)
shape-parts_of max at count (stage ∷ []) bytes some needed enough = ((refl, tt), (omega arith, omega arith))
shape-parts_of max at count (stage ∷ other ∷ stages) bytes some needed enough =
    let e : min max count ≡ max = omega arith in
    let rest = shape-parts_of max (at + max) (count - max) (other ∷ stages) (drop (512 * max) bytes) some (omega arith) (omega arith) in
    ((refl, rw e rest.0), (e, rest.1))

pending-parts_of : (max at count n : ℕ) (bytes : List ℕ) → All (λ p. p.stage ≡ Pending) (parts_of max at count (replicate n Pending) bytes)
pending-parts_of max at count zero bytes = All-nil (λ p. p.stage ≡ Pending)
pending-parts_of max at count (suc n) bytes =
    All-cons (λ p. p.stage ≡ Pending) _ _ refl (pending-parts_of max (at + max) (count - max) n (drop (512 * max) bytes))

pub cut-parts_of : (max at count n : ℕ) (bytes : List ℕ) → 0 < max → length bytes ≡ 512 * count → count ≤ n * max → n * max < count + max
    → IsCut at max bytes (parts_of max at count (replicate n Pending) bytes)
cut-parts_of max at count n bytes some size enough needed =
    let len : length (replicate n Pending) ≡ n = length-replicate n Pending in
    let upper : count ≤ length (replicate n Pending) * max = rw len enough in
    let lower : length (replicate n Pending) * max < count + max = rw len needed in
    let shape = shape-parts_of max at count (replicate n Pending) bytes some lower upper in
    let laid = laid-parts_of max at count (replicate n Pending) bytes size upper in
    record { adjacent = shape.0; full = shape.1; whole = laid.1; together = laid.0; pending = pending-parts_of max at count n bytes }

-- the k-th part from its number
pub nth_is : (max at count : ℕ) (bytes : List ℕ) (k : ℕ) (stage : Stage) → k * max < count
    → nth max at count bytes k stage
    ≡ record { at = at + k * max; count = min max (count - k * max); bytes = take (512 * max) (drop (512 * max * k) bytes); stage = stage }
nth_is max at count bytes zero stage lt =
    let a : at ≡ at + 0 * max = omega arith in
    let n : count ≡ count - 0 * max = omega arith in
    let s : 512 * max * 0 ≡ 0 = omega arith in
    rw (s, ← a, ← n) refl
nth_is max at count bytes (suc k) stage lt =
    let step : suc k * max ≡ max + k * max = omega arith in
    let a : at + max + k * max ≡ at + suc k * max = omega arith in
    let n : count - max - k * max ≡ count - suc k * max = omega arith in
    let s : 512 * max + 512 * max * k ≡ 512 * max * suc k = omega arith in
    let rest : drop (512 * max * k) (drop (512 * max) bytes) ≡ drop (512 * max * suc k) bytes =
    drop-drop (512 * max * k) (512 * max) bytes ∙ ap (λ (i : ℕ). drop i bytes) s in
    let behind = nth_is max (at + max) (count - max) (drop (512 * max) bytes) k stage (omega arith) in
    rw (behind, a, n, rest) refl
