-- What the steps of a block keep, and the parts after them.
use Rattle.std.proofs.Common.{◌≡◌, ◌≢◌, ◌≤◌, ◌<◌, ◌+◌, ◌-◌, ◌*◌, ◌^◌, ◌==◌, ℕ, Bool, true, false, not, zero, suc, List, [], ◌∷◌, Some, None, length, map, drop, set, min, replicate, arith, refl, sym, ap, ◌∙◌, inl, inr}
use Rattle.std.proofs.lemmas.List.{get_or-set_other, length-set, length-replicate}
use Rattle.std.proofs.lemmas.Bool.{and_parts, cases_Bool, cases_eq, eqb-true, false_from_ne_true}
use Rattle.std.specs.Option.{IsSome}
use Rattle.aoe_base.specs.declared.counted.Ticket.{Ticket}
use Rattle.aoe_initiator.specs.declared.outcome.Done.{Done}
use Rattle.aoe_initiator.specs.declared.outcome.Outcome.{Outcome}
use Rattle.aoe_initiator.specs.declared.outcome.Outcome.TheVariants.{Read, Written}
use Rattle.aoe_block.specs.declared.stage.Stage.{Stage}
use Rattle.aoe_block.specs.declared.stage.Stage.TheVariants.{Pending, Handed, Ended, Failed}
use Rattle.aoe_block.specs.Calls.{after_done, are_ended, hand, is_success, next_part, part_of}
use Rattle.aoe_block.specs.Fields.{count_left, laid, parts_of, AreParts, NoneBefore}
use Rattle.aoe_block.specs.Parts.{Part}
use Rattle.aoe_block.specs.Stages.{is_ended, is_handed, is_pending, is_under_way, stage_at}
use Rattle.aoe_block.proofs.PartLemmas.{are_ended-parts_of, find_none, find_nth, hand-parts_of, map_none, map_piece, map_stage, nth, nth_is}
use Rattle.aoe_block.proofs.PlaceLemmas.{length-put}
use Rattle.aoe_block.proofs.StageLemmas.{all_pending, count_left-end, count_left-pending, count_left-set, none_left, set_keeps, stage_at-set, under_way, within-pending}

pub sound_new : (total max at count : ℕ) (bytes : List ℕ) (n : ℕ) → 0 < max → max ≤ 17 → at + count ≤ total → total < 2 ^ 64 → count ≤ 32768
    → length bytes ≡ 512 * count → count ≤ n * max → n * max < count + max
    → AreParts total max at count bytes (replicate n Pending) 0 0 n
sound_new total max at count bytes n some few range device short size enough needed =
    let len : length (replicate n Pending) ≡ n = length-replicate n Pending in
    record {
      parted = rw len (record {
        some = some;
        few = few;
        range = range;
        device = device;
        short = short;
        size = size;
        enough = enough;
        needed = needed;
      });
      ordered = omega arith;
      within = omega arith;
      past = λ j lt. absurd (omega arith);
      given = λ j lt. absurd (omega arith);
      waiting = λ j le. all_pending n j;
      distinct = λ j k ticket at_j at_k. absurd (let e = ap (is_handed ticket) (all_pending n j) in cc);
      counted = sym (count_left-pending n);
    }

-- no part is under way with the ticket
pub stranger : (ticket max at count : ℕ) (stages : List Stage) (bytes : List ℕ) → ((k : ℕ) → is_handed ticket (stage_at stages k) ≡ false)
    → part_of ticket (parts_of max at count stages bytes) ≡ None
stranger ticket max at count stages bytes out = find_none (is_handed ticket) max at count stages bytes (λ j lt. out j)

pub stranger_same : (write : Bool) (done : Done) (max at count : ℕ) (stages : List Stage) (bytes : List ℕ)
    → ((k : ℕ) → is_handed done.ticket.0 (stage_at stages k) ≡ false)
    → map (after_done write done) (parts_of max at count stages bytes) ≡ parts_of max at count stages bytes
stranger_same write done max at count stages bytes out =
    map_none (after_done write done) (is_handed done.ticket.0) (λ p out. rw out refl) max at count stages bytes (λ j lt. out j)

-- where no part is found, none is under way with the ticket
pub none_handed : (ticket max at count : ℕ) (stages : List Stage) (bytes : List ℕ) → part_of ticket (parts_of max at count stages bytes) ≡ None → (k : ℕ)
    → is_handed ticket (stage_at stages k) ≡ false
none_handed ticket max at count [] bytes none k = refl
none_handed ticket max at count (stage ∷ stages) bytes none k = elim (cases_Bool (is_handed ticket stage)) [
  | inl own ↦ absurd (let some = rw own at none in cc)
  | inr other ↦ at_place k other (none_handed ticket max (at + max) (count - max) stages (drop (512 * max) bytes) (rw other at none))
]
  where
    at_place : (k : ℕ) → is_handed ticket stage ≡ false → ((j : ℕ) → is_handed ticket (stage_at stages j) ≡ false)
        → is_handed ticket (stage_at (stage ∷ stages) k) ≡ false
    at_place zero is rest = is
    at_place (suc j) is rest = rest j

module _ {total max at count : ℕ} {bytes : List ℕ} {stages : List Stage} {first next left : ℕ}
    (s : AreParts total max at count bytes stages first next left) where
  pub sound_first : (f : ℕ) → NoneBefore stages f → f ≤ next → AreParts total max at count bytes stages f next left
  sound_first f past ordered = record {
    parted = s.parted;
    ordered = ordered;
    within = s.within;
    past = past;
    given = s.given;
    waiting = s.waiting;
    distinct = s.distinct;
    counted = s.counted;
  }

  -- all were handed
  pub none_pending : next ≡ length stages → next_part (parts_of max at count stages bytes) ≡ None
  none_pending e = find_none is_pending max at count stages bytes (λ j lt. s.given j (omega arith))

  pub next_pending : next < length stages → next_part (parts_of max at count stages bytes) ≡ Some (nth max at count bytes next Pending)
  next_pending lt =
      let is : stage_at stages next ≡ Pending = s.waiting next (omega arith) in
      find_nth is_pending max at count stages bytes next lt s.given (ap is_pending is) ∙ ap (λ (stage : Stage). Some (nth max at count bytes next stage)) is

  pub next_some : next < length stages → IsSome (next_part (parts_of max at count stages bytes))
  next_some lt = rw (next_pending lt) refl

  pub some_pending : IsSome (next_part (parts_of max at count stages bytes)) → next < length stages
  some_pending some = elim (cases_eq next (length stages)) [
    | inl all ↦ absurd (let gone = rw (none_pending all) at some in cc)
    | inr differ ↦ let w = s.within in omega arith
  ]

  pub place : (k : ℕ) → k < length stages → k * max < count
  place k lt = let h : (k + 1) * max ≤ length stages * max = grind arith in omega (arith, s.parted.needed)

  -- tickets still differ where a stage is set that has none of another part
  set_distinct : (k : ℕ) (stage : Stage) → k < length stages → ((t j : ℕ) → is_handed t stage ≡ true → is_handed t (stage_at stages j) ≡ true → ⊥)
      → (i j t : ℕ) → is_handed t (stage_at (set stages k stage) i) ≡ true → is_handed t (stage_at (set stages k stage) j) ≡ true → i ≡ j
  set_distinct k stage lt apart i j t at_i at_j = elim (stage_at-set stages k i stage lt) [
    | inl (e, new) ↦ elim (stage_at-set stages k j stage lt) [
      | inl (f, also) ↦ e ∙ sym f
      | inr (differ, old) ↦ absurd (apart t j (rw new at at_i) (rw old at at_j))
    ]
    | inr (differ, old) ↦ elim (stage_at-set stages k j stage lt) [
      | inl (f, new) ↦ absurd (apart t i (rw new at at_j) (rw old at at_i))
      | inr (also, still) ↦ s.distinct i j t (rw old at at_i) (rw still at at_j)
    ]
  ]

  -- the next part is handed with a new ticket
  pub handed_parts : (ticket : Ticket) → next < length stages → hand ticket (parts_of max at count stages bytes)
      ≡ parts_of max at count (set stages next (Handed ticket)) bytes
  handed_parts ticket lt = hand-parts_of ticket max at count stages bytes next lt s.given (ap is_pending (s.waiting next (omega arith)))

  pub handed_sound : (ticket : Ticket) → next < length stages → ((k : ℕ) → is_handed ticket.0 (stage_at stages k) ≡ false)
      → AreParts total max at count bytes (set stages next (Handed ticket)) first (next + 1) left
  handed_sound ticket lt fresh =
      let is : stage_at stages next ≡ Pending = s.waiting next (omega arith) in
      let len : length (set stages next (Handed ticket)) ≡ length stages = length-set stages next (Handed ticket) in
      record {
        parted = rw len s.parted;
        ordered = let o = s.ordered in omega arith;
        within = omega arith;
        past = λ j before. ap is_under_way (others_stay j (λ e. let o = s.ordered in omega arith)) ∙ s.past j before;
        given = λ j before. set_keeps (λ x. is_pending x ≡ false) stages next j (Handed ticket) lt refl (λ differ. s.given j (omega arith));
        waiting = λ j le. others_stay j (λ e. omega arith) ∙ s.waiting j (omega arith);
        distinct = set_distinct next (Handed ticket) lt other;
        counted = s.counted ∙ sym (count_left-set stages next (Handed ticket) lt (ap is_ended is) refl);
      }
    where
      others_stay : (j : ℕ) → j ≢ next → stage_at (set stages next (Handed ticket)) j ≡ stage_at stages j
      others_stay j differ = get_or-set_other stages next j (Handed ticket) Pending differ

      other : (t k : ℕ) → is_handed t (Handed ticket) ≡ true → is_handed t (stage_at stages k) ≡ true → ⊥
      other t k is was =
          let e : ticket.0 ≡ t = eqb-true ticket.0 t is in
          let out = rw e at (fresh k) in
          cc

  module _ (write : Bool) (done : Done) (k : ℕ) (is : is_handed done.ticket.0 (stage_at stages k) ≡ true) where
    pub here_within : k < length stages
    here_within = within-pending stages k (under_way done.ticket.0 (stage_at stages k) is).1

    others : (j : ℕ) → j < length stages → j ≢ k → is_handed done.ticket.0 (stage_at stages j) ≡ false
    others j lt differ = false_from_ne_true (is_handed done.ticket.0 (stage_at stages j)) (λ also. differ (s.distinct j k done.ticket.0 also is))

    pub found : part_of done.ticket.0 (parts_of max at count stages bytes) ≡ Some (nth max at count bytes k (stage_at stages k))
    found = find_nth (is_handed done.ticket.0) max at count stages bytes k here_within
        (λ j lt. others j (let h = here_within in omega arith) (λ e. omega arith)) is

    pub here_count : (stage : Stage) → (nth max at count bytes k stage).count ≡ min max (count - k * max)
    here_count stage = ap (λ (p : Part). p.count) (nth_is max at count bytes k stage (place k here_within))

    -- the k-th part is not under way any more
    settled : (stage : Stage) (new : List ℕ) (less : ℕ) → length new ≡ length bytes → is_pending stage ≡ false → is_under_way stage ≡ false
        → ((t : ℕ) → is_handed t stage ≡ false)
        → less ≡ count_left (set stages k stage) → AreParts total max at count new (set stages k stage) first next less
    settled stage new less size given past none counted =
        let len : length (set stages k stage) ≡ length stages = length-set stages k stage in
        let h = here_within in
        record {
          parted = rw (len, size) s.parted;
          ordered = s.ordered;
          within = rw len s.within;
          past = λ j before. set_keeps (λ x. is_under_way x ≡ false) stages k j stage h past (λ differ. s.past j before);
          given = λ j before. set_keeps (λ x. is_pending x ≡ false) stages k j stage h given (λ differ. s.given j before);
          waiting = λ j le. elim (stage_at-set stages k j stage h) [
            | inl (e, new) ↦ absurd (let p = ap is_pending (s.waiting j le) in let q = (under_way done.ticket.0 (stage_at stages k) is).1 in
                let r = rw e at p in cc)
            | inr (differ, old) ↦ old ∙ s.waiting j le
          ];
          distinct = set_distinct k stage h (λ t j it was. let never = none t in cc);
          counted = counted;
        }

    was_open : is_ended (stage_at stages k) ≡ false
    was_open = (under_way done.ticket.0 (stage_at stages k) is).2

    pub failed_sound : AreParts total max at count bytes (set stages k Failed) first next left
    failed_sound = settled Failed bytes left refl refl refl (λ t. refl) (s.counted ∙ sym (count_left-set stages k Failed here_within was_open refl))

    pub some_left : left ≡ count_left (set stages k Ended) + 1
    some_left = s.counted ∙ count_left-end stages k here_within was_open

    -- the part had another outcome
    pub failed_parts : is_success write (min max (count - k * max)) done.outcome ≡ false
        → map (after_done write done) (parts_of max at count stages bytes) ≡ parts_of max at count (set stages k Failed) bytes
    failed_parts badly =
        let below = place k here_within in
        map_stage (after_done write done) (is_handed done.ticket.0) (λ p out. rw out refl) Failed max at count stages bytes k here_within others
        (rw (nth_is max at count bytes k (stage_at stages k) below, nth_is max at count bytes k Failed below, is, badly))

    -- the part was read or written
    module _ (well : is_success write (min max (count - k * max)) done.outcome ≡ true) where
      read_length : (read : List ℕ) → is_success write (min max (count - k * max)) (Read read) ≡ true → length read ≡ 512 * min max (count - k * max)
      read_length read ok = eqb-true (length read) (512 * min max (count - k * max))
          (and_parts (not write) (length read == 512 * min max (count - k * max)) ok).1

      fits : (piece : List ℕ) → length piece ≡ 512 * min max (count - k * max) → 512 * max * k + length piece ≤ length bytes
      fits piece len =
          let below = place k here_within in
          let e : 512 * max * k ≡ 512 * (k * max) = grind arith in
          let size = s.parted.size in
          omega (arith, len, e)

      pub length-laid : length (laid bytes (512 * max * k) done.outcome) ≡ length bytes
      length-laid = at_outcome done.outcome well
        where
          at_outcome : (outcome : Outcome) → is_success write (min max (count - k * max)) outcome ≡ true
              → length (laid bytes (512 * max * k) outcome) ≡ length bytes
          at_outcome (Read read) ok = length-put bytes read (512 * max * k) (fits read (read_length read ok))
          at_outcome _ ok = refl

      pub ended_sound : (less : ℕ) → less + 1 ≡ left → AreParts total max at count (laid bytes (512 * max * k) done.outcome)
          (set stages k Ended) first next less
      ended_sound less e = settled Ended (laid bytes (512 * max * k) done.outcome) less length-laid refl refl (λ t. refl) (let h = some_left in omega arith)

      pub ended_all : (less : ℕ) (new : List ℕ) → less + 1 ≡ left → are_ended (parts_of max at count (set stages k Ended) new) ≡ (less == 0)
      ended_all less new e =
          let same : count_left (set stages k Ended) ≡ less = let h = some_left in omega arith in
          are_ended-parts_of max at count (set stages k Ended) new ∙ none_left (set stages k Ended) ∙ ap (λ (n : ℕ). n == 0) same

      pub ended_parts : map (after_done write done) (parts_of max at count stages bytes)
          ≡ parts_of max at count (set stages k Ended) (laid bytes (512 * max * k) done.outcome)
      ended_parts = at_outcome done.outcome refl well
        where
          at_outcome : (outcome : Outcome) → done.outcome ≡ outcome → is_success write (min max (count - k * max)) outcome ≡ true
              → map (after_done write done) (parts_of max at count stages bytes)
              ≡ parts_of max at count (set stages k Ended) (laid bytes (512 * max * k) outcome)
          at_outcome (Read read) e ok =
              let below = place k here_within in
              map_piece (after_done write done) (is_handed done.ticket.0)
              (λ p out. rw out refl) Ended read max at count stages bytes k here_within below s.parted.size others
              (read_length read ok ∙ ap (λ (n : ℕ). 512 * n) (sym (here_count Ended)))
              (rw (nth_is max at count bytes k (stage_at stages k) below, nth_is max at count bytes k Ended below, is, well, e))
          at_outcome Written e ok =
              let below = place k here_within in
              map_stage (after_done write done) (is_handed done.ticket.0) (λ p out. rw out refl) Ended max at count stages bytes k here_within others
              (rw (nth_is max at count bytes k (stage_at stages k) below, nth_is max at count bytes k Ended below, is, well, e))
          at_outcome _ e other = absurd (cc)
