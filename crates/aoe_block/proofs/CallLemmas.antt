-- What the calls of a block answer, by its fields.
use Rattle.std.proofs.Common.{◌≡◌, ◌≤◌, ◌<◌, ◌+◌, ◌-◌, ◌*◌, ◌/◌, ◌==◌, ℕ, Bool, true, false, List, Option, Some, None, length, take, drop, set, min, if◌then◌else◌, arith, refl, sym, ap, ◌∙◌, option_map, inl, inr}
use Rattle.std.proofs.lemmas.List.{length-drop, length-take, take_all}
use Rattle.std.proofs.lemmas.Bool.{cases_lt, le-ltb, ne_eqb}
use Rattle.aoe_base.specs.declared.sectors.Span.{Span}
use Rattle.aoe_initiator.specs.declared.op.Op.TheVariants.{Read as ReadOp, Write as WriteOp}
use Rattle.aoe_initiator.specs.declared.device.Attached.{Attached}
use Rattle.aoe_initiator.specs.declared.outcome.Done.{Done}
use Rattle.aoe_initiator.specs.HostLaw.{op_refusal, span_refusal}
use Rattle.aoe_block.specs.declared.stage.Stage.{Stage}
use Rattle.aoe_block.specs.declared.stage.Stage.TheVariants.{Pending, Ended, Failed}
use Rattle.aoe_block.specs.declared.took.Took.TheVariants.{More, Whole, Part as PartTook}
use Rattle.aoe_block.specs.Calls.{are_ended, is_success, next_part, op_of, part_of, settle, took, took_as}
use Rattle.aoe_block.specs.Fields.{laid, parts_of, AreParts}
use Rattle.aoe_block.specs.Parts.{BlockState, Part}
use Rattle.aoe_block.specs.Stages.{is_handed, stage_at}
use Rattle.aoe_block.proofs.PartLemmas.{nth, nth_is}
use Rattle.aoe_block.proofs.SoundLemmas.{ended_all, ended_parts, ended_sound, failed_parts, failed_sound, found, here_count, next_pending, place, some_left}

take_cap : (n m : ℕ) (l : List ℕ) → m ≡ min n (length l) → take m l ≡ take n l
take_cap n m l e = elim (cases_lt (length l) n) [
  | inl short ↦ take_all m l (omega arith) ∙ sym (take_all n l (omega arith))
  | inr long ↦ let same : m ≡ n = omega arith in ap (λ (i : ℕ). take i l) same
]

module _ {total max at count : ℕ} {bytes : List ℕ} {stages : List Stage} {first next left : ℕ} (s : AreParts total max at count bytes stages first next left)
    (write : Bool) where
  module _ (lt : next < length stages) {span : Span} (span_is : span ≡ record { at = at + next * max; count = min max (count - next * max) }) where
    next_is : next_part (parts_of max at count stages bytes)
        ≡ Some (record {
          at = at + next * max;
          count = min max (count - next * max);
          bytes = take (512 * max) (drop (512 * max * next) bytes);
          stage = Pending;
        })
    next_is =
        next_pending s lt ∙ ap Some (nth_is max at count bytes next Pending (place s next lt))

    pub pending_read : write ≡ false → Some (ReadOp span) ≡ option_map (op_of write) (next_part (parts_of max at count stages bytes))
    pending_read reads = rw (next_is, reads, span_is) refl

    pub pending_write : write ≡ true → {piece seen : List ℕ} (len : ℕ) → seen ≡ bytes → len ≡ 512 * span.count → piece ≡ take len (drop (512 * max * next) seen)
        → Some (WriteOp span.at piece) ≡ option_map (op_of write) (next_part (parts_of max at count stages bytes))
    pending_write writes {piece} len same size is =
        let below = place s next lt in
        let e : 512 * max * next ≡ 512 * (next * max) = grind arith in
        let n : span.count ≡ min max (count - next * max) = ap (λ (p : Span). p.count) span_is in
        let whole = s.parted.size in
        let cap : len ≡ min (512 * max) (length (drop (512 * max * next) bytes)) = omega (arith, length-drop (512 * max * next) bytes) in
        let read : piece ≡ take (512 * max) (drop (512 * max * next) bytes) = rw same at is ∙ take_cap (512 * max) len (drop (512 * max * next) bytes) cap in
        rw (next_is, writes, read, span_is) refl

-- a device takes what is within it and not too long
admits : (about : Attached) (at n : ℕ) → 0 < n → n ≤ about.max → at + n ≤ about.total → span_refusal about at n ≡ None
admits about at n some short range = rw (ne_eqb n 0 (λ e. omega arith), le-ltb about.max n short, le-ltb about.total (at + n) range) refl

module _ {total max at count : ℕ} {bytes : List ℕ} {stages : List Stage} {first next left : ℕ} (s : AreParts total max at count bytes stages first next left)
    (lt : next < length stages)
    {span : Span} (span_is : span ≡ record { at = at + next * max; count = min max (count - next * max) }) where
  pub span_within : (0 < span.count) × (span.count ≤ max) × (span.at + span.count ≤ total)
  span_within =
      let below = place s next lt in
      let a : span.at ≡ at + next * max = ap (λ (p : Span). p.at) span_is in
      let n : span.count ≡ min max (count - next * max) = ap (λ (p : Span). p.count) span_is in
      let some = s.parted.some in
      let range = s.parted.range in
      (omega arith, omega arith, omega arith)

  pub read_admitted : (about : Attached) → about.total ≡ total → max ≤ about.max → op_refusal about (ReadOp span) ≡ None
  read_admitted about same short = let w = span_within in admits about span.at span.count w.0 (omega arith) (omega arith)

  pub piece_length : {piece seen : List ℕ} (len : ℕ) → seen ≡ bytes → len ≡ 512 * span.count → piece ≡ take len (drop (512 * max * next) seen)
      → length piece ≡ 512 * span.count
  piece_length {seen = seen} len same size is =
      let below = place s next lt in
      let e : 512 * max * next ≡ 512 * (next * max) = grind arith in
      let n : span.count ≡ min max (count - next * max) = ap (λ (p : Span). p.count) span_is in
      let whole = s.parted.size in
      let all : length seen ≡ length bytes = ap length same in
      ap length is ∙ length-take len (drop (512 * max * next) seen) ∙ omega (arith, length-drop (512 * max * next) seen)

  pub write_admitted : (piece : List ℕ) → length piece ≡ 512 * span.count → (about : Attached) → about.total ≡ total → max ≤ about.max
      → op_refusal about (WriteOp span.at piece) ≡ None
  write_admitted piece len about same short =
      let w = span_within in
      let n : length piece / 512 ≡ span.count = omega arith in
      rw n (admits about span.at span.count w.0 (omega arith) (omega arith))

-- the command that ended is the k-th part, and whether that was read or written
pub record TakesPart (total max at count : ℕ) (bytes : List ℕ) (stages : List Stage) (first next left : ℕ) (write : Bool) (done : Done) (k : ℕ)
    (answered : Bool) : Type 0 where
  pub sound : AreParts total max at count bytes stages first next left
  pub handed : is_handed done.ticket.0 (stage_at stages k) ≡ true
  pub answer : is_success write (min max (count - k * max)) done.outcome ≡ answered

module _ {total max at count : ℕ} {bytes : List ℕ} {stages : List Stage} {first next left : ℕ} {write : Bool} {done : Done} {k : ℕ} {answered : Bool}
    (t : TakesPart total max at count bytes stages first next left write done k answered) where
  abbrev block : BlockState
  block = record { write = write; total = total; max = max; parts = parts_of max at count stages bytes }

  took_found : took block done ≡ took_as write done (Some (nth max at count bytes k (stage_at stages k))) (are_ended (settle block done).parts)
  took_found = ap (λ (p : Option Part). took_as write done p (are_ended (settle block done).parts)) (found t.sound write done k t.handed)

  pub not_stranger : part_of done.ticket.0 (parts_of max at count stages bytes) ≡ None → ⊥
  not_stranger none = let some = found t.sound write done k t.handed in cc

  pub failed_took : answered ≡ false → took block done ≡ PartTook done.outcome
  failed_took out = took_found ∙ rw (here_count t.sound write done k t.handed (stage_at stages k), t.answer, out) refl

  pub failed_settle : answered ≡ false → {new : List Stage} → new ≡ set stages k Failed
      → record { write = write; total = total; max = max; parts = parts_of max at count new bytes } ≡ settle block done
  failed_settle out e = rw (e, failed_parts t.sound write done k t.handed (t.answer ∙ out))

  pub failed_keeps : {new : List Stage} → new ≡ set stages k Failed → AreParts total max at count bytes new first next left
  failed_keeps e = rw e (failed_sound t.sound write done k t.handed)

  pub part_left : left ≡ left - 1 + 1
  part_left = let h = some_left t.sound write done k t.handed in omega arith

  pub ended_took : answered ≡ true → took block done ≡ (if left - 1 == 0 then Whole else More)
  ended_took is =
      let all : are_ended (settle block done).parts ≡ (left - 1 == 0) =
      ap are_ended (ended_parts t.sound write done k t.handed (t.answer ∙ is))
      ∙ ended_all t.sound write done k t.handed (t.answer ∙ is) (left - 1) (laid bytes (512 * max * k) done.outcome) (sym part_left) in
      took_found ∙ rw (here_count t.sound write done k t.handed (stage_at stages k), t.answer, is) (ap (λ (b : Bool). if b then Whole else More) all)

  pub ended_settle : answered ≡ true → {new : List Stage} {read : List ℕ} → new ≡ set stages k Ended → read ≡ laid bytes (512 * max * k) done.outcome
      → record { write = write; total = total; max = max; parts = parts_of max at count new read } ≡ settle block done
  ended_settle is e f = rw (e, f, ended_parts t.sound write done k t.handed (t.answer ∙ is))

  pub ended_keeps : answered ≡ true → {new : List Stage} {read : List ℕ} → new ≡ set stages k Ended → read ≡ laid bytes (512 * max * k) done.outcome
      → AreParts total max at count read new first next (left - 1)
  ended_keeps is e f = rw (e, f) (ended_sound t.sound write done k t.handed (t.answer ∙ is) (left - 1) (sym part_left))
