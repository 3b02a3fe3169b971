-- What is so of an open request stays so.
use Rattle.std.proofs.Common.{◌≡◌, ◌≢◌, ◌≤◌, ◌<◌, ◌+◌, ◌-◌, ℕ, Bool, true, false, not, nat_lt, nat_eq, List, [], ◌∷◌, map, Option, Some, None, is_some, is_none, IsSome, if◌then◌else◌, ◌||◌, arith, refl, sym, ap, ◌∙◌, inl, inr}
use Rattle.std.specs.List.{list_any, All}
use Rattle.std.proofs.lemmas.Bool.{cases_Bool, cases_eq, eqb-true, eq-eqb, ltb-true, ltb-false, ne_eqb, or_left, or_right, or_parts, or_from}
use Rattle.std.proofs.lemmas.List.Elements.{All-head, All-tail}
use Rattle.aoe_base.specs.declared.counted.Ticket.{Ticket}
use Rattle.aoe_initiator.specs.declared.outcome.Done.{Done}
use Rattle.aoe_initiator.specs.declared.outcome.Outcome.{Outcome}
use Rattle.aoe_nbd.specs.declared.error.NbdError.{NbdError}
use Rattle.aoe_nbd.specs.declared.error.NbdError.TheVariants.{NoMemory}
use Rattle.aoe_block.specs.declared.stage.Stage.{Stage}
use Rattle.aoe_block.specs.declared.stage.Stage.TheVariants.{Pending}
use Rattle.aoe_block.specs.declared.took.Took.{Took}
use Rattle.aoe_block.specs.declared.took.Took.TheVariants.{NotMine, More, Whole}
use Rattle.aoe_block.specs.Calls.{after_done, are_ended, hand as hand_part, is_success, next_part, part_of, settle as settle_block, took, took_as}
use Rattle.aoe_block.specs.Parts.{BlockState, Part}
use Rattle.aoe_block.specs.Stages.{is_failed, is_handed, is_pending, is_under_way}
use Rattle.aoe_block.proofs.LawLemmas.{up_to-cut, up_to-fresh, up_to-hand, up_to-settle}
use Rattle.aoe_desk.specs.declared.flush.Flush.{Flush}
use Rattle.aoe_desk.specs.declared.flush.Flush.TheVariants.{No, Waiting, Handed, Ended, Failed}
use Rattle.aoe_desk.specs.declared.request.OpenRequest.{OpenRequest}
use Rattle.aoe_desk.specs.Desks.{IsNew}
use Rattle.aoe_desk.specs.Requests.{count_with, first_error, flush_ended, flush_error, gave_up, hand, is_flush_handed, is_flush_out, is_flush_waiting, is_waiting, owns, part_error, settle, without_waiting, IsCounted, IsOpen}
use Rattle.aoe_desk.proofs.PartLemmas.{all_wait, count, count-cons, hand-count, handed_not_pending, handed_out, none_counts, none_out, part_counts, settle-counted, settle-fewer, settle-same, some_pending, up_to-later, one_if}

-- flushes
abbrev out : Flush → ℕ
out f = one_if (is_flush_out f)

abbrev with : ℕ → Flush → ℕ
with ticket f = one_if (is_flush_handed ticket f)

flush_handed_out : (ticket : ℕ) (f : Flush) → is_flush_handed ticket f ≡ true → is_flush_out f ≡ true
flush_handed_out ticket (Handed own) is = refl
flush_handed_out ticket _ is = absurd (cc)

out-given_up : (f : Flush) → is_flush_out (without_waiting f) ≡ is_flush_out f
out-given_up No = refl
out-given_up Waiting = refl
out-given_up (Handed own) = refl
out-given_up Ended = refl
out-given_up Failed = refl

waiting-given_up : (f : Flush) → is_flush_waiting (without_waiting f) ≡ false
waiting-given_up No = refl
waiting-given_up Waiting = refl
waiting-given_up (Handed own) = refl
waiting-given_up Ended = refl
waiting-given_up Failed = refl

handed-given_up : (ticket : ℕ) (f : Flush) → is_flush_handed ticket (without_waiting f) ≡ is_flush_handed ticket f
handed-given_up ticket No = refl
handed-given_up ticket Waiting = refl
handed-given_up ticket (Handed own) = refl
handed-given_up ticket Ended = refl
handed-given_up ticket Failed = refl

ended_in : (ticket : ℕ) (outcome : Outcome) → (is_flush_out (flush_ended outcome) ≡ false) × (is_flush_handed ticket (flush_ended outcome) ≡ false)
ended_in ticket outcome = elim (cases_Bool (is_none (flush_error outcome))) [ inl e ↦ rw e (refl, refl) | inr e ↦ rw e (refl, refl) ]

ended_not_waiting : (some : Bool) (outcome : Outcome) → (some || is_flush_waiting (flush_ended outcome)) ≡ true → some ≡ true
ended_not_waiting true outcome is = refl
ended_not_waiting false outcome is = elim (cases_Bool (is_none (flush_error outcome))) [
  | inl e ↦ absurd (let h = rw e at is in cc)
  | inr e ↦ absurd (let h = rw e at is in cc)
]

ended_well : (outcome : Outcome) → flush_error outcome ≡ None → flush_ended outcome ≡ Ended
ended_well outcome well = rw well refl

waiting_in : (f : Flush) → is_flush_waiting f ≡ true → f ≡ Waiting
waiting_in Waiting is = refl
waiting_in _ is = absurd (cc)

-- errors
pub both_none : (before error : Option NbdError) → first_error before error ≡ None → (before ≡ None) × (error ≡ None)
both_none None error is = (refl, is)
both_none (Some e) error is = absurd (cc)

given_up_error : (before : Option NbdError) → first_error before (Some NoMemory) ≡ None → ⊥
given_up_error None is = cc
given_up_error (Some e) is = cc

-- a request that came
new_flush : (lasts : Bool) (f : Flush) → f ≡ (if lasts then Waiting else No)
    → (is_flush_out f ≡ false) × ((ticket : ℕ) → is_flush_handed ticket f ≡ false) × (f ≢ Failed) × (lasts ≡ true → f ≢ No)
new_flush true f is = rw is (refl, (λ ticket. refl), (λ e. cc), (λ t e. cc))
new_flush false f is = rw is (refl, (λ ticket. refl), (λ e. cc), (λ t e. absurd (cc)))

none_failed : (parts : List Part) → All (λ p. p.stage ≡ Pending) parts → list_any (λ p. is_failed p.stage) parts ≡ false
none_failed [] all = refl
none_failed (p ∷ parts) all =
    rw (All-head (λ (q : Part). q.stage ≡ Pending) p parts all) (none_failed parts (All-tail (λ (q : Part). q.stage ≡ Pending) p parts all))

not_not : (b : Bool) → b ≡ not (not b)
not_not true = refl
not_not false = refl

module _ {handle at max : ℕ} {reads lasts : Bool} {bytes : List ℕ} {r : OpenRequest} (n : IsNew handle reads lasts at max bytes r) where
  new_counted : IsCounted r
  new_counted =
      let waits = all_wait r.block.parts n.cut.pending in
      let out = none_out is_under_way refl r.block.parts n.cut.pending in
      let f = new_flush lasts r.flush n.flush_is in
      let flush : one_if (is_flush_out r.flush) ≡ 0 = rw f.0 refl in
      let parts_is = n.parts_is in
      let under_way_is = n.under_way_is in
      record {
        pending = λ some. omega (arith, waits, parts_is);
        counted = omega (arith, out, flush, under_way_is);
        parts_up = up_to-later 0 r.last.0 r.block.parts (up_to-cut r.block.parts n.cut.pending) (omega arith);
        flush_up = λ ticket is. absurd (let e = f.1 ticket in let h = rw e at is in cc);
        once = λ ticket.
            let none = none_out (is_handed ticket) refl r.block.parts n.cut.pending in
            let with : one_if (is_flush_handed ticket r.flush) ≡ 0 = rw (f.1 ticket) refl in
            omega (arith, none, with);
      }

  pub none_with_new : (ticket : ℕ) → count_with ticket r ≡ 0
  none_with_new ticket =
      let none = none_out (is_handed ticket) refl r.block.parts n.cut.pending in
      let with : one_if (is_flush_handed ticket r.flush) ≡ 0 = rw ((new_flush lasts r.flush n.flush_is).1 ticket) refl in
      omega (arith, none, with)

  pub new_open : IsOpen r
  new_open =
      let f = new_flush lasts r.flush n.flush_is in
      let waits = all_wait r.block.parts n.cut.pending in
      record {
        counted = new_counted;
        reads = n.reads_is ∙ not_not reads ∙ ap not (sym n.write_is);
        well = λ e. record {
          unbroken = none_failed r.block.parts n.cut.pending;
          all = n.parts_is ∙ sym waits;
          flush = f.2;
          lasting = λ l. f.3 (sym n.lasts_is ∙ l);
        };
      }

-- the next operation is handed
module _ {r : OpenRequest} (o : IsOpen r) (ticket : Ticket) (rises : r.last.0 < ticket.0) where
  flush_before : (t : ℕ) → one_if (is_flush_handed ticket.0 r.flush) ≡ 0
  flush_before t = elim (cases_Bool (is_flush_handed ticket.0 r.flush)) [
    | inl is ↦ absurd (let le = o.counted.flush_up ticket.0 is in omega (arith, le, rises))
    | inr not ↦ rw not refl
  ]

  pub part_fresh : part_of ticket.0 r.block.parts ≡ None
  part_fresh = up_to-fresh r.last.0 ticket r.block.parts o.counted.parts_up rises

  parts_before : count (is_handed ticket.0) r.block.parts ≡ 0
  parts_before = none_counts ticket.0 r.block.parts part_fresh

  pub next_some : nat_lt 0 r.parts ≡ true → IsSome (next_part r.block.parts)
  next_some is = let lt = ltb-true 0 r.parts is in let e = o.counted.pending (or_left (nat_lt 0 r.parts) (is_flush_waiting r.flush) is) in some_pending r.block.parts (omega (arith, lt, e))

  abbrev part_handed : OpenRequest
  part_handed = record r {
    block = record r.block { parts = hand_part ticket r.block.parts };
    parts = r.parts - 1;
    under_way = r.under_way + 1;
    last = ticket;
  }

  abbrev flush_handed : OpenRequest
  flush_handed = record r { flush = Handed ticket; under_way = r.under_way + 1; last = ticket }

  broken-hand : (parts : List Part) → list_any (λ p. is_failed p.stage) (hand_part ticket parts) ≡ list_any (λ p. is_failed p.stage) parts
  broken-hand [] = refl
  broken-hand (p ∷ parts) = elim (cases_Bool (is_pending p.stage)) [
    | inl waits ↦ rw (waits, not_failed p.stage waits) refl
    | inr other ↦ rw (other, broken-hand parts) refl
  ]
    where
      not_failed : (s : Stage) → is_pending s ≡ true → is_failed s ≡ false
      not_failed Pending is = refl
      not_failed _ is = absurd (cc)

  open_part : nat_lt 0 r.parts ≡ true → IsOpen part_handed
  open_part is =
      let lt = ltb-true 0 r.parts is in
      let some = next_some is in
      let all = o.counted.pending (or_left (nat_lt 0 r.parts) (is_flush_waiting r.flush) is) in
      let waits = hand-count is_pending ticket r.block.parts some in
      let out = hand-count is_under_way ticket r.block.parts some in
      let counted = o.counted.counted in
      record {
        counted = record {
          pending = λ more. omega (arith, waits, all, lt);
          counted = omega (arith, out, counted);
          parts_up = up_to-hand r.last.0 ticket r.block.parts o.counted.parts_up rises;
          flush_up = λ t is. let le = o.counted.flush_up t is in omega (arith, le, rises);
          once = λ t.
              let with = hand-count (is_handed t) ticket r.block.parts some in
              let before = o.counted.once t in
              elim (cases_eq ticket.0 t) [
                | inl same ↦
                    let none = parts_before in
                    let no_flush = flush_before t in
                    let one : one_if (nat_eq ticket.0 t) ≤ 1 = cond_le (nat_eq ticket.0 t) in
                    let none_t : count (is_handed t) r.block.parts ≡ 0 = rw (← same) none in
                    let flush_t : one_if (is_flush_handed t r.flush) ≡ 0 = rw (← same) no_flush in
                    omega (arith, with, none_t, flush_t, one)
                | inr other ↦
                    let zero_is : one_if (nat_eq ticket.0 t) ≡ 0 = rw (ne_eqb ticket.0 t other) refl in
                    omega (arith, with, before, zero_is)
              ];
        };
        reads = o.reads;
        well = λ e.
            let w = o.well e in
            let all = w.all in
            record {
              unbroken = broken-hand r.block.parts ∙ w.unbroken;
              all = omega (arith, waits, all, lt);
              flush = w.flush;
              lasting = w.lasting;
            };
      }
    where
      cond_le : (b : Bool) → one_if b ≤ 1
      cond_le true = omega arith
      cond_le false = omega arith

  open_flush : nat_lt 0 r.parts ≡ false → is_flush_waiting r.flush ≡ true → IsOpen flush_handed
  open_flush is waits =
      let none = ltb-false 0 r.parts is in
      let f = waiting_in r.flush waits in
      let counted = o.counted.counted in
      let was_out : one_if (is_flush_out r.flush) ≡ 0 = rw f refl in
      record {
        counted = record {
          pending = λ some. o.counted.pending (or_right (nat_lt 0 r.parts) (is_flush_waiting r.flush) waits);
          counted = omega (arith, counted, was_out);
          parts_up = up_to-later r.last.0 ticket.0 r.block.parts o.counted.parts_up (omega (arith, rises));
          flush_up = λ t is. let e = eqb-true ticket.0 t is in omega (arith, e);
          once = λ t.
              let before = o.counted.once t in
              elim (cases_eq ticket.0 t) [
                | inl same ↦
                    let none_t : count (is_handed t) r.block.parts ≡ 0 = rw (← same) parts_before in
                    let one : one_if (nat_eq ticket.0 t) ≡ 1 = rw (eq-eqb ticket.0 t same) refl in
                    omega (arith, none_t, one)
                | inr other ↦
                    let zero_is : one_if (nat_eq ticket.0 t) ≡ 0 = rw (ne_eqb ticket.0 t other) refl in
                    omega (arith, before, zero_is)
              ];
        };
        reads = o.reads;
        well = λ e.
            let w = o.well e in
            record { unbroken = w.unbroken; all = w.all; flush = λ e. cc; lasting = λ l e. cc };
      }

  pub open_hand : is_waiting r ≡ true → IsOpen (hand ticket r)
  open_hand waits = elim (cases_Bool (nat_lt 0 r.parts)) [
    | inl is ↦ (let e : hand ticket r ≡ part_handed = rw is refl in rw e (open_part is))
    | inr is ↦ (let e : hand ticket r ≡ flush_handed = rw is refl in rw e (open_flush is (rw is at waits)))
  ]

  -- it is under way with its ticket, and the others as before
  pub hand_with : is_waiting r ≡ true → (t : ℕ) → count_with t (hand ticket r) ≡ count_with t r + one_if (nat_eq ticket.0 t)
  hand_with waits t = elim (cases_Bool (nat_lt 0 r.parts)) [
    | inl is ↦
        let e : hand ticket r ≡ part_handed = rw is refl in
        let with = hand-count (is_handed t) ticket r.block.parts (next_some is) in
        let now : count_with t (hand ticket r) ≡ count_with t part_handed = ap (count_with t) e in
        omega (arith, with, now)
    | inr is ↦
        let e : hand ticket r ≡ flush_handed = rw is refl in
        let f = waiting_in r.flush (rw is at waits) in
        let none : one_if (is_flush_handed t r.flush) ≡ 0 = rw f refl in
        let now : count_with t (hand ticket r) ≡ count_with t flush_handed = ap (count_with t) e in
        omega (arith, none, now)
  ]

  pub none_with : count_with ticket.0 r ≡ 0
  none_with = let a = parts_before in let b = flush_before 0 in omega (arith, a, b)

pub hand_room : (ticket : Ticket) (r : OpenRequest) → (hand ticket r).room ≡ r.room
hand_room ticket r = elim (cases_Bool (nat_lt 0 r.parts)) [ inl is ↦ rw is refl | inr is ↦ rw is refl ]

pub hand_under_way : (ticket : Ticket) (r : OpenRequest) → (hand ticket r).under_way ≡ r.under_way + 1
hand_under_way ticket r = refl

pub settle_room : (done : Done) (r : OpenRequest) → (settle done r).room ≡ r.room
settle_room done r = elim (cases_Bool (is_flush_handed done.ticket.0 r.flush)) [ inl is ↦ rw is refl | inr is ↦ rw is refl ]

pub settle_last : (done : Done) (r : OpenRequest) → (settle done r).last ≡ r.last
settle_last done r = elim (cases_Bool (is_flush_handed done.ticket.0 r.flush)) [ inl is ↦ rw is refl | inr is ↦ rw is refl ]

-- an operation has its outcome
pub none_same : (write : Bool) (done : Done) (parts : List Part) → count (is_handed done.ticket.0) parts ≡ 0 → map (after_done write done) parts ≡ parts
none_same write done [] none = refl
none_same write done (p ∷ parts) none =
    let b = count-cons (is_handed done.ticket.0) p parts in
    elim (cases_Bool (is_handed done.ticket.0 p.stage)) [
      | inl mine ↦ absurd (let z : one_if (is_handed done.ticket.0 p.stage) ≡ 1 = rw mine refl in omega (arith, b, z, none))
      | inr other ↦ rw (other, none_same write done parts (omega (arith, b, none))) refl
    ]

-- a part that was read or written breaks nothing
unbroken : (write : Bool) (done : Done) (parts : List Part) (p : Part) → part_of done.ticket.0 parts ≡ Some p → is_success write p.count done.outcome ≡ true
    → count (is_handed done.ticket.0) parts ≤ 1 → list_any (λ q. is_failed q.stage) parts ≡ false
    → list_any (λ q. is_failed q.stage) (map (after_done write done) parts) ≡ false
unbroken write done [] p found well once whole = absurd (cc)
unbroken write done (q ∷ parts) p found well once whole =
    let b = count-cons (is_handed done.ticket.0) q parts in
    let rest_whole = (or_parts (is_failed q.stage) (list_any (λ q. is_failed q.stage) parts) whole).1 in
    elim (cases_Bool (is_handed done.ticket.0 q.stage)) [
      | inl mine ↦
          let z : one_if (is_handed done.ticket.0 q.stage) ≡ 1 = rw mine refl in
          let same = none_same write done parts (omega (arith, b, z, once)) in
          let e : Some q ≡ Some p = rw mine at found in
          let qp : is_success write q.count done.outcome ≡ true = rw (some_same q p e) well in
          rw (same, mine, qp) rest_whole
      | inr other ↦
          let z : one_if (is_handed done.ticket.0 q.stage) ≡ 0 = rw other refl in
          let tail = unbroken write done parts p (rw other at found) well (omega (arith, b, z, once)) rest_whole in
          rw (other, tail) (or_from (is_failed q.stage) false (or_parts (is_failed q.stage) (list_any (λ q. is_failed q.stage) parts) whole).0 refl)
    ]
  where
    some_same : (a b : Part) → Some a ≡ Some b → a ≡ b
    some_same a b e = cc

took_well : (write : Bool) (done : Done) (found : Option Part) (ended : Bool) → is_some found ≡ true → part_error (took_as write done found ended) ≡ None
    → (p : Part) × (found ≡ Some p) × (is_success write p.count done.outcome ≡ true)
took_well write done None ended some none = absurd (cc)
took_well write done (Some p) ended some none = elim (cases_Bool (is_success write p.count done.outcome)) [
  | inl well ↦ (p, refl, well)
  | inr badly ↦ absurd (let e = rw badly at none in cc)
]

module _ {r : OpenRequest} (o : IsOpen r) (done : Done) where
  abbrev flush_settled : OpenRequest
  flush_settled = record r {
    flush = flush_ended done.outcome;
    under_way = r.under_way - 1;
    error = first_error r.error (flush_error done.outcome);
  }

  abbrev part_settled : OpenRequest
  part_settled = record r {
    block = settle_block r.block done;
    under_way = r.under_way - 1;
    error = first_error r.error (part_error (took r.block done));
  }

  pub flush_counts : is_flush_handed done.ticket.0 r.flush ≡ true → 0 < r.under_way
  flush_counts is =
      let counted = o.counted.counted in
      let one : one_if (is_flush_out r.flush) ≡ 1 = rw (flush_handed_out done.ticket.0 r.flush is) refl in
      omega (arith, counted, one)

  open_flush_settled : is_flush_handed done.ticket.0 r.flush ≡ true → IsOpen flush_settled
  open_flush_settled is =
      let counted = o.counted.counted in
      let one : one_if (is_flush_out r.flush) ≡ 1 = rw (flush_handed_out done.ticket.0 r.flush is) refl in
      let zero_is : one_if (is_flush_out (flush_ended done.outcome)) ≡ 0 = rw (ended_in 0 done.outcome).0 refl in
      record {
        counted = record {
          pending = λ some. o.counted.pending (or_left (nat_lt 0 r.parts) (is_flush_waiting r.flush) (ended_not_waiting (nat_lt 0 r.parts) done.outcome some));
          counted = omega (arith, counted, one, zero_is);
          parts_up = o.counted.parts_up;
          flush_up = λ t is. absurd (let e = (ended_in t done.outcome).1 in let h = rw e at is in cc);
          once = λ t.
              let before = o.counted.once t in
              let none : one_if (is_flush_handed t (flush_ended done.outcome)) ≡ 0 = rw (ended_in t done.outcome).1 refl in
              omega (arith, before, none);
        };
        reads = o.reads;
        well = λ e.
            let b = both_none r.error (flush_error done.outcome) e in
            let w = o.well b.0 in
            let f = ended_well done.outcome b.1 in
            record {
              unbroken = w.unbroken;
              all = w.all;
              flush = λ failed. (let h = sym f ∙ failed in cc);
              lasting = λ l no. (let h = sym f ∙ no in cc);
            };
      }

  count_one : is_some (part_of done.ticket.0 r.block.parts) ≡ true → count (is_handed done.ticket.0) r.block.parts ≡ 1
  count_one some =
      let once = o.counted.once done.ticket.0 in
      let lt = part_counts done.ticket.0 r.block.parts some in
      omega (arith, once, lt)

  pub part_counted : is_some (part_of done.ticket.0 r.block.parts) ≡ true → 0 < r.under_way
  part_counted some =
      let counted = o.counted.counted in
      let one = count_one some in
      let out = settle-counted is_under_way r.block.write done refl refl (handed_out done.ticket.0) r.block.parts in
      omega (arith, counted, one, out)

  open_part_settled : is_some (part_of done.ticket.0 r.block.parts) ≡ true → IsOpen part_settled
  open_part_settled some =
      let counted = o.counted.counted in
      let one = count_one some in
      let out = settle-counted is_under_way r.block.write done refl refl (handed_out done.ticket.0) r.block.parts in
      let waits = settle-same is_pending r.block.write done refl refl (handed_not_pending done.ticket.0) r.block.parts in
      record {
        counted = record {
          pending = λ some. let e = o.counted.pending some in omega (arith, e, waits);
          counted = omega (arith, counted, one, out);
          parts_up = up_to-settle r.last.0 r.block.write done r.block.parts o.counted.parts_up;
          flush_up = o.counted.flush_up;
          once = λ t.
              let before = o.counted.once t in
              let fewer = settle-fewer t r.block.write done r.block.parts in
              omega (arith, before, fewer);
        };
        reads = o.reads;
        well = λ e.
            let b = both_none r.error (part_error (took r.block done)) e in
            let w = o.well b.0 in
            let all = w.all in
            let t = took_well r.block.write done (part_of done.ticket.0 r.block.parts) (are_ended (settle_block r.block done).parts) some b.1 in
            record {
              unbroken = unbroken r.block.write done r.block.parts t.0 t.1 t.2 (omega (arith, one)) w.unbroken;
              all = omega (arith, all, waits);
              flush = w.flush;
              lasting = w.lasting;
            };
      }

  pub open_settle : owns done.ticket.0 r ≡ true → IsOpen (settle done r)
  open_settle own = elim (cases_Bool (is_flush_handed done.ticket.0 r.flush)) [
    | inl is ↦ (let e : settle done r ≡ flush_settled = rw is refl in rw e (open_flush_settled is))
    | inr is ↦ (let e : settle done r ≡ part_settled = rw is refl in rw e (open_part_settled (rw is at own)))
  ]

  -- no more than before with a ticket
  pub settle_with : (ticket : ℕ) → count_with ticket (settle done r) ≤ count_with ticket r
  settle_with ticket = elim (cases_Bool (is_flush_handed done.ticket.0 r.flush)) [
    | inl is ↦
        let e : settle done r ≡ flush_settled = rw is refl in
        let none : one_if (is_flush_handed ticket (flush_ended done.outcome)) ≡ 0 = rw (ended_in ticket done.outcome).1 refl in
        rw e (omega (arith, none))
    | inr is ↦
        let e : settle done r ≡ part_settled = rw is refl in
        let fewer = settle-fewer ticket r.block.write done r.block.parts in
        rw e (omega (arith, fewer))
  ]

  pub settle_under_way : owns done.ticket.0 r ≡ true → (settle done r).under_way + 1 ≡ r.under_way
  settle_under_way own = elim (cases_Bool (is_flush_handed done.ticket.0 r.flush)) [
    | inl is ↦
        let e : settle done r ≡ flush_settled = rw is refl in
        let lt = flush_counts is in
        rw e (omega (arith, lt))
    | inr is ↦
        let e : settle done r ≡ part_settled = rw is refl in
        let lt = part_counted (rw is at own) in
        rw e (omega (arith, lt))
  ]

-- what wasn't handed is given up
pub open_gave_up : {r : OpenRequest} → IsOpen r → IsOpen (gave_up r)
open_gave_up {r} o =
    let counted = o.counted.counted in
    let out : one_if (is_flush_out (without_waiting r.flush)) ≡ one_if (is_flush_out r.flush)
    = ap (λ (b : Bool). one_if b) (out-given_up r.flush) in
    record {
      counted = record {
        pending = λ some. absurd (let e = rw (waiting-given_up r.flush) at some in cc);
        counted = omega (arith, counted, out);
        parts_up = o.counted.parts_up;
        flush_up = λ t is. o.counted.flush_up t (sym (handed-given_up t r.flush) ∙ is);
        once = λ t.
            let before = o.counted.once t in
            let same : one_if (is_flush_handed t (without_waiting r.flush)) ≡ one_if (is_flush_handed t r.flush)
            = ap (λ (b : Bool). one_if b) (handed-given_up t r.flush) in
            omega (arith, before, same);
      };
      reads = o.reads;
      well = λ e. absurd (given_up_error r.error e);
    }

pub gave_up_with : (ticket : ℕ) (r : OpenRequest) → count_with ticket (gave_up r) ≡ count_with ticket r
gave_up_with ticket r = rw (handed-given_up ticket r.flush) refl

-- a ticket past the last is none of its own
pub not_owned : {r : OpenRequest} → IsOpen r → (ticket : Ticket) → r.last.0 < ticket.0 → owns ticket.0 r ≡ false
not_owned {r} o ticket past = elim (cases_Bool (is_flush_handed ticket.0 r.flush)) [
  | inl is ↦ absurd (let le = o.counted.flush_up ticket.0 is in omega (arith, le, past))
  | inr not ↦ or_from (is_flush_handed ticket.0 r.flush) (is_some (part_of ticket.0 r.block.parts)) not (ap is_some (part_fresh o ticket past))
]

-- what isn't told to be a stranger is a part
pub took_mine : (b : BlockState) (done : Done) (t : Took) → t ≡ took b done → ((back : Done) → t ≡ NotMine back → ⊥) → is_some (part_of done.ticket.0 b.parts) ≡ true
took_mine b done t is mine = at (part_of done.ticket.0 b.parts) refl
  where
    at : (found : Option Part) → part_of done.ticket.0 b.parts ≡ found → is_some (part_of done.ticket.0 b.parts) ≡ true
    at (Some p) e = ap is_some e
    at None e = absurd (mine done (is ∙ (let f : took b done ≡ NotMine done = rw e refl in f)))

-- a stranger is handed back
pub took_back : (b : BlockState) (done back : Done) → NotMine back ≡ took b done → (back ≡ done) × (part_of done.ticket.0 b.parts ≡ None)
took_back b done back is = at (part_of done.ticket.0 b.parts) refl
  where
    split : (w : Bool) (ended : Bool) (p : Part) → NotMine back ≡ took_as w done (Some p) ended → ⊥
    split w ended p e = elim (cases_Bool (is_success w p.count done.outcome)) [
      | inl well ↦ whole ended (rw well at e)
      | inr badly ↦ (let h = rw badly at e in cc)
    ]
      where
        whole : (b : Bool) → NotMine back ≡ (if b then Whole else More) → ⊥
        whole true e = cc
        whole false e = cc

    at : (found : Option Part) → part_of done.ticket.0 b.parts ≡ found → (back ≡ done) × (part_of done.ticket.0 b.parts ≡ None)
    at None e = (let h : NotMine back ≡ NotMine done = rw e at is in cc, e)
    at (Some p) e = absurd (split b.write (are_ended (settle_block b done).parts) p (rw e at is))
