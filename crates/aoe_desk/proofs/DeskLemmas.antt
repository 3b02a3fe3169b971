-- What is so of a desk stays so.
use Rattle.std.proofs.Common.{◌≡◌, ◌≤◌, ◌<◌, ◌+◌, ◌-◌, ◌==◌, ℕ, zero, suc, Bool, true, false, nat_lt, nat_eq, length, List, [], ◌∷◌, ◌++◌, take, drop, set, get_or, slice_get, Option, Some, None, IsSome, arith, refl, sym, ap, ◌∙◌, inl, inr}
use Rattle.std.specs.List.{position, remove, sum_by, All}
use Rattle.std.proofs.lemmas.Bool.{cases_Bool, cases_eq, eq-eqb, eqb-false, ltb-true, ltb-false, ne_eqb}
use Rattle.std.proofs.lemmas.List.Edits.{length-remove}
use Rattle.std.proofs.lemmas.List.Elements.{All-append, All-drop, All-get_or, All-head, All-nil, All-push, All-set, All-tail, All-take, All-weaker}
use Rattle.std.proofs.lemmas.List.Quantifiers.{position-Some}
use Rattle.std.proofs.lemmas.List.Sums.{sum_by_push, sum_by-cons, sum_by-remove, sum_by-set, get_or-le-sum_by}
use Rattle.std.proofs.lemmas.List.{length_push}
use Rattle.std.proofs.lemmas.Option.{slice_get-get_or}
use Rattle.aoe_base.specs.declared.counted.Ticket.{Ticket}
use Rattle.aoe_initiator.specs.declared.outcome.Done.{Done}
use Rattle.aoe_nbd.specs.declared.error.NbdError.{NbdError}
use Rattle.aoe_desk.specs.declared.request.OpenRequest.{OpenRequest}
use Rattle.aoe_desk.specs.declared.reply.Reply.{Reply}
use Rattle.aoe_desk.specs.Desks.{change_at, change_request, close, close_if, completed, first_waiting, gave_up, give_up_at, hand, hand_at, left, next_op, opened, owner, refused, settle, settle_at, under_way, DeskState, HasRoom, IsDesk, IsNew}
use Rattle.aoe_desk.specs.Requests.{count_with, gave_up as gave_up_request, hand as hand_request, is_finished, is_waiting, owns, reply_of, settle as settle_request, IsOpen}
use Rattle.aoe_desk.proofs.PartLemmas.{one_if}
use Rattle.aoe_desk.proofs.RequestLemmas.{gave_up_with, hand_room, hand_with, new_open, none_with, none_with_new, open_gave_up, open_hand, open_settle, settle_last, settle_room, settle_under_way, settle_with}

-- a change of the element at a place
pub set-change_at : {A : Type 0} (n : ℕ) (change : A → A) (xs : List A) (d : A) → n < length xs → change_at n change xs ≡ set xs n (change (get_or xs n d))
set-change_at n change [] d lt = absurd (omega (arith, lt))
set-change_at zero change (x ∷ xs) d lt = refl
set-change_at (suc n) change (x ∷ xs) d lt = ap (◌∷◌ x) (set-change_at n change xs d (omega (arith, lt)))

pub change_read : {A : Type 0} (xs : List A) (n : ℕ) (x : A) (change : A → A) → n < length xs → x ≡ get_or xs n x → set xs n (change x) ≡ change_at n change xs
change_read xs n x change lt read = sym (set-change_at n change xs x lt ∙ ap (λ y. set xs n (change y)) (sym read))

pub length-change_at : {A : Type 0} (n : ℕ) (change : A → A) (xs : List A) → length (change_at n change xs) ≡ length xs
length-change_at n change [] = refl
length-change_at zero change (x ∷ xs) = refl
length-change_at (suc n) change (x ∷ xs) = ap suc (length-change_at n change xs)

pub sum-change_at : {A : Type 0} (g : A → ℕ) (n : ℕ) (change : A → A) (xs : List A) (d : A) → n < length xs
    → sum_by g (change_at n change xs) + g (get_or xs n d) ≡ sum_by g xs + g (change (get_or xs n d))
sum-change_at g n change xs d lt = rw (set-change_at n change xs d lt) (sum_by-set g xs n (change (get_or xs n d)) d lt)

All-change_at : {A : Type 0} (P : A → Type 0) (n : ℕ) (change : A → A) (xs : List A) (d : A) → n < length xs → P (change (get_or xs n d)) → All P xs
    → All P (change_at n change xs)
All-change_at P n change xs d lt here all = rw (set-change_at n change xs d lt) (All-set P xs n (change (get_or xs n d)) here all)

All-remove : {A : Type 0} (P : A → Type 0) (xs : List A) (n : ℕ) → All P xs → All P (remove xs n)
All-remove P xs n all = All-append P (take n xs) (drop (suc n) xs) (All-take P n xs all) (All-drop P (suc n) xs all)

sum_zero : {A : Type 0} (g : A → ℕ) (xs : List A) → All (λ x. g x ≡ 0) xs → sum_by g xs ≡ 0
sum_zero g [] all = refl
sum_zero g (x ∷ xs) all =
    let e = sum_by-cons g x xs in
    let a = All-head (λ y. g y ≡ 0) x xs all in
    let b = sum_zero g xs (All-tail (λ y. g y ≡ 0) x xs all) in
    omega (arith, e, a, b)

-- a change that takes nothing and gives nothing back but operations
pub record IsChange (d : DeskState) (k : ℕ) (change : OpenRequest → OpenRequest) (r : OpenRequest) : Type 0 where
  pub is_open : IsOpen (change r)
  pub last_is : (change r).last.0 ≤ d.last
  pub with_fewer : (ticket : ℕ) → count_with ticket (change r) ≤ count_with ticket r
  pub room_is : (change r).room ≡ r.room
  pub under_way_fewer : (change r).under_way ≤ r.under_way

module _ {d : DeskState} (s : IsDesk d) (k : ℕ) (e : OpenRequest) (lt : k < length d.open_requests) where
  abbrev here : OpenRequest
  here = get_or d.open_requests k e

  pub here_open : IsOpen here
  here_open = All-get_or IsOpen d.open_requests k e lt s.each

  pub here_last : here.last.0 ≤ d.last
  here_last = All-get_or (λ (r : OpenRequest). r.last.0 ≤ d.last) d.open_requests k e lt s.tickets

  pub here_under_way : here.under_way ≤ under_way d
  here_under_way = get_or-le-sum_by (λ (r : OpenRequest). r.under_way) d.open_requests k e lt

  pub desk_change : (change : OpenRequest → OpenRequest) → IsChange d k change here → IsDesk (change_request k change d)
  desk_change change c =
      let len = length-change_at k change d.open_requests in
      let rooms = sum-change_at (λ (r : OpenRequest). r.room) k change d.open_requests e lt in
      let outs = sum-change_at (λ (r : OpenRequest). r.under_way) k change d.open_requests e lt in
      let room_is = c.room_is in
      let fewer = c.under_way_fewer in
      let gone = s.gone in
      let few = s.few in
      let short = s.short in
      let bounded = s.bounded in
      record {
        some = s.some;
        short_parts = s.short_parts;
        each = All-change_at IsOpen k change d.open_requests e lt c.is_open s.each;
        tickets = All-change_at (λ (r : OpenRequest). r.last.0 ≤ d.last) k change d.open_requests e lt c.last_is s.tickets;
        once = λ ticket.
            let sums = sum-change_at (count_with ticket) k change d.open_requests e lt in
            let before = s.once ticket in
            let less = c.with_fewer ticket in
            omega (arith, sums, before, less);
        gone = omega (arith, len, gone);
        few = omega (arith, len, few);
        short = omega (arith, rooms, room_is, short);
        bounded = omega (arith, outs, fewer, bounded);
      }

  pub desk_completed : IsDesk (completed k here d)
  desk_completed =
      let len = length-remove d.open_requests k lt in
      let rooms = sum_by-remove (λ (r : OpenRequest). r.room) d.open_requests k e lt in
      let outs = sum_by-remove (λ (r : OpenRequest). r.under_way) d.open_requests k e lt in
      let gone = s.gone in
      let few = s.few in
      let short = s.short in
      let bounded = s.bounded in
      let more = length_push d.replies (reply_of here) in
      let replies = sum_by_push (λ (r : Reply). r.room) d.replies (reply_of here) in
      let each = All-remove IsOpen d.open_requests k s.each in
      let tickets = All-remove (λ (r : OpenRequest). r.last.0 ≤ d.last) d.open_requests k s.tickets in
      let once : (ticket : ℕ) → sum_by (count_with ticket) (remove d.open_requests k) ≤ 1
      = λ ticket. let sums = sum_by-remove (count_with ticket) d.open_requests k e lt in let before = s.once ticket in omega (arith, sums, before) in
      elim (cases_Bool (nat_lt k d.gone)) [
        | inl is ↦
            let before = ltb-true k d.gone is in
            let same : completed k here d ≡ record d { open_requests = remove d.open_requests k; gone = d.gone - 1 } = rw is refl in
            rw same (record {
              some = s.some;
              short_parts = s.short_parts;
              each = each;
              tickets = tickets;
              once = once;
              gone = omega (arith, len, gone, before);
              few = omega (arith, len, few);
              short = omega (arith, rooms, short);
              bounded = omega (arith, outs, bounded);
            })
        | inr is ↦
            let behind = ltb-false k d.gone is in
            let same : completed k here d ≡ record d { open_requests = remove d.open_requests k; replies = d.replies ++ reply_of here ∷ [] } = rw is refl in
            rw same (record {
              some = s.some;
              short_parts = s.short_parts;
              each = each;
              tickets = tickets;
              once = once;
              gone = omega (arith, len, lt, behind);
              few = omega (arith, len, few, more);
              short = omega (arith, rooms, short, replies);
              bounded = omega (arith, outs, bounded);
            })
      ]

  pub close_finished : is_finished here ≡ true → close k d ≡ completed k here d
  close_finished is = rw (slice_get-get_or d.open_requests k e lt, is) refl

  pub close_unfinished : is_finished here ≡ false → close k d ≡ d
  close_unfinished is = rw (slice_get-get_or d.open_requests k e lt, is) refl

  pub desk_close : IsDesk (close k d)
  desk_close = elim (cases_Bool (is_finished here)) [
    | inl is ↦ rw (close_finished is) desk_completed
    | inr is ↦ rw (close_unfinished is) s
  ]

  pub desk_hand : is_waiting here ≡ true → under_way d < 4096 → (ticket : Ticket) → d.last < ticket.0
      → IsDesk (record d { open_requests = change_at k (hand_request ticket) d.open_requests; last = ticket.0 })
  desk_hand waits room ticket rises =
      let len = length-change_at k (hand_request ticket) d.open_requests in
      let rooms = sum-change_at (λ (r : OpenRequest). r.room) k (hand_request ticket) d.open_requests e lt in
      let outs = sum-change_at (λ (r : OpenRequest). r.under_way) k (hand_request ticket) d.open_requests e lt in
      let room_is = hand_room ticket here in
      let last = here_last in
      let o = here_open in
      let gone = s.gone in
      let few = s.few in
      let short = s.short in
      let is_open = open_hand o ticket (omega (arith, last, rises)) waits in
      record {
        some = s.some;
        short_parts = s.short_parts;
        each = All-change_at IsOpen k (hand_request ticket) d.open_requests e lt is_open s.each;
        tickets = All-change_at (λ (r : OpenRequest). r.last.0 ≤ ticket.0) k (hand_request ticket) d.open_requests e lt (omega arith)
            (All-weaker (λ (r : OpenRequest). r.last.0 ≤ d.last) (λ (r : OpenRequest). r.last.0 ≤ ticket.0) (λ r le. omega (arith, le, rises)) d.open_requests s.tickets);
        once = λ t.
            let sums = sum-change_at (count_with t) k (hand_request ticket) d.open_requests e lt in
            let before = s.once t in
            let with = hand_with o ticket (omega (arith, last, rises)) waits t in
            elim (cases_eq ticket.0 t) [
              | inl same ↦
                  let none : sum_by (count_with ticket.0) d.open_requests ≡ 0 = sum_zero (count_with ticket.0) d.open_requests fresh in
                  let none_t : sum_by (count_with t) d.open_requests ≡ 0 = rw (← same) none in
                  let one : one_if (nat_eq ticket.0 t) ≡ 1 = rw (eq-eqb ticket.0 t same) refl in
                  omega (arith, sums, none_t, with, one)
              | inr other ↦
                  let zero_is : one_if (nat_eq ticket.0 t) ≡ 0 = rw (ne_eqb ticket.0 t other) refl in
                  omega (arith, sums, before, with, zero_is)
            ];
        gone = omega (arith, len, gone);
        few = omega (arith, len, few);
        short = omega (arith, rooms, room_is, short);
        bounded = omega (arith, outs, room);
      }
    where
      fresh : All (λ (r : OpenRequest). count_with ticket.0 r ≡ 0) d.open_requests
      fresh i x inside =
          let le = s.tickets i x inside in
          none_with (s.each i x inside) ticket (omega (arith, le, rises))

-- settling and giving up are such changes
pub settle_change : {d : DeskState} {k : ℕ} {r : OpenRequest} (done : Done) → IsOpen r → r.last.0 ≤ d.last → owns done.ticket.0 r ≡ true
    → IsChange d k (settle_request done) r
settle_change {d} {k} {r} done o last own = record {
  is_open = open_settle o done own;
  last_is = rw (settle_last done r) last;
  with_fewer = settle_with o done;
  room_is = settle_room done r;
  under_way_fewer = let e = settle_under_way o done own in omega (arith, e);
}

pub give_up_change : {d : DeskState} {k : ℕ} {r : OpenRequest} → IsOpen r → r.last.0 ≤ d.last → IsChange d k gave_up_request r
give_up_change {d} {k} {r} o last = record {
  is_open = open_gave_up o;
  last_is = last;
  with_fewer = λ ticket. let e = gave_up_with ticket r in omega (arith, e);
  room_is = refl;
  under_way_fewer = omega arith;
}

-- requests that come
pub desk_refused : {d : DeskState} → IsDesk d → HasRoom 0 d → (handle : ℕ) (error : NbdError) → IsDesk (refused handle error d)
desk_refused {d} s room handle error =
    let reply : Reply = record { handle = handle; error = Some error; payload = []; room = 0 } in
    let more = length_push d.replies reply in
    let replies = sum_by_push (λ (r : Reply). r.room) d.replies reply in
    let few = room.few in
    let short = s.short in
    record {
      some = s.some;
      short_parts = s.short_parts;
      each = s.each;
      tickets = s.tickets;
      once = s.once;
      gone = s.gone;
      few = omega (arith, more, few);
      short = omega (arith, replies, short);
      bounded = s.bounded;
    }

pub desk_opened : {d : DeskState} → IsDesk d → {handle at max : ℕ} {reads lasts : Bool} {bytes : List ℕ} {r : OpenRequest} → HasRoom (length bytes) d
    → IsNew handle reads lasts at max bytes r → IsDesk (opened r d)
desk_opened {d} s {r = r} room n =
    let more = length_push d.open_requests r in
    let rooms = sum_by_push (λ (r : OpenRequest). r.room) d.open_requests r in
    let outs = sum_by_push (λ (r : OpenRequest). r.under_way) d.open_requests r in
    let few = room.few in
    let short = room.short in
    let gone = s.gone in
    let bounded = s.bounded in
    let room_is = n.room_is in
    let out_is = n.under_way_is in
    let last_is = n.last_is in
    let o = new_open n in
    record {
      some = s.some;
      short_parts = s.short_parts;
      each = All-push IsOpen d.open_requests r s.each o;
      tickets = All-push (λ (r : OpenRequest). r.last.0 ≤ d.last) d.open_requests r s.tickets (omega (arith, last_is));
      once = λ ticket.
          let sums = sum_by_push (count_with ticket) d.open_requests r in
          let before = s.once ticket in
          let none = none_with_new n ticket in
          omega (arith, sums, before, none);
      gone = omega (arith, more, gone);
      few = omega (arith, more, few);
      short = omega (arith, rooms, short, room_is);
      bounded = omega (arith, outs, bounded, out_is);
    }

-- replies that are written, and clients that leave
pub desk_written : {d : DeskState} → IsDesk d → (replies : List Reply) → length replies ≤ length d.replies
    → sum_by (λ r. r.room) replies ≤ sum_by (λ r. r.room) d.replies → IsDesk (record d { replies = replies })
desk_written {d} s replies fewer less =
    let few = s.few in
    let short = s.short in
    record {
      some = s.some;
      short_parts = s.short_parts;
      each = s.each;
      tickets = s.tickets;
      once = s.once;
      gone = s.gone;
      few = omega (arith, few, fewer);
      short = omega (arith, short, less);
      bounded = s.bounded;
    }

pub desk_left : {d : DeskState} → IsDesk d → IsDesk (left d)
desk_left {d} s =
    let few = s.few in
    let short = s.short in
    record {
      some = s.some;
      short_parts = s.short_parts;
      each = s.each;
      tickets = s.tickets;
      once = s.once;
      gone = omega arith;
      few = omega (arith, few);
      short = omega (arith, short);
      bounded = s.bounded;
    }

pub desk_new : (total max : ℕ) → 0 < max → max ≤ 17
    → IsDesk (record { total = total; max = max; open_requests = []; gone = 0; replies = []; last = 0 })
desk_new total max some short = record {
  some = some;
  short_parts = short;
  each = All-nil IsOpen;
  tickets = All-nil (λ (r : OpenRequest). r.last.0 ≤ 0);
  once = λ ticket. omega arith;
  gone = omega arith;
  few = omega arith;
  short = omega arith;
  bounded = omega arith;
}

-- the first place that passes a test
pub first_place : {A : Type 0} (p : A → Bool) (xs : List A) (k : ℕ) → position p xs ≡ Some k → (x : A) × (k < length xs) × (p (get_or xs k x) ≡ true)
first_place p [] k is = absurd (cc)
first_place p (x ∷ xs) k is = let h = position-Some p (x ∷ xs) k x is in (x, h.0, h.1)

pub room_to_hand : {d : DeskState} → IsDesk d → IsSome (next_op d) → under_way d < 4096
room_to_hand {d} s some = elim (cases_Bool (under_way d == 4096)) [
  | inl full ↦ absurd (let e = rw full at some in cc)
  | inr not ↦ (let ne = eqb-false (under_way d) 4096 not in let le = s.bounded in below (under_way d) ne le)
]
  where
    below : (n : ℕ) → (n ≡ 4096 → ⊥) → n ≤ 4096 → n < 4096
    below n ne le = elim (cases_eq n 4096) [ inl e ↦ absurd (ne e) | inr other ↦ omega (arith, le, other) ]

pub desk_handed : {d : DeskState} → IsDesk d → IsSome (next_op d) → (ticket : Ticket) → d.last < ticket.0 → IsDesk (hand ticket d)
desk_handed {d} s some ticket rises = at (first_waiting d) refl
  where
    at : (w : Option ℕ) → first_waiting d ≡ w → IsDesk (hand_at ticket w d)
    at None is = s
    at (Some k) is = let f = first_place is_waiting d.open_requests k is in desk_hand s k f.0 f.1 f.2 (room_to_hand s some) ticket rises

-- closing after a change
module _ {d : DeskState} (s : IsDesk d) (k : ℕ) (e : OpenRequest) (lt : k < length d.open_requests) (change : OpenRequest → OpenRequest)
    (c : IsChange d k change (get_or d.open_requests k e)) where
  pub desk_closed : IsDesk (close k (change_request k change d))
  desk_closed =
      let len = length-change_at k change d.open_requests in
      desk_close (desk_change s k e lt change c) k e (omega (arith, lt, len))

pub desk_gave_up : {d : DeskState} → IsDesk d → IsDesk (gave_up d)
desk_gave_up {d} s = at (first_waiting d) refl
  where
    at : (w : Option ℕ) → first_waiting d ≡ w → IsDesk (give_up_at w d)
    at None is = s
    at (Some k) is =
        let f = first_place is_waiting d.open_requests k is in
        desk_closed s k f.0 f.1 gave_up_request (give_up_change (here_open s k f.0 f.1) (here_last s k f.0 f.1))

pub desk_settled : {d : DeskState} → IsDesk d → (done : Done) → IsDesk (settle done d)
desk_settled {d} s done = at (owner done.ticket.0 d) refl
  where
    at : (w : Option ℕ) → owner done.ticket.0 d ≡ w → IsDesk (settle_at done w d)
    at None is = s
    at (Some k) is =
        let f = first_place (owns done.ticket.0) d.open_requests k is in
        desk_closed s k f.0 f.1 (settle_request done) (settle_change done (here_open s k f.0 f.1) (here_last s k f.0 f.1) f.2)

-- the last ticket stays
pub close_last : (d : DeskState) (k : ℕ) → (close k d).last ≡ d.last
close_last d k = at (slice_get d.open_requests k)
  where
    finished : (r : OpenRequest) → (completed k r d).last ≡ d.last
    finished r = elim (cases_Bool (nat_lt k d.gone)) [ inl is ↦ rw is refl | inr is ↦ rw is refl ]

    at : (o : Option OpenRequest) → (close_if k o d).last ≡ d.last
    at None = refl
    at (Some r) = elim (cases_Bool (is_finished r)) [ inl is ↦ rw is (finished r) | inr is ↦ rw is refl ]
