-- What a desk counts stays what it is.
use Rattle.std.proofs.Common.{◌≡◌, ◌≤◌, ◌<◌, ◌+◌, ◌-◌, ◌++◌, ◌==◌, ℕ, suc, Bool, true, false, nat_lt, length, List, [], ◌∷◌, get_or, Some, None, not, arith, refl, sym, ap, subst, ◌∙◌, inl, inr}
use Rattle.std.specs.List.{position, position_or_len, remove, sum_by}
use Rattle.std.proofs.lemmas.Bool.{and_parts, cases_Bool, cases_eq, eqb-true, le-ltb, lt-ltb, ltb-true}
use Rattle.std.proofs.lemmas.List.{get_or_default}
use Rattle.std.proofs.lemmas.List.Sums.{sum_by_push, sum_by-cons, sum_by-remove, get_or-le-sum_by, passes_at_first, position_or_len_is}
use Rattle.aoe_base.specs.declared.counted.Ticket.{Ticket}
use Rattle.aoe_initiator.specs.declared.outcome.Done.{Done}
use Rattle.aoe_nbd.specs.declared.error.NbdError.{NbdError}
use Rattle.aoe_desk.specs.declared.request.OpenRequest.{OpenRequest}
use Rattle.aoe_desk.specs.declared.reply.Reply.{Reply}
use Rattle.aoe_desk.specs.Desks.{change_at, change_request, close, completed, left, opened, refused, under_way, DeskState, HasRoom, IsKept, IsNew}
use Rattle.aoe_desk.specs.Requests.{gave_up as gave_up_request, hand as hand_request, is_finished, is_waiting, owns, reply_of, settle as settle_request}
use Rattle.aoe_desk.proofs.RequestLemmas.{hand_room, settle_room, settle_under_way}
use Rattle.aoe_desk.proofs.DeskLemmas.{close_finished, desk_change, desk_completed, desk_hand, desk_left, desk_new, desk_opened, desk_refused, desk_written, give_up_change, here_last, here_open, settle_change, sum-change_at}

pub kept_new : (total max room_open room_replies : ℕ) → 0 < max → max ≤ 17 → 128 ≤ room_open → 128 ≤ room_replies
    → IsKept (record { total = total; max = max; open_requests = []; gone = 0; replies = []; last = 0 }) 0 0 0 room_open room_replies
kept_new total max room_open room_replies some short open_room replies_room = record {
  desk = desk_new total max some short;
  open_is = refl;
  replies_is = refl;
  out_is = refl;
  open_room = open_room;
  replies_room = replies_room;
}

module _ {d : DeskState} {held_open held_replies out room_open room_replies : ℕ} (s : IsKept d held_open held_replies out room_open room_replies) where
  -- requests that come
  pub kept_refused : HasRoom 0 d → (handle : ℕ) (error : NbdError) → IsKept (refused handle error d) held_open held_replies out room_open room_replies
  kept_refused room handle error =
      let reply : Reply = record { handle = handle; error = Some error; payload = []; room = 0 } in
      let more = sum_by_push (λ (r : Reply). r.room) d.replies reply in
      let is = s.replies_is in
      record {
        desk = desk_refused s.desk room handle error;
        open_is = s.open_is;
        replies_is = omega (arith, is, more);
        out_is = s.out_is;
        open_room = s.open_room;
        replies_room = s.replies_room;
      }

  pub kept_opened : {handle at max : ℕ} {reads lasts : Bool} {bytes : List ℕ} {r : OpenRequest} → HasRoom (length bytes) d
      → IsNew handle reads lasts at max bytes r → IsKept (opened r d) (held_open + length bytes) held_replies out room_open room_replies
  kept_opened {r = r} room n =
      let rooms = sum_by_push (λ (r : OpenRequest). r.room) d.open_requests r in
      let outs = sum_by_push (λ (r : OpenRequest). r.under_way) d.open_requests r in
      let room_is = n.room_is in
      let out_is = n.under_way_is in
      let open_before = s.open_is in
      let out_before = s.out_is in
      record {
        desk = desk_opened s.desk room n;
        open_is = omega (arith, rooms, room_is, open_before);
        replies_is = s.replies_is;
        out_is = omega (arith, outs, out_is, out_before);
        open_room = s.open_room;
        replies_room = s.replies_room;
      }

  -- places of requests
  module _ (k : ℕ) (e : OpenRequest) (lt : k < length d.open_requests) where
    abbrev there : OpenRequest
    there = get_or d.open_requests k e

    pub kept_hand : is_waiting there ≡ true → under_way d < 4096 → (ticket : Ticket) → d.last < ticket.0
        → IsKept (record d { open_requests = change_at k (hand_request ticket) d.open_requests; last = ticket.0 }) held_open held_replies (out + 1)
        room_open room_replies
    kept_hand waits room ticket rises =
        let rooms = sum-change_at (λ (r : OpenRequest). r.room) k (hand_request ticket) d.open_requests e lt in
        let outs = sum-change_at (λ (r : OpenRequest). r.under_way) k (hand_request ticket) d.open_requests e lt in
        let room_is = hand_room ticket there in
        let open_before = s.open_is in
        let out_before = s.out_is in
        record {
          desk = desk_hand s.desk k e lt waits room ticket rises;
          open_is = omega (arith, rooms, room_is, open_before);
          replies_is = s.replies_is;
          out_is = omega (arith, outs, out_before);
          open_room = s.open_room;
          replies_room = s.replies_room;
        }

    pub kept_settle : (done : Done) → owns done.ticket.0 there ≡ true
        → IsKept (change_request k (settle_request done) d) held_open held_replies (out - 1) room_open room_replies
    kept_settle done own =
        let o = here_open s.desk k e lt in
        let rooms = sum-change_at (λ (r : OpenRequest). r.room) k (settle_request done) d.open_requests e lt in
        let outs = sum-change_at (λ (r : OpenRequest). r.under_way) k (settle_request done) d.open_requests e lt in
        let room_is = settle_room done there in
        let less = settle_under_way o done own in
        let open_before = s.open_is in
        let out_before = s.out_is in
        record {
          desk = desk_change s.desk k e lt (settle_request done) (settle_change done o (here_last s.desk k e lt) own);
          open_is = omega (arith, rooms, room_is, open_before);
          replies_is = s.replies_is;
          out_is = omega (arith, outs, less, out_before);
          open_room = s.open_room;
          replies_room = s.replies_room;
        }

    pub kept_give_up : IsKept (change_request k gave_up_request d) held_open held_replies out room_open room_replies
    kept_give_up =
        let rooms = sum-change_at (λ (r : OpenRequest). r.room) k gave_up_request d.open_requests e lt in
        let outs = sum-change_at (λ (r : OpenRequest). r.under_way) k gave_up_request d.open_requests e lt in
        let open_before = s.open_is in
        let out_before = s.out_is in
        record {
          desk = desk_change s.desk k e lt gave_up_request (give_up_change (here_open s.desk k e lt) (here_last s.desk k e lt));
          open_is = omega (arith, rooms, open_before);
          replies_is = s.replies_is;
          out_is = omega (arith, outs, out_before);
          open_room = s.open_room;
          replies_room = s.replies_room;
        }

    -- something of it is under way, so the count falls no lower than 0
    pub kept_some : (done : Done) → owns done.ticket.0 there ≡ true → 0 < out
    kept_some done own =
        let less = settle_under_way (here_open s.desk k e lt) done own in
        let le = get_or-le-sum_by (λ (r : OpenRequest). r.under_way) d.open_requests k e lt in
        let out_before = s.out_is in
        omega (arith, less, le, out_before)

    pub kept_room : there.room ≤ held_open
    kept_room =
        let le = get_or-le-sum_by (λ (r : OpenRequest). r.room) d.open_requests k e lt in
        let open_before = s.open_is in
        omega (arith, le, open_before)

    -- a finished request goes: unanswered where its client left
    pub kept_gone : there.under_way ≡ 0 → nat_lt k d.gone ≡ true
        → IsKept (record d { open_requests = remove d.open_requests k; gone = d.gone - 1 }) (held_open - there.room) held_replies out room_open room_replies
    kept_gone over is =
        let rooms = sum_by-remove (λ (r : OpenRequest). r.room) d.open_requests k e lt in
        let outs = sum_by-remove (λ (r : OpenRequest). r.under_way) d.open_requests k e lt in
        let open_before = s.open_is in
        let out_before = s.out_is in
        let same : completed k there d ≡ record d { open_requests = remove d.open_requests k; gone = d.gone - 1 } = rw is refl in
        record {
          desk = rw same at (desk_completed s.desk k e lt);
          open_is = omega (arith, rooms, open_before);
          replies_is = s.replies_is;
          out_is = omega (arith, outs, over, out_before);
          open_room = s.open_room;
          replies_room = s.replies_room;
        }

    pub kept_completed : there.under_way ≡ 0 → nat_lt k d.gone ≡ false
        → IsKept (record d { open_requests = remove d.open_requests k; replies = d.replies ++ reply_of there ∷ [] }) (held_open - there.room)
        (held_replies + there.room) out room_open room_replies
    kept_completed over is =
        let rooms = sum_by-remove (λ (r : OpenRequest). r.room) d.open_requests k e lt in
        let outs = sum_by-remove (λ (r : OpenRequest). r.under_way) d.open_requests k e lt in
        let more = sum_by_push (λ (r : Reply). r.room) d.replies (reply_of there) in
        let open_before = s.open_is in
        let replies_before = s.replies_is in
        let out_before = s.out_is in
        let same : completed k there d ≡ record d { open_requests = remove d.open_requests k; replies = d.replies ++ reply_of there ∷ [] } = rw is refl in
        record {
          desk = rw same at (desk_completed s.desk k e lt);
          open_is = omega (arith, rooms, open_before);
          replies_is = omega (arith, more, replies_before);
          out_is = omega (arith, outs, over, out_before);
          open_room = s.open_room;
          replies_room = s.replies_room;
        }

  -- replies that are written, and clients that leave
  pub kept_left : IsKept (left d) held_open 0 out room_open room_replies
  kept_left = record {
    desk = desk_left s.desk;
    open_is = s.open_is;
    replies_is = refl;
    out_is = s.out_is;
    open_room = s.open_room;
    replies_room = s.replies_room;
  }

-- the first of the replies is written
pub kept_written : {d : DeskState} {held_open held_replies out room_open room_replies : ℕ} → IsKept d held_open held_replies out room_open room_replies
    → (reply : Reply) (replies : List Reply) → d.replies ≡ reply ∷ replies
    → (reply.room ≤ held_replies) × IsKept (record d { replies = replies }) held_open (held_replies - reply.room) out room_open room_replies
kept_written {d} s reply replies is =
    let len : length d.replies ≡ suc (length replies) = ap length is in
    let rooms : sum_by (λ (r : Reply). r.room) d.replies ≡ reply.room + sum_by (λ (r : Reply). r.room) replies
    = ap (sum_by (λ (r : Reply). r.room)) is ∙ sum_by-cons (λ (r : Reply). r.room) reply replies in
    let replies_before = s.replies_is in (
      omega (arith, rooms, replies_before),
      record {
        desk = desk_written s.desk replies (omega (arith, len)) (omega (arith, rooms));
        open_is = s.open_is;
        replies_is = omega (arith, rooms, replies_before);
        out_is = s.out_is;
        open_room = s.open_room;
        replies_room = s.replies_room;
      },
    )

-- the first place that passes a test, from those before it
pub first_here : {A : Type 0} (p : A → Bool) (xs : List A) (k : ℕ) (x : A) → ((j : ℕ) → j < k → p (get_or xs j x) ≡ false) → k < length xs
    → p (get_or xs k x) ≡ true → position p xs ≡ Some k
first_here p xs k x before lt is =
    let at = position_or_len_is p xs k x (omega (arith, lt)) before (λ inside. is) in
    rw (at, lt-ltb k (length xs) lt) refl

none_with : {A : Type 0} (p : A → Bool) (xs : List A) (x : A) → ((j : ℕ) → j < length xs → p (get_or xs j x) ≡ false) → position p xs ≡ None
none_with p xs x all = elim (cases_Bool (nat_lt (position_or_len p xs) (length xs))) [
  | inl is ↦ absurd (
      let lt = ltb-true (position_or_len p xs) (length xs) is in
      let passes = passes_at_first p xs x lt in
      let fails = all (position_or_len p xs) lt in
      let e = rw fails at passes in cc)
  | inr is ↦ rw is refl
]

pub first_none : {A : Type 0} (p : A → Bool) (xs : List A) → ((j : ℕ) (x : A) → j < length xs → p (get_or xs j x) ≡ false) → position p xs ≡ None
first_none p [] all = refl
first_none p (x ∷ xs) all = none_with p (x ∷ xs) x (λ j lt. all j x lt)

-- a request that was read at its place
pub owns_here : (k : ℕ) (r : OpenRequest) {done asked : Done} {now before : List OpenRequest} {b : Bool} → done ≡ asked → now ≡ before
    → r ≡ get_or now k r → owns done.ticket.0 r ≡ b → owns asked.ticket.0 (get_or before k r) ≡ b
owns_here k r {done} {before = before} same items read is =
    let there = sym (read ∙ ap (λ (l : List OpenRequest). get_or l k r) items) in
    ap (λ (x : Done). owns x.ticket.0 (get_or before k r)) (sym same) ∙ ap (owns done.ticket.0) there ∙ is

pub one_more : (ticket : ℕ) (xs : List OpenRequest) (k : ℕ) (r : OpenRequest) → k < length xs
    → ((j : ℕ) (x : OpenRequest) → j < k → owns ticket (get_or xs j x) ≡ false) → owns ticket (get_or xs k r) ≡ false
    → (j : ℕ) (x : OpenRequest) → j < k + 1 → owns ticket (get_or xs j x) ≡ false
one_more ticket xs k r inside before here j x lt = elim (cases_eq j k) [
  | inl is ↦ rw is (ap (owns ticket) (get_or_default xs k x r inside) ∙ here)
  | inr other ↦ before j x (omega (arith, lt, other))
]

pub finished_read : (xs : List OpenRequest) (k : ℕ) (x y : OpenRequest) → k < length xs → x ≡ get_or xs k x → y ≡ get_or xs k y → is_finished y ≡ true
    → is_finished x ≡ true
finished_read xs k x y inside read again over = ap is_finished (read ∙ get_or_default xs k x y inside ∙ sym again) ∙ over

finished_over : (r : OpenRequest) → is_finished r ≡ true → r.under_way ≡ 0
finished_over r is = let parts = and_parts (not (is_waiting r)) (r.under_way == 0) is in eqb-true r.under_way 0 parts.1

module _ {d : DeskState} {held_open held_replies out room_open room_replies : ℕ} (s : IsKept d held_open held_replies out room_open room_replies) (k : ℕ)
    (r : OpenRequest) (lt : k < length d.open_requests) (read : r ≡ get_or d.open_requests k r) (over : is_finished r ≡ true) where
  none_out : (get_or d.open_requests k r).under_way ≡ 0
  none_out = finished_over (get_or d.open_requests k r) (ap is_finished (sym read) ∙ over)

  closes : close k d ≡ completed k r d
  closes = close_finished s.desk k r lt (ap is_finished (sym read) ∙ over) ∙ ap (λ (x : OpenRequest). completed k x d) (sym read)

  -- it goes without a reply
  pub gone_kept : k < d.gone
      → IsKept (record d { open_requests = remove d.open_requests k; gone = d.gone - 1 }) (held_open - r.room) held_replies out room_open room_replies
  gone_kept before = subst (λ (x : OpenRequest). IsKept (record d { open_requests = remove d.open_requests k; gone = d.gone - 1 }) (held_open - x.room)
      held_replies out room_open room_replies) (sym read) (kept_gone s k r lt none_out (lt-ltb k d.gone before))

  pub gone_is : k < d.gone → record d { open_requests = remove d.open_requests k; gone = d.gone - 1 } ≡ close k d
  gone_is before =
      let same : completed k r d ≡ record d { open_requests = remove d.open_requests k; gone = d.gone - 1 } = rw (lt-ltb k d.gone before) refl in
      sym (closes ∙ same)

  -- it goes with its reply
  pub completed_kept : d.gone ≤ k → IsKept (record d { open_requests = remove d.open_requests k; replies = d.replies ++ reply_of r ∷ [] })
      (held_open - r.room) (held_replies + r.room) out room_open room_replies
  completed_kept behind = subst (λ (x : OpenRequest). IsKept (record d { open_requests = remove d.open_requests k; replies = d.replies ++ reply_of x ∷ [] })
      (held_open - x.room) (held_replies + x.room) out room_open room_replies) (sym read) (kept_completed s k r lt none_out (le-ltb k d.gone behind))

  pub completed_is : d.gone ≤ k → record d { open_requests = remove d.open_requests k; replies = d.replies ++ reply_of r ∷ [] } ≡ close k d
  completed_is behind =
      let same : completed k r d ≡ record d { open_requests = remove d.open_requests k; replies = d.replies ++ reply_of r ∷ [] } = rw (le-ltb k d.gone behind) refl in
      sym (closes ∙ same)
