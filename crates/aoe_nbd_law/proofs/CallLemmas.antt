-- The requests of a desk after its calls, and what a reply without an error says.
use Rattle.std.proofs.Common.{ℕ, ◌≡◌, ◌<◌, ◌≤◌, ◌+◌, ◌-◌, ◌/◌, ◌==◌, Bool, true, false, not, nat_lt, List, [], ◌∷◌, ◌++◌, length, Option, Some, None, IsSome, refl, subst, sym, ap, ◌∙◌, arith, inl, inr}
use Rattle.std.specs.Prelude.{slice_get, option_and_then}
use Rattle.std.proofs.lemmas.Bool.{cases_Bool}
use Rattle.aoe_base.specs.declared.counted.Ticket.{Ticket}
use Rattle.aoe_initiator.specs.declared.op.Op.{Op}
use Rattle.aoe_initiator.specs.declared.outcome.Done.{Done}
use Rattle.aoe_initiator.proofs.ListLemmas.{placed}
use Rattle.aoe_block.specs.Parts.{joined, IsCut, Part}
use Rattle.aoe_disk.specs.State.{sector}
use Rattle.aoe_nbd.specs.declared.error.NbdError.{NbdError}
use Rattle.aoe_nbd.specs.declared.error.NbdError.TheVariants.{NoMemory}
use Rattle.aoe_desk.specs.declared.reply.Reply.{Reply}
use Rattle.aoe_desk.specs.declared.request.OpenRequest.{OpenRequest}
use Rattle.aoe_desk.specs.Desks.{change_request, close, close_if, completed, first_waiting, gave_up, give_up_at, hand, hand_at, next_at, next_op, owner, settle, settle_at, under_way, DeskState, IsDesk}
use Rattle.aoe_desk.specs.Requests.{first_error, gave_up as gave_up_request, hand as hand_request, is_finished, next_op as next_of, owns, reply_of, settle as settle_request, IsOpen}
use Rattle.aoe_desk.specs.Runs.{after, after_all, Call, CanCall, IsDone, IsRun}
use Rattle.aoe_desk.specs.Runs.Call.{Takes, Refuses, Hands, GivesUp, Settles, Writes, Leaves}
use Rattle.aoe_target.specs.Sectors.{in_span}
use Rattle.aoe_nbd_law.specs.Requests.{last_before, span_asked, Answers, Asked, HasCome, IsFlushed, IsHanded, IsRead, IsReplied, IsWritten}
use Rattle.aoe_nbd_law.proofs.FinishLemmas.{finished-done}
use Rattle.aoe_nbd_law.proofs.PieceLemmas.{all-get, change-get, each-change, each-get, each-map, each-push, each-remove, each-rest, each-there, Each}
use Rattle.aoe_nbd_law.proofs.SectorLemmas.{counts, joined-length, parts-read, parts-written, sectors-of, span-bounds, SectorWritten}
use Rattle.aoe_nbd_law.proofs.TraceLemmas.{range-behind, traced-gave-up, traced-handed, traced-more, traced-new, traced-settled, FlushEnds, FlushFrom, PartsFrom, Range, Traced}

-- WHAT STAYS

close-same : (k : ℕ) (d : DeskState) → ((close k d).max ≡ d.max) × ((close k d).last ≡ d.last)
close-same k d = at (slice_get d.open_requests k)
  where
    finished : (r : OpenRequest) → ((completed k r d).max ≡ d.max) × ((completed k r d).last ≡ d.last)
    finished r = elim (cases_Bool (nat_lt k d.gone)) [ inl is ↦ rw is (refl, refl) | inr is ↦ rw is (refl, refl) ]

    at : (o : Option OpenRequest) → ((close_if k o d).max ≡ d.max) × ((close_if k o d).last ≡ d.last)
    at None = (refl, refl)
    at (Some r) = elim (cases_Bool (is_finished r)) [ inl is ↦ rw is (finished r) | inr is ↦ rw is (refl, refl) ]

hand-same : (ticket : Ticket) (w : Option ℕ) (d : DeskState) → (hand_at ticket w d).max ≡ d.max
hand-same ticket None d = refl
hand-same ticket (Some k) d = refl

give-up-same : (w : Option ℕ) (d : DeskState) → ((give_up_at w d).max ≡ d.max) × ((give_up_at w d).last ≡ d.last)
give-up-same None d = (refl, refl)
give-up-same (Some k) d = close-same k (change_request k gave_up_request d)

settle-same : (done : Done) (w : Option ℕ) (d : DeskState) → ((settle_at done w d).max ≡ d.max) × ((settle_at done w d).last ≡ d.last)
settle-same done None d = (refl, refl)
settle-same done (Some k) d = close-same k (change_request k (settle_request done) d)

max-one : (call : Call) (d : DeskState) → (after call d).max ≡ d.max
max-one (Takes r) d = refl
max-one (Refuses handle error) d = refl
max-one (Hands ticket) d = hand-same ticket (first_waiting d) d
max-one GivesUp d = (give-up-same (first_waiting d) d).0
max-one (Settles done) d = (settle-same done (owner done.ticket.0 d) d).0
max-one Writes d = refl
max-one Leaves d = refl

max-stays : (total max : ℕ) (calls : List Call) → (after_all total max calls).max ≡ max
max-stays total max [] = refl
max-stays total max (call ∷ calls) = max-one call (after_all total max calls) ∙ max-stays total max calls

hand-last : (ticket : Ticket) (w : Option ℕ) (d : DeskState) → d.last < ticket.0 → d.last ≤ (hand_at ticket w d).last
hand-last ticket None d lt = omega arith
hand-last ticket (Some k) d lt = omega (arith, lt)

pub last-one : (call : Call) (d : DeskState) → CanCall call d → d.last ≤ (after call d).last
last-one (Takes r) d can = omega arith
last-one (Refuses handle error) d can = omega arith
last-one (Hands ticket) d can = hand-last ticket (first_waiting d) d can.1
last-one GivesUp d can = let e = (give-up-same (first_waiting d) d).1 in omega (arith, e)
last-one (Settles done) d can = let e = (settle-same done (owner done.ticket.0 d) d).1 in omega (arith, e)
last-one Writes d can = omega arith
last-one Leaves d can = omega arith

-- the next operation is that of the first request that has one
pub next-room : (d : DeskState) (op : Op) → next_op d ≡ Some op → next_at d.open_requests (first_waiting d) ≡ Some op
next-room d op e = elim (cases_Bool (under_way d == 4096)) [
  | inl full ↦ absurd (let z = rw full at e in cc)
  | inr room ↦ rw room at e
]

handed-first : (d : DeskState) (ticket : Ticket) (o : Op) → next_op d ≡ Some o → (after (Hands ticket) d).last ≡ ticket.0
handed-first d ticket o next = at (first_waiting d) (next-room d o next)
  where
    at : (w : Option ℕ) → next_at d.open_requests w ≡ Some o → (hand_at ticket w d).last ≡ ticket.0
    at None is = absurd (cc)
    at (Some k) is = refl

pub handed-low : (total max : ℕ) (calls : List Call) (t : Ticket) (o : Op) → IsRun total max calls → IsHanded total max calls t o
    → t.0 ≤ (after_all total max calls).last
handed-low total max [] t o run x = absurd x
handed-low total max (Hands ticket ∷ calls) t o run (inl y) =
    let e = handed-first (after_all total max calls) ticket o y.1 in
    let same = ap (λ (z : Ticket). z.0) y.0 in
    omega (arith, e, same)
handed-low total max (Hands ticket ∷ calls) t o run (inr y) =
    let rest = handed-low total max calls t o run.0 y in
    let one = last-one (Hands ticket) (after_all total max calls) run.1 in
    omega (arith, rest, one)
handed-low total max (call ∷ calls) t o run x =
    let rest = handed-low total max calls t o run.0 x in
    let one = last-one call (after_all total max calls) run.1 in
    omega (arith, rest, one)

module _ (total max : ℕ) where
  pub run-before : (later earlier : List Call) → IsRun total max (later ++ earlier) → IsRun total max earlier
  run-before [] earlier run = run
  run-before (call ∷ later) earlier run = run-before later earlier run.0

  pub last-grows : (later earlier : List Call) → IsRun total max (later ++ earlier)
      → (after_all total max earlier).last ≤ (after_all total max (later ++ earlier)).last
  last-grows [] earlier run = omega arith
  last-grows (call ∷ later) earlier run =
      let rest = last-grows later earlier run.0 in
      let one = last-one call (after_all total max (later ++ earlier)) run.1 in
      omega (arith, rest, one)

  pub low : (calls : List Call) (x : Asked) (come : HasCome total max calls x) → IsRun total max calls → last_before come ≤ (after_all total max calls).last
  low calls x come run =
      let le = last-grows come.later (Takes come.request ∷ come.earlier) (rw come.order at run) in
      let e = ap (λ l. (after_all total max l).last) come.order in
      omega (arith, le, e)

  -- a reply without an error, and the request that it answers as it stood when it was finished
  pub record Explained (calls : List Call) (reply : Reply) : Type 0 where
    pub request : OpenRequest
    pub traced : Traced total max calls request
    pub over : IsDone request
    pub is : reply ≡ reply_of request
    pub well : request.error ≡ None

  abbrev Known : List Call → Reply → Type 0
  Known calls reply = reply.error ≡ None → Explained calls reply

  explained-more : (call : Call) (calls : List Call) (reply : Reply) → Explained calls reply → Explained (call ∷ calls) reply
  explained-more call calls reply x = record {
    request = x.request;
    traced = traced-more total max call calls x.request x.traced;
    over = x.over;
    is = x.is;
    well = x.well;
  }

  known-more : (call : Call) (calls : List Call) (reply : Reply) → Known calls reply → Known (call ∷ calls) reply
  known-more call calls reply x e = explained-more call calls reply (x e)

  pub record TracedDesk (calls : List Call) (d : DeskState) : Type 0 where
    pub open_ones : Each (Traced total max calls) d.open_requests
    pub replies : Each (Known calls) d.replies

  grown : (call : Call) (calls : List Call) (d : DeskState) → TracedDesk calls d → TracedDesk (call ∷ calls) d
  grown call calls d x = record {
    open_ones = each-map (Traced total max calls) (Traced total max (call ∷ calls)) (traced-more total max call calls) d.open_requests x.open_ones;
    replies = each-map (Known calls) (Known (call ∷ calls)) (known-more call calls) d.replies x.replies;
  }

  -- the request at a place goes, if it is finished
  closed : (calls : List Call) (k : ℕ) (d : DeskState) → TracedDesk calls d
      → ((r : OpenRequest) → slice_get d.open_requests k ≡ Some r → is_finished r ≡ true → r.error ≡ None → IsDone r) → TracedDesk calls (close k d)
  closed calls k d x over = at (slice_get d.open_requests k) refl
    where
      replied : (r : OpenRequest) → slice_get d.open_requests k ≡ Some r → is_finished r ≡ true → Known calls (reply_of r)
      replied r is finished well = record {
        request = r;
        traced = each-get (Traced total max calls) d.open_requests k r is x.open_ones;
        over = over r is finished well;
        is = refl;
        well = well;
      }

      complete : (r : OpenRequest) → slice_get d.open_requests k ≡ Some r → is_finished r ≡ true → TracedDesk calls (completed k r d)
      complete r is finished = elim (cases_Bool (nat_lt k d.gone)) [
        | inl gone ↦ rw gone (record { open_ones = each-remove (Traced total max calls) d.open_requests k x.open_ones; replies = x.replies })
        | inr stays ↦ rw stays (record {
          open_ones = each-remove (Traced total max calls) d.open_requests k x.open_ones;
          replies = each-push (Known calls) d.replies (reply_of r) x.replies (replied r is finished);
        })
      ]

      at : (o : Option OpenRequest) → slice_get d.open_requests k ≡ o → TracedDesk calls (close_if k o d)
      at None is = x
      at (Some r) is = elim (cases_Bool (is_finished r)) [
        | inl finished ↦ rw finished (complete r is finished)
        | inr other ↦ rw other x
      ]

  -- OPERATIONS

  some-op : (o : Option Op) → IsSome o → (op : Op) × (o ≡ Some op)
  some-op None e = absurd (cc)
  some-op (Some op) e = (op, refl)

  handed : (ticket : Ticket) (calls : List Call) → IsRun total max (Hands ticket ∷ calls) → TracedDesk calls (after_all total max calls)
      → TracedDesk (Hands ticket ∷ calls) (hand ticket (after_all total max calls))
  handed ticket calls run x = at (first_waiting (after_all total max calls)) refl
    where
      at : (w : Option ℕ) → first_waiting (after_all total max calls) ≡ w → TracedDesk (Hands ticket ∷ calls) (hand_at ticket w (after_all total max calls))
      at None is = grown (Hands ticket) calls (after_all total max calls) x
      at (Some k) is =
          let d = after_all total max calls in
          let can : CanCall (Hands ticket) d = run.1 in
          let op = some-op (next_op d) can.0 in
          let next : next_at d.open_requests (Some k) ≡ Some op.0 = ap (next_at d.open_requests) (sym is) ∙ next-room d op.0 op.1 in
          record {
            open_ones = each-change (Traced total max calls) (Traced total max (Hands ticket ∷ calls)) d.open_requests k (hand_request ticket)
                (traced-more total max (Hands ticket) calls)
                (λ r there y.
                let its : next_of r ≡ Some op.0 = ap (option_and_then next_of) (sym there) ∙ next in
                let le = low calls y.asked y.come run.0 in
                let lt = can.1 in
                traced-handed total max calls r ticket op.0 y (omega (arith, le, lt))
                (λ t o before. let m = handed-low total max calls t o run.0 before in omega (arith, m, lt)) its (inl (refl, op.1)))
                x.open_ones;
            replies = each-map (Known calls) (Known (Hands ticket ∷ calls)) (known-more (Hands ticket) calls) d.replies x.replies;
          }

  has-error : (o : Option NbdError) (e : NbdError) → first_error o (Some e) ≡ None → ⊥
  has-error None e is = cc
  has-error (Some x) e is = cc

  given-up-fails : (r : OpenRequest) → (gave_up_request r).error ≡ None → ⊥
  given-up-fails r is = has-error r.error NoMemory is

  given-up : (calls : List Call) → TracedDesk calls (after_all total max calls) → TracedDesk (GivesUp ∷ calls) (gave_up (after_all total max calls))
  given-up calls x = at (first_waiting (after_all total max calls)) refl
    where
      at : (w : Option ℕ) → first_waiting (after_all total max calls) ≡ w → TracedDesk (GivesUp ∷ calls) (give_up_at w (after_all total max calls))
      at None is = grown GivesUp calls (after_all total max calls) x
      at (Some k) is =
          let d = after_all total max calls in
          closed (GivesUp ∷ calls) k (change_request k gave_up_request d) (record {
            open_ones = each-change (Traced total max calls) (Traced total max (GivesUp ∷ calls)) d.open_requests k gave_up_request
                (traced-more total max GivesUp calls)
                (λ r there y. traced-gave-up total max (GivesUp ∷ calls) r (traced-more total max GivesUp calls r y)) x.open_ones;
            replies = each-map (Known calls) (Known (GivesUp ∷ calls)) (known-more GivesUp calls) d.replies x.replies;
          })
          (λ r there finished well.
          let c = change-get d.open_requests k gave_up_request r there in
          absurd (given-up-fails c.0 (rw (← c.2) at well)))

  settled : (done : Done) (calls : List Call) → IsDesk (after_all total max calls) → TracedDesk calls (after_all total max calls)
      → TracedDesk (Settles done ∷ calls) (settle done (after_all total max calls))
  settled done calls desk x = at (owner done.ticket.0 (after_all total max calls)) refl
    where
      at : (w : Option ℕ) → owner done.ticket.0 (after_all total max calls) ≡ w → TracedDesk (Settles done ∷ calls) (settle_at done w (after_all total max calls))
      at None is = grown (Settles done) calls (after_all total max calls) x
      at (Some k) is =
          let d = after_all total max calls in
          closed (Settles done ∷ calls) k (change_request k (settle_request done) d) (record {
            open_ones = each-change (Traced total max calls) (Traced total max (Settles done ∷ calls)) d.open_requests k (settle_request done)
                (traced-more total max (Settles done) calls) (λ r there y. traced-settled total max calls done r y) x.open_ones;
            replies = each-map (Known calls) (Known (Settles done ∷ calls)) (known-more (Settles done) calls) d.replies x.replies;
          })
          (λ r there finished well.
          let c = change-get d.open_requests k (settle_request done) r there in
          let own = placed (owns done.ticket.0) d.open_requests k c.0 is c.1 in
          let is_open = all-get IsOpen d.open_requests k c.0 c.1 desk.each in
          rw c.2 at (finished-done c.0 done is_open own (rw (← c.2) at finished) (rw (← c.2) at well)))

  module _ (desks : (calls : List Call) → IsRun total max calls → IsDesk (after_all total max calls)) where
    pub traced : (calls : List Call) → IsRun total max calls → TracedDesk calls (after_all total max calls)
    traced [] run = record { open_ones = tt; replies = tt }
    traced (Takes r ∷ calls) run =
        let d = after_all total max calls in
        let x = grown (Takes r) calls d (traced calls run.0) in
        let can : CanCall (Takes r) d = run.1 in
        let asked : Asked = record { handle = can.0; reads = can.2; lasts = can.3; at = can.1; bytes = can.4 } in
        record {
          open_ones = each-push (Traced total max (Takes r ∷ calls)) d.open_requests r x.open_ones
              (traced-new total max calls asked r (rw (max-stays total max calls) at can.5));
          replies = x.replies;
        }
    traced (Refuses handle error ∷ calls) run =
        let d = after_all total max calls in
        let x = grown (Refuses handle error) calls d (traced calls run.0) in
        record {
          open_ones = x.open_ones;
          replies = each-push (Known (Refuses handle error ∷ calls)) d.replies (record { handle = handle; error = Some error; payload = []; room = 0 }) x.replies
              (λ e. absurd (cc));
        }
    traced (Hands ticket ∷ calls) run = handed ticket calls run (traced calls run.0)
    traced (GivesUp ∷ calls) run = given-up calls (traced calls run.0)
    traced (Settles done ∷ calls) run = settled done calls (desks calls run.0) (traced calls run.0)
    traced (Writes ∷ calls) run =
        let d = after_all total max calls in
        let x = grown Writes calls d (traced calls run.0) in
        record { open_ones = x.open_ones; replies = each-rest (Known (Writes ∷ calls)) d.replies x.replies }
    traced (Leaves ∷ calls) run =
        let d = after_all total max calls in
        let x = grown Leaves calls d (traced calls run.0) in
        record { open_ones = x.open_ones; replies = tt }

  -- WHAT A REPLY SAYS

  explained-later : (later calls : List Call) (reply : Reply) → Explained calls reply → Explained (later ++ calls) reply
  explained-later [] calls reply x = x
  explained-later (call ∷ later) calls reply x = explained-more call (later ++ calls) reply (explained-later later calls reply x)

  cut-counts : (at : ℕ) (bytes : List ℕ) (parts : List Part) → IsCut at max bytes parts → length bytes / 512 ≡ counts parts
  cut-counts at bytes parts cut = ap (λ b. length b / 512) (sym cut.together) ∙ ap (λ n. n / 512) (joined-length parts cut.whole) ∙ sectors-of (counts parts)

  read-data : (r : OpenRequest) → r.error ≡ None → r.reads ≡ true → (reply_of r).payload ≡ joined r.block.parts
  read-data r well reads = rw (reads, well) refl

  range-before : (since n flush : ℕ) (before : Option ℕ) → before ≡ Some flush → Range since before n → n < flush
  range-before since n flush before is x = (subst (λ b. Range since b n) is x).1

  module _ (calls : List Call) (reply : Reply) (x : Explained calls reply) where
    abbrev t : Traced total max calls x.request
    t = x.traced

    abbrev parts : List Part
    parts = t.come.request.block.parts

    upper : (s : ℕ) → in_span (span_asked t.asked) s ≡ true → (t.asked.at ≤ s) × (s < t.asked.at + counts parts)
    upper s inside =
        let b = span-bounds t.asked.at (length t.asked.bytes / 512) s inside in
        let lt = b.1 in
        let n = cut-counts t.asked.at t.asked.bytes parts t.come.is_new.cut in
        (b.0, omega (arith, lt, n))

    read-of : t.asked.reads ≡ true → (s : ℕ) → in_span (span_asked t.asked) s ≡ true
        → IsRead total max calls (last_before t.come) t.asked reply.payload s
    read-of reads s inside =
        let range = Range (last_before t.come) t.before in
        let from : PartsFrom total max calls range false parts x.request.block.parts
        = subst (λ (b : Bool). PartsFrom total max calls range (not b) parts x.request.block.parts) reads t.parts_from in
        let u = upper s inside in
        let r = parts-read total max calls range t.asked.at parts x.request.block.parts s t.come.is_new.cut.adjacent from x.over.parts u.0 u.1 in
        let payload : reply.payload ≡ joined x.request.block.parts
        = ap (λ (z : Reply). z.payload) x.is ∙ read-data x.request x.well (t.reads_is ∙ reads) in
        record {
          ticket = r.ticket;
          span = r.span;
          bytes = r.bytes;
          behind = range-behind (last_before t.come) t.before r.ticket.0 r.behind;
          carried_out = r.out;
          inside = r.inside;
          same = ap (λ d. sector d (s - t.asked.at)) payload ∙ r.value;
        }

    sector-written : t.asked.reads ≡ false → (s : ℕ) → in_span (span_asked t.asked) s ≡ true
        → SectorWritten total max calls (Range (last_before t.come) t.before) s (sector (joined parts) (s - t.asked.at))
    sector-written writes s inside =
        let range = Range (last_before t.come) t.before in
        let from : PartsFrom total max calls range true parts x.request.block.parts
        = subst (λ (b : Bool). PartsFrom total max calls range (not b) parts x.request.block.parts) writes t.parts_from in
        let u = upper s inside in
        let cut = t.come.is_new.cut in
        parts-written total max calls range t.asked.at parts x.request.block.parts s cut.adjacent cut.whole from x.over.parts u.0 u.1

    abbrev written-of : t.asked.reads ≡ false → (s : ℕ) → in_span (span_asked t.asked) s ≡ true
        → IsWritten total max calls (last_before t.come) t.asked s
    written-of writes s inside =
        let r = sector-written writes s inside in
        record {
          ticket = r.ticket;
          at = r.at;
          bytes = r.bytes;
          behind = range-behind (last_before t.come) t.before r.ticket.0 r.behind;
          carried_out = r.out;
          inside = r.inside;
          same = ap (λ d. sector d (s - t.asked.at)) (sym t.come.is_new.cut.together) ∙ r.value;
        }

    flush-ends : t.asked.lasts ≡ true → FlushEnds total max calls (last_before t.come) t.before x.request.parts
    flush-ends lasts =
        subst (λ f. FlushFrom total max calls (last_before t.come) t.before x.request.parts f) (x.over.flush (t.lasts_is ∙ lasts)) t.flush_from

    abbrev flushed-of : t.asked.lasts ≡ true → IsFlushed total max calls (last_before t.come)
    flushed-of lasts = let f = flush-ends lasts in record { ticket = f.ticket; behind = f.behind; carried_out = f.out }

    pub answers : Answers total max calls reply
    answers = record {
      asked = t.asked;
      come = t.come;
      handle_is = ap (λ (r : Reply). r.handle) x.is ∙ t.handle_is;
      read = read-of;
      written = written-of;
      flushed = flushed-of;
      in_order = λ lasts writes s inside.
          let f = flush-ends lasts in
          let r = sector-written writes s inside in
          range-before (last_before t.come) r.ticket.0 f.ticket.0 t.before f.before_is r.behind;
    }

  pub replied : ((calls : List Call) → IsRun total max calls → IsDesk (after_all total max calls)) → (calls : List Call) (reply : Reply) → IsRun total max calls
      → IsReplied total max calls reply → reply.error ≡ None → Answers total max calls reply
  replied desks calls reply run x well =
      let all = rw x.order at run in
      let now = run-before x.later x.now all in
      let t = traced desks x.now now in
      let known = each-there (Known x.now) (after_all total max x.now).replies reply x.there t.replies in
      rw x.order (answers (x.later ++ x.now) reply (explained-later x.later x.now reply (known well)))
