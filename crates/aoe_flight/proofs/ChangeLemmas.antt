-- All orders of the commands, after each change of a slot.
use Rattle.std.proofs.Common.{ℕ, ◌≡◌, ◌+◌, ◌<◌, ◌≤◌, ◌&&◌, cond, not, Bool, true, false, ◌∷◌, length, get_or, Option, Some, None, refl, sym, ap, ◌∙◌, arith}
use Rattle.std.specs.Prelude.{is_some, Contains}
use Rattle.std.specs.List.Sorted.{IsPermutation}
use Rattle.std.proofs.lemmas.List.Sorted.{length_permutation}
use Rattle.std.proofs.lemmas.List.Sums.{sum_by-set}
use Rattle.slab.specs.Slab.{entries as slab_entries, get, slab_len, with_value, Slab, Updates}
use Rattle.slab.proofs.SlabLemmas.{length-entries, ContainsKey-within, Updates-with_value}
use Rattle.aoe_base.specs.declared.counted.Millis.{Millis}
use Rattle.aoe_base.specs.declared.counted.PathNo.{PathNo}
use Rattle.aoe_base.proofs.CountLemmas.{count-all, count-split}
use Rattle.aoe_flight.specs.declared.order.Entry.{Entry}
use Rattle.aoe_flight.specs.declared.outstanding.Outstanding.{Outstanding}
use Rattle.aoe_flight.specs.Order.{OrderTable}
use Rattle.aoe_flight.specs.Outstanding.{after_finish, after_repeat}
use Rattle.aoe_flight.specs.Table.{by_due, by_first, by_last, by_tag, by_ticket, each, flies, rests, IsIndexed, IsOrderOf}
use Rattle.aoe_flight.proofs.IndexLemmas.{added, entry-of, no-longer, passed, replaced, same-command, taken, unseen}

-- an entry was taken out, where it stood there
pub record Removed (old : OrderTable) (e : Entry) (new : OrderTable) : Type 0 where
  pub gone : Contains old.items e → IsPermutation old.items (e ∷ new.items)
  pub room : new.room ≡ old.room

-- an entry was added
pub record Inserted (old : OrderTable) (e : Entry) (new : OrderTable) : Type 0 where
  pub come : IsPermutation (e ∷ old.items) new.items
  pub room : new.room ≡ old.room

-- an entry was taken out, and another one added
pub record Exchanged (old : OrderTable) (e f : Entry) (new : OrderTable) : Type 0 where
  pub between : OrderTable
  pub out : Removed old e between
  pub back : Inserted between f new

-- the entries of a command in the orders of those that fly
pub record InFlying (Change : OrderTable → Entry → OrderTable → Type 0) (k : ℕ) (c : Outstanding)
    (tickets tickets_new dues dues_new firsts firsts_new : OrderTable) : Type 0 where
  pub ticket : Change tickets (by_ticket k c) tickets_new
  pub due : Change dues (by_due k c) dues_new
  pub first : Change firsts (by_first k c) firsts_new

-- a slot that was vacant has a command now
pub record Filled (slab next : Slab Outstanding) (k : ℕ) (c : Outstanding) : Type 0 where
  pub vacant : get slab k ≡ None
  pub updates : Updates slab next k (Some c)
  pub long : slab_len next ≡ slab_len slab + 1
  pub capacity : next.capacity ≡ slab.capacity
  pub more : slab_len slab < slab.capacity

updated : (slab : Slab Outstanding) (k : ℕ) (c d : Outstanding) → get slab k ≡ Some c → Updates slab (with_value slab k d) k (Some d)
updated slab k c d at = Updates-with_value slab k d (rw at refl)

len-updated : (slab : Slab Outstanding) (k : ℕ) (c d : Outstanding) → get slab k ≡ Some c → slab_len (with_value slab k d) ≡ slab_len slab
len-updated slab k c d at =
    let inside = ContainsKey-within slab k (rw at refl) in
    let sums = sum_by-set (λ (s : Option Outstanding). cond (is_some s) 1 0) slab.slots k (Some d) None inside in
    let one : ◌≡◌ {A = ℕ} (cond (is_some (get_or slab.slots k None)) 1 0) 1 = rw at refl in
    omega (arith, sums, one)

-- another test, of the command that stands in the slot
tested : (slab : Slab Outstanding) (k : ℕ) (c : Outstanding) (test : Outstanding → Bool) → get slab k ≡ Some c → test c ≡ false
    → (d : Outstanding) → get slab k ≡ Some d → test d ≡ false
tested slab k c test at fails d at_d = ap test (same-command slab k d c at_d at) ∙ fails

given : (c : Outstanding) (test : Outstanding → Bool) → test c ≡ false → (d : Outstanding) → Some c ≡ Some d → test d ≡ false
given c test fails d same = let one : d ≡ c = cc in rw one fails

pub flies-true : (c : Outstanding) → c.finished ≡ false → flies c ≡ true
flies-true c flying = ap not flying

-- there is room for one more
pub more-fits : {slab : Slab Outstanding} {test : Outstanding → Bool} {entry : ℕ → Outstanding → Entry} (order : OrderTable)
    → IsOrderOf slab test entry order.items → order.room ≡ slab.capacity → slab_len slab < slab.capacity → length order.items < order.room
more-fits order o room more = omega (arith, no-longer o, room, more)

-- there is room for one that was taken out
pub again-fits : {slab : Slab Outstanding} {test : Outstanding → Bool} {entry : ℕ → Outstanding → Entry} {e : Entry} (old new : OrderTable)
    → IsOrderOf slab test entry old.items → old.room ≡ slab.capacity → slab_len slab ≤ slab.capacity → Contains old.items e → Removed old e new
    → length new.items < new.room
again-fits {e = e} old new o room fits there out =
    omega (arith, no-longer o, room, fits, out.room, length_permutation old.items (e ∷ new.items) (out.gone there))

-- while one flies, there is room among those that rest
pub resting-fits : {slab : Slab Outstanding} {tags tickets dues firsts resting : OrderTable} (k : ℕ) (c : Outstanding) → get slab k ≡ Some c
    → c.finished ≡ false → IsIndexed slab tags tickets dues firsts resting → length resting.items < resting.room
resting-fits {slab} {tickets = tickets} {resting = resting} k c at flying i =
    let all = slab_entries slab in
    let split = count-split (λ (h : ℕ × Outstanding). true) (λ h. flies h.1 && true) (λ h. rests h.1 && true) (λ h. both h.1.finished) all in
    let one = entry-of i.has_tickets k c at (flies-true c flying) in
    omega (
      arith,
      split,
      one.1,
      i.has_tickets.same (λ e. true),
      i.has_resting.same (λ e. true),
      count-all tickets.items,
      count-all resting.items,
      count-all all,
      length-entries slab,
      i.fits,
      i.resting_room,
    )
  where
    both : (b : Bool) → cond true 1 0 ≡ cond (not b && true) 1 0 + cond (b && true) 1 0
    both b = grind arith

pub indexed-finished : {slab : Slab Outstanding} {tags tags_new tickets tickets_new dues dues_new firsts firsts_new resting resting_new : OrderTable}
    (k : ℕ) (c : Outstanding)
    → get slab k ≡ Some c → c.finished ≡ false → Exchanged tags (by_tag k c) (by_tag k (after_finish c)) tags_new
    → InFlying Removed k c tickets tickets_new dues dues_new firsts firsts_new → Inserted resting (by_last k (after_finish c)) resting_new
    → IsIndexed slab tags tickets dues firsts resting → IsIndexed (with_value slab k (after_finish c)) tags_new tickets_new dues_new firsts_new resting_new
indexed-finished {slab} k c at flying tag out rest i =
    let f = after_finish c in
    let updates = updated slab k c f at in
    let up = flies-true c flying in
    let down = given f flies refl in
    record {
      fits = omega (arith, len-updated slab k c f at, i.fits);
      has_tags = replaced updates c f at refl refl refl (tag.out.gone (entry-of i.has_tags k c at refl)) tag.back.come i.has_tags;
      has_tickets = taken updates c at up down (out.ticket.gone (entry-of i.has_tickets k c at up)) i.has_tickets;
      has_dues = taken updates c at up down (out.due.gone (entry-of i.has_dues k c at up)) i.has_dues;
      has_firsts = taken updates c at up down (out.first.gone (entry-of i.has_firsts k c at up)) i.has_firsts;
      has_resting = added updates f refl refl (tested slab k c rests at flying) rest.come i.has_resting;
      tags_room = tag.back.room ∙ tag.out.room ∙ i.tags_room;
      tickets_room = out.ticket.room ∙ i.tickets_room;
      dues_room = out.due.room ∙ i.dues_room;
      firsts_room = out.first.room ∙ i.firsts_room;
      resting_room = rest.room ∙ i.resting_room;
    }

pub indexed-repeated : {slab : Slab Outstanding} {tags tickets dues dues_new firsts resting : OrderTable} (k : ℕ) (c r : Outstanding) (now : Millis)
    (path : PathNo) (wait : Millis)
    → get slab k ≡ Some c → c.finished ≡ false → r ≡ after_repeat now path wait c → Exchanged dues (by_due k c) (by_due k r) dues_new
    → IsIndexed slab tags tickets dues firsts resting → IsIndexed (with_value slab k r) tags tickets dues_new firsts resting
indexed-repeated {slab} k c r now path wait at flying r_is due i =
    let updates = updated slab k c r at in
    let still : r.finished ≡ c.finished = ap (λ (d : Outstanding). d.finished) r_is in
    let up = flies-true c flying in
    record {
      fits = omega (arith, len-updated slab k c r at, i.fits);
      has_tags = unseen updates c r at refl refl (ap (by_tag k) r_is) i.has_tags;
      has_tickets = unseen updates c r at refl (ap not still) (ap (by_ticket k) r_is) i.has_tickets;
      has_dues = replaced updates c r at refl up (ap not (still ∙ flying)) (due.out.gone (entry-of i.has_dues k c at up)) due.back.come i.has_dues;
      has_firsts = unseen updates c r at refl (ap not still) (ap (by_first k) r_is) i.has_firsts;
      has_resting = passed updates (tested slab k c rests at flying) (given r rests (still ∙ flying)) i.has_resting;
      tags_room = i.tags_room;
      tickets_room = i.tickets_room;
      dues_room = due.back.room ∙ due.out.room ∙ i.dues_room;
      firsts_room = i.firsts_room;
      resting_room = i.resting_room;
    }

pub indexed-inserted : {slab next : Slab Outstanding} {tags tags_new tickets tickets_new dues dues_new firsts firsts_new resting : OrderTable} (k : ℕ)
    (c : Outstanding)
    → c.finished ≡ false → Filled slab next k c → Inserted tags (by_tag k c) tags_new
    → InFlying Inserted k c tickets tickets_new dues dues_new firsts firsts_new
    → IsIndexed slab tags tickets dues firsts resting → IsIndexed next tags_new tickets_new dues_new firsts_new resting
indexed-inserted {slab} k c flying filled tag come i =
    let vacant = filled.vacant in
    let none : (test : Outstanding → Bool) (d : Outstanding) → get slab k ≡ Some d → test d ≡ false = λ test d at. absurd cc in
    let up = flies-true c flying in
    let room = sym filled.capacity in
    record {
      fits = omega (arith, filled.long, filled.capacity, filled.more);
      has_tags = added filled.updates c refl refl (none each) tag.come i.has_tags;
      has_tickets = added filled.updates c refl up (none flies) come.ticket.come i.has_tickets;
      has_dues = added filled.updates c refl up (none flies) come.due.come i.has_dues;
      has_firsts = added filled.updates c refl up (none flies) come.first.come i.has_firsts;
      has_resting = passed filled.updates (none rests) (given c rests flying) i.has_resting;
      tags_room = tag.room ∙ i.tags_room ∙ room;
      tickets_room = come.ticket.room ∙ i.tickets_room ∙ room;
      dues_room = come.due.room ∙ i.dues_room ∙ room;
      firsts_room = come.first.room ∙ i.firsts_room ∙ room;
      resting_room = i.resting_room ∙ room;
    }

pub indexed-dropped : {slab next : Slab Outstanding} {tags tags_new tickets dues firsts resting resting_new : OrderTable} (k : ℕ) (c : Outstanding)
    → get slab k ≡ Some c → c.finished ≡ true → Updates slab next k None → slab_len next + 1 ≡ slab_len slab → next.capacity ≡ slab.capacity
    → Removed tags (by_tag k c) tags_new → Removed resting (by_last k c) resting_new
    → IsIndexed slab tags tickets dues firsts resting → IsIndexed next tags_new tickets dues firsts resting_new
indexed-dropped {slab} k c at done updates long capacity tag rest i =
    let out = tested slab k c flies at (ap not done) in
    let none : (test : Outstanding → Bool) (d : Outstanding) → None ≡ Some d → test d ≡ false = λ test d same. absurd cc in
    let room = sym capacity in
    record {
      fits = omega (arith, long, capacity, i.fits);
      has_tags = taken updates c at refl (none each) (tag.gone (entry-of i.has_tags k c at refl)) i.has_tags;
      has_tickets = passed updates out (none flies) i.has_tickets;
      has_dues = passed updates out (none flies) i.has_dues;
      has_firsts = passed updates out (none flies) i.has_firsts;
      has_resting = taken updates c at done (none rests) (rest.gone (entry-of i.has_resting k c at done)) i.has_resting;
      tags_room = tag.room ∙ i.tags_room ∙ room;
      tickets_room = i.tickets_room ∙ room;
      dues_room = i.dues_room ∙ room;
      firsts_room = i.firsts_room ∙ room;
      resting_room = rest.room ∙ i.resting_room ∙ room;
    }

pub removed : {e f : Entry} (old new : OrderTable) → f ≡ e → (Contains old.items f → IsPermutation old.items (f ∷ new.items)) → new.room ≡ old.room
    → Removed old e new
removed old new is gone room = rw (← is) (record { gone = gone; room = room })

pub inserted : {e f : Entry} (old new : OrderTable) → f ≡ e → IsPermutation (f ∷ old.items) new.items → new.room ≡ old.room → Inserted old e new
inserted old new is come room = rw (← is) (record { come = come; room = room })
