-- The commands that were sent, each in a slot, and the orders by which they are found.
use Rattle.std.specs.Prelude.{ℕ, ◌≡◌, ◌<◌, ◌≤◌, ◌&&◌, Bool, true, false, not, List, Some, if◌then◌else◌}
use Rattle.std.specs.List.{count_by}
use Rattle.slab.specs.Slab.{get, slab_len, entries as slab_entries, Slab}
use Rattle.aoe_flight.specs.declared.order.Entry.{Entry}
use Rattle.aoe_flight.specs.declared.outstanding.Outstanding.{Outstanding}
use Rattle.aoe_flight.specs.Order.{OrderTable}
use Rattle.aoe_flight.specs.Outstanding.{deadline}

-- where a command stands in an order by tags: the flying one with a tag ahead of those that rest
abbrev pub by_tag : ℕ → Outstanding → Entry
by_tag slot c = record { at = c.flying.tag; tie = if c.finished then 1 else 0; slot = slot }

abbrev pub by_ticket : ℕ → Outstanding → Entry
by_ticket slot c = record { at = c.ticket.0; tie = 0; slot = slot }

abbrev pub by_due : ℕ → Outstanding → Entry
by_due slot c = record { at = deadline c; tie = c.ticket.0; slot = slot }

abbrev pub by_first : ℕ → Outstanding → Entry
by_first slot c = record { at = c.flying.first.0; tie = c.ticket.0; slot = slot }

abbrev pub by_last : ℕ → Outstanding → Entry
by_last slot c = record { at = c.flying.last.0; tie = c.ticket.0; slot = slot }

-- an order has the entry of each command that passes a test, once, and no others: each further test holds of as many
-- there as here
pub record IsOrderOf (slab : Slab Outstanding) (test : Outstanding → Bool) (entry : ℕ → Outstanding → Entry) (entries : List Entry) : Type 0 where
  pub slots : (k : ℕ) (c : Outstanding) → (entry k c).slot ≡ k
  pub same : (p : Entry → Bool) → count_by p entries ≡ count_by (λ held. test held.1 && p (entry held.0 held.1)) (slab_entries slab)

abbrev pub each : Outstanding → Bool
each c = true

abbrev pub flies : Outstanding → Bool
flies c = not c.finished

abbrev pub rests : Outstanding → Bool
rests c = c.finished

-- all orders are those of the commands, and have room
pub record IsIndexed (slab : Slab Outstanding) (tags tickets dues firsts resting : OrderTable) : Type 0 where
  pub fits : slab_len slab ≤ slab.capacity
  pub has_tags : IsOrderOf slab each by_tag tags.items
  pub has_tickets : IsOrderOf slab flies by_ticket tickets.items
  pub has_dues : IsOrderOf slab flies by_due dues.items
  pub has_firsts : IsOrderOf slab flies by_first firsts.items
  pub has_resting : IsOrderOf slab rests by_last resting.items
  pub tags_room : tags.room ≡ slab.capacity
  pub tickets_room : tickets.room ≡ slab.capacity
  pub dues_room : dues.room ≡ slab.capacity
  pub firsts_room : firsts.room ≡ slab.capacity
  pub resting_room : resting.room ≡ slab.capacity

-- the command in the first slot, from one on, whose command passes a test
pub record IsFirstSlot (test : Outstanding → Bool) (slab : Slab Outstanding) (from slot : ℕ) (c : Outstanding) : Type 0 where
  pub there : get slab slot ≡ Some c
  pub passes : test c ≡ true
  pub behind : from ≤ slot
  pub first : (k : ℕ) (d : Outstanding) → from ≤ k → k < slot → get slab k ≡ Some d → test d ≡ false
