-- What the table shows after each change.
use Rattle.std.proofs.Common.{ℕ, ◌≡◌, ◌+◌, ◌<◌, ◌≤◌, cond, not, List, [], ◌∷◌, ◌++◌, Option, Some, None, true, refl, sym, ap, ◌∙◌, arith, nat_eq}
use Rattle.std.specs.Prelude.{option_map, slice_get, All, Contains, IfNone, IfSome}
use Rattle.std.specs.List.{filter}
use Rattle.std.specs.Option.{ForSome}
use Rattle.std.proofs.lemmas.Option.{IfSome_then}
use Rattle.aoe_base.specs.declared.counted.Ticket.{Ticket}
use Rattle.std.proofs.lemmas.List.Sums.{sum_by_push}
use Rattle.aoe_base.specs.declared.counted.Millis.{Millis}
use Rattle.aoe_hold.specs.declared.command.Command.{Command}
use Rattle.aoe_hold.specs.declared.command.Stage.TheVariants.{Unsent}
use Rattle.aoe_hold.specs.Extents.{Extent}
use Rattle.aoe_hold.specs.Commands.{after_stage, clear_tickets, is_unsent, live, stage_finished, stage_sent, unsent_count}
use Rattle.aoe_hold.specs.HoldTable.{after_finish, after_send, at_time, HoldTable, Recalls, is_ascending}
use Rattle.aoe_hold.proofs.LiveLemmas.{live-live, live-same, recalls-after_stage, recalls-enter, tickets-same}
use Rattle.aoe_hold.proofs.WaitLemmas.{clear-rises, head-contained, head-lowest, head-missing}

pub room-view : (table view : HoldTable) (most : ℕ) → view ≡ table → unsent_count table.commands < most → unsent_count view.commands < most
room-view table view most is room = rw (← is) at room

pub above-view : (table view : HoldTable) (ticket : ℕ) → view ≡ table → ForSome table.greatest (λ g. g < ticket) → ForSome view.greatest (λ g. g < ticket)
above-view table view ticket is above = rw is above

pub count-enter : (commands : List Command) (c : Command) → c.stage ≡ Unsent → unsent_count (commands ++ c ∷ []) ≡ unsent_count commands + 1
count-enter commands c fresh = sum_by_push (λ (d : Command). cond (is_unsent d) 1 0) commands c ∙ rw fresh refl

abbrev pub table_of : ℕ → ℕ → Option ℕ → List Command → List ℕ → Extent → HoldTable
table_of life latest greatest commands ready extent = record {
  life = life;
  latest = latest;
  greatest = greatest;
  commands = commands;
  ready = ready;
  extent = extent;
}

-- the table shows its fields
module _ {life latest : ℕ} {greatest : Option ℕ} {held : List Command} {ready : List ℕ} {extent : Extent} {table : HoldTable}
    (is : table_of life latest greatest held ready extent ≡ table) where
  recalls-of : (entered : List Command) → Recalls table entered → live life latest held ≡ live life latest entered
  recalls-of entered recalls = rw (← is) at recalls

  pub time-of : (now : ℕ) → table.latest ≤ now → latest ≤ now
  time-of now later = rw (← is) at later

  pub finish-value : (ticket : ℕ) → table_of life latest greatest (after_stage ticket stage_finished held) ready extent ≡ after_finish table ticket
  finish-value ticket = rw (← is) refl

  pub finish-recalls : (ticket : ℕ) (entered : List Command) → Recalls table entered
      → live life latest (after_stage ticket stage_finished held) ≡ live life latest (after_stage ticket stage_finished entered)
  finish-recalls ticket entered recalls =
      recalls-after_stage life latest latest ticket stage_finished held entered (omega arith) (λ last. refl) (recalls-of entered recalls)

  pub send-value : (ticket : ℕ) (now : Millis) (ready_after : List ℕ) → ready_after ≡ filter (λ other. not (nat_eq other ticket)) ready
      → table_of life now.0 greatest (after_stage ticket (stage_sent now) held) ready_after extent ≡ after_send table ticket now
  send-value ticket now ready_after ready_is = rw (← is, ready_is) refl

  pub send-recalls : (ticket : ℕ) (now : Millis) → table.latest ≤ now.0 → (entered : List Command) → Recalls table entered
      → live life now.0 (after_stage ticket (stage_sent now) held) ≡ live life now.0 (after_stage ticket (stage_sent now) entered)
  send-recalls ticket now later entered recalls =
      recalls-after_stage life latest now.0 ticket (stage_sent now) held entered (time-of now.0 later) (λ last. refl) (recalls-of entered recalls)

  pub enter-recalls : (c : Command) (entered : List Command) → Recalls table entered
      → live life latest (live life latest held ++ c ∷ []) ≡ live life latest (entered ++ c ∷ [])
  enter-recalls c entered recalls =
      recalls-enter life latest c (live life latest held) entered (live-live life latest latest held (omega arith) ∙ recalls-of entered recalls)

  pub time-value : (now : ℕ) (ready_after : List ℕ) → ready_after ≡ clear_tickets life now held
      → table_of life now greatest held ready_after extent ≡ at_time table now
  time-value now ready_after ready_is = rw (← is, ready_is) refl

  pub time-recalls : (now : ℕ) → table.latest ≤ now → (entered : List Command) → Recalls table entered → live life now held ≡ live life now entered
  time-recalls now later entered recalls = live-same life latest now held entered (time-of now later) (recalls-of entered recalls)

  -- the clear commands of the list that is kept are those of all that were entered
  pub clear-recalls : (now : ℕ) → table.latest ≤ now → (entered : List Command) → Recalls table entered
      → clear_tickets life now held ≡ clear_tickets table.life now entered
  clear-recalls now later entered recalls =
      let same : life ≡ table.life = ap (λ (t : HoldTable). t.life) is in
      rw (← same) (tickets-same life latest now held entered (time-of now later) (recalls-of entered recalls))

  -- the first of them is told
  module _ (now : ℕ) (later : table.latest ≤ now) (first : Option Ticket) (head : option_map (λ t. t.0) first ≡ slice_get (clear_tickets life now held) 0) where
    pub answer-clear : IfSome first (λ ticket. (entered : List Command) → Recalls table entered → Contains (clear_tickets table.life now entered) ticket.0)
    answer-clear = IfSome_then first (head-contained _ first head) (λ ticket there entered recalls. rw (← clear-recalls now later entered recalls) there)

    pub answer-lowest : is_ascending held ≡ true
        → IfSome first (λ ticket. (entered : List Command) → Recalls table entered → All (λ other. ticket.0 ≤ other) (clear_tickets table.life now entered))
    answer-lowest up = IfSome_then first (head-lowest _ first head (clear-rises life now held up))
        (λ ticket lowest entered recalls. rw (← clear-recalls now later entered recalls) lowest)

    pub answer-none : IfNone first ((entered : List Command) → Recalls table entered → clear_tickets table.life now entered ≡ [])
    answer-none = missing first (head-missing _ first head)
      where
        missing : (o : Option Ticket) → IfNone o (clear_tickets life now held ≡ [])
            → IfNone o ((entered : List Command) → Recalls table entered → clear_tickets table.life now entered ≡ [])
        missing None none = λ entered recalls. sym (clear-recalls now later entered recalls) ∙ none
        missing (Some ticket) none = tt
