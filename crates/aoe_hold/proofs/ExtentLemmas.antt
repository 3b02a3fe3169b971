-- What lies within an extent, and which of that a command can conflict with.
use Rattle.std.proofs.Common.{ℕ, ◌≡◌, ◌<◌, ◌&&◌, ◌||◌, not, Bool, true, false, List, [], ◌∷◌, ◌++◌, get_or, inl, inr, length, sym, ◌∙◌, arith, nat_eq}
use Rattle.std.specs.Prelude.{All}
use Rattle.std.specs.BTreeSet.{BTreeSet}
use Rattle.std.proofs.lemmas.Bool.{cases_Bool, cases_lt, ne_eqb, not-true, or_parts, true≢false}
use Rattle.std.proofs.lemmas.List.{get_or_default}
use Rattle.std.proofs.lemmas.List.Elements.{filter_passes, All-filter, All-map, All-push}
use Rattle.aoe_base.specs.Spans.{overlap}
use Rattle.aoe_hold.specs.declared.command.Command.{Command}
use Rattle.aoe_hold.specs.declared.command.Kind.{Kind}
use Rattle.aoe_hold.specs.declared.command.Stage.{Stage}
use Rattle.aoe_hold.specs.declared.keys.Key.{Key}
use Rattle.aoe_hold.specs.Commands.{after_stage, conflict, is_edit, is_flush, is_past, is_write, live, with_stage}
use Rattle.aoe_hold.specs.Extents.{goes_by_span, widened, Covers, HasKey, IsNonePast, IsWithin, Extent}
use Rattle.aoe_hold.specs.HoldTable.{is_ascending}
use Rattle.aoe_hold.proofs.OrderLemmas.{ascending-at}

within-stage : {extent : Extent} {keys : BTreeSet Key} (ticket : ℕ) (change : Stage → Stage) (c : Command) → IsWithin extent keys c
    → IsWithin extent keys (with_stage ticket change c)
within-stage ticket change c within = elim (cases_Bool (nat_eq c.ticket.0 ticket)) [
  | inl same ↦ rw same (record { reached = within.reached; unflushed = within.unflushed; keyed = within.keyed })
  | inr other ↦ rw other within
]

pub covers-stage : (extent : Extent) (keys : BTreeSet Key) (ticket : ℕ) (change : Stage → Stage) (commands : List Command) → Covers extent keys commands
    → Covers extent keys (after_stage ticket change commands)
covers-stage extent keys ticket change commands covers =
    All-map (IsWithin extent keys) (with_stage ticket change) commands (λ k d below. within-stage ticket change (get_or commands k d) (covers k d below))

-- more keys
pub covers-more : (extent : Extent) (old new : BTreeSet Key) (commands : List Command) → ((c : Command) → HasKey old c → HasKey new c)
    → Covers extent old commands → Covers extent new commands
covers-more extent old new commands more covers = λ k d below.
    let one = covers k d below in
    record { reached = one.reached; unflushed = one.unflushed; keyed = more (get_or commands k d) one.keyed }

-- a held command that isn't past has its ticket alone
none-past : (life latest : ℕ) (commands : List Command) (k : ℕ) (d : Command) → is_ascending commands ≡ true → k < length commands
    → is_past life latest (get_or commands k d) ≡ false → IsNonePast life latest commands (get_or commands k d)
none-past life latest commands k d up within stays j e below past =
    let seen = rw (get_or_default commands j e d below) at past in
    rw (get_or_default commands j e d below) (ne_eqb _ _ (λ same. elim (cases_lt j k) [
      | inl before ↦ absurd (omega (arith, ascending-at commands j k d up before within))
      | inr from ↦ elim (cases_lt k j) [
        | inl after ↦ absurd (omega (arith, ascending-at commands k j d up after below))
        | inr to ↦ let here : j ≡ k = omega arith in true≢false (sym (rw here at seen) ∙ stays)
      ]
    ]))

-- nor has a past one the ticket of one that is above all
pub none-past-above : (life latest : ℕ) (commands : List Command) (c : Command) → All (λ e. e.ticket.0 < c.ticket.0) commands
    → IsNonePast life latest commands c
none-past-above life latest commands c above = λ k d below past. ne_eqb _ _ (λ same. absurd (omega (arith, above k d below)))

-- the commands that stay lie within the extent, and keep their keys
covers-kept : (extent : Extent) (old new : BTreeSet Key) (life latest : ℕ) (commands : List Command) → is_ascending commands ≡ true
    → ((c : Command) → IsNonePast life latest commands c → HasKey old c → HasKey new c) → Covers extent old commands
    → Covers extent new (live life latest commands)
covers-kept extent old new life latest commands up keeps covers =
    let stays : Command → Bool = λ c. not (is_past life latest c) in
    let each : All (λ c. stays c ≡ true → IsWithin extent new c) commands = λ k d below stayed.
    let one = covers k d below in
    let own = none-past life latest commands k d up below (not-true _ stayed) in
    record { reached = one.reached; unflushed = one.unflushed; keyed = keeps (get_or commands k d) own one.keyed }
    in
    λ k d below. All-filter stays (λ c. stays c ≡ true → IsWithin extent new c) commands each k d below (filter_passes stays commands k d below)

pub covers-entered : (extent : Extent) (keys : BTreeSet Key) (kept : List Command) (c : Command) → HasKey keys c → Covers extent keys kept
    → Covers (widened extent c) keys (kept ++ c ∷ [])
covers-entered extent keys kept c has covers = All-push (IsWithin (widened extent c) keys) kept c wider own
  where
    wider : Covers (widened extent c) keys kept
    wider k d below =
        let within = covers k d below in
        record {
          reached = omega (arith, within.reached);
          unflushed = λ out. within.unflushed (or_parts extent.flushes (is_flush c.kind) out).0;
          keyed = within.keyed;
        }

    own : IsWithin (widened extent c) keys c
    own = record { reached = omega arith; unflushed = λ out. (or_parts extent.flushes (is_flush c.kind) out).1; keyed = has }

-- the same over what a new command leaves, by all that is done for it
pub covers-left : (extent kept : Extent) (old more new : BTreeSet Key) (life latest : ℕ) (held : List Command) → is_ascending held ≡ true
    → ((c : Command) → HasKey old c → HasKey more c) → ((c : Command) → IsNonePast life latest held c → HasKey more c → HasKey new c)
    → ((keys : BTreeSet Key) → Covers extent keys (live life latest held) → Covers kept keys (live life latest held))
    → Covers extent old held → Covers kept new (live life latest held)
covers-left extent kept old more new life latest held up adds keeps widens covers =
    widens new (covers-kept extent more new life latest held up keeps (covers-more extent old more held adds covers))

-- ---- what a command can conflict with

by-span : (extent : Extent) (over : Bool) (a b : Kind) → goes_by_span extent b ≡ true → (extent.flushes ≡ false → is_flush a ≡ false)
    → ((over && (is_write a || is_write b)) || (is_flush a && is_write b) || (is_write a && is_flush b) || (is_edit a && is_edit b)) ≡ true
    → (over ≡ true) × ((is_write a || is_write b) ≡ true)
by-span extent over a b goes unflushed is = grind arith

-- a command that goes by its span conflicts only where the spans overlap and one of the two writes
pub span-alone : {extent : Extent} {keys : BTreeSet Key} {e : Command} (c : Command) → goes_by_span extent c.kind ≡ true → IsWithin extent keys e
    → conflict e c ≡ true → (overlap e.span c.span ≡ true) × ((is_write e.kind || is_write c.kind) ≡ true)
span-alone {extent} {keys} {e} c goes within is = by-span extent (overlap e.span c.span) e.kind c.kind goes within.unflushed is
