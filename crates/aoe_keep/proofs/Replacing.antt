-- The six device calls of a replacement, over contents that are told.
use Rattle.std.proofs.Common.{◌≡◌, ◌⊎◌, ◌≤◌, ◌<◌, ◌+◌, ◌-◌, ◌*◌, ℕ, zero, suc, true, false, Option, Some, None, Result, Ok, List, refl, arith, ◌∙◌, ap, inl, inr}
use Rattle.std.proofs.lemmas.Bool.{eq-eqb, ne_eqb}
use Rattle.aoe_lists.specs.Settings.{Settings}
use Rattle.aoe_disk.specs.State.{Contents, CanLeave, HasShape, is_loose}
use Rattle.aoe_disk.specs.Calls.{Settles}
use Rattle.aoe_disk.specs.Sectors.{Touches, Calms}
use Rattle.aoe_disk.proofs.Touching.{settles_calm, settles_kept}
use Rattle.aoe_keep.specs.declared.body.Written.{Written}
use Rattle.aoe_keep.specs.Body.{decode, format_2}
use Rattle.aoe_keep.specs.Found.{body, is_open, next_turn, slot, placement, format_at, format_found, Finds, IsOffered}
use Rattle.aoe_keep.specs.Stages.{NoneLoose, StaysBody, StaysOpen, spare, turn_after, is_unplaced, next_body, next_place, IsSteady, IsOtherTurn, IsChoosable, IsSpare, IsKept, IsCleared, IsStaged, IsOpened, IsInterrupted, IsReplaced}
use Rattle.aoe_keep.specs.declared.place.Place.{Place}
use Rattle.aoe_keep.proofs.Slots.{outcome, spare_small, found_by, closed_after, open_after}
use Rattle.aoe_keep.proofs.Steps.{IsWithin, closed_touch, body_touch, steady_touch, gate_calm, closed_calm, body_calm, steady_calm, kept_calm, finds_calm, finds_closed, finds_ready, could, weaker, kept_finds}

none_loose : (old new : Contents) → Settles old new → (lo n : ℕ) → NoneLoose new lo n
none_loose old new settles lo n = λ s l h. settles_kept old new settles s

turn_after_small : (place : Option Place) → turn_after place < 3
turn_after_small None = omega arith
turn_after_small (Some p) = omega arith

other_turn : (place : Option Place) (lists : Settings) (c : Contents) → IsSteady place lists c → IsOtherTurn place (turn_after place)
other_turn None lists c steady = tt
other_turn (Some p) lists c steady = (omega arith, λ e. omega (arith, steady.1, e))

outcome_next : (place : Option Place) (lists next : Settings) → outcome place lists (Some (next_body place next)) ≡ next
outcome_next None lists next = refl
outcome_next (Some p) lists next = rw (eq-eqb (next_turn p.turn) (next_turn p.turn) refl) refl

-- the slot that is spare from now on holds the lists before, behind an open gate
spare_some : (k t n m : ℕ) (lists : Settings) (c : Contents) → k < 2 → t < 3 → StaysOpen c k (record { format = n; turn = t; lists = lists })
    → IsSpare (Some (record { slot = 1 - k; turn = next_turn t; format = m })) false c
spare_some k t n m lists c lk lt holds =
    let back : k ≡ 1 - (1 - k) = omega (arith, lk) in (
      record { format = n; turn = t; lists = lists },
      record { body = rw back at holds.body; turn = (lt, λ e. omega (arith, lt, e)) },
      inr (rw back at holds.gate),
    )

spare_after : (place : Option Place) (lists : Settings) (c : Contents) → IsSteady place lists c → IsSpare (next_place place) (is_unplaced place) c
spare_after None lists c steady = (steady.1.gate, inl steady.1)
spare_after (Some p) lists c steady = spare_some p.slot p.turn p.format format_2.number lists c steady.0 steady.1 steady.2

-- where both slots hold lists, the next ones count and not those before
placed_of : (image : List ℕ) (a b : Option (Option Written)) → slot image 0 ≡ a → slot image 1 ≡ b → format_found image ≡ format_at (placement a b).0
placed_of image a b ea eb = λ i. format_at (placement (ea i) (eb i)).0

first_follows : (t n m : ℕ) (lists next : Settings) → t < 3
    → format_at (placement (Some (Some (record { format = n; turn = t; lists = lists })))
    (Some (Some (record { format = m; turn = next_turn t; lists = next })))).0 ≡ m
first_follows t n m lists next lt = rw (ne_eqb t (next_turn (next_turn t)) (λ e. omega (arith, lt, e))) refl

second_follows : (t n m : ℕ) (lists next : Settings)
    → format_at (placement (Some (Some (record { format = m; turn = next_turn t; lists = next })))
    (Some (Some (record { format = n; turn = t; lists = lists })))).0 ≡ m
second_follows t n m lists next = rw (eq-eqb (next_turn t) (next_turn t) refl) refl

latest_at : (k t n : ℕ) (lists next : Settings) (c : Contents) (image : List ℕ) → k < 2 → t < 3 → StaysOpen c k (record { format = n; turn = t; lists = lists })
    → CanLeave c image → slot image (1 - k) ≡ Some (Some (record { format = format_2.number; turn = next_turn t; lists = next }))
    → format_found image ≡ format_2.number
latest_at zero t n lists next c image lk lt holds left e =
    placed_of image _ _ (open_after c 0 (record { format = n; turn = t; lists = lists }) image holds left) e ∙ first_follows t n format_2.number lists next lt
latest_at (suc zero) t n lists next c image lk lt holds left e =
    placed_of image _ _ e (open_after c 1 (record { format = n; turn = t; lists = lists }) image holds left) ∙ second_follows t n format_2.number lists next
latest_at (suc (suc k)) t n lists next c image lk lt holds left e = absurd (omega (arith, lk))

latest : (place : Option Place) (lists next : Settings) (c : Contents) (image : List ℕ) → IsSteady place lists c → CanLeave c image
    → slot image (spare place) ≡ Some (Some (next_body place next)) → format_found image ≡ format_2.number
latest None lists next c image steady left e = placed_of image _ _ e (closed_after c 1 image steady.1 left)
latest (Some p) lists next c image steady left e = latest_at p.slot p.turn p.format lists next c image steady.0 steady.1 steady.2 left e

module _ (place : Option Place) (lists next : Settings) where
  gate_within : IsWithin place (8 * spare place) 1
  gate_within = record { low = omega arith; high = omega arith }

  body_within : IsWithin place (8 * spare place + 1) 7
  body_within = record { low = omega arith; high = omega arith }

  -- call 1

  pub still_closed : (c d : Contents) → IsKept place true lists c → Calms c d → IsInterrupted place true lists next c d
  still_closed c d kept calm = record {
    kept = kept_calm c d calm place lists kept;
    finds = weaker _ _ d (λ l can. inr (inr can)) (finds_calm c d calm _ (kept_finds place lists true c kept));
  }

  module _ (sectors : ℕ) (room : 16 ≤ sectors) (c d : Contents) (shape : HasShape sectors c) (kept : IsKept place false lists c)
      (touch : Touches (8 * spare place) 1 c d) where
    ready : IsChoosable place d kept.spare.0
    ready = record {
      body = body_touch (8 * spare place) 1 c d touch (spare place) kept.spare.0 (λ s l h. inr (omega arith)) kept.spare.1.body;
      turn = kept.spare.1.turn;
    }

    steady : IsSteady place lists d
    steady = steady_touch place lists (8 * spare place) 1 c d gate_within touch kept.steady

    finds : Finds (IsOffered lists next c) d
    finds = weaker _ _ d
        (λ l o. elim o [ inl e ↦ inl e | inr e ↦ inr (inr (rw e (could place lists c kept.steady sectors kept.spare.0 shape room kept.spare.1 kept.spare.2))) ])
        (finds_ready place lists d steady kept.spare.0 ready)

    pub close_failed : is_loose d.loose (8 * spare place) ≡ true → IsInterrupted place false lists next c d
    close_failed loose = record { kept = record { steady = steady; spare = (kept.spare.0, ready, inl loose) }; finds = finds }

    pub close_done : is_open d.bytes (spare place) ≡ false → IsInterrupted place true lists next c d
    close_done gate = record { kept = record { steady = steady; spare = (gate, inr (kept.spare.0, ready)) }; finds = finds }

  -- call 2

  pub clear_failed : (before c d : Contents) → IsInterrupted place true lists next before c → Calms c d → IsInterrupted place true lists next before d
  clear_failed before c d so_far calm = record { kept = kept_calm c d calm place lists so_far.kept; finds = finds_calm c d calm _ so_far.finds }

  pub clear_done : (c d : Contents) → IsKept place true lists c → Settles c d → IsCleared place lists d
  clear_done c d kept settles = record {
    steady = steady_calm c d (settles_calm c d settles) place lists kept.steady;
    closed = record { gate = gate_calm c d (settles_calm c d settles) (spare place) false kept.spare.0; kept = none_loose c d settles (8 * spare place) 1 };
  }

  -- while the spare slot stays closed a crash finds the present lists alone
  pub cleared_finds : (before c : Contents) → IsCleared place lists c → IsInterrupted place true lists next before c
  cleared_finds before c cleared = record {
    kept = record { steady = cleared.steady; spare = (cleared.closed.gate, inl cleared.closed) };
    finds = weaker _ _ c (λ l e. inl e) (finds_closed place lists c cleared.steady cleared.closed);
  }

  -- calls 3 and 4

  pub body_touched : (c d : Contents) → IsCleared place lists c → Touches (8 * spare place + 1) 7 c d → IsCleared place lists d
  body_touched c d cleared touch = record {
    steady = steady_touch place lists (8 * spare place + 1) 7 c d body_within touch cleared.steady;
    closed = closed_touch (8 * spare place + 1) 7 c d touch (spare place) (λ s l h. inl (omega arith)) cleared.closed;
  }

  pub cleared_calm : (c d : Contents) → IsCleared place lists c → Calms c d → IsCleared place lists d
  cleared_calm c d cleared calm =
      record { steady = steady_calm c d calm place lists cleared.steady; closed = closed_calm c d calm (spare place) cleared.closed }

  pub stage_done : (c d : Contents) → IsCleared place lists c → decode (body c.bytes (spare place)) ≡ Some (next_body place next)
      → Settles c d → IsStaged place lists next d
  stage_done c d cleared spells settles = record {
    cleared = cleared_calm c d cleared (settles_calm c d settles);
    body = record { spells = rw settles.bytes spells; kept = none_loose c d settles (8 * spare place + 1) 7 };
  }

  -- calls 5 and 6

  half_open : (before d : Contents) → IsSteady place lists d → StaysBody d (spare place) (next_body place next)
      → (is_loose d.loose (8 * spare place) ≡ true) ⊎ (is_open d.bytes (spare place) ≡ true) → IsInterrupted place false lists next before d
  half_open before d steady has gate =
      let ready : IsChoosable place d (next_body place next) = record { body = has; turn = other_turn place lists d steady } in
      record {
        kept = record { steady = steady; spare = (next_body place next, ready, gate) };
        finds = weaker _ _ d
            (λ l o. elim o [ inl e ↦ inl e | inr e ↦ inr (inl (e ∙ outcome_next place lists next)) ])
            (finds_ready place lists d steady (next_body place next) ready);
      }

  module _ (c d : Contents) (staged : IsStaged place lists next c) (touch : Touches (8 * spare place) 1 c d) where
    steady_staged : IsSteady place lists d
    steady_staged = steady_touch place lists (8 * spare place) 1 c d gate_within touch staged.cleared.steady

    body_staged : StaysBody d (spare place) (next_body place next)
    body_staged = body_touch (8 * spare place) 1 c d touch (spare place) (next_body place next) (λ s l h. inr (omega arith)) staged.body

    pub open_failed : (before : Contents) → is_loose d.loose (8 * spare place) ≡ true → IsInterrupted place false lists next before d
    open_failed before loose = half_open before d steady_staged body_staged (inl loose)

    pub opened : is_open d.bytes (spare place) ≡ true → IsOpened place lists next d
    opened gate = record { steady = steady_staged; gate = gate; body = body_staged }

  pub last_failed : (before c d : Contents) → IsOpened place lists next c → Calms c d → IsInterrupted place false lists next before d
  last_failed before c d o calm = half_open before d (steady_calm c d calm place lists o.steady)
      (body_calm c d calm (spare place) (next_body place next) o.body) (inr (gate_calm c d calm (spare place) true o.gate))

  pub replaced : (c d : Contents) → IsOpened place lists next c → Settles c d → IsReplaced place next d
  replaced c d o settles =
      let calm : Calms c d = settles_calm c d settles in
      let steady : IsSteady place lists d = steady_calm c d calm place lists o.steady in
      let holds : StaysOpen d (spare place) (next_body place next) = record {
        gate = gate_calm c d calm (spare place) true o.gate;
        kept = none_loose c d settles (8 * spare place) 1;
        body = body_calm c d calm (spare place) (next_body place next) o.body;
      } in
      let small : spare place < 2 = omega (arith, spare_small place) in
      record {
        kept = record { steady = (small, turn_after_small place, holds); spare = spare_after place lists d steady };
        finds = λ image left. (
          next,
          found_by place lists d image (Some (next_body place next)) steady left (open_after d (spare place) (next_body place next) image holds left)
              (other_turn place lists d steady)
              ∙ ap (λ (x : Settings). let r : Result Settings ℕ = Ok x in r) (outcome_next place lists next),
          refl,
        );
        format = λ image left. latest place lists next d image steady left (open_after d (spare place) (next_body place next) image holds left);
      }
