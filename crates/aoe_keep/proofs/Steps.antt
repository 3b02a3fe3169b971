-- What device calls leave of what a keep knows.
use Rattle.std.proofs.Common.{◌≡◌, ◌⊎◌, ◌≤◌, ◌<◌, ◌+◌, ◌-◌, ◌*◌, ℕ, Bool, true, false, Option, Some, None, List, length, refl, arith, ◌∙◌, ap, inl, inr}
use Rattle.std.proofs.lemmas.Bool.{cases_lt}
use Rattle.aoe_lists.specs.Settings.{Settings}
use Rattle.aoe_disk.specs.State.{Contents, CanLeave, HasShape, sector, is_loose}
use Rattle.aoe_disk.specs.Sectors.{Touches, IsOutside, Calms}
use Rattle.aoe_keep.specs.declared.body.Written.{Written}
use Rattle.aoe_keep.specs.Body.{decode}
use Rattle.aoe_keep.specs.Found.{is_open, CanFind, Finds}
use Rattle.aoe_keep.specs.Stages.{StaysClosed, StaysBody, spare, IsSteady, IsChoosable, IsKept}
use Rattle.aoe_keep.specs.declared.place.Place.{Place}
use Rattle.aoe_keep.proofs.Slots.{gate_same, body_same, closed_after, body_after, outcome, found_by, spare_small, reopened}

-- a range that a call doesn't touch
module _ (lo n : ℕ) (old new : Contents) (touch : Touches lo n old new) where
  pub closed_touch : (k : ℕ) → ((s : ℕ) → 8 * k ≤ s → s < 8 * k + 1 → IsOutside lo n s) → StaysClosed old k → StaysClosed new k
  closed_touch k out closed = record {
    gate = gate_same new.bytes old.bytes k (λ s l h. touch.same s (out s l h)) ∙ closed.gate;
    kept = λ s l h. touch.kept s (out s l h) (closed.kept s l h);
  }

  pub body_touch : (k : ℕ) (b : Written) → ((s : ℕ) → 8 * k + 1 ≤ s → s < 8 * k + 1 + 7 → IsOutside lo n s) → StaysBody old k b → StaysBody new k b
  body_touch k b out has = record {
    spells = ap decode (body_same new.bytes old.bytes k (λ s l h. touch.same s (out s l h))) ∙ has.spells;
    kept = λ s l h. touch.kept s (out s l h) (has.kept s l h);
  }

-- the range lies within the spare slot
pub record IsWithin (place : Option Place) (lo n : ℕ) : Type 0 where
  pub low : 8 * spare place ≤ lo
  pub high : lo + n ≤ 8 * spare place + 8

apart : (k lo n s : ℕ) → k < 2 → 8 * (1 - k) ≤ lo → lo + n ≤ 8 * (1 - k) + 8 → 8 * k ≤ s → s < 8 * k + 8 → IsOutside lo n s
apart k lo n s lk low high l h = elim (cases_lt s lo) [
  | inl below ↦ inl below
  | inr above ↦ inr (omega arith)
]

pub steady_touch : (place : Option Place) (lists : Settings) (lo n : ℕ) (old new : Contents) → IsWithin place lo n → Touches lo n old new
    → IsSteady place lists old → IsSteady place lists new
steady_touch None lists lo n old new within touch steady = (steady.0, closed_touch lo n old new touch 1 (λ s l h. inr (omega (arith, within.high))) steady.1)
steady_touch (Some p) lists lo n old new within touch steady =
    let out : (s : ℕ) → 8 * p.slot ≤ s → s < 8 * p.slot + 8 → IsOutside lo n s = λ s l h. apart p.slot lo n s steady.0 within.low within.high l h in (
      steady.0,
      steady.1,
      record {
        gate = gate_same new.bytes old.bytes p.slot (λ s l h. touch.same s (out s (omega arith) (omega arith))) ∙ steady.2.gate;
        kept = λ s l h. touch.kept s (out s (omega arith) (omega arith)) (steady.2.kept s l h);
        body = body_touch lo n old new touch p.slot (record { format = p.format; turn = p.turn; lists = lists })
            (λ s l h. out s (omega arith) (omega arith)) steady.2.body;
      },
    )

-- a sync, failed or not, touches no range
pub calm_touches : (lo n : ℕ) (old new : Contents) → Calms old new → Touches lo n old new
calm_touches lo n old new calm = record { size = ap length calm.bytes; marks = calm.marks; same = λ s out. rw calm.bytes refl; kept = λ s out e. calm.kept s e }

module _ (old new : Contents) (calm : Calms old new) where
  pub gate_calm : (k : ℕ) (t : Bool) → is_open old.bytes k ≡ t → is_open new.bytes k ≡ t
  gate_calm k t e = rw calm.bytes e

  pub closed_calm : (k : ℕ) → StaysClosed old k → StaysClosed new k
  closed_calm k closed = record { gate = gate_calm k false closed.gate; kept = λ s l h. calm.kept s (closed.kept s l h) }

  pub body_calm : (k : ℕ) (b : Written) → StaysBody old k b → StaysBody new k b
  body_calm k b has = record { spells = rw calm.bytes has.spells; kept = λ s l h. calm.kept s (has.kept s l h) }

  pub left_calm : (image : List ℕ) → CanLeave new image → CanLeave old image
  left_calm image left = record { size = left.size ∙ ap length calm.bytes; kept = λ s e. left.kept s (calm.kept s e) ∙ (λ i. sector (calm.bytes i) s) }

  pub finds_calm : (P : Settings → Type 0) → Finds P old → Finds P new
  finds_calm P finds = λ image left. finds image (left_calm image left)

  pub steady_calm : (place : Option Place) (lists : Settings) → IsSteady place lists old → IsSteady place lists new
  steady_calm place lists steady = steady_touch place lists (8 * spare place) 0 old new (record { low = omega arith; high = omega arith })
      (calm_touches _ 0 old new calm) steady

  -- what is known of a closed gate stays known
  pub kept_calm : (place : Option Place) (lists : Settings) → IsKept place true lists old → IsKept place true lists new
  kept_calm place lists kept = record {
    steady = steady_calm place lists kept.steady;
    spare = (
      gate_calm (spare place) false kept.spare.0,
      elim kept.spare.1 [
        | inl closed ↦ inl (closed_calm (spare place) closed)
        | inr ready ↦ inr (ready.0, record { body = body_calm (spare place) ready.0 ready.1.body; turn = ready.1.turn })
      ],
    );
  }

pub weaker : (P Q : Settings → Type 0) (c : Contents) → ((l : Settings) → P l → Q l) → Finds P c → Finds Q c
weaker P Q c imp finds = λ image left. let f = finds image left in (f.0, f.1, imp f.0 f.2)

-- what every crash finds, a crash can find
pub each_can : (P : Settings → Type 0) (c : Contents) → Finds P c → Finds (CanFind c) c
each_can P c finds = λ image left. let f = finds image left in (f.0, f.1, record { image = image; left = left; is = f.1 })

module _ (place : Option Place) (lists : Settings) (c : Contents) (steady : IsSteady place lists c) where
  pub finds_closed : StaysClosed c (spare place) → Finds (λ l. l ≡ lists) c
  finds_closed closed = λ image left. (lists, found_by place lists c image None steady left (closed_after c (spare place) image closed left) tt, refl)

  pub finds_ready : (b : Written) → IsChoosable place c b → Finds (λ l. (l ≡ lists) ⊎ (l ≡ outcome place lists (Some b))) c
  finds_ready b ready = λ image left. elim (body_after c (spare place) b image ready.body left) [
    | inl closed ↦ (lists, found_by place lists c image None steady left closed tt, inl refl)
    | inr opened ↦ (outcome place lists (Some b), found_by place lists c image (Some b) steady left opened ready.turn, inr refl)
  ]

  pub could : (sectors : ℕ) (b : Written) → HasShape sectors c → 16 ≤ sectors → IsChoosable place c b
      → (is_loose c.loose (8 * spare place) ≡ true) ⊎ (is_open c.bytes (spare place) ≡ true) → CanFind c (outcome place lists (Some b))
  could sectors b shape room ready gate =
      let again = reopened c (spare place) sectors b shape room (spare_small place) ready.body gate in
      record { image = again.0; left = again.1; is = found_by place lists c again.0 (Some b) steady again.1 again.2 ready.turn }

pub kept_finds : (place : Option Place) (lists : Settings) (is_closed : Bool) (c : Contents) → IsKept place is_closed lists c → Finds (CanFind c) c
kept_finds place lists true c kept = elim kept.spare.1 [
  | inl closed ↦ each_can _ c (finds_closed place lists c kept.steady closed)
  | inr ready ↦ each_can _ c (finds_ready place lists c kept.steady ready.0 ready.1)
]
kept_finds place lists false c kept = each_can _ c (finds_ready place lists c kept.steady kept.spare.0 kept.spare.1)
