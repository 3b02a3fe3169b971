-- What a crash leaves of the two slots.
use Rattle.std.proofs.Common.{◌≡◌, ◌≢◌, ◌⊎◌, ◌≤◌, ◌<◌, ◌+◌, ◌-◌, ◌*◌, ◌==◌, cond, ℕ, zero, suc, Bool, true, false, Option, Some, None, Result, Ok, List, length, drop, set, refl, arith, sym, ◌∙◌, ap, inl, inr}
use Rattle.std.proofs.lemmas.Bool.{cases_eq, cases_lt, eq-eqb, cases_Bool, both_ways}
use Rattle.std.proofs.lemmas.Bool.Decides.{nat_tests}
use Rattle.std.proofs.lemmas.List.{length-set, drop-set-lt, get_or-set_same, get_or-take, get_or-drop, take-set-le}
use Rattle.aoe_lists.specs.Settings.{Settings}
use Rattle.aoe_disk.specs.State.{Contents, CanLeave, HasShape, sector, is_loose}
use Rattle.aoe_disk.proofs.Touching.{range_same, sector_front, sector_back}
use Rattle.aoe_keep.specs.declared.body.Written.{Written}
use Rattle.aoe_keep.specs.Body.{decode}
use Rattle.aoe_keep.specs.Found.{slot, body, is_open, next_turn, choice, found}
use Rattle.aoe_keep.specs.Stages.{NoneLoose, StaysClosed, StaysBody, StaysOpen, spare, IsSteady, IsOtherTurn}
use Rattle.aoe_keep.specs.declared.place.Place.{Place}

-- images with the same sectors have the same slots
abbrev pub Agree : List ℕ → List ℕ → ℕ → ℕ → Type 0
Agree x y lo n = (s : ℕ) → lo ≤ s → s < lo + n → sector x s ≡ sector y s

pub gate_same : (x y : List ℕ) (k : ℕ) → Agree x y (8 * k) 1 → is_open x k ≡ is_open y k
gate_same x y k same = rw (same (8 * k) (omega arith) (omega arith)) refl

pub body_same : (x y : List ℕ) (k : ℕ) → Agree x y (8 * k + 1) 7 → body x k ≡ body y k
body_same x y k same = range_same 7 (8 * k + 1) x y same

pub left_same : (c : Contents) (image : List ℕ) (lo n : ℕ) → CanLeave c image → NoneLoose c lo n → Agree image c.bytes lo n
left_same c image lo n left kept = λ s l h. left.kept s (kept s l h)

pub closed_slot : (image : List ℕ) (k : ℕ) → is_open image k ≡ false → slot image k ≡ None
closed_slot image k e = rw e refl

pub open_slot : (image : List ℕ) (k : ℕ) (o : Option Written) → is_open image k ≡ true → decode (body image k) ≡ o → slot image k ≡ Some o
open_slot image k o e r = rw (e, r) refl

module _ (c : Contents) (k : ℕ) where
  gate_left : (image : List ℕ) (t : Bool) → NoneLoose c (8 * k) 1 → is_open c.bytes k ≡ t → CanLeave c image → is_open image k ≡ t
  gate_left image t kept gate left = gate_same image c.bytes k (left_same c image (8 * k) 1 left kept) ∙ gate

  pub closed_after : (image : List ℕ) → StaysClosed c k → CanLeave c image → slot image k ≡ None
  closed_after image closed left = closed_slot image k (gate_left image false closed.kept closed.gate left)

  module _ (b : Written) (image : List ℕ) where
    body_read : StaysBody c k b → CanLeave c image → decode (body image k) ≡ Some b
    body_read has left = ap decode (body_same image c.bytes k (left_same c image (8 * k + 1) 7 left has.kept)) ∙ has.spells

    pub open_after : StaysOpen c k b → CanLeave c image → slot image k ≡ Some (Some b)
    open_after holds left = open_slot image k (Some b) (gate_left image true holds.kept holds.gate left) (body_read holds.body left)

    pub body_after : StaysBody c k b → CanLeave c image → (slot image k ≡ None) ⊎ (slot image k ≡ Some (Some b))
    body_after has left = elim (cases_Bool (is_open image k)) [
      | inl opened ↦ inr (open_slot image k (Some b) opened (body_read has left))
      | inr closed ↦ inl (closed_slot image k closed)
    ]

-- of two turns that differ one follows the other, and not the other way round
rivals : (a b : ℕ) → a < 3 → b < 3 → a ≢ b → ((a ≡ next_turn b) × (b ≢ next_turn a)) ⊎ ((b ≡ next_turn a) × (a ≢ next_turn b))
rivals a b la lb ne = elim (cases_eq a (next_turn b)) [
  | inl is ↦ inl (is, λ e. omega (arith, is, e))
  | inr other ↦ inr (omega (arith, other), other)
]

-- the lists that are found, by what the spare slot holds
abbrev pub outcome : Option Place → Settings → Option Written → Settings
outcome place lists None = lists
outcome None lists (Some b) = b.lists
outcome (Some p) lists (Some b) = cond (b.turn == next_turn p.turn) b.lists lists

first_holds : (t n : ℕ) (lists : Settings) (b : Written) → t < 3 → b.turn < 3 → b.turn ≢ t
    → choice (Some (Some (record { format = n; turn = t; lists = lists }))) (Some (Some b)) ≡ Ok (cond (b.turn == next_turn t) b.lists lists)
first_holds t n lists b lt lb ne = grind (arith, nat_tests, rivals b.turn t lb lt ne)

second_holds : (t n : ℕ) (lists : Settings) (b : Written) → t < 3 → b.turn < 3 → b.turn ≢ t
    → choice (Some (Some b)) (Some (Some (record { format = n; turn = t; lists = lists }))) ≡ Ok (cond (b.turn == next_turn t) b.lists lists)
second_holds t n lists b lt lb ne = grind (arith, nat_tests, rivals b.turn t lb lt ne)

-- a slot that isn't bad
abbrev pub seen : Option Written → Option (Option Written)
seen None = None
seen (Some b) = Some (Some b)

abbrev pub IsRival : Option Place → Option Written → Type 0
IsRival place None = Unit {0}
IsRival place (Some b) = IsOtherTurn place b.turn

found_of : (image : List ℕ) (a b : Option (Option Written)) → slot image 0 ≡ a → slot image 1 ≡ b → found image ≡ choice a b
found_of image a b ea eb = λ i. choice (ea i) (eb i)

found_some : (k t n : ℕ) (lists : Settings) (c : Contents) (image : List ℕ) (o : Option Written) → k < 2 → t < 3
    → StaysOpen c k (record { format = n; turn = t; lists = lists }) → CanLeave c image
    → slot image (1 - k) ≡ seen o → IsRival (Some (record { slot = k; turn = t; format = n })) o
    → found image ≡ Ok (outcome (Some (record { slot = k; turn = t; format = n })) lists o)
found_some zero t n lists c image None lk lt holds left e rival =
    found_of image _ _ (open_after c 0 (record { format = n; turn = t; lists = lists }) image holds left) e
found_some zero t n lists c image (Some b) lk lt holds left e rival =
    found_of image _ _ (open_after c 0 (record { format = n; turn = t; lists = lists }) image holds left) e ∙ first_holds t n lists b lt rival.0 rival.1
found_some (suc zero) t n lists c image None lk lt holds left e rival =
    found_of image _ _ e (open_after c 1 (record { format = n; turn = t; lists = lists }) image holds left)
found_some (suc zero) t n lists c image (Some b) lk lt holds left e rival =
    found_of image _ _ e (open_after c 1 (record { format = n; turn = t; lists = lists }) image holds left) ∙ second_holds t n lists b lt rival.0 rival.1
found_some (suc (suc k)) t n lists c image o lk lt holds left e rival = absurd (omega (arith, lk))

pub found_by : (place : Option Place) (lists : Settings) (c : Contents) (image : List ℕ) (o : Option Written) → IsSteady place lists c → CanLeave c image
    → slot image (spare place) ≡ seen o → IsRival place o → found image ≡ Ok (outcome place lists o)
found_by None lists c image None steady left e rival = found_of image _ _ e (closed_after c 1 image steady.1 left)
    ∙ ap (λ (x : Settings). let r : Result Settings ℕ = Ok x in r) (sym steady.0)
found_by None lists c image (Some b) steady left e rival = found_of image _ _ e (closed_after c 1 image steady.1 left)
found_by (Some p) lists c image o steady left e rival = found_some p.slot p.turn p.format lists c image o steady.0 steady.1 steady.2 left e rival

pub spare_small : (place : Option Place) → spare place ≤ 1
spare_small None = omega arith
spare_small (Some p) = omega arith

-- a crash can leave a gate open that is loose, or that is open
pub reopened : (c : Contents) (k sectors : ℕ) (b : Written) → HasShape sectors c → 16 ≤ sectors → k ≤ 1 → StaysBody c k b
    → (is_loose c.loose (8 * k) ≡ true) ⊎ (is_open c.bytes k ≡ true)
    → (image : List ℕ) × CanLeave c image × (slot image k ≡ Some (Some b))
reopened c k sectors b shape room lk has (inr opened) = (c.bytes, record { size = refl; kept = λ s e. refl }, open_slot c.bytes k (Some b) opened has.spells)
reopened c k sectors b shape room lk has (inl loose) =
    let start : ℕ = 512 * (8 * k) in
    let image : List ℕ = set c.bytes start 167 in
    let more : start + 0 ≡ start = omega arith in
    let inside : start < length c.bytes = omega (arith, shape.bytes) in
    let left : CanLeave c image = record {
      size = length-set c.bytes start 167;
      kept = λ s e. elim (cases_lt s (8 * k)) [
        | inl below ↦ sector_front image c.bytes s start (omega arith) (take-set-le start c.bytes start 167 (omega arith))
        | inr above ↦ elim (cases_eq s (8 * k)) [
          | inl same ↦ absurd (both_ways (is_loose c.loose s) e (rw same loose))
          | inr other ↦ sector_back image c.bytes s (start + 1) (omega arith) (drop-set-lt (start + 1) c.bytes start 167 (omega arith))
        ]
      ];
    } in
    let first = get_or-take 512 (drop start image) 0 0 (omega arith) ∙ get_or-drop start image 0 0 ∙ rw more (get_or-set_same c.bytes start 167 0 inside) in
    let spells : decode (body image k) ≡ Some b = rw (drop-set-lt (512 * (8 * k + 1)) c.bytes start 167 (omega arith)) has.spells in
    (image, left, open_slot image k (Some b) (eq-eqb _ 167 first) spells)
