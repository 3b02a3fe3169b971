-- A disk with no loose sector, whose slots were read.
use Rattle.std.proofs.Common.{◌≡◌, ◌⊎◌, ◌<◌, ◌+◌, ◌*◌, ◌==◌, ◌&&◌, cond, ℕ, Bool, true, false, Option, Some, None, IfSome, Result, Ok, Err, MatchResult, List, drop, refl, arith, ◌∙◌, ap, inl, inr, slice_index, nat_eq, nat_lt}
use Rattle.std.proofs.lemmas.Option.{cond_some}
use Rattle.std.specs.List.{starts_with}
use Rattle.std.specs.Option.{option_and_then}
use Rattle.std.proofs.lemmas.Bool.{eqb-true, and_parts, ltb-true}
use Rattle.aoe_lists.specs.Settings.{Settings, empty_settings}
use Rattle.aoe_disk.specs.State.{Contents, CanLeave, BothTell, is_loose}
use Rattle.aoe_disk.specs.Calls.{Settles}
use Rattle.aoe_disk.specs.Sectors.{Calms}
use Rattle.aoe_disk.proofs.Touching.{settles_calm, settles_kept}
use Rattle.aoe_keep.specs.declared.body.Format.{Format}
use Rattle.aoe_keep.specs.declared.body.Written.{Written}
use Rattle.aoe_keep.specs.Body.{format_named, start, mark_in, head_len, decode, decode_by, is_valid, config_len}
use Rattle.aoe_keep.specs.Found.{slot, body, is_open, next_turn, choice, placement, format_at, format_found, found, Finds}
use Rattle.aoe_keep.specs.Stages.{StaysClosed, StaysOpen, IsKept, IsSteady}
use Rattle.aoe_keep.specs.Keep.{ReadsSlots}
use Rattle.aoe_keep.specs.declared.place.Place.{Place}
use Rattle.aoe_keep.specs.declared.mount.Present.{Present}
use Rattle.aoe_keep.proofs.Slots.{gate_same, body_same, left_same}
use Rattle.aoe_keep.proofs.Told.{both_map, told_last, told_then}

-- what a body spells it spells by one format
spelled_by : (o : Option Format) (bytes : List ℕ) (b : Written) → option_and_then (λ f. decode_by f bytes) o ≡ Some b
    → (f : Format) × (decode_by f bytes ≡ Some b)
spelled_by None bytes b e = absurd cc
spelled_by (Some f) bytes b e = (f, e)

-- a turn that was read is one of three
turn_small_by : (f : Format) (bytes : List ℕ) (b : Written) → decode_by f bytes ≡ Some b → b.turn < 3
unfolding decode_by is_valid
turn_small_by f bytes b e =
    let w = cond_some (starts_with nat_eq bytes (start f) && is_valid f (slice_index bytes 5) (config_len bytes) (slice_index bytes 8) (slice_index bytes 9)
    (mark_in f bytes) (drop (head_len f) bytes)) _ b e in
    let valid = (and_parts (starts_with nat_eq bytes (start f)) _ w.0).1 in
    let less : slice_index bytes 5 < 3 = ltb-true _ 3 (and_parts (nat_lt (slice_index bytes 5) 3) _ (and_parts _ _ valid).0).0 in
    let same : slice_index bytes 5 ≡ b.turn = ap (λ (p : Written). p.turn) w.1 in
    omega (arith, less, same)

turn_small : (bytes : List ℕ) (b : Written) → decode bytes ≡ Some b → b.turn < 3
turn_small bytes b e = let by = spelled_by (format_named (slice_index bytes 4)) bytes b e in turn_small_by by.0 bytes b by.1

chosen : {X : Type 0} (t : Bool) (x y z : X) → cond t x y ≡ z → ((t ≡ true) × (x ≡ z)) ⊎ ((t ≡ false) × (y ≡ z))
chosen true x y z e = inl (refl, e)
chosen false x y z e = inr (refl, e)

-- the later of two open slots
abbrev later : Bool → Written → Written → Option Place × Bool
later t a b =
    cond t (Some (record { slot = 0; turn = a.turn; format = a.format }), false) (Some (record { slot = 1; turn = b.turn; format = b.format }), false)

module _ (c : Contents) (kept : (s : ℕ) → is_loose c.loose s ≡ false) where
  open_from : (k : ℕ) (b : Written) → slot c.bytes k ≡ Some (Some b) → StaysOpen c k b
  open_from k b e =
      let opened : is_open c.bytes k ≡ true = grind arith in
      let spells : decode (body c.bytes k) ≡ Some b = grind arith in
      record { gate = opened; kept = λ s l h. kept s; body = record { spells = spells; kept = λ s l h. kept s } }

  closed_from : (k : ℕ) → slot c.bytes k ≡ None → StaysClosed c k
  closed_from k e = record { gate = grind arith; kept = λ s l h. kept s }

  slot_left : (image : List ℕ) (k : ℕ) → CanLeave c image → slot image k ≡ slot c.bytes k
  slot_left image k left =
      let gate = gate_same image c.bytes k (left_same c image (8 * k) 1 left (λ s l h. kept s)) in
      let body = body_same image c.bytes k (left_same c image (8 * k + 1) 7 left (λ s l h. kept s)) in
      rw (gate, body) refl

  finds_kept : (lists : Settings) → found c.bytes ≡ Ok lists → Finds (λ l. l ≡ lists) c
  finds_kept lists e = λ image left. (lists, rw (slot_left image 0 left, slot_left image 1 left) e, refl)

  turn_of : (k : ℕ) (b : Written) → StaysOpen c k b → b.turn < 3
  turn_of k b h = turn_small (body c.bytes k) b h.body.spells

  steady_in : (k : ℕ) (b : Written) (lists : Settings) → k < 2 → b.lists ≡ lists → StaysOpen c k b
      → IsSteady (Some (record { slot = k; turn = b.turn; format = b.format })) lists c
  steady_in k b lists lt same h = (lt, turn_of k b h, rw same at h)

  both_open : (a b : Written) (lists : Settings) → StaysOpen c 0 a → StaysOpen c 1 b → (t : Bool) → (a.turn == next_turn b.turn) ≡ t
      → cond {A = Result Settings ℕ} t (Ok a.lists) (cond {A = Result Settings ℕ} (b.turn == next_turn a.turn) (Ok b.lists) (Err 1)) ≡ Ok lists
      → IsKept (later t a b).0 (later t a b).1 lists c
  both_open a b lists ha hb true e is =
      let la = turn_of 0 a ha in let lb = turn_of 1 b hb in
      record {
        steady = steady_in 0 a lists (omega arith) (cc) ha;
        spare = (b, record { body = hb.body; turn = (lb, λ f. omega (arith, la, lb, f, eqb-true a.turn (next_turn b.turn) e)) }, inr hb.gate);
      }
  both_open a b lists ha hb false e is = elim (chosen {X = Result Settings ℕ} (b.turn == next_turn a.turn) (Ok b.lists) (Err 1) (Ok lists) is) [
    | inl t ↦
        let la = turn_of 0 a ha in let lb = turn_of 1 b hb in
        record {
          steady = steady_in 1 b lists (omega arith) (cc) hb;
          spare = (a, record { body = ha.body; turn = (la, λ f. omega (arith, la, lb, f, eqb-true b.turn (next_turn a.turn) t.0)) }, inr ha.gate);
        }
    | inr t ↦ absurd cc
  ]

  kept_from : (o p : Option (Option Written)) (lists : Settings) → slot c.bytes 0 ≡ o → slot c.bytes 1 ≡ p → choice o p ≡ Ok lists
      → IsKept (placement o p).0 (placement o p).1 lists c
  kept_from None None lists e f is =
      let s0 = closed_from 0 e in let s1 = closed_from 1 f in let l : lists ≡ empty_settings = cc in
      record { steady = (l, s1); spare = (s0.gate, inl s0) }
  kept_from None (Some None) lists e f is = absurd cc
  kept_from None (Some (Some b)) lists e f is =
      let s0 = closed_from 0 e in
      record { steady = steady_in 1 b lists (omega arith) (cc) (open_from 1 b f); spare = (s0.gate, inl s0) }
  kept_from (Some None) p lists e f is = absurd cc
  kept_from (Some (Some a)) None lists e f is =
      let s1 = closed_from 1 f in
      record { steady = steady_in 0 a lists (omega arith) (cc) (open_from 0 a e); spare = (s1.gate, inl s1) }
  kept_from (Some (Some a)) (Some None) lists e f is = absurd cc
  kept_from (Some (Some a)) (Some (Some b)) lists e f is = both_open a b lists (open_from 0 a e) (open_from 1 b f) (a.turn == next_turn b.turn) refl is

-- what was read of slots is what was chosen of them
abbrev pub Chooses : Option (Option Written) → Option (Option Written) → Result Present ℕ → Type 0
Chooses o p r = MatchResult r (λ f. (choice o p ≡ Ok f.lists) × (placement o p ≡ (f.place, f.is_closed))) (λ k. choice o p ≡ Err k)

read_told : (r : Result Present ℕ) (o p : Option (Option Written)) (a b : Contents) → Settles a b → slot b.bytes 0 ≡ o → slot b.bytes 1 ≡ p → Chooses o p r
    → ReadsSlots r a b
read_told (Ok f) o p a b settles e g h =
    let kept = rw h.1 at (kept_from b (settles_kept a b settles) o p f.lists e g h.0) in
    (rw (← settles.bytes, e, g) h.0, settles, kept, rw (← settles.bytes, e, g) h.1)
read_told (Err k) o p a b settles e g h = (rw (← settles.bytes, e, g) h, settles)

at_once : (r : Result Present ℕ) (o p : Option (Option Written)) (a b : Option Contents) → BothTell Settles a b → IfSome b (λ x. slot x.bytes 0 ≡ o)
    → IfSome b (λ x. slot x.bytes 1 ≡ p) → Chooses o p r → BothTell (ReadsSlots r) a b
at_once r o p None None settles e f h = tt
at_once r o p None (Some y) settles e f h = settles
at_once r o p (Some x) None settles e f h = settles
at_once r o p (Some x) (Some y) settles e f h = read_told r o p x y settles e f h

pub slots_told : (r : Result Present ℕ) (o p : Option (Option Written)) (a b c d : Option Contents) → BothTell Settles a b → c ≡ b → d ≡ c
    → IfSome b (λ x. slot x.bytes 0 ≡ o) → IfSome c (λ x. slot x.bytes 1 ≡ p) → Chooses o p r
    → BothTell (ReadsSlots r) a d
slots_told r o p a b c d settles cb dc e f h = rw (dc, cb) (at_once r o p a b settles e (rw cb at f) h)

pub calm_told : (a b c : Option Contents) → BothTell Settles a b → c ≡ b → BothTell Calms a c
calm_told a b c settles e = rw e (both_map Settles Calms a b (λ x y s. settles_calm x y s) settles)

-- after a mounting every crash finds the lists that stand
pub always_found : (lists : Settings) (a b : Option Contents) → BothTell (λ x y. (found x.bytes ≡ Ok lists) × Settles x y) a b
    → IfSome b (Finds (λ l. l ≡ lists))
always_found lists a b told = told_last (λ x y. (found x.bytes ≡ Ok lists) × Settles x y) (Finds (λ l. l ≡ lists)) a b
    (λ x y (h : (found x.bytes ≡ Ok lists) × Settles x y). finds_kept y (settles_kept x y h.1) lists (ap found h.1.bytes ∙ h.0)) told

-- and it finds them in the format in which they stand
pub always_format : (place : Option Place) (is_closed : Bool) (lists : Settings) (a b : Option Contents)
    → IfSome a (λ x. placement (slot x.bytes 0) (slot x.bytes 1) ≡ (place, is_closed)) → BothTell (λ x y. (found x.bytes ≡ Ok lists) × Settles x y) a b
    → IfSome b (λ y. (image : List ℕ) → CanLeave y image → format_found image ≡ format_at place)
always_format place is_closed lists a b stands told =
    told_then _ _ _ a b (λ x y (p : placement (slot x.bytes 0) (slot x.bytes 1) ≡ (place, is_closed))
    (h : (found x.bytes ≡ Ok lists) × Settles x y). λ image left.
    let kept = settles_kept x y h.1 in
    (λ i. format_at (placement (slot_left y kept image 0 left i) (slot_left y kept image 1 left i)).0) ∙ ap format_found h.1.bytes
    ∙ ap (λ (q : Option Place × Bool). format_at q.0) p)
    stands told
