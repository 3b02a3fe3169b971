-- No command was sent after the latest time that was told.
use Rattle.std.proofs.Common.{ℕ, ◌≡◌, ◌≤◌, cond, not, Bool, true, false, List, ◌∷◌, map, arith}
use Rattle.std.specs.Prelude.{All}
use Rattle.std.specs.List.Sorted.{IsPermutation}
use Rattle.std.proofs.lemmas.List.Elements.{All-cons, All-filter, All-map, All-weaker}
use Rattle.std.proofs.lemmas.List.Sorted.{All-permutation}
use Rattle.aoe_base.specs.declared.counted.Millis.{Millis}
use Rattle.aoe_base.specs.declared.counted.PathNo.{PathNo}
use Rattle.aoe_flight.specs.declared.outstanding.Outstanding.{Outstanding}
use Rattle.aoe_flight.specs.Outstanding.{after_finish, after_repeat, change_of, flies_as, is_over, live}

abbrev pub sent_by : ℕ → Outstanding → Type 0
sent_by now c = c.flying.last.0 ≤ now

pub past-later : (latest now : ℕ) (commands : List Outstanding) → latest ≤ now → All (sent_by latest) commands → All (sent_by now) commands
past-later latest now commands later past = All-weaker (sent_by latest) (sent_by now) (λ c le. omega (arith, later, le)) commands past

pub past-live : (latest rest now : ℕ) (commands after : List Outstanding) → after ≡ live rest now commands → latest ≤ now
    → All (sent_by latest) commands → All (sent_by now) after
past-live latest rest now commands after is later past =
    rw is (All-filter (λ (c : Outstanding). not (is_over rest now c)) (sent_by now) commands (past-later latest now commands later past))

pub past-launched : (now : ℕ) (c : Outstanding) (commands after : List Outstanding) → c.flying.last.0 ≤ now → IsPermutation (c ∷ commands) after
    → All (sent_by now) commands → All (sent_by now) after
past-launched now c commands after here is past = All-permutation (sent_by now) (c ∷ commands) after is (All-cons (sent_by now) c commands here past)

changed : (latest now ticket : ℕ) (change : Outstanding → Outstanding) (c : Outstanding) (b : Bool) → latest ≤ now → (change c).flying.last.0 ≤ now
    → sent_by latest c → sent_by now (cond b (change c) c)
changed latest now ticket change c true later new le = new
changed latest now ticket change c false later new le = omega (arith, later, le)

pub past-finished : (latest ticket : ℕ) (commands after : List Outstanding) → after ≡ map (change_of ticket after_finish) commands
    → All (sent_by latest) commands → All (sent_by latest) after
past-finished latest ticket commands after is past =
    rw is (All-map (sent_by latest) (change_of ticket after_finish) commands
    (All-weaker (sent_by latest) (λ c. sent_by latest (change_of ticket after_finish c))
    (λ c le. changed latest latest ticket after_finish c (flies_as ticket c) (omega arith) le le) commands past))

pub past-repeated : (latest ticket : ℕ) (now : Millis) (path : PathNo) (wait : Millis) (commands after : List Outstanding) → latest ≤ now.0
    → after ≡ map (change_of ticket (after_repeat now path wait)) commands
    → All (sent_by latest) commands → All (sent_by now.0) after
past-repeated latest ticket now path wait commands after later is past =
    rw is (All-map (sent_by now.0) (change_of ticket (after_repeat now path wait)) commands
    (All-weaker (sent_by latest) (λ c. sent_by now.0 (change_of ticket (after_repeat now path wait) c))
    (λ c le. changed latest now.0 ticket (after_repeat now path wait) c (flies_as ticket c) later (omega arith) le) commands past))
