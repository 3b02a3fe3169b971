-- How long a request has waited, by its turns and as the loop counts it.
use Rattle.std.proofs.Common.{ℕ, suc, ◌≡◌, ◌<◌, ◌≤◌, ◌+◌, ◌*◌, ◌/◌, ◌%◌, Bool, true, false, ◌&&◌, ◌||◌, List, [], ◌∷◌, ◌++◌, append_assoc, length, Option, nat_lt, refl, ap, ◌∙◌, arith, inl, inr}
use Rattle.std.proofs.lemmas.Bool.{cases_lt, eq-eqb, le-ltb, lt-ltb}
use Rattle.std.specs.Prelude.{nat_eq}
use Rattle.aoe_io.proofs.LinkLemmas.{Added-then}
use Rattle.aoe_io.specs.Link.{Added, Turn, came, quiet, ended}
use Rattle.aoe_tools.specs.Asking.{responses}
use Rattle.aoe_tools.specs.Listening.{LastsFrom, after_frame, after_turn, after_turns, asked_from, begun, left, longer}
use Rattle.aoe_tools.specs.One.{GoesOn}
use Rattle.aoe_tools.specs.Waiting.{Lasts, TookFront, asked, frames_in, is_due, silences_in, waited}
use Rattle.aoe_tools.specs.declared.question.Question.{Question}
use Rattle.aoe_tools.specs.declared.wait.Wait.{Wait}

-- the wait after these turns
abbrev pub wait_of : List Turn → Wait
wait_of turns = record { turns = waited turns; frames = frames_in turns % 64; is_due = is_due turns }

longer-is : (w n f : ℕ) → n ≡ w + 1 → longer (w + 1) f ≡ record { turns = n; frames = f; is_due = nat_lt w n && nat_eq (n % 10) 0 }
longer-is w n f e = rw (e, lt-ltb w (w + 1) (omega arith))

frame-is : (s f : ℕ) (due : Bool) → after_frame (record { turns = s + f / 64; frames = f % 64; is_due = due })
    ≡ record { turns = s + suc f / 64; frames = suc f % 64; is_due = nat_lt (s + f / 64) (s + suc f / 64) && nat_eq ((s + suc f / 64) % 10) 0 }
frame-is s f due = elim (cases_lt (f % 64) 63) [
  | inl below ↦
      let part : suc f / 64 ≡ f / 64 = omega arith in
      let rest : suc f % 64 ≡ f % 64 + 1 = omega arith in
      rw (part, rest, lt-ltb (f % 64) 63 below, le-ltb (s + f / 64) (s + f / 64) (omega arith))
  | inr full ↦
      let part : s + suc f / 64 ≡ s + f / 64 + 1 = omega arith in
      let rest : suc f % 64 ≡ 0 = omega arith in
      rw (rest, le-ltb (f % 64) 63 full) (longer-is (s + f / 64) (s + suc f / 64) 0 part)
]

turn-is : (t : Turn) (turns : List Turn) → after_turn (wait_of turns) t ≡ wait_of (t ∷ turns)
turn-is (came frame) turns = frame-is (silences_in turns) (frames_in turns) (is_due turns)
turn-is quiet turns = longer-is (waited turns) (waited (quiet ∷ turns)) (frames_in turns % 64) (omega arith)
turn-is ended turns = longer-is (waited turns) (waited (ended ∷ turns)) (frames_in turns % 64) (omega arith)

pub wait-on : (later turns : List Turn) → after_turns (wait_of turns) later ≡ wait_of (later ++ turns)
wait-on [] turns = refl
wait-on (t ∷ later) turns = ap (λ w. after_turn w t) (wait-on later turns) ∙ turn-is t (later ++ turns)

pub asked-on : (request : List ℕ) (later turns : List Turn) → asked request (later ++ turns) ≡ asked_from request (wait_of turns) later ++ asked request turns
asked-on request [] turns = refl
asked-on request (t ∷ later) turns = rw (wait-on later turns, asked-on request later turns, append_assoc)

-- ---- from the first turn on

after-begun : (turns : List Turn) → after_turns begun turns ≡ wait_of turns
after-begun [] = refl
after-begun (t ∷ turns) = ap (λ w. after_turn w t) (after-begun turns) ∙ turn-is t turns

pub asked-begun : (request : List ℕ) (turns : List Turn) → asked_from request begun turns ≡ asked request turns
asked-begun request [] = refl
asked-begun request (t ∷ turns) = rw (after-begun turns, asked-begun request turns)

pub begun-is : {now : Wait} (turns : List Turn) → now ≡ after_turns begun turns → now ≡ wait_of turns
begun-is turns passed = passed ∙ after-begun turns

pub lasts-begun : (limit : ℕ) (turns : List Turn) → LastsFrom limit begun turns → Lasts limit turns
lasts-begun limit [] lasts = tt
lasts-begun limit (t ∷ turns) lasts = rw (after-begun turns) at lasts

-- ---- and on

pub lasts-on : {now : Wait} (limit : ℕ) (later turns : List Turn) → now ≡ wait_of turns → Lasts limit turns → LastsFrom limit now later
    → Lasts limit (later ++ turns)
lasts-on limit [] turns is lasts more = lasts
lasts-on limit (t ∷ later) turns is lasts more = rw (is, wait-on later turns) at more

-- a front of what follows, behind what was taken
pub front-then : (a b c : Option (List (List ℕ))) (earlier next sent : List (List ℕ)) → Added a b earlier → TookFront next sent b c
    → TookFront next (sent ++ earlier) a c
front-then a b c earlier next sent whole (inl took) = inl (Added-then a b c earlier sent whole took)
front-then a b c earlier next sent whole (inr took) = inr (rw (← (append_assoc next sent earlier)) (Added-then a b c earlier (next ++ sent) whole took))

-- ---- how long it lasts

waited-more : (t : Turn) (turns : List Turn) → (waited turns ≤ waited (t ∷ turns)) × (waited (t ∷ turns) ≤ waited turns + 1)
waited-more (came frame) turns = (omega arith, omega arith)
waited-more quiet turns = (omega arith, omega arith)
waited-more ended turns = (omega arith, omega arith)

pub lasts-before : (limit : ℕ) (turns : List Turn) → waited turns < limit → Lasts limit turns
lasts-before limit [] below = tt
lasts-before limit (t ∷ turns) below = omega (arith, below, (waited-more t turns).0)

pub lasts-within : (limit : ℕ) (turns : List Turn) → Lasts limit turns → waited turns ≤ limit
lasts-within limit [] lasts = omega arith
lasts-within limit (t ∷ turns) lasts = omega (arith, lasts, (waited-more t turns).1)

count-is : (turns : List Turn) → length turns ≡ silences_in turns + frames_in turns
count-is [] = refl
count-is (came frame ∷ turns) = omega (arith, count-is turns)
count-is (quiet ∷ turns) = omega (arith, count-is turns)
count-is (ended ∷ turns) = omega (arith, count-is turns)

pub lasts-few : (limit : ℕ) (turns : List Turn) → Lasts limit turns → length turns ≤ 64 * limit
lasts-few limit [] lasts = omega arith
lasts-few limit (t ∷ turns) lasts = omega (arith, lasts, count-is turns)

goes-on-lasts : (q : Question) (limit : ℕ) (turns : List Turn) → GoesOn q limit turns → Lasts limit turns
goes-on-lasts q limit [] goes = tt
goes-on-lasts q limit (t ∷ turns) goes = elim (cases_lt (waited turns) limit) [
  | inl below ↦ below
  | inr over ↦
      let all : waited turns ≡ limit = omega (arith, over, lasts-within limit turns (goes-on-lasts q limit turns goes.1)) in
      absurd (ends (nat_lt 0 (length (responses q turns))) (rw (eq-eqb (waited turns) limit all) at goes.0))
]
  where
    ends : (answered : Bool) → (answered || true) ≡ false → ⊥
    ends true e = cc
    ends false e = cc

pub goes-on-few : (q : Question) (limit : ℕ) (turns : List Turn) → GoesOn q limit turns → length turns ≤ 64 * limit
goes-on-few q limit turns goes = lasts-few limit turns (goes-on-lasts q limit turns goes)

-- a turn more leaves fewer
pub left-less : (limit : ℕ) (w : Wait) (t : Turn) → w.turns < limit → left limit (after_turn w t) < left limit w
left-less limit w (came frame) below = elim (cases_lt w.frames 63) [
  | inl few ↦ rw (lt-ltb w.frames 63 few) (omega (arith, few))
  | inr full ↦ rw (le-ltb w.frames 63 full) (omega (arith, full, below))
]
left-less limit w quiet below = omega (arith, below)
left-less limit w ended below = omega (arith, below)

pub within-still : (limit : ℕ) (w : Wait) (t : Turn) → w.turns < limit → (after_turn w t).turns ≤ limit
within-still limit w (came frame) below = elim (cases_lt w.frames 63) [
  | inl few ↦ rw (lt-ltb w.frames 63 few) (omega (arith, below))
  | inr full ↦ rw (le-ltb w.frames 63 full) (omega (arith, below))
]
within-still limit w quiet below = omega (arith, below)
within-still limit w ended below = omega (arith, below)
