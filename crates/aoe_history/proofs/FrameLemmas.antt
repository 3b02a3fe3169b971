-- The frames of a history that can still be handed over.
use Rattle.std.proofs.Common.{if◌then◌else◌, ◌==◌, ℕ, suc, ◌+◌, ◌-◌, ◌≤◌, ◌≡◌, List, [], ◌∷◌, length, true, false, Option, Some, refl, ap, ◌∙◌, arith}
use Rattle.std.proofs.lemmas.Bool.{leb-true}
use Rattle.std.proofs.lemmas.Bool.Decides.{nat_tests}
use Rattle.std.proofs.lemmas.Option.{cond_some}
use Rattle.std.specs.Option.{option_map_or}
use Rattle.aoe_base.specs.declared.counted.Lifetimes.{Lifetimes}
use Rattle.aoe_frame.specs.Header.{is_response}
use Rattle.aoe_net.specs.Network.{fresh_bytes, lifetime, numbered, SentFrame}
use Rattle.aoe_history.specs.declared.entry.Entry.{Entry}
use Rattle.aoe_history.proofs.LogicLemmas.{some-then}
use Rattle.aoe_history.specs.Frames.{arriving, bytes_of, clock, frames, network}

-- when the frame with a number was sent
abbrev pub birth_of : List Entry → ℕ → ℕ
birth_of h k = option_map_or (λ (f : SentFrame). f.birth) (numbered (frames h) k) 0

-- a frame that can be handed over is there, with its bytes, and its age is within its lifetime
pub record IsArriving (life : Lifetimes) (h : List Entry) (k : ℕ) (f : List ℕ) : Type 0 where
  pub birth : ℕ
  pub is : numbered (frames h) k ≡ Some (record { bytes = f; birth = birth })
  pub young : clock h ≤ birth + lifetime life f
  pub bytes : bytes_of h k ≡ f
  pub there : k ≤ length (frames h)
  pub fresh : clock h ≤ birth_of h k + lifetime life f

-- the lifetime of a frame of either kind
pub request-life : (life : Lifetimes) (f : List ℕ) → is_response f ≡ false → lifetime life f ≡ life.requests.0
request-life life f e = rw e refl

pub response-life : (life : Lifetimes) (f : List ℕ) → is_response f ≡ true → lifetime life f ≡ life.responses.0
response-life life f e = rw e refl

pub number-within : (fs : List SentFrame) (k : ℕ) (f : SentFrame) → numbered fs k ≡ Some f → k ≤ length fs
number-within [] k f e = absurd (cc)
number-within (g ∷ fs) k f e = step (length fs) (numbered fs k) e (number-within fs k f)
  where
    step : (n : ℕ) (o : Option SentFrame) → (if k == suc n then Some g else o) ≡ Some f → (o ≡ Some f → k ≤ n) → k ≤ suc n
    step n o e more = grind (arith, nat_tests)

frame-is : (g : SentFrame) (f : List ℕ) → g.bytes ≡ f → g ≡ record { bytes = f; birth = g.birth }
frame-is g f e = rw (← e) refl

pub arrives : (life : Lifetimes) (h : List Entry) (k : ℕ) (f : List ℕ) → arriving life h k ≡ Some f → IsArriving life h k f
arrives life h k f e =
    let x = some-then (fresh_bytes (network life h) (clock h)) (numbered (frames h) k) f e in
    let a = cond_some _ _ _ x.2 in
    let age = rw a.1 at (leb-true (clock h - x.0.birth) (lifetime life x.0.bytes) a.0) in
    record {
      birth = x.0.birth;
      is = x.1 ∙ ap Some (frame-is x.0 f a.1);
      young = omega arith;
      bytes = rw x.1 a.1;
      there = number-within (frames h) k x.0 x.1;
      fresh = rw x.1 (omega arith);
    }

-- a frame has its number after one frame more
pub numbered-later : (g : SentFrame) (fs : List SentFrame) (k : ℕ) (f : SentFrame) → numbered fs k ≡ Some f → numbered (g ∷ fs) k ≡ Some f
numbered-later g fs k f is = let le = number-within fs k f is in grind (arith, nat_tests)

-- a frame that can be handed over has its bytes
pub bytes-arriving : (life : Lifetimes) (h : List Entry) (k : ℕ) (f : List ℕ) → arriving life h k ≡ Some f → bytes_of h k ≡ f
bytes-arriving life h k f e = (arrives life h k f e).bytes
