-- A history that explains a capture, with one entry more or one record more.
use Rattle.std.proofs.Common.{◌≡◌, ◌≤◌, ◌+◌, ◌-◌, ◌^◌, ◌++◌, ◌||◌, ℕ, zero, suc, min, List, [], ◌∷◌, true, false, cond, length, length-append, map, drop, refl, sym, ap, subst, ◌∙◌, arith, append_assoc, inl, inr}
use Rattle.std.proofs.lemmas.Bool.{cases_Bool}
use Rattle.std.proofs.lemmas.List.{length-map}
use Rattle.aoe_lists.specs.Settings.{Settings}
use Rattle.aoe_target.specs.History.{Met, is_cut}
use Rattle.aoe_target.specs.Law.{Fate, replied}
use Rattle.aoe_target.specs.Receive.{is_edit_fault, is_fault}
use Rattle.aoe_target.specs.declared.heard.Effect.{Effect}
use Rattle.aoe_target.specs.declared.heard.Effect.TheVariants as effect
use Rattle.aoe_target.specs.declared.station.Station.{Station}
use Rattle.aoe_target.specs.declared.verdict.Verdict.TheVariants.{Ignored, Silent, Refused, Lists, Ata}
use Rattle.aoe_target.specs.declared.verdict.Verdict.{Verdict as TargetVerdict}
use Rattle.aoe_audit.specs.Captured.{Packet, class_of, is_aoe, replies, requests, with_reply, with_request}
use Rattle.aoe_audit.specs.Judged.{Explains, InTurn, faults_in, frame_met, frame_of_packet, replies_in, reply_in, start}
use Rattle.aoe_audit.specs.Auditing.{Counts}
use Rattle.aoe_audit.specs.declared.class.Class.TheVariants as class
use Rattle.aoe_audit.specs.declared.refusal.Verdict.{Verdict}
use Rattle.aoe_audit.proofs.Fates.{quiet_fate}
use Rattle.aoe_audit.proofs.Histories.{AllowedBy}

-- replies behind their requests

first-more : (x y n : ℕ) (m : Met) (h : List Met) → x ≡ length h - n → y ≡ suc (length h) - n
    → length (replies_in (drop x h)) ≤ length (replies_in (drop y (m ∷ h)))
first-more x zero n m h ex ey =
    let nothing : x ≡ 0 = omega (arith, ex, ey) in
    rw nothing (omega (arith, length-append (reply_in m.fate) (replies_in h)))
first-more x (suc y) n m h ex ey =
    let same : x ≡ y = omega (arith, ex, ey) in
    rw same (omega arith)

module _ (station : Station) (c : List Packet) where
  turn-met : (m : Met) (h : List Met) → InTurn station c h → InTurn station c (m ∷ h)
  turn-met m h turn later before is =
      let n : ℕ = length (requests station before) in
      omega (arith, turn later before is, first-more (length h - n) (suc (length h) - n) n m h refl refl)

  turn-more : (p : Packet) (h : List Met) → InTurn station c h → length h ≤ length (requests station (p ∷ c))
      → length (replies station (p ∷ c)) ≤ length (replies_in h) → InTurn station (p ∷ c) h
  turn-more p h turn fits few later before is = by later is
    where
      by : (later : List Packet) → p ∷ c ≡ later ++ before
          → length (replies station before) ≤ length (replies_in (drop (length h - length (requests station before)) h))
      by [] is =
          let nothing : length h - length (requests station (p ∷ c)) ≡ 0 = omega (arith, fits) in
          subst (λ (l : List Packet). length (replies station l) ≤ length (replies_in (drop (length h - length (requests station l)) h))) is (rw nothing few)
      by (q ∷ l) is = turn l before (ap (λ l. drop 1 l) is)

module _ (station : Station) (lists : Settings) (c : List Packet) where
  sizes : (left : List Packet) (h : List Met) → Explains station lists c left h → length (requests station c) ≡ length left + length h
  sizes left h e =
      let front : length h ≡ length e.front = sym (length-map h frame_met) ∙ ap length e.frames ∙ length-map e.front frame_of_packet in
      omega (arith, ap length e.asked, length-append left e.front, front)

  -- one request, of which something became
  abbrev pub with_met : Packet → Fate → List Met → List Met
  with_met w fate h = (record { frame = w.frame; fate = fate }) ∷ h

  pub explains-met : (later : List Packet) (w : Packet) (h : List Met) (fate : Fate) → Explains station lists c (later ++ w ∷ []) h
      → AllowedBy station (start lists) h w.frame fate → is_cut fate ≡ false → reply_in fate ≡ [] → Explains station lists c later (with_met w fate h)
  explains-met later w h fate e allowed uncut quiet = record {
    front = w ∷ e.front;
    asked = e.asked ∙ append_assoc later (w ∷ []) e.front;
    frames = λ i. w.frame ∷ e.frames i;
    allowed = (allowed, e.allowed);
    uncut = (uncut, e.uncut);
    answered = (λ i. quiet i ++ replies_in h) ∙ e.answered;
    in_turn = turn-met station c (record { frame = w.frame; fate = fate }) h e.in_turn;
  }

  module _ (p : Packet) where
    pub explains-other : (left : List Packet) (h : List Met) → class_of station p ≡ class.Other → Explains station lists c left h
        → Explains station lists (p ∷ c) left h
    explains-other left h is e =
        let asks : requests station (p ∷ c) ≡ requests station c = ap (λ k. with_request k p (requests station c)) is in
        let tells : replies station (p ∷ c) ≡ replies station c = ap (λ k. with_reply k p (replies station c)) is in
        record {
          front = e.front;
          asked = asks ∙ e.asked;
          frames = e.frames;
          allowed = e.allowed;
          uncut = e.uncut;
          answered = e.answered ∙ ap (λ l. map frame_of_packet l) (sym tells);
          in_turn = turn-more station c p h e.in_turn (omega (arith, ap length asks, sizes left h e))
              (omega (arith, ap length tells, ap length e.answered, length-map (replies station c) frame_of_packet));
        }

    pub explains-request : (left : List Packet) (h : List Met) → class_of station p ≡ class.Request → Explains station lists c left h
        → Explains station lists (p ∷ c) (p ∷ left) h
    explains-request left h is e =
        let asks : requests station (p ∷ c) ≡ p ∷ requests station c = ap (λ k. with_request k p (requests station c)) is in
        let tells : replies station (p ∷ c) ≡ replies station c = ap (λ k. with_reply k p (replies station c)) is in
        record {
          front = e.front;
          asked = asks ∙ (λ i. p ∷ e.asked i);
          frames = e.frames;
          allowed = e.allowed;
          uncut = e.uncut;
          answered = e.answered ∙ ap (λ l. map frame_of_packet l) (sym tells);
          in_turn = turn-more station c p h e.in_turn (omega (arith, ap length asks, sizes left h e))
              (omega (arith, ap length tells, ap length e.answered, length-map (replies station c) frame_of_packet));
        }

    pub explains-reply : (later : List Packet) (w : Packet) (h : List Met) (e : Effect) → class_of station p ≡ class.Reply
        → Explains station lists c (later ++ w ∷ []) h → AllowedBy station (start lists) h w.frame (replied e p.frame)
        → Explains station lists (p ∷ c) later (with_met w (replied e p.frame) h)
    explains-reply later w h d is e allowed =
        let asks : requests station (p ∷ c) ≡ requests station c = ap (λ k. with_request k p (requests station c)) is in
        let tells : replies station (p ∷ c) ≡ p ∷ replies station c = ap (λ k. with_reply k p (replies station c)) is in
        let m : Met = record { frame = w.frame; fate = replied d p.frame } in
        record {
          front = w ∷ e.front;
          asked = asks ∙ e.asked ∙ append_assoc later (w ∷ []) e.front;
          frames = λ i. w.frame ∷ e.frames i;
          allowed = (allowed, e.allowed);
          uncut = (refl, e.uncut);
          answered = (λ i. p.frame ∷ e.answered i) ∙ ap (λ l. map frame_of_packet l) (sym tells);
          in_turn = turn-more station c p (m ∷ h) (turn-met station c m h e.in_turn)
              (omega (arith, ap length asks, sizes (later ++ w ∷ []) h e, length-append later (w ∷ [])))
              (omega (arith, ap length tells, ap length e.answered, length-map (replies station c) frame_of_packet));
        }

-- counts

one-more : (n t : ℕ) → t ≡ min n (2 ^ 32 - 1) → min (t + 1) (2 ^ 32 - 1) ≡ min (n + 1) (2 ^ 32 - 1)
one-more n t is = omega (arith, is)

faults-quiet : (v : TargetVerdict) (f : List ℕ) (h : List Met) → faults_in ((record { frame = f; fate = quiet_fate v }) ∷ h) ≡ faults_in h
faults-quiet Ignored f h = omega arith
faults-quiet Silent f h = omega arith
faults-quiet (Refused error) f h = omega arith
faults-quiet (Lists command) f h = omega arith
faults-quiet (Ata d) f h = omega arith

abbrev pub more_faults : Effect → ℕ → ℕ
more_faults e n = cond (is_fault e || is_edit_fault e) (min (n + 1) (2 ^ 32 - 1)) n

faults-replied : (e : Effect) (f reply : List ℕ) (h : List Met) (t : ℕ) → t ≡ min (faults_in h) (2 ^ 32 - 1)
    → more_faults e t ≡ min (faults_in ((record { frame = f; fate = replied e reply }) ∷ h)) (2 ^ 32 - 1)
faults-replied effect.None f reply h t is = omega (arith, is)
faults-replied (effect.Wrote s) f reply h t is = omega (arith, is)
faults-replied effect.Synced f reply h t is = omega (arith, is)
faults-replied effect.Edited f reply h t is = omega (arith, is)
faults-replied (effect.WriteFault s) f reply h t is = omega (arith, is)
faults-replied effect.ReadFault f reply h t is = omega (arith, is)
faults-replied effect.SyncFault f reply h t is = omega (arith, is)
faults-replied effect.EditFault f reply h t is = omega (arith, is)

module _ (station : Station) (c : List Packet) (h : List Met) (t : Verdict) (counts : Counts station c h t) where
  pub counts-quiet : (v : TargetVerdict) (f : List ℕ) → Counts station c ((record { frame = f; fate = quiet_fate v }) ∷ h) t
  counts-quiet v f = record {
    requests_are = counts.requests_are;
    replies_are = counts.replies_are;
    faults_are = counts.faults_are ∙ ap (λ n. min n (2 ^ 32 - 1)) (sym (faults-quiet v f h));
  }

  pub counts-other : (p : Packet) → class_of station p ≡ class.Other → Counts station (p ∷ c) h t
  counts-other p is = record {
    requests_are = counts.requests_are ∙ ap (λ k. min (length (with_request k p (requests station c))) (2 ^ 32 - 1)) (sym is);
    replies_are = counts.replies_are ∙ ap (λ k. min (length (with_reply k p (replies station c))) (2 ^ 32 - 1)) (sym is);
    faults_are = counts.faults_are;
  }

  pub counts-request : (p : Packet) (u : Verdict) → class_of station p ≡ class.Request → u.requests ≡ min (t.requests + 1) (2 ^ 32 - 1) → u.replies ≡ t.replies
      → u.faults ≡ t.faults → Counts station (p ∷ c) h u
  counts-request p u is asks tells fails =
      let all : length (requests station (p ∷ c)) ≡ suc (length (requests station c)) = ap (λ k. length (with_request k p (requests station c))) is in
      record {
        requests_are = omega (arith, asks, counts.requests_are, all);
        replies_are = tells ∙ counts.replies_are ∙ ap (λ k. min (length (with_reply k p (replies station c))) (2 ^ 32 - 1)) (sym is);
        faults_are = fails ∙ counts.faults_are;
      }

  pub counts-reply : (p : Packet) (u : Verdict) (f : List ℕ) (e : Effect) → class_of station p ≡ class.Reply → u.requests ≡ t.requests
      → u.replies ≡ min (t.replies + 1) (2 ^ 32 - 1) → u.faults ≡ more_faults e t.faults
      → Counts station (p ∷ c) ((record { frame = f; fate = replied e p.frame }) ∷ h) u
  counts-reply p u f e is asks tells fails =
      let all : length (replies station (p ∷ c)) ≡ suc (length (replies station c)) = ap (λ k. length (with_reply k p (replies station c))) is in
      record {
        requests_are = asks ∙ counts.requests_are ∙ ap (λ k. min (length (with_request k p (requests station c))) (2 ^ 32 - 1)) (sym is);
        replies_are = omega (arith, tells, counts.replies_are, all);
        faults_are = fails ∙ faults-replied e f p.frame h t.faults counts.faults_are;
      }

-- a request is whole
pub whole-request : (station : Station) (p : Packet) → class_of station p ≡ class.Request → p.whole ≡ true
whole-request station p is = elim (cases_Bool p.whole) [
  | inl whole ↦ whole
  | inr short ↦ absurd (elim (cases_Bool (is_aoe p.frame)) [
    | inl aoe ↦ (let e : class.Short ≡ class.Request = rw (short, aoe) at is in cc)
    | inr none-of ↦ (let e : class.Other ≡ class.Request = rw (short, none-of) at is in cc)
  ])
]
