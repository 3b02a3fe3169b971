-- A history explains the capture of a run over one slot.
use Rattle.std.proofs.Common.{◌≡◌, ◌≤◌, ◌<◌, ◌+◌, ℕ, suc, List, [], ◌∷◌, ◌++◌, length, length-append, map, reverse, true, false, true≢false, refl, sym, ap, subst, ◌∙◌, arith}
use Rattle.std.specs.Prelude.{All, if◌then◌else◌, nat_lt}
use Rattle.std.proofs.lemmas.List.{get_or_append_left, get_or_at, map-append, reverse-append}
use Rattle.std.proofs.lemmas.List.Elements.{All-append, All-cons, All-nil}
use Rattle.aoe_base.specs.Addresses.{holds, source_of}
use Rattle.aoe_lists.specs.Settings.{Settings}
use Rattle.aoe_io.specs.Stream.{IsFrame}
use Rattle.aoe_pcap.specs.Capture.{Packet, frame_of, kind, packet_of}
use Rattle.aoe_pcap.specs.declared.reader.Record.TheVariants as record_is
use Rattle.aoe_target.specs.Device.{State}
use Rattle.aoe_target.specs.History.{AllAllowed, Met, is_cut, left_by}
use Rattle.aoe_target.specs.Law.{Allows, Fate, after, cut, ignored, replied, silent}
use Rattle.aoe_target.specs.Verdict.{verdict}
use Rattle.aoe_target.specs.declared.heard.Effect.{Effect}
use Rattle.aoe_target.specs.declared.station.Station.{Station}
use Rattle.aoe_target.specs.declared.verdict.Verdict.{Verdict}
use Rattle.aoe_target.specs.declared.verdict.Verdict.TheVariants.{Ignored}
use Rattle.aoe_audit.specs.Captured.{AreWhole, class_of, class_of_whole, is_own}
use Rattle.aoe_audit.specs.Captured as audit
use Rattle.aoe_audit.specs.Judged.{Explains, reply_in, start}
use Rattle.aoe_audit.specs.declared.class.Class.{Class}
use Rattle.aoe_audit.specs.declared.class.Class.TheVariants as class
use Rattle.aoe_audit.proofs.Growing.{explains-met, explains-other, explains-reply, explains-request}
use Rattle.aoe_audit.proofs.Histories.{AllowedBy}
use Rattle.aoe_pcap_audit.specs.Capturing.{AreOthers, IsOnWire}
use Rattle.aoe_pcap_audit.specs.Records.{fed, heard, is_whole}
use Rattle.aoe_pcap_audit.proofs.ReplyFields.{others-ignored, reply-class}
use Rattle.aoe_serve.specs.Arrivals.{AreRounds, Arrived, at_slot, fate_at, frames, replies_of}
use Rattle.aoe_serve.specs.Slots.{IsFrameLong}
use Rattle.aoe_serve.specs.Written.{exchanges}

-- A frame whose record has all of its bytes.

abbrev pub plainly : ℕ → List ℕ → audit.Packet
plainly number f = record { number = number; frame = f; whole = true }

below-self : (n : ℕ) → nat_lt n n ≡ false
below-self n = grind arith

no-longer : (n : ℕ) → n ≤ 9018 → nat_lt 9018 n ≡ false
no-longer n few = grind arith

kind-whole : (n : ℕ) → n ≤ 9018 → kind n n ≡ record_is.Whole
kind-whole n few = rw (no-longer n few, below-self n) refl

fed-plainly : (number : ℕ) (f : List ℕ) → length f ≤ 9018 → fed number (packet_of f) ≡ plainly number f
fed-plainly number f few =
    let same : frame_of f ≡ f = ap (λ b. if b then [] else f) (no-longer (length f) few) in
    let all : is_whole (kind (length f) (length f)) ≡ true = ap is_whole (kind-whole (length f) few) in
    λ i. record { number = number; frame = same i; whole = all i }

never-short : (station : Station) (f : List ℕ) → class_of_whole station f ≡ class.Short → ⊥
never-short station f is = grind arith

own-source : (station : Station) (f : List ℕ) → class_of_whole station f ≡ class.Reply → holds station.ports.items (source_of f) ≡ true
own-source station f is = grind arith

-- the records of a frame and the reply to it, behind others
abbrev pub came : ℕ → List ℕ → Fate → List audit.Packet → List audit.Packet
came n f ignored c = plainly (n + 1) f ∷ c
came n f silent c = plainly (n + 1) f ∷ c
came n f cut c = plainly (n + 1) f ∷ c
came n f (replied e r) c = plainly (suc n + 1) r ∷ plainly (n + 1) f ∷ c

nothing-behind : (later before : List audit.Packet) → [] ≡ later ++ before → before ≡ []
nothing-behind [] before is = sym is
nothing-behind (p ∷ later) before is = absurd (cc)

module _ (station : Station) (lists : Settings) where
  -- records that a history explains, which leaves this state
  pub record Explained (c : List audit.Packet) (k : State) : Type 0 where
    pub history : List Met
    pub explains : Explains station lists c [] history
    pub state : left_by station (start lists) history ≡ k
    pub whole : AreWhole station c

  pub explained-nothing : Explained [] (start lists)
  explained-nothing = record {
    history = [];
    explains = record {
      front = [];
      asked = refl;
      frames = refl;
      allowed = tt;
      uncut = tt;
      answered = refl;
      in_turn = λ later before is.
          let few : length (audit.replies station before) ≡ 0 = ap (λ (l : List audit.Packet). length (audit.replies station l))
          (nothing-behind later before is) in
          omega (arith, few);
    };
    state = refl;
    whole = tt;
  }

  module _ (on : IsOnWire station) (f : List ℕ) (n : ℕ) (c : List audit.Packet) (k : State) (x : Explained c k) where
    abbrev p : audit.Packet
    p = plainly (n + 1) f

    abbrev left : Fate → State
    left fate = after station f (verdict station k.lists f) fate k

    module _ (is : class_of_whole station f ≡ class.Request) where
      asked : Explains station lists (p ∷ c) (p ∷ []) x.history
      asked = explains-request station lists c p [] x.history is x.explains

      whole : AreWhole station (p ∷ c)
      whole = (λ short. never-short station f short, x.whole)

      state-then : (fate : Fate) → left_by station (start lists) (record { frame = f; fate = fate } ∷ x.history) ≡ left fate
      state-then fate = ap (λ (s : State). after station f (verdict station s.lists f) fate s) x.state

      allowed-then : (fate : Fate) → Allows station k f (verdict station k.lists f) fate → AllowedBy station (start lists) x.history f fate
      allowed-then fate allowed = subst (λ (s : State). Allows station s f (verdict station s.lists f) fate) (sym x.state) allowed

      request-quiet : (fate : Fate) → Allows station k f (verdict station k.lists f) fate → is_cut fate ≡ false → reply_in fate ≡ []
          → Explained (p ∷ c) (left fate)
      request-quiet fate allowed uncut quiet = record {
        history = record { frame = f; fate = fate } ∷ x.history;
        explains = explains-met station lists (p ∷ c) [] p x.history fate asked (allowed-then fate allowed) uncut quiet;
        state = state-then fate;
        whole = whole;
      }

      request-replied : (e : Effect) (r : List ℕ) → Allows station k f (verdict station k.lists f) (replied e r)
          → Explained (plainly (suc n + 1) r ∷ p ∷ c) (left (replied e r))
      request-replied e r allowed =
          let q : audit.Packet = plainly (suc n + 1) r in
          let own : class_of_whole station r ≡ class.Reply = reply-class station f on e r (verdict station k.lists f) k is allowed in
          record {
            history = record { frame = f; fate = replied e r } ∷ x.history;
            explains = explains-reply station lists (p ∷ c) q [] p x.history e own asked (allowed-then (replied e r) allowed);
            state = state-then (replied e r);
            whole = (λ short. never-short station r short, whole);
          }

    other-quiet : (fate : Fate) → class_of_whole station f ≡ class.Other → Allows station k f (verdict station k.lists f) fate
        → Explained (came n f fate c) (left fate)
    other-quiet fate is allowed =
        let none-for : verdict station k.lists f ≡ Ignored =
        others-ignored station f k.lists (λ request. (let e : class.Other ≡ class.Request = sym is ∙ request in cc)) in
        let quiet : fate ≡ ignored = subst (λ (v : Verdict). Allows station k f v fate) none-for allowed in
        let stays : left ignored ≡ k = ap (λ (v : Verdict). after station f v ignored k) none-for in
        subst (λ (d : Fate). Explained (came n f d c) (left d)) (sym quiet)
        (record {
          history = x.history;
          explains = explains-other station lists c p [] x.history is x.explains;
          state = x.state ∙ sym stays;
          whole = (λ short. never-short station f short, x.whole);
        })

    by-request : (fate : Fate) → class_of_whole station f ≡ class.Request → Allows station k f (verdict station k.lists f) fate → is_cut fate ≡ false
        → Explained (came n f fate c) (left fate)
    by-request ignored is allowed uncut = request-quiet is ignored allowed uncut refl
    by-request silent is allowed uncut = request-quiet is silent allowed uncut refl
    by-request cut is allowed uncut = absurd (true≢false uncut)
    by-request (replied e r) is allowed uncut = request-replied is e r allowed

    pub explained-then : (fate : Fate) → Allows station k f (verdict station k.lists f) fate → is_cut fate ≡ false
        → holds station.ports.items (source_of f) ≡ false → Explained (came n f fate c) (left fate)
    explained-then fate allowed uncut other = by (class_of_whole station f) refl
      where
        by : (a : Class) → class_of_whole station f ≡ a → Explained (came n f fate c) (left fate)
        by class.Other is = other-quiet fate is allowed
        by class.Short is = absurd (never-short station f is)
        by class.Request is = by-request fate is allowed uncut
        by class.Reply is = absurd (true≢false (sym (own-source station f is) ∙ other))

-- What a run over one slot wrote, the latest first.
abbrev pub kept : List Arrived → List Packet
kept [] = []
kept (a ∷ h) = reverse (map packet_of (a.frame ∷ replies_of a.fates)) ++ kept h

pub kept-is : (h : List Arrived) → kept h ≡ reverse (map packet_of (exchanges h))
kept-is [] = refl
kept-is (a ∷ h) =
    let e : List (List ℕ) = a.frame ∷ replies_of a.fates in
    ap (λ (l : List Packet). reverse (map packet_of e) ++ l) (kept-is h) ∙ sym (reverse-append (map packet_of (exchanges h)) (map packet_of e))
    ∙ ap (λ (l : List Packet). reverse l) (sym (map-append packet_of (exchanges h) e))

heard-came : (f : List ℕ) (fate : Fate) (ps : List Packet) → length f ≤ 9018 → IsFrameLong fate
    → heard (reverse (map packet_of (f ∷ replies_of (fate ∷ []))) ++ ps) ≡ came (length ps) f fate (heard ps)
heard-came f ignored ps few fits = λ i. fed-plainly (length ps + 1) f few i ∷ heard ps
heard-came f silent ps few fits = λ i. fed-plainly (length ps + 1) f few i ∷ heard ps
heard-came f cut ps few fits = λ i. fed-plainly (length ps + 1) f few i ∷ heard ps
heard-came f (replied e r) ps few fits = λ i. fed-plainly (suc (length ps) + 1) r fits i ∷ fed-plainly (length ps + 1) f few i ∷ heard ps

one-fate : (fates : List Fate) → length fates ≡ 1 → fates ≡ fate_at 0 fates ∷ []
one-fate [] one = absurd (omega (arith, one))
one-fate (x ∷ []) one = refl
one-fate (x ∷ y ∷ fates) one = absurd (omega (arith, one))

all-front : {X : Type 0} (P : X → Type 0) (xs ys : List X) → All P (xs ++ ys) → All P xs
all-front P xs ys all k d below = subst P (get_or_append_left xs ys d k below) (all k d (omega (arith, below, length-append xs ys)))

all-last : {X : Type 0} (P : X → Type 0) (xs : List X) (y : X) → All P (xs ++ y ∷ []) → P y
all-last P xs y all = subst P (get_or_at xs y [] y (length xs) refl) (all (length xs) y (omega (arith, length-append xs (y ∷ []))))

abbrev IsShort : List ℕ → Type 0
IsShort f = length f ≤ 9018

reply-short : (fate : Fate) → IsFrameLong fate → All IsShort (replies_of (fate ∷ []))
reply-short ignored fits = All-nil IsShort
reply-short silent fits = All-nil IsShort
reply-short cut fits = All-nil IsShort
reply-short (replied e r) fits = All-cons IsShort r [] fits (All-nil IsShort)

pub exchanges-short : (h : List Arrived) → All IsFrame (frames h) → AreRounds 1 h → All IsShort (exchanges h)
exchanges-short [] whole rounds = All-nil IsShort
exchanges-short (a ∷ h) whole rounds =
    let few : IsShort a.frame = (all-last IsFrame (frames h) a.frame whole).short in
    let fits : IsFrameLong (fate_at 0 a.fates) = rounds.0.2 0 ignored (omega (arith, rounds.0.0)) in
    let replies : All IsShort (replies_of a.fates) =
    subst (λ (l : List Fate). All IsShort (replies_of l)) (sym (one-fate a.fates rounds.0.0)) (reply-short (fate_at 0 a.fates) fits) in
    All-append IsShort (exchanges h) (a.frame ∷ replies_of a.fates) (exchanges-short h (all-front IsFrame (frames h) (a.frame ∷ []) whole) rounds.1)
    (All-cons IsShort a.frame (replies_of a.fates) few replies)

module _ (station : Station) (lists : Settings) (on : IsOnWire station) where
  abbrev IsOther : List ℕ → Type 0
  IsOther f = holds station.ports.items (source_of f) ≡ false

  pub explained-run : (h : List Arrived) → AreRounds 1 h → All IsFrame (frames h) → AreOthers station (frames h)
      → AllAllowed station (start lists) (at_slot 0 h) → Explained station lists (heard (kept h)) (left_by station (start lists) (at_slot 0 h))
  explained-run [] rounds whole others all = explained-nothing station lists
  explained-run (a ∷ h) rounds whole others all =
      let fate : Fate = fate_at 0 a.fates in
      let some-there : 0 < length a.fates = omega (arith, rounds.0.0) in
      let few : IsShort a.frame = (all-last IsFrame (frames h) a.frame whole).short in
      let x = explained-run h rounds.1 (all-front IsFrame (frames h) (a.frame ∷ []) whole) (all-front IsOther (frames h) (a.frame ∷ []) others) all.1 in
      let step = explained-then station lists on a.frame (length (kept h)) (heard (kept h)) (left_by station (start lists) (at_slot 0 h)) x fate all.0
      (rounds.0.1 0 ignored some-there) (all-last IsOther (frames h) a.frame others) in
      let same : heard (kept (a ∷ h)) ≡ came (length (kept h)) a.frame fate (heard (kept h)) =
      ap (λ (l : List Fate). heard (reverse (map packet_of (a.frame ∷ replies_of l)) ++ kept h)) (one-fate a.fates rounds.0.0)
      ∙ heard-came a.frame fate (kept h) few (rounds.0.2 0 ignored some-there) in
      subst (λ (c : List audit.Packet). Explained station lists c (left_by station (start lists) (at_slot 0 (a ∷ h)))) (sym same) step
