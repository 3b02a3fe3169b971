-- Rounds make runs.
use Rattle.std.proofs.Common.{◌≡◌, ◌≤◌, ◌<◌, ◌+◌, ◌*◌, ◌-◌, ◌^◌, ◌&&◌, not, min, ℕ, suc, List, [], ◌∷◌, ◌++◌, length, length-append, Option, Some, None, Bool, true, false, refl, sym, ap, subst, ◌∙◌, append-nil, append_assoc, arith, inl, inr}
use Rattle.std.proofs.lemmas.Bool.{cases_lt}
use Rattle.std.proofs.lemmas.List.{get_or_append_left, get_or_at}
use Rattle.std.proofs.lemmas.Option.{same_Some, slice_get_within}
use Rattle.std.specs.Prelude.{All, if◌then◌else◌, OnErr, OnOk}
use Rattle.std.specs.Option.{option_map}
use Rattle.aoe_disk.specs.State.{Contents, BothTell, is_loose}
use Rattle.aoe_io.proofs.BytesLemmas.{Gave-then, Gave-nothing, Took-then}
use Rattle.aoe_io.specs.Bytes.{Gave, Took, TookSome}
use Rattle.aoe_io.specs.Stream.{framed, stream, IsFrame}
use Rattle.aoe_io.proofs.StreamFrames.{stream-frame}
use Rattle.aoe_target.specs.Device.{Device, State, Holds}
use Rattle.aoe_target.specs.Lasting.{IsFirmAfter, LeavesFirm}
use Rattle.aoe_target.specs.Sectors.{Agrees, Sectors, sectors_of}
use Rattle.aoe_target.specs.Verdict.{verdict}
use Rattle.aoe_target.specs.declared.heard.Effect.{Effect}
use Rattle.aoe_target.specs.declared.heard.Effect.TheVariants as effect
use Rattle.aoe_target.proofs.SectorLemmas.{by_span}
use Rattle.aoe_target.specs.History.{Met, count_failed, keep_failed, left_by, store_failed}
use Rattle.aoe_target.specs.Law.{Fate, after, cut, ignored, replied, silent, IsStep}
use Rattle.aoe_target.specs.declared.station.Station.{Station}
use Rattle.aoe_pcap.specs.Capture.{head_bytes, written_head}
use Rattle.aoe_serve.specs.Arrivals.{Arrived, AreServed, MeetAll, at_slot, fate_at, frames, replies, replies_of}
use Rattle.aoe_serve.specs.Always.{AlwaysLasts}
use Rattle.aoe_serve.specs.Lasting.{firm_after, firm_by, lasting_by, with_firm}
use Rattle.aoe_serve.specs.Rounds.{Outcome, Round, SinkTook, TakesOn}
use Rattle.aoe_serve.specs.Answering.{Answered, Ends, Turned}
use Rattle.aoe_serve.specs.Slots.{IsServed, Meets, Slot}
use Rattle.aoe_serve.specs.declared.over_stream.AnswerEnd.{AnswerEnd}
use Rattle.aoe_serve.specs.Written.{exchanges, noted, pieces, written, written_of}
use Rattle.aoe_serve.specs.declared.over_stream.AnswerEnd.TheVariants as end
use Rattle.aoe_serve.specs.declared.over_stream.Format.{Format}
use Rattle.aoe_serve.specs.declared.over_stream.Format.TheVariants.{Replies, Capture}
use Rattle.aoe_serve.specs.OutletLaws.{pieces-append, sink_more, sink_over, stream-append, takes_on}
use Rattle.aoe_serve.proofs.EndLemmas.{always_now, outlived}
use Rattle.aoe_serve.proofs.SlotLemmas.{there}

-- Faults.

one_more : (o n b c : ℕ) → min (o + n) (2 ^ 64 - 1) ≤ b → b ≤ c → (b < 2 ^ 64 - 1 → b < c) → min (o + (n + 1)) (2 ^ 64 - 1) ≤ c
one_more o n b c before later rose =
    elim (cases_lt b (2 ^ 64 - 1)) [
      | inl below ↦ let more : b < c = rose below in omega arith
      | inr above ↦ omega arith
    ]

same_many : (o n b c : ℕ) → min (o + n) (2 ^ 64 - 1) ≤ b → b ≤ c → min (o + (n + 0)) (2 ^ 64 - 1) ≤ c
same_many o n b c before later = omega arith

counted-step : (o n b c : ℕ) (fault : Bool) → min (o + n) (2 ^ 64 - 1) ≤ b → b ≤ c → (fault ≡ true → b < 2 ^ 64 - 1 → b < c)
    → min (o + (n + (if fault then 1 else 0))) (2 ^ 64 - 1) ≤ c
counted-step o n b c true before later rose = one_more o n b c before later (rose refl)
counted-step o n b c false before later rose = same_many o n b c before later

-- Slots.

served_slot : (a b c : Slot) (f : List ℕ) (fate : Fate) (h : List Met) → IsServed a b h → Meets b c f fate
    → IsServed a c (record { frame = f; fate = fate } ∷ h)
served_slot a b c f fate h s m = record {
  station = m.station ∙ s.station;
  lasts = m.lasts ∙ s.lasts;
  lawful = λ k hk. ((step k hk).allowed, s.lawful k hk);
  holds = λ k hk. (step k hk).holds;
  store_faults = counted-step a.device.store.faults (count_failed store_failed h) b.device.store.faults c.device.store.faults
      (store_failed fate) s.store_faults m.store_later m.store_fault;
  keep_faults = counted-step a.device.keep.faults (count_failed keep_failed h) b.device.keep.faults c.device.keep.faults
      (keep_failed fate) s.keep_faults m.keep_later m.keep_fault;
}
  where
    step : (k : State) → Holds a.device k → IsStep a.station (left_by a.station k h) f fate c.device
    step k hk = subst (λ (st : Station). IsStep st (left_by a.station k h) f fate c.device) s.station (m.step (left_by a.station k h) (s.holds k hk))

unserved : (a b : Slot) → a ≡ b → IsServed a b []
unserved a b e = subst (λ (x : Slot). IsServed a x []) e
    (record { station = refl; lasts = refl; lawful = λ k hk. tt; holds = λ k hk. hk; store_faults = omega arith; keep_faults = omega arith })

-- Where writes last.

agrees_firm : (fate : Fate) (c : Contents) (k : Sectors) → Agrees (sectors_of c) k → IsFirmAfter fate (Some c) → Agrees (sectors_of c) (firm_after fate k)
agrees_firm ignored c k agree firm = agree
agrees_firm silent c k agree firm = agree
agrees_firm cut c k agree firm = agree
agrees_firm (replied e reply) c k agree firm = by e firm
  where
    by : (e : Effect) → LeavesFirm e (Some c) → Agrees (sectors_of c) (firm_by e k)
    by effect.None firm = agree
    by (effect.Wrote span) firm = record {
      known = agree.known;
      marks = λ s. by_span span s (λ t. (not t && k.marks s) ≡ false → is_loose c.loose s ≡ false)
          (λ low high e. firm s low high)
          (λ out e. agree.marks s e);
      exact = λ e. cc;
    }
    by effect.Synced firm = agree
    by effect.Edited firm = agree
    by (effect.WriteFault span) firm = agree
    by effect.ReadFault firm = agree
    by effect.SyncFault firm = agree
    by effect.EditFault firm = agree

both_firm : (fate : Fate) (c : Option Contents) (k : Option Sectors) → BothTell Agrees (option_map sectors_of c) k → IsFirmAfter fate c
    → BothTell Agrees (option_map sectors_of c) (option_map (firm_after fate) k)
both_firm fate None None agree firm = tt
both_firm fate None (Some k) agree firm = absurd agree
both_firm fate (Some c) None agree firm = absurd agree
both_firm fate (Some c) (Some k) agree firm = agrees_firm fate c k agree firm

firm_holds : (fate : Fate) (d : Device) (k : State) → Holds d k → IsFirmAfter fate d.store.contents → Holds d (with_firm fate k)
firm_holds fate d k h firm = record { lists = h.lists; crash = h.crash; sectors = both_firm fate d.store.contents k.sectors h.sectors firm }

unserved_lasts : (a b : Slot) → a ≡ b → AlwaysLasts a b []
unserved_lasts a b e = subst (λ (x : Slot). AlwaysLasts a x []) e (record { holds = λ k hk. hk; outlives = λ k hk. outlived a.device k hk })

lasting_slot : (a b c : Slot) (f : List ℕ) (fate : Fate) (h : List Met) → a.lasts ≡ true → IsServed a b h → AlwaysLasts a b h → Meets b c f fate
    → AlwaysLasts a c (record { frame = f; fate = fate } ∷ h)
lasting_slot a b c f fate h lasts s always m = (record { holds = step; outlives = λ k hk. outlived c.device _ (step k hk) }, (b, m, always))
  where
    step : (k : State) → Holds a.device k → Holds c.device (lasting_by a.station k (record { frame = f; fate = fate } ∷ h))
    step k hk =
        let before = lasting_by a.station k h in
        let held : Holds b.device before = (always_now a b h always).holds k hk in
        let one : IsStep a.station before f fate c.device =
        subst (λ (st : Station). IsStep st before f fate c.device) s.station (m.step before held) in
        firm_holds fate c.device (after a.station f (verdict a.station before.lists f) fate before) one.holds (m.firm (s.lasts ∙ lasts))

pub served_begun : (old : List Slot) → AreServed old old []
served_begun old = record {
  rounds = tt;
  slots = record { count = refl; each = λ i a b ea eb. unserved a b (same_Some a b (sym ea ∙ eb)) };
  lasting = record { count = refl; each = λ i a b ea eb lasts. unserved_lasts a b (same_Some a b (sym ea ∙ eb)) };
}

pub served_then : (old now new : List Slot) (f : List ℕ) (fates : List Fate) (h : List Arrived) → AreServed old now h → MeetAll now new f fates
    → AreServed old new (record { frame = f; fates = fates } ∷ h)
served_then old now new f fates h s m = record {
  rounds = ((m.round.0 ∙ s.slots.count, m.round.1, m.round.2), s.rounds);
  slots = record {
    count = m.slots.count ∙ s.slots.count;
    each = λ i a c ea ec.
        let b = there now i (omega (arith, slice_get_within new i c ec, m.slots.count)) in
        served_slot a b.slot c f (fate_at i fates) (at_slot i h) (s.slots.each i a b.slot ea b.is) (m.slots.each i b.slot c b.is ec);
  };
  lasting = record {
    count = m.slots.count ∙ s.slots.count;
    each = λ i a c ea ec lasts.
        let b = there now i (omega (arith, slice_get_within new i c ec, m.slots.count)) in
        lasting_slot a b.slot c f (fate_at i fates) (at_slot i h) lasts (s.slots.each i a b.slot ea b.is) (s.lasting.each i a b.slot ea b.is lasts)
        (m.slots.each i b.slot c b.is ec);
  };
}

-- Runs.

all_frames : (fs : List (List ℕ)) (f : List ℕ) → All IsFrame fs → IsFrame f → All IsFrame (fs ++ f ∷ [])
all_frames fs f all one k d below =
    elim (cases_lt k (length fs)) [
      | inl before ↦ subst IsFrame (sym (get_or_append_left fs (f ∷ []) d k before)) (all k d before)
      | inr after ↦
          let last : length fs ≡ k = omega (arith, after, below, length-append fs (f ∷ [])) in
          subst IsFrame (sym (get_or_at fs f [] d k last)) one
    ]

-- what is written of one frame more
written-more : (format : Format) (a : Arrived) (h : List Arrived) → written format (a ∷ h) ≡ written format h ++ written_of format a.frame (replies_of a.fates)
written-more Replies a h = stream-append (replies h) (replies_of a.fates)
written-more Capture a h =
    ap (λ (t : List ℕ). head_bytes written_head ++ t) (pieces-append Capture (exchanges h) (a.frame ∷ replies_of a.fates))
    ∙ sym (append_assoc (head_bytes written_head) (pieces Capture (exchanges h)) (pieces Capture (a.frame ∷ replies_of a.fates)))

-- a run so far, of so many frames that took so many bytes
pub record SoFar (format : Format) (left0 left held0 held : Option (List ℕ)) (old new : List Slot) (offset count : ℕ) : Type 0 where
  pub arrivals : List Arrived
  pub whole : All IsFrame (frames arrivals)
  pub served : AreServed old new arrivals
  pub count_is : length arrivals ≡ count
  pub offset_is : length (stream (frames arrivals)) ≡ offset
  pub gave : Gave left0 left (stream (frames arrivals))
  pub took : Took held0 held (written format arrivals)

pub begun : (format : Format) (left held0 held : Option (List ℕ)) (old : List Slot) → Took held0 held (written format [])
    → SoFar format left left held0 held old old 0 0
begun format left held0 held old took = record {
  arrivals = [];
  whole = λ k d below. absurd (omega (arith, below));
  served = served_begun old;
  count_is = refl;
  offset_is = refl;
  gave = Gave-nothing left;
  took = took;
}

-- nothing was read, since what stands in front wasn't taken
pub unbegun : (format : Format) (left held0 held : Option (List ℕ)) (old : List Slot) → TookSome held0 held (written format [])
    → Answered format end.SinkFault left left held0 held old old
unbegun format left held0 held old some = record {
  arrivals = [];
  whole = λ k d below. absurd (omega (arith, below));
  served = served_begun old;
  behind = left;
  gave = Gave-nothing left;
  stops = (omega arith, refl);
  took = some;
}

-- a turn more
pub goes_on : (format : Format) (left0 left left' held0 held held' : Option (List ℕ)) (old now new : List Slot) (offset count taken : ℕ)
    → SoFar format left0 left held0 held old now offset count → Turned format taken left left' held held' now new
    → SoFar format left0 left' held0 held' old new (offset + taken) (count + 1)
goes_on format left0 left left' held0 held held' old now new offset count taken s t =
    let h = s.arrivals in
    let f = t.frame in
    let a : Arrived = record { frame = f; fates = t.fates } in
    let P : List ℕ → Type 0 = λ xs. Gave left0 left' xs in
    let Q : List ℕ → Type 0 = λ xs. Took held0 held' xs in
    record {
      arrivals = a ∷ h;
      whole = all_frames (frames h) f s.whole t.whole;
      served = served_then old now new f t.fates h s.served t.meets;
      count_is = omega (arith, s.count_is);
      offset_is = omega (arith, s.offset_is, ap length (stream-frame (frames h) f), length-append (stream (frames h)) (framed f), t.long);
      gave = subst P (sym (stream-frame (frames h) f)) (Gave-then left0 left left' (stream (frames h)) (framed f) s.gave t.gave);
      took = subst Q (sym (written-more format a h))
          (Took-then held0 held held' (written format h) (written_of format f (replies_of t.fates)) s.took t.writes);
    }

length-stream : (fs : List (List ℕ)) → All IsFrame fs → length (stream fs) ≤ 9020 * length fs
length-stream [] all = omega arith
length-stream (f ∷ fs) all =
    let first : length f ≤ 9018 = (all 0 f (omega arith)).short in
    let rest : length (stream fs) ≤ 9020 * length fs = length-stream fs (λ k d below. all (suc k) d (omega (arith, below))) in
    omega (arith, length-append (framed f) (stream fs))

length-frames : (h : List Arrived) → length (frames h) ≡ length h
length-frames [] = refl
length-frames (a ∷ h) = omega (arith, length-append (frames h) (a.frame ∷ []), length-frames h)

pub offset-fits : (format : Format) (left0 left held0 held : Option (List ℕ)) (old new : List Slot) (offset count : ℕ)
    → SoFar format left0 left held0 held old new offset count
    → offset ≤ 9020 * count
offset-fits format left0 left held0 held old new offset count s =
    omega (arith, s.count_is, s.offset_is, length-stream (frames s.arrivals) s.whole, length-frames s.arrivals)

module _ (format : Format) (left0 left left' held0 held held' : Option (List ℕ)) (old now new : List Slot) (offset count : ℕ) (few : count < 4294967295)
    (s : SoFar format left0 left held0 held old now offset count) where
  -- the shelf and what the sink took stay as they were
  stays : held' ≡ held → new ≡ now → SoFar format left0 left held0 held' old new offset count
  stays held_is same =
      let P : Option (List ℕ) → Type 0 = λ o. SoFar format left0 left held0 o old new offset count in
      let Q : List Slot → Type 0 = λ d. SoFar format left0 left held0 held old d offset count in
      subst P (sym held_is) (subst Q (sym same) s)

  -- a turn ended the run
  pub ends : (e : AnswerEnd) → Ends format e offset left left' held held' now new → Answered format e left0 left' held0 held' old new
  ends end.Ended e =
      let t = stays e.2 e.3 in
      record {
        arrivals = t.arrivals;
        whole = t.whole;
        served = t.served;
        behind = left;
        gave = t.gave;
        stops = (omega (arith, few, t.count_is), e.0, e.1);
        took = t.took;
      }
  ends (end.Stream at) e =
      let t = stays e.3 e.4 in
      record {
        arrivals = t.arrivals;
        whole = t.whole;
        served = t.served;
        behind = left;
        gave = t.gave;
        stops = (omega (arith, few, t.count_is), e.0 ∙ sym t.offset_is, e.1, e.2);
        took = t.took;
      }
  ends end.SourceFault e =
      let t = stays e.1 e.2 in
      record {
        arrivals = t.arrivals;
        whole = t.whole;
        served = t.served;
        behind = left;
        gave = t.gave;
        stops = (omega (arith, few, t.count_is), e.0);
        took = t.took;
      }
  ends end.SinkFault e =
      let h = s.arrivals in
      let P : List ℕ → Type 0 = λ xs. Gave left0 left' xs in
      record {
        arrivals = record { frame = e.frame; fates = e.fates } ∷ h;
        whole = all_frames (frames h) e.frame s.whole e.whole;
        served = served_then old now new e.frame e.fates h s.served e.meets;
        behind = left';
        gave = subst P (sym (stream-frame (frames h) e.frame)) (Gave-then left0 left left' (stream (frames h)) (framed e.frame) s.gave e.gave);
        stops = (omega (arith, few, s.count_is), refl);
        took = (held, s.took, e.writes);
      }
  ends end.Limit e = absurd e

-- What stands in front, and in front of the replies to a frame.

pub header-all : (format : Format) → format ≡ Capture → (result : Outcome) (a b : Option (List ℕ)) → OnOk result (Took a b (head_bytes written_head))
    → OnOk result (Took a b (written format []))
header-all Replies is result a b all = absurd cc
header-all Capture is result a b all = subst (λ (bytes : List ℕ). OnOk result (Took a b bytes)) (sym (append-nil (head_bytes written_head))) all

pub header-some : (format : Format) → format ≡ Capture → (result : Outcome) (a b : Option (List ℕ)) → OnErr result (TookSome a b (head_bytes written_head))
    → OnErr result (TookSome a b (written format []))
header-some Replies is result a b some = absurd cc
header-some Capture is result a b some = subst (λ (bytes : List ℕ). OnErr result (TookSome a b bytes)) (sym (append-nil (head_bytes written_head))) some

module _ {K : Type 0} (held : K → Option (List ℕ)) (faults : K → ℕ) where
  abbrev pub Writes : Format → Outcome → K → K → List (List ℕ) → Type 0
  Writes format result a b frames = SinkTook format result (held a) (held b) (faults a) (faults b) frames

  pub round-noted : (format fixed : Format) → format ≡ fixed → (given result : Outcome) (a b c : K) (f g : List ℕ) → g ≡ f → (old new : List Slot)
      → Writes format given a b (noted format f) → Round (TakesOn (Writes fixed) given result b c) g old new
      → Round (λ replies. Writes format result a c (noted format f ++ replies)) f old new
  round-noted format fixed is given result a b c f g same old new one r =
      let P : Format → Type 0 = λ x. Writes x given a b (noted x f) → Round (λ replies. Writes x result a c (noted x f ++ replies)) f old new in
      let here : Round (TakesOn (Writes fixed) given result b c) f old new =
      subst (λ (x : List ℕ). Round (TakesOn (Writes fixed) given result b c) x old new) same r in
      subst P (sym is) (λ first. record {
        fates = here.fates;
        meets = here.meets;
        took = takes_on (Writes fixed) (λ result a b c xs ys one two. sink_more fixed result _ _ _ _ _ _ xs ys one two)
            (λ e a b xs ys one. sink_over fixed e _ _ _ _ xs ys one)
            given result a b c (noted fixed f) (replies_of here.fates) first here.took;
      }) one
