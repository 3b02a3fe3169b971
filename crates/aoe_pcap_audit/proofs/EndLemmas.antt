-- One record more, and the end of a file.
use Rattle.std.proofs.Common.{◌≡◌, ◌≤◌, ◌+◌, ◌-◌, ◌^◌, ℕ, min, List, [], ◌∷◌, ◌++◌, length, reverse, Bool, false, true≢false, Option, inl, inr, refl, sym, ap, subst, ◌∙◌, append-nil, append_assoc, arith}
use Rattle.std.specs.Prelude.{All, Err, IfErr, IfOk, Ok, Result, nat_lt}
use Rattle.std.specs.List.{flat_map}
use Rattle.std.proofs.lemmas.Bool.{cases_Bool}
use Rattle.std.proofs.lemmas.Grind.{flat_map-append}
use Rattle.std.proofs.lemmas.List.{length-map, reverse-append}
use Rattle.std.proofs.lemmas.List.Elements.{All-append, All-cons, All-nil}
use Rattle.aoe_io.specs.Bytes.{Gave, IsEnded, Took, TookSome}
use Rattle.aoe_io.proofs.BytesLemmas.{Gave-then}
use Rattle.aoe_lists.specs.Settings.{Settings}
use Rattle.aoe_pcap.specs.Capture.{FileHead, IsHead, IsPacket, Packet, frame_of, head_bytes, kind, packet_bytes}
use Rattle.aoe_pcap.specs.declared.reader.Record.{Record}
use Rattle.aoe_pcap.specs.declared.reader.Record.TheVariants as record_is
use Rattle.aoe_target.specs.History.{Met, count_failed, keep_failed, store_failed}
use Rattle.aoe_target.specs.Law.{Fate}
use Rattle.aoe_target.specs.declared.station.Station.{Station}
use Rattle.aoe_audit.specs.Auditing.{Auditing, HasHeard, IsCause, IsLeft, IsYes}
use Rattle.aoe_audit.specs.declared.refusal.AuditRefusal.{AuditRefusal}
use Rattle.aoe_audit.specs.declared.refusal.AuditRefusal.TheVariants as audit_refusal
use Rattle.aoe_audit.specs.Captured as audit
use Rattle.aoe_audit.specs.Captured.{replies, requests, with_reply, with_request, class_of}
use Rattle.aoe_audit.specs.Judged.{faults_in, frame_met, frame_of_packet}
use Rattle.aoe_audit.specs.declared.class.Class.{Class}
use Rattle.aoe_audit.specs.declared.class.Class.TheVariants as class
use Rattle.aoe_audit.specs.declared.refusal.Verdict.{Verdict}
use Rattle.aoe_pcap_audit.specs.Ends.{Audits, EndsAt, FilePasses, IsBehind, IsLeftBy, Judges, Passes, RecordCame, StopsBehind, StopsOn, line, refused}
use Rattle.aoe_pcap_audit.specs.declared.stop.AuditStop.{AuditStop}
use Rattle.aoe_pcap_audit.specs.declared.stop.AuditStop.TheVariants.{SinkFault}
use Rattle.aoe_pcap_audit.specs.Records.{HasRead, IsClean, IsWithin, captured_bytes, captured_of, fed, heard, is_end, is_whole, most_records}
use Rattle.aoe_pcap_audit.specs.declared.stop.Summary.{Summary}

pub no-end : (came : Record) → is_end came ≡ false → came ≡ record_is.End → ⊥
no-end came other e = true≢false (sym (ap is_end e) ∙ other)

-- what was captured of a record
pub captured-is : (p : Packet) → captured_of (kind (length p.captured) p.original) (frame_of p.captured) ≡ length p.captured
captured-is p =
    let n : ℕ = length p.captured in
    elim (cases_Bool (nat_lt 9018 n)) [
      | inl long ↦ rw long refl
      | inr fits ↦ elim (cases_Bool (nat_lt n p.original)) [
        | inl part ↦ rw (fits, part) refl
        | inr all ↦ rw (fits, all) refl
      ]
    ]

-- the record that an audit was fed with
pub fed-is : (ps : List Packet) (p : Packet) (number : ℕ) (frame : List ℕ) (whole : Bool) → number ≡ length ps + 1 → frame ≡ frame_of p.captured
    → whole ≡ is_whole (kind (length p.captured) p.original)
    → (let q : audit.Packet = record { number = number; frame = frame; whole = whole } in q) ≡ fed (length ps + 1) p
fed-is ps p number frame whole n f w = λ i. record { number = n i; frame = f i; whole = w i }

latest : (p : Packet) (ps : List Packet) → reverse (p ∷ ps) ≡ reverse ps ++ p ∷ []
latest p ps = reverse-append (p ∷ []) ps

-- one record more was read
module _ (head : FileHead) (ps : List Packet) (p : Packet) where
  backwards : flat_map (packet_bytes head.big) (reverse (p ∷ ps)) ≡ flat_map (packet_bytes head.big) (reverse ps) ++ packet_bytes head.big p
  backwards =
      ap (λ (l : List Packet). flat_map (packet_bytes head.big) l) (latest p ps) ∙ flat_map-append (packet_bytes head.big) (reverse ps) (p ∷ [])
      ∙ ap (λ (l : List ℕ). flat_map (packet_bytes head.big) (reverse ps) ++ l) (append-nil (packet_bytes head.big p))

  pub read-then : (a b c : Option (List ℕ)) → HasRead a b head ps → IsPacket p → Gave b c (packet_bytes head.big p) → HasRead a c head (p ∷ ps)
  read-then a b c r is gave = record {
    bytes = r.bytes ++ packet_bytes head.big p;
    capture = record {
      fits = r.capture.fits;
      each = subst (λ (l : List Packet). All IsPacket l) (sym (latest p ps))
          (All-append IsPacket (reverse ps) (p ∷ []) r.capture.each (All-cons IsPacket p [] is (All-nil IsPacket)));
      spelled = ap (λ (l : List ℕ). l ++ packet_bytes head.big p) r.capture.spelled
          ∙ append_assoc (head_bytes head) (flat_map (packet_bytes head.big) (reverse ps)) (packet_bytes head.big p)
          ∙ ap (λ (l : List ℕ). head_bytes head ++ l) (sym backwards);
    };
    gave = Gave-then a b c r.bytes (packet_bytes head.big p) r.gave gave;
  }

pub read-none : (head : FileHead) (a b : Option (List ℕ)) → IsHead head → Gave a b (head_bytes head) → HasRead a b head []
read-none head a b is gave = record {
  bytes = head_bytes head;
  capture = record { fits = is; each = All-nil IsPacket; spelled = sym (append-nil (head_bytes head)) };
  gave = gave;
}

-- no finding so far
pub clean-of : (station : Station) (lists : Settings) (a : Auditing) (ps : List Packet) → a.station ≡ station → HasHeard lists a (heard ps) → IsWithin ps
    → IsClean station lists ps
clean-of station lists a ps same h within =
    subst (λ (s : Station). IsClean s lists ps) same (record { within = within; whole = h.whole; judged = (reverse a.waiting, h.history, h.explains) })

-- no count stood still

count-one : (failed : Fate → Bool) (h : List Met) → count_failed failed h ≤ length h
count-one failed [] = omega arith
count-one failed (m ∷ h) = elim (cases_Bool (failed m.fate)) [
  | inl fails ↦ rw fails (omega (arith, count-one failed h))
  | inr works ↦ rw works (omega (arith, count-one failed h))
]

length-request : (k : Class) (p : audit.Packet) (ps : List audit.Packet) → length (with_request k p ps) ≤ length ps + 1
length-request class.Other p ps = omega arith
length-request class.Short p ps = omega arith
length-request class.Request p ps = omega arith
length-request class.Reply p ps = omega arith

length-reply : (k : Class) (p : audit.Packet) (ps : List audit.Packet) → length (with_reply k p ps) ≤ length ps + 1
length-reply class.Other p ps = omega arith
length-reply class.Short p ps = omega arith
length-reply class.Request p ps = omega arith
length-reply class.Reply p ps = omega arith

few-requests : (station : Station) (c : List audit.Packet) → length (requests station c) ≤ length c
few-requests station [] = omega arith
few-requests station (p ∷ c) = omega (arith, few-requests station c, length-request (class_of station p) p (requests station c))

few-replies : (station : Station) (c : List audit.Packet) → length (replies station c) ≤ length c
few-replies station [] = omega arith
few-replies station (p ∷ c) = omega (arith, few-replies station c, length-reply (class_of station p) p (replies station c))

pub heard-length : (ps : List Packet) → length (heard ps) ≡ length ps
heard-length [] = refl
heard-length (p ∷ ps) = omega (arith, heard-length ps)

exact : (t n : ℕ) → t ≡ min n (2 ^ 32 - 1) → n ≤ 400000 → t ≡ n
exact t n is few = omega (arith, is, few)

pub passes-of : (station : Station) (lists : Settings) (ps : List Packet) (t : Verdict) (s : Summary) → IsYes station lists (heard ps) t → IsWithin ps
    → s.records ≡ length ps → s.requests ≡ t.requests → s.replies ≡ t.replies → s.faults ≡ t.faults → Passes station lists (heard ps) s
passes-of station lists ps t s y within records asks tells fails =
    let c : List audit.Packet = heard ps in
    let size : length c ≡ length ps = heard-length ps in
    let few : length ps ≤ most_records = within.records in
    let entries : length y.history ≡ length (requests station c) =
    sym (length-map y.history frame_met) ∙ ap length y.explains.frames ∙ length-map y.explains.front frame_of_packet ∙ sym (ap length y.explains.asked) in
    let asked : length (requests station c) ≤ length c = few-requests station c in
    let told : length (replies station c) ≤ length c = few-replies station c in
    let failed : faults_in y.history ≤ 400000 =
    omega (arith, entries, asked, size, few, count-one store_failed y.history, count-one keep_failed y.history) in
    record {
      history = y.history;
      whole = y.whole;
      explains = y.explains;
      records_are = records ∙ sym size;
      requests_are = asks ∙ exact t.requests (length (requests station c)) y.counts.requests_are (omega (arith, asked, size, few));
      replies_are = tells ∙ exact t.replies (length (replies station c)) y.counts.replies_are (omega (arith, told, size, few));
      faults_are = fails ∙ exact t.faults (faults_in y.history) y.counts.faults_are failed;
    }

-- so many records were read without a finding
pub record SoFar (lists : Settings) (a : Auditing) (left left' : Option (List ℕ)) (big : Bool) (count captured : ℕ) : Type 0 where
  pub head : FileHead
  pub big_is : head.big ≡ big
  pub packets : List Packet
  pub read : HasRead left left' head packets
  pub fed_with : HasHeard lists a (heard packets)
  pub count_is : length packets ≡ count
  pub captured_is : captured_bytes packets ≡ captured
  pub within : IsWithin packets

-- what was refused
pub left-refused : (r : AuditRefusal) (station : Station) (lists : Settings) (c : List audit.Packet) → IsLeft station lists c r
    → IsLeftBy (refused r) station lists c
left-refused audit_refusal.NoMemory station lists c left = left
left-refused (audit_refusal.Finding number kind) station lists c left = left

pub stops-refused : (r : AuditRefusal) (station : Station) (lists : Settings) (ps : List Packet) (p : Packet) (q : audit.Packet) → q ≡ fed (length ps + 1) p
    → IsWithin (p ∷ ps) → IsCause station lists (heard ps) q r → StopsOn (refused r) station lists ps p
stops-refused audit_refusal.NoMemory station lists ps p q same within cause =
    (within, subst (λ (x : audit.Packet). IsCause station lists (heard ps) x audit_refusal.NoMemory) same cause)
stops-refused (audit_refusal.Finding number kind) station lists ps p q same within cause =
    (within, subst (λ (x : audit.Packet). IsCause station lists (heard ps) x (audit_refusal.Finding number kind)) same cause)

-- the first record is the next
pub so-far-none : (lists : Settings) (a : Auditing) (left left' : Option (List ℕ)) (big : Bool) (h : FileHead) → IsHead h → h.big ≡ big
    → Gave left left' (head_bytes h) → HasHeard lists a [] → SoFar lists a left left' big 0 0
so-far-none lists a left left' big h fits big_is gave heard_none = record {
  head = h;
  big_is = big_is;
  packets = [];
  read = read-none h left left' fits gave;
  fed_with = heard_none;
  count_is = refl;
  captured_is = refl;
  within = record { records = omega arith; bytes = omega arith };
}

module _ (lists : Settings) (a : Auditing) (left middle : Option (List ℕ)) (big : Bool) (count captured : ℕ)
    (s : SoFar lists a left middle big count captured) where
  pub behind-of : (number : ℕ) → number ≡ count + 1 → IsBehind lists a number captured s.packets
  behind-of number is =
      record { fed_with = s.fed_with; number_is = is ∙ ap (λ n. n + 1) (sym s.count_is); captured_is = sym s.captured_is; within = s.within }

  -- a record more
  pub so-far-then : (b : Auditing) (left' : Option (List ℕ)) (total : ℕ) → RecordCame lists b big s.packets middle left' total
      → SoFar lists b left left' big (count + 1) total
  so-far-then b left' total came =
      let gave = subst (λ (x : Bool). Gave middle left' (packet_bytes x came.packet)) (sym s.big_is) came.gave in
      record {
        head = s.head;
        big_is = s.big_is;
        packets = came.packet ∷ s.packets;
        read = read-then s.head s.packets came.packet left middle left' s.read came.fits gave;
        fed_with = came.fed_with;
        count_is = omega (arith, s.count_is);
        captured_is = sym came.total_is;
        within = came.within;
      }

  module _ (station : Station) (same : a.station ≡ station) where
    -- the audit ends by the next
    pub stopped : (stop : AuditStop) (left' : Option (List ℕ)) → EndsAt stop a.station lists big s.packets middle left'
        → StopsBehind stop station lists left left'
    stopped stop left' ends = record {
      head = s.head;
      packets = s.packets;
      middle = middle;
      read = s.read;
      clean = clean-of station lists a s.packets same s.fed_with s.within;
      ends = subst (λ (x : Bool). EndsAt stop station lists x s.packets middle left') (sym s.big_is)
          (subst (λ (t : Station). EndsAt stop t lists big s.packets middle left') same ends);
    }

    -- there is no next
    pub concluded : (result : Result Summary AuditStop) (b : Auditing) (left' : Option (List ℕ)) → IsEnded middle → left' ≡ middle → b ≡ a
        → ((l : Settings) (ps : List Packet) → HasHeard l b (heard ps) → IsWithin ps → count ≡ length ps → IfOk result (Passes b.station l (heard ps)))
        → ((l : Settings) (ps : List Packet) → HasHeard l b (heard ps) → IfErr result (λ stop. IsLeftBy stop b.station l (heard ps)))
        → Judges result station lists left left'
    concluded (Ok summary) b left' ended rest unchanged passes stops =
        let here : a.station ≡ b.station = ap (λ (x : Auditing). x.station) (sym unchanged) in
        let fed_with : HasHeard lists b (heard s.packets) = subst (λ (x : Auditing). HasHeard lists x (heard s.packets)) (sym unchanged) s.fed_with in
        let all = passes lists s.packets fed_with s.within (sym s.count_is) in
        record {
          head = s.head;
          packets = s.packets;
          read = subst (λ (x : Option (List ℕ)). HasRead left x s.head s.packets) (sym rest) s.read;
          ended = subst IsEnded (sym rest) ended;
          within = s.within;
          passes = subst (λ (t : Station). Passes t lists (heard s.packets) summary) (sym here ∙ same) all;
        }
    concluded (Err stop) b left' ended rest unchanged passes stops =
        let here : a.station ≡ b.station = ap (λ (x : Auditing). x.station) (sym unchanged) in
        let fed_with : HasHeard lists b (heard s.packets) = subst (λ (x : Auditing). HasHeard lists x (heard s.packets)) (sym unchanged) s.fed_with in
        let left_by = subst (λ (t : Station). IsLeftBy stop t lists (heard s.packets)) (sym here) (stops lists s.packets fed_with) in
        inr (stopped stop left' (inr (inr (ended, rest, left_by))))

-- what is said with the line
pub audits-ok : (s : Summary) (station : Station) (lists : Settings) (left left' held held' : Option (List ℕ)) (text : List ℕ)
    → FilePasses s station lists left left'
    → text ≡ line s → Took held held' text → Audits (Ok tt) station lists left left' held held'
audits-ok s station lists left left' held held' text passes is took = (s, passes, subst (λ (l : List ℕ). Took held held' l) is took)

pub audits-sink : (s : Summary) (station : Station) (lists : Settings) (left left' held held' : Option (List ℕ)) (text : List ℕ)
    → FilePasses s station lists left left'
    → text ≡ line s → TookSome held held' text → Audits (Err SinkFault) station lists left left' held held'
audits-sink s station lists left left' held held' text passes is took = inl (refl, (s, passes, subst (λ (l : List ℕ). TookSome held held' l) is took))
