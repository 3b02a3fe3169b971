-- Where a connection stands once more bytes are taken, and what is told.
use Rattle.std.proofs.Common.{◌≡◌, ◌≢◌, ℕ, Bool, true, false, ◌+◌, ◌-◌, ◌<◌, ◌≤◌, inl, List, [], ◌∷◌, ◌++◌, append-nil, append_assoc, length, get_or, length-append, take, Option, Some, None, refl, sym, ap, subst, ◌∙◌, arith}
use Rattle.std.specs.List.{flat_map, AllByRecursion}
use Rattle.std.specs.Prelude.{min, ◌==◌, if◌then◌else◌}
use Rattle.std.proofs.lemmas.Bool.{eqb-true}
use Rattle.std.proofs.lemmas.Bool.Decides.{nat_tests}
use Rattle.std.proofs.lemmas.List.{length-take-le}
use Rattle.std.proofs.lemmas.List.Concat.{flat_map-append}
use Rattle.aoe_nbd.specs.declared.error.NbdError.{NbdError}
use Rattle.aoe_nbd.specs.declared.export.Export.{Export}
use Rattle.aoe_nbd.specs.declared.request.RequestHead.{RequestHead}
use Rattle.aoe_nbd.specs.declared.transmission.Event.{Event}
use Rattle.aoe_nbd.specs.declared.transmission.Event.TheVariants as events
use Rattle.aoe_nbd.specs.declared.transmission.Stage.{Stage}
use Rattle.aoe_nbd.specs.declared.transmission.Stage.TheVariants as stages
use Rattle.aoe_nbd.specs.Refusals.{refusal}
use Rattle.aoe_nbd.specs.Requests.{Fits, data_len, head_bytes, head_of}
use Rattle.aoe_nbd.specs.Steps.{data_event, first_event, head_event, piece_event, stage_of, whole_event}
use Rattle.aoe_nbd.specs.Streams.{Follows, IsBegun, IsMessage, IsVerdict, Message, Past, StandsAt, begun, message_bytes, past_data, past_head, past_message}
use Rattle.aoe_nbd.proofs.HeadLemmas.{Spelled, head-spelled}

grown : (ms : List Message) (m : Message) → flat_map message_bytes (ms ++ m ∷ []) ≡ flat_map message_bytes ms ++ message_bytes m
grown ms m = flat_map-append message_bytes ms (m ∷ []) ∙ ap (λ (x : List ℕ). flat_map message_bytes ms ++ x) (append-nil (message_bytes m))

each-grown : (ms : List Message) (m : Message) → AllByRecursion IsMessage ms → IsMessage m → AllByRecursion IsMessage (ms ++ m ∷ [])
each-grown [] m all is = (is, tt)
each-grown (n ∷ ms) m all is = (all.0, each-grown ms m all.1 is)

-- more bytes behind those of a stream
behind : (stream a b front : List ℕ) → stream ≡ a ++ b → stream ++ front ≡ a ++ (b ++ front)
behind stream a b front e = ap (λ (x : List ℕ). x ++ front) e ∙ append_assoc a b front

-- a request came whole
stands-whole : (e : Export) (past : Past) (old new : Stage) (front : List ℕ) (m : Message) → StandsAt e past old → IsMessage m
    → begun old past.part ++ front ≡ message_bytes m → begun new [] ≡ [] → IsBegun e new [] → StandsAt e (past_message past front m) new
stands-whole e past old new front m stands is e_m none between =
    record {
      stream = behind past.stream (flat_map message_bytes past.messages) (begun old past.part) front stands.stream
          ∙ ap (λ (x : List ℕ). flat_map message_bytes past.messages ++ x) e_m ∙ sym (grown past.messages m)
          ∙ sym (append-nil (flat_map message_bytes (past.messages ++ m ∷ [])))
          ∙ ap (λ (x : List ℕ). flat_map message_bytes (past.messages ++ m ∷ []) ++ x) (sym none);
      each = each-grown past.messages m stands.each is;
      begins = between;
    }

-- a head came that has data behind it
stands-head : (e : Export) (past : Past) (front : List ℕ) (h : RequestHead) (refused : Option NbdError) (missing : ℕ) → StandsAt e past stages.Head
    → front ≡ head_bytes h → Fits h → 0 < missing → missing ≡ data_len h → IsVerdict e h refused → StandsAt e (past_head past front) (stages.Data h refused missing)
stands-head e past front h refused missing stands is fits some all verdict = record {
  stream = behind past.stream (flat_map message_bytes past.messages) [] front stands.stream
      ∙ ap (λ (x : List ℕ). flat_map message_bytes past.messages ++ x) (is ∙ sym (append-nil (head_bytes h)));
  each = stands.each;
  begins = (fits, some, omega (arith, all), verdict);
}

-- a piece of data came
stands-data : (e : Export) (past : Past) (front : List ℕ) (h : RequestHead) (refused : Option NbdError) (missing left : ℕ)
    → StandsAt e past (stages.Data h refused missing) → 0 < left → length front + left ≡ missing → StandsAt e (past_data past front) (stages.Data h refused left)
stands-data e past front h refused missing left stands some all =
    let b = stands.begins in
    record {
      stream = behind past.stream (flat_map message_bytes past.messages) (head_bytes h ++ past.part) front stands.stream
          ∙ ap (λ (x : List ℕ). flat_map message_bytes past.messages ++ x) (append_assoc (head_bytes h) past.part front);
      each = stands.each;
      begins = (b.0, some, omega (arith, b.2, all, length-append past.part front), b.3);
    }

-- what isn't nothing
pub above : (n : ℕ) → (n == 0) ≡ false → 0 < n
above n e = grind (arith, nat_tests)

head-by : (e : Export) (past : Past) (bytes : List ℕ) (h : RequestHead) → StandsAt e past stages.Head → Spelled h bytes → h.kind ≢ 2
    → (refused : Option NbdError) → refused ≡ refusal e h → (missing : ℕ) → missing ≡ data_len h → (t : Bool) → (missing == 0) ≡ t
    → Follows e past stages.Head bytes 28 (if t then whole_event h refused else first_event h refused) (if t then stages.Head else stages.Data h refused missing)
head-by e past bytes h stands is other None verdict missing all true t_is =
    let none : missing ≡ 0 = eqb-true missing 0 t_is in
    let m : Message = record { head = h; payload = [] } in (
      m,
      (is.bytes, refl),
      refl,
      (other, verdict),
      stands-whole e past stages.Head stages.Head (take 28 bytes) m stands (record { fits = is.fits; whole = sym none ∙ all }) (is.bytes ∙ sym (append-nil (head_bytes h))) refl refl,
    )
head-by e past bytes h stands is other None verdict missing all false t_is =
    let some : 0 < missing = above missing t_is in
    (h, missing, refl, refl, (other, verdict), refl, stands-head e past (take 28 bytes) h None missing stands is.bytes is.fits some all (inl verdict))
head-by e past bytes h stands is other (Some error) verdict missing all true t_is =
    let none : missing ≡ 0 = eqb-true missing 0 t_is in
    let m : Message = record { head = h; payload = [] } in (
      m,
      (is.bytes, refl),
      refl,
      (other, verdict),
      stands-whole e past stages.Head stages.Head (take 28 bytes) m stands (record { fits = is.fits; whole = sym none ∙ all }) (is.bytes ∙ sym (append-nil (head_bytes h))) refl refl,
    )
head-by e past bytes h stands is other (Some error) verdict missing all false t_is =
    let some : 0 < missing = above missing t_is in
    (omega arith, h, error, missing, [], (other, verdict), refl, stands-head e past (take 28 bytes) h (Some error) missing stands is.bytes is.fits some all (inl verdict))

-- the head of a request other than DISC was taken
pub follows-head : (e : Export) (past : Past) (old : Stage) (bytes : List ℕ) (h : RequestHead) (refused : Option NbdError) (missing : ℕ) (event : Event) (new : Stage)
    → old ≡ stages.Head → ((i : ℕ) → get_or bytes i 0 < 256) → head_of bytes ≡ Some h → h.kind ≢ 2
    → refused ≡ refusal e h → missing ≡ data_len h → event ≡ head_event h refused missing → new ≡ stage_of h refused missing
    → StandsAt e past old → Follows e past old bytes 28 event new
follows-head e past old bytes h refused missing event new old_is small is other verdict all event_is new_is stands =
    let P : Stage → Type 0 = λ old. StandsAt e past old in
    let told = head-by e past bytes h (subst P old_is stands) (head-spelled h bytes small is) other refused verdict missing all (missing == 0) refl in
    let Q : Stage → Type 0 = λ new. Follows e past stages.Head bytes 28 (head_event h refused missing) new in
    let R : Event → Type 0 = λ event. Follows e past stages.Head bytes 28 event new in
    let S : Stage → Type 0 = λ old. Follows e past old bytes 28 event new in
    subst S (sym old_is) (subst R (sym event_is) (subst Q (sym new_is) told))

-- a DISC was taken
pub follows-disc : (e : Export) (past : Past) (old : Stage) (bytes : List ℕ) (h : RequestHead) → old ≡ stages.Head
    → ((i : ℕ) → get_or bytes i 0 < 256) → head_of bytes ≡ Some h → h.kind ≡ 2 → StandsAt e past old → Follows e past old bytes 28 events.Disconnected stages.Ended
follows-disc e past old bytes h old_is small is disc stands =
    let s = head-spelled h bytes small is in
    let m : Message = record { head = h; payload = [] } in
    let none : 0 ≡ data_len h = rw disc refl in
    let front : begun old past.part ++ take 28 bytes ≡ message_bytes m =
    ap (λ old. begun old past.part ++ take 28 bytes) old_is ∙ s.bytes ∙ sym (append-nil (head_bytes h)) in
    (m, disc, refl, stands-whole e past old stages.Ended (take 28 bytes) m stands (record { fits = s.fits; whole = none }) front refl refl)

-- the last of a request's data came
data-whole : (e : Export) (past : Past) (front : List ℕ) (h : RequestHead) (refused : Option NbdError) (missing : ℕ)
    → StandsAt e past (stages.Data h refused missing) → length front ≡ missing
    → StandsAt e (past_message past front (record { head = h; payload = past.part ++ front })) stages.Head
data-whole e past front h refused missing stands all =
    let b = stands.begins in
    let m : Message = record { head = h; payload = past.part ++ front } in
    stands-whole e past (stages.Data h refused missing) stages.Head front m stands
    (record { fits = b.0; whole = omega (arith, b.2, all, length-append past.part front) })
    (append_assoc (head_bytes h) past.part front) refl refl

data-by : (e : Export) (past : Past) (bytes : List ℕ) (h : RequestHead) (refused : Option NbdError) (missing len : ℕ) → StandsAt e past (stages.Data h refused missing)
    → 0 < len → length (take len bytes) ≡ len → (left : ℕ) → len + left ≡ missing → (t : Bool) → (left == 0) ≡ t
    → Follows e past (stages.Data h refused missing) bytes len (if t then whole_event h refused else piece_event refused) (if t then stages.Head else stages.Data h refused left)
data-by e past bytes h None missing len stands some long left all true t_is =
    let none : left ≡ 0 = eqb-true left 0 t_is in
    (record { head = h; payload = past.part ++ take len bytes }, (refl, refl), refl, refl, data-whole e past (take len bytes) h None missing stands (omega (arith, long, all)))
data-by e past bytes h (Some error) missing len stands some long left all true t_is =
    let none : left ≡ 0 = eqb-true left 0 t_is in
    (record { head = h; payload = past.part ++ take len bytes }, (refl, refl), refl, refl, data-whole e past (take len bytes) h (Some error) missing stands (omega (arith, long, all)))
data-by e past bytes h None missing len stands some long left all false t_is =
    let more : 0 < left = above left t_is in
    (some, h, missing, left, refl, refl, stands-data e past (take len bytes) h None missing left stands more (omega (arith, long, all)))
data-by e past bytes h (Some error) missing len stands some long left all false t_is =
    let more : 0 < left = above left t_is in
    (some, h, error, left, past.part ++ take len bytes, refl, refl, stands-data e past (take len bytes) h (Some error) missing left stands more (omega (arith, long, all)))

-- data was taken
pub follows-data : (e : Export) (past : Past) (old : Stage) (bytes : List ℕ) (h : RequestHead) (refused : Option NbdError) (missing len left : ℕ) (event : Event) (new : Stage)
    → old ≡ stages.Data h refused missing → 0 < length bytes → len ≡ min (length bytes) missing → left ≡ missing - len
    → event ≡ data_event h refused left → new ≡ stage_of h refused left → StandsAt e past old → Follows e past old bytes len event new
follows-data e past old bytes h refused missing len left event new old_is here len_is left_is event_is new_is stands =
    let P : Stage → Type 0 = λ old. StandsAt e past old in
    let at_data = subst P old_is stands in
    let due : 0 < missing = at_data.begins.1 in
    let inside : len ≤ length bytes = omega (arith, len_is) in
    let all = data-by e past bytes h refused missing len at_data (omega (arith, len_is, due, here)) (length-take-le len bytes inside) left (omega (arith, left_is, len_is)) (left == 0) refl in
    let Q : Stage → Type 0 = λ new. Follows e past (stages.Data h refused missing) bytes len (data_event h refused left) new in
    let R : Event → Type 0 = λ event. Follows e past (stages.Data h refused missing) bytes len event new in
    let S : Stage → Type 0 = λ old. Follows e past old bytes len event new in
    subst S (sym old_is) (subst R (sym event_is) (subst Q (sym new_is) all))
