-- The desk can take what comes, and what is kept of it goes on fitting.
use Rattle.std.proofs.Common.{ℕ, ◌≡◌, ◌≢◌, ◌+◌, ◌*◌, ◌/◌, ◌%◌, ◌<◌, ◌≤◌, ◌⊎◌, Bool, true, false, List, [], ◌∷◌, ◌++◌, length, take, drop, length-append, append-nil, Option, Some, None, refl, sym, ap, subst, ◌∙◌, inl, inr, arith, true≢false, vec_capacity}
use Rattle.std.specs.List.{flat_map, AllByRecursion}
use Rattle.std.specs.Prelude.{◌==◌, if◌then◌else◌}
use Rattle.std.proofs.lemmas.Bool.{eqb-true}
use Rattle.std.proofs.lemmas.List.{append_cancel_left, take-append-drop}
use Rattle.std.proofs.lemmas.List.Concat.{flat_map-append}
use Rattle.std.proofs.lemmas.Nat.{div-add-mod'}
use Rattle.aoe_desk.specs.Desks.{DeskState, HasRoom}
use Rattle.aoe_nbd.specs.declared.error.NbdError.{NbdError}
use Rattle.aoe_nbd.specs.declared.error.NbdError.TheVariants.{NoMemory}
use Rattle.aoe_nbd.specs.declared.export.Export.{Export}
use Rattle.aoe_nbd.specs.declared.request.Action.TheVariants.{Read, Write, Flush}
use Rattle.aoe_nbd.specs.declared.request.Request.{Request}
use Rattle.aoe_nbd.specs.declared.request.RequestHead.{RequestHead}
use Rattle.aoe_nbd.specs.declared.transmission.Event.{Event}
use Rattle.aoe_nbd.specs.declared.transmission.Event.TheVariants as events
use Rattle.aoe_nbd.specs.declared.transmission.Stage.{Stage}
use Rattle.aoe_nbd.specs.declared.transmission.Stage.TheVariants as stages
use Rattle.aoe_nbd.specs.Refusals.{refusal, IsCarriedOut, IsInside}
use Rattle.aoe_nbd.specs.Requests.{action_of, data_len, head_bytes, head_of, span_of, Fits as FitsHead}
use Rattle.aoe_nbd.specs.Streams.{begun, message_bytes, past_data, past_head, past_message, Follows, IsBegun, IsMessage, IsVerdictFrom, IsWholeFrom, Message, Past, StandsAt}
use Rattle.aoe_nbd_serve.specs.declared.requests.Coming.{Coming}
use Rattle.aoe_nbd_serve.specs.Asking.{held_by, held_next, is_more, room_needed, CanDo, CanHandIn, Did, Fits, IsBegunBy, IsKept, IsKeptAt, IsStageOf, Takes}

-- less room is needed
less-room : (m n : ℕ) (d : DeskState) → m ≤ n → HasRoom n d → HasRoom m d
less-room m n d less has = record { few = has.few; short = omega (arith, has.short, less) }

last-message : (ms : List Message) (m : Message) → AllByRecursion IsMessage (ms ++ m ∷ []) → IsMessage m
last-message [] m all = all.0
last-message (n ∷ ms) m all = last-message ms m all.1

grown-length : (ms : List Message) (m : Message) → length (flat_map message_bytes (ms ++ m ∷ [])) ≡ length (flat_map message_bytes ms) + length (message_bytes m)
grown-length ms m =
    ap length (flat_map-append message_bytes ms (m ∷ []) ∙ ap (λ (x : List ℕ). flat_map message_bytes ms ++ x) (append-nil (message_bytes m)))
    ∙ length-append (flat_map message_bytes ms) (message_bytes m)

-- a request that came whole is as long as what came of it before and these bytes
whole-length : (old : Stage) (part front : List ℕ) (m : Message) → IsWholeFrom old part front m → length (begun old part) + length front ≡ length (message_bytes m)
whole-length stages.Head part front m (is, none) = omega (arith, ap length is, ap length none, length-append (head_bytes m.head) m.payload)
whole-length (stages.Data h refused missing) part front m (is, payload) =
    omega (arith, ap length payload, length-append part front, length-append (head_bytes h) part, length-append (head_bytes m.head) m.payload)
whole-length stages.Ended part front m is = absurd is

-- behind a request that came whole none is begun
kept-whole : (e : Export) (past : Past) (old new : Stage) (front : List ℕ) (m : Message) (c : Coming) → StandsAt e past old → IsWholeFrom old past.part front m
    → StandsAt e (past_message past front m) new → c.payload.items ≡ [] → c.room ≡ None → IsKept e new c
kept-whole e past old stages.Head front m c stands is later none room = record { past = past_message past front m; stands = later; kept = (none, room) }
kept-whole e past old (stages.Data h refused missing) front m c stands is later none room =
    let long : length past.stream ≡ length (flat_map message_bytes past.messages) + length (begun old past.part)
    = ap length stands.stream ∙ length-append (flat_map message_bytes past.messages) (begun old past.part) in
    let longer : length past.stream + length front ≡ length (flat_map message_bytes (past.messages ++ m ∷ [])) + length (head_bytes h ++ [])
    = sym (length-append past.stream front) ∙ ap length later.stream
    ∙ length-append (flat_map message_bytes (past.messages ++ m ∷ [])) (head_bytes h ++ []) in
    let some : 28 ≤ length (head_bytes h ++ []) = omega (arith, length-append (head_bytes h) []) in
    absurd (omega (arith, long, longer, some, grown-length past.messages m, whole-length old past.part front m is))
kept-whole e past old stages.Ended front m c stands is later none room = record { past = past_message past front m; stands = later; kept = tt }

-- whole sectors of what is served lie on the device
inside-fits : (e : Export) (h : RequestHead) (d : DeskState) (n : ℕ) → IsInside e h → e.size ≤ 512 * d.total → HasRoom h.len d → n ≡ h.len → Fits (h.offset / 512) n d
inside-fits e h d n inside size room is =
    let at : h.offset / 512 * 512 + h.offset % 512 ≡ h.offset = div-add-mod' h.offset 512 in
    let count : n / 512 * 512 + n % 512 ≡ n = div-add-mod' n 512 in
    let whole : n % 512 ≡ 0 = rw is inside.sectors in
    record {
      some = rw is inside.some;
      whole = whole;
      few = omega (arith, is, inside.few);
      within = omega (arith, is, at, count, whole, inside.starts, inside.within, size);
      room = rw is room;
    }

sectors-again : (n : ℕ) → n % 512 ≡ 0 → 512 * (n / 512) ≡ n
sectors-again n whole = omega (arith, div-add-mod' n 512, whole)

kind-differs : (k a b : ℕ) → (k == a) ≡ true → a ≢ b → k ≢ b
kind-differs k a b is other e = other (sym (eqb-true k a is) ∙ e)

-- a request without data
hand-bare : (e : Export) (h : RequestHead) (c : Coming) (last : List ℕ) (d : DeskState) (t u : Bool) → (h.kind == 0) ≡ t → (h.kind == 1) ≡ u
    → IsCarriedOut e h → (if u then h.len else 0) ≡ 0 → HasRoom (held_by (if t then Read (span_of h) else (if u then Write (span_of h) (h.flags == 1) else Flush)) h.len) d
    → e.size ≤ 512 * d.total → c.payload.items ≡ [] → CanHandIn (if t then Read (span_of h) else (if u then Write (span_of h) (h.flags == 1) else Flush)) c last d
hand-bare e h c last d true u t_is u_is carried bare room size none =
    let inside = carried.inside (kind-differs h.kind 0 3 t_is (λ x. absurd cc)) in
    (inside-fits e h d (512 * (h.len / 512)) inside size room (sectors-again h.len inside.sectors), none)
hand-bare e h c last d false true t_is u_is carried bare room size none =
    let inside = carried.inside (kind-differs h.kind 1 3 u_is (λ x. absurd cc)) in
    absurd (omega (arith, bare, inside.some))
hand-bare e h c last d false false t_is u_is carried bare room size none = (room, none)

-- a write, with its data
hand-write : (e : Export) (h : RequestHead) (c : Coming) (last : List ℕ) (d : DeskState) (t u : Bool) → (h.kind == 0) ≡ t → (h.kind == 1) ≡ u
    → IsCarriedOut e h → 0 < (if u then h.len else 0) → length (c.payload.items ++ last) ≡ (if u then h.len else 0) → HasRoom h.len d → h.len ≤ vec_capacity c.payload
    → e.size ≤ 512 * d.total → CanHandIn (if t then Read (span_of h) else (if u then Write (span_of h) (h.flags == 1) else Flush)) c last d
hand-write e h c last d true true t_is u_is carried some long room has size =
    absurd (kind-differs h.kind 0 1 t_is (λ x. absurd cc) (eqb-true h.kind 1 u_is))
hand-write e h c last d false true t_is u_is carried some long room has size =
    let inside = carried.inside (kind-differs h.kind 1 3 u_is (λ x. absurd cc)) in
    (inside-fits e h d (length (c.payload.items ++ last)) inside size room long, omega (arith, long, has))
hand-write e h c last d true false t_is u_is carried some long room has size = absurd (omega (arith, some))
hand-write e h c last d false false t_is u_is carried some long room has size = absurd (omega (arith, some))

-- the laws of requests that are used
pub record Laws : Type 0 where
  pub reads : (h : RequestHead) (rest : List ℕ) → FitsHead h → head_of (head_bytes h ++ rest) ≡ Some h
  pub carries : (e : Export) (h : RequestHead) → refusal e h ≡ None → IsCarriedOut e h

-- the head that was taken stood at the front
head-stood : (l : Laws) (h : RequestHead) (len : ℕ) (bytes : List ℕ) → FitsHead h → take len bytes ≡ head_bytes h → head_of bytes ≡ Some h
head-stood l h len bytes fits is =
    ap head_of (sym (take-append-drop len bytes) ∙ ap (λ (x : List ℕ). x ++ drop len bytes) is) ∙ l.reads h (drop len bytes) fits

room-stood : (e : Export) (h : RequestHead) (bytes : List ℕ) → head_of bytes ≡ Some h → refusal e h ≡ None → held_next e bytes ≡ held_by (action_of h) h.len
room-stood e h bytes is not_refused = rw is (rw not_refused refl)

-- a head came alone, and is carried out
came-head : (l : Laws) (e : Export) (past : Past) (c : Coming) (d : DeskState) (bytes : List ℕ) (len : ℕ) (m : Message)
    → FitsHead m.head → length m.payload ≡ data_len m.head → c.payload.items ≡ [] → c.room ≡ None → take len bytes ≡ head_bytes m.head → m.payload ≡ []
    → None ≡ refusal e m.head → HasRoom (room_needed e c.room bytes) d → e.size ≤ 512 * d.total → CanHandIn (action_of m.head) c (take len bytes) d
came-head l e past c d bytes len m fits whole none room is bare verdict has size =
    let H : ℕ → Type 0 = λ n. HasRoom n d in
    let R : Option ℕ → Type 0 = λ r. HasRoom (room_needed e r bytes) d in
    let held = subst H (room-stood e m.head bytes (head-stood l m.head len bytes fits is) (sym verdict)) (subst R room has) in
    hand-bare e m.head c (take len bytes) d (m.head.kind == 0) (m.head.kind == 1) refl refl (l.carries e m.head (sym verdict)) (sym whole ∙ ap length bare) held size none

-- the last of a write's data came
came-data : (l : Laws) (e : Export) (h : RequestHead) (part front : List ℕ) (missing : ℕ) (c : Coming) (d : DeskState) (bytes : List ℕ) (m : Message)
    → IsBegun e (stages.Data h None missing) part → length m.payload ≡ data_len m.head → IsKeptAt (stages.Data h None missing) part c
    → m.head ≡ h → m.payload ≡ part ++ front → HasRoom (room_needed e c.room bytes) d → e.size ≤ 512 * d.total → CanHandIn (action_of m.head) c front d
came-data l e h part front missing c d bytes m (fits, some, long, inl verdict) whole (kept, room, has) is payload roomy size =
    let R : Option ℕ → Type 0 = λ r. HasRoom (room_needed e r bytes) d in
    let A : RequestHead → Type 0 = λ h. CanHandIn (action_of h) c front d in
    let all : length (c.payload.items ++ front) ≡ data_len h = ap (λ (x : List ℕ). length (x ++ front)) kept ∙ ap length (sym payload) ∙ whole ∙ ap data_len is in
    subst A (sym is) (hand-write e h c front d (h.kind == 0) (h.kind == 1) refl refl (l.carries e h (sym verdict)) (omega (arith, some, long)) all (subst R room roomy) has size)
came-data l e h part front missing c d bytes m (fits, some, long, inr verdict) whole kept is payload roomy size = absurd cc

can-came : (l : Laws) (e : Export) (old new : Stage) (past : Past) (c : Coming) (d : DeskState) (bytes : List ℕ) (len : ℕ) (request : Request) → StandsAt e past old → IsKeptAt old past.part c
    → Follows e past old bytes len (events.Came request) new → HasRoom (room_needed e c.room bytes) d → e.size ≤ 512 * d.total → CanHandIn request.action c (take len bytes) d
can-came l e stages.Head new past c d bytes len request stands kept (m, whole, is, verdict, later) has size =
    let mine = last-message past.messages m later.each in
    let A : Request → Type 0 = λ r. CanHandIn r.action c (take len bytes) d in
    subst A (sym is) (came-head l e past c d bytes len m mine.fits mine.whole kept.0 kept.1 whole.0 whole.1 verdict.1 has size)
can-came l e (stages.Data h None missing) new past c d bytes len request stands kept (m, whole, is, verdict, later) has size =
    let mine = last-message past.messages m later.each in
    let A : Request → Type 0 = λ r. CanHandIn r.action c (take len bytes) d in
    subst A (sym is) (came-data l e h past.part (take len bytes) missing c d bytes m stands.begins mine.whole kept whole.0 whole.1 has size)
can-came l e (stages.Data h (Some error) missing) new past c d bytes len request stands kept (m, whole, is, verdict, later) has size = absurd cc
can-came l e stages.Ended new past c d bytes len request stands kept (m, whole, is, verdict, later) has size = absurd whole

no-more : (u : Bool) (len : ℕ) → (if u then len else 0) ≤ len
no-more true len = omega arith
no-more false len = omega arith

-- a piece of a write's data came, for which there is room
can-data : (e : Export) (old new : Stage) (past : Past) (c : Coming) (bytes : List ℕ) (len : ℕ) → IsKeptAt old past.part c
    → Follows e past old bytes len events.Data new → length (c.payload.items ++ take len bytes) ≤ vec_capacity c.payload
can-data e old new past c bytes len kept (some, h, missing, missing', old_is, new_is, later) =
    let K : Stage → Type 0 = λ s. IsKeptAt s past.part c in
    let S : Stage → Type 0 = λ s. StandsAt e (past_data past (take len bytes)) s in
    let k = subst K old_is kept in
    let b = (subst S new_is later).begins in
    let long : length (c.payload.items ++ take len bytes) ≡ length (past.part ++ take len bytes) = ap (λ (x : List ℕ). length (x ++ take len bytes)) k.0 in
    omega (arith, long, k.2, b.2, no-more (h.kind == 1) h.len)

-- what came can be done
pub can-do : (l : Laws) (e : Export) (old new : Stage) (c : Coming) (d : DeskState) (bytes : List ℕ) (len : ℕ) (event : Event) (k : IsKept e old c)
    → Follows e k.past old bytes len event new → HasRoom (room_needed e c.room bytes) d → e.size ≤ 512 * d.total → CanDo event c (take len bytes) d
can-do l e old new c d bytes len events.More k f has size = tt
can-do l e old new c d bytes len (events.Begins request) k (h, missing, is, old_is, verdict, new_is, later) has size =
    let K : Stage → Type 0 = λ s. IsKeptAt s k.past.part c in
    (subst K old_is k.kept).0
can-do l e old new c d bytes len events.Data k f has size = can-data e old new k.past c bytes len k.kept f
can-do l e old new c d bytes len events.Skipped k f has size = tt
can-do l e old new c d bytes len (events.Came request) k f has size = can-came l e old new k.past c d bytes len request k.stands k.kept f has size
can-do l e old new c d bytes len (events.Refused error handle) k f has size = less-room 0 (room_needed e c.room bytes) d (omega arith) has
can-do l e old new c d bytes len events.Disconnected k f has size = tt
can-do l e old new c d bytes len events.BadMagic k f has size = tt
can-do l e old new c d bytes len events.Ended k f has size = tt

-- the head of a write that begins stood at the front
begun-front : (e : Export) (past : Past) (front : List ℕ) (h : RequestHead) (missing : ℕ) (refused : Option NbdError) → StandsAt e past stages.Head
    → StandsAt e (past_head past front) (stages.Data h refused missing) → front ≡ head_bytes h
begun-front e past front h missing refused stands later =
    let before = flat_map message_bytes past.messages in
    let both : before ++ front ≡ before ++ (head_bytes h ++ [])
    = ap (λ (x : List ℕ). x ++ front) (sym (append-nil before) ∙ sym stands.stream) ∙ later.stream in
    append_cancel_left before front (head_bytes h ++ []) both ∙ append-nil (head_bytes h)

-- a write holds its data's length
held-write : (h : RequestHead) (t u : Bool) → (h.kind == 0) ≡ t → (h.kind == 1) ≡ u → 0 < (if u then h.len else 0)
    → held_by (if t then Read (span_of h) else (if u then Write (span_of h) (h.flags == 1) else Flush)) h.len ≡ h.len
held-write h true u t_is u_is some = refl
held-write h false true t_is u_is some = refl
held-write h false false t_is u_is some = absurd (omega (arith, some))

kept-at : (e : Export) (stage stage' : Stage) (past : Past) (c : Coming) → stage' ≡ stage → StandsAt e past stage → IsKeptAt stage past.part c → IsKept e stage' c
kept-at e stage stage' past c is stands kept = record {
  past = past;
  stands = subst (λ (s : Stage). StandsAt e past s) (sym is) stands;
  kept = subst (λ (s : Stage). IsKeptAt s past.part c) (sym is) kept;
}

has-room : (r : Option ℕ) (room : ℕ) → r ≡ Some room → r ≢ None
has-room r room is none = absurd cc

-- the head of a write came, and there is memory for its data, or not
kept-begun : (e : Export) (past : Past) (h : RequestHead) (missing : ℕ) (new : Stage) (c : Coming) (room : ℕ) → room ≡ h.len → refusal e h ≡ None
    → StandsAt e past (stages.Data h None missing) → past.part ≡ [] → ((new ≡ stages.Data h None missing) × (room ≤ vec_capacity c.payload)) ⊎ (new ≡ stages.Data h (Some NoMemory) missing)
    → c.room ≡ Some room → c.payload.items ≡ [] → IsKept e new c
kept-begun e past h missing new c room is passes stands empty (inl (new_is, has)) room_is none =
    kept-at e (stages.Data h None missing) new past c new_is stands (none ∙ sym empty, room_is ∙ ap Some is, rw (sym is) has)
kept-begun e past h missing new c room is passes stands empty (inr new_is) room_is none =
    let b = stands.begins in
    kept-at e (stages.Data h (Some NoMemory) missing) new past c new_is
    (record { stream = stands.stream; each = stands.each; begins = (b.0, b.1, b.2, inr (passes, refl)) }) (none, has-room c.room room room_is)

kept-begins : (l : Laws) (e : Export) (past : Past) (c c' : Coming) (bytes : List ℕ) (len : ℕ) (h : RequestHead) (missing : ℕ) (new : Stage)
    → StandsAt e past stages.Head → c.room ≡ None → None ≡ refusal e h → StandsAt e (past_head past (take len bytes)) (stages.Data h None missing)
    → ((new ≡ stages.Data h None missing) × (room_needed e c.room bytes ≤ vec_capacity c'.payload)) ⊎ (new ≡ stages.Data h (Some NoMemory) missing)
    → c'.room ≡ Some (room_needed e c.room bytes) → c'.payload.items ≡ [] → IsKept e new c'
kept-begins l e past c c' bytes len h missing new before none_yet verdict stands begun room_is none =
    let b = stands.begins in
    let needed : room_needed e c.room bytes ≡ h.len =
    ap (λ (r : Option ℕ). room_needed e r bytes) none_yet
    ∙ room-stood e h bytes (head-stood l h len bytes b.0 (begun-front e past (take len bytes) h missing None before stands)) (sym verdict)
    ∙ held-write h (h.kind == 0) (h.kind == 1) refl refl (omega (arith, b.1, b.2)) in
    kept-begun e (past_head past (take len bytes)) h missing new c' (room_needed e c.room bytes) needed (sym verdict) stands refl begun room_is none

-- no data was kept of a request that is refused
none-refused : (e : Export) (old : Stage) (part : List ℕ) (c : Coming) (h : RequestHead) (error : NbdError) → IsKeptAt old part c → IsVerdictFrom e old h (Some error) → c.payload.items ≡ []
none-refused e stages.Head part c h error kept verdict = kept.0
none-refused e (stages.Data b None missing) part c h error kept verdict = absurd cc
none-refused e (stages.Data b (Some other) missing) part c h error kept verdict = kept.0
none-refused e stages.Ended part c h error kept verdict = absurd verdict

-- a piece of a write's data came
kept-data : (e : Export) (past : Past) (c c' : Coming) (bytes front : List ℕ) (h : RequestHead) (missing missing' : ℕ) (taken new : Stage)
    → IsKeptAt (stages.Data h None missing) past.part c → StandsAt e (past_data past front) (stages.Data h None missing') → new ≡ stages.Data h None missing'
    → vec_capacity c.payload ≤ vec_capacity c'.payload → c'.room ≡ Some (room_needed e c.room bytes) → c'.payload.items ≡ c.payload.items ++ front → IsKept e new c'
kept-data e past c c' bytes front h missing missing' taken new kept stands new_is grows room_is items_is =
    kept-at e (stages.Data h None missing') new (past_data past front) c' new_is stands (
      items_is ∙ ap (λ (x : List ℕ). x ++ front) kept.0,
      room_is ∙ ap (λ (r : Option ℕ). Some (room_needed e r bytes)) kept.1,
      omega (arith, kept.2, grows),
    )

-- what is kept fits the request that comes, behind what was done
pub kept-after : (l : Laws) (e : Export) (old taken new : Stage) (c c' : Coming) (d d' : DeskState) (bytes : List ℕ) (len : ℕ) (event : Event) (k : IsKept e old c)
    → Follows e k.past old bytes len event taken → Did event (take len bytes) (room_needed e c.room bytes) taken new c c' d d' → event ≢ events.More → IsKept e new c'
kept-after l e old taken new c c' d d' bytes len events.More k f did some = absurd (some refl)
kept-after l e old taken new c c' d d' bytes len (events.Begins request) k (h, missing, is, old_is, verdict, taken_is, later) did some =
    let head = subst (λ (s : Stage). IsKeptAt s k.past.part c) old_is k.kept in
    let row = subst (λ (s : Stage). IsVerdictFrom e s h None) old_is verdict in
    kept-begins l e k.past c c' bytes len h missing new (subst (λ (s : Stage). StandsAt e k.past s) old_is k.stands) head.1 row.1
    (subst (λ (s : Stage). StandsAt e (past_head k.past (take len bytes)) s) taken_is later)
    (subst (λ (s : Stage). IsBegunBy (events.Begins request) (room_needed e c.room bytes) s new c c') taken_is did.begun) did.room_is did.payload_is
kept-after l e old taken new c c' d d' bytes len events.Data k (some, h, missing, missing', old_is, taken_is, later) did other =
    kept-data e k.past c c' bytes (take len bytes) h missing missing' taken new (subst (λ (s : Stage). IsKeptAt s k.past.part c) old_is k.kept)
    (subst (λ (s : Stage). StandsAt e (past_data k.past (take len bytes)) s) taken_is later) (did.begun.0 ∙ taken_is) did.begun.1 did.room_is did.payload_is
kept-after l e old taken new c c' d d' bytes len events.Skipped k (some, h, error, missing, part, verdict, taken_is, later) did other =
    kept-at e taken new _ c' did.begun later
    (subst (λ (s : Stage). IsKeptAt s part c') (sym taken_is) (did.payload_is ∙ none-refused e old k.past.part c h error k.kept verdict, has-room c'.room _ did.room_is))
kept-after l e old taken new c c' d d' bytes len (events.Came request) k (m, whole, is, verdict, later) did other =
    let done = kept-whole e k.past old taken (take len bytes) m c' k.stands whole later did.payload_is did.room_is in
    kept-at e taken new done.past c' did.begun done.stands done.kept
kept-after l e old taken new c c' d d' bytes len (events.Refused error handle) k (m, whole, is, verdict, later) did other =
    let none = did.payload_is ∙ none-refused e old k.past.part c m.head error k.kept verdict in
    let done = kept-whole e k.past old taken (take len bytes) m c' k.stands whole later none did.room_is in
    kept-at e taken new done.past c' did.begun done.stands done.kept
kept-after l e old taken new c c' d d' bytes len events.Disconnected k (m, disc, taken_is, later) did other =
    kept-at e taken new _ c' did.begun later (subst (λ (s : Stage). IsKeptAt s [] c') (sym taken_is) tt)
kept-after l e old taken new c c' d d' bytes len events.BadMagic k (none, old_is, taken_is, later, unread) did other =
    kept-at e taken new k.past c' did.begun later (subst (λ (s : Stage). IsKeptAt s k.past.part c') (sym taken_is) tt)
kept-after l e old taken new c c' d d' bytes len events.Ended k (none, old_is, taken_is) did other =
    kept-at e old new k.past c' (did.begun ∙ taken_is ∙ sym old_is) k.stands (subst (λ (s : Stage). IsKeptAt s k.past.part c') (sym old_is) tt)

stage-of : (event : Event) (room : ℕ) (taken new : Stage) (c c' : Coming) → IsBegunBy event room taken new c c' → IsStageOf event taken new
stage-of events.More room taken new c c' b = b
stage-of (events.Begins request) room taken new c c' (inl b) = inl b.0
stage-of (events.Begins request) room taken new c c' (inr b) = inr b
stage-of events.Data room taken new c c' b = b.0
stage-of events.Skipped room taken new c c' b = b
stage-of (events.Came request) room taken new c c' b = b
stage-of (events.Refused error handle) room taken new c c' b = b
stage-of events.Disconnected room taken new c c' b = b
stage-of events.BadMagic room taken new c c' b = b
stage-of events.Ended room taken new c c' b = b

-- what was done is what is taken of the bytes that came
pub takes-by : (e : Export) (event : Event) (old taken new : Stage) (bytes unread unread' : List ℕ) (len room : ℕ) (c c' : Coming) (d d' : DeskState) → bytes ≡ unread
    → ((past : Past) → StandsAt e past old → Follows e past old bytes len event taken) → Did event (take len bytes) room taken new c c' d d' → unread' ≡ drop len unread
    → Takes e event old new unread unread' c.payload.items c'.payload.items d d'
takes-by e event old taken new bytes unread unread' len room c c' d d' is follows did rest =
    subst (λ (b : List ℕ). unread' ≡ drop len b → Takes e event old new b unread' c.payload.items c'.payload.items d d') is (λ rest. record {
      len = len;
      call = did.call;
      taken = taken;
      follows = follows;
      stage_is = stage-of event room taken new c c' did.begun;
      unread_is = rest;
      payload_is = did.payload_is;
      handed = did.handed;
      desk = did.desk;
    }) rest

pub not-more : (event : Event) → is_more event ≡ false → event ≢ events.More
not-more event tested is = true≢false (sym (ap is_more is) ∙ tested)
