-- A stream is these requests with their data, and no others.
use Rattle.std.proofs.Common.{◌≡◌, ℕ, ◌+◌, ◌<◌, ◌≤◌, inl, inr, ◌⊎◌, List, [], ◌∷◌, ◌++◌, append-nil, append_assoc, length, length-append, take, drop, refl, sym, ap, ◌∙◌, arith}
use Rattle.std.specs.List.{flat_map, AllByRecursion}
use Rattle.std.proofs.lemmas.List.{take_at, drop_at}
use Rattle.aoe_nbd.specs.declared.export.Export.{Export}
use Rattle.aoe_nbd.specs.declared.request.RequestHead.{RequestHead}
use Rattle.aoe_nbd.specs.declared.transmission.Stage.{Stage}
use Rattle.aoe_nbd.specs.declared.transmission.Stage.TheVariants as stages
use Rattle.aoe_nbd.specs.Requests.{Fits, data_len, head_bytes}
use Rattle.aoe_nbd.specs.Streams.{IsBegun, IsShortRequest, IsMessage, Message, Past, StandsAt, begun, message_bytes}
use Rattle.aoe_nbd.proofs.HeadLemmas.{one-head}

-- two lists whose fronts have one length are the same front by front, and behind it
pub same-front : (f g xs ys : List ℕ) → length f ≡ length g → f ++ xs ≡ g ++ ys → (f ≡ g) × (xs ≡ ys)
same-front f g xs ys same e = (
  sym (take_at f xs (length f) refl) ∙ ap (take (length f)) e ∙ take_at g ys (length f) (sym same),
  sym (drop_at f xs (length f) refl) ∙ ap (drop (length f)) e ∙ drop_at g ys (length f) (sym same),
)

pub record SameMessage (m n : Message) (x y : List ℕ) : Type 0 where
  pub message : m ≡ n
  pub behind : x ≡ y

same-message : (m n : Message) → m.head ≡ n.head → m.payload ≡ n.payload → m ≡ n
same-message m n h p =
    let of : RequestHead → List ℕ → Message = λ h p. record { head = h; payload = p } in
    let all : of m.head m.payload ≡ of n.head n.payload = rw (h, p) refl in
    all

pub one-message : (m n : Message) (x y : List ℕ) → IsMessage m → IsMessage n → message_bytes m ++ x ≡ message_bytes n ++ y → SameMessage m n x y
one-message m n x y m_is n_is e =
    let heads = one-head m.head n.head (m.payload ++ x) (n.payload ++ y) m_is.fits n_is.fits e in
    let lens : length m.payload ≡ length n.payload = m_is.whole ∙ ap data_len heads.head ∙ sym n_is.whole in
    let parts = same-front m.payload n.payload x y lens heads.behind in
    record { message = same-message m n heads.head parts.0; behind = parts.1 }

-- less than a request with its data: less than a head, or a head and less than its data
abbrev IsPartial : List ℕ → Type 0
IsPartial rest = (length rest < 28) ⊎ ((h : RequestHead) × (some : List ℕ) × Fits h × (length some < data_len h) × (rest ≡ head_bytes h ++ some))

-- what is less than a message begins with none
pub partial-none : (x : List ℕ) (n : Message) (y : List ℕ) → IsPartial x → IsMessage n → x ≡ message_bytes n ++ y → ⊥
partial-none x n y (inl short) n_is e =
    let long : 28 + length (n.payload ++ y) ≤ length x = omega (arith, ap length e) in
    omega (arith, short, long)
partial-none x n y (inr (h, some, fits, less, is)) n_is e =
    let heads = one-head h n.head some (n.payload ++ y) fits n_is.fits (sym is ∙ e) in
    omega (arith, less, n_is.whole, ap data_len heads.head, ap length heads.behind, length-append n.payload y)

pub record SameStream (ms ns : List Message) (x y : List ℕ) : Type 0 where
  pub messages : ms ≡ ns
  pub behind : x ≡ y

pub one-stream : (ms ns : List Message) (x y : List ℕ) → AllByRecursion IsMessage ms → AllByRecursion IsMessage ns → IsPartial x → IsPartial y
    → flat_map message_bytes ms ++ x ≡ flat_map message_bytes ns ++ y → SameStream ms ns x y
one-stream [] [] x y all each x_is y_is e = record { messages = refl; behind = e }
one-stream [] (n ∷ ns) x y all each x_is y_is e =
    absurd (partial-none x n (flat_map message_bytes ns ++ y) x_is each.0 (e ∙ append_assoc (message_bytes n) (flat_map message_bytes ns) y))
one-stream (m ∷ ms) [] x y all each x_is y_is e =
    absurd (partial-none y m (flat_map message_bytes ms ++ x) y_is all.0 (sym e ∙ append_assoc (message_bytes m) (flat_map message_bytes ms) x))
one-stream (m ∷ ms) (n ∷ ns) x y all each x_is y_is e =
    let s = one-message m n (flat_map message_bytes ms ++ x) (flat_map message_bytes ns ++ y) all.0 each.0
    (sym (append_assoc (message_bytes m) (flat_map message_bytes ms) x) ∙ e ∙ append_assoc (message_bytes n) (flat_map message_bytes ns) y) in
    let rest = one-stream ms ns x y all.1 each.1 x_is y_is s.behind in
    record { messages = rw (s.message, rest.messages) refl; behind = rest.behind }

-- what came of a request that isn't whole: nothing, or its head and some of its data
abbrev IsSome : List ℕ → List ℕ → Type 0
IsSome bytes part = ((bytes ≡ []) × (part ≡ [])) ⊎ ((h : RequestHead) × Fits h × (length part < data_len h) × (bytes ≡ head_bytes h ++ part))

some-begun : (e : Export) (s : Stage) (part : List ℕ) → IsBegun e s part → IsSome (begun s part) part
some-begun e stages.Head part is = inl (refl, is)
some-begun e (stages.Data h refused missing) part is = inr (h, is.0, omega (arith, is.1, is.2), refl)
some-begun e stages.Ended part is = inl (refl, is)

some-partial : (bytes part : List ℕ) → IsSome bytes part → IsPartial bytes
some-partial bytes part (inl (none, empty)) = inl (omega (arith, ap length none))
some-partial bytes part (inr (h, fits, less, is)) = inr (h, part, fits, less, is)

some-one : (a b p q : List ℕ) → IsSome a p → IsSome b q → a ≡ b → p ≡ q
some-one a b p q (inl (a_is, p_is)) (inl (b_is, q_is)) e = p_is ∙ sym q_is
some-one a b p q (inl (a_is, p_is)) (inr (h, fits, less, is)) e = absurd (omega (arith, ap length (sym a_is ∙ e ∙ is)))
some-one a b p q (inr (h, fits, less, is)) (inl (b_is, q_is)) e = absurd (omega (arith, ap length (sym is ∙ e ∙ b_is)))
some-one a b p q (inr (h, fits, less, is)) (inr (g, fits', less', is')) e = (one-head h g p q fits fits' (sym is ∙ e ∙ is')).behind

pub one-past : (e : Export) (p q : Past) (s t : Stage) → StandsAt e p s → StandsAt e q t → p.stream ≡ q.stream → (p.messages ≡ q.messages) × (p.part ≡ q.part)
one-past e p q s t p_is q_is same =
    let one = some-begun e s p.part p_is.begins in
    let two = some-begun e t q.part q_is.begins in
    let r = one-stream p.messages q.messages (begun s p.part) (begun t q.part) p_is.each q_is.each
    (some-partial (begun s p.part) p.part one) (some-partial (begun t q.part) q.part two) (sym p_is.stream ∙ same ∙ q_is.stream) in
    (r.messages, some-one (begun s p.part) (begun t q.part) p.part q.part one two r.behind)

-- what waits is less than a request

record Waits (e : Export) (s : Stage) (part rest : List ℕ) : Type 0 where
  partial : IsPartial (begun s part ++ rest)
  kind : (length (begun s part ++ rest) < 28) × (part ≡ []) × (begun s part ≡ []) ⊎ (rest ≡ []) × IsSome (begun s part) part × (28 ≤ length (begun s part))

waits : (e : Export) (s : Stage) (part rest : List ℕ) → IsBegun e s part → IsShortRequest s rest → Waits e s part rest
waits e stages.Head part rest is less = record { partial = inl less; kind = inl (less, is, refl) }
waits e (stages.Data h refused missing) part rest is less =
    let some : length part < data_len h = omega (arith, is.1, is.2) in
    record {
      partial = inr (h, part, is.0, some, ap (λ (x : List ℕ). (head_bytes h ++ part) ++ x) less ∙ append-nil (head_bytes h ++ part));
      kind = inr (less, inr (h, is.0, some, refl), omega arith);
    }
waits e stages.Ended part rest is less = absurd less

record SameRest (p q x y : List ℕ) : Type 0 where
  part : p ≡ q
  rest : x ≡ y

same-rest : (e : Export) (s t : Stage) (p q x y : List ℕ) → Waits e s p x → Waits e t q y → begun s p ++ x ≡ begun t q ++ y → SameRest p q x y
same-rest e s t p q x y one two same =
    elim one.kind [
      | inl a ↦ elim two.kind [
        | inl b ↦ record {
          part = a.1 ∙ sym b.1;
          rest = ap (λ (z : List ℕ). z ++ x) (sym a.2) ∙ same ∙ ap (λ (z : List ℕ). z ++ y) b.2;
        }
        | inr b ↦ absurd (omega (arith, a.0, b.2, ap length same, length-append (begun t q) y))
      ]
      | inr a ↦ elim two.kind [
        | inl b ↦ absurd (omega (arith, b.0, a.2, ap length same, length-append (begun s p) x))
        | inr b ↦ record {
          part = some-one (begun s p) (begun t q) p q a.1 b.1
              (sym (append-nil (begun s p)) ∙ ap (λ (z : List ℕ). begun s p ++ z) (sym a.0) ∙ same ∙ ap (λ (z : List ℕ). begun t q ++ z) b.0 ∙ append-nil (begun t q));
          rest = a.0 ∙ sym b.0;
        }
      ]
    ]

pub one-wait : (e : Export) (p q : Past) (s t : Stage) (x y : List ℕ) → StandsAt e p s → StandsAt e q t → IsShortRequest s x → IsShortRequest t y → p.stream ++ x ≡ q.stream ++ y
    → (p.messages ≡ q.messages) × (p.part ≡ q.part) × (x ≡ y)
one-wait e p q s t x y p_is q_is x_is y_is same =
    let one = waits e s p.part x p_is.begins x_is in
    let two = waits e t q.part y q_is.begins y_is in
    let left = ap (λ (z : List ℕ). z ++ x) p_is.stream ∙ append_assoc (flat_map message_bytes p.messages) (begun s p.part) x in
    let right = ap (λ (z : List ℕ). z ++ y) q_is.stream ∙ append_assoc (flat_map message_bytes q.messages) (begun t q.part) y in
    let r = one-stream p.messages q.messages (begun s p.part ++ x) (begun t q.part ++ y) p_is.each q_is.each one.partial two.partial (sym left ∙ same ∙ right) in
    let rest = same-rest e s t p.part q.part x y one two r.behind in
    (r.messages, rest.part, rest.rest)
