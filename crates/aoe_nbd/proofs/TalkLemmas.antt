-- Where a handshake stands once an option was answered.
use Rattle.std.proofs.Common.{◌≡◌, ℕ, ◌+◌, ◌<◌, ◌≤◌, inl, inr, ◌⊎◌, List, [], ◌∷◌, ◌++◌, append-nil, append_assoc, length, length-append, get_or, take, drop, Bool, true, false, Option, Some, None, refl, sym, ap, subst, ◌∙◌, arith}
use Rattle.std.specs.Prelude.{if◌then◌else◌, ◌==◌}
use Rattle.std.specs.Int.{w32, from_be_bytes, to_be_bytes}
use Rattle.std.specs.List.{flat_map, AllByRecursion}
use Rattle.std.proofs.lemmas.List.Concat.{flat_map-append}
use Rattle.std.proofs.lemmas.Nat.{from_be_bytes-to_be_bytes_4}
use Rattle.aoe_nbd.specs.declared.export.Export.{Export}
use Rattle.aoe_nbd.specs.declared.handshake.HandshakeEvent.{HandshakeEvent}
use Rattle.aoe_nbd.specs.declared.handshake.HandshakeEvent.TheVariants as events
use Rattle.aoe_nbd.specs.declared.handshake.HandshakeStage.{HandshakeStage}
use Rattle.aoe_nbd.specs.declared.handshake.HandshakeStage.TheVariants as stages
use Rattle.aoe_nbd.specs.declared.option.OptionHead.{OptionHead}
use Rattle.aoe_nbd.specs.Options.{IsOption, ClientOption, answer_of, event_of, go_event, greeting, info_error, is_name, option_bytes, option_head_of}
use Rattle.aoe_nbd.specs.Handshakes.{IsShortOption, IsPartialOption, IsTalk, LeadsTo, Proceeds, TakesOption, Talk, greeted, stage_behind, talk_option, wants_no_zeroes}
use Rattle.aoe_nbd.proofs.OptionLemmas.{Whole, less-option, option-again, whole-head, whole-option}
use Rattle.aoe_nbd.proofs.MessageLemmas.{same-front}

-- what may come of an option
abbrev IsOfOption : HandshakeEvent → Type 0
IsOfOption events.More = ⊥
IsOfOption events.Flags = ⊥
IsOfOption events.Answered = Unit {0}
IsOfOption events.Begins = Unit {0}
IsOfOption events.Leaves = Unit {0}
IsOfOption events.Unknown = Unit {0}
IsOfOption events.Broken = ⊥
IsOfOption events.Ended = ⊥

either : (b : Bool) (x y : HandshakeEvent) → IsOfOption x → IsOfOption y → IsOfOption (if b then x else y)
either true x y x_is y_is = x_is
either false x y x_is y_is = y_is

go-is : (error : Option ℕ) → IsOfOption (go_event error)
go-is None = tt
go-is (Some error) = tt

of-option : (e : Export) (o : ClientOption) → IsOfOption (event_of e o)
of-option e o =
    either (o.code == 1) _ _ (either (is_name e o.payload) events.Begins events.Unknown tt tt)
    (either (o.code == 2) events.Leaves _ tt (either (o.code == 7) _ events.Answered (go-is (info_error e o.payload)) tt))

proceeds : (e : Export) (talk : Talk) (old : HandshakeStage) (bytes : List ℕ) (len : ℕ) (event : HandshakeEvent) (out : List ℕ) (new : HandshakeStage)
    → IsOfOption event → TakesOption e talk old (take len bytes) event out new → Proceeds e talk old bytes len event out new
proceeds e talk old bytes len events.More out new is takes = absurd is
proceeds e talk old bytes len events.Flags out new is takes = absurd is
proceeds e talk old bytes len events.Answered out new is takes = takes
proceeds e talk old bytes len events.Begins out new is takes = takes
proceeds e talk old bytes len events.Leaves out new is takes = takes
proceeds e talk old bytes len events.Unknown out new is takes = takes
proceeds e talk old bytes len events.Broken out new is takes = absurd is
proceeds e talk old bytes len events.Ended out new is takes = absurd is

led : (e : Export) (talk : Talk) (no_zeroes : Bool) (event : HandshakeEvent) → IsTalk e talk → no_zeroes ≡ wants_no_zeroes talk.flags → LeadsTo e talk (stage_behind event no_zeroes)
led e talk no_zeroes events.Answered is asked = (is, asked)
led e talk no_zeroes _ is asked = inl is

grown : (f : ClientOption → List ℕ) (x y front : List ℕ) (os : List ClientOption) (o : ClientOption) → x ≡ y ++ flat_map f os → front ≡ f o → x ++ front ≡ y ++ flat_map f (os ++ o ∷ [])
grown f x y front os o e one =
    ap (λ (x : List ℕ). x ++ front) e ∙ append_assoc y (flat_map f os) front
    ∙ ap (λ (z : List ℕ). y ++ z) (ap (λ (z : List ℕ). flat_map f os ++ z) (one ∙ sym (append-nil (f o))) ∙ sym (flat_map-append f os (o ∷ [])))

each-grown : (os : List ClientOption) (o : ClientOption) → AllByRecursion IsOption os → IsOption o → AllByRecursion IsOption (os ++ o ∷ [])
each-grown [] o all is = (is, tt)
each-grown (n ∷ os) o all is = (all.0, each-grown os o all.1 is)

talk-on : (e : Export) (talk : Talk) (no_zeroes : Bool) (front out : List ℕ) (o : ClientOption) → IsTalk e talk → no_zeroes ≡ wants_no_zeroes talk.flags → IsOption o → front ≡ option_bytes o
    → out ≡ answer_of e no_zeroes o → IsTalk e (talk_option e talk front o out)
talk-on e talk no_zeroes front out o is asked o_is front_is out_is = record {
  flags = is.flags;
  each = each-grown talk.options o is.each o_is;
  stream = grown option_bytes talk.stream (to_be_bytes w32 talk.flags) front talk.options o is.stream front_is;
  replies = grown (answer_of e (wants_no_zeroes talk.flags)) talk.replies greeting out talk.options o is.replies
      (out_is ∙ ap (λ b. answer_of e b o) asked);
}

-- an option was answered
pub takes-option : (e : Export) (talk : Talk) (old : HandshakeStage) (no_zeroes : Bool) (bytes payload : List ℕ) (h : OptionHead) (event : HandshakeEvent) (out : List ℕ) (new : HandshakeStage)
    → old ≡ stages.Options no_zeroes → ((i : ℕ) → get_or bytes i 0 < 256) → option_head_of bytes ≡ Some h → h.len ≤ 8192 → 16 + h.len ≤ length bytes
    → payload ≡ take h.len (drop 16 bytes) → event ≡ event_of e (record { code = h.code; payload = payload })
    → out ≡ answer_of e no_zeroes (record { code = h.code; payload = payload }) → new ≡ stage_behind event no_zeroes
    → LeadsTo e talk old → Proceeds e talk old bytes (16 + h.len) event out new
takes-option e talk old no_zeroes bytes payload h event out new old_is small some few long payload_is event_is out_is new_is leads =
    let o : ClientOption = record { code = h.code; payload = payload } in
    let P : HandshakeStage → Type 0 = λ old. LeadsTo e talk old in
    let here = subst P old_is leads in
    let W : List ℕ → Type 0 = λ payload. Whole h bytes payload in
    let w = subst W (sym payload_is) (whole-option bytes h small some few long) in
    let is = talk-on e talk no_zeroes (take (16 + h.len) bytes) out o here.0 here.1 w.is w.bytes out_is in
    let Q : HandshakeStage → Type 0 = λ new. LeadsTo e (talk_option e talk (take (16 + h.len) bytes) o out) new in
    let R : HandshakeEvent → Type 0 = λ event. IsOfOption event in
    proceeds e talk old bytes (16 + h.len) event out new (subst R (sym event_is) (of-option e o)) (record {
      option = o;
      no_zeroes = no_zeroes;
      stage = old_is;
      event_is = event_is;
      out_is = out_is;
      new_is = new_is;
      leads = subst Q (sym new_is) (led e (talk_option e talk (take (16 + h.len) bytes) o out) no_zeroes event is here.1);
    })

-- an option that isn't whole
pub less : (old : HandshakeStage) (no_zeroes : Bool) (bytes : List ℕ) (h : OptionHead) → old ≡ stages.Options no_zeroes → ((i : ℕ) → get_or bytes i 0 < 256)
    → option_head_of bytes ≡ Some h → h.len ≤ 8192 → length bytes < 16 + h.len → IsShortOption old bytes
less old no_zeroes bytes h old_is small some few short =
    let P : HandshakeStage → Type 0 = λ old. IsShortOption old bytes in subst P (sym old_is) (less-option bytes h small some few short)

-- one stream is one talk

record SameOption (o p : ClientOption) (x y : List ℕ) : Type 0 where
  option : o ≡ p
  behind : x ≡ y

same-option : (o p : ClientOption) → o.code ≡ p.code → o.payload ≡ p.payload → o ≡ p
same-option o p c l =
    let of : ℕ → List ℕ → ClientOption = λ c l. record { code = c; payload = l } in
    let all : of o.code o.payload ≡ of p.code p.payload = rw (c, l) refl in
    all

head-is : (h g : OptionHead) → Some h ≡ Some g → h ≡ g
head-is h g e = cc

one-option : (o p : ClientOption) (x y : List ℕ) → IsOption o → IsOption p → option_bytes o ++ x ≡ option_bytes p ++ y → SameOption o p x y
one-option o p x y o_is p_is e =
    let heads = head-is (record { code = o.code; len = length o.payload }) (record { code = p.code; len = length p.payload })
    (sym (whole-head o x o_is) ∙ ap option_head_of e ∙ whole-head p y p_is) in
    let behind : o.payload ++ x ≡ p.payload ++ y = ap (drop 16) e in
    let parts = same-front o.payload p.payload x y (ap (λ (h : OptionHead). h.len) heads) behind in
    record { option = same-option o p (ap (λ (h : OptionHead). h.code) heads) parts.0; behind = parts.1 }

-- what is less than an option begins with none
partial-none : (x : List ℕ) (o : ClientOption) (y : List ℕ) → IsPartialOption x → IsOption o → x ≡ option_bytes o ++ y → ⊥
partial-none x o y (inl short) is e = omega (arith, short, ap length e)
partial-none x o y (inr (h, some, code, few, less, is)) o_is e =
    let heads = head-is h (record { code = o.code; len = length o.payload })
    (sym (option-again h some code (omega (arith, few))) ∙ ap option_head_of (sym is ∙ e) ∙ whole-head o y o_is) in
    let behind : some ≡ o.payload ++ y = ap (drop 16) (sym is ∙ e) in
    omega (arith, less, ap (λ (h : OptionHead). h.len) heads, ap length behind, length-append o.payload y)

record SameOptions (os ps : List ClientOption) (x y : List ℕ) : Type 0 where
  options : os ≡ ps
  behind : x ≡ y

one-list : (os ps : List ClientOption) (x y : List ℕ) → AllByRecursion IsOption os → AllByRecursion IsOption ps → IsPartialOption x → IsPartialOption y
    → flat_map option_bytes os ++ x ≡ flat_map option_bytes ps ++ y → SameOptions os ps x y
one-list [] [] x y all each x_is y_is e = record { options = refl; behind = e }
one-list [] (p ∷ ps) x y all each x_is y_is e =
    absurd (partial-none x p (flat_map option_bytes ps ++ y) x_is each.0 (e ∙ append_assoc (option_bytes p) (flat_map option_bytes ps) y))
one-list (o ∷ os) [] x y all each x_is y_is e =
    absurd (partial-none y o (flat_map option_bytes os ++ x) y_is all.0 (sym e ∙ append_assoc (option_bytes o) (flat_map option_bytes os) x))
one-list (o ∷ os) (p ∷ ps) x y all each x_is y_is e =
    let one = one-option o p (flat_map option_bytes os ++ x) (flat_map option_bytes ps ++ y) all.0 each.0
    (sym (append_assoc (option_bytes o) (flat_map option_bytes os) x) ∙ e ∙ append_assoc (option_bytes p) (flat_map option_bytes ps) y) in
    let rest = one-list os ps x y all.1 each.1 x_is y_is one.behind in
    record { options = rw (one.option, rest.options) refl; behind = rest.behind }

same-talk : (p q : Talk) → p.stream ≡ q.stream → p.flags ≡ q.flags → p.options ≡ q.options → p.replies ≡ q.replies → p ≡ q
same-talk p q s f o r =
    let of : List ℕ → ℕ → List ClientOption → List ℕ → Talk = λ s f o r. record { stream = s; flags = f; options = o; replies = r } in
    let all : of p.stream p.flags p.options p.replies ≡ of q.stream q.flags q.options q.replies = rw (s, f, o, r) refl in
    all

flags-back : (flags : ℕ) (rest : List ℕ) → flags < 4 → from_be_bytes w32 (take 4 (to_be_bytes w32 flags ++ rest)) ≡ flags
flags-back flags rest small = from_be_bytes-to_be_bytes_4 flags (omega arith)

record SameTalk (p q : Talk) (x y : List ℕ) : Type 0 where
  talk : p ≡ q
  behind : x ≡ y

two-talks : (e : Export) (p q : Talk) (x y : List ℕ) → IsTalk e p → IsTalk e q → IsPartialOption x → IsPartialOption y → p.stream ++ x ≡ q.stream ++ y → SameTalk p q x y
two-talks e p q x y p_is q_is x_is y_is same =
    let left = ap (λ (z : List ℕ). z ++ x) p_is.stream ∙ append_assoc (to_be_bytes w32 p.flags) (flat_map option_bytes p.options) x in
    let right = ap (λ (z : List ℕ). z ++ y) q_is.stream ∙ append_assoc (to_be_bytes w32 q.flags) (flat_map option_bytes q.options) y in
    let whole = sym left ∙ same ∙ right in
    let flags : p.flags ≡ q.flags =
    sym (flags-back p.flags (flat_map option_bytes p.options ++ x) p_is.flags) ∙ ap (λ f. from_be_bytes w32 (take 4 f)) whole
    ∙ flags-back q.flags (flat_map option_bytes q.options ++ y) q_is.flags in
    let r = one-list p.options q.options x y p_is.each q_is.each x_is y_is (ap (drop 4) whole) in
    let stream : ℕ → List ClientOption → List ℕ = λ flags os. to_be_bytes w32 flags ++ flat_map option_bytes os in
    let said : ℕ → List ClientOption → List ℕ = λ flags os. greeting ++ flat_map (answer_of e (wants_no_zeroes flags)) os in
    let streams : p.stream ≡ q.stream =
    p_is.stream ∙ ap (λ f. stream f p.options) flags ∙ ap (λ os. stream q.flags os) r.options ∙ sym q_is.stream in
    let replies : p.replies ≡ q.replies =
    p_is.replies ∙ ap (λ f. said f p.options) flags ∙ ap (λ os. said q.flags os) r.options ∙ sym q_is.replies in
    record { talk = same-talk p q streams flags r.options replies; behind = r.behind }

some-talk : (e : Export) (p : Talk) (s : HandshakeStage) → LeadsTo e p s → IsTalk e p ⊎ (p ≡ greeted)
some-talk e p stages.Flags is = inr is
some-talk e p (stages.Options no_zeroes) is = inl is.0
some-talk e p stages.Over is = is

not-greeted : (e : Export) (p q : Talk) → IsTalk e p → q ≡ greeted → p.stream ≡ q.stream → ⊥
not-greeted e p q p_is q_is same = let none = ap (λ (q : Talk). q.stream) q_is in let whole = sym p_is.stream ∙ same ∙ none in absurd (cc)

one-by : (e : Export) (p q : Talk) → IsTalk e p ⊎ (p ≡ greeted) → IsTalk e q ⊎ (q ≡ greeted) → p.stream ≡ q.stream → p ≡ q
one-by e p q (inl p_is) (inl q_is) same =
    (two-talks e p q [] [] p_is q_is (inl (omega arith)) (inl (omega arith)) (ap (λ (z : List ℕ). z ++ []) same)).talk
one-by e p q (inl p_is) (inr q_is) same = absurd (not-greeted e p q p_is q_is same)
one-by e p q (inr p_is) (inl q_is) same = absurd (not-greeted e q p q_is p_is (sym same))
one-by e p q (inr p_is) (inr q_is) same = p_is ∙ sym q_is

pub one-talk : (e : Export) (p q : Talk) (s t : HandshakeStage) → LeadsTo e p s → LeadsTo e q t → p.stream ≡ q.stream → p ≡ q
one-talk e p q s t p_is q_is same = one-by e p q (some-talk e p s p_is) (some-talk e q t q_is) same

-- the first bytes of a talk are the client's flags
not-flags : (e : Export) (p q : Talk) (x y : List ℕ) → IsTalk e p → q ≡ greeted → length y < 4 → p.stream ++ x ≡ q.stream ++ y → ⊥
not-flags e p q x y p_is q_is short same =
    let none = ap (λ (q : Talk). q.stream ++ y) q_is in
    let whole = ap (λ (z : List ℕ). z ++ x) (sym p_is.stream) ∙ same ∙ none in
    omega (arith, short, ap length whole)

pub one-wait : (e : Export) (p q : Talk) (s t : HandshakeStage) (x y : List ℕ) → LeadsTo e p s → LeadsTo e q t → IsShortOption s x → IsShortOption t y
    → p.stream ++ x ≡ q.stream ++ y → (p ≡ q) × (x ≡ y)
one-wait e p q stages.Flags stages.Flags x y p_is q_is x_is y_is same =
    let none : Talk → List ℕ → List ℕ = λ p x. p.stream ++ x in
    (p_is ∙ sym q_is, ap (λ p. none p x) (sym p_is) ∙ same ∙ ap (λ q. none q y) q_is)
one-wait e p q stages.Flags (stages.Options b) x y p_is q_is x_is y_is same = absurd (not-flags e q p y x q_is.0 p_is x_is (sym same))
one-wait e p q (stages.Options a) stages.Flags x y p_is q_is x_is y_is same = absurd (not-flags e p q x y p_is.0 q_is y_is same)
one-wait e p q (stages.Options a) (stages.Options b) x y p_is q_is x_is y_is same =
    let r = two-talks e p q x y p_is.0 q_is.0 x_is y_is same in (r.talk, r.behind)
one-wait e p q stages.Over t x y p_is q_is x_is y_is same = absurd x_is
one-wait e p q s stages.Over x y p_is q_is x_is y_is same = absurd y_is
