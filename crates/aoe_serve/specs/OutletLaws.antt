-- Replies that are taken one after the other: none, more, and no more after a failure.
use Rattle.std.proofs.Common.{◌≡◌, ◌+◌, ℕ, zero, suc, List, [], ◌∷◌, ◌++◌, length, length-append, length-take, take, Option, Some, None, refl, sym, ap, subst, ◌∙◌, append-nil, append_assoc, arith}
use Rattle.std.proofs.lemmas.Grind.{flat_map-append}
use Rattle.std.proofs.lemmas.List.{reverse-append, take-append-le, take_all}
use Rattle.std.specs.Prelude.{reverse, Ok, Err}
use Rattle.aoe_base.specs.declared.failure.Failed.{Failed}
use Rattle.aoe_io.proofs.BytesLemmas.{Took-nothing, Took-then, TookSome-then, TookSome-front}
use Rattle.aoe_io.proofs.LinkLemmas.{Added-then}
use Rattle.aoe_io.specs.Bytes.{Took, TookSome}
use Rattle.aoe_io.specs.Link.{Added, Turn}
use Rattle.aoe_io.specs.Stream.{framed, stream}
use Rattle.aoe_serve.specs.Rounds.{Counts, Keeps, LinkTook, Outcome, SinkTook, TakesOn}
use Rattle.aoe_serve.specs.Answering.{WritesTo}
use Rattle.aoe_serve.specs.Serving.{Sends}
use Rattle.aoe_serve.specs.Written.{pieces, recorded}
use Rattle.aoe_serve.specs.declared.over_stream.Format.{Format}
use Rattle.aoe_serve.specs.declared.over_stream.Format.TheVariants.{Replies, Capture}

abbrev pub Frames : Type 0
Frames = List (List ℕ)

-- Faults.

counts_none : (a : ℕ) → Counts (Ok tt) a a
counts_none a = record { later = omega arith; blame = record { cause = λ e. absurd cc; no_fault = λ untold. refl; one_fault = omega arith } }

counts_more : (result : Outcome) (a b c : ℕ) → Counts (Ok tt) a b → Counts result b c → Counts result a c
counts_more result a b c one two = subst (λ (n : ℕ). Counts result n c) (one.blame.no_fault (λ e. cc)) two

pub same_faults : (result : Outcome) (a b : ℕ) → result ≡ Ok tt → Counts result a b → b ≡ a
same_faults result a b is counts = let P : Outcome → Type 0 = λ r. Counts r a b in (subst P is counts).blame.no_fault (λ e. cc)

-- Bytes.

pub stream-append : (xs ys : Frames) → stream (xs ++ ys) ≡ stream xs ++ stream ys
stream-append xs ys = flat_map-append framed xs ys

pub pieces-append : (format : Format) (xs ys : Frames) → pieces format (xs ++ ys) ≡ pieces format xs ++ pieces format ys
pieces-append Replies xs ys = stream-append xs ys
pieces-append Capture xs ys = flat_map-append recorded xs ys

writes_more : (format : Format) (result : Outcome) (a b c : Option (List ℕ)) (xs ys : Frames) → Took a b (pieces format xs) → WritesTo result b c (pieces format ys)
    → WritesTo result a c (pieces format (xs ++ ys))
writes_more format (Ok u) a b c xs ys one two =
    subst (λ (bytes : List ℕ). Took a c bytes) (sym (pieces-append format xs ys)) (Took-then a b c (pieces format xs) (pieces format ys) one two)
writes_more format (Err e) a b c xs ys one two =
    subst (λ (bytes : List ℕ). TookSome a c bytes) (sym (pieces-append format xs ys)) (TookSome-then a b c (pieces format xs) (pieces format ys) one two)

nothing-taken : (format : Format) (held : Option (List ℕ)) → Took held held (pieces format [])
nothing-taken Replies held = Took-nothing held
nothing-taken Capture held = Took-nothing held

pub sink_none : (format : Format) (held : Option (List ℕ)) (faults : ℕ) → SinkTook format (Ok tt) held held faults faults []
sink_none format held faults = record { writes = nothing-taken format held; counts = counts_none faults }

pub sink_more : (format : Format) (result : Outcome) (a b c : Option (List ℕ)) (l m n : ℕ) (xs ys : Frames) → SinkTook format (Ok tt) a b l m xs
    → SinkTook format result b c m n ys
    → SinkTook format result a c l n (xs ++ ys)
sink_more format result a b c l m n xs ys one two =
    record { writes = writes_more format result a b c xs ys one.writes two.writes; counts = counts_more result l m n one.counts two.counts }

pub sink_over : (format : Format) (e : Failed) (a b : Option (List ℕ)) (m n : ℕ) (xs ys : Frames) → SinkTook format (Err e) a b m n xs
    → SinkTook format (Err e) a b m n (xs ++ ys)
sink_over format e a b m n xs ys one = record {
  writes = subst (λ (bytes : List ℕ). TookSome a b bytes) (sym (pieces-append format xs ys)) (TookSome-front a b (pieces format xs) (pieces format ys) one.writes);
  counts = one.counts;
}

-- Frames.

pub added_nothing : (a : Option Frames) → Added a a []
added_nothing None = refl
added_nothing (Some l) = refl

take_past : {X : Type 0} (xs ys : List X) (n m : ℕ) → m ≡ length xs + n → take m (xs ++ ys) ≡ xs ++ take n ys
take_past [] ys n m e = ap (λ (k : ℕ). take k ys) (omega (arith, e))
take_past (x ∷ xs) ys n zero e = absurd (omega (arith, e))
take_past {X} (x ∷ xs) ys n (suc m) e = ap (λ (l : List X). x ∷ l) (take_past xs ys n m (omega (arith, e)))

pub sends_more : (result : Outcome) (a b c : Option Frames) (xs ys : Frames) → Added a b (reverse xs) → Sends result b c ys → Sends result a c (xs ++ ys)
sends_more (Ok v) a b c xs ys one two = subst (λ (l : Frames). Added a c l) (sym (reverse-append xs ys)) (Added-then a b c (reverse xs) (reverse ys) one two)
sends_more (Err e) a b c xs ys one two =
    let n = two.0 in
    (length xs + n, omega (arith, two.1, length-append xs ys), subst (λ (l : Frames). Added a c l) (sym (ap reverse (take_past xs ys n (length xs + n) refl) ∙ reverse-append xs (take n ys))) (Added-then a b c (reverse xs) (reverse (take n ys)) one two.2))

sends_over : (e : Failed) (a b : Option Frames) (xs ys : Frames) → Sends {T = Unit {0}} (Err e) a b xs → Sends {T = Unit {0}} (Err e) a b (xs ++ ys)
sends_over e a b xs ys one =
    let n = one.0 in
    let front : take n (xs ++ ys) ≡ take n xs = take-append-le n xs ys (omega (arith, one.1)) in
    (n, omega (arith, one.1, length-append xs ys), subst (λ (l : Frames). Added a b (reverse l)) (sym front) one.2)

pub link_none : (taken : Option Frames) (given : Option (List Turn)) (turns faults : ℕ) → LinkTook (Ok tt) taken taken given given turns turns faults faults []
link_none taken given turns faults = record { sends = added_nothing taken; same_given = refl; same_turns = refl; counts = counts_none faults }

pub link_more : (result : Outcome) (a b c : Option Frames) (p q r : Option (List Turn)) (i j k l m n : ℕ) (xs ys : Frames)
    → LinkTook (Ok tt) a b p q i j l m xs → LinkTook result b c q r j k m n ys → LinkTook result a c p r i k l n (xs ++ ys)
link_more result a b c p q r i j k l m n xs ys one two = record {
  sends = sends_more result a b c xs ys one.sends two.sends;
  same_given = two.same_given ∙ one.same_given;
  same_turns = two.same_turns ∙ one.same_turns;
  counts = counts_more result l m n one.counts two.counts;
}

pub link_over : (e : Failed) (a b : Option Frames) (p q : Option (List Turn)) (i j m n : ℕ) (xs ys : Frames) → LinkTook (Err e) a b p q i j m n xs
    → LinkTook (Err e) a b p q i j m n (xs ++ ys)
link_over e a b p q i j m n xs ys one = record { sends = sends_over e a b xs ys one.sends; same_given = one.same_given; same_turns = one.same_turns; counts = one.counts }

-- Queues.

take_twice : {X : Type 0} (n : ℕ) (xs ys : List X) → take n (take n xs ++ ys) ≡ take n (xs ++ ys)
take_twice zero xs ys = refl
take_twice (suc n) [] ys = refl
take_twice {X} (suc n) (x ∷ xs) ys = ap (λ (l : List X). x ∷ l) (take_twice n xs ys)

pub keeps_none : (waiting : Frames) → Keeps (Ok tt) waiting waiting []
keeps_none waiting few = sym (ap (take 64) (append-nil waiting) ∙ take_all 64 waiting few)

pub keeps_more : (result : Outcome) (a b c : Frames) (xs ys : Frames) → Keeps (Ok tt) a b xs → Keeps result b c ys → Keeps result a c (xs ++ ys)
keeps_more (Ok u) a b c xs ys one two = λ few.
    let now = one few in
    two (omega (arith, ap length now, length-take 64 (a ++ xs)))
    ∙ ap (λ (l : Frames). take 64 (l ++ ys)) now
    ∙ take_twice 64 (a ++ xs) ys
    ∙ ap (take 64) (append_assoc a xs ys)
keeps_more (Err e) a b c xs ys one two = absurd two

pub keeps_over : (e : Failed) (a b : Frames) (xs ys : Frames) → Keeps (Err e) a b xs → Keeps (Err e) a b (xs ++ ys)
keeps_over e a b xs ys one = absurd one

-- What takes replies.

module _ {O : Type 0} (Took : Outcome → O → O → Frames → Type 0) (more : (result : Outcome) (a b c : O) (xs ys : Frames) → Took (Ok tt) a b xs → Took result b c ys → Took result a c (xs ++ ys))
    (over : (e : Failed) (a b : O) (xs ys : Frames) → Took (Err e) a b xs → Took (Err e) a b (xs ++ ys)) where
  pub takes_on : (given result : Outcome) (a b c : O) (xs ys : Frames) → Took given a b xs → TakesOn Took given result b c ys → Took result a c (xs ++ ys)
  takes_on (Ok u) result a b c xs ys one two = more result a b c xs ys one two
  takes_on (Err e) result a b c xs ys one two =
      subst (λ (r : Outcome). Took r a c (xs ++ ys)) (sym two.0) (subst (λ (o : O). Took (Err e) a o (xs ++ ys)) (sym two.1) (over e a b xs ys one))

  -- the same after what was taken before
  pub takes_none : ((a : O) → Took (Ok tt) a a []) → (given : Outcome) (a : O) → TakesOn Took given given a a []
  takes_none none (Ok u) a = none a
  takes_none none (Err e) a = (refl, refl)

  pub takes_more : (first given result : Outcome) (a b c : O) (xs ys : Frames) → TakesOn Took first given a b xs → TakesOn Took given result b c ys
      → TakesOn Took first result a c (xs ++ ys)
  takes_more (Ok u) given result a b c xs ys one two = takes_on given result a b c xs ys one two
  takes_more (Err e) given result a b c xs ys one two =
      let P : Outcome → Type 0 = λ g. TakesOn Took g result b c ys in
      let after : (result ≡ Err e) × (c ≡ b) = subst P one.0 two in
      (after.0, after.1 ∙ one.1)
