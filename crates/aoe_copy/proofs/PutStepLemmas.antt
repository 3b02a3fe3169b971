-- What each step changes of what a copy into a device keeps and is true of: what is read and submitted.
use Rattle.std.proofs.Common.{ℕ, suc, ◌≡◌, ◌+◌, ◌*◌, ◌%◌, ◌<◌, ◌≤◌, ◌&&◌, Bool, true, false, nat_eq, nat_lt, List, [], ◌∷◌, ◌++◌, length, Option, refl, sym, ap, ◌∙◌, arith, inl, inr, append_assoc, append-nil, length-append}
use Rattle.std.specs.Prelude.{◌≢◌, ◌⊎◌, IfErr, OnOk, Ok, Err, Result, if◌then◌else◌}
use Rattle.std.proofs.lemmas.Bool.{and_parts, cases_Bool, cases_lt, eqb-true, lt-ltb, ltb-true}
use Rattle.std.proofs.lemmas.List.{nil_from_length}
use Rattle.aoe_block.specs.Steps.{asked, has_ticked, log_of, open_of, ops, outcomes, owns, quiet_turns, AreSteps, GoesOn, HasSeen, Seen}
use Rattle.aoe_block.specs.Steps.Step.{own, submits}
use Rattle.aoe_block.proofs.OpenLemmas.{open-submits, pending-open}
use Rattle.aoe_block.proofs.StepLemmas.{drives-own, drives-submits, seen-own, seen-submits}
use Rattle.aoe_initiator.specs.declared.op.Op.TheVariants as op
use Rattle.aoe_io.proofs.BytesLemmas.{Gave-then}
use Rattle.aoe_io.specs.Bytes.{GaveSome, IsEnded}
use Rattle.aoe_tools.specs.declared.end.ToolRefusal.TheVariants as tool
use Rattle.aoe_copy.specs.declared.end.CopyRefusal.{CopyRefusal}
use Rattle.aoe_copy.specs.declared.end.CopyRefusal.TheVariants as copy
use Rattle.aoe_copy.specs.declared.putting.Putting.{Putting}
use Rattle.aoe_copy.specs.declared.putting.Stage.{Stage}
use Rattle.aoe_copy.specs.declared.putting.Stage.TheVariants as stage
use Rattle.aoe_copy.specs.Feed.{ahead, Feeds, IsPiece}
use Rattle.aoe_copy.specs.PutRuns.{EndsBy, HasFed, HasPut, IsReadOut, PutSeen, IsLean as IsLeanAll}
use Rattle.aoe_copy.specs.PutSteps.{has_flush, pieces, rest_of, room_after, stage_at_end, stage_fed, stage_of, write_after, written, Fed, IsFilled, IsPart, MayFlush, MayRead, NothingLeft, PutLaw, PutStep}
use Rattle.aoe_copy.specs.PutSteps.Fed.{ends, exceeds}
use Rattle.aoe_copy.specs.Putting.{end_in, end_of, flushes_left, is_ended, is_reading, left_of, may_flush, may_read, room_of, stage_behind, stage_past, Asked, Ended, FlushesOne, IsLean, IsOver, IsRest, Keeps, ReadsOn, Setting, Stands, WritesOne, WritesSome}
use Rattle.aoe_copy.specs.Steps.{patience}
use Rattle.aoe_copy.specs.Window.{most_open}

pub asked-self : {c : Setting} {seen : PutSeen} {steps : List PutStep} {x : Putting} → Stands c seen (ahead x.feed) steps → Keeps c steps x
    → has_ticked steps ≡ true → Asked c seen steps x
asked-self {c} {steps = steps} stands keeps ticked = record {
  steps' = steps;
  stands = stands;
  keeps = keeps;
  outcomes_are = refl;
  quiet_is = refl;
  ticked = ticked;
  left_is = omega arith;
}

abbrev pub asked-then : {c : Setting} {seen seen' : PutSeen} {steps : List PutStep} {x y : Putting} (w : Asked c seen steps x) → Asked c seen' w.steps' y
    → Asked c seen' steps y
asked-then w v = record {
  steps' = v.steps';
  stands = v.stands;
  keeps = v.keeps;
  outcomes_are = v.outcomes_are ∙ w.outcomes_are;
  quiet_is = v.quiet_is ∙ w.quiet_is;
  ticked = v.ticked;
  left_is = omega (arith, w.left_is, v.left_is);
}

-- no outcome came, so the copy still goes on
pub goes-on : {c : Setting} {seen : PutSeen} {steps : List PutStep} {x : Putting} (w : Asked c seen steps x) → GoesOn steps → GoesOn w.steps'
goes-on w well = rw w.outcomes_are well

-- stages
pub reading-is : (s : Stage) → is_reading s ≡ true → s ≡ stage.Reading
reading-is stage.Reading e = refl
reading-is stage.Ended e = absurd cc
reading-is stage.Broken e = absurd cc
reading-is stage.Beyond e = absurd cc
reading-is stage.Flushing e = absurd cc

pub ended-is : (s : Stage) → is_ended s ≡ true → s ≡ stage.Ended
ended-is stage.Reading e = absurd cc
ended-is stage.Ended e = refl
ended-is stage.Broken e = absurd cc
ended-is stage.Beyond e = absurd cc
ended-is stage.Flushing e = absurd cc

is-zero : (n : ℕ) → n ≡ 0 → nat_eq n 0 ≡ true
is-zero n none = rw none refl

not-zero : (n : ℕ) → 0 < n → nat_eq n 0 ≡ false
not-zero n some = elim (cases_Bool (nat_eq n 0)) [ inl none ↦ absurd (omega (arith, eqb-true n 0 none, some)) | inr is ↦ is ]

behind-is : (rest : List ℕ) (n : ℕ) → length rest ≡ n → stage_behind n ≡ stage_at_end rest
behind-is [] n is = rw (is-zero n (omega (arith, is))) refl
behind-is (b ∷ rest) n is = rw (not-zero n (omega (arith, is))) refl

-- a rest of the front
pub lean-all : {c : Setting} {seen : PutSeen} {a : List ℕ} {steps : List PutStep} → Stands c seen a steps → IsLeanAll c.put.front (written steps) (rest_of steps ++ a)
lean-all {c} {a = a} {steps} s = elim s.lean [
  | inl none ↦ inl (omega (arith, length-append (rest_of steps) a, ap (λ (l : List ℕ). length l) none.0, none.1))
  | inr front ↦ inr (omega (arith, length-append (rest_of steps) a, front))
]

-- a copy ends so
pub over-all : (st : Stage) (left : Option (List ℕ)) (rest a : List ℕ) → IsOver st left a → IsReadOut st left (rest ++ a) rest
over-all stage.Reading left rest a e = record {}
over-all stage.Ended left rest a e = (e.0, ap (λ (l : List ℕ). rest ++ l) e.1 ∙ append-nil rest)
over-all stage.Broken left rest a e = (e.0, ap (λ (l : List ℕ). rest ++ l) e.1 ∙ append-nil rest)
over-all stage.Beyond left rest a e = record {}
over-all stage.Flushing left rest a e = (e.0, ap (λ (l : List ℕ). rest ++ l) e.1 ∙ append-nil rest)

over-reading : (st : Stage) (left : Option (List ℕ)) (behind rest : List ℕ) → st ≡ stage.Reading → IsReadOut st left behind rest
over-reading stage.Reading left behind rest e = record {}
over-reading stage.Ended left behind rest e = absurd cc
over-reading stage.Broken left behind rest e = absurd cc
over-reading stage.Beyond left behind rest e = absurd cc
over-reading stage.Flushing left behind rest e = absurd cc

abbrev pub ended-as : {c : Setting} {seen : PutSeen} {a : List ℕ} {steps : List PutStep} {result : Result Unit CopyRefusal} → Stands c seen a steps
    → EndsBy result c.put.start c.put.plan c.put.flush c.put.turns seen.left steps (rest_of steps ++ a) → Ended result c seen
ended-as {seen = seen} {a} {steps} s by = record {
  steps = steps;
  are = s.are;
  behind = rest_of steps ++ a;
  seen_is = s.seen_is;
  lean = λ other. lean-all s;
  over = over-all (stage_of steps) seen.left (rest_of steps) a s.over;
  ends = by;
}

-- what is used of an input
module _ {front : List ℕ} {before left : Option (List ℕ)} {used a : List ℕ} (h : HasFed front before left used a) where
  pub fed-more : {left' : Option (List ℕ)} {a' bytes : List ℕ} → Feeds left left' a a' bytes → HasFed front before left' used (bytes ++ a')
  fed-more {left'} {a'} {bytes} f = record {
    fed = h.fed ++ f.fed;
    gave = Gave-then before left left' h.fed f.fed h.gave f.gave;
    all = sym (append_assoc front h.fed f.fed) ∙ ap (λ (l : List ℕ). l ++ f.fed) h.all ∙ append_assoc used a f.fed ∙ ap (λ (l : List ℕ). used ++ l) f.all;
  }

  pub fed-some : {left' : Option (List ℕ)} → (g : GaveSome left left') → HasFed front before left' used (a ++ g.0)
  fed-some {left'} g = record {
    fed = h.fed ++ g.0;
    gave = Gave-then before left left' h.fed g.0 h.gave g.1;
    all = sym (append_assoc front h.fed g.0) ∙ ap (λ (l : List ℕ). l ++ g.0) h.all ∙ append_assoc used a g.0;
  }

pub fed-used : {front : List ℕ} {before left : Option (List ℕ)} {used rest : List ℕ} (bytes : List ℕ) → HasFed front before left used (bytes ++ rest)
    → HasFed front before left (used ++ bytes) rest
fed-used {used = used} {rest} bytes h = record { fed = h.fed; gave = h.gave; all = h.all ∙ sym (append_assoc used bytes rest) }

-- steps of which link and clock tell nothing, after which so much was used
put-fed : {before : PutSeen} {seen : Seen} {left left' : Option (List ℕ)} {front behind behind' : List ℕ} {steps : List PutStep} (steps' : List PutStep)
    → HasPut before (record { link = seen; left = left }) front steps behind → (HasSeen before.link seen steps → HasSeen before.link seen steps')
    → HasFed front before.left left' (written steps') behind' → HasPut before (record { link = seen; left = left' }) front steps' behind'
put-fed steps' s seen_so fed = record { seen_is = seen_so s.seen_is; fed = fed }

module _ {c : Setting} {seen : PutSeen} {a : List ℕ} {steps : List PutStep} {x : Putting} (s : Stands c seen a steps) (k : Keeps c steps x) where
  pub may-read : may_read x ≡ true → MayRead c.put.start c.put.plan steps
  may-read may =
      let both = and_parts (is_reading x.stage) (nat_lt (length x.host.pending) most_open) may in
      let reads : stage_of steps ≡ stage.Reading = sym k.stage_is ∙ reading-is x.stage both.0 in
      record { reads = reads; full = s.full reads; few = omega (arith, pending-open k.drives.matches, ltb-true _ _ both.1) }

  pub may-be-flushed : may_flush x ≡ true → MayFlush c.put.start c.put.flush steps
  may-be-flushed may =
      let all = and_parts x.flush (is_ended x.stage && nat_eq (length x.host.pending) 0) may in
      let both = and_parts (is_ended x.stage) (nat_eq (length x.host.pending) 0) all.1 in
      record {
        wanted = sym k.flush_is ∙ all.0;
        ended = sym k.stage_is ∙ ended-is x.stage both.0;
        none_open = omega (arith, pending-open k.drives.matches, eqb-true (length x.host.pending) 0 both.1);
      }

  -- nothing more may be submitted, and the copy isn't over
  pub filled : may_read x ≢ true → may_flush x ≡ false → end_of x ≡ Ok false → IsFilled c.put.start steps
  filled no_read no_flush more = elim (cases_lt (length x.host.pending) most_open) [
    | inl few ↦ elim (cases_lt 0 (length x.host.pending)) [
      | inl some ↦ inr (by x.stage k.stage_is (lt-ltb _ _ few) no_read (omega (arith, some, pending-open k.drives.matches)))
      | inr none ↦ absurd (
          let no : length x.host.pending ≡ 0 = omega (arith, none) in
          let few_b = lt-ltb _ _ few in
          let none_b = is-zero (length x.host.pending) no in
          over-none x.flush x.stage (length x.host.pending) none_b (lt-ltb _ _ few) no_read no_flush more
          )
    ]
    | inr full ↦ inl (omega (arith, full, pending-open k.drives.matches))
  ]
    where
      by : (st : Stage) → st ≡ stage_of steps → nat_lt (length x.host.pending) most_open ≡ true
          → (is_reading st && nat_lt (length x.host.pending) most_open) ≢ true → 0 < open_of c.put.start steps
          → NothingLeft (stage_of steps) (open_of c.put.start steps)
      by stage.Reading e few no_read some = absurd (no_read few)
      by stage.Ended e few no_read some = rw (← e) some
      by stage.Broken e few no_read some = rw (← e) some
      by stage.Beyond e few no_read some = rw (← e) some
      by stage.Flushing e few no_read some = rw (← e) some

      over-none : (flush : Bool) (st : Stage) (n : ℕ) → nat_eq n 0 ≡ true → nat_lt n most_open ≡ true → (is_reading st && nat_lt n most_open) ≢ true
          → (flush && (is_ended st && nat_eq n 0)) ≡ false → (if nat_eq n 0 then end_in flush st x.reached else Ok false) ≡ Ok false → ⊥
      over-none flush stage.Reading n none few no_read no_flush e = no_read few
      over-none true stage.Ended n none few no_read no_flush e = absurd (let no = rw none at no_flush in cc)
      over-none false stage.Ended n none few no_read no_flush e = absurd (let no = rw none at e in cc)
      over-none flush stage.Broken n none few no_read no_flush e = absurd (let no = rw none at e in cc)
      over-none flush stage.Beyond n none few no_read no_flush e = absurd (let no = rw none at e in cc)
      over-none flush stage.Flushing n none few no_read no_flush e = absurd (let no = rw none at e in cc)

pub room-is : {c : Setting} {steps : List PutStep} {x : Putting} → Keeps c steps x → room_of x ≡ room_after c.put.plan (pieces steps)
room-is k = rw (k.plan_is, k.reached_is) refl

-- what is left of the input isn't kept by its place
pub keeps-fed : {c : Setting} {steps : List PutStep} {x y : Putting} → Keeps c steps x → y ≡ record x { feed = y.feed } → Keeps c steps y
keeps-fed k is = rw is (record {
  plan_is = k.plan_is;
  flush_is = k.flush_is;
  drives = k.drives;
  reached_is = k.reached_is;
  stage_is = k.stage_is;
})

-- a piece of the input was read behind steps in which it goes on
module _ {c : Setting} {seen : Seen} {left left' : Option (List ℕ)} {a a' : List ℕ} {steps : List PutStep} {want behind : ℕ} {sectors : List ℕ}
    (s : Stands c (record { link = seen; left = left }) a steps) (reads : stage_of steps ≡ stage.Reading) (p : IsPiece want left left' a a' sectors behind) where
  nothing-behind : rest_of steps ≡ []
  nothing-behind = rw reads at s.rest

  fed-so : HasFed c.put.front c.before.left left (written steps) a
  fed-so = rw nothing-behind at s.seen_is.fed

  pub piece-fed : HasFed c.put.front c.before.left left' (written steps) ((sectors ++ p.rest) ++ a')
  piece-fed = fed-more fed-so p.feeds

  pub piece-used : HasFed c.put.front c.before.left left' (written steps ++ sectors) (p.rest ++ a')
  piece-used =
      let h = piece-fed in
      fed-used sectors (record { fed = h.fed; gave = h.gave; all = h.all ∙ ap (λ (l : List ℕ). written steps ++ l) (append_assoc sectors p.rest a') })

  sum : length a + length p.feeds.fed ≡ length sectors + behind + length a'
  sum = omega (
    arith,
    length-append a p.feeds.fed,
    length-append (sectors ++ p.rest) a',
    length-append sectors p.rest,
    p.rest_is,
    ap (λ (l : List ℕ). length l) p.feeds.all,
  )

  -- how much was read and not used
  lean-so : (length a' ≡ 0) ⊎ (length (written steps) + length sectors + behind + length a' ≤ length c.put.front)
  lean-so = elim p.feeds.lean [
    | inl none ↦ elim s.lean [
      | inl empty ↦ inl (omega (arith, sum, ap (λ (l : List ℕ). length l) none, ap (λ (l : List ℕ). length l) empty.0))
      | inr front ↦ inr (omega (arith, sum, ap (λ (l : List ℕ). length l) none, ap (λ (l : List ℕ). length l) nothing-behind, front))
    ]
    | inr empty ↦ inl (ap (λ (l : List ℕ). length l) empty)
  ]

  pub piece-lean : IsLean c.put.front (written steps ++ sectors) p.rest a'
  piece-lean = elim lean-so [
    | inl empty ↦ inl (nil_from_length a' empty, omega (arith, p.rest_is, p.less))
    | inr front ↦ inr (omega (arith, length-append (written steps) sectors, p.rest_is, front))
  ]

  pub piece-lean-past : want ≤ 512 → IsLean c.put.front (written steps) (sectors ++ p.rest) a'
  piece-lean-past few = elim lean-so [
    | inl empty ↦ inl (nil_from_length a' empty, omega (arith, length-append sectors p.rest, p.rest_is, p.most, few))
    | inr front ↦ inr (omega (arith, length-append sectors p.rest, p.rest_is, front))
  ]

  -- there is no memory to submit it
  pub ends-unsubmitted : want ≤ 8704 → GoesOn steps → MayRead c.put.start c.put.plan steps
      → Ended (Err (copy.Tool tool.NoMemory)) c (record { link = seen; left = left' })
  ends-unsubmitted few well may = record {
    steps = steps;
    are = s.are;
    behind = (sectors ++ p.rest) ++ a';
    seen_is = put-fed steps s.seen_is (λ h. h) piece-fed;
    lean = λ other. elim lean-so [
      | inl empty ↦ inl (omega (arith, length-append (sectors ++ p.rest) a', length-append sectors p.rest, p.rest_is, p.most, few, empty))
      | inr front ↦ inr (omega (arith, length-append (sectors ++ p.rest) a', length-append sectors p.rest, p.rest_is, front))
    ];
    over = over-reading (stage_of steps) left' ((sectors ++ p.rest) ++ a') (rest_of steps) may.reads;
    ends = (well, inl may);
  }

-- the source failed
pub ends-source : {c : Setting} {seen : Seen} {left left' : Option (List ℕ)} {a : List ℕ} {steps : List PutStep}
    → Stands c (record { link = seen; left = left }) a steps → GoesOn steps → MayRead c.put.start c.put.plan steps → GaveSome left left'
    → Ended (Err copy.SourceFault) c (record { link = seen; left = left' })
ends-source {left' = left'} {a} {steps} s well may some = record {
  steps = steps;
  are = s.are;
  behind = (rest_of steps ++ a) ++ some.0;
  seen_is = put-fed steps s.seen_is (λ h. h) (fed-some s.seen_is.fed some);
  lean = λ other. absurd (other refl);
  over = over-reading (stage_of steps) left' ((rest_of steps ++ a) ++ some.0) (rest_of steps) may.reads;
  ends = (well, may);
}

-- nothing more was read
pub ends-unread : {c : Setting} {seen : Seen} {left left' : Option (List ℕ)} {a : List ℕ} {steps : List PutStep} (refusal : CopyRefusal)
    → Stands c (record { link = seen; left = left }) a steps → GoesOn steps → MayRead c.put.start c.put.plan steps → GaveSome left left'
    → (refusal ≢ copy.SourceFault → (refusal ≡ copy.Tool tool.NoMemory) × (left' ≡ left)) → Ended (Err refusal) c (record { link = seen; left = left' })
ends-unread {c} {seen} {left} {left'} refusal s well may some memory = by refusal memory
  where
    other : (r : CopyRefusal) → (r ≡ copy.Tool tool.NoMemory) × (left' ≡ left) → Ended (Err r) c (record { link = seen; left = left' })
    other r why = rw (why.0, why.1) (ended-as s (well, inl may))

    by : (r : CopyRefusal) → (r ≢ copy.SourceFault → (r ≡ copy.Tool tool.NoMemory) × (left' ≡ left)) → Ended (Err r) c (record { link = seen; left = left' })
    by copy.SourceFault why = ends-source s well may some
    by copy.SinkFault why = other copy.SinkFault (why (λ e. cc))
    by (copy.Stream offset) why = other (copy.Stream offset) (why (λ e. cc))
    by (copy.Tool e) why = other (copy.Tool e) (why (λ e. cc))

-- sectors of a piece were submitted, or there were none
pub record Wrote (c : Setting) (steps : List PutStep) (sectors : List ℕ) (y : Putting) : Type 0 where
  pub steps1 : List PutStep
  pub are : AreSteps (PutLaw c.put.start c.put.plan c.put.flush) c.put.start (patience c.put.turns) steps1
  pub keeps : Keeps c steps1 y
  pub outcomes_are : outcomes steps1 ≡ outcomes steps
  pub quiet_is : quiet_turns steps1 ≡ quiet_turns steps
  pub ticked : has_ticked steps1 ≡ true
  pub seen_so : {before now : Seen} → HasSeen before now steps → HasSeen before now steps1
  pub stage_is : stage_of steps1 ≡ stage.Reading
  pub rest_is : rest_of steps1 ≡ rest_of steps
  pub written_is : written steps1 ≡ written steps ++ sectors
  pub left_is : left_of c steps1 ≤ left_of c steps

-- a write leaves no more to do: it is of a sector at least
pub writes-left : (c : Setting) (steps : List PutStep) (bytes : List ℕ) → IsPart c.put.plan (pieces steps) bytes
    → left_of c (submits (write_after c.put.plan (pieces steps) bytes) ∷ steps) ≤ left_of c steps
writes-left c steps bytes part =
    omega (
      arith,
      open-submits (record { 0 = suc (c.put.start.host.last_ticket + asked steps) }) (write_after c.put.plan (pieces steps) bytes) (log_of c.put.start steps),
      part.some,
      part.whole,
      part.most,
    )

module _ {c : Setting} {steps : List PutStep} {x : Putting}
    (are : AreSteps (PutLaw c.put.start c.put.plan c.put.flush) c.put.start (patience c.put.turns) steps) (k : Keeps c steps x) (well : GoesOn steps)
    (ticked : has_ticked steps ≡ true) (may : MayRead c.put.start c.put.plan steps) where
  abbrev pub wrote-one : {y : Putting} {sectors : List ℕ} → IsPart c.put.plan (pieces steps) sectors → WritesOne sectors x y → Wrote c steps sectors y
  wrote-one {y} {sectors} part one =
      let o = write_after c.put.plan (pieces steps) sectors in
      record {
        steps1 = submits o ∷ steps;
        are = (are, (well, ticked, (refl, may, part)));
        keeps = record {
          plan_is = one.plan_is ∙ k.plan_is;
          flush_is = one.flush_is ∙ k.flush_is;
          drives = drives-submits o k.drives (rw (k.reached_is, k.plan_is) at one.submits) one.same (omega arith) (omega (arith, one.last)) one.tag;
          reached_is = rw k.reached_is at one.reached_is;
          stage_is = one.stage_is ∙ k.stage_is;
        };
        outcomes_are = refl;
        quiet_is = refl;
        ticked = ticked;
        seen_so = λ h. seen-submits o h;
        stage_is = may.reads;
        rest_is = refl;
        written_is = refl;
        left_is = writes-left c steps sectors part;
      }

  pub wrote-some : {y : Putting} {sectors : List ℕ} → length sectors % 512 ≡ 0 → length sectors ≤ 512 * room_after c.put.plan (pieces steps)
      → WritesSome sectors x y → Wrote c steps sectors y
  wrote-some {y} {sectors} whole most some = elim some [
    | inl none ↦ record {
      steps1 = steps;
      are = are;
      keeps = record {
        plan_is = none.2 ∙ k.plan_is;
        flush_is = none.6 ∙ k.flush_is;
        drives = rw none.1 k.drives;
        reached_is = none.3 ∙ k.reached_is;
        stage_is = none.4 ∙ k.stage_is;
      };
      outcomes_are = refl;
      quiet_is = refl;
      ticked = ticked;
      seen_so = λ h. h;
      stage_is = may.reads;
      rest_is = refl;
      written_is = rw none.0 (sym (append-nil (written steps)));
      left_is = omega arith;
    }
    | inr one ↦ wrote-one (record { some = one.0; whole = whole; most = most }) one.1
  ]

-- while the input is read no flush was submitted, so the next step of its own says what is left to do
pub stage-own : (steps : List PutStep) (f : Fed) → stage_of steps ≡ stage.Reading → stage_of (own f ∷ steps) ≡ stage_fed (f ∷ [])
stage-own steps f reads = by (has_flush (ops steps)) refl
  where
    first : (f : Fed) (rest : List Fed) → stage_fed (f ∷ rest) ≡ stage_fed (f ∷ [])
    first (ends bytes) rest = refl
    first (exceeds bytes) rest = refl

    by : (b : Bool) → has_flush (ops steps) ≡ b → stage_of (own f ∷ steps) ≡ stage_fed (f ∷ [])
    by true e = absurd (let no = rw e at reads in cc)
    by false e = rw e (first f (owns steps))

over-end : (rest : List ℕ) (left : Option (List ℕ)) (a : List ℕ) → IsEnded left × (a ≡ []) → IsOver (stage_at_end rest) left a
over-end [] left a e = e
over-end (b ∷ rest) left a e = e

rest-end : (rest : List ℕ) → length rest < 512 → IsRest (stage_at_end rest) rest
rest-end [] less = refl
rest-end (b ∷ rest) less = (omega arith, less)

not-reading : (rest : List ℕ) → stage_at_end rest ≡ stage.Reading → ⊥
not-reading [] e = cc
not-reading (b ∷ rest) e = cc

flushes-end : (rest : List ℕ) → flushes_left (stage_at_end rest) ≤ 1
flushes-end [] = omega arith
flushes-end (b ∷ rest) = omega arith

module _ {c : Setting} {seen : Seen} {left left' : Option (List ℕ)} {a : List ℕ} {steps : List PutStep} {want behind : ℕ} {sectors : List ℕ} (y : Putting)
    (s : Stands c (record { link = seen; left = left }) a steps) (reads : stage_of steps ≡ stage.Reading) (well : GoesOn steps)
    (ticked : has_ticked steps ≡ true) (p : IsPiece want left left' a (ahead y.feed) sectors behind) where
  -- a piece of full length
  pub writes-more : want ≡ 512 * room_after c.put.plan (pieces steps) → length sectors ≡ want → (w : Wrote c steps sectors y)
      → w.steps1 ≡ submits (write_after c.put.plan (pieces steps) sectors) ∷ steps
      → Asked c (record { link = seen; left = left' }) steps y
  writes-more want_is long w is =
      let none : p.rest ≡ [] = nil_from_length p.rest (omega (arith, p.rest_is, p.most, long)) in
      let empty = nothing-behind s reads p in
      let o = write_after c.put.plan (pieces steps) sectors in
      record {
        steps' = submits o ∷ steps;
        stands = record {
          begins = s.begins;
          are = rw is at w.are;
          seen_is = put-fed (submits o ∷ steps) s.seen_is (λ h. seen-submits o h) (rw empty (rw none at (piece-used s reads p)));
          lean = rw empty (rw none at (piece-lean s reads p));
          over = rw reads tt;
          rest = s.rest;
          full = λ still. (s.full reads, long ∙ want_is);
        };
        keeps = rw is at w.keeps;
        outcomes_are = refl;
        quiet_is = refl;
        ticked = ticked;
        left_is = rw is at w.left_is;
      }

  -- the last piece, which is shorter
  pub ends-more : {st : Stage} → IsEnded left' × (ahead y.feed ≡ []) → (w : Wrote c steps sectors (record y { stage = st })) → y.stage ≡ stage_behind behind
      → Asked c (record { link = seen; left = left' }) steps y
  ends-more over w stage_is =
      let k = w.keeps in
      let step : PutStep = own (ends p.rest) in
      record {
        steps' = step ∷ w.steps1;
        stands = record {
          begins = s.begins;
          are = (w.are, (w.ticked, (rw w.outcomes_are well, w.stage_is, omega (arith, p.rest_is, p.less))));
          seen_is = put-fed (step ∷ w.steps1) s.seen_is (λ h. seen-own (ends p.rest) (w.seen_so h)) (rw w.written_is (piece-used s reads p));
          lean = rw w.written_is (piece-lean s reads p);
          over = rw (stage-own w.steps1 (ends p.rest) w.stage_is) (over-end p.rest left' (ahead y.feed) over);
          rest = rw (stage-own w.steps1 (ends p.rest) w.stage_is) (rest-end p.rest (omega (arith, p.rest_is, p.less)));
          full = λ still. absurd (not-reading p.rest (sym (stage-own w.steps1 (ends p.rest) w.stage_is) ∙ still));
        };
        keeps = record {
          plan_is = k.plan_is;
          flush_is = k.flush_is;
          drives = drives-own (ends p.rest) k.drives;
          reached_is = k.reached_is;
          stage_is = stage_is ∙ behind-is p.rest behind p.rest_is ∙ sym (stage-own w.steps1 (ends p.rest) w.stage_is);
        };
        outcomes_are = w.outcomes_are;
        quiet_is = w.quiet_is;
        ticked = w.ticked;
        left_is = rw (stage-own w.steps1 (ends p.rest) w.stage_is) (omega (arith, w.left_is, flushes-end p.rest, ap flushes_left w.stage_is));
      }

  -- the input goes on after the last sector of the device, or it ends there
  pub past-more : {x : Putting} → want ≡ 512 → MayRead c.put.start c.put.plan steps → room_after c.put.plan (pieces steps) ≡ 0 → Keeps c steps x
      → y ≡ record x { feed = y.feed; stage = y.stage }
      → y.stage ≡ stage_past (length sectors + behind) → Asked c (record { link = seen; left = left' }) steps y
  past-more {x} want_is may none k is stage_is =
      by (sectors ++ p.rest) (omega (arith, length-append sectors p.rest, p.rest_is)) (piece-fed s reads p)
      (piece-lean-past s reads p (omega (arith, want_is)))
    where
      host_is : y.host ≡ x.host
      host_is = ap (λ (z : Putting). z.host) is

      keeps : (f : Fed) → y.stage ≡ stage_of (own f ∷ steps) → Keeps c (own f ∷ steps) y
      keeps f stage = record {
        plan_is = ap (λ (z : Putting). z.plan) is ∙ k.plan_is;
        flush_is = ap (λ (z : Putting). z.flush) is ∙ k.flush_is;
        drives = rw host_is (drives-own f k.drives);
        reached_is = ap (λ (z : Putting). z.reached) is ∙ k.reached_is;
        stage_is = stage;
      }

      by : (bytes : List ℕ) → length bytes ≡ length sectors + behind → HasFed c.put.front c.before.left left' (written steps) (bytes ++ ahead y.feed)
          → IsLean c.put.front (written steps) bytes (ahead y.feed) → Asked c (record { link = seen; left = left' }) steps y
      by [] long fed lean =
          let over = p.short (omega (arith, long, want_is)) in
          let st : stage_of (own (ends []) ∷ steps) ≡ stage.Ended = stage-own steps (ends []) reads in
          record {
            steps' = own (ends []) ∷ steps;
            stands = record {
              begins = s.begins;
              are = (s.are, (ticked, (well, reads, omega arith)));
              seen_is = put-fed (own (ends []) ∷ steps) s.seen_is (λ h. seen-own (ends []) h) fed;
              lean = lean;
              over = rw st over;
              rest = rw st refl;
              full = λ still. absurd (let no = sym st ∙ still in cc);
            };
            keeps = keeps (ends []) (stage_is ∙ rw (is-zero (length sectors + behind) (omega (arith, long))) (sym st));
            outcomes_are = refl;
            quiet_is = refl;
            ticked = ticked;
            left_is = rw st (omega (arith, ap flushes_left reads));
          }
      by (b ∷ bytes) long fed lean =
          let st : stage_of (own (exceeds (b ∷ bytes)) ∷ steps) ≡ stage.Beyond = stage-own steps (exceeds (b ∷ bytes)) reads in
          record {
            steps' = own (exceeds (b ∷ bytes)) ∷ steps;
            stands = record {
              begins = s.begins;
              are = (s.are, (ticked, (well, may, none, omega arith, omega (arith, long, p.most, want_is))));
              seen_is = put-fed (own (exceeds (b ∷ bytes)) ∷ steps) s.seen_is (λ h. seen-own (exceeds (b ∷ bytes)) h) fed;
              lean = lean;
              over = rw st tt;
              rest = rw st (omega arith, omega (arith, long, p.most, want_is));
              full = λ still. absurd (let no = sym st ∙ still in cc);
            };
            keeps = keeps (exceeds (b ∷ bytes)) (stage_is ∙ rw (not-zero (length sectors + behind) (omega (arith, long))) (sym st));
            outcomes_are = refl;
            quiet_is = refl;
            ticked = ticked;
            left_is = rw st (omega (arith, ap flushes_left reads));
          }

feed-same : (bytes : List ℕ) (x y : Putting) → WritesSome bytes x y → y.feed ≡ x.feed
feed-same bytes x y some = elim some [ inl none ↦ none.5 | inr one ↦ one.1.feed_is ]

module _ {c : Setting} {seen : Seen} {left left' : Option (List ℕ)} {a : List ℕ} {steps : List PutStep} {want behind : ℕ} {sectors : List ℕ}
    {x : Putting}
    (y : Putting) (s : Stands c (record { link = seen; left = left }) a steps) (k : Keeps c steps x) (well : GoesOn steps)
    (ticked : has_ticked steps ≡ true) (may : MayRead c.put.start c.put.plan steps)
    (p : IsPiece want left left' a (ahead x.feed) sectors behind) (want_is : want ≡ 512 * room_after c.put.plan (pieces steps)) where
  few : want ≤ 8704 → (e : CopyRefusal) → e ≡ copy.Tool tool.NoMemory → Ended (Err e) c (record { link = seen; left = left' })
  few little e is = rw is (ends-unsubmitted s may.reads p little well may)

  -- what came of a piece that is shorter than it might be
  pub last-reads : want ≤ 8704 → length sectors < want → (result : Result Unit CopyRefusal) → OnOk result (WritesSome sectors x (record y { stage = x.stage }))
      → OnOk result (y.stage ≡ stage_behind behind) → IfErr result (λ e. e ≡ copy.Tool tool.NoMemory)
      → ReadsOn result c (record { link = seen; left = left' }) steps y
  last-reads little less (Err e) some stage_is memory = few little e memory
  last-reads little less (Ok done) some stage_is memory =
      let same : y.feed ≡ x.feed = feed-same sectors x (record y { stage = x.stage }) some in
      let over = p.short (omega (arith, less, p.whole, p.less, p.most, want_is)) in
      let piece : IsPiece want left left' a (ahead y.feed) sectors behind = rw same p in
      let none : IsEnded left' × (ahead y.feed ≡ []) = rw same over in
      ends-more y s may.reads well ticked piece none (wrote-some s.are k well ticked may p.whole (omega (arith, less, want_is)) some) stage_is

  -- and of one of full length
  pub full-reads : want ≤ 8704 → 0 < want → want ≤ length sectors → (result : Result Unit CopyRefusal) → OnOk result (WritesOne sectors x y)
      → IfErr result (λ e. e ≡ copy.Tool tool.NoMemory) → ReadsOn result c (record { link = seen; left = left' }) steps y
  full-reads little some long (Err e) one memory = few little e memory
  full-reads little some long (Ok done) one memory =
      let part : IsPart c.put.plan (pieces steps) sectors = record { some = omega (arith, some, long); whole = p.whole; most = omega (arith, p.most, want_is) } in
      let piece : IsPiece want left left' a (ahead y.feed) sectors behind = rw one.feed_is p in
      writes-more y s may.reads well ticked piece want_is (omega (arith, long, p.most)) (wrote-one s.are k well ticked may part one) refl

-- the flush is submitted
pub flushes-more : {c : Setting} {seen : PutSeen} {steps : List PutStep} {x y : Putting} → Stands c seen (ahead x.feed) steps → Keeps c steps x → GoesOn steps
    → has_ticked steps ≡ true → MayFlush c.put.start c.put.flush steps → FlushesOne x y → Asked c seen steps y
flushes-more {c} {seen} {steps} {x} {y} s k well ticked may one = record {
  steps' = submits op.Flush ∷ steps;
  stands = record {
    begins = s.begins;
    are = (s.are, (well, ticked, may));
    seen_is = rw one.feed_is (record { seen_is = seen-submits op.Flush s.seen_is.seen_is; fed = s.seen_is.fed });
    lean = rw one.feed_is s.lean;
    over = rw one.feed_is (rw may.ended at s.over);
    rest = rw may.ended at s.rest;
    full = λ still. absurd cc;
  };
  keeps = record {
    plan_is = one.plan_is ∙ k.plan_is;
    flush_is = one.flush_is ∙ k.flush_is;
    drives = drives-submits op.Flush k.drives one.submits one.same (omega arith) (omega (arith, one.last)) one.tag;
    reached_is = one.reached_is ∙ k.reached_is;
    stage_is = one.stage_is;
  };
  outcomes_are = refl;
  quiet_is = refl;
  ticked = ticked;
  left_is = omega (
    arith,
    open-submits (record { 0 = suc (c.put.start.host.last_ticket + asked steps) }) op.Flush (log_of c.put.start steps),
    ap flushes_left may.ended,
  );
}
