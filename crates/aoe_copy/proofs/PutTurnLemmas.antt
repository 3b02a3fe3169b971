-- A turn of a copy into a device: the clock answers, commands are submitted, frames go out, and a turn of the link passes; and one turn after
-- another.
use Rattle.std.proofs.Common.{ℕ, ◌≡◌, ◌+◌, ◌-◌, ◌*◌, ◌<◌, ◌≤◌, Bool, true, false, nat_eq, List, [], ◌∷◌, ◌++◌, length, reverse, Option, Some, None, refl, sym, ap, ◌∙◌, arith, append-nil, inl, inr}
use Rattle.std.specs.Prelude.{Result, Ok, Err, IfSome}
use Rattle.std.proofs.lemmas.Bool.{cases_Bool, eqb-true}
use Rattle.std.proofs.lemmas.List.{length-map}
use Rattle.aoe_base.specs.declared.failure.Failed.{Failed}
use Rattle.aoe_block.specs.Exchange.{is_heard, Exchanges, IsHeld}
use Rattle.aoe_block.specs.Steps.{has_ticked, log_of, open_of, ops, outcomes, owns, quiet_turns, AreSteps, GoesOn, Patience, Seen, Start, Told}
use Rattle.aoe_block.specs.Steps.Step.{hears, own, sends, submits, ticks}
use Rattle.aoe_block.specs.Turns.{quiet_by, told_by, Heard, Outgoing}
use Rattle.aoe_block.proofs.OpenLemmas.{open-frames, pending-open, smaller}
use Rattle.aoe_block.proofs.SendLemmas.{added-nothing}
use Rattle.aoe_block.proofs.StepLemmas.{after_sends, alike, broken, drives-start, drives-ticks, exchanged, seen-ticks, ticks-gives-up, ticks-open, Advanced, Exchanged}
use Rattle.aoe_initiator.specs.declared.device.Attached.{Attached}
use Rattle.aoe_initiator.specs.declared.device.Device.{Device}
use Rattle.aoe_initiator.specs.declared.outcome.Done.{Done}
use Rattle.aoe_initiator.specs.declared.op.Op.TheVariants as op
use Rattle.aoe_initiator.specs.Host.{Host, Matches}
use Rattle.aoe_initiator.specs.HostLog.{Event}
use Rattle.aoe_io.proofs.BytesLemmas.{Gave-nothing}
use Rattle.aoe_io.proofs.LinkLemmas.{turned-nothing}
use Rattle.aoe_io.specs.Link.{Added, Turn}
use Rattle.aoe_tools.specs.declared.end.Refusal.TheVariants as refusals
use Rattle.aoe_tools.specs.declared.end.ToolRefusal.{ToolRefusal}
use Rattle.aoe_tools.specs.declared.end.ToolRefusal.TheVariants as tool
use Rattle.aoe_copy.specs.declared.copying.Passed.{Passed}
use Rattle.aoe_copy.specs.declared.copying.Passed.TheVariants as passed
use Rattle.aoe_copy.specs.declared.end.CopyRefusal.{CopyRefusal}
use Rattle.aoe_copy.specs.declared.end.CopyRefusal.TheVariants as copy
use Rattle.aoe_copy.specs.declared.putting.Putting.{Putting}
use Rattle.aoe_copy.specs.declared.putting.Stage.{Stage}
use Rattle.aoe_copy.specs.declared.putting.Stage.TheVariants as stage
use Rattle.aoe_copy.specs.Copying.{InOrder}
use Rattle.aoe_copy.specs.Feed.{ahead}
use Rattle.aoe_copy.specs.PutRuns.{PutSeen, PutSetting, Runs}
use Rattle.aoe_copy.specs.PutSteps.{has_flush, rest_of, stage_fed, stage_of, Fed, IsFilled, PutLaw, PutStep}
use Rattle.aoe_copy.specs.PutSteps.Fed.{ends, exceeds}
use Rattle.aoe_copy.specs.declared.plan.Plan.{Plan}
use Rattle.aoe_copy.specs.Putting.{end_in, end_of, left_now, left_of, Begins, Ended, IsFit, Keeps, MayBegin, Passes, Setting, Stands, Turns}
use Rattle.aoe_copy.specs.Steps.{patience, Fails}
use Rattle.aoe_copy.proofs.CollectLemmas.{refused-why, still-in-order}
use Rattle.aoe_copy.proofs.ExchangeLemmas.{count-same, told-back}
use Rattle.aoe_copy.proofs.PutStepLemmas.{ended-as}

abbrev pub seen_by : ℕ → Option (List Turn) → Option (List (List ℕ)) → Option (List ℕ) → Option (List ℕ) → PutSeen
seen_by turned given taken answers left = record { link = record { turns = turned; given = given; taken = taken; answers = answers }; left = left }

-- a host that has its devices and its last ticket fits as before
pub fit-host : {x y : Putting} → IsFit x → IsHeld x.host y.host → y ≡ record x { host = y.host } → IsFit y
fit-host {x} {y} fit held is =
    let many : length y.host.devices ≡ length x.host.devices =
    sym (length-map y.host.devices (λ (d : Device). d.about)) ∙ ap (λ (l : List Attached). length l) held.same.devices
    ∙ length-map x.host.devices (λ (d : Device). d.about) in
    rw is (record {
      attached = many ∙ fit.attached;
      asked_is = fit.asked_is ∙ sym held.last;
      few = omega (arith, held.last, fit.few);
      before = fit.before;
      within = fit.within;
      small = fit.small;
      some = fit.some;
      most = fit.most;
      feed = fit.feed;
    })

-- frames change nothing that the law asks before a turn of the link
may-hear : (c : Setting) (steps : List PutStep) → IsFilled c.put.start steps → (sent : List Outgoing) (turn : Turn) (heard : Option Heard)
    → PutLaw c.put.start c.put.plan c.put.flush (after_sends sent steps) (hears turn heard)
may-hear c steps filled sent turn heard =
    let a = alike c.put.start sent steps in
    let same : open_of c.put.start (after_sends sent steps) ≡ open_of c.put.start steps = rw a.log_is (open-frames sent (log_of c.put.start steps)) in
    elim filled [ inl full ↦ inl (omega (arith, full, same)) | inr none ↦ inr (rw (a.ops_are, a.owns_are, same) none) ]

module _ {c : Setting} {turned turned' : ℕ} {given_by given_by' : Option (List Turn)} {taken taken' : Option (List (List ℕ))} {answers left : Option (List ℕ)}
    {steps : List PutStep} {x : Putting} (s : Stands c (seen_by turned given_by taken answers left) (ahead x.feed) steps) (k : Keeps c steps x)
    (well : GoesOn steps) (ticked : has_ticked steps ≡ true) where
  passes-by : {y : Putting} {heard : Option Heard} → x.host.waiting ≡ [] → y ≡ record x { host = y.host }
      → Exchanged (PutLaw c.put.start c.put.plan c.put.flush) c.put.start (patience c.put.turns) c.before.link
      (seen_by turned' given_by' taken' answers left).link steps x.host y.host heard
      → Passes c (seen_by turned' given_by' taken' answers left) steps y heard
  passes-by {y} {heard} none is e =
      let a = alike c.put.start e.sent steps in
      let waiting : y.host.waiting ≡ told_by heard = e.waiting ∙ ap (λ (l : List Done). l ++ told_by heard) none in
      let feed : y.feed ≡ x.feed = ap (λ (z : Putting). z.feed) is in
      let outs = outcomes steps in
      record {
        steps' = hears e.turn heard ∷ after_sends e.sent steps;
        stands = rw feed (record {
          begins = s.begins;
          are = e.are;
          seen_is = record { seen_is = e.seen_is; fed = rw (a.ops_are, a.owns_are) s.seen_is.fed };
          lean = rw (a.ops_are, a.owns_are) s.lean;
          over = rw (a.ops_are, a.owns_are) s.over;
          rest = rw (a.ops_are, a.owns_are) s.rest;
          full = rw (a.ops_are, a.owns_are) s.full;
        });
        keeps = record {
          plan_is = ap (λ (z : Putting). z.plan) is ∙ k.plan_is;
          flush_is = ap (λ (z : Putting). z.flush) is ∙ k.flush_is;
          drives = e.drives;
          reached_is = rw a.ops_are (ap (λ (z : Putting). z.reached) is ∙ k.reached_is);
          stage_is = rw (a.ops_are, a.owns_are) (ap (λ (z : Putting). z.stage) is ∙ k.stage_is);
        };
        order = record {
          taken = outs;
          order = e.outcomes_are ∙ ap (λ (l : List Done). l ++ outs) (sym (ap (λ (l : List Done). reverse l) waiting ∙ told-back heard));
          well = well;
        };
        quiet_is = ap (quiet_by heard) a.quiet_is;
        unticked = refl;
        left_is = rw (a.ops_are, a.owns_are) (omega (arith, e.fewer, count-same heard));
      }

  pub passes : {finished : Bool} {y : Putting} → IsFilled c.put.start steps → x.host.waiting ≡ []
      → Exchanges (Ok finished) (patience c.put.turns).most x.host y.host turned turned' given_by given_by' taken taken' → y ≡ record x { host = y.host }
      → (heard : Option Heard) × Passes c (seen_by turned' given_by' taken' answers left) steps y heard × (finished ≡ is_heard heard)
  passes {y = y} filled none ex is =
      let e = exchanged (PutLaw c.put.start c.put.plan c.put.flush) (patience c.put.turns) y.host s.are s.seen_is.seen_is k.drives well ticked
      (may-hear c steps filled) ex in
      (e.0, passes-by none is e.1, e.2)

  pub fails : {failed : Failed} (host' : Host) → Exchanges (Err failed) (patience c.put.turns).most x.host host' turned turned' given_by given_by' taken taken'
      → Ended (Err (copy.Tool tool.LinkFault)) c (seen_by turned' given_by' taken' answers left)
  fails host' ex =
      let e = broken (PutLaw c.put.start c.put.plan c.put.flush) (patience c.put.turns) host' s.are s.seen_is.seen_is k.drives well ticked ex in
      let a = alike c.put.start e.sent steps in
      let now : Stands c (seen_by turned' given_by' taken' answers left) (ahead x.feed) (after_sends e.sent steps) = record {
        begins = s.begins;
        are = e.are;
        seen_is = record { seen_is = e.seen_is; fed = rw (a.ops_are, a.owns_are) s.seen_is.fed };
        lean = rw (a.ops_are, a.owns_are) s.lean;
        over = rw (a.ops_are, a.owns_are) s.over;
        rest = rw (a.ops_are, a.owns_are) s.rest;
        full = rw (a.ops_are, a.owns_are) s.full;
      } in
      ended-as now (rw a.outcomes_are well)

pub was-answered : {c : Setting} {seen : PutSeen} {steps : List PutStep} {y : Putting} {finished : Bool} → finished ≡ true
    → (heard : Option Heard) × Passes c seen steps y heard × (finished ≡ is_heard heard) → (h : Heard) × Passes c seen steps y (Some h)
was-answered {c} {seen} {steps} {y} is x = at x.0 x.1 (sym is ∙ x.2)
  where
    at : (heard : Option Heard) → Passes c seen steps y heard → true ≡ is_heard heard → (h : Heard) × Passes c seen steps y (Some h)
    at None p e = absurd cc
    at (Some h) p e = (h, p)

pub was-quiet : {c : Setting} {seen : PutSeen} {steps : List PutStep} {y : Putting} {finished : Bool} → finished ≡ false
    → (heard : Option Heard) × Passes c seen steps y heard × (finished ≡ is_heard heard) → Passes c seen steps y None
was-quiet {c} {seen} {steps} {y} is x = at x.0 x.1 (sym is ∙ x.2)
  where
    at : (heard : Option Heard) → Passes c seen steps y heard → false ≡ is_heard heard → Passes c seen steps y None
    at None p e = p
    at (Some h) p e = absurd cc

-- the clock answered, and outcomes were taken
pub record Ticked (c : Setting) (seen : PutSeen) (steps : List PutStep) (x : Putting) : Type 0 where
  pub steps' : List PutStep
  pub stands : Stands c seen (ahead x.feed) steps'
  pub keeps : Keeps c steps' x
  pub order : InOrder x.host.waiting (outcomes steps')
  pub quiet_is : quiet_turns steps' ≡ quiet_turns steps
  pub ticked : has_ticked steps' ≡ true
  pub left_is : left_of c steps' ≤ left_of c steps

pub ticked : {c : Setting} {seen : Seen} {left later : Option (List ℕ)} {steps : List PutStep} {x : Putting} {h : Host} {now turns : ℕ}
    (a : Advanced x.host h now)
    → IfSome later (λ _. Added seen.answers later (now ∷ [])) → Stands c (record { link = seen; left = left }) (ahead x.feed) steps → Keeps c steps x
    → InOrder x.host.waiting (outcomes steps) → MayBegin c turns steps
    → Ticked c (record { link = record seen { answers = later }; left = left }) steps (record x { host = h })
ticked {c} {seen} {left} {later} {steps} {x} {h} {now} a ticks_is s k o may =
    let up = a.gives_up.0 in
    record {
      steps' = ticks now up ∷ steps;
      stands = record {
        begins = s.begins;
        are = (s.are, (may.unticked, may.few, ticks-gives-up a k.drives));
        seen_is = record { seen_is = seen-ticks up s.seen_is.seen_is ticks_is; fed = s.seen_is.fed };
        lean = s.lean;
        over = s.over;
        rest = s.rest;
        full = s.full;
      };
      keeps = record {
        plan_is = k.plan_is;
        flush_is = k.flush_is;
        drives = drives-ticks a k.drives;
        reached_is = k.reached_is;
        stage_is = k.stage_is;
      };
      order = still-in-order a o;
      quiet_is = refl;
      ticked = refl;
      left_is = omega (arith, ticks-open a k.drives);
    }

-- what is kept where outcomes were taken
pub keeps-taken : {c : Setting} {steps : List PutStep} {x y : Putting} → Keeps c steps x → y.host ≡ record x.host { waiting = y.host.waiting }
    → y ≡ record x { host = y.host; flying = y.flying } → ((log : List Event) → Matches log x.host → Matches log y.host) → Keeps c steps y
keeps-taken {c} {steps} {x} {y} k host is matches =
    let d = k.drives in
    record {
      plan_is = ap (λ (z : Putting). z.plan) is ∙ k.plan_is;
      flush_is = ap (λ (z : Putting). z.flush) is ∙ k.flush_is;
      drives = record {
        same = rw host (record { ports = d.same.ports; life = d.same.life; room = d.same.room; dead = d.same.dead; devices = d.same.devices });
        matches = matches (log_of c.put.start steps) d.matches;
        last = ap (λ (z : Host). z.last_ticket) host ∙ d.last;
        tags = rw host d.tags;
      };
      reached_is = ap (λ (z : Putting). z.reached) is ∙ k.reached_is;
      stage_is = ap (λ (z : Putting). z.stage) is ∙ k.stage_is;
    }

pub stands-taken : {c : Setting} {seen : PutSeen} {steps : List PutStep} {y : Putting} (x : Putting) → Stands c seen (ahead x.feed) steps
    → y ≡ record x { host = y.host; flying = y.flying } → Stands c seen (ahead y.feed) steps
stands-taken {y = y} x s is = let same : y.feed ≡ x.feed = ap (λ (z : Putting). z.feed) is in rw same s

-- an outcome ended the copy
pub ends-by : {c : Setting} {seen : PutSeen} {steps : List PutStep} {a : List ℕ} (turns : ℕ) → c.put.turns ≡ turns → (e : ToolRefusal)
    → Stands c seen a steps → Fails turns (outcomes steps) e → Ended (Err (copy.Tool e)) c seen
ends-by {c} {seen} {steps} turns is e s f = at e f
  where
    at : (r : ToolRefusal) → Fails turns (outcomes steps) r → Ended (Err (copy.Tool r)) c seen
    at (tool.Refused r) f = ended-as s (inr (rw is f))
    at (tool.Unanswered n) f = ended-as s (inr (rw is f))
    at tool.NoMemory f = absurd ((refused-why turns f.first.outcome).0 f.refuses)
    at tool.LinkFault f = absurd ((refused-why turns f.first.outcome).1 f.refuses)

-- where no flush is asked for none is submitted
never-flushed : (b : Start) (p : Plan) (w : Patience) (steps : List PutStep) → AreSteps (PutLaw b p false) b w steps → has_flush (ops steps) ≡ true → ⊥
never-flushed b p w [] are e = cc
never-flushed b p w (ticks answer gave_up ∷ steps) are e = never-flushed b p w steps are.0 e
never-flushed b p w (submits (op.Write at bytes) ∷ steps) are e = never-flushed b p w steps are.0 e
never-flushed b p w (submits op.Flush ∷ steps) are e = absurd (let no = are.1.2.wanted in cc)
never-flushed b p w (submits (op.Read span) ∷ steps) are e = are.1.2
never-flushed b p w (submits op.Identify ∷ steps) are e = are.1.2
never-flushed b p w (submits (op.Config ccmd text) ∷ steps) are e = are.1.2
never-flushed b p w (submits (op.Masks edit dirs) ∷ steps) are e = are.1.2
never-flushed b p w (submits (op.Reserve rcmd list) ∷ steps) are e = are.1.2
never-flushed b p w (own fed ∷ steps) are e = never-flushed b p w steps are.0 e
never-flushed b p w (sends o ∷ steps) are e = never-flushed b p w steps are.0 e
never-flushed b p w (hears turn heard ∷ steps) are e = never-flushed b p w steps are.0 e

pub fed-unflushed : (fed : List Fed) → stage_fed fed ≡ stage.Flushing → ⊥
fed-unflushed [] e = cc
fed-unflushed (ends [] ∷ fed) e = cc
fed-unflushed (ends (b ∷ rest) ∷ fed) e = cc
fed-unflushed (exceeds bytes ∷ fed) e = cc

flushed-only : (b : Start) (p : Plan) (flush : Bool) (w : Patience) (steps : List PutStep) → flush ≡ false → AreSteps (PutLaw b p flush) b w steps
    → stage_of steps ≡ stage.Flushing → ⊥
flushed-only b p true w steps is are e = cc
flushed-only b p false w steps is are e = elim (cases_Bool (has_flush (ops steps))) [
  | inl flushed ↦ never-flushed b p w steps are flushed
  | inr none ↦ fed-unflushed (owns steps) (rw none at e)
]

-- the copy is over, as it was to be or not
module _ {c : Setting} {seen : PutSeen} {steps : List PutStep} {x : Putting} (s : Stands c seen (ahead x.feed) steps) (k : Keeps c steps x)
    (well : GoesOn steps) where
  over-ok : (flush : Bool) (st : Stage) → flush ≡ c.put.flush → st ≡ stage_of steps → open_of c.put.start steps ≡ 0 → Ok true ≡ end_in flush st x.reached
      → (r : Ended (Ok record {}) c seen) × (r.steps ≡ steps)
  over-ok flush stage.Reading f e none same = absurd cc
  over-ok true stage.Ended f e none same = absurd cc
  over-ok false stage.Ended f e none same =
      let rest = rw (← e) at s.rest in
      let over = rw (← e) at s.over in
      (ended-as s (well, rw (← f) (sym e), none, rw (rest, over.1) refl, over.0), refl)
  over-ok flush stage.Broken f e none same = absurd cc
  over-ok flush stage.Beyond f e none same = absurd cc
  over-ok true stage.Flushing f e none same =
      let rest = rw (← e) at s.rest in
      let over = rw (← e) at s.over in
      (ended-as s (well, rw (← f) (sym e), none, rw (rest, over.1) refl, over.0), refl)
  over-ok false stage.Flushing f e none same = absurd (flushed-only c.put.start c.put.plan c.put.flush (patience c.put.turns) steps (sym f) s.are (sym e))

  over-err : (flush : Bool) (st : Stage) (refusal : CopyRefusal) → st ≡ stage_of steps → open_of c.put.start steps ≡ 0
      → Err refusal ≡ end_in flush st x.reached → Ended (Err refusal) c seen
  over-err flush stage.Reading refusal e none same = absurd cc
  over-err flush stage.Ended refusal e none same = absurd cc
  over-err flush stage.Broken refusal e none same =
      let rest = rw (← e) at s.rest in
      let over = rw (← e) at s.over in
      let long : length (rest_of steps ++ ahead x.feed) ≡ length (rest_of steps) = rw (over.1, append-nil (rest_of steps)) refl in
      let is : refusal ≡ copy.Stream (512 * x.reached) = cc in
      rw is (ended-as s (well, sym e, none, ap (λ n. 512 * n) k.reached_is, omega (arith, long, rest.0), omega (arith, long, rest.1), over.0))
  over-err flush stage.Beyond refusal e none same =
      let is : refusal ≡ copy.Tool (tool.Refused refusals.Range) = cc in
      rw is (ended-as s (inl (refl, well, sym e, none)))
  over-err flush stage.Flushing refusal e none same = absurd cc

  pub ends-ok : (result : Result Bool CopyRefusal) → result ≡ end_of x → result ≡ Ok true → (r : Ended (Ok record {}) c seen) × (r.steps ≡ steps)
  ends-ok result is ok = elim (cases_Bool (nat_eq (length x.host.pending) 0)) [
    | inl none ↦
        over-ok x.flush x.stage k.flush_is k.stage_is (omega (arith, pending-open k.drives.matches, eqb-true (length x.host.pending) 0 none))
        (sym ok ∙ is ∙ rw none refl)
    | inr some ↦ absurd (let no : Ok true ≡ Ok false = sym ok ∙ is ∙ rw some refl in cc)
  ]

  pub ends-err : (refusal : CopyRefusal) → Err refusal ≡ end_of x → Ended (Err refusal) c seen
  ends-err refusal is = elim (cases_Bool (nat_eq (length x.host.pending) 0)) [
    | inl none ↦
        over-err x.flush x.stage refusal k.stage_is (omega (arith, pending-open k.drives.matches, eqb-true (length x.host.pending) 0 none)) (is ∙ rw none refl)
    | inr some ↦ absurd (let no : Err refusal ≡ Ok false = is ∙ rw some refl in cc)
  ]

-- what came after other steps
pub passes-after : {c : Setting} {seen : PutSeen} {steps steps' : List PutStep} {y : Putting} {heard : Option Heard}
    → quiet_turns steps' ≡ quiet_turns steps → left_of c steps' ≤ left_of c steps → Passes c seen steps' y heard → Passes c seen steps y heard
passes-after {heard = heard} quiet left p = record {
  steps' = p.steps';
  stands = p.stands;
  keeps = p.keeps;
  order = p.order;
  quiet_is = p.quiet_is ∙ ap (quiet_by heard) quiet;
  unticked = p.unticked;
  left_is = omega (arith, p.left_is, left);
}

pub turns-after : (c : Setting) (seen : PutSeen) (steps steps' : List PutStep) (y : Putting) → quiet_turns steps' ≡ quiet_turns steps
    → left_of c steps' ≤ left_of c steps → (result : Result Passed CopyRefusal) → Turns result c seen steps' y → Turns result c seen steps y
turns-after c seen steps steps' y quiet left (Ok passed.Over) t = t
turns-after c seen steps steps' y quiet left (Ok passed.Answered) t = (t.0, passes-after quiet left t.1)
turns-after c seen steps steps' y quiet left (Ok passed.Quiet) t = passes-after quiet left t
turns-after c seen steps steps' y quiet left (Err refusal) t = t

-- so far, the latest consecutive turns ended no command
pub record So (c : Setting) (quiet : ℕ) (seen : PutSeen) (x : Putting) : Type 0 where
  pub steps : List PutStep
  pub stands : Stands c seen (ahead x.feed) steps
  pub keeps : Keeps c steps x
  pub order : InOrder x.host.waiting (outcomes steps)
  pub quiet_is : quiet_turns steps ≡ quiet
  pub unticked : has_ticked steps ≡ false

pub begun : {p : PutSetting} {seen : PutSeen} {x : Putting} → Begins p x → x.host.waiting ≡ [] → So (record { put = p; before = seen }) 0 seen x
begun {p} {seen} {x} b none = record {
  steps = [];
  stands = record {
    begins = b.begins;
    are = tt;
    seen_is = record {
      seen_is = record {
        turned = turned-nothing seen.link.turns seen.link.given;
        took = added-nothing seen.link.taken;
        told = elim seen.link.answers as (λ o. Told o o []) [ None ↦ tt | Some l ↦ refl ];
      };
      fed = record { fed = []; gave = Gave-nothing seen.left; all = append-nil p.front ∙ sym b.ahead_is };
    };
    lean = inr (omega (arith, ap (λ (l : List ℕ). length l) b.ahead_is));
    over = tt;
    rest = refl;
    full = λ reads. tt;
  };
  keeps = record {
    plan_is = b.plan_is;
    flush_is = b.flush_is;
    drives = rw b.host_is (drives-start b.begins.matches b.begins.tags);
    reached_is = b.reached_is;
    stage_is = b.stage_is;
  };
  order = record { taken = []; order = rw none refl; well = λ i d below. absurd (omega (arith, below)) };
  quiet_is = refl;
  unticked = refl;
}

-- what is left to do, by the steps
left-is : {c : Setting} {steps : List PutStep} {x : Putting} → Keeps c steps x → left_now x ≡ left_of c steps
left-is {c} {steps} {x} k = rw (k.stage_is, k.reached_is, k.plan_is) (omega (arith, pending-open k.drives.matches))

-- the next turn may begin
pub may-begin : {c : Setting} {quiet : ℕ} {seen : PutSeen} {x : Putting} (s : So c quiet seen x) (turns : ℕ) → c.put.turns ≡ turns → quiet < turns
    → MayBegin c turns s.steps
may-begin s turns is below = record { unticked = s.unticked; few = omega (arith, s.quiet_is, below, is); turns_are = is }

module _ {c : Setting} {quiet : ℕ} {seen : PutSeen} {x : Putting} (s : So c quiet seen x) (turns : ℕ) (below : quiet < turns) where
  -- one more turn
  pub goes-on-quiet : {seen' : PutSeen} {y : Putting} → Passes c seen' s.steps y None
      → So c (quiet + 1) seen' y × (left_now y * (turns + 1) + (turns - (quiet + 1)) < left_now x * (turns + 1) + (turns - quiet))
  goes-on-quiet {seen'} {y} p = (
    record {
      steps = p.steps';
      stands = p.stands;
      keeps = p.keeps;
      order = p.order;
      quiet_is = p.quiet_is ∙ ap (λ n. n + 1) s.quiet_is;
      unticked = p.unticked;
    },
    smaller turns (left_now x) (left_now y) quiet None (omega (arith, left-is p.keeps, left-is s.keeps, p.left_is)) below,
  )

  pub goes-on-answered : {seen' : PutSeen} {y : Putting} → (h : Heard) × Passes c seen' s.steps y (Some h)
      → So c 0 seen' y × (left_now y * (turns + 1) + (turns - 0) < left_now x * (turns + 1) + (turns - quiet))
  goes-on-answered {seen'} {y} t =
      let p = t.1 in (
        record { steps = p.steps'; stands = p.stands; keeps = p.keeps; order = p.order; quiet_is = p.quiet_is; unticked = p.unticked },
        smaller turns (left_now x) (left_now y) quiet (Some t.0) (omega (arith, left-is p.keeps, left-is s.keeps, p.left_is)) below,
      )

-- a copy into a device has no sink
pub no-sink : {p : PutSetting} {before now : PutSeen} (result : Result Unit CopyRefusal) → Runs result p before now → result ≡ Err copy.SinkFault → ⊥
no-sink result r e = let none = rw e at r in none.ends

-- too many turns ended no command
pub unanswered : {c : Setting} {quiet : ℕ} {seen : PutSeen} {x : Putting} → So c quiet seen x → quiet ≡ c.put.turns
    → Ended (Err (copy.Tool (tool.Unanswered c.put.turns))) c seen
unanswered s is = ended-as s.stands (inl (refl, s.quiet_is ∙ is))
