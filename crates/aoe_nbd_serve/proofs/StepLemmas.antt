-- One step more of a server.
use Rattle.std.proofs.Common.{ℕ, ◌≡◌, ◌≤◌, ◌||◌, not, Bool, true, false, List, ◌∷◌, ◌++◌, length, Option, Some, None, refl, sym, ap, ◌∙◌, arith}
use Rattle.std.specs.Prelude.{is_some}
use Rattle.std.proofs.lemmas.List.{length-map}
use Rattle.aoe_block.specs.Steps.{asked, owns}
use Rattle.aoe_block.specs.Steps.Step.{own}
use Rattle.aoe_block.proofs.StepLemmas.{drives-own, seen-own}
use Rattle.aoe_clients.specs.Clients.{ClientEvent}
use Rattle.aoe_io.proofs.LinkLemmas.{Added-then}
use Rattle.aoe_io.specs.Link.{Added}
use Rattle.aoe_initiator.specs.declared.device.Attached.{Attached}
use Rattle.aoe_initiator.specs.declared.device.Device.{Device}
use Rattle.aoe_initiator.specs.Host.{Host, IsSame}
use Rattle.aoe_nbd_serve.specs.Account.{HasServed, MayDo, ServeSeen, ServeStep, Setting}
use Rattle.aoe_nbd_serve.specs.Deeds.{asked_of, handed, last_of, settled, told_of, waits_of, Deed}
use Rattle.aoe_nbd_serve.specs.Serving.{Keeps, Serves, Went}
use Rattle.aoe_nbd_serve.specs.declared.serving.Serving.{Serving}

-- a host has its devices as before
pub attached-same : {host host' : Host} → IsSame host host' → length host.devices ≡ 1 → length host'.devices ≡ 1
attached-same {host} {host'} same one =
    sym (length-map host'.devices (λ (d : Device). d.about)) ∙ ap (λ (l : List Attached). length l) same.devices
    ∙ length-map host.devices (λ (d : Device). d.about) ∙ one

-- what is kept beside the host
pub record IsAlike (x y : Serving) : Type 0 where
  pub terms : y.terms ≡ x.terms
  pub desk : y.desk ≡ x.desk
  pub conversation : y.conversation ≡ x.conversation
  pub has_written : y.has_written ≡ x.has_written
  pub asked : y.asked ≡ x.asked
  pub last : y.last ≡ x.last
  pub waits : y.waits ≡ x.waits
  pub served : y.served ≡ x.served

pub keeps-alike : {c : Setting} {deeds : List Deed} {x y : Serving} → IsAlike x y → Keeps c deeds x → Keeps c deeds y
keeps-alike a k = record {
  terms_is = ap (λ t. t.now) a.terms ∙ k.terms_is;
  desk_is = a.desk ∙ k.desk_is;
  run = k.run;
  written_is = a.has_written ∙ k.written_is;
  asked_is = a.asked ∙ k.asked_is;
  talk_is = a.conversation ∙ k.talk_is;
  last_is = a.last ∙ k.last_is;
  over = k.over;
  counted = rw a.served k.counted;
  waits = rw a.waits k.waits;
}

-- a step of its own
pub does : {c : Setting} {seen seen' : ServeSeen} {most : ℕ} {x y : Serving} (s : Serves c seen most x) (deed : Deed) → MayDo c s.steps deed
    → HasServed c.before seen' (own deed ∷ s.steps) → y.host ≡ x.host → y.first ≡ x.first → y.time ≡ x.time
    → settled (deed ∷ owns s.steps) ≡ settled (owns s.steps)
    → (last_of (deed ∷ owns s.steps) ≡ None → asked s.steps ≡ handed (deed ∷ owns s.steps))
    → Keeps c (deed ∷ owns s.steps) y → (s' : Serves c seen' most y) × (owns s'.steps ≡ deed ∷ owns s.steps)
does {c} {x = x} {y} s deed may seen_is host first time same all keeps = (
  record {
    new = s.new;
    steps = own deed ∷ s.steps;
    are = (s.are, may);
    seen_is = seen_is;
    few = s.few;
    drives = rw host (drives-own deed s.drives);
    order = rw (host, same) s.order;
    look = rw (first, time) s.look;
    all = all;
    keeps = keeps;
  },
  refl,
)

-- where it ends
pub went : {c : Setting} {seen : ServeSeen} {most : ℕ} {x : Serving} → Serves c seen most x → Went c seen x
went s = record {
  steps = s.steps;
  are = s.are;
  run = s.keeps.run;
  seen_is = s.seen_is;
  counted = s.keeps.counted;
  here_is = ap is_some s.keeps.talk_is;
}

-- what is told of a step of its own that nobody sees
pub silent : {before now : ServeSeen} {steps : List ServeStep} (deed : Deed) → told_of (deed ∷ owns steps) ≡ told_of (owns steps)
    → waits_of (deed ∷ owns steps) ≡ waits_of (owns steps) → asked_of (deed ∷ owns steps) ≡ asked_of (owns steps)
    → HasServed before now steps → HasServed before now (own deed ∷ steps)
silent deed told waits asked h = record {
  seen_is = seen-own deed h.seen_is;
  told_is = rw told h.told_is;
  waits_is = rw waits h.waits_is;
  asked_is = rw asked h.asked_is;
}

-- the clients tell of one
pub tells : {before now : ServeSeen} {later : Option (List ClientEvent)} {steps : List ServeStep} (deed : Deed) (events : List ClientEvent)
    → told_of (deed ∷ owns steps) ≡ events ++ told_of (owns steps)
    → waits_of (deed ∷ owns steps) ≡ waits_of (owns steps) → asked_of (deed ∷ owns steps) ≡ asked_of (owns steps)
    → HasServed before now steps → Added now.told later events → HasServed before (record now { told = later }) (own deed ∷ steps)
tells {before} {now} {later} {steps} deed events told waits asked h more = record {
  seen_is = seen-own deed h.seen_is;
  told_is = rw told (Added-then before.told now.told later (told_of (owns steps)) events h.told_is more);
  waits_is = rw waits h.waits_is;
  asked_is = rw asked h.asked_is;
}

pub at-most : {c : Setting} {seen : ServeSeen} {n : ℕ} {x : Serving} (m : ℕ) → n ≤ m → Serves c seen n x → Serves c seen m x
at-most m few s = record {
  new = s.new;
  steps = s.steps;
  are = s.are;
  seen_is = s.seen_is;
  few = omega (arith, few, s.few);
  drives = s.drives;
  order = s.order;
  look = s.look;
  all = s.all;
  keeps = s.keeps;
}

pub none-of : {A : Type 0} (o : Option A) → is_some o ≡ false → o ≡ None
none-of None e = refl
none-of (Some a) e = absurd cc
