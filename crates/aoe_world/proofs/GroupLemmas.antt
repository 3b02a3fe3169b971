-- How long a history grows by the groups of acts: its time, what was submitted, and that event lines ask for it.
use Rattle.std.proofs.Common.{ℕ, suc, ◌≡◌, ◌≤◌, ◌+◌, Bool, true, false, List, [], ◌∷◌, Option, Some, None, ◌⊎◌, refl, arith, inl, inr, if◌then◌else◌}
use Rattle.std.specs.Prelude.{All}
use Rattle.std.proofs.lemmas.List.Elements.{All-cons, All-head, All-tail}
use Rattle.arrayvec.specs.ArrayVec.{ArrayVec}
use Rattle.aoe_base.specs.declared.address.TargetId.{TargetId}
use Rattle.aoe_initiator.specs.declared.op.Op.{Op}
use Rattle.aoe_initiator.specs.declared.refusal.SubmitRefusal.{SubmitRefusal}
use Rattle.aoe_history.specs.declared.entry.Entry.{Entry}
use Rattle.aoe_history.specs.declared.entry.Entry.TheVariants.{Submitted, Ticked}
use Rattle.aoe_history.specs.Commands.{tickets}
use Rattle.aoe_history.specs.Frames.{arriving, clock}
use Rattle.aoe_history.specs.Groups.{submit_entry, Act, ComesTo, Enters, Follows, Got, Group, Station, Turns}
use Rattle.aoe_history.specs.Groups.Act.{Arm, Crash, Hand, Inject, Lose, Submit, Tick}
use Rattle.aoe_history.specs.Groups.Station.{Shelf as ShelfStation, Host as HostStation}
use Rattle.aoe_history.specs.Setup.{is_called, shelf_of, HostSetup, Setup, SlotSetup}
use Rattle.aoe_transcript.specs.Print.{IsAsked, IsFromLine}
use Rattle.aoe_world.proofs.AddsLemmas.{adds-entry, adds-keep, adds-more, adds-same, arrive-adds, crash-adds, either-way, takes-adds, turn-adds, Adds, SpeaksOf, TellsOf}

-- SO MUCH

-- no more than this time went by, no more commands of a host than this were submitted, and event lines ask for them
pub record Grows (time asked : ℕ) (h m : List Entry) : Type 0 where
  pub time_is : clock m ≤ clock h + time
  pub tickets_are : (host : HostSetup) → tickets host m ≤ tickets host h + asked
  pub lines_are : All IsFromLine h → All IsFromLine m

pub grows-none : {h : List Entry} → Grows 0 0 h h
grows-none = record { time_is = omega arith; tickets_are = λ host. omega arith; lines_are = λ all. all }

-- behind one more step that takes no time and submits nothing
pub grows-on : {a c : ℕ} {h m n : List Entry} → Grows a c h m → Grows 0 0 m n → Grows a c h n
grows-on x y = record {
  time_is = omega (arith, x.time_is, y.time_is);
  tickets_are = λ host. omega (arith, x.tickets_are host, y.tickets_are host);
  lines_are = λ all. y.lines_are (x.lines_are all);
}

-- by one entry
grows-entry : {a c : ℕ} (e : Entry) (h : List Entry) → clock (e ∷ h) ≤ clock h + a → ((host : HostSetup) → tickets host (e ∷ h) ≤ tickets host h + c)
    → IsFromLine e → Grows a c h (e ∷ h)
grows-entry e h time asked of_line = record { time_is = time; tickets_are = asked; lines_are = λ all. All-cons IsFromLine e h of_line all }

asked-most : (b : Bool) (n : ℕ) → (if b then suc n else n) ≤ n + 1
asked-most true n = omega arith
asked-most false n = omega arith

-- ENTRIES

-- it takes no time and submits nothing
abbrev pub is_aside : Entry → Bool
is_aside (Submitted host ticket dev op) = false
is_aside (Ticked ms) = false
is_aside entry = true

grows-aside : (e : Entry) (h : List Entry) → is_aside e ≡ true → Grows 0 0 h (e ∷ h)
grows-aside (Submitted host ticket dev op) h t = absurd cc
grows-aside (Ticked ms) h t = absurd cc
grows-aside e h t = grows-entry e h (omega arith) (λ host. omega arith) tt

pub grows-adds : {h m : List Entry} → Adds is_aside h m → Grows 0 0 h m
grows-adds {h} a = adds-keep is_aside (λ n. Grows 0 0 h n) (λ e n t x. grows-on x (grows-aside e n t)) h _ a grows-none

-- ACTS

-- an act that takes no time and submits nothing
abbrev pub IsAside : Act → Type 0
IsAside (Submit host dev op) = ⊥
IsAside (Tick ms) = ⊥
IsAside act = Unit {0}

speaks-aside : {slots : List SlotSetup} → SpeaksOf is_aside slots
speaks-aside = record { arrived = λ i slot frame fate e. refl; crashed = λ i slot lists how e. refl }

pub tells-aside : {host : HostSetup} → TellsOf is_aside host
tells-aside = record { done = λ name ticket outcome called. refl; sent = λ name ticket number bytes called. refl }

comes-adds : (s : Setup) (frame : ℕ) (f : List ℕ) (station : Station) (h : List Entry) (got : Option Got) (m : List Entry)
    → ComesTo s frame f station h got m → Adds is_aside h m
comes-adds s frame f (ShelfStation major) h got m (none, arrives) = arrive-adds frame f (shelf_of s major) speaks-aside speaks-aside arrives
comes-adds s frame f (HostStation name) h got m (host, called, takes) = takes-adds s host name frame f got (λ stale. refl) takes

pub enters-adds : (s : Setup) (h : List Entry) (act : Act) (got : Option Got) (m : List Entry) → IsAside act → Enters s h act got m → Adds is_aside h m
enters-adds s h (Inject bytes) got m aside (none, is) = adds-entry refl is
enters-adds s h (Arm dev which k mode) got m aside (none, is) = adds-entry refl is
enters-adds s h (Crash major how) got m aside (none, crash) = crash-adds how (shelf_of s major) speaks-aside crash
enters-adds s h (Hand frame station) got m aside x =
    either-way (arriving s.life h frame) x (λ lost. adds-entry refl lost.1) (λ f comes. comes-adds s frame f station h got m comes)
enters-adds s h (Lose frame) got m aside (none, is) = adds-entry refl is
enters-adds s h _ got m aside x = absurd aside

pub turns-add : (s : Setup) (hosts : List HostSetup) (got : Option Got) (h m : List Entry) → Turns s hosts got h m → Adds is_aside h m
turns-add s [] got h m is = adds-same is
turns-add s (host ∷ hosts) got h m (n, turn, rest) = adds-more _ _ n _ (turn-adds tells-aside turn) (turns-add s hosts got n m rest)

-- GROUPS

pub group-adds : {s : Setup} {act : Act} {h m : List Entry} → IsAside act → Group s h act m → Adds is_aside h m
group-adds {s} {act} {h} aside g =
    adds-more _ _ g.entered _ (enters-adds s h act g.got g.entered aside g.enters) (turns-add s s.hosts g.got g.entered _ g.turns)

pub group-aside : {s : Setup} {act : Act} {h m : List Entry} → IsAside act → Group s h act m → Grows 0 0 h m
group-aside aside g = grows-adds (group-adds aside g)

pub follows-aside : (s : Setup) (acts : List Act) (h m : List Entry) → All IsAside acts → Follows s acts h m → Grows 0 0 h m
follows-aside s [] h m all is = rw is grows-none
follows-aside s (act ∷ acts) h m all (n, group, rest) =
    grows-on (group-aside (All-head IsAside act acts all) group) (follows-aside s acts n m (All-tail IsAside act acts all) rest)

-- ACTS OF EVENT LINES

-- ten million milliseconds at most, or a command that an event line asks for
abbrev pub IsOfLine : Act → Type 0
IsOfLine (Submit host dev op) = IsAsked op
IsOfLine (Tick ms) = ms ≤ 10000000
IsOfLine act = Unit {0}

-- one of them at most takes time or submits something, and then it is the only one
abbrev pub AreOfLine : List Act → Type 0
AreOfLine acts = All IsAside acts ⊎ ((act : Act) × (acts ≡ act ∷ []) × IsOfLine act)

-- so much comes of an event line
abbrev pub GrowsByLine : List Entry → List Entry → Type 0
GrowsByLine h m = Grows 10000000 1 h m

pub little : {h m : List Entry} → Grows 0 0 h m → GrowsByLine h m
little x = record { time_is = omega (arith, x.time_is); tickets_are = λ host. omega (arith, x.tickets_are host); lines_are = x.lines_are }

submits : (s : Setup) (host : HostSetup) (h : List Entry) (name : ArrayVec ℕ) (dev : TargetId) (op : Op) (refusal : Option SubmitRefusal) → IsAsked op
    → GrowsByLine h (submit_entry s host h name dev op refusal ∷ h)
submits s host h name dev op None asked = grows-entry _ h (omega arith) (λ other. asked-most (is_called other name) (tickets other h)) asked
submits s host h name dev op (Some refusal) asked = little (grows-aside _ h refl)

pub enters-grows : (s : Setup) (h : List Entry) (act : Act) (got : Option Got) (m : List Entry) → IsOfLine act → Enters s h act got m → GrowsByLine h m
enters-grows s h (Submit name dev op) got m asked (none, (host, called, is)) = rw is (submits s host h name dev op _ asked)
enters-grows s h (Tick ms) got m time (none, is) = rw is (grows-entry (Ticked ms) h (omega (arith, time)) (λ host. omega arith) tt)
enters-grows s h act got m of x = little (grows-adds (enters-adds s h act got m tt x))

pub group-grows : {s : Setup} {act : Act} {h m : List Entry} → IsOfLine act → Group s h act m → GrowsByLine h m
group-grows {s} {act} {h} of g = grows-on (enters-grows s h act g.got g.entered of g.enters) (grows-adds (turns-add s s.hosts g.got _ _ g.turns))

pub follows-grows : (s : Setup) (acts : List Act) (h m : List Entry) → AreOfLine acts → Follows s acts h m → GrowsByLine h m
follows-grows s acts h m (inl all) follows = little (follows-aside s acts h m all follows)
follows-grows s acts h m (inr (act, is, of)) follows = let one : Follows s (act ∷ []) h m = rw is at follows in rw one.2 (group-grows of one.1)
