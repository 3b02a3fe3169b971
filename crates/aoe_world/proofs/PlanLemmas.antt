-- The acts that event lines come to.
use Rattle.std.proofs.Common.{ℕ, suc, ◌≡◌, ◌≤◌, ◌-◌, ◌⊎◌, ◌∙◌, Bool, List, [], ◌∷◌, length, Option, Some, None, Result, Ok, Err, refl, sym, ap, subst, arith, inl, inr, MatchOption}
use Rattle.std.specs.Prelude.{position, slice_get, IfOk, IfSome, IsSomeAnd}
use Rattle.std.proofs.lemmas.Option.{same_Some, slice_get_within}
use Rattle.arrayvec.specs.ArrayVec.{ArrayVec}
use Rattle.aoe_base.specs.declared.address.Mac.{Mac}
use Rattle.aoe_base.specs.declared.address.TargetId.{TargetId}
use Rattle.aoe_base.specs.declared.bytes.Blob.{Blob}
use Rattle.aoe_base.specs.declared.counted.FrameNo.{FrameNo}
use Rattle.aoe_disk.specs.declared.loss.Loss.{Loss}
use Rattle.aoe_history.specs.declared.entry.Entry.{Entry}
use Rattle.aoe_history.specs.Asks.{submission_in}
use Rattle.aoe_history.specs.Commands.{Submission}
use Rattle.aoe_history.specs.Frames.{frames}
use Rattle.aoe_history.specs.Groups.{Act as Said, Follows}
use Rattle.aoe_history.specs.Groups.Act.{Arm, Crash, Hand, Submit}
use Rattle.aoe_history.specs.Groups.Station.{Shelf as ShelfStation, Host as HostStation}
use Rattle.aoe_history.specs.Setup.{Setup}
use Rattle.aoe_initiator.specs.declared.device.Attached.{Attached}
use Rattle.aoe_initiator.specs.declared.device.Device.{Device}
use Rattle.aoe_initiator.specs.declared.op.Op.{Op}
use Rattle.aoe_initiator.specs.HostLaw.{same_id}
use Rattle.aoe_initiator.specs.Op.{CanSubmit}
use Rattle.aoe_lists.specs.declared.dir.Dir.{Dir}
use Rattle.aoe_net.specs.declared.refusal.NetRefusal.{NetRefusal}
use Rattle.aoe_script.specs.declared.event.Event.{Event}
use Rattle.aoe_script.specs.declared.event.Event.TheVariants as event
use Rattle.aoe_script.specs.declared.event.Which.{Which}
use Rattle.aoe_script.specs.declared.setup.Setup.{Setup as Line}
use Rattle.aoe_sim_setup.specs.Layout.{majors_of, setup_of, stations_of}
use Rattle.aoe_sim_setup.specs.Stations.{CanCome, IsAsked, IsShelf, IsStation, IsThere}
use Rattle.aoe_world.specs.declared.act.Act.{Act}
use Rattle.aoe_world.specs.declared.act.Act.TheVariants as act
use Rattle.aoe_world.specs.declared.act.At.{At}
use Rattle.aoe_world.specs.declared.act.At.TheVariants as at
use Rattle.aoe_world.specs.declared.place.Place.{Place}
use Rattle.aoe_world.specs.declared.plan.Plan.{Plan}
use Rattle.aoe_world.specs.declared.plan.Plan.TheVariants as plan
use Rattle.aoe_world.specs.declared.sim.Sim.{Sim}
use Rattle.aoe_world.specs.Acts.{name_at, named, CanAct, IsForeign}
use Rattle.aoe_world.specs.Plan.{Gives, IsOne, IsPlanned, Knows}
use Rattle.aoe_world.specs.Schedule.{acts_of, handings, losses, major_of, station_called, Comes, ComesSome, FollowsSome}
use Rattle.aoe_world.specs.Sim.{Does, DoesAll, IsAt, Moved}
use Rattle.aoe_world.specs.World.{Runs}
use Rattle.aoe_world.proofs.ActLemmas.{left-more}
use Rattle.aoe_world.proofs.HostActLemmas.{one-name}
use Rattle.aoe_world.proofs.PlaceLemmas.{name-called, station-only}
use Rattle.aoe_world.proofs.ScheduleKeeps.{follows-grow, group-grows}
use Rattle.aoe_world.proofs.ScheduleLemmas.{at-inside}
use Rattle.aoe_world.proofs.SlotLemmas.{has_number, id-at, is-device, one-is, serves-slots, some-shelf, HasNone}
use Rattle.aoe_initiator.proofs.ListLemmas.{get-there as there, placed-inside}
use Rattle.aoe_sim_hosts.proofs.IdLemmas.{position-map}

pub on-ok : {T E : Type 0} {P Q : T → Type 0} (r : Result T E) → IfOk r P → ((x : T) → P x → Q x) → IfOk r Q
on-ok (Ok x) p f = f x p
on-ok (Err e) p f = tt

pub some-there : {X : Type 0} {P : X → Type 0} (o : Option X) → IsSomeAnd o P → (x : X) × (o ≡ Some x) × P x
some-there None p = absurd p
some-there (Some x) p = (x, refl, p)

-- ONE ACT

module _ {lines : List Line} {places : List Place} {sim : Sim} (knows : Knows lines places sim) where
  -- a frame is handed to the station with a name
  pub gives-hand : {name : ArrayVec ℕ} (to : At) (frame : FrameNo) (is : IsStation lines name) → IsAt (setup_of lines) (majors_of lines) to is.place.station
      → Gives lines sim (Hand frame.0 (station_called lines name)) (plan.One (act.Hand frame to))
  gives-hand to frame is at_is = record {
    act = act.Hand frame to;
    is = refl;
    says = rw (is.found, station-only (setup_of lines) (majors_of lines) to is.place.station at_is);
    possible = at-inside knows.ready to is.place.station at_is;
    foreign = tt;
  }

  -- the shelf with a name loses its power
  pub gives-crash : {name : ArrayVec ℕ} (i : ℕ) (how : Loss) (is : IsShelf lines name) → slice_get (majors_of lines) i ≡ Some is.major
      → Gives lines sim (Crash (major_of (station_called lines name)) how) (plan.One (act.Crash i how))
  gives-crash i how is at_is = record {
    act = act.Crash i how;
    is = refl;
    says = rw (is.found, at_is);
    possible = at-inside knows.ready (at.Shelf i) (ShelfStation is.major) at_is;
    foreign = tt;
  }

  -- a disk of a slot is armed
  pub gives-arm : (dev : TargetId) (i j : ℕ) (which : Which) (k : ℕ) (mode : Option Loss) → 1 ≤ k → k ≤ 1000
      → position (has_number dev) sim.shelves.items ≡ Some i
      → IsSomeAnd (slice_get sim.shelves.items i) (λ x. IsSomeAnd (slice_get x.shelf.targets j) (λ t. t.station.id.minor ≡ dev.minor))
      → Gives lines sim (Arm dev which k mode) (plan.One (act.Arm i j which k mode))
  gives-arm dev i j which k mode first last at_shelf at_slot =
      let x = some-there (slice_get sim.shelves.items i) at_slot in
      let t = some-there (slice_get x.0.shelf.targets j) x.2 in
      let is = is-device (setup_of lines) dev j t.0 (serves-slots knows.ready dev i x.0 at_shelf x.1) t.1 t.2 in
      record {
        act = act.Arm i j which k mode;
        is = refl;
        says = ap (λ d. Arm d which k mode) (id-at knows.ready i j x.0 t.0 x.1 t.1 ∙ is);
        possible = record {
          there = slice_get_within sim.shelves.items i x.0 x.1;
          inside = rw x.1 (slice_get_within x.0.shelf.targets j t.0 t.1);
          from_one = first;
          most = last;
        };
        foreign = tt;
      }

  -- there is one
  pub none-armed : (dev : TargetId) → IsThere lines (setup_of lines) dev
      → MatchOption (position (has_number dev) sim.shelves.items) (Unit {0}) (λ i. IfSome (slice_get sim.shelves.items i) (HasNone dev)) → ⊥
  none-armed dev is none = go (position (has_number dev) sim.shelves.items) refl none
    where
      go : (o : Option ℕ) → position (has_number dev) sim.shelves.items ≡ o
          → MatchOption o (Unit {0}) (λ i. IfSome (slice_get sim.shelves.items i) (HasNone dev)) → ⊥
      go None e none = some-shelf knows.ready dev is.number e
      go (Some i) e none =
          let x = there sim.shelves.items i (placed-inside (has_number dev) sim.shelves.items i e) in
          one-is is (serves-slots knows.ready dev i x.0 e x.1) (rw x.1 at none)

  -- the host with a name submits a command
  pub gives-submit : {name : ArrayVec ℕ} {dev : TargetId} (i : ℕ) (o : Op) → IsAsked lines (setup_of lines) name dev → CanSubmit o
      → IsAt (setup_of lines) (majors_of lines) (at.Host i) (HostStation name) → Gives lines sim (Submit name dev o) (plan.One (act.Submit i dev o))
  gives-submit {name} {dev} i o is allowed (host, at_host, called) =
      let inside = at-inside knows.ready (at.Host i) (HostStation name) (host, at_host, called) in
      let x = there sim.hosts.items i inside in
      let settled = knows.ready.hosts_are.each i host x.0 at_host x.1 in
      let same = same_Some is.host host (sym is.called ∙ knows.network_is.called i host name at_host called) in
      record {
        act = act.Submit i dev o;
        is = refl;
        says = ap (λ n. Submit n dev o) (one-name host (name_at (setup_of lines) i) name (name-called (setup_of lines) i host at_host) called);
        possible = record {
          there = inside;
          attached =
              rw (x.1, ← position-map (λ (d : Device). d.about) (λ (a : Attached). same_id a.id dev) x.0.core.devices, settled.is.devices)
              (rw same at is.device);
          few = rw (x.1, settled.last) (knows.few host);
          allowed = allowed;
        };
        foreign = tt;
      }

-- THE LINE OF AN ACT

-- of a line of one act come its entries
comes-one : (s : Setup) (lines : List Line) (v : Event) (said : Said) (cursor behind : ℕ) (h m : List Entry) → acts_of s lines cursor h v ≡ said ∷ []
    → behind ≡ cursor → Follows s (said ∷ []) h m → Comes s lines v cursor h behind m
comes-one s lines (event.Pass n) said cursor behind h m only same follows = absurd cc
comes-one s lines (event.Skip n) said cursor behind h m only same follows = absurd cc
comes-one s lines v said cursor behind h m only same follows = (same, subst (λ acts. Follows s acts h m) (sym only) follows)

begins-one : (s : Setup) (lines : List Line) (v : Event) (said : Said) (cursor : ℕ) (h m : List Entry) → acts_of s lines cursor h v ≡ said ∷ []
    → FollowsSome s (said ∷ []) h m → ComesSome s lines v cursor h m
begins-one s lines (event.Pass n) said cursor h m only some = absurd cc
begins-one s lines (event.Skip n) said cursor h m only some = absurd cc
begins-one s lines v said cursor h m only some = subst (λ acts. FollowsSome s acts h m) (sym only) some

module _ (lines : List Line) (sim : Sim) {said : Said} (v : Event)
    (only : (cursor : ℕ) (h : List Entry) → acts_of (setup_of lines) lines cursor h v ≡ said ∷ []) where
  pub line-one : (a : Act) → named (setup_of lines) (majors_of lines) a ≡ said → CanAct a sim → IsForeign (setup_of lines) a → IsOne lines sim v a
  line-one a says can foreign = record {
    possible = can;
    foreign = foreign;
    comes = λ cursor behind h m same follows. comes-one (setup_of lines) lines v said cursor behind h m (only cursor h) same (rw says at follows);
    begins = λ cursor h m some. begins-one (setup_of lines) lines v said cursor h m (only cursor h) (rw says at some);
  }

  pub line-some : (o : Option Plan) → IsSomeAnd o (Gives lines sim said) → IsSomeAnd o (IsPlanned lines sim v)
  line-some None g = absurd g
  line-some (Some p) g = rw g.is (line-one g.act g.says g.possible g.foreign)

-- a line of a host, by its kinds
abbrev pub IsOf : ArrayVec ℕ → TargetId → Event → Type 0
IsOf host dev v =
    ((at : ℕ) × (count : ℕ) × (v ≡ event.Read host dev at count))
    ⊎ ((at : ℕ) × (count : ℕ) × (fill : ℕ) × (v ≡ event.Write host dev at count fill))
    ⊎ (v ≡ event.Flush host dev)
    ⊎ (v ≡ event.Identify host dev)
    ⊎ ((ccmd : ℕ) × (text : Blob) × (v ≡ event.Config host dev ccmd text))
    ⊎ ((edit : Bool) × (dirs : ArrayVec Dir) × (v ≡ event.Masks host dev edit dirs))
    ⊎ ((rcmd : ℕ) × (list : ArrayVec Mac) × (v ≡ event.Reserve host dev rcmd list))

-- it asks for one submission, and its host is there
pub record Asks (host : ArrayVec ℕ) (dev : TargetId) (v : Event) : Type 0 where
  pub asked : Submission
  pub is : submission_in v ≡ Some asked
  pub only : (s : Setup) (lines : List Line) (cursor : ℕ) (h : List Entry) → acts_of s lines cursor h v ≡ Submit host asked.dev asked.op ∷ []
  pub can : (lines : List Line) (s : Setup) → CanCome lines s v → IsAsked lines s host dev

asked-by : {host : ArrayVec ℕ} {dev : TargetId} {w v : Event} (asked : Submission) → w ≡ v → submission_in v ≡ Some asked
    → ((s : Setup) (lines : List Line) (cursor : ℕ) (h : List Entry) → acts_of s lines cursor h v ≡ Submit host asked.dev asked.op ∷ [])
    → ((lines : List Line) (s : Setup) → CanCome lines s v → IsAsked lines s host dev) → Asks host dev w
asked-by asked same is only can = rw same (record { asked = asked; is = is; only = only; can = can })

pub asks-of : (host : ArrayVec ℕ) (dev : TargetId) (w : Event) → IsOf host dev w → Asks host dev w
asks-of host dev w (inl (at, count, is)) = asked-by _ is refl (λ s lines c h. refl) (λ lines s can. can)
asks-of host dev w (inr (inl (at, count, fill, is))) = asked-by _ is refl (λ s lines c h. refl) (λ lines s can. can)
asks-of host dev w (inr (inr (inl is))) = asked-by _ is refl (λ s lines c h. refl) (λ lines s can. can)
asks-of host dev w (inr (inr (inr (inl is)))) = asked-by _ is refl (λ s lines c h. refl) (λ lines s can. can)
asks-of host dev w (inr (inr (inr (inr (inl (ccmd, text, is)))))) = asked-by _ is refl (λ s lines c h. refl) (λ lines s can. can)
asks-of host dev w (inr (inr (inr (inr (inr (inl (edit, dirs, is))))))) = asked-by _ is refl (λ s lines c h. refl) (λ lines s can. can)
asks-of host dev w (inr (inr (inr (inr (inr (inr ((rcmd, list, is)))))))) = asked-by _ is refl (λ s lines c h. refl) (λ lines s can. can)

-- WHAT COMES OF A PLAN

module _ {T : Type 0} (lines : List Line) (cursor : ℕ) (old new : Sim) where
  -- the cursor stays on the frames or just behind them
  pub one-runs : (r : Result T NetRefusal) (e : Event) (a : Act) → IsOne lines old e a → 1 ≤ cursor → cursor ≤ suc (length (frames old.run.entries))
      → Does r (setup_of lines) (majors_of lines) (named (setup_of lines) (majors_of lines) a) old new → Runs r lines e cursor cursor old new
  one-runs (Ok u) e a one first within (g, ready) =
      (one.comes cursor cursor old.run.entries new.run.entries refl (new.run.entries, g, refl), ready, first, omega (arith, within, group-grows g))
  one-runs (Err refusal) e a one first within left = left-more (λ m begun. one.begins cursor old.run.entries m (inl begun)) left

  pub again-runs : (r : Result T NetRefusal) → 1 ≤ cursor → cursor ≤ suc (length (frames old.run.entries))
      → DoesAll r (setup_of lines) (majors_of lines) (handings (setup_of lines) (stations_of lines) old.run.entries (cursor - 1)) old new
      → Runs r lines event.Again cursor cursor old new
  again-runs (Ok u) first within (follows, ready) =
      ((refl, follows), ready, first, omega (arith, within, follows-grow (setup_of lines) _ old.run.entries new.run.entries follows))
  again-runs (Err refusal) first within left = left

  pub pass-runs : (r : Result T NetRefusal) (n behind : ℕ)
      → Moved r (setup_of lines) (majors_of lines) (handings (setup_of lines) (stations_of lines)) n cursor behind old new
      → Runs r lines (event.Pass n) cursor behind old new
  pass-runs (Ok u) n behind moved = moved
  pass-runs (Err refusal) n behind left = left

  pub skip-runs : (r : Result T NetRefusal) (n behind : ℕ) → Moved r (setup_of lines) (majors_of lines) losses n cursor behind old new
      → Runs r lines (event.Skip n) cursor behind old new
  skip-runs (Ok u) n behind moved = moved
  skip-runs (Err refusal) n behind left = left
