-- One step of a slot's device, in the words of what is known of it.
use Rattle.std.proofs.Common.{◌≡◌, ◌≤◌, ◌+◌, ℕ, List, Option, is_none, refl, arith}
use Rattle.std.specs.Prelude.{IfSome}
use Rattle.std.specs.Option.{option_map}
use Rattle.aoe_cache.specs.Any.{any_state, any_under}
use Rattle.aoe_disk.specs.Memory.{state_of}
use Rattle.aoe_disk.specs.State.{BothTell}
use Rattle.aoe_frame.specs.Header.{fields}
use Rattle.aoe_frame.specs.declared.header.Header.{Header}
use Rattle.aoe_base.specs.declared.sectors.Span.{Span}
use Rattle.aoe_ata.specs.declared.args.AtaArgs.{AtaArgs}
use Rattle.aoe_ata.specs.declared.decision.AtaAnswer.{AtaAnswer}
use Rattle.aoe_lists.specs.Step.{Step}
use Rattle.aoe_target.specs.declared.station.Station.{Station}
use Rattle.aoe_target.specs.declared.verdict.Verdict.{Verdict}
use Rattle.aoe_target.specs.declared.verdict.Verdict.TheVariants as verdict
use Rattle.aoe_target.specs.Device.{Holds, State}
use Rattle.aoe_target.specs.Law.{after, after_step, step_of, Allows, AllowsAta, Fate, IsStep}
use Rattle.aoe_target.specs.Sectors.{sectors_of, Sectors, Tells}
use Rattle.aoe_target.specs.Verdict as judge
use Rattle.aoe_sim_shelves.specs.Shelf.{AgreesWithin, HoldsWithin}
use Rattle.aoe_sim_shelves.proofs.AgreeLemmas.{both_ata, both_then, pass, told_exact}
use Rattle.aoe_sim_shelves.proofs.WithinLemmas.{verdict_end, InEnd, Ranged}
use Rattle.aoe_target.proofs.LawLemmas.{both_self}
use Rattle.aoe_sim_shelves.proofs.Words.{device, Target}

-- WHAT MAY BECOME OF IT

tells_within : (n : ℕ) (span : Span) (bytes : List ℕ) (x y : Option Sectors) → BothTell (AgreesWithin n) x y
    → span.at + span.count ≤ n → IfSome x (Tells span bytes) → IfSome y (Tells span bytes)
tells_within n span bytes x y xy end told = grind (arith, pass)

allows_within : (n : ℕ) (station : Station) (x y : Option Sectors) → BothTell (AgreesWithin n) x y
    → (h : Header) (args : AtaArgs) (answer : AtaAnswer) (fate : Fate)
    → InEnd n answer → AllowsAta station x h args answer fate → AllowsAta station y h args answer fate
allows_within n station x y xy h args answer fate end g = grind (arith, tells_within)

-- A STEP

-- a device in memory as it is, in the words of what is known of it
abbrev pub known_in : Target → State → State
known_in t k = record k { sectors = option_map sectors_of (any_state state_of t.store).contents }

pub held : (n : ℕ) (t : Target) (k : State) → HoldsWithin n (device t) k → Holds (device t) (known_in t k)
held n t k h = record { lists = h.lists; crash = h.crash; sectors = both_self (option_map sectors_of (any_state state_of t.store).contents) }

pub record StepsWithin (station : Station) (k : State) (f : List ℕ) (fate : Fate) (t : Target) : Type 0 where
  pub allowed : Allows station k f (judge.verdict station k.lists f) fate
  pub holds : HoldsWithin station.sectors (device t) (after station f (judge.verdict station k.lists f) fate k)

step_known : (t : Target) (s : Step) (fate : Fate) (k : State) → after_step s fate (known_in t k) ≡ known_in t (after_step s fate k)
step_known t s fate k = grind arith

pub step_sectors : (s : Step) (fate : Fate) (k : State) → (after_step s fate k).sectors ≡ k.sectors
step_sectors s fate k = grind arith

module _ (station : Station) (k : State) (f : List ℕ) (fate : Fate) (t u : Target)
    (kind : is_none (any_under state_of u.store) ≡ is_none (any_under state_of t.store)) (h : HoldsWithin station.sectors (device t) k) where
  abbrev own : Option Sectors
  own = option_map sectors_of (any_state state_of t.store).contents

  abbrev left : Option Sectors
  left = option_map sectors_of (any_state state_of u.store).contents

  exact : told_exact left ≡ told_exact own
  exact = grind (arith, kind)

  kept : (k2 : State) → k2.sectors ≡ k.sectors → Holds (device u) (known_in t k2) → HoldsWithin station.sectors (device u) k2
  kept k2 same hold = record {
    lists = hold.lists;
    crash = hold.crash;
    sectors = both_then station.sectors left own k2.sectors exact hold.sectors (rw same h.sectors);
  }

  by_verdict : (v : Verdict) → Ranged station.sectors v → Allows station (known_in t k) f v fate → Holds (device u) (after station f v fate (known_in t k))
      → Allows station k f v fate × HoldsWithin station.sectors (device u) (after station f v fate k)
  by_verdict (verdict.Lists command) r a hold =
      let s : Step = step_of station k.lists f command in
      (a, kept (after_step s fate k) (step_sectors s fate k) (rw (step_known t s fate k) at hold))
  by_verdict (verdict.Ata d) r a hold = (
    allows_within station.sectors station own k.sectors h.sectors (fields f) d.args d.answer fate r a,
    record {
      lists = hold.lists;
      crash = hold.crash;
      sectors = both_ata station.sectors station (fields f) d.args f fate d.answer left own k.sectors exact hold.sectors h.sectors a;
    },
  )
  by_verdict _ r a hold = (a, kept k refl hold)

  -- a step of the device as it is, is one of what is known of it
  pub stepped : IsStep station (known_in t k) f fate (device u) → StepsWithin station k f fate u
  stepped s =
      let both = by_verdict (judge.verdict station k.lists f) (verdict_end station k.lists f) s.allowed s.holds in
      record { allowed = both.0; holds = both.1 }
