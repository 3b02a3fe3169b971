-- What an event line comes to.
use Rattle.std.specs.Prelude.{ℕ, ◌≡◌, ◌+◌, ◌-◌, ◌^◌, ◌<◌, List, [], ◌∷◌}
use Rattle.aoe_history.specs.declared.entry.Entry.{Entry}
use Rattle.aoe_history.specs.Commands.{tickets}
use Rattle.aoe_history.specs.Frames.{clock}
use Rattle.aoe_history.specs.Groups.{Act as Said, Follows}
use Rattle.aoe_history.specs.Setup.{HostSetup}
use Rattle.aoe_script.specs.declared.event.Event.{Event}
use Rattle.aoe_script.specs.declared.event.Event.TheVariants as event
use Rattle.aoe_script.specs.declared.setup.Setup.{Setup as Line}
use Rattle.aoe_script.specs.Rules.{longest_wait}
use Rattle.aoe_sim_setup.specs.Layout.{majors_of, setup_of, stations_of}
use Rattle.aoe_sim_setup.specs.Stations.{CanCome}
use Rattle.aoe_world.specs.declared.act.Act.{Act}
use Rattle.aoe_world.specs.declared.place.Place.{Place}
use Rattle.aoe_world.specs.declared.plan.Plan.{Plan}
use Rattle.aoe_world.specs.declared.plan.Plan.TheVariants as plan
use Rattle.aoe_world.specs.declared.sim.Sim.{Sim}
use Rattle.aoe_world.specs.Acts.{named, CanAct, IsForeign}
use Rattle.aoe_world.specs.Schedule.{Comes, ComesSome, FollowsSome}
use Rattle.aoe_world.specs.Sim.{ArePlaces, IsNetwork, IsReady}

-- the stations and their places are those of the lines, and neither time nor tickets run out with the next line
pub record Knows (lines : List Line) (places : List Place) (sim : Sim) : Type 0 where
  pub network_is : IsNetwork (setup_of lines) (majors_of lines)
  pub places_are : ArePlaces (setup_of lines) (majors_of lines) (stations_of lines) places
  pub ready : IsReady (setup_of lines) (majors_of lines) sim
  pub time : clock sim.run.entries + longest_wait < 2 ^ 64
  pub few : (host : HostSetup) → tickets host sim.run.entries < 2 ^ 64 - 1

-- one act, which can be done, and which this is by its names
pub record Gives (lines : List Line) (sim : Sim) (said : Said) (p : Plan) : Type 0 where
  pub act : Act
  pub is : p ≡ plan.One act
  pub says : named (setup_of lines) (majors_of lines) act ≡ said
  pub possible : CanAct act sim
  pub foreign : IsForeign (setup_of lines) act

-- an act that can be done, and whose group is what comes of the line
pub record IsOne (lines : List Line) (sim : Sim) (e : Event) (act : Act) : Type 0 where
  pub possible : CanAct act sim
  pub foreign : IsForeign (setup_of lines) act
  pub comes : (cursor behind : ℕ) (h m : List Entry) → behind ≡ cursor → Follows (setup_of lines) (named (setup_of lines) (majors_of lines) act ∷ []) h m
      → Comes (setup_of lines) lines e cursor h behind m
  pub begins : (cursor : ℕ) (h m : List Entry) → FollowsSome (setup_of lines) (named (setup_of lines) (majors_of lines) act ∷ []) h m
      → ComesSome (setup_of lines) lines e cursor h m

abbrev pub IsPlanned : List Line → Sim → Event → Plan → Type 0
IsPlanned lines sim e (plan.One act) = IsOne lines sim e act
IsPlanned lines sim e (plan.Pass n) = e ≡ event.Pass n
IsPlanned lines sim e (plan.Skip n) = e ≡ event.Skip n
IsPlanned lines sim e plan.Again = e ≡ event.Again

-- there are lines of which all this holds
pub record Goes (places : List Place) (sim : Sim) (e : Event) : Type 0 where
  pub lines : List Line
  pub knows : Knows lines places sim
  pub can : CanCome lines (setup_of lines) e
