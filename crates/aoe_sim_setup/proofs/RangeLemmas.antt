-- The ranges of what good lines declare.
use Rattle.std.proofs.Common.{length, ℕ, suc, ◌<◌, ◌≤◌, ◌≡◌, ◌∙◌, ◌-◌, ◌/◌, true, List, [], ◌∷◌, Option, Some, None, refl, ap, arith}
use Rattle.std.specs.Prelude.{slice_get, is_some, option_and_then, unwrap_or}
use Rattle.std.specs.List.{find}
use Rattle.std.proofs.lemmas.Bool.Decides.{nat_tests}
use Rattle.arrayvec.specs.ArrayVec.{ArrayVec}
use Rattle.aoe_base.specs.declared.counted.Lifetimes.{Lifetimes}
use Rattle.aoe_initiator.specs.declared.device.Attached.{Attached}
use Rattle.aoe_initiator.specs.Defaults.{default_dead, default_life, default_room}
use Rattle.aoe_initiator.specs.HostLaw.{same_id}
use Rattle.aoe_history.specs.Setup.{HostSetup}
use Rattle.aoe_script.specs.declared.setup.Setup.{Setup as Line}
use Rattle.aoe_script.specs.declared.setup.Setup.TheVariants.{Life, Host}
use Rattle.aoe_script.specs.Rules.{is_cache, is_host as is_host_line, is_limit}
use Rattle.aoe_sim_setup.specs.Layout.{host_in, life_in, setup_of}
use Rattle.aoe_sim_setup.specs.Stations.{HasRanges, IsCache, IsDevice, IsHost, IsSlot}
use Rattle.aoe_sim_setup.proofs.GoodLines.{within, AreGood, GoodLife}
use Rattle.aoe_sim_setup.proofs.HostLemmas.{device-from, devices-apart, host-at, host-from, DeviceFrom, HostFrom}
use Rattle.aoe_sim_setup.proofs.LineLemmas.{slot_in, SlotLine}
use Rattle.aoe_sim_setup.proofs.ListLemmas.{apart-by, few-filtered}
use Rattle.aoe_sim_setup.proofs.SlotLemmas.{same-turn, slot-from}

-- ---- numbers of a host

record Limits (room dead : Option ℕ) : Type 0 where
  some_room : 0 < unwrap_or room default_room
  most_room : unwrap_or room default_room ≤ 16384
  some_time : 0 < unwrap_or dead default_dead
  most_time : unwrap_or dead default_dead ≤ 10000000

limits : (room dead : Option ℕ) → is_limit room dead ≡ true → Limits room dead
limits None None e = omega arith
limits (Some room) (Some dead) e = grind (arith, nat_tests)
limits _ _ e = absurd cc

pub is-cache : (room : Option ℕ) → is_cache room ≡ true → IsCache room
is-cache None e = tt
is-cache (Some room) e = within 1 65536 room e

-- ---- the first line that says how long frames live

record ShortLife (life : Lifetimes) : Type 0 where
  requests : life.requests.0 ≤ 600000
  responses : life.responses.0 ≤ 600000

life-by : (lines : List Line) → ((k requests : ℕ) (responses : Option ℕ) → slice_get lines k ≡ Some (Life requests responses) → GoodLife requests responses)
    → ShortLife (unwrap_or (option_and_then life_in (find (λ line. is_some (life_in line)) lines)) default_life)
life-by [] few = record { requests = omega arith; responses = omega arith }
life-by (Life requests responses ∷ lines) few = let g = few 0 requests responses refl in record { requests = g.requests; responses = g.responses }
life-by (_ ∷ lines) few = life-by lines (λ k requests responses e. few (suc k) requests responses e)

module _ (lines : List Line) (good : AreGood lines) where
  -- the ranges of a slot by its two lines
  pub line-ranges : {name : ArrayVec ℕ} {minor : ℕ} (x : SlotLine lines name minor) → IsSlot (slot_in x) × (x.shelf.major < 65535) × (minor < 255)
  line-ranges x =
      let g = good.shelf x.shelf.at _ _ _ _ x.shelf.there in
      let s = good.slot x.at _ _ _ _ x.there in
      let some : 0 < (x.shelf.mtu - 36) / 512 = omega (arith, g.least) in
      let most : (x.shelf.mtu - 36) / 512 ≤ 17 = omega (arith, g.most) in (
        record { ports = g.ports_are; sectors = s.least; size = s.most; some = some; max = most; cache = is-cache x.room s.cache },
        omega (arith, g.number),
        omega (arith, s.number),
      )

  is-device : (d : Attached) → DeviceFrom lines d → IsDevice d
  is-device d x =
      let (s, major, minor) = line-ranges x.line in
      rw (← x.device_is) (record { remotes = s.ports; major = major; minor = minor; sectors = s.sectors; size = s.size; some = s.some; max = s.max })

  is-host : (host : HostSetup) → HostFrom lines host → IsHost host
  is-host host h =
      let g = good.host h.line.at _ _ _ _ h.line.there in
      let l = limits h.line.room h.line.dead g.limit in
      rw (← h.host_is) (record {
        ports = g.ports_are;
        some_room = l.some_room;
        room = l.most_room;
        some_time = l.some_time;
        dead = l.most_time;
        devices = λ i d e. is-device d (device-from lines good h.name i d e);
        apart = apart-by (λ (x y : Attached). same_id x.id y.id) _ (λ x y. same-turn x.id y.id) (devices-apart lines good h.name);
      })

  few-hosts : length (setup_of lines).hosts ≤ 16
  few-hosts = few-filtered (host_in lines) is_host_line 16 lines (λ i line host e g.
      let h = host-at lines i line host e g in
      let there = h.0.line.there in
      let same = h.1 in
      let is : line ≡ Host h.0.name h.0.line.ports h.0.line.room h.0.line.dead = cc in
      (ap is_host_line is, (good.host i _ _ _ _ (e ∙ ap Some is)).few))

  pub has-ranges : HasRanges (setup_of lines)
  has-ranges = record {
    requests = (life-by lines good.life).requests;
    responses = (life-by lines good.life).responses;
    few_hosts = few-hosts;
    hosts = λ i host e. is-host host (host-from lines i host e);
    slots = λ i slot e. let x = slot-from lines good slot (record { at = i; there = e }) in rw (← x.slot_is) (line-ranges x.line).0;
  }
