-- Nothing is wrong with the events behind the setup lines.
use Rattle.std.proofs.Common.{◌≡◌, ◌+◌, ◌<◌, ◌%◌, ◌/◌, ℕ, Bool, true, false, [], ◌∷◌, All, None, nat_lt, refl, arith}
use Rattle.std.specs.Prelude.{◌==◌, if◌then◌else◌}
use Rattle.std.proofs.lemmas.Bool.{lt-ltb}
use Rattle.std.proofs.lemmas.List.Elements.{All-from_recursion}
use Rattle.arrayvec.specs.ArrayVec.{ArrayVec}
use Rattle.aoe_disk.specs.declared.loss.Loss.TheVariants.{Torn}
use Rattle.aoe_script.specs.declared.event.Event.{Event}
use Rattle.aoe_script.specs.declared.event.Event.TheVariants.{Read, Write, Flush, Tick, Pass, Skip, Again, Crash}
use Rattle.aoe_script.specs.Classes.{is_name}
use Rattle.aoe_script.specs.Lines.{ScriptLines}
use Rattle.aoe_script.specs.Rules.{asked_why, event_why, is_asked, named_why}
use Rattle.aoe_soak.specs.Adds.{Takes}
use Rattle.aoe_soak.specs.Soak.{crash, device, first_line, host, host_a, host_b, pair, sector, shelf_s, stations}

-- both hosts are attached to the device
host_a_asks : asked_why stations host_a device ≡ None
host_a_asks = refl

host_b_asks : asked_why stations host_b device ≡ None
host_b_asks = refl

-- the shelf stands
shelf_stands : named_why stations (Crash shelf_s Torn) ≡ None
shelf_stands = refl

host_asks : (i : ℕ) → asked_why stations (host i) device ≡ None
host_asks i = go (i % 2 == 0)
  where
    go : (b : Bool) → asked_why stations (if b then host_a else host_b) device ≡ None
    go true = host_a_asks
    go false = host_b_asks

is_host : (i : ℕ) → is_asked (host i) device ≡ true
unfolding is_name
is_host i = go (i % 2 == 0)
  where
    go : (b : Bool) → is_asked (if b then host_a else host_b) device ≡ true
    go true = refl
    go false = refl

small_sector : (seed i : ℕ) → nat_lt (sector seed i) 281474976710656 ≡ true
small_sector seed i = lt-ltb (sector seed i) 281474976710656 (go (i % 2 == 0))
  where
    go : (b : Bool) → (seed + i / 2 / 2) % 2048 + (if b then 0 else 2048) < 281474976710656
    go true = omega arith
    go false = omega arith

module _ (script : ScriptLines) (is : script.setups ≡ stations) where
  pub passes : Takes script (Pass 2)
  unfolding event_why
  passes = refl

  pub takes_lost : All (Takes script) (Pass 1 ∷ Skip 1 ∷ Tick 1000 ∷ Pass 2 ∷ [])
  unfolding event_why
  takes_lost = All-from_recursion (Takes script) (Pass 1 ∷ Skip 1 ∷ Tick 1000 ∷ Pass 2 ∷ []) (refl, (refl, (refl, (refl, tt))))

  pub takes_repeated : All (Takes script) (Pass 1 ∷ Again ∷ Pass 2 ∷ [])
  unfolding event_why
  takes_repeated = All-from_recursion (Takes script) (Pass 1 ∷ Again ∷ Pass 2 ∷ []) (refl, (refl, (refl, tt)))

  flush_a : Takes script (Flush host_a device)
  unfolding event_why is_name
  flush_a = rw (is) host_a_asks

  flush_b : Takes script (Flush host_b device)
  unfolding event_why is_name
  flush_b = rw (is) host_b_asks

  loses_power : Takes script (Crash shelf_s Torn)
  unfolding event_why is_name
  loses_power = rw (is) shelf_stands

  takes_crash : All (Takes script) crash
  unfolding event_why
  takes_crash = All-from_recursion (Takes script) crash (refl, (flush_a, (refl, (flush_b, (refl, (loses_power, tt))))))

  pub takes_lines : (a b : Event) (shelf : ArrayVec ℕ) → a ≡ Flush host_a device → b ≡ Flush host_b device → shelf ≡ record { items = 115 ∷ [] }
      → All (Takes script) (Tick 2001 ∷ a ∷ Pass 2 ∷ b ∷ Pass 2 ∷ Crash shelf Torn ∷ [])
  takes_lines a b shelf a_is b_is shelf_is = rw (a_is, b_is, shelf_is) takes_crash

  takes_first : (seed i : ℕ) → Takes script (first_line seed i)
  unfolding event_why
  takes_first seed i = go (pair i % 2 == 0)
    where
      go : (b : Bool) → Takes script (if b then Write (host i) device (sector seed i) 1 ((seed + i / 2 / 2) % 256) else Read (host i) device (sector seed i) 1)
      go true = rw (is_host i, small_sector seed i, is) (host_asks i)
      go false = rw (is_host i, small_sector seed i, is) (host_asks i)

  pub takes_one : (seed i : ℕ) (event : Event) → event ≡ first_line seed i → Takes script event
  takes_one seed i event same = rw (same) (takes_first seed i)
