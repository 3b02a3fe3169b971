-- How long the text of a script can be whose lines were recorded.
use Rattle.std.proofs.Common.{◌≡◌, ◌∙◌, ◌+◌, ◌*◌, ◌<◌, ◌≤◌, ◌%◌, ◌-◌, ◌^◌, ◌++◌, ℕ, suc, Bool, true, false, List, [], ◌∷◌, All, refl, sym, ap, subst, arith, length, length-append}
use Rattle.std.specs.Prelude.{◌==◌, if◌then◌else◌, codes, decimal}
use Rattle.std.specs.List.{flat_map}
use Rattle.std.proofs.lemmas.Fmt.{length-decimal-le}
use Rattle.std.proofs.lemmas.List.Elements.{All-head, All-tail}
use Rattle.std.proofs.lemmas.Nat.{mod_below}
use Rattle.arrayvec.specs.ArrayVec.{ArrayVec}
use Rattle.aoe_base.specs.Names.{device_text, pair_text}
use Rattle.aoe_net.specs.Network.{most_frames}
use Rattle.aoe_script.specs.declared.event.Event.{Event}
use Rattle.aoe_script.specs.declared.event.Event.TheVariants.{Read, Write, Flush, Tick, Deliver}
use Rattle.aoe_script.specs.declared.setup.Setup.{Setup}
use Rattle.aoe_script.specs.Lines.{ScriptLines}
use Rattle.aoe_script.specs.Print.{event_words, line_text, script_text, spaced}
use Rattle.aoe_script.specs.Words.{Text}
use Rattle.aoe_live.specs.Recorder.{IsShort}
use Rattle.aoe_live.specs.Stations.{command, device, host_a, stations}
use Rattle.aoe_live.proofs.GoodLemmas.{setups-text, stations-short}

-- LINES

abbrev sized : List Text → ℕ
sized [] = 0
sized (w ∷ ws) = suc (length w) + sized ws

spaced-length : (ws : List Text) → length (spaced ws) ≡ sized ws
spaced-length [] = refl
spaced-length (w ∷ ws) = length-append (32 ∷ w) (spaced ws) ∙ ap (λ n. suc (length w) + n) (spaced-length ws)

line-length : (first : Text) (ws : List Text) → length (line_text (first ∷ ws)) ≡ (length first + sized ws) + 1
line-length first ws = length-append (first ++ spaced ws) (10 ∷ [])
    ∙ ap (λ n. n + 1) (length-append first (spaced ws) ∙ ap (λ n. length first + n) (spaced-length ws))

number-short : (n : ℕ) → n < 2 ^ 32 → length (decimal n) ≤ 10
number-short n small = length-decimal-le 10 n (omega arith) (omega (arith, small)) (omega (arith, small))

device-short : length (device_text device) ≤ 22
device-short =
    let major = number-short 1 (omega arith) in
    let minor = number-short 0 (omega arith) in
    let all = length-append (decimal 1) (46 ∷ decimal 0) in
    omega (arith, all, major, minor)

pub tick-short : (ms : ℕ) → ms ≤ 10000000 → IsShort (Tick ms)
tick-short ms most =
    let all = line-length (codes "tick") (decimal ms ∷ []) in
    let digits = number-short ms (omega (arith, most)) in
    omega (arith, all, digits)

pub deliver-short : (frame : ℕ) (station : ArrayVec ℕ) → frame ≤ most_frames → length station.items ≤ 1 → IsShort (Deliver frame station)
deliver-short frame station few one =
    let all = line-length (codes "deliver") (decimal frame ∷ station.items ∷ []) in
    let digits = number-short frame (omega (arith, few)) in
    omega (arith, all, digits, one)

flush-short : IsShort (Flush host_a device)
flush-short =
    let all = line-length (codes "flush") (host_a.items ∷ device_text device ∷ []) in
    omega (arith, all, device-short)

write-short : (at fill : ℕ) → at < 2 ^ 32 → IsShort (Write host_a device at 1 fill)
write-short at fill small =
    let all = line-length (codes "write") (host_a.items ∷ device_text device ∷ decimal at ∷ decimal 1 ∷ pair_text fill ∷ []) in
    let digits = number-short at small in
    let one = number-short 1 (omega arith) in
    omega (arith, all, device-short, digits, one)

read-short : (at : ℕ) → at < 2 ^ 32 → IsShort (Read host_a device at 1)
read-short at small =
    let all = line-length (codes "read") (host_a.items ∷ device_text device ∷ decimal at ∷ decimal 1 ∷ []) in
    let digits = number-short at small in
    let one = number-short 1 (omega arith) in
    omega (arith, all, device-short, digits, one)

module _ (sectors count i : ℕ) (some : 1 ≤ sectors) (most : sectors ≤ 65536) where
  within : (n : ℕ) → n % sectors < 2 ^ 32
  within n = let below : n % sectors < sectors = mod_below n sectors some in omega (arith, below, most)

  pub command-short : IsShort (command sectors count i)
  command-short = go (i == count) (i % 2 == 0)
    where
      go : (last write : Bool) → IsShort
          (if last then Flush host_a device else if write then Write host_a device (i % sectors) 1 (i % 256) else Read host_a device ((i - 1) % sectors) 1)
      go true write = flush-short
      go false true = write-short (i % sectors) (i % 256) (within i)
      go false false = read-short ((i - 1) % sectors) (within (i - 1))

-- A SCRIPT

lines-short : (events : List Event) → All IsShort events → length (flat_map (λ (e : Event). line_text (event_words e)) events) ≤ 256 * length events
lines-short [] short = omega arith
lines-short (e ∷ events) short =
    let all = length-append (line_text (event_words e)) (flat_map (λ (x : Event). line_text (event_words x)) events) in
    let first = All-head IsShort e events short in
    let others = lines-short events (All-tail IsShort e events short) in
    omega (arith, all, first, others)

pub script-short : (sectors : ℕ) (script : ScriptLines) → sectors ≤ 65536 → script.setups ≡ stations sectors → length script.events ≤ 50000
    → All IsShort script.events
    → length (script_text script) ≤ 16777216
script-short sectors script most setups few short =
    let behind : Text = flat_map (λ (e : Event). line_text (event_words e)) script.events in
    let P : List Setup → Type 0 = λ lines. length (script_text (record { setups = lines; events = script.events })) ≤ 16777216 in
    let front = stations-short sectors most in
    let lines = lines-short script.events short in
    let all = length-append (setups-text sectors) behind in
    subst P (sym setups) (omega (arith, front, lines, few, all))
