-- The words of an event line say what it asks.
use Rattle.std.proofs.Common.{◌≡◌, ◌^◌, ◌<◌, ◌==◌, ℕ, true, ◌&&◌, length, nat_lt, nat_le, refl, arith, lit<}
use Rattle.std.specs.Prelude.{if◌then◌else◌}
use Rattle.std.proofs.lemmas.Bool.{and_parts}
use Rattle.std.proofs.lemmas.Bool.Decides.{nat_tests}
use Rattle.aoe_script.specs.declared.event.Event.{Event}
use Rattle.aoe_script.specs.declared.event.Event.TheVariants.{Read, Write, Flush, Identify, Config, Masks, Reserve, Tick, Deliver, Pass, Skip, Again, Inject, Fail, Stop, Crash}
use Rattle.aoe_script.specs.declared.line.Line.TheVariants.{Asks}
use Rattle.aoe_script.specs.Classes.{is_name}
use Rattle.aoe_script.specs.Forms.{said}
use Rattle.aoe_script.specs.Print.{event_words}
use Rattle.aoe_script.specs.Rules.{is_asked, is_device, is_event, is_span, is_within}
use Rattle.aoe_script.specs.Types.{FitsEvent}
use Rattle.aoe_script.proofs.NamedLemmas.{DeviceLaw, device_back, device_word, mode_back, mode_word, name_back, name_word, which_back, which_word}
use Rattle.aoe_script.proofs.ListedLemmas.{AddressLaw}
use Rattle.aoe_script.proofs.SaidLemmas.{IsSaid, most_of, small_of}
use Rattle.aoe_script.proofs.WrittenLemmas.{bytes_back, bytes_word, number_is, number_word}
use Rattle.aoe_script.proofs.AskedBack.{config_is, flush_is, identify_is, masks_is, read_is, reserve_is, write_is}

span_of : (at count : ℕ) → is_span at count ≡ true → (at < 2 ^ 64) × (count < 2 ^ 64)
span_of at count e =
    let h = and_parts (nat_lt at 281474976710656) (nat_le count 255) e in
    let low : at < 281474976710656 = grind (arith, nat_tests) in
    (omega (arith, low), small_of 255 count (lit< tt) h.1)

module _ (law : AddressLaw) (devices : DeviceLaw) where
  pub event_is : (event : Event) → is_event event ≡ true → FitsEvent event → IsSaid (event_words event) (Asks event)
  unfolding said
  event_is (Read host dev at count) e fits =
      let h = and_parts (is_asked host dev) (is_span at count) e in
      let g = and_parts (is_name host) (is_device dev) h.0 in
      let span = span_of at count h.1 in
      read_is law devices host dev g.0 g.1 at count span.0 span.1
  event_is (Write host dev at count fill) e fits =
      let h = and_parts (is_asked host dev) (is_span at count) e in
      let g = and_parts (is_name host) (is_device dev) h.0 in
      let span = span_of at count h.1 in
      write_is law devices host dev g.0 g.1 at count fill span.0 span.1 fits
  event_is (Flush host dev) e fits = let g = and_parts (is_name host) (is_device dev) e in flush_is law devices host dev g.0 g.1
  event_is (Identify host dev) e fits = let g = and_parts (is_name host) (is_device dev) e in identify_is law devices host dev g.0 g.1
  event_is (Config host dev ccmd text) e fits =
      let h = and_parts (is_asked host dev && nat_le ccmd 4) (nat_le (length text) (if ccmd == 0 then 0 else 1024)) e in
      let f = and_parts (is_asked host dev) (nat_le ccmd 4) h.0 in
      let g = and_parts (is_name host) (is_device dev) f.0 in
      config_is law devices host dev g.0 g.1 ccmd text f.1 h.1 fits
  event_is (Masks host dev edit dirs) e fits =
      let h = and_parts (is_asked host dev) (is_within (if edit then 1 else 0) (if edit then 64 else 0) (length dirs.items)) e in
      let g = and_parts (is_name host) (is_device dev) h.0 in
      masks_is law devices host dev g.0 g.1 edit dirs.items h.1 fits
  event_is (Reserve host dev rcmd list) e fits =
      let h = and_parts (is_asked host dev && nat_le rcmd 2) (nat_le (length list.items) (if rcmd == 0 then 0 else 64)) e in
      let f = and_parts (is_asked host dev) (nat_le rcmd 2) h.0 in
      let g = and_parts (is_name host) (is_device dev) f.0 in
      reserve_is law devices host dev g.0 g.1 rcmd list.items f.1 h.1 fits
  event_is (Tick ms) e fits = let small = most_of 1 10000000 ms (lit< tt) e in rw (number_is ms small, number_word ms small) refl
  event_is (Deliver frame station) e fits =
      let h = and_parts (is_within 1 4294967295 frame) (is_name station) e in
      let small = most_of 1 4294967295 frame (lit< tt) h.0 in
      rw (number_is frame small, name_back station h.1, number_word frame small, name_word station h.1) refl
  event_is (Pass n) e fits = let small = most_of 1 10000 n (lit< tt) e in rw (number_is n small, number_word n small) refl
  event_is (Skip n) e fits = let small = most_of 1 10000 n (lit< tt) e in rw (number_is n small, number_word n small) refl
  event_is Again e fits = refl
  event_is (Inject bytes) e fits = rw (bytes_back bytes fits, bytes_word bytes fits) refl
  event_is (Fail dev which k) e fits =
      let h = and_parts (is_device dev) (is_within 1 1000 k) e in
      let small = most_of 1 1000 k (lit< tt) h.1 in
      rw (device_back devices dev h.0, which_back which, number_is k small, device_word dev h.0, which_word which, number_word k small) refl
  event_is (Stop dev which k mode) e fits =
      let h = and_parts (is_device dev) (is_within 1 1000 k) e in
      let small = most_of 1 1000 k (lit< tt) h.1 in
      rw (device_back devices dev h.0, which_back which, number_is k small, mode_back mode fits)
      (rw (device_word dev h.0, which_word which, number_word k small, mode_word mode fits) refl)
  event_is (Crash shelf mode) e fits = rw (name_back shelf e, mode_back mode fits, name_word shelf e, mode_word mode fits) refl
