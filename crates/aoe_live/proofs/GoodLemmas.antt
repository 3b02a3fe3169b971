-- Nothing is wrong with the setup lines and the lines that are recorded.
use Rattle.std.proofs.Common.{◌≡◌, ◌∙◌, ◌+◌, ◌<◌, ◌≤◌, ◌%◌, ◌-◌, ◌++◌, ℕ, zero, suc, Bool, true, false, List, [], ◌∷◌, All, None, nat_lt, nat_le, refl, sym, ap, arith, append_assoc, append-nil, length, length-append}
use Rattle.std.specs.Prelude.{◌==◌, if◌then◌else◌, codes, decimal, IfSome, slice_get, take}
use Rattle.std.proofs.lemmas.Bool.{lt-ltb}
use Rattle.std.specs.Fmt.{digits}
use Rattle.std.specs.List.{flat_map}
use Rattle.std.proofs.lemmas.Fmt.{length-decimal-le_succ}
use Rattle.std.proofs.lemmas.Nat.{mod_below}
use Rattle.std.proofs.lemmas.Bool.Decides.{nat_tests}
use Rattle.aoe_script.specs.declared.event.Event.TheVariants.{Read, Write, Flush, Tick, Deliver}
use Rattle.aoe_script.specs.Classes.{is_name}
use Rattle.aoe_script.specs.Lines.{AreGood}
use Rattle.aoe_script.specs.declared.setup.Setup.{Setup}
use Rattle.aoe_script.specs.Print.{line_text, script_text, setup_words}
use Rattle.aoe_script.specs.Rules.{are_ports, event_why, setup_why}
use Rattle.aoe_live.specs.Stations.{command, device, host_a, shelf_s, stations}

pub ticks-good : (sectors ms : ℕ) → 1 ≤ ms → ms ≤ 10000000 → event_why (stations sectors) (Tick ms) ≡ None
unfolding event_why
ticks-good sectors ms some most =
    let least : nat_le 1 ms ≡ true = grind (arith, nat_tests) in
    let greatest : nat_le ms 10000000 ≡ true = grind (arith, nat_tests) in
    rw (least, greatest) refl

pub shelf-good : (sectors number : ℕ) → 1 ≤ number → number ≤ 4294967295 → event_why (stations sectors) (Deliver number shelf_s) ≡ None
unfolding event_why is_name
shelf-good sectors number some most =
    let least : nat_le 1 number ≡ true = grind (arith, nat_tests) in
    let greatest : nat_le number 4294967295 ≡ true = grind (arith, nat_tests) in
    rw (least, greatest) refl

pub host-good : (sectors number : ℕ) → 1 ≤ number → number ≤ 4294967295 → event_why (stations sectors) (Deliver number host_a) ≡ None
unfolding event_why is_name
host-good sectors number some most =
    let least : nat_le 1 number ≡ true = grind (arith, nat_tests) in
    let greatest : nat_le number 4294967295 ≡ true = grind (arith, nat_tests) in
    rw (least, greatest) refl

pub flush-good : (sectors : ℕ) → event_why (stations sectors) (Flush host_a device) ≡ None
unfolding event_why is_name
flush-good sectors = refl

pub write-good : (sectors at fill : ℕ) → at < 281474976710656 → event_why (stations sectors) (Write host_a device at 1 fill) ≡ None
unfolding event_why is_name
write-good sectors at fill small = let t : nat_lt at 281474976710656 ≡ true = lt-ltb at 281474976710656 small in rw t refl

pub read-good : (sectors at : ℕ) → at < 281474976710656 → event_why (stations sectors) (Read host_a device at 1) ≡ None
unfolding event_why is_name
read-good sectors at small = let t : nat_lt at 281474976710656 ≡ true = lt-ltb at 281474976710656 small in rw t refl

-- nothing is wrong with the setup lines
module _ (sectors : ℕ) (some : 1 ≤ sectors) (most : sectors ≤ 65536) where
  pub are-good : AreGood (stations sectors)
  unfolding setup_why are_ports is_name
  are-good (suc (suc zero)) =
      let least : nat_le 1 sectors ≡ true = grind (arith, nat_tests) in
      let greatest : nat_le sectors 65536 ≡ true = grind (arith, nat_tests) in
      let few : nat_lt 262144 (0 + sectors) ≡ false = grind (arith, nat_tests) in
      rw (least, greatest, few) refl
  are-good (suc (suc (suc (suc (suc k))))) = tt
  are-good _ = refl

-- each command is good
module _ (sectors count i : ℕ) (some : 1 ≤ sectors) (most : sectors ≤ 65536) where
  within : (n : ℕ) → n % sectors < 281474976710656
  within n = let below : n % sectors < sectors = mod_below n sectors some in omega (arith, below, most)

  pub command-good : event_why (stations sectors) (command sectors count i) ≡ None
  command-good = go (i == count) (i % 2 == 0)
    where
      go : (last write : Bool)
          → event_why (stations sectors)
          (if last then Flush host_a device else if write then Write host_a device (i % sectors) 1 (i % 256) else Read host_a device ((i - 1) % sectors) 1)
          ≡ None
      go true write = flush-good sectors
      go false true = write-good sectors (i % sectors) (i % 256) (within i)
      go false false = read-good sectors ((i - 1) % sectors) (within (i - 1))

-- the text of the setup lines
module _ (sectors : ℕ) where
  abbrev pub behind : List ℕ
  behind = codes "host a 02:00:00:00:00:0a\nattach a s 0\n"

  end-is : (d rest : List ℕ) → (((d ++ []) ++ 10 ∷ []) ++ rest) ++ [] ≡ d ++ 10 ∷ rest
  end-is d rest = append-nil (((d ++ []) ++ 10 ∷ []) ++ rest) ∙ append_assoc (d ++ []) (10 ∷ []) rest ∙ ap (λ l. l ++ 10 ∷ rest) (append-nil d)

  pub text-is : script_text (record { setups = stations sectors; events = [] }) ≡ codes "life 2000\nshelf s 1 02:00:00:00:00:01 1500\nslot s 0 "
      ++ (decimal sectors ++ 10 ∷ behind)
  unfolding digits
  text-is = ap (λ t. codes "life 2000\nshelf s 1 02:00:00:00:00:01 1500\nslot s 0 " ++ t) (end-is (decimal sectors) behind)

abbrev pub setups-text : ℕ → List ℕ
setups-text sectors = flat_map (λ (setup : Setup). line_text (setup_words setup)) (stations sectors)

pub stations-short : (sectors : ℕ) → sectors ≤ 65536 → length (setups-text sectors) ≤ 70000
stations-short sectors most =
    let all = ap length (text-is sectors) in
    let digits = length-decimal-le_succ sectors (omega (arith, most)) in
    omega (arith, all, digits, most, length-append (decimal sectors) (10 ∷ behind sectors), length-append (setups-text sectors) [])
