-- The words of a submission say what it asks.
use Rattle.std.proofs.Common.{◌≡◌, ◌^◌, ◌<◌, ◌≤◌, ◌==◌, ℕ, zero, suc, Bool, true, false, List, [], ◌∷◌, length, Some, nat_le, refl, arith}
use Rattle.std.specs.Prelude.{All, if◌then◌else◌}
use Rattle.std.proofs.lemmas.Bool.{and_parts}
use Rattle.std.proofs.lemmas.Bool.Decides.{nat_tests}
use Rattle.arrayvec.specs.ArrayVec.{ArrayVec}
use Rattle.aoe_base.specs.declared.address.Mac.{Mac}
use Rattle.aoe_base.specs.declared.address.TargetId.{TargetId}
use Rattle.aoe_lists.specs.declared.dir.Dir.{Dir}
use Rattle.aoe_script.specs.declared.event.Event.TheVariants.{Read, Write, Flush, Identify, Config, Masks, Reserve}
use Rattle.aoe_script.specs.declared.line.Line.TheVariants.{Asks}
use Rattle.aoe_script.specs.Classes.{ccmd_of, is_name, rcmd_of}
use Rattle.aoe_script.specs.Forms.{said}
use Rattle.aoe_script.specs.Print.{ccmd_text, event_words, rcmd_text}
use Rattle.aoe_script.specs.Rules.{is_device, is_within}
use Rattle.aoe_script.specs.Types.{IsAddress, IsByte}
use Rattle.aoe_script.proofs.ListedLemmas.{AddressLaw, dirs_back, dirs_word, list_back_of, list_word_of}
use Rattle.aoe_script.proofs.NamedLemmas.{DeviceLaw, device_back, device_word, name_back, name_word}
use Rattle.aoe_script.proofs.PlainLemmas.{is_word}
use Rattle.aoe_script.proofs.SaidLemmas.{IsSaid}
use Rattle.aoe_script.proofs.WrittenLemmas.{byte_back, byte_word, bytes_back, bytes_word, number_is, number_word}

module _ (law : AddressLaw) (devices : DeviceLaw)
    (host : ArrayVec ℕ) (dev : TargetId) (named : is_name host ≡ true) (known : is_device dev ≡ true) where
  pub read_is : (at count : ℕ) → at < 2 ^ 64 → count < 2 ^ 64 → IsSaid (event_words (Read host dev at count)) (Asks (Read host dev at count))
  unfolding said
  read_is at count low few =
      rw (name_back host named, device_back devices dev known, number_is at low, number_is count few)
      (rw (name_word host named, device_word dev known, number_word at low, number_word count few) refl)

  pub write_is : (at count fill : ℕ) → at < 2 ^ 64 → count < 2 ^ 64 → IsByte fill
      → IsSaid (event_words (Write host dev at count fill)) (Asks (Write host dev at count fill))
  unfolding said
  write_is at count fill low few byte =
      rw (name_back host named, device_back devices dev known, number_is at low, number_is count few, byte_back fill byte)
      (rw (name_word host named, device_word dev known, number_word at low, number_word count few, byte_word fill byte) refl)

  pub flush_is : IsSaid (event_words (Flush host dev)) (Asks (Flush host dev))
  unfolding said
  flush_is = rw (name_back host named, device_back devices dev known, name_word host named, device_word dev known) refl

  pub identify_is : IsSaid (event_words (Identify host dev)) (Asks (Identify host dev))
  unfolding said
  identify_is = rw (name_back host named, device_back devices dev known, name_word host named, device_word dev known) refl

  -- ---- actions on the lists of a device

  config_with : (ccmd : ℕ) (text : List ℕ) → ccmd_of (ccmd_text ccmd) ≡ Some ccmd → is_word (ccmd_text ccmd) ≡ true → (ccmd == 0) ≡ false → All IsByte text
      → IsSaid (event_words (Config host dev ccmd text)) (Asks (Config host dev ccmd text))
  unfolding said
  config_with ccmd text back word some small =
      rw (back, word, some, name_back host named, device_back devices dev known, bytes_back text small)
      (rw (name_word host named, device_word dev known, bytes_word text small) refl)

  pub config_is : (ccmd : ℕ) (text : List ℕ) → nat_le ccmd 4 ≡ true → nat_le (length text) (if ccmd == 0 then 0 else 1024) ≡ true → All IsByte text
      → IsSaid (event_words (Config host dev ccmd text)) (Asks (Config host dev ccmd text))
  unfolding said
  config_is zero [] e few small = rw (name_back host named, device_back devices dev known, name_word host named, device_word dev known) refl
  config_is zero (b ∷ text) e few small = absurd (grind (arith, nat_tests))
  config_is (suc zero) text e few small = config_with 1 text refl refl refl small
  config_is (suc (suc zero)) text e few small = config_with 2 text refl refl refl small
  config_is (suc (suc (suc zero))) text e few small = config_with 3 text refl refl refl small
  config_is (suc (suc (suc (suc zero)))) text e few small = config_with 4 text refl refl refl small
  config_is (suc (suc (suc (suc (suc n))))) text e few small = absurd (grind (arith, nat_tests))

  pub masks_is : (edit : Bool) (dirs : List Dir) → is_within (if edit then 1 else 0) (if edit then 64 else 0) (length dirs) ≡ true
      → All (λ dir. IsAddress dir.mac) dirs
      → IsSaid (event_words (Masks host dev edit (record { items = dirs }))) (Asks (Masks host dev edit (record { items = dirs })))
  unfolding said
  masks_is false [] e fits = rw (name_back host named, device_back devices dev known, name_word host named, device_word dev known) refl
  masks_is false (dir ∷ dirs) e fits = absurd (grind (arith, nat_tests))
  masks_is true dirs e fits =
      let h = and_parts (nat_le 1 (length dirs)) (nat_le (length dirs) 64) e in
      let some : 0 < length dirs = grind (arith, nat_tests) in
      let most : length dirs ≤ 64 = grind (arith, nat_tests) in
      rw (name_back host named, device_back devices dev known, dirs_back law dirs some most fits)
      (rw (name_word host named, device_word dev known, dirs_word law dirs some fits) refl)

  reserve_with : (rcmd : ℕ) (list : List Mac) → rcmd_of (rcmd_text rcmd) ≡ Some rcmd → is_word (rcmd_text rcmd) ≡ true → (rcmd == 0) ≡ false → length list ≤ 64
      → All IsAddress list
      → IsSaid (event_words (Reserve host dev rcmd (record { items = list }))) (Asks (Reserve host dev rcmd (record { items = list })))
  unfolding said
  reserve_with rcmd list back word some most fits =
      rw (back, word, some, name_back host named, device_back devices dev known, list_back_of law list most fits)
      (rw (name_word host named, device_word dev known, list_word_of law list fits) refl)

  pub reserve_is : (rcmd : ℕ) (list : List Mac) → nat_le rcmd 2 ≡ true → nat_le (length list) (if rcmd == 0 then 0 else 64) ≡ true → All IsAddress list
      → IsSaid (event_words (Reserve host dev rcmd (record { items = list }))) (Asks (Reserve host dev rcmd (record { items = list })))
  unfolding said
  reserve_is zero [] e few fits = rw (name_back host named, device_back devices dev known, name_word host named, device_word dev known) refl
  reserve_is zero (mac ∷ list) e few fits = absurd (grind (arith, nat_tests))
  reserve_is (suc zero) list e few fits = reserve_with 1 list refl refl refl (grind (arith, nat_tests)) fits
  reserve_is (suc (suc zero)) list e few fits = reserve_with 2 list refl refl refl (grind (arith, nat_tests)) fits
  reserve_is (suc (suc (suc n))) list e few fits = absurd (grind (arith, nat_tests))
