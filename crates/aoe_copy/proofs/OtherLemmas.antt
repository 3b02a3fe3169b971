-- The first sector that came back with other bytes.
use Rattle.std.proofs.Common.{ℕ, ◌≡◌, ◌≢◌, ◌+◌, ◌-◌, ◌*◌, ◌/◌, ◌%◌, ◌<◌, ◌≤◌, true, false, not, List, length, take, drop, refl, sym, ◌∙◌, arith}
use Rattle.std.specs.Str.{bytes_eq}
use Rattle.std.proofs.Math.Seq.{take-add}
use Rattle.std.proofs.lemmas.Bool.{not-true, not-false}
use Rattle.std.proofs.lemmas.List.{take_all}
use Rattle.std.proofs.lemmas.Slice.Eq.{bytes_eq-Decides}
use Rattle.aoe_copy.specs.Again.{sector_at, IsFirstOther}

module _ (sent back : List ℕ) (k : ℕ) where
  -- the sectors before this one came back as they were sent
  abbrev pub AreSame : Type 0
  AreSame = take (512 * k) back ≡ take (512 * k) sent

  pub same-one : not (bytes_eq (sector_at back k) (sector_at sent k)) ≡ false → sector_at back k ≡ sector_at sent k
  same-one e = (bytes_eq-Decides (sector_at back k) (sector_at sent k)).0 (not-false (bytes_eq (sector_at back k) (sector_at sent k)) e)

  pub other-one : not (bytes_eq (sector_at back k) (sector_at sent k)) ≡ true → sector_at back k ≢ sector_at sent k
  other-one e = λ same.
      let equal = (bytes_eq-Decides (sector_at back k) (sector_at sent k)).1 same in
      let differ = not-true (bytes_eq (sector_at back k) (sector_at sent k)) e in
      absurd (let not_so : true ≡ false = sym equal ∙ differ in cc)

  -- this one, too
  pub same-more : AreSame → sector_at back k ≡ sector_at sent k → take (512 * (k + 1)) back ≡ take (512 * (k + 1)) sent
  same-more same one =
      let next : 512 * (k + 1) ≡ 512 * k + 512 = omega arith in
      let size : 512 * k + 512 - 512 * k ≡ 512 = omega arith in
      let piece : take 512 (drop (512 * k) back) ≡ take 512 (drop (512 * k) sent) = rw size at one in
      rw (next, take-add (512 * k) 512 back, take-add (512 * k) 512 sent, same, piece) refl

  -- it is the first that didn't
  pub first-other : AreSame → k < length sent / 512 → sector_at back k ≢ sector_at sent k → IsFirstOther 0 sent back k
  first-other same below other = record { k = k; sector_is = omega arith; within = omega (arith, below); other = other; same = same }

  -- and these are all
  pub all-same : AreSame → length back ≡ length sent → length sent % 512 ≡ 0 → k ≡ length sent / 512 → back ≡ sent
  all-same same long whole is =
      let end : length sent ≤ 512 * k = omega (arith, is, whole) in
      sym (take_all (512 * k) back (omega (arith, end, long))) ∙ same ∙ take_all (512 * k) sent end
