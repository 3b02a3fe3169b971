-- What a loss of power leaves of a disk in memory.
use Rattle.std.specs.Prelude.{◌≡◌, ◌+◌, ◌%◌, ◌==◌, ◌++◌, ◌^◌, ℕ, Bool, true, false, List, length, take, drop, if◌then◌else◌}
use Rattle.aoe_disk.specs.State.{sector, is_loose, spoiled_sector}
use Rattle.aoe_disk.specs.declared.loss.Loss.{Loss}
use Rattle.aoe_disk.specs.declared.loss.Loss.TheVariants.{Keep, Old, Torn, Mix}

-- the first half of a sector now, and the second half as it was at the last sync
unfoldable pub torn : List ℕ → List ℕ → List ℕ
torn now settled = take 256 now ++ drop 256 settled

-- the four things that can become of a loose sector, in their order
abbrev pub mixed : ℕ → List ℕ → List ℕ → List ℕ
mixed choice now settled =
    if choice == 0 then now
    else if choice == 1 then settled
    else if choice == 2 then torn now settled
    else spoiled_sector

-- what is left of sector s, if it is loose, of its bytes now and at the last sync
abbrev pub left_of : Loss → ℕ → List ℕ → List ℕ → List ℕ
left_of Keep s now settled = now
left_of Old s now settled = settled
left_of Torn s now settled = torn now settled
left_of (Mix x) s now settled = mixed ((x + s) % 2 ^ 64 % 4) now settled

-- the image that is left, sector by sector
pub record IsLeft (how : Loss) (now settled : List ℕ) (loose : List Bool) (image : List ℕ) : Type 0 where
  pub size : length image ≡ length now
  pub kept : (s : ℕ) → is_loose loose s ≡ false → sector image s ≡ sector now s
  pub lost : (s : ℕ) → is_loose loose s ≡ true → sector image s ≡ left_of how s (sector now s) (sector settled s)
