-- Bytes as runs of equal ones.
use Rattle.std.specs.Prelude.{ℕ, ◌+◌, ◌==◌, ◌<◌, ◌≡◌, ◌≢◌, List, [], ◌∷◌, if◌then◌else◌, replicate, ⊤}
use Rattle.std.specs.List.{flat_map}

-- so many equal bytes, one after the other
pub record Run : Type 0 where
  pub byte : ℕ
  pub count : ℕ

-- one more byte in front: it makes the first run longer, or is a run of its own
abbrev pub led_by : ℕ → List Run → List Run
led_by byte [] = record { byte = byte; count = 1 } ∷ []
led_by byte (run ∷ runs) =
    if run.byte == byte then record { byte = byte; count = run.count + 1 } ∷ runs else record { byte = byte; count = 1 } ∷ run ∷ runs

-- the longest runs of which bytes are made
abbrev pub longest_runs : List ℕ → List Run
longest_runs [] = []
longest_runs (byte ∷ bytes) = led_by byte (longest_runs bytes)

-- each run has a byte, and no run could have more: the next has another byte
abbrev pub AreLongest : List Run → Type 0
AreLongest [] = ⊤
AreLongest (run ∷ []) = 0 < run.count
AreLongest (run ∷ other ∷ runs) = (0 < run.count) × (run.byte ≢ other.byte) × AreLongest (other ∷ runs)

-- they are those of the bytes
pub record AreRunsOf (bytes : List ℕ) (runs : List Run) : Type 0 where
  pub whole : flat_map (λ run. replicate run.count run.byte) runs ≡ bytes
  pub longest : AreLongest runs
