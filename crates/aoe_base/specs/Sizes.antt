-- The sizes that several crates agree on.
use Rattle.std.specs.Prelude.{ℕ}

-- the most bytes of a frame without its check sequence: an Ethernet header of 14, an 802.1Q tag of 4, and the 9,000 of a jumbo frame
abbrev pub longest_frame : ℕ
longest_frame = 9018

-- the longest lifetime of a frame, in milliseconds: ten minutes, a limit of this program
abbrev pub longest_lifetime : ℕ
longest_lifetime = 600000

-- the most commands that a host can have flying or resting, a limit of this program
abbrev pub most_room : ℕ
most_room = 131072

-- the most sectors of a short copy, which memory holds whole: 16 MiB, a limit of this program
abbrev pub most_copied : ℕ
most_copied = 32768

-- the most sectors that a cache holds, 32 MiB, a limit of this program
abbrev pub most_cached : ℕ
most_cached = 65536

-- the most sectors of a disk that memory stands for in a simulation, 32 MiB, a limit of this program
abbrev pub most_simulated : ℕ
most_simulated = 65536

-- the most frames of a stream that a run takes, as many as 32 bits count, a limit of this program
abbrev pub most_streamed : ℕ
most_streamed = 4294967295

-- the bytes in which a cache writes down and a mirror compares: 64 sectors, whatever memory a target has
abbrev pub scratch_bytes : ℕ
scratch_bytes = 32768
