-- What a host is made with where its user has no reason for other numbers.
use Rattle.std.specs.Prelude.{ℕ}
use Rattle.aoe_base.specs.declared.counted.Lifetimes.{Lifetimes}

-- how long a frame can arrive, by its kind, in milliseconds
abbrev pub default_life : Lifetimes
default_life = record { requests = record { 0 = 2000 }; responses = record { 0 = 2000 } }

-- how many commands fly or rest at most; `most_room` of them can at all
abbrev pub default_room : ℕ
default_room = 4096

-- after how many milliseconds a command is given up
abbrev pub default_dead : ℕ
default_dead = 180000
