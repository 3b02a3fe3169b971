-- Spans of sectors.
use Rattle.std.specs.Prelude.{ℕ, ◌+◌, ◌-◌, ◌<◌, ◌≤◌, ◌&&◌, Bool, max, nat_lt}
use Rattle.aoe_base.specs.declared.sectors.Span.{Span}

-- the sector is one of the span
abbrev pub IsSectorOf : Span → ℕ → Type 0
IsSectorOf span sector = (span.at ≤ sector) × (sector < span.at + span.count)

-- a sector lies in both spans
abbrev pub Overlap : Span → Span → Type 0
Overlap a b = (sector : ℕ) × IsSectorOf a sector × IsSectorOf b sector

-- the same as a test of one sector, the later of the two first ones
abbrev pub overlap : Span → Span → Bool
overlap a b = nat_lt (max a.at b.at - a.at) a.count && nat_lt (max a.at b.at - b.at) b.count
