-- Which sectors are copied, and which of them each command asks for.
use Rattle.std.specs.Prelude.{ℕ, zero, suc, ◌+◌, ◌-◌, min, Option, unwrap_or}
use Rattle.aoe_base.specs.declared.sectors.Span.{Span}
use Rattle.aoe_tools.specs.declared.lookup.Device.{Device}
use Rattle.aoe_copy.specs.declared.plan.Plan.{Plan}

-- how many sectors are copied: a number, or all behind the first one
abbrev pub wanted : Device → ℕ → Option ℕ → ℕ
wanted d at count = unwrap_or count (d.total - at)

abbrev pub plan_of : Device → ℕ → Option ℕ → Plan
plan_of d at count = record { at = at; count = wanted d at count; max = d.max }

-- how many sectors the first n commands ask for: each for as many as a command may have, the last for those that are left
abbrev pub reach : Plan → ℕ → ℕ
reach p zero = 0
reach p (suc n) = reach p n + min p.max (p.count - reach p n)

-- the sectors that the command behind n others asks for
abbrev pub span_at : Plan → ℕ → Span
span_at p n = record { at = p.at + reach p n; count = min p.max (p.count - reach p n) }
