use Rattle.std.proofs.Common.{◌≡◌, ◌≤◌, ◌+◌, ◌*◌, ℕ, List, length, take, drop}
use Rattle.aoe_cache.specs.Held.{count_below, held_of, laid_over}
use Rattle.aoe_cache.proofs.buffer.Buffer.lay_over.Given as goal

abbrev pub invariant-sectors : goal.invariant-sectors
invariant-sectors l = (bytes : List ℕ) → 512 * l.at + length l.fn.out ≤ length bytes
    → l.fn.out ≡ take (length l.fn.out) (drop (512 * l.at) bytes)
    → l.out ≡ take (length l.fn.out) (drop (512 * l.at) (laid_over bytes (take (count_below (l.at + l.i) (held_of l.self)) (held_of l.self))))
