-- What a file may hold that is to be a keep: zeros, or slots that were written.
use Rattle.std.specs.Prelude.{ℕ, ◌==◌, Bool, ◌||◌, nat_eq, List, take, drop, get_or}
use Rattle.std.specs.List.{list_all, starts_with}
use Rattle.aoe_keep.specs.Body.{name}

-- a slot's gate is open, or its body begins with `AoEK`
abbrev pub begins_slot : List ℕ → Bool
begins_slot slot = get_or (take 512 slot) 0 0 == 0xa7 || starts_with nat_eq (drop 512 slot) name

-- of the two slots one was written, or all bytes are zero
abbrev pub may_hold_keep : List ℕ → Bool
may_hold_keep image = begins_slot (take 4096 image) || (begins_slot (drop 4096 image) || list_all (λ b. b == 0) image)
