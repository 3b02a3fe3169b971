-- Which bytes are frames.
use Rattle.std.specs.Prelude.{ℕ, Bool, List, length, nat_le, slice_index, ◌&&◌, ◌==◌}
use Rattle.aoe_base.specs.Sizes.{longest_frame}

-- a frame of at most 9018 bytes whose type is that of AoE, 0x88A2 (AoEr11, "Common AoE header")
abbrev pub is_aoe : List ℕ → Bool
is_aoe f = nat_le (length f) longest_frame && nat_le 14 (length f) && (slice_index f 12 == 136) && (slice_index f 13 == 162)
