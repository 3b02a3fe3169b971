-- How far a part is.
use Rattle.std.specs.Prelude.{ℕ, Bool, true, false, List, nat_eq, slice_index_or}
use Rattle.aoe_block.specs.declared.stage.Stage.{Stage}
use Rattle.aoe_block.specs.declared.stage.Stage.TheVariants.{Pending, Handed, Ended, Failed}

abbrev pub is_pending : Stage → Bool
is_pending Pending = true
is_pending (Handed ticket) = false
is_pending Ended = false
is_pending Failed = false

abbrev pub is_under_way : Stage → Bool
is_under_way Pending = false
is_under_way (Handed ticket) = true
is_under_way Ended = false
is_under_way Failed = false

-- under way as the command with a ticket
abbrev pub is_handed : ℕ → Stage → Bool
is_handed ticket Pending = false
is_handed ticket (Handed own) = nat_eq own.0 ticket
is_handed ticket Ended = false
is_handed ticket Failed = false

abbrev pub is_ended : Stage → Bool
is_ended Pending = false
is_ended (Handed ticket) = false
is_ended Ended = true
is_ended Failed = false

abbrev pub is_failed : Stage → Bool
is_failed Pending = false
is_failed (Handed ticket) = false
is_failed Ended = false
is_failed Failed = true

-- the stage of the k-th part
abbrev pub stage_at : List Stage → ℕ → Stage
stage_at stages k = slice_index_or stages k Pending
