-- A request that reads an empty config string.
use Rattle.std.proofs.Common.{◌≡◌, ◌≤◌, ◌%◌, ◌+◌, ℕ, List, [], ◌∷◌, ◌++◌, length, refl, ap, ◌∙◌}
use Rattle.std.specs.Prelude.{slice_index}
use Rattle.std.specs.Int.{w16, to_be_bytes}
use Rattle.std.proofs.lemmas.Bool.{le-leb}
use Rattle.std.proofs.lemmas.List.{nil_from_length}
use Rattle.aoe_lists.specs.declared.config.ConfigCommand.TheVariants.{Read}
use Rattle.aoe_lists.specs.declared.config.Facts.{Facts}
use Rattle.aoe_lists.specs.Config.{config_answer, config_args, config_code}
use Rattle.aoe_lists.specs.Settings.{Settings}
use Rattle.aoe_lists.specs.Step.{reply_of}

read_of : (s : Settings) (facts : Facts) (bytes : List ℕ) → 8 ≤ length bytes → slice_index bytes 5 % 16 ≡ 0
    → config_answer s facts bytes ≡ reply_of (config_args facts Read s.config)
unfolding config_answer
read_of s facts bytes long read = rw (le-leb 8 (length bytes) long, read) refl

pub read_of_empty : (s : Settings) (facts : Facts) (bytes args : List ℕ) → length s.config ≡ 0 → 8 ≤ length bytes → slice_index bytes 5 % 16 ≡ 0
    → args ≡ to_be_bytes w16 facts.buffers ++ to_be_bytes w16 facts.firmware ++ (facts.max ∷ (16 + config_code Read) ∷ []) ++ to_be_bytes w16 0
    → config_answer s facts bytes ≡ reply_of args
read_of_empty s facts bytes args none long read args_are =
    read_of s facts bytes long read ∙ ap reply_of (rw (nil_from_length s.config none, args_are) refl)
